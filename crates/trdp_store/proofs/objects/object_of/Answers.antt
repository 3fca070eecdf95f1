use Rattle.std.proofs.Common.{◌∙◌, sym, ap}
use Rattle.std.specs.Prelude.{option_map, option_copied}
use Rattle.trdp_store.proofs.StoreLemmas.Slots.{none_found, object_found}
use Rattle.trdp_store.proofs.objects.object_of.Goals as goal

pub returns-in_err-key : goal.returns-in_err-key
returns-in_err-key c =
    ap option_copied c.from_residual.ensures
    ∙ sym (ap (option_map (λ entry. entry.object))
    (none_found c.args.store.now c.args.s c.args.handle c.in_err-key.ensures))

pub returns : goal.returns
returns c =
    c.get.ensures
    ∙ object_found c.args.store.now c.args.s c.args.handle
    c.in_ok-key.key c.sound.ensures.found c.in_ok-key.ensures
