use Rattle.std.proofs.Common.{length, arith, ap, sym, ◌∙◌, subst}
use Rattle.std.specs.Prelude.{All}
use Rattle.trdp_base.specs.Uris.{before_zero, uri_field}
use Rattle.trdp_base.proofs.UriLemmas.{NoZero, length-before_zero, no_zero_before}
use Rattle.trdp_base.proofs.UriLemmas.{field_of_front, field_back}
use Rattle.trdp_base.proofs.uri.Uri.from_field.Goals as goal

pub put_front-requires : goal.put_front-requires
put_front-requires c =
    omega (arith, length-before_zero c.args.field.now, ap length c.front.ensures, c.requires)

pub invariant_of-result : goal.invariant_of-result
invariant_of-result c =
    let bytes = c.front.result.now in
    let sound = subst (All NoZero) (sym c.front.ensures) (no_zero_before c.args.field.now) in
    let whole = c.put_front.ensures ∙ field_of_front bytes (omega
    (arith, length-before_zero c.args.field.now, ap length c.front.ensures, c.requires)) in
    ap (λ l. uri_field (before_zero l)) whole ∙ ap uri_field (field_back bytes sound) ∙ sym whole

pub returns : goal.returns
returns c =
    let bytes = c.front.result.now in
    let sound = subst (All NoZero) (sym c.front.ensures) (no_zero_before c.args.field.now) in
    let whole = c.put_front.ensures ∙ field_of_front bytes (omega
    (arith, length-before_zero c.args.field.now, ap length c.front.ensures, c.requires)) in
    ap before_zero whole ∙ field_back bytes sound ∙ c.front.ensures
