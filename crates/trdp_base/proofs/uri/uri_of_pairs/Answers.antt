use Rattle.std.proofs.Common.{subst, sym, ◌∙◌}
use Rattle.trdp_base.specs.Uris.{IsUri}
use Rattle.trdp_base.proofs.HexLemmas.{pairs_alone}
use Rattle.trdp_base.proofs.UriLemmas.{if_none}
use Rattle.trdp_base.proofs.uri.uri_of_pairs.Goals as goal

pub returns-clause-none : goal.returns-clause-none
returns-clause-none c =
    let read = c.fill_from_pairs.ensures in
    if_none c.new.result (λ none uri good fits e.
    none (c.new.ensures.valid.1
    (subst IsUri (pairs_alone uri _ fits read.bytes (e ∙ sym read.pairs)) good)))
