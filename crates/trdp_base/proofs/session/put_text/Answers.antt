use Rattle.std.proofs.Common.{ap, sym, ◌∙◌, length}
use Rattle.std.specs.Prelude.{Some}
use Rattle.uuid.specs.Text.{hyphenated_text, lower}
use Rattle.trdp_base.specs.SessionText.{text_of_session}
use Rattle.trdp_base.proofs.SessionLemmas.{read_back, length-text_of_session}
use Rattle.trdp_base.proofs.session.put_text.Goals as goal

pub returns-clause-text : goal.returns-clause-text
unfolding text_of_session
returns-clause-text c = c.encode_lower.ensures.text
    ∙ ap (hyphenated_text lower) (c.hyphenated.ensures ∙ c.from_u128.ensures)

pub returns-clause-length : goal.returns-clause-length
returns-clause-length c = ap length (returns-clause-text c) ∙ length-text_of_session c.args.id

pub returns-clause-back : goal.returns-clause-back
returns-clause-back c =
    read_back _ c.args.id c.ranges.id.fits
    (ap Some (sym (c.hyphenated.ensures ∙ c.from_u128.ensures)) ∙ c.encode_lower.ensures.parsed)
