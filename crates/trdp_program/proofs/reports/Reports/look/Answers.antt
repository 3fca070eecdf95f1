use Rattle.std.proofs.Common.{ap, ◌∙◌}
use Rattle.trdp_program.proofs.LookLemmas.{text_both}
use Rattle.trdp_program.proofs.ReportLemmas.{count_text, looks}
use Rattle.trdp_program.specs.declared.reports.Reports.{Reports}
use Rattle.trdp_program.proofs.reports.Reports.look.Goals as goal

pub returns-clause-told : goal.returns-clause-told
returns-clause-told g c = λ late.
    looks c.tell_lost.ensures.told c.tell_unread.ensures.told c.tell_missing.ensures.appends
    (ap (λ (r : Reports). r.lost) c.tell_missing.ensures.kept
    ∙ ap (λ (r : Reports). r.lost) c.tell_unread.ensures.kept)
    (ap (λ (r : Reports). r.unread) c.tell_lost.ensures.kept)
    (ap (λ (r : Reports). r.unread) c.tell_missing.ensures.kept)

pub returns-clause-appends : goal.returns-clause-appends
returns-clause-appends g c =
    text_both _ _ _ (count_text _ _ _ _ _ _ _ _ c.tell_lost.ensures.told)
    (text_both _ _ _ (count_text _ _ _ _ _ _ _ _ c.tell_unread.ensures.told)
    c.tell_missing.ensures.appends)
