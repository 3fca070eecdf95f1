-- What is handed in over several calls.
-- For `Path`.
-- By: what comes next after what comes next is what comes next of both.
use Rattle.std.proofs.Common.{◌≡◌, ◌++◌, List, [], Option, Some, None, ap, sym, ◌∙◌}
use Rattle.std.proofs.Common.{append_assoc}
use Rattle.std.proofs.lemmas.List.{append-nil}
use Rattle.trdp_base.specs.Reported.{TellsMore}
use Rattle.trdp_lines.specs.Connections.{ConnectionCall}
use Rattle.trdp_lines.specs.Said.{Said, HandsIn, applications_say}
use Rattle.trdp_lines.proofs.CallLemmas.{AreQuiet, quiet_say}

-- what is handed in first, and what is handed in after it
pub both_handed_in : (says : List ConnectionCall → List Said)
    (old between new : Option (List ConnectionCall))
    (left left_between left_then first next : List Said)
    → HandsIn says old between left left_between first
    → HandsIn says between new left_between left_then next
    → HandsIn says old new left left_then (first ++ next)
both_handed_in says old between None left left_between left_then first next before behind = tt
both_handed_in says old None (Some new) left left_between left_then first next before behind =
    absurd behind
both_handed_in says None (Some between) (Some new) left left_between left_then first next before
    behind = absurd before
both_handed_in says (Some old) (Some between) (Some new) left left_between left_then first next
    before behind = λ front is. behind (front ++ first) (before front is)
    ∙ ap (λ (l : List Said). l ++ left_then) (append_assoc front first next)

-- where nothing was asked, a front of what is left is handed in
pub front_handed_in : (says : List ConnectionCall → List Said)
    (calls : Option (List ConnectionCall)) (left left_then handed_in : List Said)
    → left ≡ handed_in ++ left_then → HandsIn says calls calls left left_then handed_in
front_handed_in says None left left_then handed_in split = tt
front_handed_in says (Some calls) left left_then handed_in split = λ front is.
    is ∙ ap (λ (l : List Said). front ++ l) split ∙ sym (append_assoc front handed_in left_then)

-- where all say what they said, nothing is handed in
pub none_handed_in : (says : List ConnectionCall → List Said) (old new : List ConnectionCall)
    (left : List Said) → says new ≡ says old → HandsIn says (Some old) (Some new) left left []
none_handed_in says old new left same = λ front is.
    same ∙ is ∙ ap (λ (l : List Said). l ++ left) (sym (append-nil front))

-- calls by which nothing came hand in nothing
pub quiet_handed_in : (old new : Option (List ConnectionCall)) (more : List ConnectionCall)
    (left : List Said) → AreQuiet more → TellsMore old new more
    → HandsIn applications_say old new left left []
quiet_handed_in old None more left quiet told = tt
quiet_handed_in None (Some new) more left quiet told = absurd told
quiet_handed_in (Some old) (Some new) more left quiet told =
    none_handed_in applications_say old new left
    (ap applications_say told ∙ quiet_say old more quiet)
