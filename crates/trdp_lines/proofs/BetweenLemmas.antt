-- Calls that may be reported, one after the other.
-- For all that is known of them.
-- By: cases on which calls are reported; what is among calls is among those of one part.
use Rattle.std.proofs.Common.{◌≡◌, ◌||◌, ◌++◌, List, [], true, false, Bool, Option, Some, None}
use Rattle.std.proofs.Common.{ap, sym, ◌∙◌, append_assoc}
use Rattle.std.specs.List.{list_any}
use Rattle.std.proofs.lemmas.Bool.{or_left, or_right}
use Rattle.std.proofs.lemmas.List.{append-nil}
use Rattle.std.proofs.lemmas.List.Folds.{list_any-append}
use Rattle.trdp_base.specs.Reported.{TellsMore}
use Rattle.trdp_lines.specs.Connections.{Between, ConnectionCall, IfTold}
use Rattle.trdp_lines.proofs.CallLemmas.{or_false}

-- nothing was asked
pub tells_nothing : (calls : Option (List ConnectionCall)) → TellsMore calls calls []
tells_nothing None = tt
tells_nothing (Some calls) = sym (append-nil calls)

-- calls that are reported one after the other
pub told_next : (one two three : Option (List ConnectionCall)) (first second : List ConnectionCall)
    → TellsMore one two first → TellsMore two three second
    → TellsMore one three (first ++ second)
told_next one None None first second before behind = tt
told_next one None (Some three) first second before behind = absurd behind
told_next one (Some two) None first second before behind = tt
told_next None (Some two) (Some three) first second before behind = absurd before
told_next (Some one) (Some two) (Some three) first second before behind =
    behind ∙ ap (λ (calls : List ConnectionCall). calls ++ second) before
    ∙ append_assoc one first second

-- what holds between calls to which these were added
pub between : (R : List ConnectionCall → List ConnectionCall → Type 0)
    (calls calls_then : Option (List ConnectionCall)) (more : List ConnectionCall)
    → TellsMore calls calls_then more
    → ((old new : List ConnectionCall) → new ≡ old ++ more → R old new)
    → Between R calls calls_then
between R calls None more told f = tt
between R None (Some new) more told f = absurd told
between R (Some old) (Some new) more told f = f old new told

-- what is known then
pub known_then : (P Q : List ConnectionCall → Type 0) (calls calls_then : Option (List ConnectionCall))
    (more : List ConnectionCall) → TellsMore calls calls_then more → IfTold P calls
    → ((old new : List ConnectionCall) → new ≡ old ++ more → P old → Q new) → IfTold Q calls_then
known_then P Q calls None more told known f = tt
known_then P Q None (Some new) more told known f = absurd told
known_then P Q (Some old) (Some new) more told known f = f old new told known

-- what is known then, by what holds between the calls
pub known_between : (P Q : List ConnectionCall → Type 0)
    (R : List ConnectionCall → List ConnectionCall → Type 0)
    (calls calls_then : Option (List ConnectionCall)) → Between R calls calls_then → IfTold P calls
    → ((old new : List ConnectionCall) → R old new → P old → Q new) → IfTold Q calls_then
known_between P Q R calls None holds known f = tt
known_between P Q R None (Some new) holds known f = absurd holds
known_between P Q R (Some old) (Some new) holds known f = f old new holds known

-- what follows from what holds between calls
pub between_then : (R S : List ConnectionCall → List ConnectionCall → Type 0)
    (calls calls_then : Option (List ConnectionCall)) → Between R calls calls_then
    → ((old new : List ConnectionCall) → R old new → S old new) → Between S calls calls_then
between_then R S calls None holds f = tt
between_then R S None (Some new) holds f = absurd holds
between_then R S (Some old) (Some new) holds f = f old new holds

-- what holds between calls, and after that between others
pub between_next : (R S T : List ConnectionCall → List ConnectionCall → Type 0)
    (one two three : Option (List ConnectionCall)) → Between R one two → Between S two three
    → ((a b c : List ConnectionCall) → R a b → S b c → T a c) → Between T one three
between_next R S T one two None first second f = tt
between_next R S T one None (Some three) first second f = absurd second
between_next R S T None (Some two) (Some three) first second f = absurd first
between_next R S T (Some one) (Some two) (Some three) first second f =
    f one two three first second

-- what is among the first calls is among all
pub among_first : (p : ConnectionCall → Bool) (first second : List ConnectionCall)
    → list_any p first ≡ true → list_any p (first ++ second) ≡ true
among_first p first second some =
    list_any-append p first second ∙ or_left (list_any p first) (list_any p second) some

-- what is among the second calls is among all
pub among_second : (p : ConnectionCall → Bool) (first second : List ConnectionCall)
    → list_any p second ≡ true → list_any p (first ++ second) ≡ true
among_second p first second some =
    list_any-append p first second ∙ or_right (list_any p first) (list_any p second) some

-- what is not among the first calls is among all if it is among the second
pub among_none : (p : ConnectionCall → Bool) (first second : List ConnectionCall)
    → list_any p first ≡ false → list_any p (first ++ second) ≡ list_any p second
among_none p first second none =
    list_any-append p first second ∙ ap (λ (b : Bool). b || list_any p second) none

-- what is not among the second calls is among all if it is among the first
pub among_once : (p : ConnectionCall → Bool) (first second : List ConnectionCall)
    → list_any p second ≡ false → list_any p (first ++ second) ≡ list_any p first
among_once p first second none =
    list_any-append p first second ∙ ap (λ (b : Bool). list_any p first || b) none
    ∙ or_false (list_any p first)
