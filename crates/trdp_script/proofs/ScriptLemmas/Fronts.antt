-- The first lines of a script, and those after them.
-- For all other `ScriptLemmas`.
-- By induction on the first lines, which have no fault.
use Rattle.std.proofs.Common.{◌≡◌, suc, ◌+◌, ℕ, cond, false, List, [], ◌∷◌, ◌++◌, length}
use Rattle.std.proofs.Common.{take, drop, Some, None, Ok, Err, Option, Result, refl, sym, ◌∙◌, ap}
use Rattle.std.proofs.Common.{arith, append_assoc, subst, take-append-drop}
use Rattle.std.specs.Prelude.{◌==◌, slice_get}
use Rattle.std.proofs.lemmas.List.Elements.{All-head, All-tail}
use Rattle.std.proofs.lemmas.List.Sums.{sum_by-append, sum_by-cons}
use Rattle.trdp_model.specs.Events.{EventModel}
use Rattle.trdp_model.specs.NodeModels.{NodeModel}
use Rattle.trdp_text.specs.declared.fault.LineFault.{LineFault}
use Rattle.trdp_text.specs.Lines.{line_of}
use Rattle.trdp_script.specs.Pieces.{IsBare, ended_lines}
use Rattle.trdp_text.specs.EventText.{event_text}
use Rattle.trdp_script.specs.ScriptText.{after_line, events_of, events_text}
use Rattle.trdp_script.specs.ScriptText.{fault_from, fault_or}
use Rattle.trdp_model.specs.NodeModels.{node_after, nodes_after}
use Rattle.trdp_script.specs.Wants.{IsThereAndMayWant, NextMayWant}

pub nodes_append : (node : NodeModel) (xs ys : List EventModel)
    → nodes_after node (xs ++ ys) ≡ nodes_after (nodes_after node xs) ys
nodes_append node [] ys = refl
nodes_append node (x ∷ xs) ys = nodes_append (node_after node x) xs ys

pub text_append : (node : NodeModel) (xs ys : List EventModel)
    → events_text node (xs ++ ys) ≡ events_text node xs ++ events_text (nodes_after node xs) ys
text_append node [] ys = refl
text_append node (x ∷ xs) ys =
    ap (λ l. event_text node x ++ l) (text_append (node_after node x) xs ys)
    ∙ sym (append_assoc (event_text node x) (events_text (node_after node x) xs)
    (events_text (nodes_after (node_after node x) xs) ys))

pub take_append : {A : Type 0} (xs ys : List A) (k : ℕ)
    → take (length xs + k) (xs ++ ys) ≡ xs ++ take k ys
take_append [] ys k = let same : 0 + k ≡ k = omega arith in ap (λ n. take n ys) same
take_append (x ∷ xs) ys k =
    let one : length (x ∷ xs) + k ≡ suc (length xs + k) = omega arith in
    ap (λ n. take n (x ∷ (xs ++ ys))) one ∙ ap (λ l. x ∷ l) (take_append xs ys k)

get_append : {A : Type 0} (xs ys : List A) (k : ℕ)
    → slice_get (xs ++ ys) (length xs + k) ≡ slice_get ys k
get_append [] ys k = let same : 0 + k ≡ k = omega arith in ap (slice_get ys) same
get_append (x ∷ xs) ys k =
    let one : length (x ∷ xs) + k ≡ suc (length xs + k) = omega arith in
    ap (slice_get (x ∷ (xs ++ ys))) one ∙ get_append xs ys k

-- after lines without a fault the first fault is that of the rest
pub fault_append : (n : ℕ) (xs ys : List (List ℕ)) → fault_from n xs ≡ None
    → fault_from n (xs ++ ys) ≡ fault_from (n + length xs) ys
fault_append n [] ys none = let same : n ≡ n + 0 = omega arith in ap (λ k. fault_from k ys) same
fault_append n (x ∷ xs) ys none =
    by_meaning (line_of x) (λ later. fault_append (suc n) xs ys later) none
  where
    by_meaning : (m : Result (Option EventModel) LineFault)
        → (fault_from (suc n) xs ≡ None
        → fault_from (suc n) (xs ++ ys) ≡ fault_from (suc n + length xs) ys)
        → fault_or n m (fault_from (suc n) xs) ≡ None
        → fault_or n m (fault_from (suc n) (xs ++ ys)) ≡ fault_from (n + length (x ∷ xs)) ys
    by_meaning (Ok event) rest later =
        let same : suc n + length xs ≡ n + length (x ∷ xs) = omega arith in
        rest later ∙ ap (λ k. fault_from k ys) same
    by_meaning (Err fault) rest later = absurd (cc)

-- and the events are theirs and those of the rest
pub events_append : (n : ℕ) (xs ys : List (List ℕ)) → fault_from n xs ≡ None
    → events_of (xs ++ ys) ≡ events_of xs ++ events_of ys
events_append n [] ys none = refl
events_append n (x ∷ xs) ys none =
    by_meaning (line_of x) (λ later. events_append (suc n) xs ys later) none
  where
    by_meaning : (m : Result (Option EventModel) LineFault)
        → (fault_from (suc n) xs ≡ None → events_of (xs ++ ys) ≡ events_of xs ++ events_of ys)
        → fault_or n m (fault_from (suc n) xs) ≡ None
        → after_line m (events_of (xs ++ ys)) ≡ after_line m (events_of xs) ++ events_of ys
    by_meaning (Ok None) rest later = rest later
    by_meaning (Ok (Some event)) rest later = ap (λ l. event ∷ l) (rest later)
    by_meaning (Err fault) rest later = absurd (cc)

-- the text of the first lines, where they have no fault, is a front of the text of all
pub lines_front : (node : NodeModel) (n : ℕ) (all : List (List ℕ)) (k : ℕ)
    → fault_from n (take k all) ≡ None → (rest : List ℕ)
    × (events_text node (events_of all) ≡ events_text node (events_of (take k all)) ++ rest)
lines_front node n all k none =
    let front = events_of (take k all) in
    let behind = events_of (drop k all) in (
      events_text (nodes_after node front) behind,
      ap (λ l. events_text node (events_of l)) (sym (take-append-drop k all))
          ∙ ap (events_text node) (events_append n (take k all) (drop k all) none)
          ∙ text_append node front behind,
    )

-- the next line that may need memory, after lines and more of them
pub next_append : (node : NodeModel) (n : ℕ) (xs ys : List (List ℕ)) (k : ℕ)
    → fault_from n xs ≡ None → NextMayWant (nodes_after node (events_of xs)) ys k
    → NextMayWant node (xs ++ ys) (length xs + k)
next_append node n xs ys k none next =
    let events : events_of (take (length xs + k) (xs ++ ys))
    ≡ events_of xs ++ events_of (take k ys) =
    ap events_of (take_append xs ys k) ∙ events_append n xs (take k ys) none in
    let nodes : nodes_after node (events_of (take (length xs + k) (xs ++ ys)))
    ≡ nodes_after (nodes_after node (events_of xs)) (events_of (take k ys)) =
    ap (nodes_after node) events ∙ nodes_append node (events_of xs) (events_of (take k ys)) in
    subst (λ (m : NodeModel). IsThereAndMayWant m (slice_get (xs ++ ys) (length xs + k)))
    (sym nodes) (subst (λ (l : Option (List ℕ)). IsThereAndMayWant
    (nodes_after (nodes_after node (events_of xs)) (events_of (take k ys))) l)
    (sym (get_append xs ys k)) next)

-- how many lines end among bytes and more of them
pub ended_append : (xs ys : List ℕ) → ended_lines (xs ++ ys) ≡ ended_lines xs + ended_lines ys
ended_append xs ys = sum_by-append (λ byte. cond (byte == 10) 1 0) xs ys

-- no line ends among bytes without a newline
pub none_ended : (bytes : List ℕ) → IsBare bytes → ended_lines bytes ≡ 0
none_ended [] bare = refl
none_ended (x ∷ xs) bare =
    let here : ◌≡◌ {A = ℕ} (cond (x == 10) 1 0) 0 =
    ap (λ b. cond b 1 0) (All-head (λ byte. (byte == 10) ≡ false) x xs bare) in
    let rest = none_ended xs (All-tail (λ byte. (byte == 10) ≡ false) x xs bare) in
    omega (arith, sum_by-cons (λ byte. cond (byte == 10) 1 0) x xs, here, rest)
