-- Facts on what the operator says: an event or a question.
-- For `read_operator`, `read_said`, and what the daemon may lose.
-- By: the first two words show a question with no further word; all else is said by a form.
use Rattle.std.proofs.Common.{◌≡◌, ℕ, ◌≤◌, ◌==◌, nat_lt, Bool, true, false, List, []}
use Rattle.std.proofs.Common.{◌∷◌, length, take, refl, sym, ◌∙◌, ap, arith}
use Rattle.std.proofs.Common.{Option, Some, None, Result, Ok, Err, if◌then◌else◌}
use Rattle.std.proofs.lemmas.Bool.Decides.{nat_tests}
use Rattle.trdp_model.specs.Events.{EventModel}
use Rattle.trdp_model.specs.Events.{event_model}
use Rattle.trdp_model.specs.declared.event.Event.{Event}
use Rattle.trdp_text.specs.Lines.{ReadsEvent, is_skipped, say_among}
use Rattle.trdp_text.specs.PortLines.{OperatorSays, Orders, Asks, operator_forms, operator_line_of}
use Rattle.trdp_text.specs.PortLines.{operator_says, operator_words, orders, question_of}
use Rattle.trdp_text.specs.PortLines.{without_end}
use Rattle.trdp_text.specs.Words.{are_between, first_word, words_of}
use Rattle.trdp_text.specs.declared.fault.LineFault.{LineFault}
use Rattle.trdp_text.specs.declared.fault.LineFault.TheVariants.{TooLong, Count, OutOfMemory}
use Rattle.trdp_text.specs.declared.operator_line.Question.{Question}
use Rattle.trdp_text.proofs.ReadLemmas.Forms.{forms_say, operators_few_parts}
use Rattle.trdp_text.proofs.ReadLemmas.Ports.{IsOperators, operators_words, operators_never_want}

-- a question with no further word
pub asked : (words : List (List ℕ)) (question : Question)
    → question_of (first_word words) ≡ Some question → are_between 1 1 words ≡ true
    → operator_words words ≡ Ok (Some (Asks question))
unfolding operator_says
asked words question is one =
    let alone : (length words == 1) ≡ true = grind (arith, nat_tests) in
    rw (is, alone) refl

-- a question with further words
pub asked_badly : (words : List (List ℕ)) (question : Question)
    → question_of (first_word words) ≡ Some question → are_between 1 1 words ≡ false
    → operator_words words ≡ Err Count
unfolding operator_says
asked_badly words question is more =
    let others : (length words == 1) ≡ false = grind (arith, nat_tests) in
    rw (is, others) refl

-- an event that was read is what the words say
event_said : (meaning : Result (Option EventModel) LineFault) (event : Event)
    → ReadsEvent meaning (Ok event) → orders meaning ≡ Ok (Some (Orders (event_model event)))
event_said (Ok said) event reads =
    ap (λ (e : Option EventModel). orders (Ok e)) (sym reads)
event_said (Err fault) event reads = absurd reads

pub ordered : (words : List (List ℕ)) (event : Event)
    → question_of (first_word words) ≡ None
    → ReadsEvent (say_among operator_forms words) (Ok event)
    → operator_words words ≡ Ok (Some (Orders (event_model event)))
unfolding operator_says
ordered words event none reads =
    rw none (event_said (say_among operator_forms words) event reads)

-- a fault that was read is that of the words
fault_said : (meaning : Result (Option EventModel) LineFault) (fault : LineFault)
    → IsOperators meaning → ReadsEvent meaning (Err fault) → orders meaning ≡ Err fault
fault_said (Ok None) fault of reads = let none = reads.1 in absurd (cc)
fault_said (Ok (Some event)) fault of reads =
    absurd (operators_never_want (Ok (Some event)) fault of reads reads.0)
fault_said (Err bad) fault of reads = ap (λ (f : LineFault). orders (Err f)) (sym reads)

pub ordered_badly : (words : List (List ℕ)) (fault : LineFault)
    → question_of (first_word words) ≡ None
    → ReadsEvent (say_among operator_forms words) (Err fault)
    → operator_words words ≡ Err fault
unfolding operator_says
ordered_badly words fault none reads =
    rw none (fault_said (say_among operator_forms words) fault (operators_words words) reads)

-- and never out of memory
pub never_wants : (words : List (List ℕ)) (fault : LineFault)
    → ReadsEvent (say_among operator_forms words) (Err fault) → fault ≡ OutOfMemory → ⊥
never_wants words fault reads =
    operators_never_want (say_among operator_forms words) fault (operators_words words) reads

-- the first words of a line say what all words say
first_kept : (words : List (List ℕ)) → first_word (take 15 words) ≡ first_word words
unfolding first_word
first_kept [] = refl
first_kept (word ∷ words) = refl

alone_kept : (words : List (List ℕ)) → (length (take 15 words) == 1) ≡ (length words == 1)
alone_kept [] = refl
alone_kept (word ∷ []) = refl
alone_kept (word ∷ other ∷ words) =
    let first : (length (take 15 (word ∷ other ∷ words)) == 1) ≡ false = grind (arith, nat_tests) in
    let all : (length (word ∷ other ∷ words) == 1) ≡ false = grind (arith, nat_tests) in
    first ∙ sym all

pub words_kept : (words : List (List ℕ)) → operator_words (take 15 words) ≡ operator_words words
unfolding operator_says
words_kept words = rw (first_kept words) (by_first (question_of (first_word words)))
  where
    by_first : (question : Option Question)
        → operator_says question (take 15 words) ≡ operator_says question words
    by_first (Some question) = rw (alone_kept words) refl
    by_first None = ap orders (forms_say operator_forms 15 words operators_few_parts)

-- a line that isn't skipped says what was read of its first words
pub line_says : (bytes text : List ℕ) (words : List (List ℕ))
    (said : Result (Option OperatorSays) LineFault) → text ≡ without_end bytes
    → length text ≤ 140000 → is_skipped text ≡ false → words ≡ take 15 (words_of text)
    → operator_words words ≡ said → operator_line_of bytes ≡ said
unfolding operator_line_of
line_says bytes text words said is short some cut says =
    let tells : nat_lt 140000 (length text) ≡ false = grind (arith, nat_tests, short) in
    rw (sym is, tells, some) (sym (words_kept (words_of text)) ∙ ap operator_words (sym cut) ∙ says)

-- what the operator can say: topology counters, a role, a slot that is opened, or a question
abbrev pub SaysOperators : Result (Option OperatorSays) LineFault → Type 0
SaysOperators (Err fault) = Unit {0}
SaysOperators (Ok None) = Unit {0}
SaysOperators (Ok (Some (Orders event))) = IsOperators (Ok (Some event))
SaysOperators (Ok (Some (Asks question))) = Unit {0}

orders_said : (meaning : Result (Option EventModel) LineFault)
    → IsOperators meaning → SaysOperators (orders meaning)
orders_said (Err fault) of = tt
orders_said (Ok None) of = tt
orders_said (Ok (Some event)) of = of

words_said : (question : Option Question) (words : List (List ℕ))
    → SaysOperators (operator_says question words)
unfolding operator_says
words_said (Some question) words = by_count (length words == 1)
  where
    by_count : (alone : Bool)
        → SaysOperators (if alone then Ok (Some (Asks question)) else Err Count)
    by_count true = tt
    by_count false = tt
words_said None words = orders_said (say_among operator_forms words) (operators_words words)

pub operators_line : (bytes : List ℕ) → SaysOperators (operator_line_of bytes)
unfolding operator_line_of
operators_line bytes = by_text (nat_lt 140000 (length (without_end bytes)))
    (is_skipped (without_end bytes))
  where
    by_text : (long skipped : Bool) → SaysOperators (if long then Err TooLong
        else (if skipped then Ok None
        else operator_words (words_of (without_end bytes))))
    by_text true skipped = tt
    by_text false true = tt
    by_text false false = words_said (question_of (first_word (words_of (without_end bytes))))
        (words_of (without_end bytes))
