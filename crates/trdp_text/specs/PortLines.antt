-- What a datagram says at the control port of a slot, and at the operator's port: one line.
use Rattle.std.specs.Prelude.{ℕ, ◌==◌, nat_lt, List, [], ◌∷◌, ◌++◌, length, codes, option_map}
use Rattle.std.specs.Prelude.{Option, Some, None, Result, Ok, Err, if◌then◌else◌}
use Rattle.std.specs.Io.BufRead.{ends_with_byte, strip_last}
use Rattle.std.specs.Str.{bytes_eq}
use Rattle.std.specs.Str.Lines.{strip_carriage_return}
use Rattle.trdp_base.specs.Limits.{line_limit}
use Rattle.trdp_base.specs.NumberText.{text_of_number}
use Rattle.trdp_model.specs.Events.{EventModel, event_model}
use Rattle.trdp_text.specs.Forms.{LineForm, call_word, topology_form, role_form, add_slot_form}
use Rattle.trdp_text.specs.Lines.{is_skipped, line_of, say_among}
use Rattle.trdp_text.specs.Words.{first_word, words_of}
use Rattle.trdp_text.specs.declared.fault.LineFault.{LineFault}
use Rattle.trdp_text.specs.declared.fault.LineFault.TheVariants.{TooLong, Count}
use Rattle.trdp_text.specs.declared.operator_line.OperatorLine.{OperatorLine}
use Rattle.trdp_text.specs.declared.operator_line.OperatorLine.TheVariants as line
use Rattle.trdp_text.specs.declared.operator_line.Question.{Question}
use Rattle.trdp_text.specs.declared.operator_line.Question.TheVariants.{Totals, Slots}

-- the line without its end, which is a newline as the last byte and one carriage return before it
unfoldable pub without_end : List ℕ → List ℕ
without_end bytes =
    if ends_with_byte 10 bytes then strip_carriage_return (strip_last 10 bytes) else bytes

-- the whole line of a call by the application in that slot
unfoldable pub call_line : ℕ → List ℕ → List ℕ
call_line slot text = call_word ++ 32 ∷ text_of_number slot ++ 32 ∷ text

-- at the control port of that slot: a call of its application without `call SLOT `
-- rule: control.line
unfoldable pub control_line_of : ℕ → List ℕ → Result (Option EventModel) LineFault
control_line_of slot bytes =
    let text = without_end bytes in
    if is_skipped text then Ok None else line_of (call_line slot text)

-- the forms of the operator's lines
unfoldable pub operator_forms : List LineForm
operator_forms = topology_form ∷ role_form ∷ add_slot_form ∷ []

-- what the operator says: an event that the node is to take, or a question
pub data OperatorSays : Type 0 where
  Orders : (event : EventModel) → OperatorSays
  Asks : (question : Question) → OperatorSays

-- the question that a word asks, if it asks one
unfoldable pub question_of : List ℕ → Option Question
question_of word =
    if bytes_eq word (codes "totals")
    then Some Totals
    else (if bytes_eq word (codes "slots") then Some Slots else None)

-- what is said by words that say an event, if they say one
abbrev pub orders : Result (Option EventModel) LineFault
    → Result (Option OperatorSays) LineFault
orders (Ok event) = Ok (option_map Orders event)
orders (Err fault) = Err fault

-- what is said by words of which the first asks this question, or none: a question has no further
-- word, and all else has one of the operator's forms
unfoldable pub operator_says : Option Question → List (List ℕ)
    → Result (Option OperatorSays) LineFault
operator_says (Some question) words =
    if length words == 1 then Ok (Some (Asks question)) else Err Count
operator_says None words = orders (say_among operator_forms words)

-- the same of all words of a line
abbrev pub operator_words : List (List ℕ) → Result (Option OperatorSays) LineFault
operator_words words = operator_says (question_of (first_word words)) words

-- at the operator's port: a line of the forms `topology`, `role` and `addslot`, or the question
-- `totals` or `slots`, any other being unknown; none where it is skipped
-- rule: control.operator
unfoldable pub operator_line_of : List ℕ → Result (Option OperatorSays) LineFault
operator_line_of bytes =
    let text = without_end bytes in
    if nat_lt line_limit (length text) then Err TooLong
    else (if is_skipped text then Ok None
    else operator_words (words_of text))

-- what the operator's line says that was read
abbrev pub operator_line_model : OperatorLine → OperatorSays
operator_line_model (line.Event event) = Orders (event_model event)
operator_line_model (line.Question question) = Asks question
