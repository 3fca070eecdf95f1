-- What a line of a script says.
use Rattle.std.specs.Prelude.{◌≡◌, ℕ, suc, ◌==◌, ◌&&◌, List, [], ◌∷◌, length, nat_lt, nat_le, Bool}
use Rattle.std.specs.Prelude.{true}
use Rattle.std.specs.Prelude.{Option, Some, None, Result, Ok, Err, if◌then◌else◌, find, option_map}
use Rattle.trdp_base.specs.Limits.{line_limit}
use Rattle.trdp_model.specs.Events.{EventModel, event_model}
use Rattle.trdp_model.specs.declared.event.Event.{Event}
use Rattle.trdp_text.specs.EventBytes.{carries_bytes}
use Rattle.trdp_text.specs.Forms.{Part, LastNumberField, LineForm, forms, has_keywords}
use Rattle.trdp_text.specs.Forms.{event_in, event_of_words}
use Rattle.trdp_text.specs.Words.{words_of}
use Rattle.trdp_text.specs.declared.fault.LineFault.{LineFault}
use Rattle.trdp_text.specs.declared.fault.LineFault.TheVariants.{TooLong, Unknown, Count}
use Rattle.trdp_text.specs.declared.fault.LineFault.TheVariants.{BadWord, OutOfMemory}

-- the line is empty or begins with `#`
-- rule: line.skip
abbrev pub is_skipped : List ℕ → Bool
is_skipped [] = true
is_skipped (byte ∷ bytes) = byte == 35

-- an event that the words of a form give; none where one of them is bad
-- rule: line.bad
abbrev pub event_or_fault : Option EventModel → Result (Option EventModel) LineFault
event_or_fault (Some event) = Ok (Some event)
event_or_fault None = Err BadWord

-- how many words a line of these parts has at least: all but a last number
unfoldable pub least_words : List Part → ℕ
least_words [] = 0
least_words (LastNumberField max ∷ parts) = least_words parts
least_words (part ∷ parts) = suc (least_words parts)

-- a line of these parts may have that many words
abbrev pub may_have : List Part → ℕ → Bool
may_have parts n = nat_le (least_words parts) n && nat_le n (length parts)

-- what words say that have the keywords of that form
-- rule: line.count
unfoldable pub form_says : LineForm → List (List ℕ) → Result (Option EventModel) LineFault
unfolding least_words event_of_words
form_says form words =
    if may_have form.parts (length words)
    then event_or_fault (event_in form words)
    else Err Count

-- what words say that have the keywords of that form; none where they have those of no form
-- rule: line.unknown
unfoldable pub words_say : Option LineForm → List (List ℕ) → Result (Option EventModel) LineFault
words_say None words = Err Unknown
words_say (Some form) words = form_says form words

-- the form, among these, whose keywords the words have
unfoldable pub form_among : List LineForm → List (List ℕ) → Option LineForm
form_among known words = find (λ form. has_keywords form.parts words) known

-- what words say that can have these forms
unfoldable pub say_among : List LineForm → List (List ℕ) → Result (Option EventModel) LineFault
unfolding words_say form_among has_keywords
say_among known words = words_say (form_among known words) words

-- where a line can have these forms: the event of a line without its end, none where it is
-- skipped, or the first of its faults
-- rule: line.length
unfoldable pub line_among : List LineForm → List ℕ → Result (Option EventModel) LineFault
line_among known text =
    if nat_lt line_limit (length text) then Err TooLong
    else (if is_skipped text then Ok None
    else say_among known (words_of text))

-- the event of a line without its end, none where it is skipped, or the first of its faults
abbrev pub line_of : List ℕ → Result (Option EventModel) LineFault
line_of text = line_among forms text

-- what was read is the event of the line, none where it is skipped, or an allocation failed for
-- the bytes of a line that carries some, where nothing else is wrong
abbrev pub ReadsLine : Result (Option EventModel) LineFault → Result (Option EventModel) LineFault
    → Type 0
ReadsLine (Ok event) (Ok read) = read ≡ event
ReadsLine (Ok event) (Err fault) = (fault ≡ OutOfMemory) × (carries_bytes event ≡ true)
ReadsLine (Err fault) (Ok read) = ⊥
ReadsLine (Err fault) (Err other) = other ≡ fault

-- the same, wherever the bytes of the event that was read are
abbrev pub ReadsOrSkips : Result (Option EventModel) LineFault → Result (Option Event) LineFault
    → Type 0
ReadsOrSkips meaning (Ok read) = ReadsLine meaning (Ok (option_map event_model read))
ReadsOrSkips meaning (Err fault) = ReadsLine meaning (Err fault)

-- the same where a line isn't skipped: what was read is its event
abbrev pub ReadsEvent : Result (Option EventModel) LineFault → Result Event LineFault → Type 0
ReadsEvent meaning (Ok read) = ReadsOrSkips meaning (Ok (Some read))
ReadsEvent meaning (Err fault) = ReadsOrSkips meaning (Err fault)
