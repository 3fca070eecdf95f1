-- A script on its way: one line.
-- For `Player::take_line`, `Script::end_line`, `end_last` and `take_whole`.
-- By cases on what the line means: an event, nothing, a fault, or an event that is out of memory.
use Rattle.std.proofs.Common.{inl, ◌≡◌, suc, ◌+◌, ◌<◌, ℕ, Bool, true, false, List, []}
use Rattle.std.proofs.Common.{◌∷◌, ◌++◌, length, Some, None, Ok, Err, Option}
use Rattle.std.proofs.Common.{Result, refl, sym, ◌∙◌, ap, arith, append-nil, append_assoc, subst}
use Rattle.std.specs.Prelude.{nat_lt, if◌then◌else◌, IfErr, OnOk, OnErr, option_map}
use Rattle.std.specs.Str.Lines.{lines, strip_carriage_return}
use Rattle.std.proofs.lemmas.List.{nil_from_length}
use Rattle.trdp_model.specs.declared.event.Event.{Event}
use Rattle.trdp_model.specs.Events.{EventModel, event_model}
use Rattle.trdp_text.specs.declared.fault.LineFault.{LineFault}
use Rattle.trdp_text.specs.declared.fault.LineFault.TheVariants.{TooLong, Count}
use Rattle.trdp_text.specs.declared.fault.LineFault.TheVariants.{OutOfMemory as NoMemory}
use Rattle.trdp_script.specs.declared.player.Player.{Player}
use Rattle.trdp_script.specs.declared.script.Script.{Script}
use Rattle.trdp_script.specs.declared.fault.ScriptFault.{ScriptFault}
use Rattle.trdp_script.specs.declared.fault.ScriptFault.TheVariants.{Line, Read, Write}
use Rattle.trdp_script.specs.declared.fault.ScriptFault.TheVariants.{OutOfMemory}
use Rattle.trdp_text.specs.Forms.{LineForm, forms, event_in}
use Rattle.trdp_text.specs.Words.{words_of}
use Rattle.trdp_text.specs.Lines.{ReadsOrSkips, event_or_fault, form_among}
use Rattle.trdp_text.specs.Lines.{is_skipped, line_among, line_of, may_have}
use Rattle.trdp_text.specs.Lines.{form_says, say_among, words_say}
use Rattle.trdp_script.specs.Pieces.{IsBare}
use Rattle.trdp_text.specs.EventText.{event_text}
use Rattle.trdp_script.specs.ScriptText.{after_line, events_of, events_text}
use Rattle.trdp_script.specs.ScriptText.{fault_from, fault_or}
use Rattle.trdp_model.specs.NodeModels.{node_after, nodes_after}
use Rattle.trdp_script.specs.ScriptSteps.{node_of, Ends, LineComesTo, Plays}
use Rattle.trdp_script.specs.ScriptSteps.{PlaysLine, Stops, StopsAt, StopsWanting, line_events}
use Rattle.trdp_script.specs.Wants.{LineMayWant, NextMayWant}
use Rattle.trdp_script.specs.Writes.{PassesOn, PassesSome}
use Rattle.trdp_script.proofs.ScriptLemmas.Lines.{lines_first, lines_last}
use Rattle.trdp_script.proofs.PlayLemmas.Written.{passes_added, passes_nothing, passes_some_added}
use Rattle.trdp_script.proofs.PlayLemmas.Written.{passes_some_of}
use Rattle.trdp_script.proofs.ScriptLemmas.Fronts.{ended_append, none_ended, text_append}
use Rattle.trdp_script.proofs.ScriptLemmas.Steps.{first_here}

-- events of a line without a fault come first
line_then : (line : List ℕ) (event : Option EventModel) (later : List (List ℕ))
    → line_of line ≡ Ok event → events_of (line ∷ later) ≡ line_events (Ok event) ++ events_of later
line_then line None later is = rw is refl
line_then line (Some event) later is = rw is refl

-- the events of a line without a fault
events_one : (line : List ℕ) (event : Option EventModel)
    → line_of line ≡ Ok event → events_of (line ∷ []) ≡ line_events (Ok event)
events_one line event is = line_then line event [] is ∙ append-nil (line_events (Ok event))

-- a line without a fault before its newline
pub line_plays : (old new : Script) (v w : Option (List ℕ)) (event : Option EventModel)
    → IsBare old.line.items → line_of (strip_carriage_return old.line.items) ≡ Ok event
    → PlaysLine old.player new.player v w (line_events (Ok event))
    → new.line.items ≡ [] → new.number ≡ old.number + 1 → Plays old new v w (10 ∷ [])
line_plays old new v w event bare is played empty next =
    let line = strip_carriage_return old.line.items in
    let events = events_one line event is in
    record {
      text = events_text (node_of old.player) (line_events (Ok event));
      passed = played.passed;
      taken = record {
        ended = line ∷ [];
        lines_are = λ later. lines_first old.line.items later bare
            ∙ ap (λ l. line ∷ lines (l ++ later)) (sym empty);
        count = refl;
        number = omega (arith, next);
        no_fault = ap (λ m. fault_or old.number m None) is;
        node_is = played.node_is ∙ ap (nodes_after (node_of old.player)) (sym events);
        text_is = ap (events_text (node_of old.player)) (sym events);
      };
    }

-- a line without a fault that comes whole before its newline
whole_plays : (old new : Script) (v w : Option (List ℕ)) (event : Option EventModel)
    (bytes : List ℕ) → old.line.items ≡ [] → IsBare bytes
    → line_of (strip_carriage_return bytes) ≡ Ok event
    → PlaysLine old.player new.player v w (line_events (Ok event))
    → new.line.items ≡ [] → new.number ≡ old.number + 1 → Plays old new v w (bytes ++ 10 ∷ [])
whole_plays old new v w event bytes begun bare is played empty next =
    let line = strip_carriage_return bytes in
    let events = events_one line event is in
    record {
      text = events_text (node_of old.player) (line_events (Ok event));
      passed = played.passed;
      taken = record {
        ended = line ∷ [];
        lines_are = λ later. ap (λ l. lines (l ++ ((bytes ++ 10 ∷ []) ++ later))) begun
            ∙ ap lines (append_assoc bytes (10 ∷ []) later) ∙ lines_first bytes later bare
            ∙ ap (λ l. line ∷ lines (l ++ later)) (sym empty);
        count = sym (ended_append bytes (10 ∷ []) ∙ ap (λ n. n + 1) (none_ended bytes bare));
        number = omega (arith, next);
        no_fault = ap (λ m. fault_or old.number m None) is;
        node_is = played.node_is ∙ ap (nodes_after (node_of old.player)) (sym events);
        text_is = ap (events_text (node_of old.player)) (sym events);
      };
    }

-- a good line for which an allocation fails
line_wants : (old new : Script) (v w : Option (List ℕ)) (event : Option EventModel)
    (line rest : List ℕ) (later : List (List ℕ))
    → line_of line ≡ Ok event → lines (old.line.items ++ rest) ≡ line ∷ later
    → PassesOn v w old.player.output.items new.player.output.items []
    → LineMayWant (node_of old.player) (Ok event) → StopsWanting old new v w rest
line_wants old new v w event line rest later is first passed wants = record {
  count = 0;
  played = first_here rest passed;
  wanting = subst (λ (l : List (List ℕ)). NextMayWant (node_of old.player) l 0) (sym first)
      (subst (λ (m : Result (Option EventModel) LineFault). LineMayWant (node_of old.player) m)
      (sym is) wants);
}

bad_stops : (old new : Script) (v w : Option (List ℕ))
    (line rest : List ℕ) (later : List (List ℕ)) (bad : LineFault) (n : ℕ) (fault : LineFault)
    → line_of line ≡ Err bad → lines (old.line.items ++ rest) ≡ line ∷ later
    → (n ≡ old.number) × (fault ≡ bad) × PassesOn v
    w old.player.output.items new.player.output.items [] → StopsAt old new v w rest n fault
bad_stops old new v w line rest later bad n fault is first came = record {
  text = [];
  passed = came.2;
  first = ap (fault_from old.number) first
      ∙ ap (λ m. fault_or old.number m (fault_from (suc old.number) later)) is
      ∙ ap (λ k. Some (k, bad)) (sym came.0) ∙ ap (λ f. Some (n, f)) (sym came.1);
  text_is = ap (events_text (node_of old.player))
      (sym (ap events_of first ∙ ap (λ m. after_line m (events_of later)) is));
}

line_stops_as :
    (old new : Script) (v w : Option (List ℕ)) (line rest : List ℕ) (later : List (List ℕ))
    (meaning : Result (Option EventModel) LineFault) (r : Result (Unit {0}) ScriptFault)
    → line_of line ≡ meaning → lines (old.line.items ++ rest) ≡ line ∷ later
    → LineComesTo old.player new.player v w old.number meaning r
    → IfErr r (λ fault. Stops old new v w rest fault)
unfolding LineComesTo Stops
line_stops_as old new v w line rest later (Err bad) (Ok done) is first came = tt
line_stops_as old new v w line rest later (Err bad) (Err (Line n fault)) is first came =
    bad_stops old new v w line rest later bad n fault is first came
line_stops_as old new v w line rest later (Err bad) (Err Read) is first came = absurd came
line_stops_as old new v w line rest later (Err bad) (Err Write) is first came = absurd came
line_stops_as old new v w line rest later (Err bad) (Err OutOfMemory) is first came = absurd came
line_stops_as old new v w line rest later (Ok event) (Ok done) is first came = tt
line_stops_as old new v w line rest later (Ok event) (Err (Line n fault)) is first came =
    absurd came
line_stops_as old new v w line rest later (Ok event) (Err Read) is first came = absurd came
line_stops_as old new v w line rest later (Ok event) (Err Write) is first came =
    subst (λ (l : List ℕ). PassesSome v w old.player.output.items l)
    (sym (ap (events_text (node_of old.player)) (ap events_of first ∙ line_then line event later is)
    ∙ text_append (node_of old.player) (line_events (Ok event)) (events_of later)))
    (passes_some_of (events_text (nodes_after (node_of old.player) (line_events (Ok event)))
    (events_of later)) came)
line_stops_as old new v w line rest later (Ok event) (Err OutOfMemory) is first came =
    line_wants old new v w event line rest later is first came.0 came.1

-- a line that stops the script
pub line_stops : (old new : Script) (v w : Option (List ℕ))
    (line rest : List ℕ) (later : List (List ℕ)) (r : Result (Unit {0}) ScriptFault)
    → lines (old.line.items ++ rest) ≡ line ∷ later
    → LineComesTo old.player new.player v w old.number (line_of line) r
    → IfErr r (λ fault. Stops old new v w rest fault)
line_stops old new v w line rest later r first came =
    line_stops_as old new v w line rest later (line_of line) r refl first came

-- the last line, without a fault and without a newline
pub line_ends : (old new : Script) (v w : Option (List ℕ)) (event : Option EventModel)
    → lines (old.line.items ++ []) ≡ old.line.items ∷ [] → line_of old.line.items ≡ Ok event
    → PlaysLine old.player new.player v w (line_events (Ok event)) → Ends old new v w []
line_ends old new v w event first is played = record {
  text = events_text (node_of old.player) (line_events (Ok event));
  passed = played.passed;
  no_fault = ap (fault_from old.number) first ∙ ap (λ m. fault_or old.number m None) is;
  text_is = ap (events_text (node_of old.player))
      (sym (ap events_of first ∙ events_one old.line.items event is));
}

-- a line that was played, by its result
came_good : (old new : Script) (v w : Option (List ℕ))
    (n : ℕ) (meaning : Result (Option EventModel) LineFault)
    → LineComesTo old.player new.player v w n meaning (Ok tt)
    → (event : Option EventModel) × (meaning ≡ Ok event)
    × PlaysLine old.player new.player v w (line_events (Ok event))
unfolding LineComesTo
came_good old new v w n (Ok event) came = (event, refl, came)
came_good old new v w n (Err fault) came = absurd came

-- a line before its newline was played
pub line_came : (old new : Script) (v w : Option (List ℕ)) (text : List ℕ)
    → text ≡ strip_carriage_return old.line.items → IsBare old.line.items
    → LineComesTo old.player new.player v w old.number (line_of text) (Ok tt)
    → new.line.items ≡ [] → new.number ≡ old.number + 1 → Plays old new v w (10 ∷ [])
line_came old new v w text is bare came empty next =
    let good = came_good old new v w old.number (line_of text) came in
    line_plays old new v w good.0 bare (ap line_of (sym is) ∙ good.1) good.2 empty next

-- a line before its newline stops the script
pub line_bad : (old new : Script) (v w : Option (List ℕ)) (text : List ℕ) (fault : ScriptFault)
    → text ≡ strip_carriage_return old.line.items → IsBare old.line.items
    → LineComesTo old.player new.player v w old.number (line_of text) (Err fault)
    → (later : List ℕ) → Stops old new v w (10 ∷ later) fault
line_bad old new v w text fault is bare came later =
    line_stops old new v w (strip_carriage_return old.line.items)
    (10 ∷ later) (lines later) (Err fault) (lines_first old.line.items later bare)
    (subst (λ (l : List ℕ).
    LineComesTo old.player new.player v w old.number (line_of l) (Err fault)) is came)

-- a line that comes whole before its newline was played
pub whole_came : (old new : Script) (v w : Option (List ℕ)) (text bytes : List ℕ)
    → text ≡ strip_carriage_return bytes → length old.line.items ≡ 0 → IsBare bytes
    → LineComesTo old.player new.player v w old.number (line_of text) (Ok tt)
    → new.line.items ≡ old.line.items → new.number ≡ old.number + 1
    → Plays old new v w (bytes ++ 10 ∷ [])
whole_came old new v w text bytes is none bare came same next =
    let good = came_good old new v w old.number (line_of text) came in
    let begun = nil_from_length old.line.items none in
    whole_plays old new v w good.0 bytes begun bare (ap line_of (sym is) ∙ good.1) good.2
    (same ∙ begun) next

-- a line that comes whole before its newline stops the script
pub whole_bad : (old new : Script) (v w : Option (List ℕ)) (text bytes : List ℕ)
    (fault : ScriptFault) → text ≡ strip_carriage_return bytes → length old.line.items ≡ 0
    → IsBare bytes → LineComesTo old.player new.player v w old.number (line_of text) (Err fault)
    → (later : List ℕ) → Stops old new v w (bytes ++ 10 ∷ later) fault
whole_bad old new v w text bytes fault is none bare came later =
    line_stops old new v w (strip_carriage_return bytes)
    (bytes ++ 10 ∷ later) (lines later) (Err fault)
    (ap (λ l. lines (l ++ (bytes ++ 10 ∷ later))) (nil_from_length old.line.items none)
    ∙ lines_first bytes later bare)
    (subst (λ (l : List ℕ).
    LineComesTo old.player new.player v w old.number (line_of l) (Err fault)) is came)

-- the last line was played
pub last_came :
    (old new : Script) (v w : Option (List ℕ)) (text : List ℕ) (r : Result (Unit {0}) ScriptFault)
    → text ≡ old.line.items → IsBare old.line.items → 0 < length old.line.items
    → LineComesTo old.player new.player v w old.number (line_of text) r
    → OnOk r (Ends old new v w [])
last_came old new v w text (Ok done) is bare some came =
    let good = came_good old new v w old.number (line_of text) came in
    line_ends old new v w good.0 (ap lines (append-nil old.line.items)
    ∙ lines_last old.line.items bare some) (ap line_of (sym is) ∙ good.1) good.2
last_came old new v w text (Err fault) is bare some came = tt

-- the last line stops the script
pub last_bad :
    (old new : Script) (v w : Option (List ℕ)) (text : List ℕ) (r : Result (Unit {0}) ScriptFault)
    → text ≡ old.line.items → IsBare old.line.items → 0 < length old.line.items
    → LineComesTo old.player new.player v w old.number (line_of text) r
    → IfErr r (λ fault. Stops old new v w [] fault)
last_bad old new v w text r is bare some came =
    line_stops old new v w old.line.items [] []
    r (ap lines (append-nil old.line.items) ∙ lines_last old.line.items bare some)
    (subst (λ (l : List ℕ). LineComesTo old.player new.player v w old.number (line_of l) r) is came)

-- a line's fault is never that it is out of memory
abbrev NeverMemory : Result (Option EventModel) LineFault → Type 0
NeverMemory meaning = meaning ≡ Err NoMemory → ⊥

never_said : (form : Option LineForm) (words : List (List ℕ)) → NeverMemory (words_say form words)
unfolding words_say form_says
never_said None words is = absurd (cc)
never_said (Some form) words is =
    never_counted (may_have form.parts (length words)) (event_in form words) is
  where
    never_counted : (b : Bool) (event : Option EventModel)
        → NeverMemory (if b then event_or_fault event else Err Count)
    never_counted true None is = absurd (cc)
    never_counted true (Some event) is = absurd (cc)
    never_counted false event is = absurd (cc)

never_memory : (text : List ℕ) → NeverMemory (line_of text)
unfolding line_among say_among
never_memory text is = never_long (nat_lt 140000 (length text)) (is_skipped text) is
  where
    never_long : (a b : Bool) → NeverMemory (if a then Err TooLong
        else (if b then Ok None else say_among forms (words_of text)))
    never_long true b is = absurd (cc)
    never_long false true is = absurd (cc)
    never_long false false is = never_said (form_among forms (words_of text)) (words_of text) is

-- a good line for which an allocation fails
pub memory_came : (p q : Player) (w : Option (List ℕ)) (n : ℕ) (text : List ℕ) (bad : LineFault)
    → bad ≡ NoMemory → ReadsOrSkips (line_of text) (Err bad) → q.output.items ≡ p.output.items
    → LineComesTo p q w w n (line_of text) (Err OutOfMemory)
unfolding LineComesTo
memory_came p q w n text bad is reads same = memory_of (line_of text) (never_memory text) reads
  where
    memory_of : (meaning : Result (Option EventModel) LineFault) → NeverMemory meaning
        → ReadsOrSkips meaning (Err bad) → LineComesTo p q w w n meaning (Err OutOfMemory)
    memory_of (Ok None) never reads = let none = reads.1 in absurd (cc)
    memory_of (Ok (Some event)) never reads = (
      subst (λ (l : List ℕ). PassesOn w w p.output.items l []) (sym same)
          (passes_nothing w p.output.items),
      inl reads.1,
    )
    memory_of (Err fault) never reads = absurd (never (ap (λ f. Err f) (sym reads ∙ is)))

-- an event was played, and its text went on with what was held back
pub event_came : (p q : Player) (v w : Option (List ℕ)) (n : ℕ)
    (meaning : Result (Option EventModel) LineFault) (read : Option Event) (event : Event)
    (with_it : List ℕ) (r : Result (Unit {0}) ScriptFault)
    → read ≡ Some event → ReadsOrSkips meaning (Ok read)
    → node_of q ≡ node_after (node_of p) (event_model event)
    → with_it ≡ p.output.items ++ event_text (node_of p) (event_model event)
    → OnOk r (PassesOn v w with_it q.output.items []) → OnErr r (PassesSome v w with_it [])
    → IfErr r (λ fault. fault ≡ Write) → LineComesTo p q v w n meaning r
unfolding LineComesTo
event_came p q v w n (Err fault) read event with_it r is reads node told ok err write = absurd reads
event_came p q v w n (Ok meant) read event with_it r is reads node told ok err write =
    subst (λ (e : Option EventModel). LineComesTo p q v w n (Ok e) r)
    (ap (option_map event_model) (sym is) ∙ reads) (came r ok err write)
  where
    text : with_it ≡ p.output.items ++ events_text (node_of p) (event_model event ∷ [])
    text = told ∙ ap (λ l. p.output.items ++ l)
        (sym (append-nil (event_text (node_of p) (event_model event))))

    came : (r : Result (Unit {0}) ScriptFault) → OnOk r (PassesOn v w with_it q.output.items [])
        → OnErr r (PassesSome v w with_it []) → IfErr r (λ fault. fault ≡ Write)
        → LineComesTo p q v w n (Ok (Some (event_model event))) r
    came (Ok done) ok err write = record { node_is = node; passed = passes_added text ok }
    came (Err Write) ok err write = passes_some_added text err
    came (Err Read) ok err write = absurd (cc)
    came (Err OutOfMemory) ok err write = absurd (cc)
    came (Err (Line k fault)) ok err write = absurd (cc)
