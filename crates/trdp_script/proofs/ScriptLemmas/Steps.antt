-- A script on its way, step after step.
-- For `Script::gather`, `take_to_newline` and `write_out`, and for the lemmas on lines and pieces.
-- By: the text of some bytes, and then of others, is that of both, in that order.
use Rattle.std.proofs.Common.{◌≡◌, ◌+◌, ◌<◌, ℕ, false, List, [], ◌++◌, length}
use Rattle.std.proofs.Common.{take, Ok, Err, Option, Result, refl, sym, ◌∙◌, ap, arith}
use Rattle.std.proofs.Common.{append_assoc, length-append, subst}
use Rattle.std.specs.Prelude.{◌==◌, IfErr, OnErr}
use Rattle.std.proofs.lemmas.List.Elements.{All-append}
use Rattle.std.specs.Str.Lines.{lines}
use Rattle.trdp_model.specs.Events.{EventModel}
use Rattle.trdp_model.specs.NodeModels.{NodeModel}
use Rattle.trdp_text.specs.declared.fault.LineFault.TheVariants.{TooLong}
use Rattle.trdp_script.specs.declared.script.Script.{Script}
use Rattle.trdp_script.specs.declared.fault.ScriptFault.{ScriptFault}
use Rattle.trdp_script.specs.declared.fault.ScriptFault.TheVariants.{Line, Read, Write}
use Rattle.trdp_script.specs.declared.fault.ScriptFault.TheVariants.{OutOfMemory}
use Rattle.trdp_script.specs.Pieces.{IsBare}
use Rattle.trdp_script.specs.ScriptText.{events_of, events_text, fault_from}
use Rattle.trdp_model.specs.NodeModels.{nodes_after}
use Rattle.trdp_script.specs.ScriptSteps.{node_of, Ends, Going, Plays, PlaysFirst, Stops}
use Rattle.trdp_script.specs.ScriptSteps.{StopsWanting, TakesBytes}
use Rattle.trdp_script.specs.Wants.{NextMayWant}
use Rattle.trdp_script.specs.Writes.{PassesOn, PassesSome}
use Rattle.trdp_script.proofs.ScriptLemmas.Fronts.{ended_append, events_append, fault_append}
use Rattle.trdp_script.proofs.ScriptLemmas.Fronts.{next_append}
use Rattle.trdp_script.proofs.ScriptLemmas.Fronts.{nodes_append, none_ended, take_append}
use Rattle.trdp_script.proofs.ScriptLemmas.Fronts.{text_append}
use Rattle.trdp_script.proofs.ScriptLemmas.Lines.{LongFirst, long_line, too_long_events}
use Rattle.trdp_script.proofs.ScriptLemmas.Lines.{too_long_fault}
use Rattle.trdp_script.proofs.PlayLemmas.Written.{passes_both, passes_some_after, passes_some_of}
use Rattle.trdp_script.proofs.PlayLemmas.Written.{passes_nothing}

-- what comes later means the same
pub later_fault : {old new : Going} {bytes text : List ℕ} (p : TakesBytes old new bytes text)
    (later : List ℕ) → fault_from old.number (lines (old.line ++ (bytes ++ later)))
    ≡ fault_from new.number (lines (new.line ++ later))
later_fault {old} {new} p later =
    ap (fault_from old.number) (p.lines_are later)
    ∙ fault_append old.number p.ended (lines (new.line ++ later)) p.no_fault
    ∙ ap (λ n. fault_from n (lines (new.line ++ later))) (sym p.number)

pub later_events : {old new : Going} {bytes text : List ℕ} (p : TakesBytes old new bytes text)
    (later : List ℕ) → events_of (lines (old.line ++ (bytes ++ later)))
    ≡ events_of p.ended ++ events_of (lines (new.line ++ later))
later_events {old} {new} p later =
    ap events_of (p.lines_are later)
    ∙ events_append old.number p.ended (lines (new.line ++ later)) p.no_fault

-- the text of some bytes and then of others
pub text_joined : {old new : Going} {bytes text : List ℕ}
    (p : TakesBytes old new bytes text) (events : List EventModel)
    → events_text old.node (events_of p.ended ++ events) ≡ text ++ events_text new.node events
text_joined {old} {new} {bytes} {text} p events =
    text_append old.node (events_of p.ended) events
    ∙ ap (λ l. l ++ events_text (nodes_after old.node (events_of p.ended)) events) (sym p.text_is)
    ∙ ap (λ n. text ++ events_text n events) (sym p.node_is)

-- bytes that are taken one after another
pub takes_both : {a b c : Going} {bs cs xs ys : List ℕ}
    → TakesBytes a b bs xs → TakesBytes b c cs ys → TakesBytes a c (bs ++ cs) (xs ++ ys)
takes_both {a} {b} {c} {bs} {cs} {xs} {ys} p q =
    let events = events_append a.number p.ended q.ended p.no_fault in
    record {
      ended = p.ended ++ q.ended;
      lines_are = λ later. ap (λ l. lines (a.line ++ l)) (append_assoc bs cs later)
          ∙ p.lines_are (cs ++ later)
          ∙ ap (λ l. p.ended ++ l) (q.lines_are later)
          ∙ sym (append_assoc p.ended q.ended (lines (c.line ++ later)));
      count = omega (
        arith,
        length-append p.ended q.ended,
        p.count,
        q.count,
        ended_append bs cs,
      );
      number = omega (arith, length-append p.ended q.ended, p.number, q.number);
      no_fault = fault_append a.number p.ended q.ended p.no_fault
          ∙ ap (λ n. fault_from n q.ended) (sym p.number) ∙ q.no_fault;
      node_is = q.node_is ∙ ap (λ n. nodes_after n (events_of q.ended)) p.node_is
          ∙ sym (ap (nodes_after a.node) events
          ∙ nodes_append a.node (events_of p.ended) (events_of q.ended));
      text_is = ap (λ l. xs ++ l) q.text_is
          ∙ sym (ap (events_text a.node) events ∙ text_joined p (events_of q.ended));
    }

pub plays_both : {a b c : Script} {v w x : Option (List ℕ)} {bs cs : List ℕ}
    → Plays a b v w bs → Plays b c w x cs → Plays a c v x (bs ++ cs)
plays_both p q = record {
  text = p.text ++ q.text;
  taken = takes_both p.taken q.taken;
  passed = passes_both p.passed q.passed;
}

-- the text of bytes and of the rest of the input
pub rest_text :
    {a b : Script} {v w : Option (List ℕ)} {bs : List ℕ} (p : Plays a b v w bs) (rest : List ℕ)
    → events_text (node_of a.player) (events_of (lines (a.line.items ++ (bs ++ rest))))
    ≡ p.text ++ events_text (node_of b.player) (events_of (lines (b.line.items ++ rest)))
rest_text {a} {b} p rest = ap (events_text (node_of a.player)) (later_events p.taken rest)
    ∙ text_joined p.taken (events_of (lines (b.line.items ++ rest)))

-- the lines that end in bytes that were played, and the first of the rest
front_lines : {a b : Script} {v w : Option (List ℕ)} {bs : List ℕ} (p : Plays a b v w bs)
    (rest : List ℕ) (k : ℕ)
    → take (length p.taken.ended + k) (lines (a.line.items ++ (bs ++ rest)))
    ≡ p.taken.ended ++ take k (lines (b.line.items ++ rest))
front_lines {a} {b} p rest k =
    ap (take (length p.taken.ended + k)) (p.taken.lines_are rest)
    ∙ take_append p.taken.ended (lines (b.line.items ++ rest)) k

pub first_after : {a b c : Script} {v w x : Option (List ℕ)} {bs : List ℕ} (rest : List ℕ) (k : ℕ)
    (p : Plays a b v w bs) → PlaysFirst b c w x rest k
    → PlaysFirst a c v x (bs ++ rest) (length p.taken.ended + k)
first_after {a} {b} rest k p q =
    let first = front_lines p rest k in
    let more = take k (lines (b.line.items ++ rest)) in
    record {
      text = p.text ++ q.text;
      passed = passes_both p.passed q.passed;
      no_fault = ap (fault_from a.number) first
          ∙ fault_append a.number p.taken.ended more p.taken.no_fault
          ∙ ap (λ n. fault_from n more) (sym p.taken.number) ∙ q.no_fault;
      text_is = ap (λ l. p.text ++ l) q.text_is ∙ sym (ap (events_text (node_of a.player))
          (ap events_of first ∙ events_append a.number p.taken.ended more p.taken.no_fault)
          ∙ text_joined p.taken (events_of more));
    }

-- before any line of the rest
pub first_here : {a b : Script} {v w : Option (List ℕ)} (rest : List ℕ)
    → PassesOn v w a.player.output.items b.player.output.items [] → PlaysFirst a b v w rest 0
first_here rest passed = record { text = []; passed = passed; no_fault = refl; text_is = refl }

pub wanting_after : {a b c : Script} {v w x : Option (List ℕ)} {bs : List ℕ} (rest : List ℕ)
    → Plays a b v w bs → StopsWanting b c w x rest → StopsWanting a c v x (bs ++ rest)
wanting_after {a} {b} rest p q =
    let later = lines (b.line.items ++ rest) in
    let next = subst (λ (n : NodeModel). NextMayWant n later q.count) p.taken.node_is q.wanting in
    record {
      count = length p.taken.ended + q.count;
      played = first_after rest q.count p q.played;
      wanting = subst (λ (l : List (List ℕ)).
          NextMayWant (node_of a.player) l (length p.taken.ended + q.count))
          (sym (p.taken.lines_are rest))
          (next_append (node_of a.player) a.number p.taken.ended later q.count p.taken.no_fault
          next);
    }

-- a fault that comes after bytes that were played
pub stops_after : {a b : Script} (c : Script) {v w : Option (List ℕ)}
    (x : Option (List ℕ)) {bs : List ℕ} (rest : List ℕ) (fault : ScriptFault)
    → Plays a b v w bs → Stops b c w x rest fault → Stops a c v x (bs ++ rest) fault
unfolding Stops
stops_after c x rest (Line n fault) p q = record {
  text = p.text ++ q.text;
  passed = passes_both p.passed q.passed;
  first = later_fault p.taken rest ∙ q.first;
  text_is = ap (λ l. p.text ++ l) q.text_is ∙ sym (rest_text p rest);
}
stops_after c x rest Read p q = q
stops_after {a} {b} c {v} {w} x {bs} rest Write p q =
    subst (λ (l : List ℕ). PassesSome v x a.player.output.items l)
    (sym (rest_text p rest)) (passes_some_after p.passed q)
stops_after c x rest OutOfMemory p q = wanting_after rest p q

-- an end that comes after bytes that were played
pub ends_after : {a b c : Script} {v w x : Option (List ℕ)} {bs : List ℕ} (rest : List ℕ)
    → Plays a b v w bs → Ends b c w x rest → Ends a c v x (bs ++ rest)
ends_after rest p q = record {
  text = p.text ++ q.text;
  passed = passes_both p.passed q.passed;
  no_fault = later_fault p.taken rest ∙ q.no_fault;
  text_is = ap (λ l. p.text ++ l) q.text_is ∙ sym (rest_text p rest);
}

-- bytes were added to the line that has begun
pub gathered : (old new : Script) (w : Option (List ℕ)) (bytes : List ℕ) → IsBare bytes
    → new.line.items ≡ old.line.items ++ bytes → new.player ≡ old.player → new.number ≡ old.number
    → Plays old new w w bytes
gathered old new w bytes bare grown same number = record {
  text = [];
  passed = subst (λ (l : List ℕ). PassesOn w w old.player.output.items l [])
      (sym (ap (λ p. p.output.items) same)) (passes_nothing w old.player.output.items);
  taken = record {
    ended = [];
    lines_are = λ later. ap lines (sym (append_assoc old.line.items bytes later)
        ∙ ap (λ l. l ++ later) (sym grown));
    count = sym (none_ended bytes bare);
    number = omega (arith, number);
    no_fault = refl;
    node_is = ap node_of same;
    text_is = refl;
  };
}

-- a line that is too long, however it goes on
pub too_long_stops : (s : Script) (w : Option (List ℕ)) (bytes later : List ℕ)
    → IsBare s.line.items → IsBare bytes → 140001 < length s.line.items + length bytes
    → Stops s s w w (bytes ++ later) (Line s.number TooLong)
unfolding Stops
too_long_stops s w bytes later bare more long =
    let bare_all = All-append (λ b. (b == 10) ≡ false) s.line.items bytes bare more in
    let longer : 140000 + 1 < length (s.line.items ++ bytes) =
    omega (arith, long, length-append s.line.items bytes) in
    let first =
    subst (λ (l : List ℕ). LongFirst 140000 (lines l)) (append_assoc s.line.items bytes later)
    (long_line 140000 later (s.line.items ++ bytes) bare_all longer) in
    record {
      text = [];
      passed = passes_nothing w s.player.output.items;
      first = too_long_fault s.number _ first;
      text_is = ap (events_text (node_of s.player)) (sym (too_long_events _ first));
    }

-- a write that failed
pub write_stops : (old new : Script) (v w : Option (List ℕ)) (r : Result (Unit {0}) ScriptFault)
    → IfErr r (λ fault. fault ≡ Write) → OnErr r (PassesSome v w old.player.output.items [])
    → IfErr r (λ fault. (rest : List ℕ) → Stops old new v w rest fault)
unfolding Stops
write_stops old new v w (Ok done) is some = tt
write_stops old new v w (Err fault) is some =
    λ rest. subst (λ (f : ScriptFault). Stops old new v w rest f) (sym is) (passes_some_of
    (events_text (node_of old.player) (events_of (lines (old.line.items ++ rest)))) some)

-- no byte is taken
pub plays_nothing : (s : Script) (w : Option (List ℕ)) → Plays s s w w []
plays_nothing s w = record {
  text = [];
  passed = passes_nothing w s.player.output.items;
  taken = record {
    ended = [];
    lines_are = λ later. refl;
    count = refl;
    number = omega arith;
    no_fault = refl;
    node_is = refl;
    text_is = refl;
  };
}
