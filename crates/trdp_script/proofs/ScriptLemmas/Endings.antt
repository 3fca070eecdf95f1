-- A script from its start to its end.
-- For `Script::run_whole`.
-- By cases on the end: the input's, a fault's, or that of a write that failed.
use Rattle.std.proofs.Common.{inr, ◌≡◌, ℕ, List, [], ◌++◌, length, take, Ok, Err}
use Rattle.std.proofs.Common.{Option, Result, refl, sym, ◌∙◌, ap, append-nil, subst}
use Rattle.std.proofs.Math.Seq.{take-append_seam}
use Rattle.std.specs.Str.Lines.{lines}
use Rattle.std.specs.Io.KnownBytes.{Appends}
use Rattle.trdp_dataset.specs.Configs.{ConfigModel}
use Rattle.trdp_model.specs.NodeModels.{NodeModel, opened_model}
use Rattle.trdp_script.specs.Pieces.{ended_lines}
use Rattle.trdp_script.specs.ScriptRuns.{PlaysLines, RunsScript, WritesFront}
use Rattle.trdp_script.specs.declared.script.Script.{Script}
use Rattle.trdp_script.specs.declared.fault.ScriptFault.{ScriptFault}
use Rattle.trdp_script.specs.declared.fault.ScriptFault.TheVariants.{Line, Read, Write}
use Rattle.trdp_script.specs.declared.fault.ScriptFault.TheVariants.{OutOfMemory}
use Rattle.trdp_script.specs.ScriptText.{events_of, events_text, fault_from}
use Rattle.trdp_script.specs.ScriptText.{script_events, script_fault, script_text}
use Rattle.trdp_script.specs.ScriptSteps.{node_of, ComesTo, PlaysFirst, Starts, Stops}
use Rattle.trdp_script.specs.Wants.{NextMayWant}
use Rattle.trdp_script.specs.Writes.{PassesOn, PassesSome}
use Rattle.trdp_script.proofs.ScriptLemmas.Fronts.{lines_front}
use Rattle.trdp_script.proofs.PlayLemmas.Written.{passes_both, passes_some_after, passes_some_of}

starts_fault : {config : ConfigModel} {s : Script} → Starts config s
    → (input : List ℕ) → fault_from s.number (lines (s.line.items ++ input)) ≡ script_fault input
starts_fault {config} {s} start input =
    ap (λ n. fault_from n (lines (s.line.items ++ input))) start.number
    ∙ ap (λ l. fault_from 1 (lines (l ++ input))) start.line

starts_events : {config : ConfigModel} {s : Script} → Starts config s
    → (input : List ℕ) → events_of (lines (s.line.items ++ input)) ≡ script_events input
starts_events {config} {s} start input = ap (λ l. events_of (lines (l ++ input))) start.line

-- all text so far was written
passed_whole : {v w : Option (List ℕ)} {held held_then text : List ℕ}
    → held ≡ [] → held_then ≡ [] → PassesOn v w held held_then text → Appends v w text
passed_whole {v} {w} {held} {held_then} {text} empty empty_then passed =
    let same : text ≡ passed.part = sym (ap (λ l. l ++ text) empty)
    ∙ passed.rest ∙ ap (λ l. passed.part ++ l) empty_then ∙ append-nil passed.part in
    subst (λ (l : List ℕ). Appends v w l) (sym same) passed.written

take_front : (xs ys : List ℕ) → take (length xs) (xs ++ ys) ≡ xs
take_front xs ys = take-append_seam xs ys

-- a front of the text was written
passed_front : {v w : Option (List ℕ)} {held text : List ℕ}
    → held ≡ [] → PassesSome v w held text → (n : ℕ) × Appends v w (take n text)
passed_front {v} {w} {held} {text} empty some =
    let same : text ≡ some.passed.part ++ some.lost =
    sym (ap (λ l. l ++ text) empty) ∙ some.passed.rest in (
      length some.passed.part,
      subst (λ (l : List ℕ). Appends v w l)
          (sym (ap (take (length some.passed.part)) same ∙ take_front some.passed.part some.lost))
          some.passed.written,
    )

-- the text so far, where all of it was written
starts_text : (config : ConfigModel) (s : Script) → Starts config s
    → (input : List ℕ) → events_text (node_of s.player) (events_of (lines (s.line.items ++ input)))
    ≡ script_text config input
starts_text config s start input =
    ap (λ n. events_text n (events_of (lines (s.line.items ++ input)))) start.node
    ∙ ap (events_text (opened_model config)) (starts_events start input)

-- the same of the first lines
starts_first : (config : ConfigModel) (s : Script) → Starts config s → (input : List ℕ) (n : ℕ)
    → events_text (node_of s.player) (events_of (take n (lines (s.line.items ++ input))))
    ≡ events_text (opened_model config) (events_of (take n (lines input)))
starts_first config s start input n = ap (λ m. events_text m
    (events_of (take n (lines (s.line.items ++ input))))) start.node
    ∙ ap (λ l. events_text (opened_model config) (events_of (take n (lines (l ++ input)))))
    start.line

-- the first lines of a script were played, and their text is written
first_written : (config : ConfigModel) (a b c : Script) (u v w : Option (List ℕ)) (input : List ℕ)
    (n : ℕ) → Starts config a → c.player.output.items ≡ [] → PlaysFirst a b u v input n
    → PassesOn v w b.player.output.items c.player.output.items [] → PlaysLines config input n u w
first_written config a b c u v w input n start empty first flushed = record {
  no_fault = sym (ap (λ k. fault_from k (take n (lines (a.line.items ++ input)))) start.number
      ∙ ap (λ l. fault_from 1 (take n (lines (l ++ input)))) start.line) ∙ first.no_fault;
  written = subst (λ (l : List ℕ). Appends u w l)
      (append-nil first.text ∙ first.text_is ∙ starts_first config a start input n)
      (passed_whole start.output empty (passes_both first.passed flushed));
}

-- the line after them
starts_next : (config : ConfigModel) (s : Script) → Starts config s → (input : List ℕ) (n : ℕ)
    → NextMayWant (node_of s.player) (lines (s.line.items ++ input)) n
    → NextMayWant (opened_model config) (lines input) n
starts_next config s start input n next =
    subst (λ (l : List ℕ). NextMayWant (opened_model config) (lines (l ++ input)) n) start.line
    (subst (λ (m : NodeModel). NextMayWant m (lines (s.line.items ++ input)) n)
    start.node next)

-- a run that comes to its end, whose output is written
pub run_written : (config : ConfigModel) (a b c : Script) (u v w : Option (List ℕ))
    (input : List ℕ) (left : Option (List ℕ)) (r : Result (Unit {0}) ScriptFault)
    → Starts config a → c.player.output.items ≡ []
    → ComesTo a b u v input left r → (r ≡ Err Write → ⊥)
    → PassesOn v w b.player.output.items c.player.output.items []
    → RunsScript config input left u w r
unfolding ComesTo Stops
run_written config a b c u v w input left (Ok done) start empty came other flushed = record {
  at_end = came.1;
  no_fault = sym (starts_fault start input) ∙ came.0.no_fault;
  written = subst (λ (l : List ℕ). Appends u w l)
      (append-nil came.0.text ∙ came.0.text_is ∙ starts_text config a start input)
      (passed_whole start.output empty (passes_both came.0.passed flushed));
}
run_written config a b c u v w input left (Err (Line n fault)) start empty came other flushed =
    record {
      first = sym (starts_fault start input) ∙ came.first;
      written = subst (λ (l : List ℕ). Appends u w l)
          (append-nil came.text ∙ came.text_is ∙ starts_text config a start input)
          (passed_whole start.output empty (passes_both came.passed flushed));
    }
run_written config a b c u v w input left (Err Read) start empty came other flushed = record {
  read = came.read;
  behind = came.behind;
  whole = came.whole;
  left_is = came.left_is;
  played = first_written config a b c u v w input (ended_lines came.read) start empty came.played
      flushed;
}
run_written config a b c u v w input left (Err Write) start empty came other flushed =
    absurd (other refl)
run_written config a b c u v w input left (Err OutOfMemory) start empty came other flushed =
    record {
      count = came.count;
      played = first_written config a b c u v w input came.count start empty came.played flushed;
      wanting = inr (starts_next config a start input came.count came.wanting);
    }

-- a run that ends at a write
pub run_cut : (config : ConfigModel) (a b : Script) (u v : Option (List ℕ))
    (input : List ℕ) (left : Option (List ℕ)) (r : Result (Unit {0}) ScriptFault) → Starts config a
    → ComesTo a b u v input left r → r ≡ Err Write → RunsScript config input left u v r
unfolding ComesTo Stops
run_cut config a b u v input left (Ok done) start came cut = absurd (cc)
run_cut config a b u v input left (Err (Line n fault)) start came cut = absurd (cc)
run_cut config a b u v input left (Err Read) start came cut = absurd (cc)
run_cut config a b u v input left (Err Write) start came cut =
    let front = passed_front start.output (subst (λ (l : List ℕ).
    PassesSome u v a.player.output.items l) (starts_text config a start input) came) in
    record { length = front.0; written = front.1 }
run_cut config a b u v input left (Err OutOfMemory) start came cut = absurd (cc)

-- a front of the text of a run
told_front : (config : ConfigModel) (a b : Script) (u v w : Option (List ℕ))
    (input : List ℕ) (text rest : List ℕ) → Starts config a
    → PassesOn u v a.player.output.items b.player.output.items text
    → script_text config input ≡ text ++ rest
    → PassesSome v w b.player.output.items [] → WritesFront config input u w
told_front config a b u v w input text rest start told is some =
    let all : PassesSome u w a.player.output.items (script_text config input) =
    subst (λ (l : List ℕ). PassesSome u w a.player.output.items l)
    (ap (λ l. l ++ rest) (append-nil text) ∙ sym is)
    (passes_some_of rest (passes_some_after told some)) in
    let front = passed_front start.output all in
    record { length = front.0; written = front.1 }

-- the first lines were played, and a front of their text is written
first_unwritten : (config : ConfigModel) (a b : Script) (u v w : Option (List ℕ)) (input : List ℕ)
    (n : ℕ) → Starts config a → PlaysFirst a b u v input n
    → PassesSome v w b.player.output.items [] → WritesFront config input u w
first_unwritten config a b u v w input n start first some =
    let front = lines_front (node_of a.player) a.number (lines (a.line.items ++ input)) n
    first.no_fault in
    told_front config a b u v w input first.text front.0 start first.passed
    (sym (starts_text config a start input) ∙ front.1 ∙ ap (λ l. l ++ front.0) (sym first.text_is))
    some

-- a run that comes to its end, whose output can't be written
pub run_unwritten : (config : ConfigModel) (a b : Script) (u v w : Option (List ℕ))
    (input : List ℕ) (left : Option (List ℕ)) (r : Result (Unit {0}) ScriptFault) → Starts config a
    → ComesTo a b u v input left r → (r ≡ Err Write → ⊥)
    → PassesSome v w b.player.output.items [] → WritesFront config input u w
unfolding ComesTo Stops
run_unwritten config a b u v w input left (Ok done) start came other some =
    told_front config a b u v w input came.0.text [] start came.0.passed
    (sym (append-nil came.0.text ∙ came.0.text_is ∙ starts_text config a start input)) some
run_unwritten config a b u v w input left (Err (Line n fault)) start came other some =
    told_front config a b u v w input came.text [] start came.passed
    (sym (append-nil came.text ∙ came.text_is ∙ starts_text config a start input)) some
run_unwritten config a b u v w input left (Err Read) start came other some =
    first_unwritten config a b u v w input (ended_lines came.read) start came.played some
run_unwritten config a b u v w input left (Err Write) start came other some = absurd (other refl)
run_unwritten config a b u v w input left (Err OutOfMemory) start came other some =
    first_unwritten config a b u v w input came.count start came.played some

-- a run whose last output can't be written
pub run_fails : (config : ConfigModel) (a b : Script) (u v w : Option (List ℕ)) (input : List ℕ)
    (left : Option (List ℕ)) (r : Result (Unit {0}) ScriptFault) (fault : ScriptFault)
    → Starts config a
    → ComesTo a b u v input left r → (r ≡ Err Write → ⊥) → PassesSome v w b.player.output.items []
    → fault ≡ Write → RunsScript config input left u w (Err fault)
run_fails config a b u v w input left r fault start came other some is =
    subst (λ (f : ScriptFault). RunsScript config input left u w (Err f))
    (sym is) (run_unwritten config a b u v w input left r start came other some)
