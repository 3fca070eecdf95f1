-- What a connection is asked in its turn, one call after another.
-- For `Path`.
-- By: what each call adds to the bytes of the connection, and to those of another.
use Rattle.std.proofs.Common.{◌≡◌, ℕ, ◌==◌, ◌++◌, List, [], ◌∷◌, true, false, map, refl}
use Rattle.std.proofs.Common.{ap, sym, ◌∙◌, append_assoc, Option, Some, None}
use Rattle.std.proofs.lemmas.Bool.{ne_eqb}
use Rattle.std.proofs.lemmas.List.{append-nil}
use Rattle.trdp_lines.specs.Closings.{IsUnheard}
use Rattle.trdp_lines.specs.Connections.{ConnectionCall, Reads, Writes, reading_bytes}
use Rattle.trdp_lines.specs.Conversations.{ConversationState, HasRead, HasWritten}
use Rattle.trdp_lines.specs.Lines.{has_line, first_line, behind_line, lines_in}
use Rattle.trdp_lines.specs.Paths.{IsWhatWasRead}
use Rattle.trdp_lines.specs.Turns.{HasTurn, HasTurnIfTold, StaysHeard}
use Rattle.trdp_lines.proofs.CallLemmas.{AreUnheard, quiet_come, read_bytes}
use Rattle.trdp_lines.proofs.CallLemmas.{read_bytes_other, read_come, read_end, read_end_other}
use Rattle.trdp_lines.proofs.CallLemmas.{unheard_bytes, unheard_end, writes_quiet}
use Rattle.trdp_lines.proofs.ClosingLemmas.{writes_close}
use Rattle.trdp_lines.proofs.HeardLemmas.{line_handed}

-- calls that read nothing read nothing from any connection
pub unheard_by : (calls calls_then more : List ConnectionCall) → AreUnheard more
    → calls_then ≡ calls ++ more → (k : ℕ) → IsUnheard calls calls_then k
unheard_by calls calls_then more quiet told k = rw told (record {
  bytes = unheard_bytes calls more quiet k;
  ended = unheard_end calls more quiet k;
})

-- what is known of a connection that isn't read from stays known, if what it wrote alone changed
pub heard_kept : (calls calls_then : List ConnectionCall) (n : ℕ) (c c_then : ConversationState)
    → IsUnheard calls calls_then n → c_then.bytes ≡ c.bytes → c_then.spoke ≡ c.spoke
    → c_then.ended ≡ c.ended → (was : IsWhatWasRead calls n c)
    → StaysHeard n calls calls_then c c_then [] was
heard_kept calls calls_then n c c_then unheard bytes spoke ended was = record {
  heard = record {
    before = was.before;
    bytes = unheard.bytes ∙ was.bytes
        ∙ ap (λ (rest : List ℕ). was.before ++ rest) (sym bytes);
    whole = was.whole;
    spoke = was.spoke ∙ sym spoke;
    ended = unheard.ended ∙ was.ended ∙ sym ended;
  };
  more = sym (append-nil (lines_in was.before));
}

-- a turn of writes
write_turn : (n : ℕ) (calls calls_then : List ConnectionCall) (old new : ConversationState)
    (texts : List (List ℕ)) → HasWritten n texts old new (Some calls) (Some calls_then)
    → HasTurn n calls calls_then old new []
write_turn n calls calls_then old new texts written =
    let more = map (Writes n) written.writings in
    let unheard = unheard_by calls calls_then more (writes_quiet n written.writings).unheard
    written.told in
    record {
      more = more;
      told = written.told;
      come = rw written.told (quiet_come calls more (writes_quiet n written.writings));
      unclosed = λ k. writes_close k n written.writings;
      others = λ k other. unheard k;
      own = heard_kept calls calls_then n old new (unheard n)
          (ap (λ (c : ConversationState). c.bytes) written.written)
          (ap (λ (c : ConversationState). c.spoke) written.written)
          (ap (λ (c : ConversationState). c.ended) written.written);
    }

-- the same of calls that may not be reported
pub written_turn : (n : ℕ) (calls calls_then : Option (List ConnectionCall))
    (old new : ConversationState) (texts : List (List ℕ))
    → HasWritten n texts old new calls calls_then
    → HasTurnIfTold n calls calls_then old new []
written_turn n None None old new texts written = tt
written_turn n None (Some calls_then) old new texts written = absurd written.told
written_turn n (Some calls) None old new texts written = tt
written_turn n (Some calls) (Some calls_then) old new texts written =
    write_turn n calls calls_then old new texts written

-- a turn of one read
read_turn : (n : ℕ) (calls calls_then : List ConnectionCall) (old new : ConversationState)
    → HasRead n old new (Some calls) (Some calls_then)
    → HasTurn n calls calls_then old new []
read_turn n calls calls_then old new read =
    let reading = read.reading in
    record {
      more = Reads n reading ∷ [];
      told = read.told;
      come = rw read.told (read_come calls n reading);
      unclosed = λ k. refl;
      others = λ k other.
          let no : n == k ≡ false = ne_eqb n k (λ same. other (sym same)) in
          rw read.told (record {
            bytes = read_bytes_other calls n k reading no;
            ended = read_end_other calls n k reading no;
          });
      own = λ was. record {
        heard = record {
          before = was.before;
          bytes = rw (read.told, read_bytes calls n reading, was.bytes, read.read)
              (append_assoc was.before old.bytes (reading_bytes reading));
          whole = was.whole;
          spoke = rw read.read was.spoke;
          ended = rw (read.told, read_end calls n reading, was.ended, read.read) refl;
        };
        more = sym (append-nil (lines_in was.before));
      };
    }

-- the same of calls that may not be reported
pub heard_turn : (n : ℕ) (calls calls_then : Option (List ConnectionCall))
    (old new : ConversationState) → HasRead n old new calls calls_then
    → HasTurnIfTold n calls calls_then old new []
heard_turn n None None old new read = tt
heard_turn n None (Some calls_then) old new read = absurd read.told
heard_turn n (Some calls) None old new read = tt
heard_turn n (Some calls) (Some calls_then) old new read =
    read_turn n calls calls_then old new read

-- a turn of one line that is handed in
pub line_turn : (n : ℕ) (calls : Option (List ConnectionCall)) (old new : ConversationState)
    → has_line old.bytes ≡ true
    → new ≡ record old { bytes = behind_line old.bytes; spoke = true }
    → HasTurnIfTold n calls calls old new (first_line old.bytes ∷ [])
line_turn n None old new has is = tt
line_turn n (Some calls) old new has is = record {
  more = [];
  told = sym (append-nil calls);
  come = refl;
  unclosed = λ k. refl;
  others = λ k other. record { bytes = refl; ended = refl };
  own = rw is (line_handed n calls old has);
}

-- a turn where nothing changes
pub still_turn : (n : ℕ) (calls : Option (List ConnectionCall)) (old new : ConversationState)
    → new ≡ old → HasTurnIfTold n calls calls old new []
still_turn n None old new is = tt
still_turn n (Some calls) old new is = record {
  more = [];
  told = sym (append-nil calls);
  come = refl;
  unclosed = λ k. refl;
  others = λ k other. record { bytes = refl; ended = refl };
  own = rw is (λ was. record { heard = was; more = sym (append-nil (lines_in was.before)) });
}
