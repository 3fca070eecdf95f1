-- What is known of a connection: what it said, and what waits to be said to it.
use Rattle.std.specs.Prelude.{◌≡◌, ℕ, ◌||◌, ◌++◌, Bool, false, List, [], ◌∷◌, map, take}
use Rattle.std.specs.Prelude.{Option, Some, None}
use Rattle.std.specs.List.{flat_map}
use Rattle.trdp_lines.specs.Connections.{ConnectionCall, Reading, Reads, Writing, Writes}
use Rattle.trdp_base.specs.Reported.{TellsMore}
use Rattle.trdp_lines.specs.Connections.{reading_bytes, went_count}
use Rattle.trdp_lines.specs.Lines.{has_line, lines_in}
use Rattle.trdp_lines.specs.Outgoings.{OutgoingState, no_outgoing}
use Rattle.trdp_lines.specs.OutgoingRuns.{OutgoingStep, after_steps, all_taken, texts_of}
use Rattle.trdp_lines.specs.Said.{Said, end_if, is_end, is_too_long, said_by}

-- a connection, or none; what came from it and isn't handed in, whether a line of it was, whether
-- it has ended, and what waits to go out to it
pub record ConversationState : Type 0 where
  pub number : Option ℕ
  pub bytes : List ℕ
  pub spoke : Bool
  pub ended : Bool
  pub outgoing : OutgoingState

-- there is no connection, or one that just came
abbrev pub conversation_of : Option ℕ → ConversationState
conversation_of number = record {
  number = number;
  bytes = [];
  spoke = false;
  ended = false;
  outgoing = no_outgoing;
}

-- it has ended, or says a line that is too long
abbrev pub is_done : ConversationState → Bool
is_done c = c.ended || is_too_long c.bytes

-- what a connection of this number says that isn't handed in yet
abbrev pub left_by : Option ℕ → ConversationState → List Said
left_by None c = []
left_by (Some n) c =
    said_by n (lines_in c.bytes) ++ end_if n (is_done c) (c.spoke || has_line c.bytes)

-- what is left to hand in where an end counts
abbrev pub left_to_hand_in : ConversationState → List Said
left_to_hand_in c = left_by c.number c

-- the same where it doesn't: whole lines alone
abbrev pub lines_left_by : Option ℕ → ConversationState → List Said
lines_left_by None c = []
lines_left_by (Some n) c = said_by n (lines_in c.bytes)

-- one read was made from a connection of this number, whose bytes follow those that were there
pub record HasRead (number : ℕ) (old new : ConversationState)
    (calls calls_then : Option (List ConnectionCall)) : Type 0 where
  pub reading : Reading
  pub told : TellsMore calls calls_then (Reads number reading ∷ [])
  pub read : new ≡ record old {
    bytes = old.bytes ++ reading_bytes reading;
    ended = old.ended || is_end reading.arrived;
  }

-- the bytes that the other side took at a write
abbrev pub bytes_taken : Writing → List ℕ
bytes_taken writing = take (went_count writing.went) writing.bytes

-- These texts were pushed, in order, and writes to a connection of this number were made, by which
-- the other side took what these steps say. Where no write was made, nothing waited and
-- nothing waits.
pub record HasWritten (number : ℕ) (texts : List (List ℕ)) (old new : ConversationState)
    (calls calls_then : Option (List ConnectionCall)) : Type 0 where
  pub steps : List OutgoingStep
  pub writings : List Writing
  pub texts_are : texts_of steps ≡ texts
  pub told : TellsMore calls calls_then (map (Writes number) writings)
  pub took : flat_map bytes_taken writings ≡ all_taken old.outgoing steps
  pub written : new ≡ record old { outgoing = after_steps old.outgoing steps }
  pub tried : writings ≡ [] → (old.outgoing.waiting ≡ []) × (new.outgoing.waiting ≡ [])
