-- What the other side gets over a run of what waits to go out.
use Rattle.std.specs.Prelude.{◌≡◌, ℕ, ◌<◌, ◌≤◌, ◌++◌, List, [], ◌∷◌, length, take, drop}
use Rattle.std.specs.List.{flat_map}
use Rattle.trdp_lines.specs.Outgoings.{OutgoingState, no_outgoing, lost_line, lost_told}
use Rattle.trdp_lines.specs.Outgoings.{with_text}

-- one step, as `push`, `tell_lost` and `flush` do it: a text is pushed, what was lost is reported
-- alone, or the other side takes that many bytes
pub data OutgoingStep : Type 0 where
  Pushed : (text : List ℕ) → OutgoingStep
  Told : OutgoingStep
  Took : (n : ℕ) → OutgoingStep

-- one piece of what goes out: a whole text, or the line in the place of those that were dropped,
-- with their number
pub data Piece : Type 0 where
  Whole : (text : List ℕ) → Piece
  Dropped : (count : ℕ) → Piece

abbrev pub after_step : OutgoingState → OutgoingStep → OutgoingState
after_step state (Pushed text) = with_text (lost_told state) text
after_step state Told = lost_told state
after_step state (Took n) = record state { waiting = drop n state.waiting }

abbrev pub after_steps : OutgoingState → List OutgoingStep → OutgoingState
after_steps state [] = state
after_steps state (step ∷ steps) = after_steps (after_step state step) steps

-- what the other side takes in a step
abbrev pub taken_in_step : OutgoingState → OutgoingStep → List ℕ
taken_in_step state (Pushed text) = []
taken_in_step state Told = []
taken_in_step state (Took n) = take n state.waiting

-- all that the other side takes, in order
abbrev pub all_taken : OutgoingState → List OutgoingStep → List ℕ
all_taken state [] = []
all_taken state (step ∷ steps) = taken_in_step state step ++ all_taken (after_step state step) steps

-- all that goes out in these steps, and what waits after them
abbrev pub gone_and_waiting : OutgoingState → List OutgoingStep → List ℕ
gone_and_waiting state steps = all_taken state steps ++ (after_steps state steps).waiting

abbrev pub texts_in : OutgoingStep → List (List ℕ)
texts_in (Pushed text) = text ∷ []
texts_in Told = []
texts_in (Took n) = []

-- the texts that are pushed, in order
abbrev pub texts_of : List OutgoingStep → List (List ℕ)
texts_of steps = flat_map texts_in steps

abbrev pub bytes_of_piece : Piece → List ℕ
bytes_of_piece (Whole text) = text
bytes_of_piece (Dropped count) = lost_line count

abbrev pub bytes_of_pieces : List Piece → List ℕ
bytes_of_pieces pieces = flat_map bytes_of_piece pieces

-- these pieces are these texts in order: each is there whole, or it is one of those that a line
-- says were dropped in its place, or one of the given number that were dropped after all pieces
abbrev pub StandFor : List Piece → ℕ → List (List ℕ) → Type 0
StandFor [] lost texts = length texts ≡ lost
StandFor (Whole text ∷ pieces) lost [] = ⊥
StandFor (Whole text ∷ pieces) lost (first ∷ texts) =
    (text ≡ first) × StandFor pieces lost texts
StandFor (Dropped count ∷ pieces) lost texts =
    (0 < count) × (count ≤ length texts) × StandFor pieces lost (drop count texts)

-- what goes out is pieces, which represent the texts that were pushed
pub record GoesWhole (steps : List OutgoingStep) : Type 0 where
  pub pieces : List Piece
  pub bytes : gone_and_waiting no_outgoing steps ≡ bytes_of_pieces pieces
  pub stand : StandFor pieces (after_steps no_outgoing steps).lost (texts_of steps)
