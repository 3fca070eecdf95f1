-- A take of a path, of its parts.
-- For `Path::take`.
-- By: who comes first, what is written and what is found after that.
use Rattle.std.proofs.Common.{◌≡◌, ℕ, List, [], ◌∷◌, Bool, false, Option, Some, None, refl}
use Rattle.std.specs.Prelude.{is_some}
use Rattle.trdp_lines.specs.declared.rule.Rule.{Rule}
use Rattle.trdp_lines.specs.Askings.{AsksPlaces}
use Rattle.trdp_lines.specs.Connections.{ConnectionCall}
use Rattle.trdp_lines.specs.Seatings.{IsPath}
use Rattle.trdp_lines.specs.Seats.{HandsInTexts, PathState, seats_at}
use Rattle.trdp_lines.specs.Steps.{Finds, Goes, HandsInNext, HandsInText}
use Rattle.trdp_lines.proofs.OrderLemmas.{ready_nothing, texts_next}

-- the text that was found is handed in
pub text_found : {C : Type 0} (rule : Rule) (calls_of : C → Option (List ConnectionCall))
    (a b c d : PathState C) (room : ℕ) (found : ℕ × ℕ) (room_then : List ℕ)
    → HandsInTexts rule (calls_of a.connections) (calls_of b.connections) a.seats b.seats []
    → Goes rule calls_of b c [] → Finds rule calls_of c d room found room_then
    → HandsInText rule calls_of a d room found room_then
text_found rule calls_of a b c d room found room_then first goes finds =
    let one = calls_of a.connections in
    let two = calls_of b.connections in
    let three = calls_of c.connections in
    let four = calls_of d.connections in
    record {
      text = finds.text;
      handed_in = texts_next rule one two four a.seats b.seats d.seats ((found.0, finds.text) ∷ [])
          first (texts_next rule two three four b.seats c.seats d.seats
          ((found.0, finds.text) ∷ []) goes.handed_in finds.goes.handed_in);
      bytes = finds.bytes;
    }

-- whatever is heard then
pub text_heard : {C : Type 0} (rule : Rule) (calls_of : C → Option (List ConnectionCall))
    (path path_then : PathState C) (room : ℕ) (found : ℕ × ℕ) (room_then : List ℕ) (heard : Bool)
    → HandsInText rule calls_of path path_then room found room_then
    → HandsInText rule calls_of path (record path_then { heard = heard }) room found room_then
text_heard rule calls_of path path_then room found room_then heard next = record {
  text = next.text;
  handed_in = next.handed_in;
  bytes = next.bytes;
}

-- where none was found none is left
pub none_found : {C : Type 0} (rule : Rule) (calls_of : C → Option (List ConnectionCall))
    (a b c d : PathState C) (room : ℕ) (room_then : List ℕ)
    → HandsInTexts rule (calls_of a.connections) (calls_of b.connections) a.seats b.seats []
    → Goes rule calls_of b c [] → Goes rule calls_of c d []
    → AsksPlaces 0 (seats_at rule) (calls_of c.connections) (calls_of d.connections) c.seats d.seats
    c.waiting
    → IsPath rule (calls_of d.connections) d.seats d.waiting d.came
    → HandsInNext rule calls_of a d room None room_then
none_found rule calls_of a b c d room room_then first goes rest asked path =
    let one = calls_of a.connections in
    let two = calls_of b.connections in
    let three = calls_of c.connections in
    let four = calls_of d.connections in (
      texts_next rule one two four a.seats b.seats d.seats [] first
          (texts_next rule two three four b.seats c.seats d.seats [] goes.handed_in rest.handed_in),
      ready_nothing rule d.seats path.size asked.ready,
    )

-- where none waits there is no number
pub none_of : (waiting : Option ℕ) → is_some waiting ≡ false → waiting ≡ None
none_of None none = refl
none_of (Some n) none = cc
