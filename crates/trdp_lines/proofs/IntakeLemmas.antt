-- What a read adds to the bytes of an intake.
-- For `fill`.
-- By: the bytes that came follow those that were there.
use Rattle.std.proofs.Common.{◌≡◌, false, ℕ, ◌+◌, ◌-◌, ◌≤◌, List, ◌++◌, length, take, drop}
use Rattle.std.proofs.Common.{refl, ap, sym, ◌∙◌, arith}
use Rattle.std.proofs.lemmas.List.{take_at, drop_at, take-take, drop-take, take-append-drop}
use Rattle.std.proofs.lemmas.List.{length-drop, length-take-le, take-append-le}
use Rattle.trdp_lines.specs.declared.connections.Came.{Came}
use Rattle.trdp_lines.specs.declared.connections.Came.TheVariants.{Bytes, Nothing, Ended}
use Rattle.trdp_lines.specs.Connections.{reading_of, came_count, reading_bytes}
use Rattle.trdp_lines.specs.Connections.{CameWithin, SomeBytes}
use Rattle.trdp_lines.specs.Intakes.{intake_room, lying, LieInOrder, reading_between}
use Rattle.trdp_lines.specs.Lines.{has_line}

again : (n : ℕ) (old bytes : List ℕ)
    → take n (drop (length old) (old ++ take n bytes)) ≡ take n bytes
again n old bytes =
    rw (drop_at old (take n bytes) (length old) refl) (take-take n n bytes (omega arith))

pub told_between : (came : Came) (old bytes : List ℕ)
    → reading_between came old (old ++ take (came_count came) bytes)
    ≡ reading_of came (intake_room - length old) bytes
told_between (Bytes n) old bytes = ap (λ (l : List ℕ).
    record { room = intake_room - length old; arrived = SomeBytes l }) (again n old bytes)
told_between Nothing old bytes = refl
told_between Ended old bytes = refl

pub came_of : (came : Came) (room : ℕ) (bytes : List ℕ)
    → reading_bytes (reading_of came room bytes) ≡ take (came_count came) bytes
came_of (Bytes n) room bytes = refl
came_of Nothing room bytes = refl
came_of Ended room bytes = refl

pub came_at_most : (came : Came) (most : ℕ) → CameWithin most came → came_count came ≤ most
came_at_most (Bytes n) most within = within.1
came_at_most Nothing most within = omega arith
came_at_most Ended most within = omega arith

-- a front of a list, and what follows it there
pub take_both : (k n : ℕ) (l : List ℕ) → take (k + n) l ≡ take k l ++ take n (drop k l)
take_both k n l =
    let front : take k (take (k + n) l) ≡ take k l = take-take k (k + n) l (omega arith) in
    let behind : drop k (take (k + n) l) ≡ take n (drop k l) = drop-take k n l in
    sym (take-append-drop k (take (k + n) l)) ∙ rw (front, behind) refl

-- how many bytes are there
pub lying_length : (room : List ℕ) (begin «end» : ℕ) → «end» ≤ length room
    → length (lying room begin «end») ≡ «end» - begin
lying_length room begin «end» within =
    omega (arith, length-drop begin (take «end» room), length-take-le «end» room within)

-- A room that has the bytes that were there and, after them, those that came.
module _ (came : Came) (items room rest : List ℕ) (len begin «end» : ℕ)
    (size : length room ≡ len) (within : «end» ≤ length items)
    (bytes : take («end» - begin + came_count came) room
    ≡ lying items begin «end» ++ take (came_count came) (drop («end» - begin) room)) where
  -- the bytes that were there, and all of them now
  abbrev old : List ℕ
  old = lying items begin «end»

  abbrev new : List ℕ
  new = take («end» - begin + came_count came) (take len (room ++ rest))

  added : new ≡ old ++ take (came_count came) (drop («end» - begin) room)
  added = rw (take_at room rest len size) bytes

  pub read_between : reading_between came old new
      ≡ reading_of came (intake_room - («end» - begin)) (drop («end» - begin) room)
  read_between = rw (
    added,
    told_between came old (drop («end» - begin) room),
    lying_length items begin «end» within,
  ) refl

  pub grown_by : new ≡ old ++ reading_bytes (reading_between came old new)
  grown_by =
      let read : reading_bytes (reading_between came old new)
      ≡ take (came_count came) (drop («end» - begin) room) =
      ap reading_bytes read_between
      ∙ came_of came (intake_room - («end» - begin)) (drop («end» - begin) room) in
      added ∙ ap (λ (l : List ℕ). old ++ l) (sym read)

  pub longer_by : «end» - begin + came_count came ≤ len → length new ≡ length old + came_count came
  longer_by most = omega (
    arith,
    lying_length items begin «end» within,
    length-take-le («end» - begin + came_count came) (take len (room ++ rest))
        (omega (arith, most, size, ap length (take_at room rest len size))),
    ap length (take_at room rest len size),
  )

  -- the end of a line that comes now is not among the bytes that were seen
  pub still_in_order : (seen : ℕ) → length room ≡ intake_room
      → «end» - begin + came_count came ≤ intake_room → begin + seen ≤ «end»
      → has_line (take seen old) ≡ false
      → LieInOrder (take len (room ++ rest)) 0 («end» - begin + came_count came) seen
  still_in_order seen whole most order unended = record {
    size = rw (take_at room rest len size) whole;
    within = most;
    order = omega (arith, order);
    unended = rw (
      added,
      take-append-le seen old (take (came_count came) (drop («end» - begin) room))
          (omega (arith, lying_length items begin «end» within, order)),
    ) unended;
  }
