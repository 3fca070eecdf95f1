-- Turns that are attended to in several pieces, until a line is due.
-- For `attend_until`.
-- By a loop's invariant: the turns of all pieces so far begin before the line is due.
use Rattle.std.proofs.Common.{◌≡◌, ◌+◌, ◌<◌, ◌≤◌, ◌-◌, ◌^◌, ℕ, List, [], ◌∷◌, ◌++◌, Option, refl}
use Rattle.std.proofs.Common.{sym}
use Rattle.std.proofs.Common.{◌∙◌, ap, subst, map, length, arith, append_assoc, append-nil, ◌||◌}
use Rattle.std.proofs.Common.{Bool, true, false, nat_le, ◌⊎◌, inl, inr, length-append}
use Rattle.std.specs.List.{list_any}
use Rattle.std.proofs.lemmas.List.{map-append}
use Rattle.std.proofs.lemmas.List.Folds.{list_any-append}
use Rattle.std.proofs.lemmas.Bool.{leb-false, lt-leb}
use Rattle.std.proofs.KnownBytes.{Appends-nil, Appends-trans}
use Rattle.trdp_dataset.specs.Configs.{ConfigModel}
use Rattle.trdp_wire.specs.Told.{Taking, Give}
use Rattle.trdp_daemon.specs.Daemons.{DaemonState, HasServed}
use Rattle.trdp_daemon.specs.Turns.{Turn}
use Rattle.trdp_daemon.specs.Resting.{AreEarly, ServesUntil, reading_behind, last_reading}
use Rattle.trdp_program.specs.Attending.{EndsWhenDue, ServesUntilDue}
use Rattle.trdp_program.specs.Faults.{AppendsText}

-- nothing is some text, as two texts are one
pub text_none : (told : Option (List ℕ)) → AppendsText told told
text_none told = ([], Appends-nil told)

pub text_both : (a b c : Option (List ℕ)) → AppendsText a b → AppendsText b c → AppendsText a c
text_both a b c p q = (p.0 ++ q.0, Appends-trans a b c p.0 q.0 p.1 q.1)

either_false : (a b : Bool) → (a || b) ≡ false → (a ≡ false) × (b ≡ false)
either_false true b neither = absurd (cc)
either_false false b neither = (refl, neither)

-- turns that are early before one reading are so before a later one
early_later : (until due : ℕ) (turns : List Turn) → until ≤ due → AreEarly until turns
    → AreEarly due turns
early_later until due [] within early = refl
early_later until due (turn ∷ turns) within early =
    let both = either_false (nat_le until turn.reading)
    (list_any (nat_le until) (map (λ turn. turn.reading) turns)) early in
    let before : turn.reading < due =
    omega (arith, within, leb-false until turn.reading both.0) in
    ap (λ b. b || list_any (nat_le due) (map (λ turn. turn.reading) turns))
    (lt-leb due turn.reading before)
    ∙ early_later until due turns within both.1

-- early turns after early turns
early_both : (due : ℕ) (turns more : List Turn) → AreEarly due turns → AreEarly due more
    → AreEarly due (turns ++ more)
early_both due turns more p q =
    let a = map (λ turn. turn.reading) turns in
    let b = map (λ turn. turn.reading) more in
    ap (list_any (nat_le due)) (map-append (λ turn. turn.reading) turns more)
    ∙ list_any-append (nat_le due) a b ∙ ap (λ x. x || list_any (nat_le due) b) p ∙ q

-- one early turn
early_one : (due : ℕ) (turn : Turn) → turn.reading < due → AreEarly due (turn ∷ [])
early_one due turn before = ap (λ b. b || false) (lt-leb due turn.reading before)

-- the reading of the last of some turns is that of the turn that was added
behind_push : (reading : ℕ) (turns : List Turn) (turn : Turn)
    → reading_behind reading (turns ++ turn ∷ []) ≡ turn.reading
behind_push reading [] turn = refl
behind_push reading (first ∷ turns) turn = behind_push first.reading turns turn

-- the last of turns that are early is early
behind_early : (due reading : ℕ) (turns more : List Turn) → AreEarly due more → 0 < length more
    → reading_behind reading (turns ++ more) < due
behind_early due reading (first ∷ turns) more early some =
    behind_early due first.reading turns more early some
behind_early due reading [] [] early some = absurd (omega (arith, some))
behind_early due reading [] (turn ∷ []) early some =
    leb-false due turn.reading
    (either_false (nat_le due turn.reading) false early).0
behind_early due reading [] (turn ∷ next ∷ more) early some =
    behind_early due turn.reading [] (next ∷ more)
    (either_false (nat_le due turn.reading)
    (list_any (nat_le due) (map (λ turn. turn.reading) (next ∷ more))) early).1
    (omega arith)

-- all turns of that many pieces, of which none was the last
pub record LooksSoFar {W C : Type 0} (takings_in : W → Option (List Taking))
    (gives_in : W → Option (List Give)) (readings_in : C → Option (List ℕ))
    (config : ConfigModel) (lease : Option ℕ) (wire : W) (clock : C) (turns : List Turn)
    (gives : List Give)
    (due looks reading : ℕ) (daemon : DaemonState W C) : Type 0 where
  pub n : ℕ
  pub served : HasServed takings_in gives_in readings_in config lease wire clock n daemon
  pub more : List Turn
  pub more_gives : List Give
  pub turns_are : served.turns ≡ turns ++ more
  pub gives_are : served.gives ≡ gives ++ more_gives
  pub early : AreEarly due more
  pub count : looks ≤ length more
  pub reading_is : 0 < looks → reading ≡ last_reading served.turns

-- none yet
pub looks_none : {W C : Type 0} {takings_in : W → Option (List Taking)}
    {gives_in : W → Option (List Give)} {readings_in : C → Option (List ℕ)}
    {config : ConfigModel} {lease : Option ℕ} {wire : W} {clock : C} {n : ℕ}
    {daemon : DaemonState W C}
    (due reading : ℕ) (p : HasServed takings_in gives_in readings_in config lease wire clock n
    daemon)
    → LooksSoFar takings_in gives_in readings_in config lease wire clock p.turns p.gives due 0
    reading
    daemon
looks_none {n = n} due reading p = record {
  n = n;
  served = p;
  more = [];
  more_gives = [];
  turns_are = sym (append-nil p.turns);
  gives_are = sym (append-nil p.gives);
  early = refl;
  count = omega arith;
  reading_is = λ some. absurd (omega (arith, some));
}

-- the turns of a piece that ended before the line was due: all of them are early, and there is one
record IsEarlyPiece (due : ℕ) (turns : List Turn) : Type 0 where
  pub early : AreEarly due turns
  pub some : 0 < length turns

-- turns that begin before a reading, and one that begins before the line is due
piece_of_one : (until due : ℕ) (early turns : List Turn) (turn : Turn) → AreEarly until early
    → until ≤ due → turns ≡ early ++ turn ∷ [] → turn.reading < due → IsEarlyPiece due turns
piece_of_one until due early turns turn are within is before =
    let all = early_both due early (turn ∷ []) (early_later until due early within are)
    (early_one due turn before) in
    let some : 0 < length (early ++ turn ∷ []) =
    omega (arith, length-append early (turn ∷ [])) in
    subst (IsEarlyPiece due) (sym is) (record { early = all; some = some })

-- the reading of the last turn of a piece that ends with one
reading_one : {reading : ℕ} (before early turns : List Turn) (turn : Turn)
    → turns ≡ early ++ turn ∷ [] → reading ≡ last_reading (before ++ turns)
    → reading ≡ turn.reading
reading_one before early turns turn is last =
    last ∙ ap (λ l. last_reading (before ++ l)) is
    ∙ ap last_reading (sym (append_assoc before early (turn ∷ [])))
    ∙ behind_push 0 (before ++ early) turn

early_by : {until due reading : ℕ} (before early turns : List Turn) → AreEarly until early
    → until ≤ due → reading ≡ last_reading (before ++ turns) → reading < due
    → ((turn : Turn) × (turns ≡ early ++ turn ∷ []) × (until ≤ turn.reading))
    ⊎ ((turns ≡ early) × (length early ≡ 2 ^ 64 - 1)) → IsEarlyPiece due turns
early_by {until} {due} {reading} before early turns are within last sooner (inl one) =
    let same = reading_one before early turns one.0 one.1 last in
    let first : one.0.reading < due = omega (arith, same, sooner) in
    piece_of_one until due early turns one.0 are within one.1 first
early_by {until} {due} {reading} before early turns are within last sooner (inr all) =
    let some : 0 < length early = omega (arith, all.1) in
    subst (IsEarlyPiece due) (sym all.0)
    (record { early = early_later until due early within are; some = some })

-- one more piece, before the line is due
pub looks_more : {W C : Type 0} {takings_in : W → Option (List Taking)}
    {gives_in : W → Option (List Give)} {readings_in : C → Option (List ℕ)}
    {config : ConfigModel} {lease : Option ℕ} {wire : W} {clock : C} {turns : List Turn}
    {gives : List Give}
    {due looks reading until next : ℕ} {a b : DaemonState W C}
    (p : LooksSoFar takings_in gives_in readings_in config lease wire clock turns gives due looks
    reading
    a) → ServesUntil takings_in gives_in readings_in config lease wire clock p.n p.served.turns
    p.served.gives until next b → until ≤ due → next < due
    → LooksSoFar takings_in gives_in readings_in config lease wire clock turns gives due (looks + 1)
    next
    b
looks_more {turns = turns} {gives} {due} {looks} p q within sooner =
    let last = q.reading_is ∙ ap last_reading q.turns_are in
    let piece = early_by p.served.turns q.ends.early q.more q.ends.are_early within last sooner
    q.ends.last in
    let count : looks + 1 ≤ length (p.more ++ q.more) =
    omega (arith, p.count, piece.some, length-append p.more q.more) in
    record {
      n = p.n + q.m;
      served = q.served;
      more = p.more ++ q.more;
      more_gives = p.more_gives ++ q.more_gives;
      turns_are = q.turns_are ∙ ap (λ l. l ++ q.more) p.turns_are
          ∙ append_assoc turns p.more q.more;
      gives_are = q.gives_are ∙ ap (λ l. l ++ q.more_gives) p.gives_are
          ∙ append_assoc gives p.more_gives q.more_gives;
      early = early_both due p.more q.more p.early piece.early;
      count = count;
      reading_is = λ some. q.reading_is;
    }

-- the last piece ends when the line is due
ends_by : {until due reading : ℕ} (before more early turns : List Turn) → AreEarly due more
    → AreEarly until early → until ≤ due → reading ≡ last_reading (before ++ turns)
    → due ≤ reading → ((turn : Turn) × (turns ≡ early ++ turn ∷ []) × (until ≤ turn.reading))
    ⊎ ((turns ≡ early) × (length early ≡ 2 ^ 64 - 1)) → EndsWhenDue due (more ++ turns)
ends_by {until} {due} {reading} before more early turns p are within last late (inl one) =
    let same = reading_one before early turns one.0 one.1 last in
    let come : due ≤ one.0.reading = omega (arith, same, late) in
    record {
      early = more ++ early;
      are_early = early_both due more early p (early_later until due early within are);
      last = inl (
        one.0,
        ap (λ l. more ++ l) one.1 ∙ sym (append_assoc more early (one.0 ∷ [])),
        come,
      );
    }
ends_by {until} {due} {reading} before more early turns p are within last late (inr all) =
    let some : 0 < length early = omega (arith, all.1) in
    let sooner = behind_early due 0 before early (early_later until due early within are) some in
    let same = last ∙ ap (λ l. last_reading (before ++ l)) all.0 in
    absurd (omega (arith, same, sooner, late))

-- the line is due
pub looks_end : {W C : Type 0} {takings_in : W → Option (List Taking)}
    {gives_in : W → Option (List Give)} {readings_in : C → Option (List ℕ)}
    {config : ConfigModel} {lease : Option ℕ} {wire : W} {clock : C} {turns : List Turn}
    {gives : List Give}
    {due looks reading until next : ℕ} {a b : DaemonState W C}
    (p : LooksSoFar takings_in gives_in readings_in config lease wire clock turns gives due looks
    reading
    a) → ServesUntil takings_in gives_in readings_in config lease wire clock p.n p.served.turns
    p.served.gives until next b → until ≤ due → due ≤ next
    → ServesUntilDue takings_in gives_in readings_in config lease wire clock turns gives due next b
looks_end {turns = turns} {gives} {due} p q within late =
    let last = q.reading_is ∙ ap last_reading q.turns_are in
    record {
      n = p.n + q.m;
      served = q.served;
      more = p.more ++ q.more;
      more_gives = p.more_gives ++ q.more_gives;
      turns_are = q.turns_are ∙ ap (λ l. l ++ q.more) p.turns_are
          ∙ append_assoc turns p.more q.more;
      gives_are = q.gives_are ∙ ap (λ l. l ++ q.more_gives) p.gives_are
          ∙ append_assoc gives p.more_gives q.more_gives;
      ends = ends_by p.served.turns p.more q.ends.early q.more p.early q.ends.are_early within last
          late q.ends.last;
      reading_is = q.reading_is;
    }

-- as many pieces as can be counted, and the line isn't due
pub looks_all : {W C : Type 0} {takings_in : W → Option (List Taking)}
    {gives_in : W → Option (List Give)} {readings_in : C → Option (List ℕ)}
    {config : ConfigModel} {lease : Option ℕ} {wire : W} {clock : C} {turns : List Turn}
    {gives : List Give}
    {due looks reading : ℕ} {daemon : DaemonState W C} → looks ≡ 2 ^ 64 - 1
    → LooksSoFar takings_in gives_in readings_in config lease wire clock turns gives due looks
    reading
    daemon
    → ServesUntilDue takings_in gives_in readings_in config lease wire clock turns gives due reading
    daemon
looks_all all p =
    let count : 2 ^ 64 - 1 ≤ length p.more = omega (arith, p.count, all) in
    record {
      n = p.n;
      served = p.served;
      more = p.more;
      more_gives = p.more_gives;
      turns_are = p.turns_are;
      gives_are = p.gives_are;
      ends = record { early = p.more; are_early = p.early; last = inr (refl, count) };
      reading_is = p.reading_is (omega (arith, all));
    }
