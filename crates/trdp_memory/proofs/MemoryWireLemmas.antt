-- What the calls of a wire in memory do to it.
-- For `MemoryWire::lay_down`, `receive`, `take`, `find`, `give` and `rest`.
-- By cases: the wire has room for one thing more, or the call fails and is counted.
use Rattle.std.proofs.Common.{◌≡◌, ◌==◌, ◌&&◌, ◌||◌, ◌<◌, ◌+◌, ◌-◌, ◌^◌, zero, suc}
use Rattle.std.proofs.Common.{ℕ, Bool, true, false, nat_lt, if◌then◌else◌, List, []}
use Rattle.std.proofs.Common.{rules, Option, ◌∷◌, ◌++◌, refl, sym, ◌∙◌, ap, arith, length, eqb-true}
use Rattle.trdp_wire.specs.declared.port.Port.{Port}
use Rattle.trdp_wire.specs.Told.{has_failed, Arrived, Taking, Give}
use Rattle.trdp_memory.specs.MemoryWires.{ArrivalModel, MemoryWireState, with_arrival}
use Rattle.trdp_memory.specs.MemoryWires.{is_failing, takes_at, arrival_for}
use Rattle.trdp_wire.specs.Failures.{failure_after, one_more_if}
use Rattle.trdp_memory.specs.MemoryWires.{next_take_fails, next_arrival, is_give_beyond}
use Rattle.trdp_memory.specs.MemoryWires.{ends_at, next_ends, told}
use Rattle.trdp_base.specs.Reported.{TellsMore}
use Rattle.trdp_memory.specs.MemoryWires.{next_give_fails, after_take, after_give}
use Rattle.trdp_memory.specs.MemoryWires.{after_rest, refusal_behind}
use Rattle.trdp_wire.specs.declared.refusal.GiveRefusal.{GiveRefusal}
use Rattle.trdp_memory.specs.declared.rows.Rest.{Rest}

by_true : {X : Type 0} (b : Bool) (x y : X) → b ≡ true → x ≡ (if b then x else y)
by_true true x y is = refl
by_true false x y is = absurd (cc)

by_false : {X : Type 0} (b : Bool) (x y : X) → b ≡ false → y ≡ (if b then x else y)
by_false true x y is = absurd (cc)
by_false false x y is = refl

is_zero : (n : ℕ) → n ≡ 0 → (n == 0) ≡ true
is_zero zero is = refl
is_zero (suc n) is = absurd (omega (arith, is))

not_zero : (n : ℕ) → 0 < n → (n == 0) ≡ false
not_zero n more = by_test (n == 0) refl
  where
    by_test : (b : Bool) → (n == 0) ≡ b → (n == 0) ≡ false
    by_test true is = let none : n ≡ 0 = eqb-true n 0 is in absurd (omega (arith, more, none))
    by_test false is = is

-- one more datagram was laid down
pub arrival_laid : (w : MemoryWireState) (more : List ArrivalModel) (takings : List Taking)
    (arrival : ArrivalModel) → more ≡ w.laid_down.arrivals ++ arrival ∷ [] → takings ≡ w.takings
    → (let x : MemoryWireState = record w {
      laid_down = record w.laid_down { arrivals = more };
      takings = takings;
    } in x) ≡ with_arrival w arrival
arrival_laid w more takings arrival is same =
    ap (λ l. let x : MemoryWireState =
    record w { laid_down = record w.laid_down { arrivals = l }; takings = takings } in x) is
    ∙ ap (λ l. let x : MemoryWireState = record w {
      laid_down = record w.laid_down
          { arrivals = w.laid_down.arrivals ++ arrival ∷ [] };
      takings = l;
    } in x) same

-- a take beyond the wire's room
pub arrival_beyond : (w : MemoryWireState) (port : Port) (room : ℕ) (arrived : Arrived)
    → w.take_room ≡ 0 → arrived ≡ failure_after w.failures → arrived ≡ next_arrival w port room
unfolding next_arrival next_take_fails
arrival_beyond w port room arrived none is =
    let beyond : next_take_fails w ≡ true = ap (λ b. b || is_failing w.laid_down.failing_takes
    (length w.takings + 1)) (is_zero w.take_room none) in
    is ∙ by_true (next_take_fails w) (failure_after w.failures)
    (arrival_for w.laid_down.arrivals port (takes_at port w.takings + 1) room) beyond

pub take_beyond : (w : MemoryWireState) (taking : Taking) (failures : ℕ)
    → w.take_room ≡ 0 → failures ≡ one_more_if (has_failed taking.arrived) w.failures
    → (let x : MemoryWireState = record w { tells = false; failures = failures } in x)
    ≡ after_take w taking
unfolding after_take
take_beyond w taking failures none is =
    ap (λ n. let x : MemoryWireState = record w { tells = false; failures = n } in x) is
    ∙ by_true (w.take_room == 0) (let x : MemoryWireState = record w {
      tells = false;
      failures =
          one_more_if (has_failed taking.arrived) w.failures;
    } in x) _ (is_zero w.take_room none)

-- a take within it
pub arrival_within :
    (w : MemoryWireState) (port : Port) (room number : ℕ) (fails : Bool) (arrived : Arrived)
    → 0 < w.take_room → fails ≡ is_failing w.laid_down.failing_takes (length w.takings + 1)
    → number ≡ takes_at port w.takings + 1
    → arrived ≡ (if fails then failure_after w.failures
    else arrival_for w.laid_down.arrivals port number room) → arrived ≡ next_arrival w port room
unfolding next_arrival next_take_fails
arrival_within w port room number fails arrived some which nth is =
    let same : fails ≡ next_take_fails w = which
    ∙ ap (λ b. b || is_failing w.laid_down.failing_takes (length w.takings + 1))
    (sym (not_zero w.take_room some)) in
    is ∙ ap (λ b. if b then failure_after w.failures
    else arrival_for w.laid_down.arrivals port number room) same
    ∙ ap (λ n. if next_take_fails w then failure_after w.failures
    else arrival_for w.laid_down.arrivals port n room) nth

pub take_within : (w : MemoryWireState) (taking : Taking) (takings : List Taking)
    (failures room : ℕ) → 0 < w.take_room → takings ≡ w.takings ++ taking ∷ []
    → failures ≡ one_more_if (has_failed taking.arrived) w.failures → room ≡ w.take_room - 1
    → (let x : MemoryWireState = record w
    { takings = takings; failures = failures; take_room = room } in x) ≡ after_take w taking
unfolding after_take
take_within w taking takings failures room some more is less =
    let whole : (let x : MemoryWireState =
    record w { takings = takings; failures = failures; take_room = room } in x)
    ≡ (let x : MemoryWireState = record w {
      takings = w.takings ++ taking ∷ [];
      failures =
          one_more_if (has_failed taking.arrived) w.failures;
      take_room = w.take_room - 1;
    } in x) =
    cc in
    whole ∙ by_false (w.take_room == 0) _ (let x : MemoryWireState = record w {
      takings =
          w.takings ++ taking ∷ [];
      failures = one_more_if (has_failed taking.arrived) w.failures;
      take_room = w.take_room - 1;
    } in x) (not_zero w.take_room some)

-- whether a take hands in an end, beyond that room and within it
pub ends_beyond : (w : MemoryWireState) (port : Port) (looks : Bool)
    → w.take_room ≡ 0 → false ≡ (looks && next_ends w port)
unfolding next_ends next_take_fails
ends_beyond w port false none = refl
ends_beyond w port true none =
    let beyond : next_take_fails w ≡ true = ap (λ b. b || is_failing w.laid_down.failing_takes
    (length w.takings + 1)) (is_zero w.take_room none) in
    by_true (next_take_fails w) false
    (ends_at w.laid_down.arrivals port (takes_at port w.takings + 1)) beyond

pub ends_within : (w : MemoryWireState) (port : Port) (number : ℕ) (fails : Bool)
    → 0 < w.take_room → fails ≡ is_failing w.laid_down.failing_takes (length w.takings + 1)
    → number ≡ takes_at port w.takings + 1
    → (if fails then false else ends_at w.laid_down.arrivals port number) ≡ next_ends w port
unfolding next_ends next_take_fails
ends_within w port number fails some which nth =
    let same : fails ≡ next_take_fails w = which
    ∙ ap (λ b. b || is_failing w.laid_down.failing_takes (length w.takings + 1))
    (sym (not_zero w.take_room some)) in
    ap (λ b. if b then false else ends_at w.laid_down.arrivals port number) same
    ∙ ap (λ n. if next_take_fails w then false else ends_at w.laid_down.arrivals port n) nth

-- what a wire reports after a take
more_told : {X : Type 0} (tells : Bool) (xs more : List X)
    → TellsMore (told tells xs) (told tells (xs ++ more)) more
more_told true xs more = refl
more_told false xs more = tt

same_told : {X : Type 0} (tells : Bool) (xs : List X)
    → TellsMore (told tells xs) (told tells xs) []
same_told true xs = search rules
same_told false xs = tt

pub take_told : (w : MemoryWireState) (taking : Taking) (beyond : Bool)
    → (w.take_room == 0) ≡ beyond → TellsMore (told w.tells w.takings)
    (told (after_take w taking).tells (after_take w taking).takings) (taking ∷ [])
unfolding after_take
take_told w taking true is = rw is tt
take_told w taking false is = rw is (more_told w.tells w.takings (taking ∷ []))

pub take_gives_none : (w : MemoryWireState) (taking : Taking) (beyond : Bool)
    → (w.take_room == 0) ≡ beyond → TellsMore (told w.tells w.gives)
    (told (after_take w taking).tells (after_take w taking).gives) []
unfolding after_take
take_gives_none w taking true is = rw is tt
take_gives_none w taking false is = rw is (same_told w.tells w.gives)

-- a give beyond the wire's rooms
pub fails_beyond : (w : MemoryWireState) (bytes : ℕ) (failed : Bool) → is_give_beyond w bytes ≡ true
    → failed ≡ nat_lt w.failures (2 ^ 64 - 1) → failed ≡ next_give_fails w bytes
unfolding next_give_fails
fails_beyond w bytes failed beyond is =
    let fails = is_failing w.laid_down.failing_gives (length w.gives + 1) in
    is ∙ and_true (nat_lt w.failures (2 ^ 64 - 1))
    ∙ ap (λ b. nat_lt w.failures (2 ^ 64 - 1) && (b || fails)) (sym beyond)
  where
    and_true : (b : Bool) → b ≡ (b && true)
    and_true true = refl
    and_true false = refl

pub give_beyond : (w : MemoryWireState) (give : Give) (failures : ℕ) (refusal : Option GiveRefusal)
    → is_give_beyond w (length give.offer.bytes) ≡ true
    → failures ≡ one_more_if give.failed w.failures → refusal ≡ refusal_behind w give
    → (let x : MemoryWireState =
    record w { tells = false; failures = failures; refusal = refusal } in x) ≡ after_give w give
unfolding after_give
give_beyond w give failures refusal beyond is kept =
    let whole : (let x : MemoryWireState =
    record w { tells = false; failures = failures; refusal = refusal } in x)
    ≡ (let x : MemoryWireState = record w {
      tells = false;
      failures = one_more_if give.failed w.failures;
      refusal = refusal_behind w give;
    } in x) = cc in
    whole ∙ by_true (is_give_beyond w (length give.offer.bytes)) (let x : MemoryWireState =
    record w {
      tells = false;
      failures = one_more_if give.failed w.failures;
      refusal = refusal_behind w give;
    } in x) _ beyond

-- a give within them
pub fails_within : (w : MemoryWireState) (bytes : ℕ) (fails failed : Bool) → is_give_beyond w bytes
    ≡ false → fails ≡ is_failing w.laid_down.failing_gives (length w.gives + 1)
    → failed ≡ (nat_lt w.failures (2 ^ 64 - 1) && fails) → failed ≡ next_give_fails w bytes
unfolding next_give_fails
fails_within w bytes fails failed within which is =
    let may = nat_lt w.failures (2 ^ 64 - 1) in
    is ∙ ap (λ b. may && b) which ∙ ap (λ b. may
    && (b || is_failing w.laid_down.failing_gives (length w.gives + 1))) (sym within)

pub give_within : (w : MemoryWireState) (give : Give) (gives : List Give)
    (failures room byte_room : ℕ) (refusal : Option GiveRefusal)
    → is_give_beyond w (length give.offer.bytes) ≡ false
    → gives ≡ w.gives ++ give ∷ [] → failures ≡ one_more_if give.failed w.failures
    → refusal ≡ refusal_behind w give → room ≡ w.give_room - 1
    → byte_room ≡ w.byte_room - length give.offer.bytes
    → (let x : MemoryWireState = record w {
      gives = gives;
      failures = failures;
      refusal = refusal;
      give_room = room;
      byte_room = byte_room;
    } in x) ≡ after_give w give
unfolding after_give
give_within w give gives failures room byte_room refusal within more is kept less fewer =
    let whole : (let x : MemoryWireState = record w {
      gives = gives;
      failures = failures;
      refusal = refusal;
      give_room = room;
      byte_room = byte_room;
    } in x) ≡ (let x : MemoryWireState = record w {
      gives = w.gives ++ give ∷ [];
      failures = one_more_if give.failed w.failures;
      refusal = refusal_behind w give;
      give_room =
          w.give_room - 1;
      byte_room = w.byte_room - length give.offer.bytes;
    } in x) = cc in
    whole ∙ by_false (is_give_beyond w (length give.offer.bytes)) _ (let x : MemoryWireState =
    record w {
      gives = w.gives ++ give ∷ [];
      failures = one_more_if give.failed w.failures;
      refusal = refusal_behind w give;
      give_room = w.give_room - 1;
      byte_room = w.byte_room - length give.offer.bytes;
    } in
    x) within

-- a rest beyond the room, and one within it
pub rest_beyond : (w : MemoryWireState) (rest : Rest) → w.rest_room ≡ 0 → w ≡ after_rest w rest
unfolding after_rest
rest_beyond w rest none = by_true (w.rest_room == 0) w _ (is_zero w.rest_room none)

pub rest_within : (w : MemoryWireState) (rest : Rest) (rests : List Rest) (room : ℕ)
    → 0 < w.rest_room → rests ≡ w.rests ++ rest ∷ [] → room ≡ w.rest_room - 1
    → (let x : MemoryWireState = record w { rests = rests; rest_room = room } in x)
    ≡ after_rest w rest
unfolding after_rest
rest_within w rest rests room some more less =
    let whole : (let x : MemoryWireState = record w { rests = rests; rest_room = room } in x)
    ≡ (let x : MemoryWireState =
    record w { rests = w.rests ++ rest ∷ []; rest_room = w.rest_room - 1 } in x) = cc in
    whole ∙ by_false (w.rest_room == 0) w (let x : MemoryWireState =
    record w { rests = w.rests ++ rest ∷ []; rest_room = w.rest_room - 1 } in x)
    (not_zero w.rest_room some)
