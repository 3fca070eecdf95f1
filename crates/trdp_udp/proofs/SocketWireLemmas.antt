-- What a wire over sockets hands in.
-- For the calls of `UdpWire`.
-- By cases: what arrived at the port's socket, and whether the count of failures rises.
use Rattle.std.proofs.Common.{◌≡◌, ◌-◌, ◌^◌, ℕ, Bool, true, false}
use Rattle.std.proofs.Common.{List, [], ◌∷◌}
use Rattle.std.proofs.Common.{Option, Some, None, Result, Ok, Err, refl, sym, ◌∙◌, ap, subst}
use Rattle.std.proofs.Common.{take, length, nat_lt, if◌then◌else◌}
use Rattle.std.specs.Prelude.{is_err}
use Rattle.trdp_base.specs.declared.place.Place.{Place}
use Rattle.trdp_wire.specs.declared.fault.WireFault.{WireFault}
use Rattle.trdp_wire.specs.declared.port.Port.{Port}
use Rattle.trdp_wire.specs.declared.socket_fault.SocketFault.{SocketFault}
use Rattle.trdp_wire.specs.declared.refusal.GiveRefusal.{GiveRefusal}
use Rattle.trdp_wire.specs.declared.unread.Unread.{Unread}
use Rattle.trdp_base.specs.Reported.{TellsMore}
use Rattle.trdp_wire.specs.Told.{has_failed, Arrived, Failed, Nothing, Came, arrived_in}
use Rattle.trdp_wire.specs.Failures.{failure_after, one_more_if}
use Rattle.trdp_wire.specs.Sockets.{SocketCall, TakesFrom, GivesFrom, socket_of, fault_of_result}
use Rattle.trdp_udp.specs.SocketWires.{TakesAtSocket, GivesAtSocket, handed_in, is_answer_at}

-- the take that was made, where its answer and its socket are known
asked_at : (groups : List ℕ) (s room : ℕ) (port : Port) (old new : Option (List SocketCall))
    (a b : Arrived)
    → s ≡ socket_of groups port → a ≡ b → TellsMore old new (TakesFrom s room a ∷ [])
    → TellsMore old new (TakesFrom (socket_of groups port) room b ∷ [])
asked_at groups s room port old new a b at is told =
    subst (λ (x : Arrived). TellsMore old new (TakesFrom (socket_of groups port) room x ∷ [])) is
    (subst (λ (n : ℕ). TellsMore old new (TakesFrom n room a ∷ [])) at told)

pub took_nothing : {s : ℕ} {old new : Option (List SocketCall)}
    (groups : List ℕ) (port : Port) (room : List ℕ)
    (got : Result (Option (Place × ℕ)) SocketFault) (n : ℕ) (unread : Option Unread)
    → s ≡ socket_of groups port → got ≡ Ok None
    → TellsMore old new (TakesFrom s (length room) (arrived_in got room) ∷ [])
    → TakesAtSocket groups old new port room (Ok None) n n false unread unread
unfolding handed_in one_more_if
took_nothing groups port room got n unread at is told = record {
  arrived = Nothing;
  asked = asked_at groups _ _ _ _ _ _ _ at (ap (λ r. arrived_in r room) is) told;
  answer = refl;
  counted = refl;
  noted = refl;
  fault = None;
  failed = refl;
  kept = refl;
}

pub took_answer : {s : ℕ} {old new : Option (List SocketCall)}
    (groups : List ℕ) (port : Port) (room bytes : List ℕ)
    (got : Result (Option (Place × ℕ)) SocketFault)
    (from : Place) (len n : ℕ) (unread : Option Unread)
    → s ≡ socket_of groups port → got ≡ Ok (Some (from, len)) → bytes ≡ take len room
    → is_answer_at port bytes ≡ true
    → TellsMore old new (TakesFrom s (length room) (arrived_in got room) ∷ [])
    → TakesAtSocket groups old new port room (Ok None) n n true unread unread
unfolding handed_in one_more_if
took_answer groups port room bytes got from len n unread at is front answers told = record {
  arrived = Came from bytes;
  asked = asked_at groups _ _ _ _ _ _ _ at
      (ap (λ r. arrived_in r room) is ∙ ap (λ l. Came from l) (sym front)) told;
  answer = by_answer (is_answer_at port bytes) answers;
  counted = refl;
  noted = refl;
  fault = None;
  failed = refl;
  kept = refl;
}
  where
    by_answer : (b : Bool) → b ≡ true → Nothing ≡ (if b then Nothing else Came from bytes)
    by_answer true is = refl
    by_answer false is = absurd (cc)

pub took_datagram : {s : ℕ} {old new : Option (List SocketCall)}
    (groups : List ℕ) (port : Port) (room bytes : List ℕ)
    (got : Result (Option (Place × ℕ)) SocketFault)
    (from : Place) (len n : ℕ) (unread : Option Unread)
    → s ≡ socket_of groups port → got ≡ Ok (Some (from, len)) → bytes ≡ take len room
    → is_answer_at port bytes ≡ false
    → TellsMore old new (TakesFrom s (length room) (arrived_in got room) ∷ [])
    → TakesAtSocket groups old new port room (Ok (Some (from, len))) n n true unread unread
unfolding handed_in one_more_if
took_datagram groups port room bytes got from len n unread at is front answers told = record {
  arrived = Came from bytes;
  asked = asked_at groups _ _ _ _ _ _ _ at
      (ap (λ r. arrived_in r room) is ∙ ap (λ l. Came from l) (sym front)) told;
  answer = ap (λ l. Came from l) (sym front) ∙ by_answer (is_answer_at port bytes) answers;
  counted = refl;
  noted = refl;
  fault = None;
  failed = refl;
  kept = refl;
}
  where
    by_answer : (b : Bool) → b ≡ false → Came from bytes ≡ (if b then Nothing else Came from bytes)
    by_answer true is = absurd (cc)
    by_answer false is = refl

-- a take that failed, where the count of failures rises or not
pub took_failure : {s : ℕ} {old new : Option (List SocketCall)}
    (groups : List ℕ) (port : Port) (room : List ℕ) (got : Result (Option (Place × ℕ)) SocketFault)
    (fault : SocketFault) (counted : Result (Unit {0}) WireFault)
    (result : Result (Option (Place × ℕ)) WireFault) (n m : ℕ) (unread : Option Unread)
    → s ≡ socket_of groups port → got ≡ Err fault
    → arrived_in result room ≡ (if is_err counted then Failed else Nothing)
    → is_err counted ≡ nat_lt n (2 ^ 64 - 1) → m ≡ one_more_if (is_err counted) n
    → TellsMore old new (TakesFrom s (length room) (arrived_in got room) ∷ [])
    → TakesAtSocket groups old new port room result n m true unread
    (Some (record { port = port; fault = fault }))
unfolding handed_in failure_after
took_failure groups port room got fault counted result n m unread at is same fails count told = record {
  arrived = Failed;
  asked = asked_at groups _ _ _ _ _ _ _ at (ap (λ r. arrived_in r room) is) told;
  answer = same ∙ ap (λ b. if b then Failed else Nothing) fails;
  counted = count ∙ ap (λ b. one_more_if b n) (sym (by_failed (is_err counted) same));
  noted = refl;
  fault = Some fault;
  failed = refl;
  kept = refl;
}
  where
    by_failed : (b : Bool) → arrived_in result room ≡ (if b then Failed else Nothing)
        → has_failed (arrived_in result room) ≡ b
    by_failed true is = ap has_failed is
    by_failed false is = ap has_failed is

-- a give that went well
pub gave : (groups : List ℕ) (old new : Option (List SocketCall)) (port : Port) (s : ℕ) (to : Place)
    (bytes : List ℕ) (got : Result (Unit {0}) SocketFault) (n : ℕ) (refusal : Option GiveRefusal)
    → s ≡ socket_of groups port → fault_of_result got ≡ None
    → TellsMore old new (GivesFrom s to bytes (fault_of_result got) ∷ [])
    → GivesAtSocket groups old new port to bytes (Ok tt) n n refusal refusal
unfolding one_more_if
gave groups old new port s to bytes got n refusal at well told = record {
  fault = None;
  asked = subst (λ (f : Option SocketFault).
      TellsMore old new (GivesFrom (socket_of groups port) to bytes f ∷ [])) well
      (subst (λ (i : ℕ). TellsMore old new
      (GivesFrom i to bytes (fault_of_result got) ∷ [])) at told);
  answer = refl;
  counted = refl;
  kept = refl;
}
