-- What acts cost, one and several, and that the room stays.
-- For `take_all` and `ask_all`, and for the engine's `fire_all`.
-- By: an act changes no quota, and each receiver adds its own.
use Rattle.std.proofs.Common.{◌≡◌, ℕ, zero, suc, ◌+◌, ◌*◌, ◌^◌, ◌<◌, ◌≤◌, List, [], ◌∷◌, length}
use Rattle.std.proofs.Common.{◌∙◌, ap, sym, arith}
use Rattle.std.proofs.Common.{Option, Some, None, IfSome}
use Rattle.std.specs.Prelude.{slice_get, slice_set}
use Rattle.std.specs.List.{sum_by}
use Rattle.std.proofs.lemmas.List.Sums.{sum_by-cons}
use Rattle.std.proofs.lemmas.Nat.{mul-le}
use Rattle.std.proofs.lemmas.Option.{same_Some, none-some}
use Rattle.trdp_table.specs.Tables.{TableState, all_quotas, room_of}
use Rattle.trdp_store.specs.declared.deed.Left.{Left}
use Rattle.trdp_store.specs.declared.deed.Left.TheVariants.{Stays, Ended}
use Rattle.trdp_store.specs.Counting.{compared_for, looked_up_as, looked_up_for}
use Rattle.trdp_model.specs.Slots.{Entry, SlotState}
use Rattle.trdp_store.specs.TableSlots.{slots_of}
use Rattle.trdp_model.specs.Acts.{Act}
use Rattle.trdp_store.specs.Acting.{slot_at, ActsAt, act_of}
use Rattle.trdp_outbox.specs.Outboxes.{OutboxState}
use Rattle.trdp_datagrams.specs.Meant.{quota_total}
use Rattle.trdp_store.proofs.StoreLemmas.Slots.{slot_there}
use Rattle.trdp_datagrams.proofs.CostLemmas.Telegrams.{total_room}

pub count_set : (f : SlotState → ℕ) (slots : List SlotState) (s : ℕ) (x y : SlotState)
    → slice_get slots s ≡ Some x → sum_by f (slice_set slots s y) + f x ≡ sum_by f slots + f y
count_set f [] s x y at = absurd (none-some x at)
count_set f (z ∷ slots) zero x y at =
    let own = ap f (same_Some z x at) in
    omega (arith, own, sum_by-cons f y slots, sum_by-cons f z slots)
count_set f (z ∷ slots) (suc s) x y at =
    omega (
      arith,
      count_set f slots s x y at,
      sum_by-cons f z (slice_set slots s y),
      sum_by-cons f z slots,
    )

-- The room stays as an object fires.

pub room_stays :
    (act : Entry → Act) (s h : ℕ) (table table_then : TableState) (out out_then : OutboxState)
    → s < length table → ActsAt s h act table table_then out out_then
    → room_of table_then ≡ room_of table
room_stays act s h table table_then out out_then lt acts =
    let there = slot_there table s lt in
    let sums = count_set (λ (slot : SlotState). all_quotas slot.quotas)
    (slots_of table) s (slot_at s table) (act_of acts.entry act (slot_at s table)).slot there in
    let same :
    quota_total (slice_set (slots_of table) s (act_of acts.entry act (slot_at s table)).slot)
    ≡ quota_total (slots_of table) = omega (arith, sums) in
    sym (total_room table_then) ∙ (ap quota_total acts.becomes.slots ∙ (same ∙ total_room table))

-- One act.

pub few_look_ups : (did : Option (Left × ℕ)) → looked_up_for did ≤ 1
few_look_ups None = omega arith
few_look_ups (Some did) = either did.0
  where
    either : (left : Left) → looked_up_as left ≤ 1
    either Stays = omega arith
    either Ended = omega arith

pub compared : (did : Option (Left × ℕ)) (room b : ℕ)
    → IfSome did (λ d. (b : ℕ) → room < 2 ^ b → d.1 ≤ 4 * b + 4) → room < 2 ^ b
    → compared_for did ≤ 4 * b + 4
compared None room b within lt = omega arith
compared (Some did) room b within lt = within b lt

-- of an object that keeps its due moment
pub compared_still : (did : Option (Left × ℕ)) (room b : ℕ)
    → IfSome did (λ d. Unit {0} → (b : ℕ) → room < 2 ^ b → d.1 ≤ 2 * b + 2) → room < 2 ^ b
    → compared_for did ≤ 2 * b + 2
compared_still None room b within lt = omega arith
compared_still (Some did) room b within lt = within tt b lt

-- The receivers of a telegram, one after the other.

pub one_taker : (now tested before first i b : ℕ) → now ≤ tested + (2 * b + 2)
    → tested ≡ before → before ≤ first + i * (2 * b + 2) → now ≤ first + (i + 1) * (2 * b + 2)
one_taker now tested before first i b le same so_far = omega (arith, le, same, so_far)

pub all_takers : (now first i n b : ℕ) → now ≤ first + i * (2 * b + 2)
    → i ≤ n → now ≤ first + n * (2 * b + 2)
all_takers now first i n b le few = let more =
    mul-le i (2 * b + 2) n (2 * b + 2) few (omega arith) in omega (arith, le, more)
