-- The loop over the listeners that were noted for a request.
-- For `ask_all`.
-- By the loop's invariant: what is left to do leads to all slots as the request changes them.
use Rattle.std.proofs.Common.{suc, ◌≡◌, ℕ, ◌+◌, ◌<◌, ◌≤◌, List, [], ◌∷◌, ◌++◌, length, map}
use Rattle.std.proofs.Common.{get_or, drop, drop-cons, Option, Some, None, true, refl, ◌∙◌, sym, ap}
use Rattle.std.proofs.Common.{subst, arith, append_assoc}
use Rattle.std.specs.Prelude.{slice_get, slice_set}
use Rattle.std.specs.List.{flat_map}
use Rattle.std.proofs.lemmas.List.{append-nil, length-append, drop_all}
use Rattle.std.proofs.lemmas.List.Sums.{sum_by-append}
use Rattle.trdp_filter.specs.declared.globals.Globals.{Globals}
use Rattle.trdp_filter.specs.Telegrams.{TelegramModel, PdIs, MdIs}
use Rattle.trdp_table.specs.Tables.{TableState}
use Rattle.trdp_table.specs.TableLaws.{IsTable}
use Rattle.trdp_datagrams.specs.Noted.{Addressed}
use Rattle.trdp_outbox.specs.declared.room.Room.{Room}
use Rattle.trdp_model.specs.Records.{RecordModel, labelled}
use Rattle.trdp_model.specs.Slots.{SlotState, Outcome, unchanged}
use Rattle.trdp_store.specs.TableSlots.{slots_of}
use Rattle.trdp_outbox.specs.Outboxes.{OutboxState}
use Rattle.trdp_outbox.specs.Rooms.{HasRoom, entries_room}
use Rattle.trdp_model.specs.Requests.{asked_by_hearing}
use Rattle.trdp_store.specs.Acting.{slot_at, Becomes}
use Rattle.trdp_model.specs.Datagrams.{acting, hearing, requested}
use Rattle.trdp_datagrams.specs.Noted.{noted_as, noted_from}
use Rattle.trdp_datagrams.specs.Sought.{comes_unasked, noted_listener, listener_room}
use Rattle.trdp_model.proofs.HandleLemmas.{IsRising}
use Rattle.trdp_outbox.proofs.RoomLemmas.{entry_rows, entry_bytes}
use Rattle.trdp_store.proofs.StoreLemmas.Slots.{slot_within, slot_is, rising as table_rising}
use Rattle.trdp_datagrams.proofs.NoteLemmas.ListenersAlone.{noted_heard, room_heard}
use Rattle.trdp_datagrams.proofs.NoteLemmas.Noted.{same_room, acting_in}
use Rattle.trdp_datagrams.proofs.DatagramLemmas.Handed.{AreRising, slot_of_front, set_front}
use Rattle.trdp_model.proofs.SweepLemmas.{all_records}

-- a request, and the slots and the records that it leads to
pub record Request : Type 0 where
  pub telegram : TelegramModel
  pub globals : Globals
  pub slots : List SlotState
  pub records : List RecordModel

-- how it changes a slot
abbrev pub outcome_of : Request → SlotState → Outcome
outcome_of request slot = requested slot request.globals request.telegram

-- where no listener hears it nothing happens
unheard : (slot : SlotState) (globals : Globals) (telegram : TelegramModel)
    → hearing telegram globals slot.objects ≡ None
    → requested slot globals telegram ≡ unchanged slot
unheard slot globals (PdIs src dst telegram) none = refl
unheard slot globals (MdIs src dst telegram) none =
    ap (λ (listener : Option ℕ). asked_by_hearing listener slot globals src telegram) none

-- the listener that was noted hears it in its slot, and of the room more than its own is left
pub record IsHeard (request : Request) (slots : List SlotState) (a : Addressed) (room : Room)
    (slot : SlotState) (more : Room) : Type 0 where
  pub at : slice_get slots a.slot ≡ Some slot
  pub heard : hearing request.telegram request.globals slot.objects ≡ Some a.handle
  pub rows : room.rows ≡ 1 + more.rows
  pub bytes : room.bytes ≡ 65388 + more.bytes

-- the slots of those that were noted get it in turn, within the room, and all reach what it leads
-- to
abbrev pub Asks : Request → List SlotState → List RecordModel → Room → List Addressed → Type 0
Asks request slots records room [] = (slots ≡ request.slots) × (records ≡ request.records)
Asks request slots records room (a ∷ rest) =
    (slot : SlotState) × (more : Room) × IsHeard request slots a room slot more
    × Asks request (slice_set slots a.slot (outcome_of request slot).slot)
    (records ++ labelled a.slot (outcome_of request slot).records) more rest

-- one slot, and then the rest
asks_slot : (request : Request) (front slots : List SlotState) (x : SlotState) (s : ℕ)
    (records : List RecordModel) (room later : Room) (rest : List Addressed) → length front ≡ s
    → (l : Option ℕ) → hearing request.telegram request.globals x.objects ≡ l
    → room.rows ≡ (listener_room l).rows + later.rows
    → room.bytes ≡ (listener_room l).bytes + later.bytes
    → Asks request (front ++ (outcome_of request x).slot ∷ slots)
    (records ++ labelled s (outcome_of request x).records) later rest
    → Asks request (front ++ x ∷ slots) records room (noted_listener s l ++ rest)
asks_slot request front slots x s records room later rest at None is rows bytes others =
    let still : outcome_of request x ≡ unchanged x =
    unheard x request.globals request.telegram is in
    let same : later ≡ room = same_room later room (omega (arith, rows)) (omega (arith, bytes)) in
    let kept = rw still at others in
    rw (append-nil records, same) at kept
asks_slot request front slots x s records room later rest at (Some h) is rows bytes others = (
  x,
  later,
  record {
    at = slot_of_front front slots x s at;
    heard = is;
    rows = rows;
    bytes = bytes;
  },
  rw (set_front front slots x (outcome_of request x).slot s at) others,
)

-- those noted of all slots from number s on lead to the slots as the request changes them
asks_from : (request : Request) (slots : List SlotState)
    (s : ℕ) (front : List SlotState) (records : List RecordModel) (room : Room)
    → comes_unasked request.telegram ≡ true → length front ≡ s → AreRising slots
    → room ≡ entries_room (acting_in request.telegram request.globals slots)
    → front ++ map (λ slot. (outcome_of request slot).slot) slots ≡ request.slots
    → records ++ all_records s (outcome_of request) slots ≡ request.records
    → Asks request (front ++ slots) records room
    (noted_from s request.telegram request.globals slots)
asks_from request [] s front records room unasked at rising within slots_are records_are =
    (slots_are, sym (append-nil records) ∙ records_are)
asks_from request (x ∷ slots) s front records room unasked at rising within slots_are records_are =
    let then : SlotState = (outcome_of request x).slot in
    let later : Room = entries_room (acting_in request.telegram request.globals slots) in
    let up : IsRising x.objects = rising 0 x refl in
    let own = room_heard request.telegram request.globals x.objects unasked up in
    let rows = ap (λ (r : Room). r.rows) within
    ∙ sum_by-append entry_rows (acting request.telegram request.globals x.objects)
    (acting_in request.telegram request.globals slots) in
    let bytes = ap (λ (r : Room). r.bytes) within
    ∙ sum_by-append entry_bytes (acting request.telegram request.globals x.objects)
    (acting_in request.telegram request.globals slots) in
    let over : (front ++ then ∷ []) ++ slots ≡ front ++ then ∷ slots =
    append_assoc front (then ∷ []) slots in
    let slots_then =
    append_assoc front (then ∷ []) (map (λ slot. (outcome_of request slot).slot) slots)
    ∙ slots_are in
    let records_then = append_assoc records (labelled s (outcome_of request x).records)
    (all_records (s + 1) (outcome_of request) slots) ∙ records_are in
    let count : length (front ++ then ∷ []) ≡ s + 1 = length-append front (then ∷ [])
    ∙ omega (arith, at) in
    let others = asks_from request slots (s + 1) (front ++ then ∷ [])
    (records ++ labelled s (outcome_of request x).records) later unasked count
    (λ i slot is. rising (suc i) slot is) refl slots_then records_then in
    subst (λ (noted : List Addressed). Asks request (front ++ x ∷ slots) records room
    (noted ++ noted_from (s + 1) request.telegram request.globals slots))
    (noted_heard request.telegram request.globals s x.objects unasked up)
    (asks_slot request front slots x s records room later
    (noted_from (s + 1) request.telegram request.globals slots) at
    (hearing request.telegram request.globals x.objects) refl
    (rows ∙ ap (λ (r : Room). r.rows + later.rows) (sym own))
    (bytes ∙ ap (λ (r : Room). r.bytes + later.bytes) (sym own)) (rw over at others))

-- what a request leads to
abbrev pub request_of :
    TelegramModel → Globals → List SlotState → List RecordModel → Request
request_of telegram globals slots records = record {
  telegram = telegram;
  globals = globals;
  slots = map (λ slot. (requested slot globals telegram).slot) slots;
  records = records ++ all_records 0 (λ slot. requested slot globals telegram) slots;
}

-- what is left to do leads there, within the outbox's room
pub record GoesAsking (request : Request) (table : TableState) (out : OutboxState)
    (rest : List Addressed) : Type 0 where
  pub room : Room
  pub has : HasRoom out room
  pub asks : Asks request (slots_of table) out.records room rest

pub asks_within : (request : Request) (table : TableState) (out : OutboxState)
    (a : Addressed) (rest : List Addressed)
    → GoesAsking request table out (a ∷ rest) → a.slot < length table
asks_within request table out a rest goes =
    slot_within table a.slot goes.asks.0 goes.asks.2.at

pub asks_heard : (request : Request) (table : TableState) (out : OutboxState)
    (a : Addressed) (rest : List Addressed) → GoesAsking request table out (a ∷ rest)
    → hearing request.telegram request.globals (slot_at a.slot table).objects ≡ Some a.handle
asks_heard request table out a rest goes =
    ap (λ (slot : SlotState). hearing request.telegram request.globals slot.objects)
    (sym (slot_is table a.slot goes.asks.0 goes.asks.2.at)) ∙ goes.asks.2.heard

pub asks_row : (request : Request) (table : TableState) (out : OutboxState)
    (a : Addressed) (rest : List Addressed)
    → GoesAsking request table out (a ∷ rest) → 1 ≤ out.row_room
asks_row request table out a rest goes = omega (arith, goes.asks.2.rows, goes.has.rows)

pub asks_bytes : (request : Request) (table : TableState) (out : OutboxState)
    (a : Addressed) (rest : List Addressed)
    → GoesAsking request table out (a ∷ rest) → 65388 ≤ out.byte_room
asks_bytes request table out a rest goes = omega (arith, goes.asks.2.bytes, goes.has.bytes)

-- one turn
pub asks_on : (request : Request) (table table_then : TableState) (out out_then : OutboxState)
    (a : Addressed) (rest : List Addressed) → GoesAsking request table out (a ∷ rest)
    → Becomes a.slot (outcome_of request (slot_at a.slot table)) table table_then out out_then
    → out.row_room ≤ out_then.row_room + 1 → out.byte_room ≤ out_then.byte_room + 65388
    → GoesAsking request table_then out_then rest
asks_on request table table_then out out_then a rest goes becomes row_room byte_room =
    let is : goes.asks.0 ≡ slot_at a.slot table =
    slot_is table a.slot goes.asks.0 goes.asks.2.at in
    let slots_are = becomes.slots in
    let records_are = becomes.records in
    let asks = rw is at goes.asks.3 in
    record {
      room = goes.asks.1;
      has = record {
        rows = omega (arith, goes.asks.2.rows, goes.has.rows, row_room);
        bytes = omega (arith, goes.asks.2.bytes, goes.has.bytes, byte_room);
      };
      asks = rw (slots_are, records_are) asks;
    }

-- the first of those that are left
pub asks_next : (request : Request) (table : TableState) (out : OutboxState)
    (noted : List Addressed) (i : ℕ) (a : Addressed) → i < length noted
    → a ≡ get_or noted i a → GoesAsking request table out (drop i noted)
    → GoesAsking request table out (a ∷ drop (i + 1) noted)
asks_next request table out noted i a lt is goes =
    let split : drop i noted ≡ a ∷ drop (suc i) noted =
    drop-cons noted i a lt ∙ ap (λ (x : Addressed). x ∷ drop (suc i) noted) (sym is) in
    let one : i + 1 ≡ suc i = omega arith in
    rw one (rw split at goes)

-- at the end all have reached it
pub asks_end : (request : Request) (table : TableState) (out : OutboxState)
    (noted : List Addressed) (i : ℕ)
    → length noted ≤ i → GoesAsking request table out (drop i noted)
    → (slots_of table ≡ request.slots) × (out.records ≡ request.records)
asks_end request table out noted i past goes =
    let end : GoesAsking request table out [] = rw (drop_all i noted past) at goes in
    end.asks

rising_slots : (table : TableState) → IsTable table → AreRising (slots_of table)
rising_slots table sound = λ i slot at. subst (λ (x : SlotState). IsRising x.objects)
    (sym (slot_is table i slot at)) (table_rising table i sound)

-- at the start all that were noted are left
pub asks_first : (telegram : TelegramModel) (globals : Globals) (table : TableState)
    (out : OutboxState) (noted : List Addressed)
    → IsTable table → comes_unasked telegram ≡ true
    → noted ≡ noted_from 0 telegram globals (slots_of table) → HasRoom out
    (entries_room (flat_map (λ slot. acting telegram globals slot.objects) (slots_of table)))
    → GoesAsking (request_of telegram globals (slots_of table) out.records) table out noted
asks_first telegram globals table out noted sound unasked is has = record {
  room = entries_room (flat_map (λ slot. acting telegram globals slot.objects) (slots_of table));
  has = has;
  asks = rw is (asks_from (request_of telegram globals (slots_of table) out.records)
      (slots_of table) 0 [] out.records _ unasked refl (rising_slots table sound) refl refl refl);
}

-- one of each slot hears it at most

one_listener : (s : ℕ) (l : Option ℕ) → length (noted_listener s l) ≤ 1
one_listener s None = omega arith
one_listener s (Some h) = omega arith

few_from : (telegram : TelegramModel) (globals : Globals) (s : ℕ) (slots : List SlotState)
    → comes_unasked telegram ≡ true → AreRising slots
    → length (noted_from s telegram globals slots) ≤ length slots
few_from telegram globals s [] unasked rising = omega arith
few_from telegram globals s (x ∷ slots) unasked rising =
    let others = few_from telegram globals (s + 1) slots unasked
    (λ i slot is. rising (suc i) slot is) in
    let own : length (noted_as s (acting telegram globals x.objects)) ≤ 1 =
    subst (λ (noted : List Addressed). length noted ≤ 1)
    (noted_heard telegram globals s x.objects unasked (rising 0 x refl))
    (one_listener s (hearing telegram globals x.objects)) in
    omega (
      arith,
      own,
      others,
      length-append (noted_as s (acting telegram globals x.objects))
          (noted_from (s + 1) telegram globals slots),
    )

pub few_noted : (telegram : TelegramModel) (globals : Globals) (table : TableState)
    (noted : List Addressed) → IsTable table → comes_unasked telegram ≡ true
    → noted ≡ noted_from 0 telegram globals (slots_of table)
    → length noted ≤ length (slots_of table)
few_noted telegram globals table noted sound unasked is =
    rw is (few_from telegram globals 0 (slots_of table) unasked (rising_slots table sound))
