-- The loop over the objects that were noted.
-- For `take_all` and `ask_all`.
-- By the loop's invariant: what is left to do leads to all slots as the telegram changes them.
use Rattle.std.proofs.Common.{suc, ◌≡◌, ℕ, ◌+◌, ◌<◌, ◌≤◌, List, [], ◌∷◌, ◌++◌, length, map}
use Rattle.std.proofs.Common.{get_or}
use Rattle.std.proofs.Common.{drop, drop-cons, Some, true, ◌∙◌, sym, ap, subst, arith}
use Rattle.std.specs.Prelude.{slice_get, IfSome}
use Rattle.std.specs.List.{flat_map}
use Rattle.std.proofs.lemmas.List.{length-map, drop_all}
use Rattle.std.proofs.lemmas.Option.{same_Some}
use Rattle.trdp_filter.specs.declared.globals.Globals.{Globals}
use Rattle.trdp_filter.specs.Telegrams.{TelegramModel}
use Rattle.trdp_table.specs.Tables.{TableState}
use Rattle.trdp_table.specs.TableLaws.{IsTable}
use Rattle.trdp_model.specs.Configs.{NodeSetup}
use Rattle.trdp_datagrams.specs.Noted.{Addressed}
use Rattle.trdp_outbox.specs.declared.room.Room.{Room}
use Rattle.trdp_model.specs.Records.{RecordModel}
use Rattle.trdp_model.specs.Slots.{SlotState, Outcome, entry_under}
use Rattle.trdp_store.specs.TableSlots.{slots_of}
use Rattle.trdp_model.proofs.HandleLemmas.{IsRising}
use Rattle.trdp_outbox.specs.Outboxes.{OutboxState}
use Rattle.trdp_outbox.specs.Rooms.{HasRoom, entries_room}
use Rattle.trdp_store.specs.Acting.{slot_at, MayAct, ActsAt, act_of}
use Rattle.trdp_model.specs.Datagrams.{is_for_entry, acting}
use Rattle.trdp_model.specs.NodeModels.{HasOutcome, Appends}
use Rattle.trdp_datagrams.specs.Noted.{noted_from}
use Rattle.trdp_store.proofs.StoreLemmas.Slots.{slots_length, slot_within, slot_is}
use Rattle.trdp_store.proofs.StoreLemmas.Slots.{rising as table_rising}
use Rattle.trdp_model.proofs.SweepLemmas.{all_records, each_part, each_appends}
use Rattle.trdp_datagrams.proofs.DatagramLemmas.Handed.{Aim, act_in, Leads, aim_of, all_led}

-- what is left to do reaches the aim, within the outbox's room
pub record Goes (aim : Aim) (table : TableState) (out : OutboxState) (rest : List Addressed)
    : Type 0 where
  pub room : Room
  pub has : HasRoom out room
  pub leads : Leads aim (slots_of table) out.records room rest

pub goes_within :
    (aim : Aim) (table : TableState) (out : OutboxState) (a : Addressed) (rest : List Addressed)
    → Goes aim table out (a ∷ rest) → a.slot < length table
goes_within aim table out a rest goes = slot_within table a.slot goes.leads.0 goes.leads.3.at

found_next : (aim : Aim) (table : TableState) (out : OutboxState)
    (a : Addressed) (rest : List Addressed) (goes : Goes aim table out (a ∷ rest))
    → entry_under a.handle (slot_at a.slot table).objects ≡ Some goes.leads.1
found_next aim table out a rest goes =
    ap (λ (slot : SlotState). entry_under a.handle slot.objects)
    (sym (slot_is table a.slot goes.leads.0 goes.leads.3.at)) ∙ goes.leads.3.found

pub goes_may :
    (aim : Aim) (table : TableState) (out : OutboxState) (a : Addressed) (rest : List Addressed)
    → Goes aim table out (a ∷ rest) → MayAct (slot_at a.slot table) a.handle out
goes_may aim table out a rest goes =
    let rows = goes.leads.3.rows in
    let bytes = goes.leads.3.bytes in
    let row_room = goes.has.rows in
    let byte_room = goes.has.bytes in
    record {
      entry = goes.leads.1;
      found = found_next aim table out a rest goes;
      room =
          record { rows = omega (arith, rows, row_room); bytes = omega (arith, bytes, byte_room) };
    }

pub goes_addressed :
    (aim : Aim) (table : TableState) (out : OutboxState) (a : Addressed) (rest : List Addressed)
    → Goes aim table out (a ∷ rest) → IfSome (entry_under a.handle (slot_at a.slot table).objects)
    (λ entry. is_for_entry aim.telegram aim.globals entry ≡ true)
goes_addressed aim table out a rest goes =
    rw (found_next aim table out a rest goes) goes.leads.3.is_for

-- one turn
pub goes_on : (aim : Aim) (table table_then : TableState) (out out_then : OutboxState)
    (a : Addressed) (rest : List Addressed) → Goes aim table out (a ∷ rest)
    → ActsAt a.slot a.handle (act_in aim) table table_then out out_then
    → Goes aim table_then out_then rest
goes_on aim table table_then out out_then a rest goes acts =
    let is : goes.leads.0 ≡ slot_at a.slot table =
    slot_is table a.slot goes.leads.0 goes.leads.3.at in
    let one : goes.leads.1 ≡ acts.entry = same_Some goes.leads.1
    acts.entry (sym (found_next aim table out a rest goes) ∙ acts.found) in
    let outcome : Outcome = act_of acts.entry (act_in aim) (slot_at a.slot table) in
    let slots_are = acts.becomes.slots in
    let records_are = acts.becomes.records in
    let leads = rw (is, one) at goes.leads.4 in
    let rows = rw one at goes.leads.3.rows in
    let bytes = rw one at goes.leads.3.bytes in
    let row_room = goes.has.rows in
    let byte_room = goes.has.bytes in
    let row_room_then = acts.within.rows in
    let byte_room_then = acts.within.bytes in
    record {
      room = goes.leads.2;
      has = record {
        rows = omega (arith, rows, row_room, row_room_then);
        bytes = omega (arith, bytes, byte_room, byte_room_then);
      };
      leads = rw (slots_are, records_are) leads;
    }

-- the first of those that are left
pub goes_next : (aim : Aim) (table : TableState) (out : OutboxState) (noted : List Addressed)
    (i : ℕ) (a : Addressed) → i < length noted → a ≡ get_or noted i a
    → Goes aim table out (drop i noted) → Goes aim table out (a ∷ drop (i + 1) noted)
goes_next aim table out noted i a lt is goes =
    let split : drop i noted ≡ a ∷ drop (suc i) noted =
    drop-cons noted i a lt ∙ ap (λ (x : Addressed). x ∷ drop (suc i) noted) (sym is) in
    let one : i + 1 ≡ suc i = omega arith in
    rw one (rw split at goes)

-- at the end the aim is reached
pub goes_end : (aim : Aim) (table : TableState) (out : OutboxState) (noted : List Addressed) (i : ℕ)
    → length noted ≤ i → Goes aim table out (drop i noted)
    → (slots_of table ≡ aim.slots) × (out.records ≡ aim.records)
goes_end aim table out noted i past goes =
    let end : Goes aim table out [] = rw (drop_all i noted past) at goes in
    end.leads

-- at the start all that were noted are left
pub goes_first : (setup : NodeSetup) (telegram : TelegramModel)
    (globals : Globals) (table : TableState) (out : OutboxState) (noted : List Addressed)
    → IsTable table → noted ≡ noted_from 0 telegram globals (slots_of table) → HasRoom out
    (entries_room (flat_map (λ slot. acting telegram globals slot.objects) (slots_of table)))
    → Goes (aim_of setup telegram globals (slots_of table) out.records) table out noted
goes_first setup telegram globals table out noted sound is has = record {
  room = entries_room (flat_map (λ slot. acting telegram globals slot.objects) (slots_of table));
  has = has;
  leads = rw is (all_led setup telegram globals
      (slots_of table) out.records (λ i slot at. subst (λ (x : SlotState). IsRising x.objects)
      (sym (slot_is table i slot at)) (table_rising table i sound)));
}

pub reached_count : (f : SlotState → Outcome) (table table_then : TableState)
    → slots_of table_then ≡ map (λ slot. (f slot).slot) (slots_of table)
    → length table_then ≡ length table
reached_count f table table_then are =
    sym (slots_length table_then)
    ∙ (ap length are ∙ (length-map (slots_of table) _ ∙ slots_length table))

pub reached_parts : (f : SlotState → Outcome) (slots slots_then : List SlotState)
    (records records_then : List RecordModel) → slots_then ≡ map (λ slot. (f slot).slot) slots
    → records_then ≡ records ++ all_records 0 f slots
    → (s : ℕ) (slot : SlotState) → slice_get slots s ≡ Some slot
    → HasOutcome slots_then records records_then s (f slot)
reached_parts f slots slots_then records records_then are told s slot at =
    rw (are, told) (each_part f slots records s slot at)

pub reached_appends : (f : SlotState → Outcome) (slots : List SlotState)
    (records records_then : List RecordModel) → records_then ≡ records ++ all_records 0 f slots
    → Appends slots records records_then
reached_appends f slots records records_then told = rw told (each_appends f slots records)
