-- What a deed of an object of the store results in for its callers.
-- For `take_all` and `fire_all`.
-- By: the store's contract names the one object that acted, and what became of it.
use Rattle.std.proofs.Common.{◌≡◌, ℕ, Option, Some, None}
use Rattle.std.proofs.Common.{sym, subst, is_some, IfSome}
use Rattle.trdp_model.specs.Kinds.{kind_of}
use Rattle.trdp_table.specs.Tables.{TableState}
use Rattle.trdp_model.specs.Acts.{Act, acted}
use Rattle.trdp_store.specs.Acting.{slot_at, MayAct, TookWithin, Becomes, ActsAt}
use Rattle.trdp_model.specs.Calls.{at_object}
use Rattle.trdp_outbox.specs.Outboxes.{OutboxState}
use Rattle.trdp_outbox.specs.Rooms.{kind_room}
use Rattle.trdp_model.specs.Slots.{Entry, entry_at, entry_under}
use Rattle.trdp_datagrams.proofs.NoteLemmas.BySession.{handle_is}

-- the object of the handle, which may act, has acted
pub deed_acts : {A : Type 0} (s h : ℕ) (act : Entry → Act) (table table_then : TableState)
    (out out_then : OutboxState) (did : Option A) → MayAct (slot_at s table) h out
    → is_some did ≡ is_some (entry_under h (slot_at s table).objects)
    → IfSome did (λ _. Becomes s
    (at_object (slot_at s table) h (λ object. act (entry_at h object))) table table_then out
    out_then)
    → IfSome did (λ _. IfSome (entry_under h (slot_at s table).objects)
    (λ entry. TookWithin out out_then (kind_room (kind_of entry.object))))
    → ActsAt s h act table table_then out out_then
deed_acts s h act table table_then out out_then None may found done spends =
    let no = rw may.found at found in absurd (cc)
deed_acts s h act table table_then out out_then (Some did) may found done spends =
    let same = handle_is h (slot_at s table).objects may.entry may.found in
    record {
      entry = may.entry;
      found = may.found;
      becomes = subst (λ (k : ℕ). Becomes s (record {
        slot = record (slot_at s table) {
          objects =
              acted k (act (entry_at k may.entry.object)).left (slot_at s table).objects;
        };
        records = (act (entry_at k may.entry.object)).records;
      }) table table_then out out_then) (sym same) (rw may.found at done);
      within = rw may.found at spends;
    }
