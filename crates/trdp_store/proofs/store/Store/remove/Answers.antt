use Rattle.std.proofs.Common.{◌≡◌, ℕ, ◌<◌, ◌^◌, ◌∙◌, sym, ap, Some, arith}
use Rattle.std.specs.Prelude.{option_map}
use Rattle.std.proofs.lemmas.Option.{same_Some}
use Rattle.trdp_table.specs.Tables.{Keyed, TableState, slot_in, all_objects}
use Rattle.trdp_table.specs.Tables.{by_handle, by_key, room_of}
use Rattle.trdp_store.specs.Indexed.{com_found}
use Rattle.trdp_store.specs.InSession.{session_found, session_in}
use Rattle.trdp_store.proofs.StoreLemmas.Slots.{KeysGive, keyed_found}
use Rattle.trdp_store.specs.Timed.{due_order}
use Rattle.trdp_store.proofs.ComLemmas.Removed.{com_in}
use Rattle.trdp_store.proofs.ComLemmas.Kept.{is_there, indexed_removed}
use Rattle.trdp_store.proofs.SessionLemmas.Kept.{session_removed}
use Rattle.trdp_store.proofs.OrderLemmas.Removed.{without_order, scheduled_without}
use Rattle.trdp_store.proofs.OrderLemmas.Counts.{orders_counted}
use Rattle.trdp_store.proofs.SessionLemmas.Open.{session_there}
use Rattle.trdp_store.proofs.StoreLemmas.Kinds.{removed_kinds}
use Rattle.trdp_store.proofs.store.Store.remove.Goals as goal

com_known : (table : TableState) (s h key : ℕ) → KeysGive table
    → option_map (λ (k : Keyed). k.key) (by_handle h (slot_in s table).objects) ≡ Some key
    → com_found (by_key key (all_objects table)) ≡ com_in s h table
com_known table s h key gives at = ap com_found (keyed_found table s h key gives (sym at))

session_known : (table : TableState) (s h key : ℕ) → KeysGive table
    → option_map (λ (k : Keyed). k.key) (by_handle h (slot_in s table).objects) ≡ Some key
    → session_found (by_key key (all_objects table)) ≡ session_in s h table
session_known table s h key gives at =
    ap session_found (keyed_found table s h key gives (sym at))

pub delist-requires : goal.delist-requires
delist-requires c = record {
  there = rw (
    c.com_at-sought.ensures,
    ← c.self.view_is,
    com_known c.self.inside.table c.args.slot c.args.handle c.args.key c.sound.ensures.found
        (rw (← c.self.view_is) at c.requires.key),
  ) (is_there c.self.inside.table
      c.self.inside.coms c.args.slot c.args.handle c.self.invariant.by_com);
}

pub leave-requires : goal.leave-requires
leave-requires c = record {
  there = rw (
    c.session_at-own.ensures,
    ← c.self.view_is,
    session_known c.self.inside.table c.args.slot c.args.handle c.args.key c.sound.ensures.found
        (rw (← c.self.view_is) at c.requires.key),
  ) (session_there c.self.inside.table
      c.self.inside.sessions c.args.slot c.args.handle c.self.invariant.by_session);
}

pub invariant_of-self : goal.invariant_of-self
invariant_of-self c =
    let at = rw (← c.self.view_is) at c.requires.key in
    let looked = com_known c.self.inside.table c.args.slot c.args.handle c.args.key
    c.sound.ensures.found at in
    let own = session_known c.self.inside.table c.args.slot c.args.handle c.args.key
    c.sound.ensures.found at in
    rw c.remove.ensures.table
    (record {
      by_com = indexed_removed c.self.inside.table
          c.self.inside.coms c.delist.new.coms c.args.slot c.args.handle
          c.self.invariant.by_com c.sound.ensures.sound (rw (← c.self.view_is) at c.requires.slot)
          (rw (c.com_at-sought.ensures, ← c.self.view_is, looked) at c.delist.ensures.runs)
          (rw (c.com_at-sought.ensures, ← c.self.view_is, looked) at c.delist.ensures.count)
          c.delist.ensures.room;
      by_session = session_removed c.self.inside.table c.self.inside.sessions
          c.leave.new.sessions c.args.slot c.args.handle c.self.invariant.by_session
          c.sound.ensures.sound c.sound.ensures.found (rw (← c.self.view_is) at c.requires.slot)
          (rw (c.session_at-own.ensures, ← c.self.view_is, own) at c.leave.ensures.keys)
          (rw (c.session_at-own.ensures, ← c.self.view_is, own) at c.leave.ensures.count)
          c.leave.ensures.room;
      by_moment = scheduled_without c.self.inside.table c.self.inside.schedule
          c.dismiss-comparisons.new.self c.args.slot c.args.handle c.self.invariant.by_moment
          c.sound.ensures.sound c.sound.ensures.found (rw (← c.self.view_is) at c.requires.slot)
          (c.dismiss-comparisons.ensures.orders
          ∙ ap (without_order c.self.inside.schedule.orders) (sym at))
          c.dismiss-comparisons.ensures.rows
          c.dismiss-comparisons.ensures.bytes;
      kinds = removed_kinds c.self.inside.table c.args.slot c.args.handle
          (rw (← c.self.view_is) at c.requires.slot) c.self.invariant.kinds;
    })

pub returns-clause-cost : goal.returns-clause-cost
returns-clause-cost c = λ b lt.
    let within : room_of c.self.inside.table < 2 ^ b = rw (← c.self.view_is) at lt in
    let few = orders_counted c.self.inside.table
    c.self.inside.schedule c.self.invariant.by_moment c.sound.ensures.found in
    c.dismiss-comparisons.ensures.cost b (omega (arith, within, few, c.sound.ensures.room))

pub returns-clause-idle : goal.returns-clause-idle
returns-clause-idle c = λ keyed at none.
    let found : by_handle c.args.handle (slot_in c.args.slot c.self.inside.table).objects
    ≡ Some keyed = rw (← c.self.view_is) at at in
    let order = (c.self.invariant.by_moment.timed c.args.slot c.args.handle keyed found).order in
    let known = rw (← c.self.view_is) at c.requires.key in
    let key_is = same_Some c.args.key keyed.key
    (sym known ∙ ap (option_map (λ (k : Keyed). k.key)) found) in
    let idle = rw key_is at c.dismiss-comparisons.ensures.idle in
    idle (order ∙ ap (due_order c.args.slot keyed.handle) none)
