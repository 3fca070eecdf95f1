use Rattle.std.proofs.Common.{◌<◌, ◌^◌, ◌∙◌, sym, ap, refl, arith}
use Rattle.std.specs.Prelude.{option_map}
use Rattle.trdp_model.specs.Kinds.{kind_of}
use Rattle.trdp_table.specs.Tables.{room_of}
use Rattle.trdp_store.specs.declared.counts.Counts.{Counts}
use Rattle.trdp_table.specs.Refusals.{table_refusal}
use Rattle.trdp_store.proofs.OrderLemmas.Added.{added_scheduled, added_within, added_unset}
use Rattle.trdp_store.proofs.OrderLemmas.Rooms.{kind_rows, kind_bytes}
use Rattle.trdp_store.proofs.OrderLemmas.Counts.{orders_counted, added_costs}
use Rattle.trdp_store.proofs.ComLemmas.Kept.{has_spare, is_fresh, added_index, added_there}
use Rattle.trdp_store.proofs.SessionLemmas.Kept.{session_spare, added_session}
use Rattle.trdp_store.proofs.SessionLemmas.Open.{session_fresh}
use Rattle.trdp_store.proofs.StoreLemmas.Kinds.{added_kinds, refused_alike}
use Rattle.trdp_store.proofs.store.Store.add.Goals as goal
use Rattle.trdp_store.proofs.store.Store.add.Goals.{in-Some, in_default}

pub enlist-requires-clause-spare : goal.enlist-requires-clause-spare
enlist-requires-clause-spare c =
    has_spare c.self.inside.table c.self.inside.coms c.com_of-sought.result c.self.invariant.by_com
    (c.sound.ensures.spare c.args.slot _ (rw (← c.self.view_is) at c.requires.slot)
    c.in-Ok.ensures.granted)

pub enlist-requires-clause-fresh : goal.enlist-requires-clause-fresh
enlist-requires-clause-fresh c =
    rw c.in-Ok.ensures.handle (is_fresh c.self.inside.table c.self.inside.coms
    c.com_of-sought.result c.args.slot c.self.invariant.by_com c.sound.ensures.sound)

pub enter-requires-clause-spare : goal.enter-requires-clause-spare
enter-requires-clause-spare c =
    session_spare c.self.inside.table c.self.inside.sessions
    c.session_of-own.result c.self.invariant.by_session
    (c.sound.ensures.spare c.args.slot _ (rw (← c.self.view_is) at c.requires.slot)
    c.in-Ok.ensures.granted)

pub enter-requires-clause-fresh : goal.enter-requires-clause-fresh
enter-requires-clause-fresh c =
    rw c.session_of-own.ensures
    (session_fresh c.self.inside.table c.self.inside.sessions c.args.slot
    c.args.object c.self.invariant.by_session (rw (← c.self.view_is) at c.requires.fresh))

pub admit-requires-clause-key : goal.admit-requires-clause-key
admit-requires-clause-key c =
    let within = added_within c.self.inside.table c.add.new.self c.args.slot c.in-Ok.handle
    c.in-Some.key c.args.object c.sound-in-Ok.ensures.sound c.sound-in-Ok.ensures.found
    (rw (← c.self.view_is) at c.requires.slot) c.in-Ok.ensures.added c.in-Some.ensures in
    omega (arith, within, c.self.invariant.by_moment.room)

pub admit-requires-clause-rows : goal.admit-requires-clause-rows
admit-requires-clause-rows c = rw c.of-room.ensures (kind_rows (kind_of c.args.object))

pub admit-requires-clause-bytes : goal.admit-requires-clause-bytes
admit-requires-clause-bytes c = rw c.of-room.ensures (kind_bytes (kind_of c.args.object))

pub change-requires-clause-key : goal.change-requires-clause-key
change-requires-clause-key c =
    let within = added_within c.self.inside.table c.add.new.self c.args.slot c.in-Ok.handle
    c.in-Some.key c.args.object c.sound-in-Ok.ensures.sound c.sound-in-Ok.ensures.found
    (rw (← c.self.view_is) at c.requires.slot) c.in-Ok.ensures.added c.in-Some.ensures in
    rw c.admit.ensures.orders (omega (arith, within, c.self.invariant.by_moment.room))

pub change-requires-clause-before : goal.change-requires-clause-before
change-requires-clause-before c =
    rw c.admit.ensures.orders
    (added_unset c.self.inside.table c.add.new.self c.self.inside.schedule
    c.args.slot c.in-Ok.handle c.in-Some.key c.args.object c.self.invariant.by_moment
    c.sound.ensures.sound c.sound.ensures.found (rw (← c.self.view_is) at c.requires.slot)
    c.in-Ok.ensures.added c.in-Ok.ensures.handle c.in-Some.ensures)

pub invariant_of-self-in-Some : goal.invariant_of-self-in-Some
invariant_of-self-in-Some c = record {
  by_com = added_index c.self.inside.table c.add.new.self
      c.self.inside.coms c.enlist.new.coms c.args.slot c.in-Ok.handle c.in-Some.key c.args.object
      c.self.invariant.by_com c.sound.ensures.sound (rw (← c.self.view_is) at c.requires.slot)
      c.in-Ok.ensures.added c.in-Ok.ensures.handle c.in-Some.ensures
      (rw c.com_of-sought.ensures at c.enlist.ensures.runs)
      (rw c.com_of-sought.ensures at c.enlist.ensures.count)
      c.enlist.ensures.room;
  by_session = added_session c.self.inside.table c.add.new.self c.self.inside.sessions
      c.enter.new.sessions c.args.slot c.in-Ok.handle c.in-Some.key c.args.object
      c.self.invariant.by_session c.sound.ensures.sound (rw (← c.self.view_is) at c.requires.slot)
      c.in-Ok.ensures.added c.in-Ok.ensures.handle c.in-Some.ensures
      (session_fresh c.self.inside.table c.self.inside.sessions c.args.slot
      c.args.object c.self.invariant.by_session (rw (← c.self.view_is) at c.requires.fresh))
      (rw c.session_of-own.ensures at c.enter.ensures.keys)
      (rw c.session_of-own.ensures at c.enter.ensures.count)
      c.enter.ensures.room;
  by_moment =
      added_scheduled c.self.inside.table c.add.new.self c.self.inside.schedule c.change.new.self
      c.args.slot c.in-Ok.handle c.in-Some.key c.args.object c.self.invariant.by_moment
      c.sound.ensures.sound c.sound.ensures.found (rw (← c.self.view_is) at c.requires.slot)
      c.in-Ok.ensures.added c.in-Ok.ensures.handle c.in-Some.ensures
      (added_within c.self.inside.table c.add.new.self c.args.slot c.in-Ok.handle
      c.in-Some.key c.args.object c.sound-in-Ok.ensures.sound c.sound-in-Ok.ensures.found
      (rw (← c.self.view_is) at c.requires.slot) c.in-Ok.ensures.added c.in-Some.ensures)
      (record {
        orders = c.change.ensures.orders ∙ rw (c.admit.ensures.orders, c.due-due.ensures) refl;
        rows = c.change.ensures.rows ∙ (c.admit.ensures.rows ∙ rw c.of-room.ensures refl);
        bytes = c.change.ensures.bytes ∙ (c.admit.ensures.bytes ∙ rw c.of-room.ensures refl);
      });
  kinds = added_kinds c.self.inside.table c.add.new.self c.args.slot c.args.object
      (rw (← c.self.view_is) at c.requires.slot) c.in-Ok.ensures.added c.self.invariant.kinds;
}

pub invariant_of-self-in_default : goal.invariant_of-self-in_default
invariant_of-self-in_default c =
    absurd (added_there c.self.inside.table c.add.new.self c.args.slot c.in-Ok.handle
    c.args.object c.sound.ensures.sound (rw (← c.self.view_is) at c.requires.slot)
    c.in-Ok.ensures.added c.in-Ok.ensures.handle (sym c.find.ensures ∙ c.in_default.is))

pub returns-in-Err-clause-fault : goal.returns-in-Err-clause-fault
returns-in-Err-clause-fault c =
    rw (← c.self.view_is)
    (sym (refused_alike c.self.inside.table c.args.slot
    (kind_of c.args.object) c.self.invariant.kinds)
    ∙ ap (option_map table_refusal) c.in-Err.ensures.fault)

pub returns-after-find-clause-granted : goal.returns-after-find-clause-granted
returns-after-find-clause-granted c =
    rw (← c.self.view_is)
    (sym (refused_alike c.self.inside.table c.args.slot
    (kind_of c.args.object) c.self.invariant.kinds)
    ∙ ap (option_map table_refusal) c.in-Ok.ensures.granted)

pub returns-after-find-clause-comparisons : goal.returns-after-find-clause-comparisons
returns-after-find-clause-comparisons c = λ b lt.
    let within : room_of c.self.inside.table < 2 ^ b = rw (← c.self.view_is) at lt in
    elim c.match-find.branch [
      | in-Some w ↦
          let few = orders_counted c.self.inside.table
          c.self.inside.schedule c.self.invariant.by_moment c.sound.ensures.found in
          let spare = c.sound.ensures.spare c.args.slot _
          (rw (← c.self.view_is) at c.requires.slot) c.in-Ok.ensures.granted in
          let set =
          added_costs c.self.inside.table w.admit.new.self.orders
          w.change.new.self.orders w.in-Some.key _ b w.change.result (rw w.admit.ensures.orders few)
          spare w.change.ensures.orders within (w.change.ensures.cost b) in
          let counted = ap (λ (k : Counts). k.comparisons) w.counts-is in
          omega (arith, set, w.compared.ensures.comparisons, counted)
      | in_default w ↦
          let counted = ap (λ (k : Counts). k.comparisons) w.counts-is in
          omega (arith, counted)
    ]
