use Rattle.std.proofs.Common.{◌∙◌, ap, sym, refl, arith, ℕ, ◌<◌, ◌^◌, Option, Some}
use Rattle.std.specs.Prelude.{option_map}
use Rattle.trdp_model.specs.Objects.{due_of}
use Rattle.trdp_table.specs.Tables.{Keyed, room_of, exchanged}
use Rattle.trdp_store.specs.Timed.{due_order}
use Rattle.trdp_store.proofs.StoreLemmas.Slots.{reached, reached_entry, none_found}
use Rattle.trdp_store.proofs.ComLemmas.Kept.{indexed_reached}
use Rattle.trdp_store.proofs.StoreLemmas.Kinds.{reached_kinds}
use Rattle.trdp_store.proofs.SessionLemmas.Kept.{session_reached}
use Rattle.trdp_store.proofs.OrderLemmas.Changed.{room_exchanged, scheduled_reached}
use Rattle.trdp_store.proofs.OrderLemmas.Changed.{reached_then, reached_order}
use Rattle.trdp_store.proofs.OrderLemmas.Rooms.{over_costs}
use Rattle.trdp_store.proofs.OrderLemmas.Counts.{reset_costs}
use Rattle.trdp_store.proofs.StoreLemmas.Acts.{asked_stays, asked_ended}
use Rattle.trdp_store.proofs.store.Store.act.Goals as goal

pub returns-in_err-key-clause-found : goal.returns-in_err-key-clause-found
returns-in_err-key-clause-found g c =
    rw (
      ← c.self.view_is,
      none_found c.self.inside.table c.args.sought.slot c.args.sought.handle c.in_err-key.ensures,
      c.from_residual.ensures,
    ) refl

pub on-left-requires : goal.on-left-requires
on-left-requires g c =
    let r = reached c.self.inside.table c.args.sought.slot c.args.sought.handle c.in_ok-key.key
    c.in_ok-object.object.now c.sound.ensures.found c.in_ok-key.ensures
    c.in_ok-object.ensures.value in
    let may = rw (
      ← c.self.view_is,
      reached_entry c.self.inside.table c.args.sought.slot c.args.sought.handle c.in_ok-key.key
          c.in_ok-object.object.now r,
    ) at c.requires.may in
    record { may = rw r.object_is may }

pub change-changed-requires-clause-before : goal.change-changed-requires-clause-before
change-changed-requires-clause-before g c =
    let r = reached c.self.inside.table c.args.sought.slot c.args.sought.handle c.in_ok-key.key
    c.in_ok-object.object.now c.sound.ensures.found c.in_ok-key.ensures
    c.in_ok-object.ensures.value in
    reached_order c.self.inside.table c.self.inside.schedule c.args.sought.slot c.args.sought.handle
    c.in_ok-key.key c.in_ok-object.object.now c.self.invariant.by_moment r
    ∙ ap (due_order c.args.sought.slot c.args.sought.handle) (sym c.due-before.ensures)

pub invariant_of-self-in-Stays : goal.invariant_of-self-in-Stays
invariant_of-self-in-Stays g c =
    let r = reached c.self.inside.table c.args.sought.slot c.args.sought.handle c.in_ok-key.key
    c.in_ok-object.object.now c.sound.ensures.found c.in_ok-key.ensures
    c.in_ok-object.ensures.value in
    let slot = rw (← c.self.view_is) at c.requires.slot in
    record {
      by_com = indexed_reached c.self.inside.table c.self.inside.coms
          c.args.sought.slot c.args.sought.handle
          c.in_ok-key.key c.in_ok-object.object.now c.on-left.new.object c.self.invariant.by_com
          c.sound.ensures.sound slot c.sound.ensures.exchanged r c.on-left.ensures.sought;
      by_session = session_reached c.self.inside.table c.self.inside.sessions c.args.sought.slot
          c.args.sought.handle c.in_ok-key.key c.in_ok-object.object.now c.on-left.new.object
          c.self.invariant.by_session c.sound.ensures.sound slot c.sound.ensures.exchanged r
          c.on-left.ensures.session;
      by_moment = scheduled_reached c.self.inside.table c.self.inside.schedule
          c.change-changed.new.self c.args.sought.slot c.args.sought.handle c.in_ok-key.key
          c.in_ok-object.object.now c.on-left.new.object c.self.invariant.by_moment
          c.sound.ensures.sound c.sound.ensures.found slot c.sound.ensures.exchanged r
          c.on-left.ensures.kind
          (record {
            orders = rw c.due-due.ensures at c.change-changed.ensures.orders;
            rows = c.change-changed.ensures.rows;
            bytes = c.change-changed.ensures.bytes;
          });
      kinds = reached_kinds c.self.inside.table
          c.args.sought.slot c.args.sought.handle c.in_ok-key.key
          c.in_ok-object.object.now c.on-left.new.object c.self.invariant.kinds
          c.sound.ensures.sound slot c.sound.ensures.exchanged r c.on-left.ensures.kind;
    }

pub remove-requires-clause-key : goal.remove-requires-clause-key
remove-requires-clause-key g c =
    let r = reached c.self.inside.table c.args.sought.slot c.args.sought.handle c.in_ok-key.key
    c.in_ok-object.object.now c.sound.ensures.found c.in_ok-key.ensures
    c.in_ok-object.ensures.value in
    ap (option_map (λ (k : Keyed). k.key))
    (reached_then c.self.inside.table c.args.sought.slot c.args.sought.handle c.in_ok-key.key
    c.in_ok-object.object.now c.on-left.new.object (rw (← c.self.view_is) at c.requires.slot)
    c.sound.ensures.exchanged r)
    ∙ ap (λ (n : ℕ). let some : Option ℕ = Some n in some) (sym r.key_is)

pub invariant_of-self-in-Ended : goal.invariant_of-self-in-Ended
invariant_of-self-in-Ended g c =
    let r = reached c.self.inside.table c.args.sought.slot c.args.sought.handle c.in_ok-key.key
    c.in_ok-object.object.now c.sound.ensures.found c.in_ok-key.ensures
    c.in_ok-object.ensures.value in
    let slot = rw (← c.self.view_is) at c.requires.slot in
    record {
      by_com = indexed_reached c.self.inside.table c.self.inside.coms
          c.args.sought.slot c.args.sought.handle
          c.in_ok-key.key c.in_ok-object.object.now c.on-left.new.object c.self.invariant.by_com
          c.sound.ensures.sound slot c.sound.ensures.exchanged r c.on-left.ensures.sought;
      by_session = session_reached c.self.inside.table c.self.inside.sessions c.args.sought.slot
          c.args.sought.handle c.in_ok-key.key c.in_ok-object.object.now c.on-left.new.object
          c.self.invariant.by_session c.sound.ensures.sound slot c.sound.ensures.exchanged r
          c.on-left.ensures.session;
      by_moment = scheduled_reached c.self.inside.table c.self.inside.schedule
          c.change-changed.new.self c.args.sought.slot c.args.sought.handle c.in_ok-key.key
          c.in_ok-object.object.now c.on-left.new.object c.self.invariant.by_moment
          c.sound.ensures.sound c.sound.ensures.found slot c.sound.ensures.exchanged r
          c.on-left.ensures.kind
          (record {
            orders = rw c.due-due.ensures at c.change-changed.ensures.orders;
            rows = c.change-changed.ensures.rows;
            bytes = c.change-changed.ensures.bytes;
          });
      kinds = reached_kinds c.self.inside.table
          c.args.sought.slot c.args.sought.handle c.in_ok-key.key
          c.in_ok-object.object.now c.on-left.new.object c.self.invariant.kinds
          c.sound.ensures.sound slot c.sound.ensures.exchanged r c.on-left.ensures.kind;
    }

pub returns-in-Stays-clause-done : goal.returns-in-Stays-clause-done
returns-in-Stays-clause-done g c =
    rw (← c.self.view_is)
    (asked_stays c.self.inside.table c.args.sought.slot c.args.sought.handle c.in_ok-key.key
    c.in_ok-object.object.now c.on-left.new.object _ c.args.out.now c.on-left.new.out
    c.sound.ensures.exchanged
    (reached c.self.inside.table c.args.sought.slot c.args.sought.handle c.in_ok-key.key
    c.in_ok-object.object.now c.sound.ensures.found c.in_ok-key.ensures
    c.in_ok-object.ensures.value)
    c.in-Stays.ensures.left c.on-left.ensures.records)

pub returns-in-Stays-clause-spends : goal.returns-in-Stays-clause-spends
returns-in-Stays-clause-spends g c =
    let r = reached c.self.inside.table c.args.sought.slot c.args.sought.handle c.in_ok-key.key
    c.in_ok-object.object.now c.sound.ensures.found c.in_ok-key.ensures
    c.in_ok-object.ensures.value in
    rw (
      ← c.self.view_is,
      reached_entry c.self.inside.table c.args.sought.slot c.args.sought.handle c.in_ok-key.key
          c.in_ok-object.object.now r,
      ← r.object_is,
    ) c.on-left.ensures.spends

pub returns-in-Stays-clause-found : goal.returns-in-Stays-clause-found
returns-in-Stays-clause-found g c =
    let r = reached c.self.inside.table c.args.sought.slot c.args.sought.handle c.in_ok-key.key
    c.in_ok-object.object.now c.sound.ensures.found c.in_ok-key.ensures
    c.in_ok-object.ensures.value in
    rw (
      ← c.self.view_is,
      reached_entry c.self.inside.table c.args.sought.slot c.args.sought.handle c.in_ok-key.key
          c.in_ok-object.object.now r,
    ) refl

pub returns-in-Stays-clause-comparisons : goal.returns-in-Stays-clause-comparisons
returns-in-Stays-clause-comparisons g c = λ b lt.
    let r = reached c.self.inside.table c.args.sought.slot c.args.sought.handle c.in_ok-key.key
    c.in_ok-object.object.now c.sound.ensures.found c.in_ok-key.ensures
    c.in_ok-object.ensures.value in
    let within : room_of c.self.inside.table < 2 ^ b = rw (← c.self.view_is) at lt in
    let set = reset_costs c.self.inside.table c.self.inside.schedule c.change-changed.new.self
    c.args.sought.slot c.args.sought.handle c.in_ok-key.key c.in_ok-object.object.now _ b
    c.change-changed.result c.self.invariant.by_moment c.sound.ensures.found
    c.sound.ensures.room r c.change-changed.ensures.orders within
    (c.change-changed.ensures.cost b) in
    omega (arith, set)

pub returns-in-Stays-clause-still : goal.returns-in-Stays-clause-still
returns-in-Stays-clause-still g c = λ ends b lt.
    let r = reached c.self.inside.table c.args.sought.slot c.args.sought.handle c.in_ok-key.key
    c.in_ok-object.object.now c.sound.ensures.found c.in_ok-key.ensures
    c.in_ok-object.ensures.value in
    let within : room_of c.self.inside.table < 2 ^ b = rw (← c.self.view_is) at lt in
    reset_costs c.self.inside.table c.self.inside.schedule c.change-changed.new.self
    c.args.sought.slot c.args.sought.handle c.in_ok-key.key c.in_ok-object.object.now _ b
    c.change-changed.result c.self.invariant.by_moment c.sound.ensures.found
    c.sound.ensures.room r c.change-changed.ensures.orders within
    (c.change-changed.ensures.cost b)

pub returns-in-Ended-clause-done : goal.returns-in-Ended-clause-done
returns-in-Ended-clause-done g c =
    rw (← c.self.view_is, c.remove.ensures.table)
    (asked_ended c.self.inside.table c.args.sought.slot c.args.sought.handle c.in_ok-key.key
    c.in_ok-object.object.now c.on-left.new.object _ c.args.out.now c.on-left.new.out
    (rw (← c.self.view_is) at c.requires.slot) c.sound.ensures.exchanged
    (reached c.self.inside.table c.args.sought.slot c.args.sought.handle c.in_ok-key.key
    c.in_ok-object.object.now c.sound.ensures.found c.in_ok-key.ensures
    c.in_ok-object.ensures.value)
    c.in-Ended.ensures.left c.on-left.ensures.records)

pub returns-in-Ended-clause-spends : goal.returns-in-Ended-clause-spends
returns-in-Ended-clause-spends g c =
    let r = reached c.self.inside.table c.args.sought.slot c.args.sought.handle c.in_ok-key.key
    c.in_ok-object.object.now c.sound.ensures.found c.in_ok-key.ensures
    c.in_ok-object.ensures.value in
    rw (
      ← c.self.view_is,
      reached_entry c.self.inside.table c.args.sought.slot c.args.sought.handle c.in_ok-key.key
          c.in_ok-object.object.now r,
      ← r.object_is,
    ) c.on-left.ensures.spends

pub returns-in-Ended-clause-found : goal.returns-in-Ended-clause-found
returns-in-Ended-clause-found g c =
    let r = reached c.self.inside.table c.args.sought.slot c.args.sought.handle c.in_ok-key.key
    c.in_ok-object.object.now c.sound.ensures.found c.in_ok-key.ensures
    c.in_ok-object.ensures.value in
    rw (
      ← c.self.view_is,
      reached_entry c.self.inside.table c.args.sought.slot c.args.sought.handle c.in_ok-key.key
          c.in_ok-object.object.now r,
    ) refl

pub returns-in-Ended-clause-comparisons : goal.returns-in-Ended-clause-comparisons
returns-in-Ended-clause-comparisons g c = λ b lt.
    let r = reached c.self.inside.table c.args.sought.slot c.args.sought.handle c.in_ok-key.key
    c.in_ok-object.object.now c.sound.ensures.found c.in_ok-key.ensures
    c.in_ok-object.ensures.value in
    let within : room_of c.self.inside.table < 2 ^ b = rw (← c.self.view_is) at lt in
    let set = reset_costs c.self.inside.table c.self.inside.schedule c.change-changed.new.self
    c.args.sought.slot c.args.sought.handle c.in_ok-key.key c.in_ok-object.object.now _ b
    c.change-changed.result c.self.invariant.by_moment c.sound.ensures.found
    c.sound.ensures.room r c.change-changed.ensures.orders within
    (c.change-changed.ensures.cost b) in
    let there : room_of (exchanged c.in_ok-key.key c.self.inside.table c.on-left.new.object)
    < 2 ^ b =
    omega (
      arith,
      within,
      room_exchanged c.in_ok-key.key c.self.inside.table c.on-left.new.object,
    ) in
    let gone = c.remove.ensures.cost b there in
    omega (arith, set, gone, c.saturating_add.ensures)

pub returns-in-Ended-clause-still : goal.returns-in-Ended-clause-still
returns-in-Ended-clause-still g c = λ ends b lt.
    let r = reached c.self.inside.table c.args.sought.slot c.args.sought.handle c.in_ok-key.key
    c.in_ok-object.object.now c.sound.ensures.found c.in_ok-key.ensures
    c.in_ok-object.ensures.value in
    let over = c.in-Ended.ensures.over refl ends in
    let within : room_of c.self.inside.table < 2 ^ b = rw (← c.self.view_is) at lt in
    let set = reset_costs c.self.inside.table c.self.inside.schedule c.change-changed.new.self
    c.args.sought.slot c.args.sought.handle c.in_ok-key.key c.in_ok-object.object.now _ b
    c.change-changed.result c.self.invariant.by_moment c.sound.ensures.found
    c.sound.ensures.room r c.change-changed.ensures.orders within
    (c.change-changed.ensures.cost b) in
    let there : room_of (exchanged c.in_ok-key.key c.self.inside.table c.on-left.new.object)
    < 2 ^ b =
    omega (
      arith,
      within,
      room_exchanged c.in_ok-key.key c.self.inside.table c.on-left.new.object,
    ) in
    let gone = c.remove.ensures.cost b there in
    let idle = c.remove.ensures.idle (record r.keyed { object = c.on-left.new.object })
    (reached_then c.self.inside.table c.args.sought.slot c.args.sought.handle c.in_ok-key.key
    c.in_ok-object.object.now c.on-left.new.object (rw (← c.self.view_is) at c.requires.slot)
    c.sound.ensures.exchanged r) in
    let both = over_costs c.change-changed.result c.remove.result b
    (due_of c.in_ok-object.object.now) (due_of c.on-left.new.object) over
    (λ same. c.change-changed.ensures.still
    (c.due-due.ensures ∙ (same ∙ sym c.due-before.ensures))) idle set gone in
    omega (arith, both, c.saturating_add.ensures)
