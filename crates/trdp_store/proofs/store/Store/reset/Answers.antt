use Rattle.std.proofs.Common.{◌∙◌, ap, arith}
use Rattle.trdp_table.specs.Tables.{without_objects}
use Rattle.trdp_index.specs.ComIndexes.{ComIndexState}
use Rattle.trdp_index.specs.SessionIndexes.{SessionIndexState}
use Rattle.trdp_store.specs.TableSlots.{slots_of}
use Rattle.trdp_store.proofs.StoreLemmas.Slots.{slots_changed}
use Rattle.trdp_store.proofs.StoreLemmas.Kinds.{emptied_kinds}
use Rattle.trdp_store.proofs.ComLemmas.Emptied.{indexed_emptied}
use Rattle.trdp_store.proofs.SessionLemmas.Emptied.{session_emptied}
use Rattle.trdp_store.proofs.store.Store.reset.Goals as goal

pub invariant_of-self : goal.invariant_of-self
invariant_of-self c =
    let table = c.self.inside.table in
    let lt = rw (← c.self.view_is) at c.requires.slot in
    rw c.take_all.ensures.table
    (record {
      by_com = indexed_emptied table c.self.inside.coms c.remove_slot.new.self _
          c.self.invariant.by_com (omega (arith, lt)) c.remove_slot.ensures.runs
          (ap (λ (index : ComIndexState). index.room) c.remove_slot.ensures.rows);
      by_session = session_emptied table c.self.inside.sessions c.remove_slot-2.new.self _
          c.self.invariant.by_session c.sound.ensures.sound c.sound.ensures.found
          (omega (arith, lt)) c.sound-2.ensures.rising
          (ap (λ (index : SessionIndexState). index.rows) c.remove_slot-2.ensures.rows)
          c.remove_slot-2.ensures.keys
          (ap (λ (index : SessionIndexState). index.room) c.remove_slot-2.ensures.rows);
      by_moment = rw c.take_all.ensures.table at c.take_all.ensures.scheduled;
      kinds = emptied_kinds table _ (omega (arith, lt)) c.self.invariant.kinds;
    })

pub returns-clause-slots : goal.returns-clause-slots
returns-clause-slots c = rw (← c.self.view_is)
    (ap slots_of c.take_all.ensures.table
    ∙ slots_changed c.self.inside.table c.args.slot without_objects)
