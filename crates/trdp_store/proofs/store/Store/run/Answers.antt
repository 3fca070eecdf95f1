use Rattle.std.proofs.Common.{◌<◌, ◌^◌, arith}
use Rattle.trdp_table.specs.Tables.{room_of}
use Rattle.trdp_store.proofs.ComLemmas.Counts.{run_few, rows_few}
use Rattle.trdp_store.proofs.store.Store.run.Goals as goal

pub returns-clause-few : goal.returns-clause-few
returns-clause-few c =
    rw (c.run.ensures.rows, c.self.invariant.by_com.runs c.args.com_id)
    (run_few c.self.inside.table c.args.com_id c.sound.ensures.sound)

pub returns-clause-cost : goal.returns-clause-cost
returns-clause-cost c = λ b lt.
    let within : room_of c.self.inside.table < 2 ^ b = rw (← c.self.view_is) at lt in
    c.run.ensures.cost b (omega (
      arith,
      within,
      rows_few
          c.self.inside.table c.self.inside.coms c.self.invariant.by_com c.sound.ensures.room,
    ))
