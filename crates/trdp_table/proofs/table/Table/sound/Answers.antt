use Rattle.trdp_table.proofs.TableLemmas.Found.{IsTable-kept, found_by_key, listed}
use Rattle.trdp_table.proofs.TableLemmas.Found.{exchanged_alone}
use Rattle.trdp_table.proofs.TableLemmas.Known.{table_room, table_spare}
use Rattle.trdp_table.proofs.table.Table.sound.Goals as goal

pub returns-clause-sound : goal.returns-clause-sound
returns-clause-sound c = rw (← c.self.view_is)
    (IsTable-kept c.self.inside.slots.items c.self.inside.pool c.self.invariant)

pub returns-clause-found : goal.returns-clause-found
returns-clause-found c = rw (← c.self.view_is)
    (found_by_key c.self.inside.slots.items c.self.inside.pool c.self.invariant)

pub returns-clause-listed : goal.returns-clause-listed
returns-clause-listed c =
    rw (← c.self.view_is) (listed c.self.inside.slots.items c.self.inside.pool c.self.invariant)

pub returns-clause-exchanged : goal.returns-clause-exchanged
returns-clause-exchanged c = rw (← c.self.view_is)
    (exchanged_alone c.self.inside.slots.items c.self.inside.pool c.self.invariant)

pub returns-clause-room : goal.returns-clause-room
returns-clause-room c =
    rw (← c.self.view_is) (table_room c.self.inside.slots.items c.self.inside.pool c.self.invariant)

pub returns-clause-spare : goal.returns-clause-spare
returns-clause-spare c = rw (← c.self.view_is)
    (table_spare c.self.inside.slots.items c.self.inside.pool c.self.invariant)
