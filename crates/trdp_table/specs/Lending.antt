-- How the pool and the table change where one of their objects is lent.
use Rattle.std.specs.Prelude.{ℕ, Option}
use Rattle.std.specs.Borrow.{Lends, LendsIf, MutBor, Fml}
use Rattle.trdp_model.specs.declared.any_object.AnyObject.{AnyObject}
use Rattle.trdp_model.specs.contracts.any_object.AnyObject.{the_row as object_row}
use Rattle.trdp_table.specs.contracts.pool.Pool.{the_row as pool_row}
use Rattle.trdp_table.specs.contracts.table.Table.{the_row as table_row}
use Rattle.trdp_table.specs.Tables.{TableState, exchanged}
use Rattle.trdp_table.specs.Pools.{PoolState, pool_with}

abbrev pub LendsOfPool : MutBor PoolState → ℕ → MutBor AnyObject → Fml
LendsOfPool pool key r = Lends pool_row object_row pool r (pool_with key pool.now)

-- the object of the key is lent, and no other; where there is none, the table stays
abbrev pub LendsAtKey : MutBor TableState → ℕ → Option (MutBor AnyObject) → Fml
LendsAtKey table key r = LendsIf table_row object_row table r (exchanged key table.now) table.now
