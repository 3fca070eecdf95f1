-- Why a call is refused where the table refuses its new object.
use Rattle.trdp_table.specs.declared.fault.TableFault.{TableFault}
use Rattle.trdp_table.specs.declared.fault.TableFault.TheVariants.{Quota as UsedUp}
use Rattle.trdp_model.specs.declared.fault.Refusal.{Refusal}
use Rattle.trdp_model.specs.declared.fault.Refusal.TheVariants.{Quota, Exhausted}

-- the refusal of a new object that the table refuses, by its quota and its handles alone
abbrev pub table_refusal : TableFault → Refusal
table_refusal UsedUp = Quota
table_refusal fault = Exhausted
