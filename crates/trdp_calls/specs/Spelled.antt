-- Why an item has no bytes for an object.
use Rattle.std.specs.Prelude.{◌≡◌, Option, Some}
use Rattle.trdp_model.specs.declared.fault.Refusal.{Refusal}
use Rattle.trdp_calls.specs.declared.value.SpellFault.{SpellFault}
use Rattle.trdp_calls.specs.declared.value.SpellFault.TheVariants.{Refused, NoMemory}

-- a refused item is refused as expected; an allocation may fail at any time
abbrev pub IsRefusedAs : Option Refusal → SpellFault → Type 0
IsRefusedAs expected (Refused refusal) = expected ≡ Some refusal
IsRefusedAs expected NoMemory = Unit {0}
