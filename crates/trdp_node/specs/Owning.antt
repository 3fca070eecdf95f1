-- What is owned at a pointer that may be null.
use Rattle.std.specs.Prelude.{Option, Some, None}
use mir.Syntax.{Ty}
use base.Fml.{Fml, ftrue}
use denote.RattleType.{RattleType}
use denote.RawPtr.{Ptr}
use Rattle.std_alloc.specs.Box.Ownership.{box_owns}

-- a value with the right to free its memory, as a box owns it; or nothing
abbrev pub owns_if : (Ty → Ptr → Fml) → (R : RattleType) → Ptr → Option R.Denot → Fml
owns_if frees R p (Some x) = box_owns frees R p x
owns_if frees R p None = ftrue
