-- Types of elements.
use Rattle.std.specs.Prelude.{◌==◌, ◌&&◌, ℕ, Bool, true, false, Option, Some, None}
use Rattle.trdp_dataset.specs.declared.element.Width.{Width}
use Rattle.trdp_dataset.specs.declared.element.Width.TheVariants.{One, Two, Four, Eight}
use Rattle.trdp_dataset.specs.declared.element.Form.{Form}
use Rattle.trdp_dataset.specs.declared.element.Form.TheVariants as form
use Rattle.trdp_dataset.specs.declared.element.ElementKind.{ElementKind}
use Rattle.trdp_dataset.specs.declared.element.ElementKind.TheVariants.{Bool8, Char8, Utf16, Int8}
use Rattle.trdp_dataset.specs.declared.element.ElementKind.TheVariants.{Int16, Int32, Int64, Uint8}
use Rattle.trdp_dataset.specs.declared.element.ElementKind.TheVariants.{Uint16, Uint32, Uint64}
use Rattle.trdp_dataset.specs.declared.element.ElementKind.TheVariants.{Timedate32, Timedate48}
use Rattle.trdp_dataset.specs.declared.element.ElementKind.TheVariants.{Timedate64, Nested}
use Rattle.trdp_dataset.specs.declared.element.Element.{Element}

-- how many bytes a number has
abbrev pub width_len : Width → ℕ
width_len One = 1
width_len Two = 2
width_len Four = 4
width_len Eight = 8

-- what the bytes of a type are
-- rule: dataset.form
abbrev pub form_of : ElementKind → Form
form_of Bool8 = form.Unsigned One
form_of Char8 = form.Unsigned One
form_of Utf16 = form.Unsigned Two
form_of Int8 = form.Signed One
form_of Int16 = form.Signed Two
form_of Int32 = form.Signed Four
form_of Int64 = form.Signed Eight
form_of Uint8 = form.Unsigned One
form_of Uint16 = form.Unsigned Two
form_of Uint32 = form.Unsigned Four
form_of Uint64 = form.Unsigned Eight
form_of Timedate32 = form.Unsigned Four
form_of Timedate48 = form.Time48
form_of Timedate64 = form.Time64
form_of (Nested id) = form.Nested id

-- a type whose values count the items of an array
abbrev pub is_count_kind : ElementKind → Bool
is_count_kind Uint8 = true
is_count_kind Uint16 = true
is_count_kind Uint32 = true
is_count_kind _ = false

-- an element that counts the items of the array after it: a single number of such a type
abbrev pub is_count : Element → Bool
is_count e = (e.size == 1) && is_count_kind e.kind

-- the dataset that a type is
abbrev pub nested_id : Form → Option ℕ
nested_id (form.Nested id) = Some id
nested_id _ = None
