-- The control ports of slots, one after another.
-- For `ports_of`, `push_control`, `control_number` and `ask_for_ports`, and for `EachPortLemmas`
-- and `GroupPortLemmas`.
-- By a loop's invariant: the ports so far, and one for each number of those left.
use Rattle.std.proofs.Common.{◌≡◌, suc, ◌+◌, ◌<◌, ℕ, List, [], ◌∷◌, ◌++◌, Some, None}
use Rattle.std.proofs.Common.{refl, sym, ◌∙◌, ap, arith, append_assoc, append-nil, length, drop}
use Rattle.std.proofs.Common.{zero, map, get_or, Option}
use Rattle.std.specs.Prelude.{slice_get, unwrap_or}
use Rattle.std.specs.Option.{option_map}
use Rattle.std.proofs.Math.Seq.{drop-cons}
use Rattle.std.proofs.lemmas.List.{drop_all}
use Rattle.std.proofs.lemmas.Option.{slice_get-get_or, slice_get_within, get_or_from_slice_get}
use Rattle.trdp_dataset.specs.Configs.{SlotModel, ConfigModel}
use Rattle.trdp_wire.specs.declared.port.Port.{Port}
use Rattle.trdp_wire.specs.declared.port.Port.TheVariants.{Control, Operator}
use Rattle.trdp_wire.specs.Ports.{port_unless_0, control_numbers, control_ports, ports_of}
use Rattle.trdp_wire.specs.Ports.{network_ports}

-- an element and those after it
drop_get : {A : Type 0} (xs : List A) (i : ℕ) (x : A)
    → slice_get xs i ≡ Some x → drop i xs ≡ x ∷ drop (i + 1) xs
drop_get xs i x here =
    let next : suc i ≡ i + 1 = omega arith in
    drop-cons xs i x (slice_get_within xs i x here)
    ∙ ap (λ y. y ∷ drop (suc i) xs) (get_or_from_slice_get xs i x x here)
    ∙ ap (λ n. x ∷ drop n xs) next

ports_cons : (i number : ℕ) (numbers : List ℕ) → control_ports i (number ∷ numbers)
    ≡ port_unless_0 number (Control i) ++ control_ports (i + 1) numbers
unfolding control_ports
ports_cons i number numbers = let next : suc i ≡ i + 1 = omega arith in
    ap (λ n. port_unless_0 number (Control i) ++ control_ports n numbers) next

pub ports_end : (i : ℕ) (numbers : List ℕ) (ports all : List Port)
    → length numbers ≡ i → ports ++ control_ports i (drop i numbers) ≡ all → ports ≡ all
unfolding control_ports
ports_end i numbers ports all end whole =
    let none : drop i numbers ≡ [] = drop_all i numbers (omega (arith, end)) in
    sym (append-nil ports) ∙ ap (λ l. ports ++ control_ports i l) (sym none) ∙ whole

-- one more slot
pub ports_next : (numbers : List ℕ) (i number : ℕ) (before after : List Port)
    → slice_get numbers i ≡ Some number
    → after ≡ before ++ port_unless_0 number (Control i)
    → after ++ control_ports (i + 1) (drop (i + 1) numbers)
    ≡ before ++ control_ports i (drop i numbers)
ports_next numbers i number before after here more =
    let rest = control_ports (i + 1) (drop (i + 1) numbers) in
    ap (λ l. l ++ rest) more ∙ append_assoc before (port_unless_0 number (Control i)) rest
    ∙ ap (λ l. before ++ l) (sym (ap (control_ports i) (drop_get numbers i number here)
    ∙ ports_cons i number (drop (i + 1) numbers)))

-- the next of some numbers, and those after it
pub number_next : (numbers : List ℕ) (i : ℕ) → i < length numbers
    → drop i numbers ≡ get_or numbers i 0 ∷ drop (i + 1) numbers
number_next numbers i below =
    drop_get numbers i (get_or numbers i 0) (slice_get-get_or numbers i 0 below)

-- below how many there are there is one
pub no_slot : (numbers : List ℕ) (i : ℕ)
    → i < length numbers → slice_get numbers i ≡ None → ⊥
no_slot [] i below none = omega (arith, below)
no_slot (number ∷ numbers) i below none =
    let some = slice_get-get_or (number ∷ numbers) i number below in
    cc

-- the number of a control port is among those of the slots, or after them
pub number_among : (slots : List SlotModel) (spare : List ℕ) (i : ℕ) → i < length slots
    → slice_get (map (λ slot. slot.control_port) slots ++ spare) i
    ≡ option_map (λ slot. slot.control_port) (slice_get slots i)
number_among [] spare i below = absurd (omega (arith, below))
number_among (slot ∷ slots) spare zero below = refl
number_among (slot ∷ slots) spare (suc i) below =
    number_among slots spare i (omega (arith, below))

pub number_behind : (slots : List SlotModel) (spare : List ℕ) (i k : ℕ) → i ≡ length slots + k
    → slice_get (map (λ slot. slot.control_port) slots ++ spare) i ≡ slice_get spare k
number_behind [] spare i k is = let same : i ≡ k = omega (arith, is) in ap (slice_get spare) same
number_behind (slot ∷ slots) spare zero k is = absurd (omega (arith, is))
number_behind (slot ∷ slots) spare (suc i) k is =
    number_behind slots spare i k (omega (arith, is))

-- how many there are
pub numbers_count : (slots : List SlotModel) (spare : List ℕ)
    → length (map (λ slot. slot.control_port) slots ++ spare) ≡ length slots + length spare
numbers_count [] spare = omega arith
numbers_count (slot ∷ slots) spare = omega (arith, numbers_count slots spare)

-- before the first slot
pub ports_start : (config : ConfigModel) (items : List Port) (number : ℕ)
    → number ≡ config.operator_port
    → items ≡ network_ports config ++ port_unless_0 number Operator
    → items ++ control_ports 0 (drop 0 (control_numbers config)) ≡ ports_of config
unfolding ports_of
ports_start config items number is start =
    let controls = control_ports 0 (control_numbers config) in
    ap (λ l. l ++ controls) start
    ∙ append_assoc (network_ports config) (port_unless_0 number Operator) controls
    ∙ ap (λ n. network_ports config ++ (port_unless_0 n Operator ++ controls)) is

-- the port of one slot, and those of the slots after it
pub control_next : (numbers : List ℕ) (i : ℕ) → i < length numbers
    → control_ports i (drop i numbers)
    ≡ port_unless_0 (unwrap_or (slice_get numbers i) 0) (Control i)
    ++ control_ports (i + 1) (drop (i + 1) numbers)
control_next numbers i below = by_number (slice_get numbers i) refl
  where
    by_number : (found : Option ℕ) → slice_get numbers i ≡ found
        → control_ports i (drop i numbers)
        ≡ port_unless_0 (unwrap_or found 0) (Control i)
        ++ control_ports (i + 1) (drop (i + 1) numbers)
    by_number (Some number) is =
        sym (ports_next numbers i number [] (port_unless_0 number (Control i)) is refl)
    by_number None is = absurd (no_slot numbers i below is)

-- after the last slot there are none
pub control_end : (numbers : List ℕ) (i : ℕ)
    → length numbers ≡ i → control_ports i (drop i numbers) ≡ []
unfolding control_ports
control_end numbers i end = ap (control_ports i) (drop_all i numbers (omega (arith, end)))
