-- The least of the faults that are listed.
-- For `find_all` and all that it calls.
-- By: the least of two lists is the less of their least faults, and a turn of a loop lists what is
-- at the item that comes next.
use Rattle.std.proofs.Common.{◌≡◌, ℕ, suc, ◌+◌, ◌<◌, ◌≤◌, Bool, true, false, nat_lt}
use Rattle.std.proofs.Common.{if◌then◌else◌, ◌&&◌, List, [], ◌∷◌, ◌++◌, length, get_or, drop}
use Rattle.std.proofs.Common.{flat_map, Option, Some, None, IfSome, refl, sym, ap, ◌∙◌}
use Rattle.std.proofs.Common.{arith, append_assoc, append-nil}
use Rattle.std.specs.List.{list_all}
use Rattle.std.proofs.lemmas.Bool.Decides.{Decides-ltb}
use Rattle.std.proofs.lemmas.List.{at_drop_more, at_drop_all}
use Rattle.trdp_dataset.specs.declared.fault.ConfigFault.{ConfigFault}
use Rattle.trdp_dataset.specs.Faults.{rank, least_of_two}
use Rattle.std.specs.List.{cons_option}
use Rattle.std.proofs.lemmas.List.Concat.{flat_map-append}
use Rattle.toml.specs.Data.{Members, as_table}
use Rattle.toml.specs.View.{view}
use Rattle.toml.specs.declared.value.Value.{Value}
use Rattle.trdp_dataset.specs.declared.key.Key.{Key}
use Rattle.trdp_dataset.specs.declared.key.Key.TheVariants.{Elements}
use Rattle.trdp_dataset.specs.Keys.{element_keys}
use Rattle.trdp_dataset.specs.Positions.{PositionModel, position_at, positions_at, tables_at}
use Rattle.trdp_dataset.specs.Positions.{positions_of_all, element_positions}
use Rattle.trdp_dataset.specs.Seen.{tables_seen}
use Rattle.trdp_dataset.specs.Findings.{least_of, listed_unless, faults_at, all_faults}
use Rattle.trdp_dataset.specs.Findings.{positions_if, elements_if}
use Rattle.trdp_dataset.proofs.LeastLemmas.{least_assoc, not_less}

-- the least of two lists
pub least_append : (xs ys : List ConfigFault)
    → least_of (xs ++ ys) ≡ least_of_two (least_of xs) (least_of ys)
least_append [] ys = refl
least_append (f ∷ xs) ys = ap (least_of_two (Some f)) (least_append xs ys)
    ∙ sym (least_assoc (Some f) (least_of xs) (least_of ys))

-- each fault has this number in the order of the faults, or a later one
abbrev pub AreFrom : ℕ → List ConfigFault → Type 0
AreFrom n [] = Unit {0}
AreFrom n (f ∷ faults) = (n ≤ rank f) × AreFrom n faults

pub from_append : (n : ℕ) (xs ys : List ConfigFault)
    → AreFrom n xs → AreFrom n ys → AreFrom n (xs ++ ys)
from_append n [] ys h k = k
from_append n (f ∷ xs) ys h k = (h.0, from_append n xs ys h.1 k)

pub from_lower : (m n : ℕ) (xs : List ConfigFault) → m ≤ n → AreFrom n xs → AreFrom m xs
from_lower m n [] below h = tt
from_lower m n (f ∷ xs) below h =
    let first = h.0 in (omega (arith, below, first), from_lower m n xs below h.1)

pub from_unless : (n : ℕ) (b : Bool) (f : ConfigFault) → n ≤ rank f → AreFrom n (listed_unless b f)
from_unless n true f h = tt
from_unless n false f h = (h, tt)

pub from_each : {A : Type 0} → (n : ℕ) (f : A → List ConfigFault)
    → ((x : A) → AreFrom n (f x)) → (xs : List A) → AreFrom n (flat_map f xs)
from_each n f each [] = tt
from_each n f each (x ∷ xs) = from_append n (f x) (flat_map f xs) (each x) (from_each n f each xs)

chosen_from : (n : ℕ) (f g : ConfigFault) (b : Bool) → n ≤ rank f → n ≤ rank g
    → IfSome (if b then Some g else Some f) (λ h. n ≤ rank h)
chosen_from n f g true h k = k
chosen_from n f g false h k = h

two_from : (n : ℕ) (f : ConfigFault) (o : Option ConfigFault) → n ≤ rank f
    → IfSome o (λ g. n ≤ rank g) → IfSome (least_of_two (Some f) o) (λ g. n ≤ rank g)
two_from n f None h k = h
two_from n f (Some g) h k = chosen_from n f g (nat_lt (rank g) (rank f)) h k

-- the least has it, too
pub least_rank : (n : ℕ) (xs : List ConfigFault) → AreFrom n xs
    → IfSome (least_of xs) (λ f. n ≤ rank f)
least_rank n [] h = tt
least_rank n (f ∷ xs) h = two_from n f (least_of xs) h.0 (least_rank n xs h.1)

-- a fault comes before one that isn't of a lower number
pub least_stays : (f : ConfigFault) (o : Option ConfigFault)
    → IfSome o (λ g. rank f ≤ rank g) → least_of_two (Some f) o ≡ Some f
least_stays f None h = refl
least_stays f (Some g) h =
    ap (λ (v : Bool). if v then Some g else Some f) (not_less (rank g) (rank f) h)

-- the first is the least where none is of a lower number
pub least_head : (f : ConfigFault) (xs : List ConfigFault) → AreFrom (rank f) xs
    → least_of (f ∷ xs) ≡ Some f
least_head f xs h = least_stays f (least_of xs) (least_rank (rank f) xs h)

-- faults of higher numbers before the least don't matter
pub least_past : (xs ys : List ConfigFault) (f : ConfigFault) → AreFrom (suc (rank f)) xs
    → least_of ys ≡ Some f → least_of (xs ++ ys) ≡ Some f
least_past [] ys f h e = e
least_past (g ∷ xs) ys f h e = let more = h.0 in
    ap (least_of_two (Some g)) (least_past xs ys f h.1 e)
    ∙ ap (λ (v : Bool). if v then Some f else Some g)
    ((Decides-ltb (rank f) (rank g)).1 (omega (arith, more)))

unless_by : {A : Type 0} → (t : A → Bool) (f : ConfigFault) (x : A) (b : Bool)
    (rest tail : List ConfigFault) (all : Bool) → t x ≡ b → AreFrom (rank f) (rest ++ tail)
    → least_of (rest ++ tail) ≡ (if all then least_of tail else Some f)
    → least_of ((listed_unless b f ++ rest) ++ tail)
    ≡ (if (b && all) then least_of tail else Some f)
unless_by t f x true rest tail all e h k = k
unless_by t f x false rest tail all e h k = least_head f (rest ++ tail) h

-- one fault for each item that doesn't pass a test, and others of no lower number
pub tested : {A : Type 0} → (t : A → Bool) (f : ConfigFault) (xs : List A)
    (tail : List ConfigFault) → AreFrom (rank f) tail
    → least_of (flat_map (λ x. listed_unless (t x) f) xs ++ tail)
    ≡ (if list_all t xs then least_of tail else Some f)
tested t f [] tail h = refl
tested t f (x ∷ xs) tail h =
    let rest = flat_map (λ y. listed_unless (t y) f) xs in
    let own : rank f ≤ rank f = omega arith in
    unless_by t f x (t x) rest tail (list_all t xs) refl (from_append (rank f) rest tail
    (from_each (rank f) (λ y. listed_unless (t y) f) (λ y. from_unless (rank f) (t y) f own) xs)
    h) (tested t f xs tail h)

-- one turn of a loop that lists what is at each item, where this is left before it, and that after
pub listed_turn : {A : Type 0} → (before after : List A → List ConfigFault) (xs : List A) (i : ℕ)
    (x : A) (here old now all : List ConfigFault)
    → before (x ∷ drop (i + 1) xs) ≡ here ++ after (drop (i + 1) xs)
    → i < length xs → x ≡ get_or xs i x → now ≡ old ++ here
    → old ++ before (drop i xs) ≡ all → now ++ after (drop (i + 1) xs) ≡ all
listed_turn before after xs i x here old now all first inside item listed so_far =
    let rest = after (drop (i + 1) xs) in
    ap (λ ys. ys ++ rest) listed ∙ (append_assoc old here rest
    ∙ (sym (ap (λ ys. old ++ ys) first)
    ∙ (ap (λ y. old ++ before (y ∷ drop (i + 1) xs)) item
    ∙ (sym (ap (λ ys. old ++ ys) (at_drop_more before xs i x inside)) ∙ so_far))))

-- its end
pub listed_end : {A : Type 0} → (left : List A → List ConfigFault) (xs : List A) (i : ℕ)
    (old all : List ConfigFault) → left [] ≡ [] → length xs ≤ i → old ++ left (drop i xs) ≡ all
    → old ≡ all
listed_end left xs i old all none past so_far =
    sym (append-nil old) ∙ (sym (ap (λ ys. old ++ ys) none)
    ∙ (sym (ap (λ ys. old ++ ys) (at_drop_all left xs i past)) ∙ so_far))

-- the faults of positions, and then those of others
pub listed_both : (xs ys : List PositionModel) (old middle now : List ConfigFault)
    → middle ≡ old ++ all_faults xs → now ≡ middle ++ all_faults ys
    → now ≡ old ++ all_faults (xs ++ ys)
listed_both xs ys old middle now first second = second
    ∙ (ap (λ zs. zs ++ all_faults ys) first ∙ (append_assoc old (all_faults xs) (all_faults ys)
    ∙ sym (ap (λ zs. old ++ zs) (flat_map-append faults_at xs ys))))

-- what is listed of the table that comes next
pub table_step : (keys : List Key) (v : Value) (vs : List Value)
    → all_faults (positions_of_all keys (tables_seen (v ∷ vs)))
    ≡ all_faults (positions_if keys (as_table (view v)))
    ++ all_faults (positions_of_all keys (tables_seen vs))
unfolding positions_of_all
table_step keys v vs = by (as_table (view v))
  where
    by : (o : Option Members)
        → all_faults (flat_map (positions_at keys) (cons_option o (tables_seen vs)))
        ≡ all_faults (positions_if keys o)
        ++ all_faults (flat_map (positions_at keys) (tables_seen vs))
    by None = refl
    by (Some members) = flat_map-append faults_at (positions_at keys members)
        (flat_map (positions_at keys) (tables_seen vs))

-- what is listed of the elements of the dataset that comes next
pub elements_step : (v : Value) (vs : List Value)
    → all_faults (element_positions (tables_seen (v ∷ vs)))
    ≡ all_faults (elements_if (as_table (view v)))
    ++ all_faults (element_positions (tables_seen vs))
unfolding element_positions
elements_step v vs = by (as_table (view v))
  where
    by : (o : Option Members)
        → all_faults (flat_map (λ t. positions_of_all element_keys (tables_at Elements t))
        (cons_option o (tables_seen vs)))
        ≡ all_faults (elements_if o)
        ++ all_faults (flat_map (λ t. positions_of_all element_keys (tables_at Elements t))
        (tables_seen vs))
    by None = refl
    by (Some members) = flat_map-append faults_at
        (positions_of_all element_keys (tables_at Elements members))
        (flat_map (λ t. positions_of_all element_keys (tables_at Elements t)) (tables_seen vs))

-- what is listed of the key that comes next
pub key_step : (table : Members) (key : Key) (keys : List Key)
    → all_faults (positions_at (key ∷ keys) table)
    ≡ faults_at (position_at table key) ++ all_faults (positions_at keys table)
unfolding positions_at
key_step table key keys = refl

pub no_keys : (table : Members) → all_faults (positions_at [] table) ≡ []
unfolding positions_at
no_keys table = refl

pub no_tables : (keys : List Key) → all_faults (positions_of_all keys []) ≡ []
unfolding positions_of_all
no_tables keys = refl

pub no_elements : all_faults (element_positions []) ≡ []
unfolding element_positions
no_elements = refl
