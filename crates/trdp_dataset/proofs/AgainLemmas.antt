-- Addresses that are in an array twice.
-- For `has_again`.
-- By: of the values from one on, the first gives an address or none, and the rest give theirs.
use Rattle.std.proofs.Common.{◌≡◌, ◌==◌, ◌||◌, ℕ, ◌+◌, ◌<◌, Bool, true, false, map}
use Rattle.std.proofs.Common.{List, [], ◌∷◌, length, get_or, drop, Option, Some, None}
use Rattle.std.proofs.Common.{refl, sym, ap, ◌∙◌}
use Rattle.std.specs.List.{cons_option, list_any}
use Rattle.std.proofs.lemmas.List.{at_drop_more}
use Rattle.toml.specs.View.{view}
use Rattle.toml.specs.declared.value.Value.{Value}
use Rattle.trdp_dataset.specs.Values.{address_within, addresses_among, is_given, gives}
use Rattle.trdp_dataset.specs.Values.{is_among, has_again}

-- the addresses that values give
abbrev pub given : ℕ → ℕ → List Value → List ℕ
given least greatest vs = addresses_among least greatest (map view vs)

first_given : (n : ℕ) (o : Option ℕ) (ns : List ℕ) (b : Bool)
    → b ≡ is_among ns n → (is_given n o || b) ≡ is_among (cons_option o ns) n
first_given n None ns b e = e
first_given n (Some m) ns b e = ap (λ c. (n == m) || c) e

-- a value among these gives an address where it is among those that they give
any_given : (least greatest n : ℕ) (vs : List Value)
    → list_any (λ v. gives least greatest n (view v)) vs ≡ is_among (given least greatest vs) n
any_given least greatest n [] = refl
any_given least greatest n (v ∷ vs) =
    first_given n (address_within least greatest (view v)) (given least greatest vs)
    (list_any (λ v. gives least greatest n (view v)) vs) (any_given least greatest n vs)

-- what the values from one on give
next_given : (least greatest : ℕ) (vs : List Value) (i : ℕ) (x : Value)
    → i < length vs → x ≡ get_or vs i x
    → given least greatest (drop i vs) ≡ cons_option
    (address_within least greatest (view x)) (given least greatest (drop (i + 1) vs))
next_given least greatest vs i x inside item =
    at_drop_more (given least greatest) vs i x inside
    ∙ ap (λ y. cons_option (address_within least greatest (view y))
    (given least greatest (drop (i + 1) vs))) (sym item)

-- one turn: where the value gives no address, or one that none after it gives, what is left is
-- whether those after it give one twice
pub none_again : (least greatest : ℕ) (vs : List Value) (i : ℕ) (x : Value) (all : Bool)
    → i < length vs → x ≡ get_or vs i x → None ≡ address_within least greatest (view x)
    → has_again (given least greatest (drop i vs)) ≡ all
    → has_again (given least greatest (drop (i + 1) vs)) ≡ all
none_again least greatest vs i x all inside item none so_far =
    ap (λ o. has_again (cons_option o (given least greatest (drop (i + 1) vs)))) none
    ∙ (sym (ap has_again (next_given least greatest vs i x inside item)) ∙ so_far)

opened : (least greatest : ℕ) (vs : List Value) (i : ℕ) (x : Value) (n : ℕ)
    → i < length vs → x ≡ get_or vs i x → Some n ≡ address_within least greatest (view x)
    → has_again (given least greatest (drop i vs))
    ≡ (is_among (given least greatest (drop (i + 1) vs)) n
    || has_again (given least greatest (drop (i + 1) vs)))
opened least greatest vs i x n inside item some =
    ap has_again (next_given least greatest vs i x inside item)
    ∙ ap (λ o. has_again (cons_option o (given least greatest (drop (i + 1) vs)))) (sym some)

pub other_again : (least greatest : ℕ) (vs : List Value) (i : ℕ) (x : Value) (n : ℕ) (all : Bool)
    → i < length vs → x ≡ get_or vs i x → Some n ≡ address_within least greatest (view x)
    → false ≡ list_any (λ v. gives least greatest n (view v)) (drop (i + 1) vs)
    → has_again (given least greatest (drop i vs)) ≡ all
    → has_again (given least greatest (drop (i + 1) vs)) ≡ all
other_again least greatest vs i x n all inside item some new so_far =
    ap (λ b. b || has_again (given least greatest (drop (i + 1) vs)))
    (new ∙ any_given least greatest n (drop (i + 1) vs))
    ∙ (sym (opened least greatest vs i x n inside item some) ∙ so_far)

-- where one after it gives it, an address is given twice
pub one_again : (least greatest : ℕ) (vs : List Value) (i : ℕ) (x : Value) (n : ℕ) (all : Bool)
    → i < length vs → x ≡ get_or vs i x → Some n ≡ address_within least greatest (view x)
    → true ≡ list_any (λ v. gives least greatest n (view v)) (drop (i + 1) vs)
    → has_again (given least greatest (drop i vs)) ≡ all → true ≡ all
one_again least greatest vs i x n all inside item some there so_far =
    ap (λ b. b || has_again (given least greatest (drop (i + 1) vs)))
    (there ∙ any_given least greatest n (drop (i + 1) vs))
    ∙ (sym (opened least greatest vs i x n inside item some) ∙ so_far)
