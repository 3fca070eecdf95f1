-- The faults that are listed of a position.
-- For `find_all`.
-- By: an array has a member that isn't wanted where its position has a fault, and the fault of too
-- many comes after those of members.
use Rattle.std.proofs.Common.{◌≡◌, ◌==◌, ◌&&◌, ◌||◌, not, ℕ, Bool, true, false, nat_lt}
use Rattle.std.proofs.Common.{nat_le, if◌then◌else◌, List, [], ◌∷◌, ◌++◌, length, map}
use Rattle.std.proofs.Common.{Option, Some, None, is_some, refl, sym, ap, ◌∙◌, arith}
use Rattle.std.proofs.Common.{lit≤, eqb-true, eq-eqb, leb-true, leb-false}
use Rattle.std.specs.List.{list_all, list_any, cons_option}
use Rattle.std.proofs.lemmas.Bool.Decides.{Decides-ltb}
use Rattle.toml.specs.Data.{Data, string, integer, float, boolean, datetime, array, table}
use Rattle.trdp_dataset.specs.declared.fault.ConfigFault.{ConfigFault}
use Rattle.trdp_dataset.specs.declared.fault.ConfigFault.TheVariants.{WrongType, TooMany}
use Rattle.trdp_dataset.specs.declared.key.Key.{Key}
use Rattle.trdp_dataset.specs.declared.key.Key.TheVariants.{Node, Address, PdPort, MdPort}
use Rattle.trdp_dataset.specs.declared.key.Key.TheVariants.{OperatorPort, SpareControlPorts}
use Rattle.trdp_dataset.specs.declared.key.Key.TheVariants.{ControlAddress, Groups, Ttl}
use Rattle.trdp_dataset.specs.declared.key.Key.TheVariants.{Slot, Publishers}
use Rattle.trdp_dataset.specs.declared.key.Key.TheVariants.{Subscriptions, Requesters}
use Rattle.trdp_dataset.specs.declared.key.Key.TheVariants.{Listeners, Callers, Repliers}
use Rattle.trdp_dataset.specs.declared.key.Key.TheVariants.{ControlPort, Dataset, DatasetId}
use Rattle.trdp_dataset.specs.declared.key.Key.TheVariants.{Elements, ElementType, ElementSize}
use Rattle.trdp_dataset.specs.declared.key.Wanted.TheVariants as wanted
use Rattle.trdp_dataset.specs.Keys.{wanted_by}
use Rattle.trdp_dataset.specs.Values.{items_list, is_number, is_address, address_within}
use Rattle.trdp_dataset.specs.Values.{addresses_among, is_given, gives, is_among, has_again}
use Rattle.trdp_dataset.specs.Positions.{PositionModel}
use Rattle.trdp_dataset.specs.Faults.{fault_at, found_fault, again_fault}
use Rattle.trdp_dataset.specs.Faults.{least_of_two, least_fault}
use Rattle.trdp_dataset.specs.Findings.{least_of, listed_unless, member_wanted, address_wanted}
use Rattle.trdp_dataset.specs.Findings.{unwanted, members_faults, key_faults, listed_at}
use Rattle.trdp_dataset.specs.Findings.{faults_at, all_faults}
use Rattle.trdp_dataset.proofs.LeastLemmas.{not_less}
use Rattle.trdp_dataset.proofs.ListedLemmas.{AreFrom, from_append, from_unless, least_head}
use Rattle.trdp_dataset.proofs.ListedLemmas.{least_append}

-- each member is wanted
abbrev all_wanted : Key → (are_few : Bool) → List Data → List Data → Bool
all_wanted key are_few before [] = true
all_wanted key are_few before (d ∷ ds) =
    member_wanted (wanted_by key) (if are_few then before else []) d
    && all_wanted key are_few (before ++ d ∷ []) ds

unwanted_from : (key : Key) (few : Bool) (before ds : List Data)
    → AreFrom 3 (unwanted key few before ds)
unwanted_from key few before [] = tt
unwanted_from key few before (d ∷ ds) =
    let b = member_wanted (wanted_by key) (if few then before else []) d in
    from_append 3 (listed_unless b (WrongType key)) (unwanted key few (before ++ d ∷ []) ds)
    (from_unless 3 b (WrongType key) (lit≤ tt)) (unwanted_from key few (before ++ d ∷ []) ds)

member_by : (key : Key) (b all : Bool) (rest tail : List ConfigFault)
    → AreFrom 3 (rest ++ tail)
    → least_of (rest ++ tail) ≡ (if all then least_of tail else Some (WrongType key))
    → least_of ((listed_unless b (WrongType key) ++ rest) ++ tail)
    ≡ (if (b && all) then least_of tail else Some (WrongType key))
member_by key true all rest tail h e = e
member_by key false all rest tail h e = least_head (WrongType key) (rest ++ tail) h

-- the first fault is that of a member that isn't wanted
unwanted_least : (key : Key) (few : Bool) (before ds : List Data) (tail : List ConfigFault)
    → AreFrom 3 tail
    → least_of (unwanted key few before ds ++ tail)
    ≡ (if all_wanted key few before ds then least_of tail else Some (WrongType key))
unwanted_least key few before [] tail h = refl
unwanted_least key few before (d ∷ ds) tail h =
    let later = before ++ d ∷ [] in
    member_by key (member_wanted (wanted_by key) (if few then before else []) d)
    (all_wanted key few later ds) (unwanted key few later ds) tail
    (from_append 3 (unwanted key few later ds) tail (unwanted_from key few later ds) h)
    (unwanted_least key few later ds tail h)

-- numbers are wanted where they are in the range
numbers_wanted : (key : Key) (most least greatest : ℕ)
    → wanted_by key ≡ wanted.Numbers most least greatest → (few : Bool) (before ds : List Data)
    → all_wanted key few before ds ≡ list_all (is_number least greatest) ds
numbers_wanted key most least greatest e few before [] = refl
numbers_wanted key most least greatest e few before (d ∷ ds) =
    ap (λ w. member_wanted w (if few then before else []) d
    && all_wanted key few (before ++ d ∷ []) ds) e
    ∙ ap (λ b. is_number least greatest d && b)
    (numbers_wanted key most least greatest e few (before ++ d ∷ []) ds)

-- alone, addresses are wanted where they are in the range
alone_by : (least greatest : ℕ) (o : Option ℕ)
    → address_wanted least greatest [] o ≡ is_some o
alone_by least greatest None = refl
alone_by least greatest (Some n) = refl

addresses_alone : (key : Key) (most least greatest : ℕ)
    → wanted_by key ≡ wanted.Addresses most least greatest → (before ds : List Data)
    → all_wanted key false before ds ≡ list_all (is_address least greatest) ds
addresses_alone key most least greatest e before [] = refl
addresses_alone key most least greatest e before (d ∷ ds) =
    ap (λ w. member_wanted w [] d && all_wanted key false (before ++ d ∷ []) ds) e
    ∙ (ap (λ b. b && all_wanted key false (before ++ d ∷ []) ds)
    (alone_by least greatest (address_within least greatest d))
    ∙ ap (λ b. is_address least greatest d && b)
    (addresses_alone key most least greatest e (before ++ d ∷ []) ds))

-- addresses of which none is given before
abbrev fresh : List ℕ → List ℕ → Bool
fresh ms [] = true
fresh ms (n ∷ ns) = not (is_among ms n) && fresh (ms ++ n ∷ []) ns

abbrev any_among : List ℕ → List ℕ → Bool
any_among ms ns = list_any (is_among ms) ns

turned : (m n : ℕ) (b : Bool) → (m == n) ≡ b → (n == m) ≡ b
turned m n true e = eq-eqb n m (sym (eqb-true m n e))
turned m n false e = by (n == m) refl
  where
    by : (v : Bool) → (n == m) ≡ v → (n == m) ≡ false
    by true f = let g : (m == n) ≡ true = eq-eqb m n (sym (eqb-true n m f)) in cc
    by false f = f

or_cases : (a b c : Bool) → (a || (b || c)) ≡ ((a || b) || c)
or_cases true b c = refl
or_cases false b c = refl

among_last : (ms : List ℕ) (n m : ℕ)
    → is_among (ms ++ n ∷ []) m ≡ (is_among ms m || (n == m))
among_last [] n m = by (m == n) refl
  where
    by : (b : Bool) → (m == n) ≡ b → ((m == n) || false) ≡ (n == m)
    by true e = ap (λ v. v || false) e ∙ sym (turned m n true e)
    by false e = ap (λ v. v || false) e ∙ sym (turned m n false e)
among_last (k ∷ ms) n m = ap (λ b. (m == k) || b) (among_last ms n m)
    ∙ or_cases (m == k) (is_among ms m) (n == m)

any_cases : (a b c d : Bool) → ((a || b) || (c || d)) ≡ ((a || c) || (b || d))
any_cases true b c d = refl
any_cases false true true d = refl
any_cases false true false d = refl
any_cases false false true d = refl
any_cases false false false d = refl

any_last : (ms : List ℕ) (n : ℕ) (ns : List ℕ)
    → any_among (ms ++ n ∷ []) ns ≡ (any_among ms ns || is_among ns n)
any_last ms n [] = refl
any_last ms n (m ∷ ns) = ap (λ b. b || any_among (ms ++ n ∷ []) ns) (among_last ms n m)
    ∙ (ap (λ b. (is_among ms m || (n == m)) || b) (any_last ms n ns)
    ∙ any_cases (is_among ms m) (n == m) (any_among ms ns) (is_among ns n))

fresh_cases : (a b c h : Bool)
    → (not a && (not (b || c) && not h)) ≡ (not (a || b) && not (c || h))
fresh_cases true b c h = refl
fresh_cases false true c h = refl
fresh_cases false false true h = refl
fresh_cases false false false h = refl

fresh_is : (ms ns : List ℕ) → fresh ms ns ≡ (not (any_among ms ns) && not (has_again ns))
fresh_is ms [] = refl
fresh_is ms (n ∷ ns) = ap (λ b. not (is_among ms n) && b) (fresh_is (ms ++ n ∷ []) ns)
    ∙ (ap (λ b. not (is_among ms n) && (not b && not (has_again ns))) (any_last ms n ns)
    ∙ fresh_cases (is_among ms n) (any_among ms ns) (is_among ns n) (has_again ns))

none_among : (ns : List ℕ) → any_among [] ns ≡ false
none_among [] = refl
none_among (n ∷ ns) = none_among ns

-- of addresses alone it is that none is there twice
fresh_alone : (ns : List ℕ) → fresh [] ns ≡ not (has_again ns)
fresh_alone ns = fresh_is [] ns ∙ ap (λ b. not b && not (has_again ns)) (none_among ns)

module _ (least greatest : ℕ) where
  abbrev given : List Data → List ℕ
  given ds = addresses_among least greatest ds

  given_by : (n : ℕ) (o : Option ℕ) (ns : List ℕ) (b : Bool)
      → b ≡ is_among ns n → (is_given n o || b) ≡ is_among (cons_option o ns) n
  given_by n None ns b e = e
  given_by n (Some m) ns b e = ap (λ c. (n == m) || c) e

  any_given : (n : ℕ) (ds : List Data)
      → list_any (gives least greatest n) ds ≡ is_among (given ds) n
  any_given n [] = refl
  any_given n (d ∷ ds) = given_by n (address_within least greatest d) (given ds)
      (list_any (gives least greatest n) ds) (any_given n ds)

  given_last : (ds : List Data) (d : Data) (n : ℕ) → address_within least greatest d ≡ Some n
      → given (ds ++ d ∷ []) ≡ given ds ++ n ∷ []
  given_last [] d n e = ap (λ o. cons_option o []) e
  given_last (x ∷ ds) d n e = by (address_within least greatest x) (given_last ds d n e)
    where
      by : (o : Option ℕ) → given (ds ++ d ∷ []) ≡ given ds ++ n ∷ []
          → cons_option o (given (ds ++ d ∷ [])) ≡ cons_option o (given ds) ++ n ∷ []
      by None later = later
      by (Some m) later = ap (λ ns. m ∷ ns) later

  and_turned : (a b c : Bool) → (a && (b && c)) ≡ (b && (a && c))
  and_turned true true c = refl
  and_turned true false c = refl
  and_turned false true c = refl
  and_turned false false c = refl

  one_by : (key : Key) (before ds : List Data) (d : Data) (o : Option ℕ)
      → address_within least greatest d ≡ o
      → ((n : ℕ) → o ≡ Some n → all_wanted key true (before ++ d ∷ []) ds
      ≡ (list_all (is_address least greatest) ds && fresh (given before ++ n ∷ []) (given ds)))
      → (address_wanted least greatest before o && all_wanted key true (before ++ d ∷ []) ds)
      ≡ ((is_some o && list_all (is_address least greatest) ds)
      && fresh (given before) (cons_option o (given ds)))
  one_by key before ds d None e later = refl
  one_by key before ds d (Some n) e later =
      ap (λ b. not b && all_wanted key true (before ++ d ∷ []) ds) (any_given n before)
      ∙ (ap (λ b. not (is_among (given before) n) && b) (later n refl)
      ∙ and_turned (not (is_among (given before) n)) (list_all (is_address least greatest) ds)
      (fresh (given before ++ n ∷ []) (given ds)))

  -- addresses are wanted where they are in the range and none is given before
  addresses_wanted : (key : Key) (most : ℕ)
      → wanted_by key ≡ wanted.Addresses most least greatest → (before ds : List Data)
      → all_wanted key true before ds
      ≡ (list_all (is_address least greatest) ds && fresh (given before) (given ds))
  addresses_wanted key most e before [] = refl
  addresses_wanted key most e before (d ∷ ds) =
      ap (λ w. member_wanted w before d && all_wanted key true (before ++ d ∷ []) ds) e
      ∙ one_by key before ds d (address_within least greatest d) refl
      (λ n some. addresses_wanted key most e (before ++ d ∷ []) ds
      ∙ ap (λ ns. list_all (is_address least greatest) ds && fresh ns (given ds))
      (given_last before d n some))

-- there are too many, or not
many_by : (most n : ℕ) (b : Bool) → nat_le n most ≡ b → nat_lt most n ≡ not b
many_by most n true e = let few = leb-true n most e in not_less most n (omega (arith, few))
many_by most n false e = let many = leb-false n most e in
    (Decides-ltb most n).1 (omega (arith, many))

many_from : (b : Bool) → AreFrom 3 (listed_unless b TooMany)
many_from b = from_unless 3 b TooMany (lit≤ tt)

numbers_by : (key : Key) (b all : Bool) (lt : Bool) → lt ≡ not b
    → (if all then least_of (listed_unless b TooMany) else Some (WrongType key))
    ≡ (if all then (if lt then Some TooMany else None) else Some (WrongType key))
numbers_by key true true lt e = ap (λ v. if v then Some TooMany else None) (sym e)
numbers_by key false true lt e = ap (λ v. if v then Some TooMany else None) (sym e)
numbers_by key true false lt e = refl
numbers_by key false false lt e = refl

-- the first fault that is listed of an array of numbers is its fault
numbers_least : (key : Key) (most least greatest : ℕ)
    → wanted_by key ≡ wanted.Numbers most least greatest → (ds : List Data)
    → least_of (members_faults key most ds)
    ≡ (if list_all (is_number least greatest) ds
    then (if nat_lt most (length ds) then Some TooMany else None) else Some (WrongType key))
unfolding members_faults
numbers_least key most least greatest e ds =
    let few = nat_le (length ds) most in
    unwanted_least key few [] ds (listed_unless few TooMany) (many_from few)
    ∙ (ap (λ b. if b then least_of (listed_unless few TooMany) else Some (WrongType key))
    (numbers_wanted key most least greatest e few [] ds)
    ∙ numbers_by key few (list_all (is_number least greatest) ds) (nat_lt most (length ds))
    (many_by most (length ds) few refl))

addresses_by : (key : Key) (b all again : Bool) (lt : Bool) (found : Bool) → lt ≡ not b
    → found ≡ (if b then all && not again else all)
    → (if found then least_of (listed_unless b TooMany) else Some (WrongType key))
    ≡ (if all then again_fault key again (if lt then Some TooMany else None)
    else Some (WrongType key))
addresses_by key true true true lt found e h =
    ap (λ v. if v then None else Some (WrongType key)) h
    ∙ ap (λ v. again_fault key true (if v then Some TooMany else None)) (sym e)
addresses_by key true true false lt found e h =
    ap (λ v. if v then None else Some (WrongType key)) h
    ∙ ap (λ v. again_fault key false (if v then Some TooMany else None)) (sym e)
addresses_by key true false again lt found e h =
    ap (λ v. if v then None else Some (WrongType key)) h
addresses_by key false true again lt found e h =
    ap (λ v. if v then Some TooMany else Some (WrongType key)) h
    ∙ ap (λ v. again_fault key again (if v then Some TooMany else None)) (sym e)
addresses_by key false false again lt found e h =
    ap (λ v. if v then Some TooMany else Some (WrongType key)) h

found_by : (key : Key) (most least greatest : ℕ)
    → wanted_by key ≡ wanted.Addresses most least greatest → (ds : List Data) (b : Bool)
    → all_wanted key b [] ds
    ≡ (if b then list_all (is_address least greatest) ds
    && not (has_again (addresses_among least greatest ds))
    else list_all (is_address least greatest) ds)
found_by key most least greatest e ds true = addresses_wanted least greatest key most e [] ds
    ∙ ap (λ b. list_all (is_address least greatest) ds && b)
    (fresh_alone (addresses_among least greatest ds))
found_by key most least greatest e ds false = addresses_alone key most least greatest e [] ds

-- the first fault that is listed of an array of addresses is its fault
addresses_least : (key : Key) (most least greatest : ℕ)
    → wanted_by key ≡ wanted.Addresses most least greatest → (ds : List Data)
    → least_of (members_faults key most ds)
    ≡ (if list_all (is_address least greatest) ds
    then again_fault key (has_again (addresses_among least greatest ds))
    (if nat_lt most (length ds) then Some TooMany else None) else Some (WrongType key))
unfolding members_faults
addresses_least key most least greatest e ds =
    let few = nat_le (length ds) most in
    unwanted_least key few [] ds (listed_unless few TooMany) (many_from few)
    ∙ addresses_by key few (list_all (is_address least greatest) ds)
    (has_again (addresses_among least greatest ds)) (nat_lt most (length ds))
    (all_wanted key few [] ds) (many_by most (length ds) few refl)
    (found_by key most least greatest e ds few)

-- the fault at a key that expects no array is listed
spare_least : (found : Option Data) (f : ConfigFault)
    → found_fault SpareControlPorts found ≡ Some f
    → least_of (key_faults SpareControlPorts found f) ≡ Some f
unfolding key_faults
spare_least None f e = refl
spare_least (Some (string text)) f e = refl
spare_least (Some (integer n)) f e = refl
spare_least (Some (float x)) f e = refl
spare_least (Some (boolean b)) f e = refl
spare_least (Some (datetime t)) f e = refl
spare_least (Some (array ds)) f e =
    numbers_least SpareControlPorts 15 0 65535 refl (items_list ds) ∙ e
spare_least (Some (table ms)) f e = refl

groups_least : (found : Option Data) (f : ConfigFault) → found_fault Groups found ≡ Some f
    → least_of (key_faults Groups found f) ≡ Some f
unfolding key_faults
groups_least None f e = refl
groups_least (Some (string text)) f e = refl
groups_least (Some (integer n)) f e = refl
groups_least (Some (float x)) f e = refl
groups_least (Some (boolean b)) f e = refl
groups_least (Some (datetime t)) f e = refl
groups_least (Some (array ds)) f e =
    addresses_least Groups 32 3758096384 4026531839 refl (items_list ds) ∙ e
groups_least (Some (table ms)) f e = refl

key_least : (key : Key) (found : Option Data) (f : ConfigFault) → found_fault key found ≡ Some f
    → least_of (key_faults key found f) ≡ Some f
unfolding key_faults
key_least Node found f e = refl
key_least Address found f e = refl
key_least PdPort found f e = refl
key_least MdPort found f e = refl
key_least OperatorPort found f e = refl
key_least SpareControlPorts found f e = spare_least found f e
key_least ControlAddress found f e = refl
key_least Groups found f e = groups_least found f e
key_least Ttl found f e = refl
key_least Slot found f e = refl
key_least Publishers found f e = refl
key_least Subscriptions found f e = refl
key_least Requesters found f e = refl
key_least Listeners found f e = refl
key_least Callers found f e = refl
key_least Repliers found f e = refl
key_least ControlPort found f e = refl
key_least Dataset found f e = refl
key_least DatasetId found f e = refl
key_least Elements found f e = refl
key_least ElementType found f e = refl
key_least ElementSize found f e = refl

listed_least : (key : Key) (found : Option Data) (o : Option ConfigFault)
    → found_fault key found ≡ o → least_of (listed_at key found o) ≡ o
listed_least key found None e = refl
listed_least key found (Some f) e = key_least key found f e

-- the first fault that is listed of positions is theirs
pub all_least : (positions : List PositionModel)
    → least_of (all_faults positions) ≡ least_fault (map fault_at positions)
all_least [] = refl
all_least (p ∷ positions) = least_append (faults_at p) (all_faults positions)
    ∙ (ap (λ o. least_of_two o (least_of (all_faults positions)))
    (listed_least p.key p.found (found_fault p.key p.found) refl)
    ∙ ap (least_of_two (fault_at p)) (all_least positions))
