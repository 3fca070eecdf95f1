-- The index by comId stays the image of the slots' objects, as they are removed and change.
-- For `Store::remove`, and for `ComLemmas.Kept`.
-- By induction on the slots: only the row of that slot and handle goes.
use Rattle.std.proofs.Common.{◌≡◌, ◌≢◌, ℕ, zero, suc, ◌+◌, ◌<◌, List, [], ◌∷◌, ◌++◌}
use Rattle.std.proofs.Common.{map, set, filter, not, Option, Some, None, Bool}
use Rattle.std.proofs.Common.{true, false, refl, ◌∙◌, sym, ap, subst, arith}
use Rattle.std.specs.Prelude.{◌==◌}
use Rattle.std.proofs.lemmas.Bool.{false≢true}
use Rattle.std.proofs.lemmas.Bool.Decides.{nat_tests}
use Rattle.std.proofs.lemmas.List.Elements.{filter-append}
use Rattle.trdp_model.specs.declared.any_object.AnyObject.{AnyObject}
use Rattle.trdp_table.specs.Tables.{Keyed, TableState, slot_in, by_handle}
use Rattle.trdp_table.specs.Tables.{without_handle as without_keyed}
use Rattle.trdp_table.specs.Tables.{other_by_handle, with_other_by_handle}
use Rattle.trdp_table.specs.TableLaws.{HandlesRise}
use Rattle.trdp_index.specs.declared.rank.Rank.{Rank}
use Rattle.trdp_index.specs.declared.com_row.ComRow.{ComRow}
use Rattle.trdp_index.specs.Ranks.{is_same}
use Rattle.trdp_index.specs.Rows.{without_rank}
use Rattle.trdp_index.specs.ComRows.{com_number, com_rank, com_row_rank}
use Rattle.trdp_store.proofs.StoreLemmas.Counts.{AreAs, are_as}
use Rattle.trdp_store.specs.Indexed.{com_of, com_found, is_com, is_listed, listed_as}
use Rattle.trdp_store.specs.Indexed.{rows_in, rows_from, run_without}
use Rattle.trdp_store.proofs.ComLemmas.Added.{same_com, same_self, other_slot, other_handle}

-- the comId, or any, under which telegrams look for a slot's object of a handle
abbrev pub com_in : ℕ → ℕ → TableState → Option (Option ℕ)
com_in s handle table = com_found (by_handle handle (slot_in s table).objects)

-- those of a handle are looked for so
abbrev pub AreOf : ℕ → Option (Option ℕ) → List Keyed → Type 0
AreOf h com_id es = AreAs com_of h com_id es

pub are_of : (h : ℕ) (es : List Keyed) (keyed : Keyed)
    → HandlesRise es → by_handle h es ≡ Some keyed → AreOf h (com_of keyed.object) es
are_of h es keyed rising found = are_as com_of h es keyed rising found

without_one : (t s h : ℕ) (com_id own : Option ℕ) (es : List Keyed) → t ≡ s
    → AreOf h (Some own) es → rows_in t com_id (filter (λ keyed. not (keyed.handle == h)) es)
    ≡ without_rank com_row_rank (com_rank own s h) (rows_in t com_id es)
without_one t s h com_id own [] same are = refl
without_one t s h com_id own (e ∷ es) same are = either (e.handle == h) refl
    (is_listed com_id e.object) refl (without_one t s h com_id own es same are.1)
  where
    either : (b : Bool) → (e.handle == h) ≡ b → (l : Bool) → is_listed com_id e.object ≡ l
        → rows_in t com_id (filter (λ keyed. not (keyed.handle == h)) es)
        ≡ without_rank com_row_rank (com_rank own s h) (rows_in t com_id es)
        → rows_in t com_id (filter (λ keyed. not (keyed.handle == h)) (e ∷ es))
        ≡ without_rank com_row_rank (com_rank own s h) (rows_in t com_id (e ∷ es))
    either true is true listed rest =
        let of : e.handle ≡ h = grind (arith, nat_tests) in
        let com_is : own ≡ com_id =
        same_com own com_id (sym (ap (is_com com_id) (are.0 of)) ∙ listed) in
        let gone : is_same (com_rank com_id t e.handle) (com_rank own s h) ≡ true =
        subst (λ (m : ℕ). is_same (com_rank com_id t e.handle) (com_rank own m h) ≡ true) same
        (subst (λ (g : ℕ). is_same (com_rank com_id t e.handle) (com_rank own t g) ≡ true) of
        (subst (λ (c : Option ℕ). is_same (com_rank com_id t e.handle) (com_rank c t e.handle)
        ≡ true) (sym com_is) (same_self (com_number com_id) t e.handle))) in
        rw (is, listed, gone) rest
    either true is false listed rest = rw (is, listed) rest
    either false is true listed rest =
        let apart : e.handle ≢ h = grind (arith, nat_tests) in
        rw (is, listed, other_handle (com_number com_id) (com_number own) t s e.handle h apart)
        (ap (λ (r : List ComRow). listed_as t com_id e ∷ r) rest)
    either false is false listed rest = rw (is, listed) rest

without_none : (t h : ℕ) (com_id : Option ℕ) (es : List Keyed) → AreOf h None es
    → rows_in t com_id (filter (λ keyed. not (keyed.handle == h)) es) ≡ rows_in t com_id es
without_none t h com_id [] are = refl
without_none t h com_id (e ∷ es) are =
    either (e.handle == h) refl (is_listed com_id e.object) refl (without_none t h com_id es are.1)
  where
    either : (b : Bool) → (e.handle == h) ≡ b → (l : Bool) → is_listed com_id e.object ≡ l
        → rows_in t com_id (filter (λ keyed. not (keyed.handle == h)) es) ≡ rows_in t com_id es
        → rows_in t com_id (filter (λ keyed. not (keyed.handle == h)) (e ∷ es))
        ≡ rows_in t com_id (e ∷ es)
    either true is true listed rest =
        let of : e.handle ≡ h = grind (arith, nat_tests) in
        absurd (false≢true (sym (ap (is_com com_id) (are.0 of)) ∙ listed))
    either true is false listed rest = rw (is, listed) rest
    either false is true listed rest =
        rw (is, listed) (ap (λ (r : List ComRow). listed_as t com_id e ∷ r) rest)
    either false is false listed rest = rw (is, listed) rest

-- the rows of other slots stay
without_other : (t s h : ℕ) (com_id own : Option ℕ) (es : List Keyed)
    → t ≢ s → without_rank com_row_rank (com_rank own s h) (rows_in t com_id es)
    ≡ rows_in t com_id es
without_other t s h com_id own [] apart = refl
without_other t s h com_id own (e ∷ es) apart =
    either (is_listed com_id e.object) refl (without_other t s h com_id own es apart)
  where
    either : (l : Bool) → is_listed com_id e.object ≡ l
        → without_rank com_row_rank (com_rank own s h) (rows_in t com_id es) ≡ rows_in t com_id es
        → without_rank com_row_rank (com_rank own s h) (rows_in t com_id (e ∷ es))
        ≡ rows_in t com_id (e ∷ es)
    either true listed rest =
        rw (listed, other_slot (com_number com_id) (com_number own) t s e.handle h apart)
        (ap (λ (r : List ComRow). listed_as t com_id e ∷ r) rest)
    either false listed rest = rw listed rest

without-append : (k : Rank) (xs ys : List ComRow)
    → without_rank com_row_rank k (xs ++ ys)
    ≡ without_rank com_row_rank k xs ++ without_rank com_row_rank k ys
without-append k xs ys = filter-append (λ row. not (is_same (com_row_rank row) k)) xs ys

without_later : (b s h : ℕ) (com_id own : Option ℕ) (slots : TableState) → s < b
    → without_rank com_row_rank (com_rank own s h) (rows_from b com_id slots)
    ≡ rows_from b com_id slots
without_later b s h com_id own [] lt = refl
without_later b s h com_id own (x ∷ xs) lt =
    without-append (com_rank own s h) (rows_in b com_id x.objects) (rows_from (b + 1) com_id xs)
    ∙ rw (
      without_other b s h com_id own x.objects (λ e. absurd (omega (arith, e, lt))),
      without_later (b + 1) s h com_id own xs (omega (arith, lt)),
    ) refl

withdrawn : (b i s h : ℕ) (com_id : Option ℕ) (of : Option (Option ℕ)) (slots : TableState) → s
    ≡ b + i → AreOf h of (slot_in i slots).objects → run_without of s h (rows_from b com_id slots)
    ≡ rows_from b com_id (set slots i (without_keyed h (slot_in i slots)))
withdrawn b i s h com_id None [] is are = refl
withdrawn b i s h com_id (Some own) [] is are = refl
withdrawn b zero s h com_id None (x ∷ xs) is are =
    ap (λ (zs : List ComRow). zs ++ rows_from (b + 1) com_id xs)
    (sym (without_none b h com_id x.objects are))
withdrawn b zero s h com_id (Some own) (x ∷ xs) is are =
    without-append (com_rank own s h) (rows_in b com_id x.objects) (rows_from (b + 1) com_id xs)
    ∙ rw (without_later (b + 1) s h com_id own xs (omega (arith, is)))
    (ap (λ (zs : List ComRow). zs ++ rows_from (b + 1) com_id xs)
    (sym (without_one b s h com_id own x.objects (omega (arith, is)) are)))
withdrawn b (suc i) s h com_id None (x ∷ xs) is are =
    ap (λ (zs : List ComRow). rows_in b com_id x.objects ++ zs)
    (withdrawn (b + 1) i s h com_id None xs (omega (arith, is)) are)
withdrawn b (suc i) s h com_id (Some own) (x ∷ xs) is are =
    without-append (com_rank own s h) (rows_in b com_id x.objects) (rows_from (b + 1) com_id xs)
    ∙ rw (without_other b s h com_id own x.objects (λ e. absurd (omega (arith, e, is))))
    (ap (λ (zs : List ComRow). rows_in b com_id x.objects ++ zs)
    (withdrawn (b + 1) i s h com_id (Some own) xs (omega (arith, is)) are))

pub runs_removed : (s h : ℕ) (of : Option (Option ℕ)) (table : TableState) (com_id : Option ℕ)
    → AreOf h of (slot_in s table).objects → run_without of s h (rows_from 0 com_id table)
    ≡ rows_from 0 com_id (set table s (without_keyed h (slot_in s table)))
runs_removed s h of table com_id are = withdrawn 0 s s h com_id of table (omega arith) are

-- An object becomes another one, under the same comId.

other_seen : (t h : ℕ) (com_id : Option ℕ) (w : AnyObject) (es : List Keyed)
    → AreOf h (com_of w) es → rows_in t com_id (map (other_by_handle h w) es) ≡ rows_in t com_id es
other_seen t h com_id w [] are = refl
other_seen t h com_id w (e ∷ es) are =
    either (e.handle == h) refl (is_listed com_id e.object) refl (other_seen t h com_id w es are.1)
  where
    either : (b : Bool) → (e.handle == h) ≡ b → (l : Bool) → is_listed com_id e.object ≡ l
        → rows_in t com_id (map (other_by_handle h w) es) ≡ rows_in t com_id es
        → rows_in t com_id (map (other_by_handle h w) (e ∷ es)) ≡ rows_in t com_id (e ∷ es)
    either true is true listed rest =
        let of : e.handle ≡ h = grind (arith, nat_tests) in
        let too : is_listed com_id w ≡ true = sym (ap (is_com com_id) (are.0 of)) ∙ listed in
        rw (is, listed, too) (ap (λ (r : List ComRow). listed_as t com_id e ∷ r) rest)
    either true is false listed rest =
        let of : e.handle ≡ h = grind (arith, nat_tests) in
        let too : is_listed com_id w ≡ false = sym (ap (is_com com_id) (are.0 of)) ∙ listed in
        rw (is, listed, too) rest
    either false is true listed rest =
        rw (is, listed) (ap (λ (r : List ComRow). listed_as t com_id e ∷ r) rest)
    either false is false listed rest = rw (is, listed) rest

exchanged_rows : (b i h : ℕ) (com_id : Option ℕ) (w : AnyObject) (slots : TableState)
    → AreOf h (com_of w) (slot_in i slots).objects
    → rows_from b com_id (set slots i (with_other_by_handle h w (slot_in i slots)))
    ≡ rows_from b com_id slots
exchanged_rows b i h com_id w [] are = refl
exchanged_rows b zero h com_id w (x ∷ xs) are = ap (λ (zs : List ComRow).
    zs ++ rows_from (b + 1) com_id xs) (other_seen b h com_id w x.objects are)
exchanged_rows b (suc i) h com_id w (x ∷ xs) are = ap (λ (zs : List ComRow).
    rows_in b com_id x.objects ++ zs) (exchanged_rows (b + 1) i h com_id w xs are)

pub runs_exchanged : (s h : ℕ) (w : AnyObject) (table : TableState) (com_id : Option ℕ)
    → AreOf h (com_of w) (slot_in s table).objects
    → rows_from 0 com_id (set table s (with_other_by_handle h w (slot_in s table)))
    ≡ rows_from 0 com_id table
runs_exchanged s h w table com_id are = exchanged_rows 0 s h com_id w table are
