-- The index by comId stays the image of the slots' objects, as they are added.
-- For `ComLemmas.Kept`, and for `SessionLemmas.Keys`.
-- By induction on the slots: a new object has its row after those of its slot.
use Rattle.std.proofs.Common.{◌≡◌, ◌≢◌, ℕ, zero, suc, ◌+◌, ◌<◌, List, [], ◌∷◌, ◌++◌}
use Rattle.std.proofs.Common.{length, set, Option, Some, None, Bool, true, false, refl}
use Rattle.std.proofs.Common.{◌∙◌, sym, ap, subst, arith, append_assoc, append-nil}
use Rattle.std.proofs.lemmas.Bool.{false≢true}
use Rattle.std.proofs.lemmas.Bool.Decides.{nat_tests}
use Rattle.trdp_filter.specs.declared.globals.Globals.{Globals}
use Rattle.trdp_filter.specs.Telegrams.{TelegramModel, PdIs, MdIs}
use Rattle.trdp_pd.specs.Publishers.{is_answered, may_send}
use Rattle.trdp_pd.specs.Subscriptions.{is_accepted_value}
use Rattle.trdp_model.specs.declared.any_object.AnyObject.{AnyObject}
use Rattle.trdp_model.specs.declared.any_object.AnyObject.TheVariants.{Publisher, Subscription}
use Rattle.trdp_model.specs.declared.any_object.AnyObject.TheVariants.{Requester, Listener}
use Rattle.trdp_model.specs.declared.any_object.AnyObject.TheVariants.{Caller, Replier}
use Rattle.trdp_model.specs.Objects.{after_taking, after_firing}
use Rattle.trdp_table.specs.Tables.{Keyed, TableState, slot_in, new_object, with_object}
use Rattle.trdp_table.specs.TableLaws.{AllBelow}
use Rattle.trdp_index.specs.declared.rank.Rank.{Rank}
use Rattle.trdp_index.specs.declared.com_row.ComRow.{ComRow}
use Rattle.trdp_index.specs.Ranks.{is_before, is_same}
use Rattle.trdp_index.specs.Rows.{AllBefore, NoneBefore, with_row}
use Rattle.trdp_index.specs.ComRows.{com_number, com_rank, com_row_rank, is_same_com}
use Rattle.trdp_store.specs.Indexed.{com_of, is_com, is_listed, listed_as}
use Rattle.trdp_store.specs.Indexed.{rows_in, rows_from, run_with}

-- An object keeps the comId that telegrams look for it under.

pub com-taking : (object : AnyObject) (telegram : TelegramModel) (globals : Globals) (fits : Bool)
    → com_of (after_taking object telegram globals fits) ≡ com_of object
com-taking (Publisher p) (PdIs src dst telegram) globals fits =
    either (is_answered p telegram.head globals) refl
  where
    either : (b : Bool) → is_answered p telegram.head globals ≡ b
        → com_of (after_taking (Publisher p) (PdIs src dst telegram) globals fits)
        ≡ com_of (Publisher p)
    either true is = rw is refl
    either false is = rw is refl
com-taking (Publisher p) (MdIs src dst telegram) globals fits = refl
com-taking (Subscription s) (PdIs src dst telegram) globals fits =
    either (is_accepted_value s src dst telegram.head globals fits) refl
  where
    either : (b : Bool) → is_accepted_value s src dst telegram.head globals fits ≡ b
        → com_of (after_taking (Subscription s) (PdIs src dst telegram) globals fits)
        ≡ com_of (Subscription s)
    either true is = rw is refl
    either false is = rw is refl
com-taking (Subscription s) (MdIs src dst telegram) globals fits = refl
com-taking (Requester r) telegram globals fits = refl
com-taking (Listener l) telegram globals fits = refl
com-taking (Caller c) telegram globals fits = refl
com-taking (Replier r) telegram globals fits = refl

pub com-firing : (object : AnyObject) (globals : Globals)
    → com_of (after_firing object globals) ≡ com_of object
com-firing (Publisher p) globals = either (may_send p globals) refl
  where
    either : (b : Bool) → may_send p globals ≡ b
        → com_of (after_firing (Publisher p) globals) ≡ com_of (Publisher p)
    either true is = rw is refl
    either false is = rw is refl
com-firing (Subscription s) globals = refl
com-firing (Requester r) globals = refl
com-firing (Listener l) globals = refl
com-firing (Caller c) globals = refl
com-firing (Replier r) globals = refl

-- ComIds.

pub same_com : (a b : Option ℕ) → is_same_com a b ≡ true → a ≡ b
same_com None None same = refl
same_com None (Some b) same = absurd (false≢true same)
same_com (Some a) None same = absurd (false≢true same)
same_com (Some a) (Some b) same = let e : a ≡ b = grind (arith, nat_tests) in ap Some e

pub same_com-self : (a : Option ℕ) → is_same_com a a ≡ true
same_com-self None = refl
same_com-self (Some a) = grind (arith, nat_tests)

pub same_number : (a b : Option ℕ) → com_number a ≡ com_number b → a ≡ b
same_number None None same = refl
same_number None (Some b) same = absurd (omega (arith, same))
same_number (Some a) None same = absurd (omega (arith, same))
same_number (Some a) (Some b) same = let e : a ≡ b = omega (arith, same) in ap Some e

-- The order of rows.

before_slot : (n a b h g : ℕ) → a < b → is_before (record { first = n; slot = a; last = h })
    (record { first = n; slot = b; last = g }) ≡ true
unfolding is_before
before_slot n a b h g lt = grind (arith, nat_tests)

before_handle : (n a h g : ℕ) → h < g → is_before (record { first = n; slot = a; last = h })
    (record { first = n; slot = a; last = g }) ≡ true
unfolding is_before
before_handle n a h g lt = grind (arith, nat_tests)

not_before : (n a b h g : ℕ) → b < a → is_before (record { first = n; slot = a; last = h })
    (record { first = n; slot = b; last = g }) ≡ false
unfolding is_before
not_before n a b h g lt = grind (arith, nat_tests)

pub same_self : (n a h : ℕ) → is_same (record { first = n; slot = a; last = h })
    (record { first = n; slot = a; last = h }) ≡ true
unfolding is_same
same_self n a h = grind (arith, nat_tests)

pub other_slot : (n m a b h g : ℕ) → a ≢ b → is_same (record { first = n; slot = a; last = h })
    (record { first = m; slot = b; last = g }) ≡ false
unfolding is_same
other_slot n m a b h g apart = grind (arith, nat_tests)

pub other_handle : (n m a b h g : ℕ) → h ≢ g → is_same (record { first = n; slot = a; last = h })
    (record { first = m; slot = b; last = g }) ≡ false
unfolding is_same
other_handle n m a b h g apart = grind (arith, nat_tests)

pub same_first : (x y : Rank) → is_same x y ≡ true → x.first ≡ y.first
unfolding is_same
same_first x y same = grind (arith, nat_tests)

-- One more row.

with_row-before : (r : ComRow) (xs ys : List ComRow) → AllBefore com_row_rank (com_row_rank r) xs
    → with_row com_row_rank r (xs ++ ys) ≡ xs ++ with_row com_row_rank r ys
with_row-before r [] ys before = refl
with_row-before r (x ∷ xs) ys before =
    rw before.0 (ap (λ (zs : List ComRow). x ∷ zs) (with_row-before r xs ys before.1))

with_row-first : (r : ComRow) (ys : List ComRow)
    → NoneBefore com_row_rank (com_row_rank r) ys → with_row com_row_rank r ys ≡ r ∷ ys
with_row-first r [] none = refl
with_row-first r (y ∷ ys) none = rw none.0 refl

NoneBefore-append : (k : Rank) (xs ys : List ComRow) → NoneBefore com_row_rank k xs
    → NoneBefore com_row_rank k ys → NoneBefore com_row_rank k (xs ++ ys)
NoneBefore-append k [] ys none others = others
NoneBefore-append k (x ∷ xs) ys none others = (none.0, NoneBefore-append k xs ys none.1 others)

-- rows of earlier slots come before
before_in : (t s h : ℕ) (com_id : Option ℕ) (es : List Keyed)
    → t < s → AllBefore com_row_rank (com_rank com_id s h) (rows_in t com_id es)
before_in t s h com_id [] lt = tt
before_in t s h com_id (e ∷ es) lt =
    either (is_listed com_id e.object) refl (before_in t s h com_id es lt)
  where
    either : (b : Bool) → is_listed com_id e.object ≡ b
        → AllBefore com_row_rank (com_rank com_id s h) (rows_in t com_id es)
        → AllBefore com_row_rank (com_rank com_id s h) (rows_in t com_id (e ∷ es))
    either true is rest = rw is (before_slot (com_number com_id) t s e.handle h lt, rest)
    either false is rest = rw is rest

-- rows of the same slot with lower handles too
before_same : (t s n : ℕ) (com_id : Option ℕ) (es : List Keyed)
    → t ≡ s → AllBelow n es → AllBefore com_row_rank (com_rank com_id s n) (rows_in t com_id es)
before_same t s n com_id [] same below = tt
before_same t s n com_id (e ∷ es) same below =
    either (is_listed com_id e.object) refl (before_same t s n com_id es same below.1)
  where
    here : is_before (com_rank com_id t e.handle) (com_rank com_id s n) ≡ true
    here =
        subst (λ (m : ℕ). is_before (com_rank com_id t e.handle) (com_rank com_id m n) ≡ true) same
        (before_handle (com_number com_id) t e.handle n below.0)

    either : (b : Bool) → is_listed com_id e.object ≡ b
        → AllBefore com_row_rank (com_rank com_id s n) (rows_in t com_id es)
        → AllBefore com_row_rank (com_rank com_id s n) (rows_in t com_id (e ∷ es))
    either true is rest = rw is (here, rest)
    either false is rest = rw is rest

none_in : (t s h : ℕ) (com_id : Option ℕ) (es : List Keyed)
    → s < t → NoneBefore com_row_rank (com_rank com_id s h) (rows_in t com_id es)
none_in t s h com_id [] lt = tt
none_in t s h com_id (e ∷ es) lt =
    either (is_listed com_id e.object) refl (none_in t s h com_id es lt)
  where
    either : (b : Bool) → is_listed com_id e.object ≡ b
        → NoneBefore com_row_rank (com_rank com_id s h) (rows_in t com_id es)
        → NoneBefore com_row_rank (com_rank com_id s h) (rows_in t com_id (e ∷ es))
    either true is rest = rw is (not_before (com_number com_id) t s e.handle h lt, rest)
    either false is rest = rw is rest

none_from : (b s h : ℕ) (com_id : Option ℕ) (slots : TableState)
    → s < b → NoneBefore com_row_rank (com_rank com_id s h) (rows_from b com_id slots)
none_from b s h com_id [] lt = tt
none_from b s h com_id (x ∷ xs) lt =
    NoneBefore-append (com_rank com_id s h) (rows_in b com_id x.objects)
    (rows_from (b + 1) com_id xs) (none_in b s h com_id x.objects lt)
    (none_from (b + 1) s h com_id xs (omega (arith, lt)))

rows_in-append : (s : ℕ) (com_id : Option ℕ) (xs ys : List Keyed)
    → rows_in s com_id (xs ++ ys) ≡ rows_in s com_id xs ++ rows_in s com_id ys
rows_in-append s com_id [] ys = refl
rows_in-append s com_id (e ∷ xs) ys =
    either (is_listed com_id e.object) refl (rows_in-append s com_id xs ys)
  where
    either : (b : Bool) → is_listed com_id e.object ≡ b
        → rows_in s com_id (xs ++ ys) ≡ rows_in s com_id xs ++ rows_in s com_id ys
        → rows_in s com_id (e ∷ xs ++ ys) ≡ rows_in s com_id (e ∷ xs) ++ rows_in s com_id ys
    either true is rest = rw is (ap (λ (r : List ComRow). listed_as s com_id e ∷ r) rest)
    either false is rest = rw is rest

-- a new object that telegrams look for under the comId
inserted : (b i s key : ℕ) (com_id : Option ℕ) (object : AnyObject) (slots : TableState)
    → s ≡ b + i → i < length slots → AllBelow (slot_in i slots).next (slot_in i slots).objects
    → is_listed com_id object ≡ true → with_row com_row_rank (record {
      com_id = com_id;
      slot = s;
      handle = (slot_in i slots).next;
      key = key;
    }) (rows_from b com_id slots)
    ≡ rows_from b com_id (set slots i (with_object key object (slot_in i slots)))
inserted b i s key com_id object [] of lt below listed = absurd (omega arith)
inserted b zero s key com_id object (x ∷ xs) of lt below listed =
    let same : b ≡ s = omega (arith, of) in
    let r : ComRow = record { com_id = com_id; slot = s; handle = x.next; key = key } in
    let there : rows_in b com_id (x.objects ++ new_object x.next key object ∷ [])
    ≡ rows_in b com_id x.objects ++ r ∷ [] =
    rows_in-append b com_id x.objects (new_object x.next key object ∷ [])
    ∙ rw listed (ap (λ (n : ℕ). let q : ComRow =
    record { com_id = com_id; slot = n; handle = x.next; key = key } in
    rows_in b com_id x.objects ++ q ∷ []) same) in
    with_row-before r (rows_in b com_id x.objects)
    (rows_from (b + 1) com_id xs) (before_same b s x.next com_id x.objects same below)
    ∙ (ap (λ (zs : List ComRow). rows_in b com_id x.objects ++ zs) (with_row-first r
    (rows_from (b + 1) com_id xs) (none_from (b + 1) s x.next com_id xs (omega (arith, of))))
    ∙ (sym (append_assoc (rows_in b com_id x.objects) (r ∷ []) (rows_from (b + 1) com_id xs))
    ∙ ap (λ (zs : List ComRow). zs ++ rows_from (b + 1) com_id xs) (sym there)))
inserted b (suc i) s key com_id object (x ∷ xs) of lt below listed =
    let r : ComRow =
    record { com_id = com_id; slot = s; handle = (slot_in i xs).next; key = key } in
    with_row-before r (rows_in b com_id x.objects) (rows_from (b + 1) com_id xs)
    (before_in b s (slot_in i xs).next com_id x.objects (omega (arith, of)))
    ∙ ap (λ (zs : List ComRow). rows_in b com_id x.objects ++ zs) (inserted (b + 1) i
    s key com_id object xs (omega (arith, of)) (omega (arith, lt)) below listed)

-- and one that they don't
passed_over : (b i key : ℕ) (com_id : Option ℕ) (object : AnyObject) (slots : TableState)
    → is_listed com_id object ≡ false → rows_from b
    com_id (set slots i (with_object key object (slot_in i slots))) ≡ rows_from b com_id slots
passed_over b i key com_id object [] listed = refl
passed_over b zero key com_id object (x ∷ xs) listed =
    ap (λ (zs : List ComRow). zs ++ rows_from (b + 1) com_id xs)
    (rows_in-append b com_id x.objects (new_object x.next key object ∷ [])
    ∙ rw listed (append-nil (rows_in b com_id x.objects)))
passed_over b (suc i) key com_id object (x ∷ xs) listed =
    ap (λ (zs : List ComRow). rows_in b com_id x.objects ++ zs)
    (passed_over (b + 1) i key com_id object xs listed)

pub runs_added : (s key : ℕ) (object : AnyObject) (table : TableState) (com_id : Option ℕ)
    → s < length table → AllBelow (slot_in s table).next (slot_in s table).objects
    → run_with (com_of object) s (slot_in s table).next key com_id (rows_from 0 com_id table)
    ≡ rows_from 0 com_id (set table s (with_object key object (slot_in s table)))
runs_added s key object table com_id lt below = either (com_of object) refl
  where
    either : (own : Option (Option ℕ)) → com_of object ≡ own
        → run_with own s (slot_in s table).next key com_id (rows_from 0 com_id table)
        ≡ rows_from 0 com_id (set table s (with_object key object (slot_in s table)))
    either None is = sym (passed_over 0 s key com_id object table (ap (is_com com_id) is))
    either (Some own) is = here (is_same_com own com_id) refl
      where
        here : (b : Bool) → is_same_com own com_id ≡ b
            → run_with (Some own) s (slot_in s table).next key com_id (rows_from 0 com_id table)
            ≡ rows_from 0 com_id (set table s (with_object key object (slot_in s table)))
        here true same =
            let com_is : own ≡ com_id = same_com own com_id same in
            rw same (ap (λ (c : Option ℕ). let r : ComRow =
            record { com_id = c; slot = s; handle = (slot_in s table).next; key = key } in
            with_row com_row_rank r (rows_from 0 com_id table)) com_is
            ∙ inserted 0 s s key com_id object
            table (omega arith) lt below (ap (is_com com_id) is ∙ same))
        here false same =
            rw same (sym (passed_over 0 s key com_id object table (ap (is_com com_id) is ∙ same)))
