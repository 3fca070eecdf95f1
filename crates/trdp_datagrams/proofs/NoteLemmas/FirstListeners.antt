-- Which objects hear a message, and the least handle of those in a run.
-- For `NoteLemmas.HeardByRuns`, and for `CostLemmas.Telegrams`.
-- By induction on the rows, by the lesser of two handles.
use Rattle.std.proofs.Common.{◌≡◌, ◌≢◌, ◌⊎◌, inl, inr, ℕ, zero, suc, ◌+◌, ◌<◌}
use Rattle.std.proofs.Common.{min, List, [], ◌∷◌, ◌++◌, Option, Some, None, Bool}
use Rattle.std.proofs.Common.{true, false, refl, ◌∙◌, sym, ap, subst, arith}
use Rattle.std.specs.Prelude.{◌==◌, not, filter}
use Rattle.std.proofs.lemmas.Bool.Decides.{nat_tests}
use Rattle.trdp_base.specs.declared.place.Place.{Place}
use Rattle.trdp_base.specs.declared.topo.Topo.{Topo}
use Rattle.trdp_head.specs.declared.md.MdHead.{MdHead}
use Rattle.trdp_head.specs.MdTelegrams.{MdTelegram}
use Rattle.trdp_filter.specs.declared.globals.Globals.{Globals}
use Rattle.trdp_filter.specs.declared.filters.MdFilter.{MdFilter}
use Rattle.trdp_filter.specs.Telegrams.{TelegramModel, MdIs}
use Rattle.trdp_filter.specs.MdFilters.{md_passes, is_com_id}
use Rattle.trdp_md.specs.declared.listener.Listener.{Listener as ListenerState}
use Rattle.trdp_md.specs.Listeners.{is_for_listener}
use Rattle.trdp_model.specs.declared.any_object.AnyObject.{AnyObject}
use Rattle.trdp_model.specs.declared.any_object.AnyObject.TheVariants.{Publisher, Subscription}
use Rattle.trdp_model.specs.declared.any_object.AnyObject.TheVariants.{Requester, Listener}
use Rattle.trdp_model.specs.declared.any_object.AnyObject.TheVariants.{Caller, Replier}
use Rattle.trdp_model.specs.Objects.{is_addressed}
use Rattle.trdp_table.specs.Tables.{Keyed, TableState, slot_in, all_objects, by_key}
use Rattle.trdp_table.specs.TableLaws.{AllAbove}
use Rattle.trdp_index.specs.declared.com_row.ComRow.{ComRow}
use Rattle.trdp_index.specs.ComRows.{is_same_com}
use Rattle.trdp_store.specs.TableSlots.{entry_of_keyed}
use Rattle.trdp_model.specs.Datagrams.{is_listening}
use Rattle.trdp_store.specs.Indexed.{com_of, is_com, is_listed, rows_in, rows_from}
use Rattle.trdp_datagrams.specs.Sought.{earlier, hit_in, first_in}
use Rattle.trdp_datagrams.proofs.NoteLemmas.ByCom.{AllKeyed, and_left}
use Rattle.trdp_model.proofs.TestLemmas.{and_right}

-- The lesser of two handles.

pub earlier-none : (a : Option ℕ) → earlier a None ≡ a
earlier-none None = refl
earlier-none (Some a) = refl

pub earlier-assoc : (a b c : Option ℕ) → earlier (earlier a b) c ≡ earlier a (earlier b c)
earlier-assoc None b c = refl
earlier-assoc (Some a) None c = refl
earlier-assoc (Some a) (Some b) None = refl
earlier-assoc (Some a) (Some b) (Some c) = let e :
    min (min a b) c ≡ min a (min b c) = omega arith in ap Some e

pub earlier-comm : (a b : Option ℕ) → earlier a b ≡ earlier b a
earlier-comm None None = refl
earlier-comm None (Some b) = refl
earlier-comm (Some a) None = refl
earlier-comm (Some a) (Some b) = let e : min a b ≡ min b a = omega arith in ap Some e

-- no handle, or one above h
pub IsAbove : ℕ → Option ℕ → Type 0
IsAbove h None = Unit {0}
IsAbove h (Some g) = h < g

pub earlier-least : (h : ℕ) (a : Option ℕ) → IsAbove h a → earlier (Some h) a ≡ Some h
unfolding IsAbove
earlier-least h None above = refl
earlier-least h (Some g) above = let e : min h g ≡ h = omega (arith, above) in ap Some e

pub earlier-above : (h : ℕ) (a b : Option ℕ) → IsAbove h a → IsAbove h b → IsAbove h (earlier a b)
unfolding IsAbove
earlier-above h None b above too = too
earlier-above h (Some a) None above too = above
earlier-above h (Some a) (Some b) above too = omega (arith, above, too)

-- Rows of one slot.

first_in-append : (telegram : TelegramModel) (globals : Globals) (table : TableState)
    (s : ℕ) (xs ys : List ComRow) → first_in telegram globals table s (xs ++ ys)
    ≡ earlier (first_in telegram globals table s xs) (first_in telegram globals table s ys)
first_in-append telegram globals table s [] ys = refl
first_in-append telegram globals table s (x ∷ xs) ys =
    ap (earlier (hit_in telegram globals table s x))
    (first_in-append telegram globals table s xs ys)
    ∙ sym (earlier-assoc (hit_in telegram globals table s x)
    (first_in telegram globals table s xs) (first_in telegram globals table s ys))

-- rows of another slot
none_elsewhere : (telegram : TelegramModel) (globals : Globals)
    (table : TableState) (s t : ℕ) (com_id : Option ℕ) (ks : List Keyed)
    → t ≢ s → first_in telegram globals table s (rows_in t com_id ks) ≡ None
none_elsewhere telegram globals table s t com_id [] apart = refl
none_elsewhere telegram globals table s t com_id (k ∷ ks) apart = either (is_listed com_id k.object)
    refl (none_elsewhere telegram globals table s t com_id ks apart)
  where
    either : (l : Bool) → is_listed com_id k.object ≡ l
        → first_in telegram globals table s (rows_in t com_id ks) ≡ None
        → first_in telegram globals table s (rows_in t com_id (k ∷ ks)) ≡ None
    either true listed rest =
        let other : (t == s) ≡ false = grind (arith, nat_tests) in
        rw (listed, other) rest
    either false listed rest = rw listed rest

none_later : (telegram : TelegramModel) (globals : Globals)
    (table : TableState) (s b : ℕ) (com_id : Option ℕ) (slots : TableState)
    → s < b → first_in telegram globals table s (rows_from b com_id slots) ≡ None
none_later telegram globals table s b com_id [] lt = refl
none_later telegram globals table s b com_id (x ∷ xs) lt =
    first_in-append telegram globals table s (rows_in b com_id x.objects)
    (rows_from (b + 1) com_id xs)
    ∙ rw (
      none_elsewhere telegram globals table
          s b com_id x.objects (λ e. absurd (omega (arith, e, lt))),
      none_later telegram globals table s (b + 1) com_id xs (omega (arith, lt)),
    ) refl

-- of all rows those of the slot count
pub first_of_slot : (telegram : TelegramModel)
    (globals : Globals) (table : TableState) (s b i : ℕ) (com_id : Option ℕ) (slots : TableState)
    → s ≡ b + i → first_in telegram globals table s (rows_from b com_id slots)
    ≡ first_in telegram globals table s (rows_in s com_id (slot_in i slots).objects)
first_of_slot telegram globals table s b i com_id [] of = refl
first_of_slot telegram globals table s b zero com_id (x ∷ xs) of =
    let same : b ≡ s = omega (arith, of) in
    first_in-append telegram globals table s (rows_in b com_id x.objects)
    (rows_from (b + 1) com_id xs)
    ∙ (rw (none_later telegram globals table s (b + 1) com_id xs (omega (arith, of)))
    (earlier-none (first_in telegram globals table s (rows_in b com_id x.objects)))
    ∙ ap (λ (n : ℕ). first_in telegram globals table s (rows_in n com_id x.objects)) same)
first_of_slot telegram globals table s b (suc i) com_id (x ∷ xs) of =
    first_in-append telegram globals table s (rows_in b com_id x.objects)
    (rows_from (b + 1) com_id xs)
    ∙ rw (none_elsewhere telegram globals table
    s b com_id x.objects (λ e. absurd (omega (arith, e, of))))
    (first_of_slot telegram globals table s (b + 1) i com_id xs (omega (arith, of)))

-- Which objects hear.

com_passes : (filter : MdFilter) (src dst : Place) (head : MdHead) (node : Topo)
    → md_passes filter src dst head node ≡ true → is_com_id filter.com_id head.com_id ≡ true
unfolding md_passes
com_passes filter src dst head node passes =
    and_left _ _ (and_left _ _ (and_left _ _ (and_left _ _ (and_left _ _ passes))))

same_wanted : (a b : ℕ) → is_com_id (Some a) b ≡ true → a ≡ b
unfolding is_com_id
same_wanted a b test = grind (arith, nat_tests)

pub passed_by : (l : ListenerState) (src dst : Place) (head : MdHead) (globals : Globals)
    → is_for_listener l src dst head globals ≡ true → md_passes l.filter src dst head globals.topo
    ≡ true
unfolding is_for_listener
passed_by l src dst head globals for = and_right _ _ for

any_or_its_own : (l : ListenerState) (src dst : Place) (head : MdHead) (globals : Globals)
    → is_for_listener l src dst head globals ≡ true → (l.filter.com_id ≡ None)
    ⊎ (l.filter.com_id ≡ Some head.com_id)
any_or_its_own l src dst head globals for = of l.filter.com_id
    refl (com_passes l.filter src dst head globals.topo (passed_by l src dst head globals for))
  where
    of : (o : Option ℕ) → l.filter.com_id ≡ o → is_com_id l.filter.com_id head.com_id ≡ true
        → (l.filter.com_id ≡ None) ⊎ (l.filter.com_id ≡ Some head.com_id)
    of None is test = inl is
    of (Some c) is test = inr (is ∙ ap Some (same_wanted c
        head.com_id (sym (ap (λ (o : Option ℕ). is_com_id o head.com_id) is) ∙ test)))

-- an object and a message, in the two runs: it is in one of them and hears it, or it is hit in
-- neither
pub data Hears (src dst : Place) (t : MdTelegram) (globals : Globals) (e : Keyed) : Type 0 where
  InOwn : is_addressed e.object (MdIs src dst t) globals ≡ true
      → is_listening (entry_of_keyed e) ≡ true → is_listed (Some t.head.com_id) e.object ≡ true
      → is_listed None e.object ≡ false → Hears src dst t globals e
  InAny : is_addressed e.object (MdIs src dst t) globals ≡ true
      → is_listening (entry_of_keyed e) ≡ true → is_listed (Some t.head.com_id) e.object ≡ false
      → is_listed None e.object ≡ true → Hears src dst t globals e
  Unlisted : is_listening (entry_of_keyed e) ≡ false → is_listed (Some t.head.com_id) e.object
      ≡ false → is_listed None e.object ≡ false → Hears src dst t globals e
  Passes : is_addressed e.object (MdIs src dst t) globals ≡ false → Hears src dst t globals e

pub hears : (src dst : Place) (t : MdTelegram) (globals : Globals) (e : Keyed)
    → Hears src dst t globals e
hears src dst t globals e = by_kind e.object refl
  where
    same_number : (n : ℕ) → (n == n) ≡ true
    same_number n = grind (arith, nat_tests)

    heard_by : (l : ListenerState) → e.object ≡ Listener l
        → is_for_listener l src dst t.head globals ≡ true
        → (l.filter.com_id ≡ None) ⊎ (l.filter.com_id ≡ Some t.head.com_id)
        → Hears src dst t globals e
    heard_by l is for (inl any) =
        InAny (ap (λ (o : AnyObject). is_addressed o (MdIs src dst t) globals) is ∙ for)
        (ap (λ (o : AnyObject). is_listening (record (entry_of_keyed e) { object = o })) is)
        (ap (is_listed (Some t.head.com_id)) is
        ∙ ap (λ (c : Option ℕ). is_same_com c (Some t.head.com_id)) any)
        (ap (is_listed None) is ∙ ap (λ (c : Option ℕ). is_same_com c None) any)
    heard_by l is for (inr own) =
        InOwn (ap (λ (o : AnyObject). is_addressed o (MdIs src dst t) globals) is ∙ for)
        (ap (λ (o : AnyObject). is_listening (record (entry_of_keyed e) { object = o })) is)
        (ap (is_listed (Some t.head.com_id)) is ∙ (ap
        (λ (c : Option ℕ). is_same_com c (Some t.head.com_id)) own ∙ same_number t.head.com_id))
        (ap (is_listed None) is ∙ ap (λ (c : Option ℕ). is_same_com c None) own)

    listener : (l : ListenerState) → e.object ≡ Listener l
        → (b : Bool) → is_for_listener l src dst t.head globals ≡ b → Hears src dst t globals e
    listener l is true for = heard_by l is for (any_or_its_own l src dst t.head globals for)
    listener l is false for =
        Passes (ap (λ (o : AnyObject). is_addressed o (MdIs src dst t) globals) is ∙ for)

    unlisted : (o : AnyObject) → e.object ≡ o
        → is_listening (record (entry_of_keyed e) { object = o }) ≡ false
        → com_of o ≡ None → Hears src dst t globals e
    unlisted o is not none =
        Unlisted (ap (λ (x : AnyObject). is_listening (record (entry_of_keyed e) { object = x })) is
        ∙ not)
        (ap (is_listed (Some t.head.com_id)) is ∙ ap (is_com (Some t.head.com_id)) none)
        (ap (is_listed None) is ∙ ap (is_com None) none)

    by_kind : (o : AnyObject) → e.object ≡ o → Hears src dst t globals e
    by_kind (Publisher p) is =
        Passes (ap (λ (o : AnyObject). is_addressed o (MdIs src dst t) globals) is)
    by_kind (Subscription s) is =
        Passes (ap (λ (o : AnyObject). is_addressed o (MdIs src dst t) globals) is)
    by_kind (Requester r) is = unlisted (Requester r) is refl refl
    by_kind (Listener l) is = listener l is (is_for_listener l src dst t.head globals) refl
    by_kind (Caller c) is = unlisted (Caller c) is refl refl
    by_kind (Replier r) is = unlisted (Replier r) is refl refl

-- The first of one slot.

-- one more row in front
pub first_listed : (telegram : TelegramModel) (globals : Globals) (table : TableState) (s : ℕ)
    (com_id : Option ℕ) (k : Keyed) (ks : List Keyed) → by_key k.key (all_objects table) ≡ Some k
    → is_listed com_id k.object ≡ true → is_addressed k.object telegram globals ≡ true
    → first_in telegram globals table s (rows_in s com_id (k ∷ ks))
    ≡ earlier (Some k.handle) (first_in telegram globals table s (rows_in s com_id ks))
first_listed telegram globals table s com_id k ks at listed for =
    let own : (s == s) ≡ true = grind (arith, nat_tests) in
    rw (listed, own, at) (rw for refl)

pub first_unlisted : (telegram : TelegramModel) (globals : Globals) (table : TableState)
    (s : ℕ) (com_id : Option ℕ) (k : Keyed) (ks : List Keyed) → is_listed com_id k.object ≡ false
    → first_in telegram globals table s (rows_in s com_id (k ∷ ks))
    ≡ first_in telegram globals table s (rows_in s com_id ks)
first_unlisted telegram globals table s com_id k ks listed = rw listed refl

pub first_passed : (telegram : TelegramModel) (globals : Globals)
    (table : TableState) (s : ℕ) (com_id : Option ℕ) (k : Keyed) (ks : List Keyed)
    → by_key k.key (all_objects table) ≡ Some k → is_addressed k.object telegram globals ≡ false
    → first_in telegram globals table s (rows_in s com_id (k ∷ ks))
    ≡ first_in telegram globals table s (rows_in s com_id ks)
first_passed telegram globals table s com_id k ks at for = either (is_listed com_id k.object) refl
  where
    own : (s == s) ≡ true
    own = grind (arith, nat_tests)

    either : (l : Bool) → is_listed com_id k.object ≡ l
        → first_in telegram globals table s (rows_in s com_id (k ∷ ks))
        ≡ first_in telegram globals table s (rows_in s com_id ks)
    either true listed = rw (listed, own, at) (rw for refl)
    either false listed = rw listed refl

pub first_above : (telegram : TelegramModel) (globals : Globals)
    (table : TableState) (s h : ℕ) (com_id : Option ℕ) (ks : List Keyed) → AllKeyed table ks
    → AllAbove h ks → IsAbove h (first_in telegram globals table s (rows_in s com_id ks))
unfolding IsAbove
first_above telegram globals table s h com_id [] keyed above = tt
first_above telegram globals table s h com_id (k ∷ ks) keyed above =
    either (is_addressed k.object telegram globals) refl (is_listed com_id k.object)
    refl (first_above telegram globals table s h com_id ks keyed.1 above.1)
  where
    either : (a : Bool) → is_addressed k.object telegram globals ≡ a
        → (l : Bool) → is_listed com_id k.object ≡ l
        → IsAbove h (first_in telegram globals table s (rows_in s com_id ks))
        → IsAbove h (first_in telegram globals table s (rows_in s com_id (k ∷ ks)))
    either true for true listed rest =
        subst (IsAbove h)
        (sym (first_listed telegram globals table s com_id k ks keyed.0 listed for))
        (earlier-above h
        (Some k.handle) (first_in telegram globals table s (rows_in s com_id ks)) above.0 rest)
    either a for false listed rest =
        subst (IsAbove h) (sym (first_unlisted telegram globals table s com_id k ks listed)) rest
    either false for true listed rest =
        subst (IsAbove h) (sym (first_passed telegram globals table s com_id k ks keyed.0 for)) rest
