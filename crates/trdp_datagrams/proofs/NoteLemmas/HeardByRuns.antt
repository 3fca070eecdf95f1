-- The first listener of a slot that a message is for is in the run of its comId or in that of any.
-- For `hear_row`, `hear_run` and `hearers`.
-- By: each listener is in one of both runs, so the lesser of their firsts is the first of all.
use Rattle.std.proofs.Common.{◌≡◌, inl, inr, ℕ, zero, suc, ◌+◌, ◌<◌, ◌≤◌, List, []}
use Rattle.std.proofs.Common.{◌∷◌, ◌++◌, length, map, drop, Option, Some, None}
use Rattle.std.proofs.Common.{Bool, true, false, refl, ◌∙◌, sym, ap, arith}
use Rattle.std.specs.Prelude.{slice_get, slice_index_or, ◌==◌, not, get_or, set, replicate}
use Rattle.std.proofs.lemmas.Bool.Decides.{nat_tests}
use Rattle.std.proofs.lemmas.List.{drop_all, get_or-set_same, get_or-set_other}
use Rattle.std.proofs.lemmas.Bool.{cases_eq}
use Rattle.std.proofs.lemmas.Option.{same_Some, none-some}
use Rattle.trdp_base.specs.declared.place.Place.{Place}
use Rattle.trdp_head.specs.MdTelegrams.{MdTelegram}
use Rattle.trdp_filter.specs.declared.globals.Globals.{Globals}
use Rattle.trdp_filter.specs.Telegrams.{TelegramModel, MdIs}
use Rattle.trdp_model.specs.Objects.{is_addressed}
use Rattle.trdp_table.specs.Tables.{Keyed, TableState, slot_in}
use Rattle.trdp_table.specs.TableLaws.{HandlesRise}
use Rattle.trdp_index.specs.declared.com_row.ComRow.{ComRow}
use Rattle.trdp_store.specs.TableSlots.{entry_of_keyed}
use Rattle.trdp_store.specs.Acting.{slot_at}
use Rattle.trdp_model.specs.Datagrams.{is_listening, hearing}
use Rattle.trdp_store.specs.Indexed.{is_listed, rows_in, rows_from}
use Rattle.trdp_datagrams.specs.Sought.{hit, earlier, first_handle, hit_in, first_in}
use Rattle.trdp_datagrams.proofs.NoteLemmas.Noted.{split}
use Rattle.trdp_datagrams.proofs.NoteLemmas.ByCom.{AllKeyed, all_keyed}
use Rattle.trdp_store.proofs.StoreLemmas.Keys.{KeysTell}
use Rattle.trdp_datagrams.proofs.NoteLemmas.FirstListeners.{IsAbove, Hears, InOwn, InAny, Unlisted}
use Rattle.trdp_datagrams.proofs.NoteLemmas.FirstListeners.{Passes}
use Rattle.trdp_datagrams.proofs.NoteLemmas.FirstListeners.{earlier-none, earlier-assoc, earlier-comm}
use Rattle.trdp_datagrams.proofs.NoteLemmas.FirstListeners.{earlier-least, earlier-above}
use Rattle.trdp_datagrams.proofs.NoteLemmas.FirstListeners.{first_of_slot, hears}
use Rattle.trdp_datagrams.proofs.NoteLemmas.FirstListeners.{first_listed, first_unlisted}
use Rattle.trdp_datagrams.proofs.NoteLemmas.FirstListeners.{first_passed, first_above}

heard_in : (table : TableState) (s : ℕ) (src dst : Place)
    (t : MdTelegram) (globals : Globals) (ks : List Keyed) → AllKeyed table ks → HandlesRise ks
    → earlier (first_in (MdIs src dst t) globals table s (rows_in s (Some t.head.com_id) ks))
    (first_in (MdIs src dst t) globals table s (rows_in s None ks))
    ≡ hearing (MdIs src dst t) globals (map entry_of_keyed ks)
heard_in table s src dst t globals [] keyed rising = refl
heard_in table s src dst t globals (k ∷ ks) keyed rising =
    of (hears src dst t globals k) (heard_in table s src dst t globals ks keyed.1 rising.1)
  where
    telegram : TelegramModel
    telegram = MdIs src dst t

    own : Option ℕ
    own = first_in (MdIs src dst t) globals table s (rows_in s (Some t.head.com_id) ks)

    any : Option ℕ
    any = first_in (MdIs src dst t) globals table s (rows_in s None ks)

    above_own : IsAbove k.handle own
    above_own = first_above (MdIs src dst t) globals
        table s k.handle (Some t.head.com_id) ks keyed.1 rising.0

    above_any : IsAbove k.handle any
    above_any = first_above (MdIs src dst t) globals table s k.handle None ks keyed.1 rising.0

    of : Hears src dst t globals k
        → earlier own any ≡ hearing (MdIs src dst t) globals (map entry_of_keyed ks) → earlier
        (first_in (MdIs src dst t) globals table s (rows_in s (Some t.head.com_id) (k ∷ ks)))
        (first_in (MdIs src dst t) globals table s (rows_in s None (k ∷ ks)))
        ≡ hearing (MdIs src dst t) globals (map entry_of_keyed (k ∷ ks))
    of (InOwn for listens listed not) rest =
        ap (λ (o : Option ℕ). earlier
        o (first_in (MdIs src dst t) globals table s (rows_in s None (k ∷ ks)))) (first_listed
        (MdIs src dst t) globals table s (Some t.head.com_id) k ks keyed.0 listed for)
        ∙ (ap (earlier (earlier (Some k.handle) own))
        (first_unlisted (MdIs src dst t) globals table s None k ks not)
        ∙ (earlier-assoc (Some k.handle) own any
        ∙ (earlier-least k.handle (earlier own any)
        (earlier-above k.handle own any above_own above_any)
        ∙ sym (rw (listens, for) refl))))
    of (InAny for listens not listed) rest =
        ap (λ (o : Option ℕ).
        earlier o (first_in (MdIs src dst t) globals table s (rows_in s None (k ∷ ks))))
        (first_unlisted (MdIs src dst t) globals table s (Some t.head.com_id) k ks not)
        ∙ (ap (earlier own)
        (first_listed (MdIs src dst t) globals table s None k ks keyed.0 listed for)
        ∙ (earlier-comm own (earlier (Some k.handle) any)
        ∙ (earlier-assoc (Some k.handle) any own
        ∙ (earlier-least k.handle (earlier any own)
        (earlier-above k.handle any own above_any above_own)
        ∙ sym (rw (listens, for) refl)))))
    of (Unlisted listens not neither) rest =
        ap (λ (o : Option ℕ).
        earlier o (first_in (MdIs src dst t) globals table s (rows_in s None (k ∷ ks))))
        (first_unlisted (MdIs src dst t) globals table s (Some t.head.com_id) k ks not)
        ∙ (ap (earlier own) (first_unlisted (MdIs src dst t) globals table s None k ks neither)
        ∙ (rest ∙ sym (rw listens refl)))
    of (Passes for) rest =
        ap (λ (o : Option ℕ).
        earlier o (first_in (MdIs src dst t) globals table s (rows_in s None (k ∷ ks))))
        (first_passed (MdIs src dst t) globals table s (Some t.head.com_id) k ks keyed.0 for)
        ∙ (ap (earlier own) (first_passed (MdIs src dst t) globals table s None k ks keyed.0 for)
        ∙ (rest ∙ sym (passed_over (is_listening (entry_of_keyed k)) for)))
      where
        passed_over : (b : Bool) → is_addressed k.object (MdIs src dst t) globals ≡ false
            → hearing (MdIs src dst t) globals (map entry_of_keyed (k ∷ ks))
            ≡ hearing (MdIs src dst t) globals (map entry_of_keyed ks)
        passed_over b for = either (is_listening (entry_of_keyed k)) refl
          where
            either : (b : Bool) → is_listening (entry_of_keyed k) ≡ b
                → hearing (MdIs src dst t) globals (map entry_of_keyed (k ∷ ks))
                ≡ hearing (MdIs src dst t) globals (map entry_of_keyed ks)
            either true is = rw (is, for) refl
            either false is = rw is refl

-- the listener of a slot that hears a message
pub heard_by_runs :
    (table : TableState) (s : ℕ) (src dst : Place) (t : MdTelegram) (globals : Globals)
    → AllKeyed table (slot_in s table).objects → HandlesRise (slot_in s table).objects
    → earlier (first_in (MdIs src dst t) globals table s (rows_from 0 (Some t.head.com_id) table))
    (first_in (MdIs src dst t) globals table s (rows_from 0 None table))
    ≡ hearing (MdIs src dst t) globals (slot_at s table).objects
heard_by_runs table s src dst t globals keyed rising =
    ap (λ (o : Option ℕ). earlier
    o (first_in (MdIs src dst t) globals table s (rows_from 0 None table))) (first_of_slot
    (MdIs src dst t) globals table s 0 s (Some t.head.com_id) table (omega arith))
    ∙ (ap (earlier (first_in (MdIs src dst t)
    globals table s (rows_in s (Some t.head.com_id) (slot_in s table).objects)))
    (first_of_slot (MdIs src dst t) globals table s 0 s None table (omega arith))
    ∙ heard_in table s src dst t globals (slot_in s table).objects keyed rising)

-- What is noted of each row.

pub heard_row : (telegram : TelegramModel) (globals : Globals) (table : TableState)
    (xs : List (Option ℕ)) (row : ComRow) (s : ℕ) → row.slot < length xs → get_or (set xs row.slot
    (earlier (get_or xs row.slot None) (first_handle (hit telegram globals table row)))) s None
    ≡ earlier (get_or xs s None) (hit_in telegram globals table s row)
heard_row telegram globals table xs row s lt = elim (cases_eq row.slot s) [
  | inl same ↦
      let test : (row.slot == s) ≡ true = grind (arith, nat_tests) in
      ap (λ (n : ℕ). get_or (set xs row.slot (earlier (get_or xs row.slot None)
      (first_handle (hit telegram globals table row)))) n None) (sym same)
      ∙ (get_or-set_same xs row.slot (earlier (get_or xs row.slot None)
      (first_handle (hit telegram globals table row))) None lt
      ∙ (ap (λ (n : ℕ). earlier (get_or xs n None) (first_handle (hit telegram globals table row)))
      same
      ∙ sym (rw test refl)))
  | inr apart ↦
      let test : (row.slot == s) ≡ false = grind (arith, nat_tests) in
      get_or-set_other xs row.slot s (earlier (get_or xs row.slot None)
      (first_handle (hit telegram globals table row))) None (λ e. apart (sym e))
      ∙ sym (rw test (earlier-none (get_or xs s None)))
]

-- rows name present slots
pub row_slot : (b : ℕ) (com_id : Option ℕ) (slots : TableState) (i : ℕ) (row : ComRow)
    → slice_get (rows_from b com_id slots) i ≡ Some row → row.slot < b + length slots
row_slot b com_id [] i row at = absurd (none-some row at)
row_slot b com_id (x ∷ xs) i row at =
    in_first (λ j later. row_slot (b + 1) com_id xs j row later)
    (rows_in b com_id x.objects) i at (all_of b com_id x.objects)
  where
    AllOf : ℕ → List ComRow → Type 0
    AllOf t [] = Unit {0}
    AllOf t (r ∷ rs) = (r.slot ≡ t) × AllOf t rs

    all_of : (t : ℕ) (com_id : Option ℕ) (ks : List Keyed) → AllOf t (rows_in t com_id ks)
    all_of t com_id [] = tt
    all_of t com_id (k ∷ ks) = either (is_listed com_id k.object) refl (all_of t com_id ks)
      where
        either : (l : Bool) → is_listed com_id k.object ≡ l
            → AllOf t (rows_in t com_id ks) → AllOf t (rows_in t com_id (k ∷ ks))
        either true listed rest = rw listed (refl, rest)
        either false listed rest = rw listed rest

    in_first : ((j : ℕ) → slice_get (rows_from (b + 1) com_id xs) j ≡ Some row
        → row.slot < b + 1 + length xs) → (rs : List ComRow) (j : ℕ)
        → slice_get (rs ++ rows_from (b + 1) com_id xs) j ≡ Some row
        → AllOf b rs → row.slot < b + length (x ∷ xs)
    in_first later [] j at of = omega (arith, later j at)
    in_first later (r ∷ rs) zero at of = let same =
        ap (λ (q : ComRow). q.slot) (same_Some r row at) in omega (arith, same, of.0)
    in_first later (r ∷ rs) (suc j) at of = in_first later rs j at of.1

-- those of the rows from an index on are still to come
abbrev pub HearsRun : TelegramModel → Globals
    → TableState → List ComRow → List (Option ℕ) → List (Option ℕ) → ℕ → Type 0
HearsRun telegram globals table rows before heard i =
    (s : ℕ) → earlier (get_or heard s None) (first_in telegram globals table s (drop i rows))
    ≡ earlier (get_or before s None) (first_in telegram globals table s rows)

pub hears_next : (telegram : TelegramModel) (globals : Globals) (table : TableState)
    (rows : List ComRow) (row : ComRow) (before heard heard_then : List (Option ℕ)) (i : ℕ)
    → i < length rows → slice_get rows i ≡ Some row
    → HearsRun telegram globals table rows before heard i → ((s : ℕ) → get_or heard_then s None
    ≡ earlier (get_or heard s None) (hit_in telegram globals table s row))
    → HearsRun telegram globals table rows before heard_then (i + 1)
hears_next telegram globals table rows row before heard heard_then i lt there run told = λ s.
    let one = split rows i lt in
    let is : one.item ≡ row = same_Some one.item row (sym one.at ∙ there) in
    let left : drop i rows ≡ row ∷ drop (i + 1) rows = rw is at one.rest in
    ap (λ (o : Option ℕ). earlier o (first_in telegram globals table s (drop (i + 1) rows)))
    (told s)
    ∙ (earlier-assoc (get_or heard s None) (hit_in telegram globals table s row)
    (first_in telegram globals table s (drop (i + 1) rows))
    ∙ (ap (λ (rs : List ComRow).
    earlier (get_or heard s None) (first_in telegram globals table s rs)) (sym left) ∙ run s))

pub hears_end : (telegram : TelegramModel) (globals : Globals)
    (table : TableState) (rows : List ComRow) (before heard : List (Option ℕ)) (i : ℕ)
    → length rows ≤ i → HearsRun telegram globals table rows before heard i → (s : ℕ)
    → get_or heard s None ≡ earlier (get_or before s None) (first_in telegram globals table s rows)
hears_end telegram globals table rows before heard i past run s =
    sym (earlier-none (get_or heard s None))
    ∙ (ap (λ (rs : List ComRow). earlier (get_or heard s None)
    (first_in telegram globals table s rs)) (sym (drop_all i rows past)) ∙ run s)

-- no listener, and no slot that has one
abbrev pub no_handle : Option ℕ
no_handle = None

pub none_noted : (n s : ℕ) → slice_index_or (replicate n no_handle) s None ≡ None
none_noted zero s = refl
none_noted (suc n) zero = refl
none_noted (suc n) (suc s) = none_noted n s

-- both runs determine which listener hears
pub heard_by_both : (table : TableState) (s : ℕ)
    (src dst : Place) (t : MdTelegram) (globals : Globals) (tell : KeysTell table)
    → HandlesRise (slot_in s table).objects → (none once twice : List (Option ℕ))
    → get_or none s None ≡ None → get_or once s None ≡ earlier (get_or none s None)
    (first_in (MdIs src dst t) globals table s (rows_from 0 (Some t.head.com_id) table))
    → get_or twice s None ≡ earlier (get_or once s None)
    (first_in (MdIs src dst t) globals table s (rows_from 0 None table))
    → get_or twice s None ≡ hearing (MdIs src dst t) globals (slot_at s table).objects
heard_by_both table s src dst t globals tell rising none once twice empty first second =
    second
    ∙ (ap (λ (o : Option ℕ). earlier o (first_in (MdIs src dst t)
    globals table s (rows_from 0 None table))) (first ∙ ap (λ (o : Option ℕ). earlier o
    (first_in (MdIs src dst t) globals table s (rows_from 0 (Some t.head.com_id) table))) empty)
    ∙ heard_by_runs table s src dst t globals (all_keyed table (slot_in s table).objects
    (λ i k at. tell.found s k.handle k (tell.listed s i k at))) rising)
