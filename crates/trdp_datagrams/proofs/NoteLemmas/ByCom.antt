-- The objects that process data is for are in the run of one comId.
-- For `note_run`, `note_all` and `hearers`.
-- By induction on the rows: those that are hit are those that act, and no object outside is.
use Rattle.trdp_store.proofs.StoreLemmas.Keys.{KeysTell}
use Rattle.trdp_model.proofs.TestLemmas.{and_right}
use Rattle.std.proofs.Common.{◌≡◌, ◌≢◌, ℕ, suc, ◌+◌, ◌<◌, ◌≤◌, List, [], ◌∷◌, ◌++◌, length}
use Rattle.std.proofs.Common.{map, drop, filter, not, Some, Bool, true, false, refl}
use Rattle.std.proofs.Common.{◌∙◌, sym, ap, subst, arith, append_assoc, append-nil, None, Option}
use Rattle.std.specs.Prelude.{slice_get, ◌==◌, ◌&&◌, option_map}
use Rattle.std.proofs.lemmas.Bool.{false≢true}
use Rattle.std.proofs.lemmas.Bool.Decides.{nat_tests}
use Rattle.std.proofs.lemmas.List.{map-append, drop_all}
use Rattle.std.proofs.lemmas.List.Concat.{flat_map-cons}
use Rattle.std.proofs.lemmas.Grind.{flat_map-append}
use Rattle.std.proofs.lemmas.Option.{same_Some, none-some}
use Rattle.trdp_base.specs.declared.place.Place.{Place}
use Rattle.trdp_head.specs.declared.pd.PdHead.{PdHead}
use Rattle.trdp_head.specs.declared.pd.PdKind.{PdKind}
use Rattle.trdp_head.specs.declared.pd.PdKind.TheVariants.{Data, PullReply, PullRequest}
use Rattle.trdp_head.specs.declared.pd.PdKind.TheVariants.{Error as PdError}
use Rattle.trdp_head.specs.PdTelegrams.{PdTelegram}
use Rattle.trdp_filter.specs.declared.globals.Globals.{Globals}
use Rattle.trdp_filter.specs.Telegrams.{TelegramModel, PdIs}
use Rattle.trdp_filter.specs.PdFilters.{pd_passes}
use Rattle.trdp_pd.specs.Publishers.{PublisherState, is_asked, asks_for_value, asked_com_id}
use Rattle.trdp_pd.specs.Subscriptions.{SubscriptionState, is_for_subscription, carries_value}
use Rattle.trdp_model.specs.declared.any_object.AnyObject.{AnyObject}
use Rattle.trdp_model.specs.declared.any_object.AnyObject.TheVariants.{Publisher, Subscription}
use Rattle.trdp_model.specs.declared.any_object.AnyObject.TheVariants.{Requester, Listener}
use Rattle.trdp_model.specs.declared.any_object.AnyObject.TheVariants.{Caller, Replier}
use Rattle.trdp_model.specs.Objects.{is_addressed}
use Rattle.trdp_table.specs.Tables.{Keyed, TableState, slot_in, all_objects, by_key}
use Rattle.trdp_index.specs.declared.com_row.ComRow.{ComRow}
use Rattle.trdp_datagrams.specs.Noted.{Addressed}
use Rattle.trdp_outbox.specs.declared.room.Room.{Room}
use Rattle.trdp_model.specs.Slots.{Entry}
use Rattle.trdp_store.specs.TableSlots.{entry_of_keyed, slot_of, slots_of}
use Rattle.trdp_outbox.specs.Rooms.{entries_room}
use Rattle.trdp_model.specs.Datagrams.{is_for_entry, is_listening, acting, hearing}
use Rattle.trdp_datagrams.specs.Noted.{noted_as, noted_from}
use Rattle.trdp_store.specs.Indexed.{com_of, is_com, is_listed, listed_as, rows_in, rows_from}
use Rattle.trdp_datagrams.specs.Sought.{sought_as, sought_by, hit_by, hit, hits, noted_rows}
use Rattle.trdp_model.proofs.UnheardTelegramLemmas.{acting_all}
use Rattle.trdp_datagrams.proofs.NoteLemmas.BySession.{IsOne, one_entry}
use Rattle.trdp_datagrams.proofs.NoteLemmas.Noted.{split, Notes, both_rooms, same_room, acting_in}
use Rattle.trdp_datagrams.proofs.NoteLemmas.Noted.{rows_of-append, bytes_of-append}

-- Which objects process data is for.

pub and_left : (a b : Bool) → (a && b) ≡ true → a ≡ true
and_left true b both = refl
and_left false b both = absurd (false≢true both)

-- the comId that a pull request names for its answer
pub sought_reply : (head : PdHead) → head.kind ≡ PullRequest → head.reply_com_id ≢ 0
    → head.reply_com_id ≡ sought_by head
unfolding asked_com_id
sought_reply head is some =
    let test : (head.reply_com_id == 0) ≡ false = grind (arith, nat_tests) in
    rw is (rw test refl)

-- its own of any other telegram
pub sought_own : (head : PdHead) → (head.kind ≡ PullRequest → head.reply_com_id ≡ 0)
    → head.com_id ≡ sought_by head
unfolding asked_com_id
sought_own head none = either head.kind refl
  where
    either : (k : PdKind) → head.kind ≡ k → head.com_id ≡ sought_as k head
    either Data is = refl
    either PullReply is = refl
    either PdError is = refl
    either PullRequest is =
        let zero : head.reply_com_id ≡ 0 = none is in
        let test : (head.reply_com_id == 0) ≡ true = grind (arith, nat_tests) in
        rw test refl

asked_first : (p : PublisherState) (head : PdHead)
    → is_asked p head ≡ true → asks_for_value head.kind ≡ true
unfolding is_asked
asked_first p head asked =
    and_left (asks_for_value head.kind) (asked_com_id head == p.terms.com_id)
    (and_left (asks_for_value head.kind && asked_com_id head == p.terms.com_id) _ asked)

asked_second : (p : PublisherState) (head : PdHead)
    → is_asked p head ≡ true → (asked_com_id head == p.terms.com_id) ≡ true
unfolding is_asked
asked_second p head asked =
    and_right (asks_for_value head.kind) (asked_com_id head == p.terms.com_id)
    (and_left (asks_for_value head.kind && asked_com_id head == p.terms.com_id) _ asked)

not_asked : (p : PublisherState) (head : PdHead) (k : PdKind)
    → head.kind ≡ k → is_asked p head ≡ true → asks_for_value k ≡ false → ⊥
not_asked p head k is asked not =
    false≢true (sym not ∙ (sym (ap asks_for_value is) ∙ asked_first p head asked))

asked_is : (p : PublisherState) (head : PdHead) (k : PdKind)
    → head.kind ≡ k → is_asked p head ≡ true → sought_as k head ≡ p.terms.com_id
unfolding asks_for_value asked_com_id
asked_is p head PullRequest is asked =
    let test = asked_second p head asked in
    grind (arith, nat_tests)
asked_is p head Data is asked = absurd (not_asked p head Data is asked refl)
asked_is p head PullReply is asked = absurd (not_asked p head PullReply is asked refl)
asked_is p head PdError is asked = absurd (not_asked p head PdError is asked refl)

passed_is :
    (s : SubscriptionState) (src dst : Place) (head : PdHead) (globals : Globals) (k : PdKind)
    → head.kind ≡ k → is_for_subscription s src dst head globals ≡ true
    → sought_as k head ≡ s.terms.filter.com_id
unfolding is_for_subscription pd_passes
passed_is s src dst head globals PullRequest is for =
    absurd (false≢true (sym (ap carries_value is) ∙ and_left (carries_value head.kind) _ for))
passed_is s src dst head globals PdError is for =
    absurd (false≢true (sym (ap carries_value is) ∙ and_left (carries_value head.kind) _ for))
passed_is s src dst head globals Data is for =
    same_id s src dst head globals (and_right (carries_value head.kind) _ for)
  where
    same_id : (s : SubscriptionState) (src dst : Place) (head : PdHead) (globals : Globals)
        → pd_passes s.terms.filter src dst head globals.topo ≡ true
        → head.com_id ≡ s.terms.filter.com_id
    same_id s src dst head globals passes = grind (arith, nat_tests)
passed_is s src dst head globals PullReply is for =
    same_id s src dst head globals (and_right (carries_value head.kind) _ for)
  where
    same_id : (s : SubscriptionState) (src dst : Place) (head : PdHead) (globals : Globals)
        → pd_passes s.terms.filter src dst head globals.topo ≡ true
        → head.com_id ≡ s.terms.filter.com_id
    same_id s src dst head globals passes = grind (arith, nat_tests)

addressed_is : (object : AnyObject) (src dst : Place) (t : PdTelegram) (globals : Globals)
    → is_addressed object (PdIs src dst t) globals ≡ true
    → com_of object ≡ Some (Some (sought_by t.head))
addressed_is (Publisher p) src dst t globals is =
    ap (λ (n : ℕ). Some (Some n)) (sym (asked_is p t.head t.head.kind refl is))
addressed_is (Subscription s) src dst t globals is =
    ap (λ (n : ℕ). Some (Some n)) (sym (passed_is s src dst t.head globals t.head.kind refl is))
addressed_is (Requester r) src dst t globals is = absurd (false≢true is)
addressed_is (Listener l) src dst t globals is = absurd (false≢true is)
addressed_is (Caller c) src dst t globals is = absurd (false≢true is)
addressed_is (Replier r) src dst t globals is = absurd (false≢true is)

addressed_listed : (object : AnyObject) (src dst : Place) (t : PdTelegram) (globals : Globals)
    → is_addressed object (PdIs src dst t) globals ≡ true
    → is_listed (Some (sought_by t.head)) object ≡ true
addressed_listed object src dst t globals is =
    ap (is_com (Some (sought_by t.head))) (addressed_is object src dst t globals is)
    ∙ grind (arith, nat_tests)

-- no listener hears it
no_listener : (e : Entry) (src dst : Place) (t : PdTelegram) (globals : Globals)
    → (is_listening e && is_for_entry (PdIs src dst t) globals e) ≡ false
no_listener e src dst t globals = by_kind e.object
  where
    by_kind : (object : AnyObject) → (is_listening (record e { object = object })
        && is_addressed object (PdIs src dst t) globals) ≡ false
    by_kind (Publisher p) = refl
    by_kind (Subscription s) = refl
    by_kind (Requester r) = refl
    by_kind (Listener l) = refl
    by_kind (Caller c) = refl
    by_kind (Replier r) = refl

pub nobody_hears : (src dst : Place) (t : PdTelegram) (globals : Globals) (es : List Entry)
    → hearing (PdIs src dst t) globals es ≡ None
nobody_hears src dst t globals [] = refl
nobody_hears src dst t globals (e ∷ es) =
    rw (no_listener e src dst t globals) (nobody_hears src dst t globals es)

acting_is : (src dst : Place) (t : PdTelegram) (globals : Globals) (es : List Entry)
    → acting (PdIs src dst t) globals es ≡ filter (is_for_entry (PdIs src dst t) globals) es
acting_is src dst t globals es =
    acting_all (PdIs src dst t) globals (λ e. no_listener e src dst t globals) es

-- The rows of a slot.

-- each of these is the object of its key
abbrev pub AllKeyed : TableState → List Keyed → Type 0
AllKeyed table [] = Unit {0}
AllKeyed table (k ∷ ks) = (by_key k.key (all_objects table) ≡ Some k) × AllKeyed table ks

pub all_keyed : (table : TableState) (ks : List Keyed)
    → ((i : ℕ) (k : Keyed) → slice_get ks i ≡ Some k → by_key k.key (all_objects table) ≡ Some k)
    → AllKeyed table ks
all_keyed table [] each = tt
all_keyed table (k ∷ ks) each = (each 0 k refl, all_keyed table ks (λ i x at. each (suc i) x at))

-- those that the telegram is for are hit
slot_hits : (table : TableState) (s : ℕ) (src dst : Place)
    (t : PdTelegram) (globals : Globals) (ks : List Keyed)
    → AllKeyed table ks → filter (is_for_entry (PdIs src dst t) globals) (map entry_of_keyed ks)
    ≡ hits (PdIs src dst t) globals table (rows_in s (Some (sought_by t.head)) ks)
slot_hits table s src dst t globals [] keyed = refl
slot_hits table s src dst t globals (k ∷ ks) keyed =
    either (is_addressed k.object (PdIs src dst t) globals)
    refl (is_listed (Some (sought_by t.head)) k.object)
    refl (slot_hits table s src dst t globals ks keyed.1)
  where
    rows : List ComRow
    rows = rows_in s (Some (sought_by t.head)) ks

    cons : hits (PdIs src dst t) globals table (listed_as s (Some (sought_by t.head)) k ∷ rows)
        ≡ hit (PdIs src dst t) globals table (listed_as s (Some (sought_by t.head)) k)
        ++ hits (PdIs src dst t) globals table rows
    cons = flat_map-cons (hit (PdIs src dst t) globals table)
        (listed_as s (Some (sought_by t.head)) k) rows

    either : (a : Bool) → is_addressed k.object (PdIs src dst t) globals ≡ a
        → (l : Bool) → is_listed (Some (sought_by t.head)) k.object ≡ l
        → filter (is_for_entry (PdIs src dst t) globals) (map entry_of_keyed ks)
        ≡ hits (PdIs src dst t) globals table rows
        → filter (is_for_entry (PdIs src dst t) globals) (map entry_of_keyed (k ∷ ks))
        ≡ hits (PdIs src dst t) globals table (rows_in s (Some (sought_by t.head)) (k ∷ ks))
    either true for true listed rest =
        rw (for, listed, cons, keyed.0)
        (rw for (ap (λ (es : List Entry). entry_of_keyed k ∷ es) rest))
    either true for false listed rest =
        absurd (false≢true (sym listed ∙ addressed_listed k.object src dst t globals for))
    either false for true listed rest = rw (for, listed, cons, keyed.0) (rw for rest)
    either false for false listed rest = rw (for, listed) rest

-- all rows are of the slot
slot_notes :
    (table : TableState) (s c : ℕ) (telegram : TelegramModel) (globals : Globals) (ks : List Keyed)
    → noted_rows telegram globals table (rows_in s (Some c) ks)
    ≡ noted_as s (hits telegram globals table (rows_in s (Some c) ks))
slot_notes table s c telegram globals [] = refl
slot_notes table s c telegram globals (k ∷ ks) =
    either (is_listed (Some c) k.object) refl (slot_notes table s c telegram globals ks)
  where
    either : (l : Bool) → is_listed (Some c) k.object ≡ l
        → noted_rows telegram globals table (rows_in s (Some c) ks)
        ≡ noted_as s (hits telegram globals table (rows_in s (Some c) ks))
        → noted_rows telegram globals table (rows_in s (Some c) (k ∷ ks))
        ≡ noted_as s (hits telegram globals table (rows_in s (Some c) (k ∷ ks)))
    either true listed rest =
        rw listed
        (flat_map-cons (λ row. noted_as row.slot (hit telegram globals table row))
        (listed_as s (Some c) k) (rows_in s (Some c) ks)
        ∙ (ap (λ (xs : List Addressed).
        noted_as s (hit telegram globals table (listed_as s (Some c) k)) ++ xs) rest
        ∙ (sym (map-append _ (hit telegram globals table (listed_as s (Some c) k))
        (hits telegram globals table (rows_in s (Some c) ks)))
        ∙ ap (noted_as s) (sym (flat_map-cons (hit telegram globals table)
        (listed_as s (Some c) k) (rows_in s (Some c) ks))))))
    either false listed rest = rw listed rest

-- The rows of all slots.

abbrev pub AllSlotsKeyed : TableState → TableState → Type 0
AllSlotsKeyed table [] = Unit {0}
AllSlotsKeyed table (x ∷ xs) = AllKeyed table x.objects × AllSlotsKeyed table xs

all_slots_keyed : (table slots : TableState) → ((s : ℕ) → AllKeyed table (slot_in s slots).objects)
    → AllSlotsKeyed table slots
all_slots_keyed table [] each = tt
all_slots_keyed table (x ∷ xs) each = (each 0, all_slots_keyed table xs (λ s. each (suc s)))

all_hits : (table : TableState) (b : ℕ) (src dst : Place)
    (t : PdTelegram) (globals : Globals) (slots : TableState)
    → AllSlotsKeyed table slots → acting_in (PdIs src dst t) globals (slots_of slots)
    ≡ hits (PdIs src dst t) globals table (rows_from b (Some (sought_by t.head)) slots)
all_hits table b src dst t globals [] keyed = refl
all_hits table b src dst t globals (x ∷ xs) keyed =
    flat_map-cons (λ slot. acting (PdIs src dst t) globals slot.objects) (slot_of x) (slots_of xs)
    ∙ (ap (λ (es : List Entry). es ++ acting_in (PdIs src dst t) globals (slots_of xs))
    (acting_is src dst t globals (slot_of x).objects
    ∙ slot_hits table b src dst t globals x.objects keyed.0)
    ∙ (ap (λ (es : List Entry).
    hits (PdIs src dst t) globals table (rows_in b (Some (sought_by t.head)) x.objects) ++ es)
    (all_hits table (b + 1) src dst t globals xs keyed.1)
    ∙ sym (flat_map-append (hit (PdIs src dst t) globals table) (rows_in b
    (Some (sought_by t.head)) x.objects) (rows_from (b + 1) (Some (sought_by t.head)) xs))))

all_noted : (table : TableState) (b : ℕ) (src dst : Place)
    (t : PdTelegram) (globals : Globals) (slots : TableState) → AllSlotsKeyed table slots
    → noted_rows (PdIs src dst t) globals table (rows_from b (Some (sought_by t.head)) slots)
    ≡ noted_from b (PdIs src dst t) globals (slots_of slots)
all_noted table b src dst t globals [] keyed = refl
all_noted table b src dst t globals (x ∷ xs) keyed =
    flat_map-append (λ row. noted_as row.slot (hit (PdIs src dst t) globals table row)) (rows_in b
    (Some (sought_by t.head)) x.objects) (rows_from (b + 1) (Some (sought_by t.head)) xs)
    ∙ (ap (λ (ys : List Addressed). ys ++ noted_rows (PdIs src dst t)
    globals table (rows_from (b + 1) (Some (sought_by t.head)) xs))
    (slot_notes table b (sought_by t.head) (PdIs src dst t) globals x.objects
    ∙ ap (noted_as b) (sym (acting_is src dst t globals (slot_of x).objects
    ∙ slot_hits table b src dst t globals x.objects keyed.0)))
    ∙ ap (λ (ys : List Addressed). noted_as b (acting (PdIs src dst t) globals (slot_of x).objects)
    ++ ys) (all_noted table (b + 1) src dst t globals xs keyed.1))

keyed_slots : (table : TableState) → KeysTell table → AllSlotsKeyed table table
keyed_slots table tell =
    all_slots_keyed table table (λ s. all_keyed
    table (slot_in s table).objects (λ i k at. tell.found s k.handle k (tell.listed s i k at)))

-- what a walk over the rows notes is what acts
pub run_noted : (table : TableState) (src dst : Place) (t : PdTelegram) (globals : Globals)
    → KeysTell table
    → noted_rows (PdIs src dst t) globals table (rows_from 0 (Some (sought_by t.head)) table)
    ≡ noted_from 0 (PdIs src dst t) globals (slots_of table)
run_noted table src dst t globals tell =
    all_noted table 0 src dst t globals table (keyed_slots table tell)

pub run_room : (table : TableState) (src dst : Place) (t : PdTelegram) (globals : Globals)
    → KeysTell table → entries_room
    (hits (PdIs src dst t) globals table (rows_from 0 (Some (sought_by t.head)) table))
    ≡ entries_room (acting_in (PdIs src dst t) globals (slots_of table))
run_room table src dst t globals tell =
    ap entries_room (sym (all_hits table 0 src dst t globals table (keyed_slots table tell)))

-- Whether a telegram is for the object of a row's key.

pub hit_gone : (telegram : TelegramModel) (globals : Globals) (table : TableState) (row : ComRow)
    → None ≡ option_map (λ keyed. keyed.object) (by_key row.key (all_objects table))
    → hit telegram globals table row ≡ []
hit_gone telegram globals table row gone = either (by_key row.key (all_objects table)) gone
  where
    either : (o : Option Keyed) → None ≡ option_map (λ keyed. keyed.object) o
        → hit_by telegram globals row o ≡ []
    either None gone = refl
    either (Some k) gone = absurd (none-some k.object gone)

pub hit_not : (telegram : TelegramModel) (globals : Globals) (table : TableState) (row : ComRow)
    (object : AnyObject)
    → Some object ≡ option_map (λ keyed. keyed.object) (by_key row.key (all_objects table))
    → is_addressed object telegram globals ≡ false → hit telegram globals table row ≡ []
hit_not telegram globals table row object there not =
    either (by_key row.key (all_objects table)) there
  where
    either : (o : Option Keyed) → Some object ≡ option_map (λ keyed. keyed.object) o
        → hit_by telegram globals row o ≡ []
    either None there = refl
    either (Some k) there =
        let test : is_addressed k.object telegram globals ≡ false = ap (λ (x : AnyObject).
        is_addressed x telegram globals) (sym (same_Some object k.object there)) ∙ not in
        rw test refl

pub hit_one : (telegram : TelegramModel) (globals : Globals) (table : TableState) (row : ComRow)
    (object : AnyObject)
    → Some object ≡ option_map (λ keyed. keyed.object) (by_key row.key (all_objects table))
    → is_addressed object telegram globals ≡ true
    → IsOne row.slot row.handle object (hit telegram globals table row)
hit_one telegram globals table row object there for =
    either (by_key row.key (all_objects table)) there
  where
    either : (o : Option Keyed) → Some object ≡ option_map (λ keyed. keyed.object) o
        → IsOne row.slot row.handle object (hit_by telegram globals row o)
    either None there = absurd (none-some object (sym there))
    either (Some k) there =
        let same : object ≡ k.object = same_Some object k.object there in
        let test : is_addressed k.object telegram globals ≡ true =
        ap (λ (x : AnyObject). is_addressed x telegram globals) (sym same) ∙ for in
        rw test (subst (λ (x : AnyObject). IsOne row.slot row.handle object
        (record { handle = row.handle; object = x } ∷ [])) same
        (one_entry row.slot row.handle object))

-- A walk over rows.

-- those of the rows from an index on are still to come
abbrev pub NotesRun : TelegramModel → Globals
    → TableState → List ComRow → List Addressed → List Addressed → Room → ℕ → Type 0
NotesRun telegram globals table rows before noted room i =
    Notes before noted room (noted_rows telegram globals table (drop i rows))
    (entries_room (hits telegram globals table (drop i rows)))
    (noted_rows telegram globals table rows) (entries_room (hits telegram globals table rows))

pub run_first : (telegram : TelegramModel) (globals : Globals)
    (table : TableState) (rows : List ComRow) (before : List Addressed)
    → NotesRun telegram globals table rows before before (record { rows = 0; bytes = 0 }) 0
run_first telegram globals table rows before =
    record { items = refl; rows = omega arith; bytes = omega arith }

pub run_next :
    (telegram : TelegramModel) (globals : Globals) (table : TableState) (rows : List ComRow)
    (row : ComRow) (before noted noted_then : List Addressed) (room more : Room) (i : ℕ)
    → i < length rows → slice_get rows i ≡ Some row
    → NotesRun telegram globals table rows before noted room i
    → noted_then ≡ noted ++ noted_as row.slot (hit telegram globals table row)
    → more ≡ entries_room (hit telegram globals table row)
    → NotesRun telegram globals table rows before noted_then (both_rooms room more) (i + 1)
run_next telegram globals table rows row before
    noted noted_then room more i lt there notes told within =
    let one = split rows i lt in
    let is : one.item ≡ row = same_Some one.item row (sym one.at ∙ there) in
    let left : drop i rows ≡ row ∷ drop (i + 1) rows = rw is at one.rest in
    let others : List ComRow = drop (i + 1) rows in
    let own : List Entry = hit telegram globals table row in
    let hits_left : hits telegram globals table (drop i rows)
    ≡ own ++ hits telegram globals table others = ap (hits telegram globals table) left
    ∙ flat_map-cons (hit telegram globals table) row others in
    let notes_left : noted_rows telegram globals table (drop i rows) ≡ noted_as row.slot own
    ++ noted_rows telegram globals table others = ap (noted_rows telegram globals table) left
    ∙ flat_map-cons (λ row. noted_as row.slot (hit telegram globals table row)) row others in
    let items = rw notes_left at notes.items in
    let rows_then = rw hits_left at notes.rows in
    let bytes_then = rw hits_left at notes.bytes in
    record {
      items = rw told (append_assoc noted (noted_as row.slot own)
          (noted_rows telegram globals table others) ∙ items);
      rows = omega (
        arith,
        rows_then,
        rows_of-append own (hits telegram globals table others),
        ap (λ (r : Room). r.rows) within,
      );
      bytes = omega (
        arith,
        bytes_then,
        bytes_of-append own (hits telegram globals table others),
        ap (λ (r : Room). r.bytes) within,
      );
    }

-- a row with no object that the telegram is for adds nothing
pub run_past : (telegram : TelegramModel) (globals : Globals) (table : TableState)
    (rows : List ComRow) (row : ComRow) (before noted : List Addressed) (room : Room) (i : ℕ)
    → i < length rows → slice_get rows i ≡ Some row
    → NotesRun telegram globals table rows before noted room i
    → hit telegram globals table row ≡ []
    → NotesRun telegram globals table rows before noted room (i + 1)
run_past telegram globals table rows row before noted room i lt there notes none =
    let one = split rows i lt in
    let is : one.item ≡ row = same_Some one.item row (sym one.at ∙ there) in
    let left : drop i rows ≡ row ∷ drop (i + 1) rows = rw is at one.rest in
    let others : List ComRow = drop (i + 1) rows in
    let hits_left : hits telegram globals table (drop i rows) ≡ hits telegram globals table others =
    ap (hits telegram globals table) left
    ∙ (flat_map-cons (hit telegram globals table) row others
    ∙ ap (λ (es : List Entry). es ++ hits telegram globals table others) none) in
    let notes_left : noted_rows telegram globals table (drop i rows)
    ≡ noted_rows telegram globals table others = ap (noted_rows telegram globals table) left
    ∙ (flat_map-cons (λ row. noted_as row.slot (hit telegram globals table row)) row others
    ∙ ap (λ (es : List Entry). noted_as row.slot es ++ noted_rows telegram globals table others)
    none) in
    record {
      items = rw notes_left at notes.items;
      rows = rw hits_left at notes.rows;
      bytes = rw hits_left at notes.bytes;
    }

pub run_end_items : (telegram : TelegramModel) (globals : Globals)
    (table : TableState) (rows : List ComRow) (before noted : List Addressed) (room : Room) (i : ℕ)
    → length rows ≤ i → NotesRun telegram globals table rows before noted room i
    → noted ≡ before ++ noted_rows telegram globals table rows
run_end_items telegram globals table rows before noted room i past notes =
    let items = rw (drop_all i rows past) at notes.items in
    sym (append-nil noted) ∙ items

pub run_end_room : (telegram : TelegramModel) (globals : Globals)
    (table : TableState) (rows : List ComRow) (before noted : List Addressed) (room : Room) (i : ℕ)
    → length rows ≤ i → NotesRun telegram globals table rows before noted room i
    → room ≡ entries_room (hits telegram globals table rows)
run_end_room telegram globals table rows before noted room i past notes =
    let rows_end = rw (drop_all i rows past) at notes.rows in
    let bytes_end = rw (drop_all i rows past) at notes.bytes in
    same_room room (entries_room (hits telegram globals table rows))
    (omega (arith, rows_end)) (omega (arith, bytes_end))
