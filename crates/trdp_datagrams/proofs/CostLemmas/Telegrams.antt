-- What a telegram costs, in terms of the objects that it may be for.
-- For `note_all`, `note_parts`, `note_hearers`, `ask_all`, `step_datagram` and `step_moment`, and
-- for `CostLemmas.Sessions`.
-- By: each row that is walked and each key that is looked up is that of such an object.
use Rattle.std.proofs.Common.{◌≡◌, ℕ, ◌+◌, ◌<◌, ◌≤◌, List, [], ◌∷◌, length, map, drop, cond, Option}
use Rattle.std.proofs.Common.{Some, None, Bool, true, false, refl, ◌∙◌, sym, ap, arith}
use Rattle.std.specs.Prelude.{◌==◌, ◌||◌, slice_get}
use Rattle.std.proofs.lemmas.Bool.{false≢true}
use Rattle.std.proofs.lemmas.List.{length-append}
use Rattle.std.proofs.lemmas.List.Sums.{sum_by-cons}
use Rattle.std.proofs.lemmas.Option.{same_Some}
use Rattle.trdp_base.specs.declared.place.Place.{Place}
use Rattle.trdp_head.specs.PdTelegrams.{PdTelegram}
use Rattle.trdp_head.specs.MdTelegrams.{MdTelegram}
use Rattle.trdp_head.specs.declared.md.MdHead.{MdHead}
use Rattle.trdp_head.specs.declared.md.MdKind.{MdKind}
use Rattle.trdp_head.specs.declared.md.MdKind.TheVariants as message
use Rattle.trdp_filter.specs.declared.globals.Globals.{Globals}
use Rattle.trdp_filter.specs.Telegrams.{TelegramModel, PdIs, MdIs}
use Rattle.trdp_model.specs.declared.any_object.AnyObject.{AnyObject}
use Rattle.trdp_md.specs.Listeners.{is_unasked}
use Rattle.trdp_model.specs.declared.any_object.AnyObject.TheVariants.{Publisher, Subscription}
use Rattle.trdp_model.specs.declared.any_object.AnyObject.TheVariants.{Requester, Listener}
use Rattle.trdp_model.specs.declared.any_object.AnyObject.TheVariants.{Caller, Replier}
use Rattle.trdp_model.specs.Objects.{is_addressed}
use Rattle.trdp_table.specs.Tables.{Keyed, SlotTable, TableState, slot_in}
use Rattle.trdp_table.specs.Tables.{all_objects, all_quotas, room_of}
use Rattle.trdp_index.specs.ComRows.{is_same_com}
use Rattle.trdp_model.specs.Slots.{Entry, SlotState}
use Rattle.trdp_store.specs.TableSlots.{entry_of_keyed, slot_of, slots_of}
use Rattle.trdp_store.specs.Acting.{slot_at}
use Rattle.trdp_model.specs.Datagrams.{is_request, is_request_kind, is_listening, hearing}
use Rattle.trdp_store.specs.Indexed.{is_listed, rows_in, rows_from}
use Rattle.trdp_datagrams.specs.Sought.{sought_by}
use Rattle.trdp_datagrams.specs.Sought.{comes_unasked, rows_heard, noted_listener}
use Rattle.trdp_datagrams.specs.Meant.{is_that, is_of_com, is_any, is_of_any, is_meant_as}
use Rattle.trdp_datagrams.specs.Meant.{is_meant, meant_in, meant_of, quota_total}
use Rattle.trdp_datagrams.proofs.NoteLemmas.Noted.{split}
use Rattle.trdp_datagrams.proofs.NoteLemmas.FirstListeners.{Hears, InOwn, InAny, Unlisted, Passes}
use Rattle.trdp_datagrams.proofs.NoteLemmas.FirstListeners.{hears}
use Rattle.trdp_datagrams.proofs.CostLemmas.Sums.{one_if, total, total_of, total_of-le}
use Rattle.trdp_datagrams.proofs.CostLemmas.Sums.{total_of-both, one_if-few, total_of-few}

-- The rows of a comId.

unfoldable listed_one : Option ℕ → AnyObject → ℕ
listed_one com_id object = one_if (is_listed com_id object)

rows_in-total : (s : ℕ) (com_id : Option ℕ) (ks : List Keyed)
    → length (rows_in s com_id ks) ≡ total (listed_one com_id) ks
unfolding listed_one
rows_in-total s com_id [] = refl
rows_in-total s com_id (k ∷ ks) =
    either (is_listed com_id k.object) refl (rows_in-total s com_id ks)
  where
    either : (l : Bool) → is_listed com_id k.object ≡ l
        → length (rows_in s com_id ks) ≡ total (listed_one com_id) ks
        → length (rows_in s com_id (k ∷ ks)) ≡ total (listed_one com_id) (k ∷ ks)
    either true is rest = rw is (omega (arith, rest))
    either false is rest = rw is (omega (arith, rest))

rows-total : (b : ℕ) (com_id : Option ℕ) (table : TableState)
    → length (rows_from b com_id table) ≡ total_of (listed_one com_id) table
rows-total b com_id [] = refl
rows-total b com_id (x ∷ xs) =
    omega (
      arith,
      length-append (rows_in b com_id x.objects) (rows_from (b + 1) com_id xs),
      rows_in-total b com_id x.objects,
      rows-total (b + 1) com_id xs,
    )

-- The objects that a telegram may be for.

unfoldable pub meant_one : TelegramModel → AnyObject → ℕ
meant_one telegram object = one_if (is_meant telegram object)

meant_in-cons : (telegram : TelegramModel) (e : Entry) (es : List Entry)
    → meant_in telegram (e ∷ es) ≡ meant_one telegram e.object + meant_in telegram es
unfolding meant_one
meant_in-cons telegram e es =
    sum_by-cons (λ (x : Entry). cond {A = ℕ} (is_meant telegram x.object) 1 0) e es

pub meant_in-total : (telegram : TelegramModel) (ks : List Keyed)
    → meant_in telegram (map entry_of_keyed ks) ≡ total (meant_one telegram) ks
meant_in-total telegram [] = refl
meant_in-total telegram (k ∷ ks) =
    meant_in-cons telegram (entry_of_keyed k) (map entry_of_keyed ks)
    ∙ ap (λ n. meant_one telegram k.object + n) (meant_in-total telegram ks)

meant_of-cons : (telegram : TelegramModel) (slot : SlotState) (slots : List SlotState)
    → meant_of telegram (slot ∷ slots) ≡ meant_in telegram slot.objects + meant_of telegram slots
meant_of-cons telegram slot slots =
    sum_by-cons (λ (x : SlotState). meant_in telegram x.objects) slot slots

meant_of-total : (telegram : TelegramModel) (table : TableState)
    → meant_of telegram (slots_of table) ≡ total_of (meant_one telegram) table
meant_of-total telegram [] = refl
meant_of-total telegram (x ∷ xs) =
    meant_of-cons telegram (slot_of x) (slots_of xs)
    ∙ (ap (λ n. n + meant_of telegram (slots_of xs)) (meant_in-total telegram x.objects)
    ∙ ap (λ n. total (meant_one telegram) x.objects + n) (meant_of-total telegram xs))

-- those of the slots from a number on
pub meant_of-drop : (telegram : TelegramModel) (slots : List SlotState) (slot : SlotState) (s : ℕ)
    → s < length slots → slice_get slots s ≡ Some slot → meant_of telegram (drop s slots)
    ≡ meant_in telegram slot.objects + meant_of telegram (drop (s + 1) slots)
meant_of-drop telegram slots slot s lt there =
    let one = split slots s lt in
    let is : one.item ≡ slot = same_Some one.item slot (sym one.at ∙ there) in
    let left : drop s slots ≡ slot ∷ drop (s + 1) slots = rw is at one.rest in
    ap (meant_of telegram) left ∙ meant_of-cons telegram slot (drop (s + 1) slots)

-- all objects that the quotas allow
pub total_room : (table : TableState) → quota_total (slots_of table) ≡ room_of table
total_room [] = refl
total_room (x ∷ xs) =
    sum_by-cons (λ (slot : SlotState). all_quotas slot.quotas) (slot_of x) (slots_of xs)
    ∙ (ap (λ n. all_quotas x.quotas + n) (total_room xs)
    ∙ sym (sum_by-cons (λ (slot : SlotTable). all_quotas slot.quotas) x xs))

-- Both are within the room.

listed_once : (com_id : Option ℕ) (object : AnyObject) → listed_one com_id object ≤ 1
unfolding listed_one
listed_once com_id object = one_if-few (is_listed com_id object)

meant_once : (telegram : TelegramModel) (object : AnyObject) → meant_one telegram object ≤ 1
unfolding meant_one
meant_once telegram object = one_if-few (is_meant telegram object)

pub rows_within : (com_id : Option ℕ) (table : TableState)
    → length (all_objects table) ≤ room_of table
    → length (rows_from 0 com_id table) ≤ room_of table
rows_within com_id table le =
    omega (
      arith,
      le,
      rows-total 0 com_id table,
      total_of-few (listed_one com_id) (listed_once com_id) table,
    )

pub meant_within : (telegram : TelegramModel) (table : TableState)
    → length (all_objects table) ≤ room_of table → meant_of telegram (slots_of table) ≤ room_of table
meant_within telegram table le =
    omega (
      arith,
      le,
      meant_of-total telegram table,
      total_of-few (meant_one telegram) (meant_once telegram) table,
    )

-- Which objects these are.

same_com : (own : Option ℕ) (c : ℕ) → is_same_com own (Some c) ≡ is_that c own
same_com None c = refl
same_com (Some a) c = refl

listed_meant : (c : ℕ) (object : AnyObject) → is_listed (Some c) object ≡ is_of_com c object
listed_meant c (Publisher p) = refl
listed_meant c (Subscription s) = refl
listed_meant c (Requester r) = refl
listed_meant c (Listener l) = same_com l.filter.com_id c
listed_meant c (Caller k) = refl
listed_meant c (Replier r) = refl

same_any : (own : Option ℕ) → is_same_com own None ≡ is_any own
same_any None = refl
same_any (Some a) = refl

any_meant : (object : AnyObject) → is_listed None object ≡ is_of_any object
any_meant (Publisher p) = refl
any_meant (Subscription s) = refl
any_meant (Requester r) = refl
any_meant (Listener l) = same_any l.filter.com_id
any_meant (Caller k) = refl
any_meant (Replier r) = refl

or_false : (b : Bool) → one_if b + one_if false ≤ one_if (b || false)
or_false true = omega arith
or_false false = omega arith

either_one : (c : ℕ) (own : Option ℕ)
    → one_if (is_that c own) + one_if (is_any own) ≤ one_if (is_that c own || is_any own)
either_one c None = omega arith
either_one c (Some a) = or_false (a == c)

-- no object is both
one_of_both : (c : ℕ) (object : AnyObject) → one_if (is_of_com c object) + one_if (is_of_any object)
    ≤ one_if (is_of_com c object || is_of_any object)
one_of_both c (Publisher p) = or_false (p.terms.com_id == c)
one_of_both c (Subscription s) = or_false (s.terms.filter.com_id == c)
one_of_both c (Requester r) = or_false false
one_of_both c (Listener l) = either_one c l.filter.com_id
one_of_both c (Caller k) = or_false false
one_of_both c (Replier r) = or_false false

data_one : (src dst : Place) (t : PdTelegram) (object : AnyObject)
    → listed_one (Some (sought_by t.head)) object ≤ meant_one (PdIs src dst t) object
unfolding listed_one meant_one
data_one src dst t object =
    let same : one_if (is_listed (Some (sought_by t.head)) object)
    ≡ one_if (is_of_com (sought_by t.head) object) =
    ap one_if (listed_meant (sought_by t.head) object) in
    omega (arith, same)

-- process data may be for the objects of its rows
pub data_rows : (src dst : Place) (t : PdTelegram) (table : TableState)
    → length (rows_from 0 (Some (sought_by t.head)) table)
    ≤ meant_of (PdIs src dst t) (slots_of table)
data_rows src dst t table =
    let le = total_of-le (listed_one (Some (sought_by t.head)))
    (meant_one (PdIs src dst t)) (data_one src dst t) table in
    omega (
      arith,
      le,
      rows-total 0 (Some (sought_by t.head)) table,
      meant_of-total (PdIs src dst t) table,
    )

as_unasked : (k : MdKind) (head : MdHead) (object : AnyObject) → is_unasked k ≡ true
    → is_meant_as k head object ≡ (is_of_com head.com_id object || is_of_any object)
unfolding is_unasked
as_unasked message.Notify head object is = refl
as_unasked message.Request head object is = refl
as_unasked message.Reply head object is = absurd (false≢true is)
as_unasked message.Query head object is = absurd (false≢true is)
as_unasked message.Confirm head object is = absurd (false≢true is)
as_unasked message.Error head object is = absurd (false≢true is)

message_one : (src dst : Place) (t : MdTelegram) → is_unasked t.head.kind ≡ true
    → (object : AnyObject) → listed_one (Some t.head.com_id) object + listed_one None object
    ≤ meant_one (MdIs src dst t) object
unfolding listed_one meant_one
message_one src dst t is object =
    let own : one_if (is_listed (Some t.head.com_id) object)
    ≡ one_if (is_of_com t.head.com_id object) = ap one_if (listed_meant t.head.com_id object) in
    let any : one_if (is_listed None object) ≡ one_if (is_of_any object) =
    ap one_if (any_meant object) in
    let meant : one_if (is_meant_as t.head.kind t.head object)
    ≡ one_if (is_of_com t.head.com_id object || is_of_any object) =
    ap one_if (as_unasked t.head.kind t.head object is) in
    omega (arith, own, any, meant, one_of_both t.head.com_id object)

-- a message that comes unasked may be for the objects of the rows of its comId and of any
message_rows : (src dst : Place) (t : MdTelegram) (table : TableState) → is_unasked t.head.kind
    ≡ true → rows_heard (MdIs src dst t) table ≤ meant_of (MdIs src dst t) (slots_of table)
message_rows src dst t table is =
    let le = total_of-both (listed_one (Some t.head.com_id))
    (listed_one None) (meant_one (MdIs src dst t)) (message_one src dst t is) table in
    omega (
      arith,
      le,
      rows-total 0 (Some t.head.com_id) table,
      rows-total 0 None table,
      meant_of-total (MdIs src dst t) table,
    )

pub heard_rows : (telegram : TelegramModel) (table : TableState)
    → comes_unasked telegram ≡ true → rows_heard telegram table ≤ meant_of telegram (slots_of table)
heard_rows (PdIs src dst t) table is = absurd (false≢true is)
heard_rows (MdIs src dst t) table is = message_rows src dst t table is

pub asks_unasked : (telegram : TelegramModel)
    → is_request telegram ≡ true → comes_unasked telegram ≡ true
unfolding is_unasked
asks_unasked (PdIs src dst t) is = absurd (false≢true is)
asks_unasked (MdIs src dst t) is = by_kind t.head.kind is
  where
    by_kind : (k : MdKind) → is_request_kind k ≡ true → is_unasked k ≡ true
    by_kind message.Notify is = absurd (false≢true is)
    by_kind message.Request is = refl
    by_kind message.Reply is = absurd (false≢true is)
    by_kind message.Query is = absurd (false≢true is)
    by_kind message.Confirm is = absurd (false≢true is)
    by_kind message.Error is = absurd (false≢true is)

or_left : (a b : Bool) → a ≡ true → (a || b) ≡ true
or_left true b is = refl
or_left false b is = absurd (false≢true is)

or_right : (a b : Bool) → b ≡ true → (a || b) ≡ true
or_right true b is = refl
or_right false b is = is

-- a listener that a message is for
hears_meant : (src dst : Place) (t : MdTelegram) (globals : Globals) (k : Keyed)
    → is_unasked t.head.kind ≡ true → is_listening (entry_of_keyed k) ≡ true
    → is_addressed k.object (MdIs src dst t) globals ≡ true
    → is_meant (MdIs src dst t) k.object ≡ true
hears_meant src dst t globals k is listens for = as_unasked t.head.kind t.head k.object is
    ∙ of (hears src dst t globals k)
  where
    of : Hears src dst t globals k → (is_of_com t.head.com_id k.object || is_of_any k.object) ≡ true
    of (InOwn its listening listed not) = or_left (is_of_com t.head.com_id k.object)
        (is_of_any k.object) (sym (listed_meant t.head.com_id k.object) ∙ listed)
    of (InAny its listening not listed) = or_right (is_of_com t.head.com_id k.object)
        (is_of_any k.object) (sym (any_meant k.object) ∙ listed)
    of (Unlisted silent not neither) = absurd (false≢true (sym silent ∙ listens))
    of (Passes past) = absurd (false≢true (sym past ∙ for))

heard_one : (src dst : Place) (t : MdTelegram) (globals : Globals) (k : Keyed)
    → is_unasked t.head.kind ≡ true → is_listening (entry_of_keyed k) ≡ true
    → is_addressed k.object (MdIs src dst t) globals ≡ true
    → meant_one (MdIs src dst t) k.object ≡ 1
unfolding meant_one
heard_one src dst t globals k is listens for =
    ap one_if (hears_meant src dst t globals k is listens for)

heard_in : (src dst : Place) (t : MdTelegram) (globals : Globals) (s : ℕ)
    → is_unasked t.head.kind ≡ true → (ks : List Keyed)
    → length (noted_listener s (hearing (MdIs src dst t) globals (map entry_of_keyed ks)))
    ≤ meant_in (MdIs src dst t) (map entry_of_keyed ks)
heard_in src dst t globals s is [] = omega arith
heard_in src dst t globals s is (k ∷ ks) = either (is_listening (entry_of_keyed k))
    refl (is_addressed k.object (MdIs src dst t) globals) refl (heard_in src dst t globals s is ks)
  where
    either : (a : Bool) → is_listening (entry_of_keyed k) ≡ a
        → (b : Bool) → is_addressed k.object (MdIs src dst t) globals ≡ b
        → length (noted_listener s (hearing (MdIs src dst t) globals (map entry_of_keyed ks)))
        ≤ meant_in (MdIs src dst t) (map entry_of_keyed ks)
        → length (noted_listener s (hearing (MdIs src dst t) globals (map entry_of_keyed (k ∷ ks))))
        ≤ meant_in (MdIs src dst t) (map entry_of_keyed (k ∷ ks))
    either true listens true for rest =
        rw (listens, for) (omega (
          arith,
          heard_one src dst t globals k is listens for,
          meant_in-cons (MdIs src dst t) (entry_of_keyed k) (map entry_of_keyed ks),
        ))
    either true listens false for rest =
        rw (listens, for) (omega (
          arith,
          rest,
          meant_in-cons (MdIs src dst t) (entry_of_keyed k) (map entry_of_keyed ks),
        ))
    either false listens b for rest =
        rw listens (omega (
          arith,
          rest,
          meant_in-cons (MdIs src dst t) (entry_of_keyed k) (map entry_of_keyed ks),
        ))

-- the listener that hears counts
pub heard_counted : (telegram : TelegramModel) (globals : Globals) (table : TableState) (s : ℕ)
    → comes_unasked telegram ≡ true
    → length (noted_listener s (hearing telegram globals (slot_at s table).objects))
    ≤ meant_in telegram (slot_at s table).objects
heard_counted (PdIs src dst t) globals table s is = absurd (false≢true is)
heard_counted (MdIs src dst t) globals table s is =
    heard_in src dst t globals s is (slot_in s table).objects
