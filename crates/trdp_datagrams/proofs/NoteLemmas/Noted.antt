-- The objects that act at a telegram are noted, slot by slot, with room for what they may record.
-- For `note_parts` and `note_hearers`, and for all other lemmas on what is noted.
-- By a loop's invariant: what was noted, and those of the slots to come, are all.
use Rattle.std.proofs.Common.{zero, suc, ◌≡◌, ℕ, ◌+◌, ◌<◌, ◌≤◌, List, [], ◌∷◌, ◌++◌, length}
use Rattle.std.proofs.Common.{drop, add-one, Some, refl, ◌∙◌, sym, ap, arith, append_assoc}
use Rattle.std.specs.Prelude.{slice_get}
use Rattle.std.specs.List.{flat_map}
use Rattle.std.proofs.lemmas.List.{append-nil, drop_all}
use Rattle.std.proofs.lemmas.List.Sums.{sum_by-append}
use Rattle.std.proofs.lemmas.Option.{same_Some}
use Rattle.trdp_filter.specs.declared.globals.Globals.{Globals}
use Rattle.trdp_filter.specs.Telegrams.{TelegramModel}
use Rattle.trdp_model.specs.Kinds.{kind_of}
use Rattle.trdp_datagrams.specs.Noted.{Addressed}
use Rattle.trdp_outbox.specs.declared.room.Room.{Room}
use Rattle.trdp_model.specs.Slots.{Entry, SlotState}
use Rattle.trdp_outbox.specs.Rooms.{kind_room, entries_room}
use Rattle.trdp_model.specs.Datagrams.{acting}
use Rattle.trdp_datagrams.specs.Noted.{noted_as, noted_from}

-- the item at an index, and what follows it
pub record Split {A : Type 0} (xs : List A) (i : ℕ) : Type 0 where
  pub item : A
  pub at : slice_get xs i ≡ Some item
  pub rest : drop i xs ≡ item ∷ drop (i + 1) xs

pub split : {A : Type 0} (xs : List A) (i : ℕ) → i < length xs → Split xs i
split [] i lt = absurd (omega (arith, lt))
split (x ∷ xs) zero lt = record { item = x; at = refl; rest = refl }
split (x ∷ xs) (suc i) lt =
    let others = split xs i (omega (arith, lt)) in
    record { item = others.item; at = others.at; rest = others.rest ∙ rw (add-one, add-one) refl }

-- both rooms together
abbrev pub both_rooms : Room → Room → Room
both_rooms a b = record { rows = a.rows + b.rows; bytes = a.bytes + b.bytes }

pub rows_of-append : (xs ys : List Entry)
    → (entries_room (xs ++ ys)).rows ≡ (entries_room xs).rows + (entries_room ys).rows
rows_of-append xs ys = sum_by-append (λ entry. (kind_room (kind_of entry.object)).rows) xs ys

pub bytes_of-append : (xs ys : List Entry)
    → (entries_room (xs ++ ys)).bytes ≡ (entries_room xs).bytes + (entries_room ys).bytes
bytes_of-append xs ys = sum_by-append (λ entry. (kind_room (kind_of entry.object)).bytes) xs ys

-- rooms of as many records and bytes are one
pub same_room : (a b : Room) → a.rows ≡ b.rows → a.bytes ≡ b.bytes → a ≡ b
same_room a b rows bytes =
    ap (λ (n : ℕ). let r : Room = record { rows = n; bytes = a.bytes } in r) rows
    ∙ ap (λ (n : ℕ). let r : Room = record { rows = b.rows; bytes = n } in r) bytes

-- these and the entries still to come are all, noted after what was noted and with their room
pub record Notes (before noted : List Addressed) (room : Room) (next : List Addressed)
    (later : Room) (last : List Addressed) (all : Room) : Type 0 where
  pub items : noted ++ next ≡ before ++ last
  pub rows : room.rows + later.rows ≡ all.rows
  pub bytes : room.bytes + later.bytes ≡ all.bytes

-- those that act in these slots
abbrev pub acting_in : TelegramModel → Globals → List SlotState → List Entry
acting_in telegram globals slots = flat_map (λ slot. acting telegram globals slot.objects) slots

-- those of the slots from a number on are still to come
abbrev pub NotesAll : TelegramModel → Globals → List SlotState → List Addressed → Room → ℕ → Type 0
NotesAll telegram globals slots noted room s =
    Notes [] noted room (noted_from s telegram globals (drop s slots))
    (entries_room (acting_in telegram globals (drop s slots)))
    (noted_from 0 telegram globals slots) (entries_room (acting_in telegram globals slots))

pub notes_all_first :
    (telegram : TelegramModel) (globals : Globals) (slots : List SlotState) (noted : List Addressed)
    → noted ≡ [] → NotesAll telegram globals slots noted (record { rows = 0; bytes = 0 }) 0
notes_all_first telegram globals slots noted empty =
    rw empty (record { items = refl; rows = omega arith; bytes = omega arith })

-- one turn over the slots
pub notes_all_next : (telegram : TelegramModel) (globals : Globals) (slots : List SlotState)
    (slot : SlotState) (noted noted_then : List Addressed) (room more : Room) (s : ℕ) → s
    < length slots → slice_get slots s ≡ Some slot → NotesAll telegram globals slots noted room s
    → noted_then ≡ noted ++ noted_as s (acting telegram globals slot.objects)
    → more ≡ entries_room (acting telegram globals slot.objects)
    → NotesAll telegram globals slots noted_then (both_rooms room more) (s + 1)
notes_all_next telegram globals slots slot noted noted_then room more s lt there notes told within =
    let one = split slots s lt in
    let is : one.item ≡ slot = same_Some one.item slot (sym one.at ∙ there) in
    let left : drop s slots ≡ slot ∷ drop (s + 1) slots = rw is at one.rest in
    let own : List Entry = acting telegram globals slot.objects in
    let others : List Entry = acting_in telegram globals (drop (s + 1) slots) in
    let items = rw left at notes.items in
    let rows = rw left at notes.rows in
    let bytes = rw left at notes.bytes in
    record {
      items = rw told (append_assoc noted (noted_as s own)
          (noted_from (s + 1) telegram globals (drop (s + 1) slots)) ∙ items);
      rows = omega (arith, rows, rows_of-append own others, ap (λ (r : Room). r.rows) within);
      bytes = omega (arith, bytes, bytes_of-append own others, ap (λ (r : Room). r.bytes) within);
    }

pub notes_all_end_items : (telegram : TelegramModel) (globals : Globals) (slots : List SlotState)
    (noted : List Addressed) (room : Room) (s : ℕ) → length slots ≤ s
    → NotesAll telegram globals slots noted room s → noted ≡ noted_from 0 telegram globals slots
notes_all_end_items telegram globals slots noted room s past notes =
    let items = rw (drop_all s slots past) at notes.items in
    sym (append-nil noted) ∙ items

pub notes_all_end_room : (telegram : TelegramModel) (globals : Globals) (slots : List SlotState)
    (noted : List Addressed) (room : Room) (s : ℕ)
    → length slots ≤ s → NotesAll telegram globals slots noted room s
    → room ≡ entries_room (acting_in telegram globals slots)
notes_all_end_room telegram globals slots noted room s past notes =
    let rows = rw (drop_all s slots past) at notes.rows in
    let bytes = rw (drop_all s slots past) at notes.bytes in
    same_room room (entries_room (acting_in telegram globals slots))
    (omega (arith, rows)) (omega (arith, bytes))
