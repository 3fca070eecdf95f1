-- The objects that were noted receive the telegram, one after the other.
-- For `take_all`, through `DatagramLemmas.HandedInTurn`.
-- By induction on the slots, and on the objects of one: an act leaves those of higher handles.
use Rattle.std.proofs.Common.{zero, suc, ◌≡◌, ℕ, ◌+◌, ◌<◌, List, [], ◌∷◌, ◌++◌}
use Rattle.std.proofs.Common.{length, map, filter, Option, Some, None, Bool, true}
use Rattle.std.proofs.Common.{false, refl, ◌∙◌, sym, ap, arith, append_assoc}
use Rattle.std.specs.Prelude.{slice_get, slice_set, ◌==◌}
use Rattle.std.specs.List.{flat_map}
use Rattle.std.proofs.lemmas.List.{map-append, append-nil, length-append}
use Rattle.std.proofs.lemmas.List.Concat.{flat_map-cons}
use Rattle.std.proofs.lemmas.List.Sums.{sum_by-cons, sum_by-append}
use Rattle.std.proofs.lemmas.Bool.Decides.{nat_tests}
use Rattle.trdp_filter.specs.declared.globals.Globals.{Globals}
use Rattle.trdp_filter.specs.Telegrams.{TelegramModel}
use Rattle.trdp_model.specs.declared.any_object.AnyObject.{AnyObject}
use Rattle.trdp_model.specs.Kinds.{kind_of}
use Rattle.trdp_model.specs.Configs.{NodeSetup}
use Rattle.trdp_datagrams.specs.Noted.{Addressed}
use Rattle.trdp_outbox.specs.declared.room.Room.{Room}
use Rattle.trdp_model.specs.Records.{Content, RecordModel, labelled}
use Rattle.trdp_model.specs.Slots.{Entry, SlotState, Outcome, entry_under}
use Rattle.trdp_model.specs.Acts.{Act, entry_left, left_at, acted}
use Rattle.trdp_model.proofs.HandleLemmas.{AllAbove, IsRising}
use Rattle.trdp_outbox.specs.Rooms.{kind_room, entries_room}
use Rattle.trdp_store.specs.Acting.{act_of}
use Rattle.trdp_model.specs.Datagrams.{is_for_entry, is_acting, taking_act}
use Rattle.trdp_model.specs.Datagrams.{acting, after_telegram, handed}
use Rattle.trdp_datagrams.specs.Noted.{noted_as, noted_from}
use Rattle.trdp_datagrams.proofs.NoteLemmas.Noted.{same_room}
use Rattle.trdp_model.proofs.SweepLemmas.{all_records}
use Rattle.trdp_datagrams.proofs.NoteLemmas.ByCom.{and_left}
use Rattle.trdp_model.proofs.ActedLemmas.{acted-above}

-- The object of a handle among others whose handles rise.

AllAbove-there : (h : ℕ) (front es : List Entry) (e : Entry)
    → AllAbove h (front ++ e ∷ es) → h < e.handle
AllAbove-there h [] es e above = above.0
AllAbove-there h (d ∷ front) es e above = AllAbove-there h front es e above.1

-- an act at a handle above this one leaves the object of this one
left_other : (h : ℕ) (left : Option AnyObject) (d : Entry)
    → d.handle < h → left_at h left d ≡ d ∷ []
left_other h left d lt =
    let other : (d.handle == h) ≡ false = grind (arith, nat_tests) in
    rw other refl

acted_first : (left : Option AnyObject) (e : Entry) (es : List Entry)
    → AllAbove e.handle es → acted e.handle left (e ∷ es) ≡ entry_left e left ++ es
acted_first left e es above =
    let same : (e.handle == e.handle) ≡ true = grind (arith, nat_tests) in
    flat_map-cons (left_at e.handle left) e es
    ∙ rw (same, acted-above e.handle left es above) refl

-- what is left of an object is in the place of the object
acted_there : (left : Option AnyObject) (front es : List Entry) (e : Entry)
    → IsRising (front ++ e ∷ es)
    → acted e.handle left (front ++ e ∷ es) ≡ front ++ (entry_left e left ++ es)
acted_there left [] es e rising = acted_first left e es rising.0
acted_there left (d ∷ front) es e rising =
    let lt : d.handle < e.handle = AllAbove-there d.handle front es e rising.0 in
    flat_map-cons (left_at e.handle left) d (front ++ e ∷ es)
    ∙ rw (left_other e.handle left d lt)
    (ap (λ (xs : List Entry). d ∷ xs) (acted_there left front es e rising.1))

found_there : (front es : List Entry) (e : Entry)
    → IsRising (front ++ e ∷ es) → entry_under e.handle (front ++ e ∷ es) ≡ Some e
found_there [] es e rising =
    let same : (e.handle == e.handle) ≡ true = grind (arith, nat_tests) in
    rw same refl
found_there (d ∷ front) es e rising =
    let lt : d.handle < e.handle = AllAbove-there d.handle front es e rising.0 in
    let other : (d.handle == e.handle) ≡ false = grind (arith, nat_tests) in
    rw other (found_there front es e rising.1)

-- handles still rise once an object acted
AllAbove-left : (h : ℕ) (left : Option AnyObject) (front es : List Entry) (e : Entry)
    → AllAbove h (front ++ e ∷ es) → AllAbove h (front ++ (entry_left e left ++ es))
AllAbove-left h None [] es e above = above.1
AllAbove-left h (Some object) [] es e above = above
AllAbove-left h left (d ∷ front) es e above = (above.0, AllAbove-left h left front es e above.1)

IsRising-left : (left : Option AnyObject) (front es : List Entry) (e : Entry)
    → IsRising (front ++ e ∷ es) → IsRising (front ++ (entry_left e left ++ es))
IsRising-left None [] es e rising = rising.1
IsRising-left (Some object) [] es e rising = rising
IsRising-left left (d ∷ front) es e rising =
    (AllAbove-left d.handle left front es e rising.0, IsRising-left left front es e rising.1)

-- A slot among others.

pub slot_of_front : (front back : List SlotState) (x : SlotState) (s : ℕ)
    → length front ≡ s → slice_get (front ++ x ∷ back) s ≡ Some x
slot_of_front [] back x zero is = refl
slot_of_front [] back x (suc s) is = absurd (omega (arith, is))
slot_of_front (y ∷ front) back x zero is = absurd (omega (arith, is))
slot_of_front (y ∷ front) back x (suc s) is = slot_of_front front back x s (omega (arith, is))

pub set_front : (front back : List SlotState) (x y : SlotState) (s : ℕ)
    → length front ≡ s → slice_set (front ++ x ∷ back) s y ≡ front ++ y ∷ back
set_front [] back x y zero is = refl
set_front [] back x y (suc s) is = absurd (omega (arith, is))
set_front (z ∷ front) back x y zero is = absurd (omega (arith, is))
set_front (z ∷ front) back x y (suc s) is =
    ap (λ (xs : List SlotState). z ∷ xs) (set_front front back x y s (omega (arith, is)))

-- The noted objects, in turn.

-- a telegram, and the slots and the records that it leads to
pub record Aim : Type 0 where
  pub setup : NodeSetup
  pub telegram : TelegramModel
  pub globals : Globals
  pub slots : List SlotState
  pub records : List RecordModel

-- what an object does with it
abbrev pub act_in : Aim → Entry → Act
act_in aim entry = taking_act aim.setup aim.telegram aim.globals entry

-- those of these objects that act, of all objects of their slot
abbrev those_for : Aim → List Entry → List Entry → List Entry
those_for aim all entries = filter (is_acting aim.telegram aim.globals all) entries

-- what acts is one that the telegram is for
acting_is_for : (aim : Aim) (all : List Entry) (e : Entry)
    → is_acting aim.telegram aim.globals all e ≡ true
    → is_for_entry aim.telegram aim.globals e ≡ true
acting_is_for aim all e is = and_left (is_for_entry aim.telegram aim.globals e) _ is

-- the records of objects that receive it
abbrev records_for : Aim → List Entry → List Content
records_for aim entries = flat_map (λ entry. (act_in aim entry).records) entries

-- what it leaves of objects
abbrev after_in : Aim → List Entry → List Entry → List Entry
after_in aim all entries = flat_map (after_telegram aim.setup aim.telegram aim.globals all) entries

-- the object that was noted is there, the telegram is for it, and of the room more than its own
-- is left
pub record IsNext (aim : Aim) (slots : List SlotState)
    (a : Addressed) (room : Room) (slot : SlotState) (entry : Entry) (more : Room) : Type 0 where
  pub at : slice_get slots a.slot ≡ Some slot
  pub found : entry_under a.handle slot.objects ≡ Some entry
  pub is_for : is_for_entry aim.telegram aim.globals entry ≡ true
  pub rows : room.rows ≡ (kind_room (kind_of entry.object)).rows + more.rows
  pub bytes : room.bytes ≡ (kind_room (kind_of entry.object)).bytes + more.bytes

-- those that were noted receive the telegram in turn, within the room, and reach the aim
abbrev pub Leads : Aim → List SlotState → List RecordModel → Room → List Addressed → Type 0
Leads aim slots records room [] = (slots ≡ aim.slots) × (records ≡ aim.records)
Leads aim slots records room (a ∷ rest) =
    (slot : SlotState) × (entry : Entry) × (more : Room)
    × IsNext aim slots a room slot entry more
    × Leads aim (slice_set slots a.slot (act_of entry (act_in aim) slot).slot)
    (records ++ labelled a.slot (act_of entry (act_in aim) slot).records) more rest

-- a slot with these objects
abbrev slot_with : SlotState → List Entry → SlotState
slot_with slot objects = record slot { objects = objects }

-- a slot has number s, after others, and after it the rest of those that were noted receive the
-- telegram
record Place : Type 0 where
  s : ℕ
  front : List SlotState
  slot : SlotState
  back : List SlotState
  at : length front ≡ s
  rest : List Addressed
  room : Room

-- the slots, where the slot has these objects
abbrev slots_with : Place → List Entry → List SlotState
slots_with place objects = place.front ++ slot_with place.slot objects ∷ place.back

-- those of the slot's objects still to come lead to the aim, where the rest does
abbrev Led : Aim → Place → List Entry → Type 0
Led aim place es =
    (done : List Entry) (records : List RecordModel) (room : Room) → IsRising (done ++ es)
    → room.rows ≡ (entries_room (those_for aim place.slot.objects es)).rows + place.room.rows
    → room.bytes ≡ (entries_room (those_for aim place.slot.objects es)).bytes + place.room.bytes
    → Leads aim (slots_with place (done ++ after_in aim place.slot.objects es)) (records ++ labelled
    place.s (records_for aim (those_for aim place.slot.objects es))) place.room place.rest
    → Leads aim (slots_with place (done ++ es)) records
    room (noted_as place.s (those_for aim place.slot.objects es) ++ place.rest)

led_none : (aim : Aim) (place : Place) → Led aim place []
led_none aim place done records room rising rows bytes leads =
    let is : room ≡ place.room =
    same_room room place.room (omega (arith, rows)) (omega (arith, bytes)) in
    rw is (rw (append-nil records) at leads)

-- the next one doesn't act
led_other : (aim : Aim) (place : Place) (e : Entry) (es : List Entry)
    → is_acting aim.telegram aim.globals place.slot.objects e ≡ false
    → Led aim place es → Led aim place (e ∷ es)
led_other aim place e es is others done records room rising rows bytes leads =
    let rows_is = rw is at rows in
    let bytes_is = rw is at bytes in
    let whole : (done ++ e ∷ []) ++ es ≡ done ++ e ∷ es = append_assoc done (e ∷ []) es in
    let still : (done ++ e ∷ []) ++ after_in aim place.slot.objects es ≡ done ++ e ∷ after_in aim
    place.slot.objects es = append_assoc done (e ∷ []) (after_in aim place.slot.objects es) in
    let leads_then = rw is at leads in
    let led = others (done ++ e ∷ []) records
    room (rw whole rising) rows_is bytes_is (rw still leads_then) in
    rw is (rw whole at led)

-- the next one receives it
led_one : (aim : Aim) (place : Place) (e : Entry) (es : List Entry)
    → is_acting aim.telegram aim.globals place.slot.objects e ≡ true
    → Led aim place es → Led aim place (e ∷ es)
led_one aim place e es is others done records room rising rows bytes leads =
    let left : List Entry = entry_left e (act_in aim e).left in
    let more : Room =
    record {
      rows = (entries_room (those_for aim place.slot.objects es)).rows + place.room.rows;
      bytes = (entries_room (those_for aim place.slot.objects es)).bytes + place.room.bytes;
    } in
    let rows_is = rw is at rows in
    let bytes_is = rw is at bytes in
    let rows_of = sum_by-cons (λ entry. (kind_room (kind_of entry.object)).rows)
    e (those_for aim place.slot.objects es) in
    let bytes_of = sum_by-cons (λ entry. (kind_room (kind_of entry.object)).bytes)
    e (those_for aim place.slot.objects es) in
    let leads_then = rw is at leads in
    let still : (done ++ left) ++ after_in aim place.slot.objects es
    ≡ done ++ (left ++ after_in aim place.slot.objects es) =
    append_assoc done left (after_in aim place.slot.objects es) in
    let told : (records ++ labelled place.s (act_in aim e).records) ++ labelled place.s
    (records_for aim (those_for aim place.slot.objects es)) ≡ records ++ labelled place.s
    ((act_in aim e).records ++ records_for aim (those_for aim place.slot.objects es)) =
    append_assoc records (labelled place.s (act_in aim e).records)
    (labelled place.s (records_for aim (those_for aim place.slot.objects es)))
    ∙ ap (λ (rs : List RecordModel). records ++ rs) (sym (map-append _
    (act_in aim e).records (records_for aim (those_for aim place.slot.objects es)))) in
    let rising_then : IsRising ((done ++ left) ++ es) =
    rw append_assoc (IsRising-left (act_in aim e).left done es e rising) in
    let led = others (done ++ left) (records ++ labelled place.s (act_in aim e).records)
    more rising_then refl refl (rw (still, told) leads_then) in
    let become : slice_set (slots_with place (done ++ e ∷ es)) place.s
    (act_of e (act_in aim) (slot_with place.slot (done ++ e ∷ es))).slot
    ≡ slots_with place ((done ++ left) ++ es) =
    set_front place.front place.back (slot_with place.slot (done ++ e ∷ es))
    (act_of e (act_in aim) (slot_with place.slot (done ++ e ∷ es))).slot place.s place.at
    ∙ ap (slots_with place)
    (acted_there (act_in aim e).left done es e rising ∙ sym (append_assoc done left es)) in
    rw is (
      slot_with place.slot (done ++ e ∷ es),
      e,
      more,
      record {
        at = slot_of_front place.front place.back
            (slot_with place.slot (done ++ e ∷ es)) place.s place.at;
        found = found_there done es e rising;
        is_for = acting_is_for aim place.slot.objects e is;
        rows = omega (arith, rows_is, rows_of);
        bytes = omega (arith, bytes_is, bytes_of);
      },
      rw become led,
    )

led_slot : (aim : Aim) (place : Place) (es : List Entry) → Led aim place es
led_slot aim place [] = led_none aim place
led_slot aim place (e ∷ es) =
    either (is_acting aim.telegram aim.globals place.slot.objects e) refl (led_slot aim place es)
  where
    either : (b : Bool) → is_acting aim.telegram aim.globals place.slot.objects e ≡ b
        → Led aim place es → Led aim place (e ∷ es)
    either true is others = led_one aim place e es is others
    either false is others = led_other aim place e es is others

-- each slot's handles rise
abbrev pub AreRising : List SlotState → Type 0
AreRising slots = (i : ℕ) (slot : SlotState) → slice_get slots i ≡ Some slot → IsRising slot.objects

-- how the telegram changes a slot
abbrev outcome_in : Aim → SlotState → Outcome
outcome_in aim slot = handed aim.setup slot aim.globals aim.telegram

-- all that act in these slots
abbrev all_acting : Aim → List SlotState → List Entry
all_acting aim slots = flat_map (λ slot. acting aim.telegram aim.globals slot.objects) slots

-- those noted of all slots from number s on lead to the slots as the telegram changes them
led_from : (aim : Aim) (slots : List SlotState)
    (s : ℕ) (front : List SlotState) (records : List RecordModel) (room : Room)
    → length front ≡ s → AreRising slots → room ≡ entries_room (all_acting aim slots)
    → front ++ map (λ slot. (outcome_in aim slot).slot) slots ≡ aim.slots
    → records ++ all_records s (outcome_in aim) slots ≡ aim.records
    → Leads aim (front ++ slots) records room (noted_from s aim.telegram aim.globals slots)
led_from aim [] s front records room at rising within slots_are records_are =
    (slots_are, sym (append-nil records) ∙ records_are)
led_from aim (x ∷ slots) s front records room at rising within slots_are records_are =
    let then : SlotState = (outcome_in aim x).slot in
    let later : Room = entries_room (all_acting aim slots) in
    let place : Place = record {
      s = s;
      front = front;
      slot = x;
      back = slots;
      at = at;
      rest = noted_from (s + 1) aim.telegram aim.globals slots;
      room = later;
    } in
    let rows : room.rows ≡ (entries_room (those_for aim x.objects x.objects)).rows + later.rows =
    ap (λ (r : Room). r.rows) within
    ∙ sum_by-append (λ entry. (kind_room (kind_of entry.object)).rows)
    (those_for aim x.objects x.objects) (all_acting aim slots) in
    let bytes :
    room.bytes ≡ (entries_room (those_for aim x.objects x.objects)).bytes + later.bytes =
    ap (λ (r : Room). r.bytes) within
    ∙ sum_by-append (λ entry. (kind_room (kind_of entry.object)).bytes)
    (those_for aim x.objects x.objects) (all_acting aim slots) in
    let over : (front ++ then ∷ []) ++ slots ≡ front ++ then ∷ slots =
    append_assoc front (then ∷ []) slots in
    let slots_then = append_assoc front (then ∷ []) (map (λ slot. (outcome_in aim slot).slot) slots)
    ∙ slots_are in
    let records_then = append_assoc records (labelled s (outcome_in aim x).records)
    (all_records (s + 1) (outcome_in aim) slots) ∙ records_are in
    let count : length (front ++ then ∷ []) ≡ s + 1 = length-append front (then ∷ [])
    ∙ omega (arith, at) in
    let others = led_from aim
    slots (s + 1) (front ++ then ∷ []) (records ++ labelled s (outcome_in aim x).records)
    later count (λ i slot is. rising (suc i) slot is) refl slots_then records_then in
    led_slot aim place x.objects [] records room (rising 0 x refl) rows bytes (rw over at others)

-- what a telegram leads to
abbrev pub aim_of : NodeSetup → TelegramModel → Globals → List SlotState → List RecordModel → Aim
aim_of setup telegram globals slots records = record {
  setup = setup;
  telegram = telegram;
  globals = globals;
  slots = map (λ slot. (handed setup slot globals telegram).slot) slots;
  records = records ++ all_records 0 (λ slot. handed setup slot globals telegram) slots;
}

-- those that were noted lead to the slots as the telegram changes them
pub all_led : (setup : NodeSetup) (telegram : TelegramModel)
    (globals : Globals) (slots : List SlotState) (records : List RecordModel)
    → AreRising slots → Leads (aim_of setup telegram globals slots records)
    slots records (entries_room (flat_map (λ slot. acting telegram globals slot.objects) slots))
    (noted_from 0 telegram globals slots)
all_led setup telegram globals slots records rising =
    led_from (aim_of setup telegram globals slots records)
    slots 0 [] records _ refl rising refl refl refl
