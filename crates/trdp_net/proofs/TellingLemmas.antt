-- The telegrams of events: looked through, and those of the network.
-- For `Told::seek_in_slot`, `Told::seek`, `find` and `latest`.
-- A loop's invariant: number `which` of all is number `left` of the rest, which each turn shortens.
use Rattle.std.proofs.Common.{◌≡◌, ℕ, zero, suc, ◌+◌, ◌-◌, ◌<◌, List, [], ◌∷◌, ◌++◌, length, map}
use Rattle.std.proofs.Common.{filter, drop, Some, Bool, true, false, refl, ap, sym, ◌∙◌, subst}
use Rattle.std.proofs.Common.{arith}
use Rattle.std.proofs.Common.{slice_get, append_assoc, append-nil, Option, None, ◌≤◌}
use Rattle.std.proofs.lemmas.List.{drop_all}
use Rattle.std.specs.Prelude.{cond, ◌==◌, option_to_list}
use Rattle.trdp_base.specs.declared.place.Place.{Place}
use Rattle.trdp_filter.specs.declared.globals.Globals.{Globals}
use Rattle.trdp_model.specs.Configs.{NodeSetup}
use Rattle.trdp_model.specs.Records.{Content, Answers, Indicates, Sends, RecordModel, records_of}
use Rattle.trdp_model.specs.Events.{EventModel}
use Rattle.trdp_model.specs.Slots.{SlotState}
use Rattle.trdp_model.specs.Alone.{plain_effect}
use Rattle.std.proofs.Common.{add-one}
use Rattle.std.proofs.lemmas.Option.{same_Some}
use Rattle.trdp_net.specs.Networks.{Sent, place_of, sends_of, sent_by}
use Rattle.trdp_net.specs.Tellings.{place_at, IsOwnHome, sends_from, sent_in_slot, sent_in_slots}
use Rattle.trdp_net.specs.Tellings.{sent_in, all_sent, latest, sought_past, SoughtIn}
use Rattle.trdp_net.specs.declared.told.Home.{Home}
use Rattle.trdp_net.specs.declared.told.TelegramSearch.{TelegramSearch}
use Rattle.trdp_net.specs.declared.told.Told.{Told}

-- what is left from a number on begins with the element of that number
dropped : {A : Type 0} (xs : List A) (i : ℕ) (x : A)
    → slice_get xs i ≡ Some x → drop i xs ≡ x ∷ drop (i + 1) xs
dropped [] i x at = absurd (cc)
dropped (y ∷ xs) zero x at = ap (λ (e : _). e ∷ xs) (same_Some y x at)
dropped (y ∷ xs) (suc i) x at = dropped xs i x at ∙ rw (add-one, add-one) refl

-- number `which` of all is number `left` of the rest
abbrev pub Remains : List Sent → ℕ → List Sent → ℕ → Type 0
Remains all which rest left =
    (more : List Sent) → slice_get (all ++ more) which ≡ slice_get (rest ++ more) left

-- the result of a search through the first of the rest
pub went : (all whole first rest : List Sent) (which left : ℕ) (sought : TelegramSearch)
    → Remains all which whole left → whole ≡ first ++ rest → SoughtIn first left sought
    → (more : List Sent) → slice_get (all ++ more) which ≡ sought_past sought (rest ++ more)
went all whole first rest which left sought remains split is more =
    remains more
    ∙ (ap (λ (xs : List Sent). slice_get (xs ++ more) left) split
    ∙ (ap (λ (xs : List Sent). slice_get xs left) (append_assoc first rest more)
    ∙ is (rest ++ more)))

-- records whose telegrams are looked for, the first apart
slot_cons : (home : Home) (s : ℕ) (x : RecordModel) (records : List RecordModel)
    → sent_in_slot home s (x ∷ records)
    ≡ sent_in_slot home s (x ∷ []) ++ sent_in_slot home s records
slot_cons home s x records = either (x.slot == s)
  where
    head : (content : Content) (rest : List Content)
        → sends_from home (content ∷ rest)
        ≡ sends_from home (content ∷ []) ++ sends_from home rest
    head (Answers answer) rest = refl
    head (Indicates indication) rest = refl
    head (Sends protocol to bytes) rest = refl

    either : (b : Bool)
        → sends_from home (map (λ r. r.content)
        (cond b (x ∷ filter (λ r. r.slot == s) records) (filter (λ r. r.slot == s) records)))
        ≡ sends_from home (map (λ r. r.content) (cond b (x ∷ []) []))
        ++ sent_in_slot home s records
    either true = head x.content (records_of s records)
    either false = refl

dropped_at : (records : List RecordModel) (i : ℕ)
    → drop i records ≡ option_to_list (slice_get records i) ++ drop (i + 1) records
dropped_at [] zero = refl
dropped_at [] (suc i) =
    let e : suc (i + 1) ≡ suc i + 1 = omega arith in
    ap (λ (n : ℕ). drop {A = RecordModel} n []) e
dropped_at (x ∷ records) zero = refl
dropped_at (x ∷ records) (suc i) =
    let e : suc i + 1 ≡ suc (i + 1) = omega arith in
    dropped_at records i
    ∙ ap (λ (n : ℕ). option_to_list (slice_get records i) ++ drop n (x ∷ records)) (sym e)

slot_more : (home : Home) (s : ℕ) (found : Option RecordModel) (records : List RecordModel)
    → sent_in_slot home s (option_to_list found ++ records)
    ≡ sent_in_slot home s (option_to_list found) ++ sent_in_slot home s records
slot_more home s None records = refl
slot_more home s (Some x) records = slot_cons home s x records

pub slot_step : (home : Home) (s : ℕ) (records : List RecordModel) (i : ℕ)
    → sent_in_slot home s (drop i records)
    ≡ sent_in_slot home s (option_to_list (slice_get records i))
    ++ sent_in_slot home s (drop (i + 1) records)
slot_step home s records i =
    ap (sent_in_slot home s) (dropped_at records i)
    ∙ slot_more home s (slice_get records i) (drop (i + 1) records)

pub slots_step : (home : Home) (records : List RecordModel) (s slots : ℕ) → s < slots
    → sent_in_slots home records s (slots - s)
    ≡ sent_in_slot home s records ++ sent_in_slots home records (s + 1) (slots - (s + 1))
slots_step home records s slots lt =
    let count : slots - s ≡ suc (slots - (s + 1)) = omega (arith, lt) in
    let next : suc s ≡ s + 1 = omega arith in
    ap (sent_in_slots home records s) count
    ∙ ap (λ (n : ℕ). sent_in_slot home s records
    ++ sent_in_slots home records n (slots - (s + 1))) next

pub events_step : (events : List Told) (i : ℕ) (told : Told) → slice_get events i ≡ Some told
    → all_sent (drop i events) ≡ sent_in told ++ all_sent (drop (i + 1) events)
events_step events i told at = ap all_sent (dropped events i told at)

-- one more event
pub all_sent_push : (events : List Told) (told : Told)
    → all_sent (events ++ told ∷ []) ≡ all_sent events ++ sent_in told
all_sent_push [] told = append-nil (sent_in told)
all_sent_push (first ∷ events) told =
    ap (λ (xs : List Sent). sent_in first ++ xs) (all_sent_push events told)
    ∙ sym (append_assoc (sent_in first) (all_sent events) (sent_in told))

pub latest_push : (events : List Told) (told : Told)
    → latest (events ++ told ∷ []) ≡ told.out.records
latest_push [] told = refl
latest_push (first ∷ []) told = refl
latest_push (first ∷ second ∷ events) told = latest_push (second ∷ events) told

last_at : (first : Told) (rest : List Told) (told : Told)
    → slice_get (first ∷ rest) (length rest) ≡ Some told
    → latest (first ∷ rest) ≡ told.out.records
last_at first [] told at = let e : first ≡ told = cc in ap (λ (t : Told). t.out.records) e
last_at first (second ∷ rest) told at = last_at second rest told at

pub latest_at : (events : List Told) (told : Told)
    → slice_get events (length events - 1) ≡ Some told → latest events ≡ told.out.records
latest_at [] told at = absurd (cc)
latest_at (first ∷ rest) told at =
    let e : suc (length rest) - 1 ≡ length rest = omega arith in
    last_at first rest told (subst (λ (n : ℕ). slice_get (first ∷ rest) n ≡ Some told) e at)

-- the telegrams among records of a node, by its place or by its configuration
sends_same : (home : Home) (setup : NodeSetup) → IsOwnHome home setup → (records : List Content)
    → sends_from home records ≡ sends_of setup records
sends_same home setup is [] = refl
sends_same home setup is (Answers answer ∷ records) = sends_same home setup is records
sends_same home setup is (Indicates indication ∷ records) = sends_same home setup is records
sends_same home setup is (Sends protocol to bytes ∷ records) =
    both (place_at protocol home) (place_of protocol setup) (sends_from home records)
    (sends_of setup records) (is protocol) (sends_same home setup is records)
  where
    both : (p q : Place) (xs ys : List Sent) → p ≡ q → xs ≡ ys
        → (let x : Sent = record { protocol = protocol; bytes = bytes; from = p; to = to } in x)
        ∷ xs
        ≡ (let y : Sent = record { protocol = protocol; bytes = bytes; from = q; to = to } in y)
        ∷ ys
    both p q xs ys pq xy = cc

-- what a node sends at an event, of its records
pub slots_sent : (home : Home) (setup : NodeSetup) (globals : Globals) (event : EventModel)
    (records : List RecordModel) → IsOwnHome home setup → (s : ℕ) (slots : List SlotState)
    → ((j : ℕ) (slot : SlotState) → slice_get slots j ≡ Some slot
    → records_of (s + j) records ≡ (plain_effect setup (s + j) slot globals event).records)
    → sent_in_slots home records s (length slots) ≡ sent_by setup globals event s slots
slots_sent home setup globals event records is s [] each = refl
slots_sent home setup globals event records is s (x ∷ slots) each =
    let e : s + zero ≡ s = omega arith in
    let first : records_of s records ≡ (plain_effect setup s x globals event).records =
    subst (λ (i : ℕ). records_of i records ≡ (plain_effect setup i x globals event).records) e
    (each zero x refl) in
    let head : sent_in_slot home s records
    ≡ sends_of setup (plain_effect setup s x globals event).records =
    ap (sends_from home) first
    ∙ sends_same home setup is (plain_effect setup s x globals event).records in
    let rest : sent_in_slots home records (suc s) (length slots)
    ≡ sent_by setup globals event (suc s) slots =
    slots_sent home setup globals event records is (suc s) slots later in
    ap (λ (xs : List Sent). xs ++ sent_in_slots home records (suc s) (length slots)) head
    ∙ ap (λ (xs : List Sent).
    sends_of setup (plain_effect setup s x globals event).records ++ xs) rest
  where
    later : (j : ℕ) (slot : SlotState) → slice_get slots j ≡ Some slot
        → records_of (suc s + j) records
        ≡ (plain_effect setup (suc s + j) slot globals event).records
    later j slot at =
        let d : s + suc j ≡ suc s + j = omega arith in
        subst
        (λ (i : ℕ). records_of i records ≡ (plain_effect setup i slot globals event).records)
        d (each (suc j) slot at)

-- where nothing is left to look through, there is no telegram of the number
pub none_left : (events : List Told) (which i left : ℕ)
    → Remains (all_sent events) which (all_sent (drop i events)) left → length events ≤ i
    → slice_get (all_sent events) which ≡ None
none_left events which i left remains le =
    ap (λ (xs : List Sent). slice_get xs which) (sym (append-nil (all_sent events)))
    ∙ (remains []
    ∙ ap (λ (rest : List Told). slice_get (all_sent rest ++ []) left) (drop_all i events le))
