-- A slot that is opened after the others: what is at each number then, and what it gets.
-- For the steps and the run of a node that open a slot, in the crates above.
-- By cases on the number: before the new slot, its own, or past it.
use Rattle.std.proofs.Common.{zero, suc, ◌≡◌, ℕ, ◌<◌, ◌+◌, List, [], ◌∷◌, ◌++◌, length, refl, ◌∙◌}
use Rattle.std.proofs.Common.{ap, sym, arith, Some, None, Option, Bool, true, false, ◌≤◌}
use Rattle.std.proofs.Common.{Result, Ok, Err, OnOk, OnErr}
use Rattle.std.specs.Prelude.{slice_get, ◌==◌, nat_lt, nat_le, if◌then◌else◌}
use Rattle.std.proofs.lemmas.Option.{slice_get_within}
use Rattle.std.proofs.lemmas.Bool.Decides.{nat_tests}
use Rattle.std.proofs.lemmas.List.{append-nil}
use Rattle.trdp_filter.specs.declared.globals.Globals.{Globals}
use Rattle.trdp_model.specs.Slots.{slot_limit}
use Rattle.trdp_model.specs.Configs.{NodeSetup, setup_of}
use Rattle.trdp_model.specs.Records.{Answers, Content, OpenedIs, RecordModel, labelled, records_of}
use Rattle.trdp_model.specs.Events.{EventModel, MomentIs, TopologyIs, RoleIs, DatagramIs}
use Rattle.trdp_model.specs.Events.{CallIs, AddSlotIs}
use Rattle.trdp_model.specs.Slots.{SlotState, empty_slot}
use Rattle.trdp_model.specs.Fitting.{EachFits}
use Rattle.trdp_model.specs.Alone.{refused_as, Standing, standing_after, opened_by}
use Rattle.trdp_model.specs.Alone.{told_opening, slots_then, FaultIs}
use Rattle.trdp_model.specs.declared.fault.NodeFault.{NodeFault}
use Rattle.trdp_model.specs.declared.fault.NodeFault.TheVariants.{SlotsFull}
use Rattle.trdp_model.specs.NodeModels.{NodeModel}
use Rattle.trdp_model.specs.NodeModels.{StepsAsAlone, Appends}
use Rattle.trdp_model.proofs.ViewLemmas.{standing_none}
use Rattle.trdp_model.proofs.StepLemmas.{appends_none}
use Rattle.trdp_model.proofs.SweepLemmas.{records_of-append, records_of-labelled, records_of-other}

-- a slot that was there stays
added_before : (slots : List SlotState) (added slot : SlotState) (s : ℕ)
    → slice_get slots s ≡ Some slot → slice_get (slots ++ added ∷ []) s ≡ Some slot
added_before [] added slot s found = absurd (cc)
added_before (x ∷ slots) added slot zero found = found
added_before (x ∷ slots) added slot (suc s) found = added_before slots added slot s found

-- the next number has the slot
added_there : (slots : List SlotState) (added : SlotState)
    → slice_get (slots ++ added ∷ []) (length slots) ≡ Some added
added_there [] added = refl
added_there (x ∷ slots) added = added_there slots added

-- any further number has none
added_past : (slots : List SlotState) (added : SlotState) (s : ℕ)
    → slice_get slots s ≡ None → (s == length slots) ≡ false
    → slice_get (slots ++ added ∷ []) s ≡ None
added_past [] added zero none other = absurd (grind (arith, nat_tests))
added_past [] added (suc s) none other = refl
added_past (x ∷ slots) added zero none other = absurd (cc)
added_past (x ∷ slots) added (suc s) none other =
    let fewer : (s == length slots) ≡ false = grind (arith, nat_tests) in
    added_past slots added s none fewer

-- one slot more
pub one_more : (slots : List SlotState) (added : SlotState)
    → length (slots ++ added ∷ []) ≡ length slots + 1
one_more [] added = refl
one_more (x ∷ slots) added = omega (arith, one_more slots added)

-- the record is got at that number alone
told_other : (records : List RecordModel) (n s : ℕ) (contents : List Content)
    → (n == s) ≡ false → records_of s (records ++ labelled n contents) ≡ records_of s records
told_other records n s contents other = records_of-append s records (labelled n contents)
    ∙ ap (λ (cs : List Content). records_of s records ++ cs) (records_of-other s n contents other)
    ∙ append-nil (records_of s records)

told_there : (records : List RecordModel) (n : ℕ) (contents : List Content)
    → records_of n (records ++ labelled n contents) ≡ records_of n records ++ contents
told_there records n contents = records_of-append n records (labelled n contents)
    ∙ ap (λ (cs : List Content). records_of n records ++ cs) (records_of-labelled n contents)

-- the opening is as each number sees it
pub opening_alone : (old new : NodeModel) (records records_then : List RecordModel)
    (quotas : List ℕ) → length old.slots < slot_limit
    → new.slots ≡ old.slots ++ empty_slot quotas ∷ []
    → records_then ≡ records ++ labelled (length old.slots) (Answers OpenedIs ∷ [])
    → (s : ℕ) → StepsAsAlone old new records records_then (AddSlotIs quotas) s
opening_alone old new records records_then quotas few opened told s =
    from (slice_get old.slots s) refl
  where
    n : ℕ
    n = length old.slots

    stands : Option SlotState → Standing
    stands there =
        standing_after (setup_of old.config) s n there old.globals (AddSlotIs quotas)

    by : (there : Option SlotState) → slice_get old.slots s ≡ there
        → slice_get new.slots s ≡ (stands there).slot
        → records_of s records_then ≡ records_of s records ++ (stands there).records
        → StepsAsAlone old new records records_then (AddSlotIs quotas) s
    by there found slot own = record { slot_is = rw found slot; records_are = rw found own }

    other : (n == s) ≡ false → records_of s records_then ≡ records_of s records ++ []
    other differ = ap (records_of s) told
        ∙ told_other records n s (Answers OpenedIs ∷ []) differ
        ∙ sym (append-nil (records_of s records))

    next : (is : s ≡ n) → slice_get old.slots s ≡ None
        → StepsAsAlone old new records records_then (AddSlotIs quotas) s
    next is found =
        let here : (s == n) ≡ true = grind (arith, nat_tests) in
        let room : nat_lt n slot_limit ≡ true = grind (arith, nat_tests) in
        by None found
        (rw (here, room) (ap (λ (l : List SlotState). slice_get l s) opened
        ∙ ap (slice_get (old.slots ++ empty_slot quotas ∷ [])) is
        ∙ added_there old.slots (empty_slot quotas)))
        (rw (here, room) (ap (records_of s) told
        ∙ rw is (told_there records n (Answers OpenedIs ∷ []))))

    further : (s == n) ≡ false → slice_get old.slots s ≡ None
        → StepsAsAlone old new records records_then (AddSlotIs quotas) s
    further differ found =
        let apart : (n == s) ≡ false = grind (arith, nat_tests) in
        by None found
        (rw differ (ap (λ (l : List SlotState). slice_get l s) opened
        ∙ added_past old.slots (empty_slot quotas) s found differ))
        (rw differ (other apart))

    none : (same : Bool) → (s == n) ≡ same → slice_get old.slots s ≡ None
        → StepsAsAlone old new records records_then (AddSlotIs quotas) s
    none true is found = next (grind (arith, nat_tests)) found
    none false is found = further is found

    from : (there : Option SlotState) → slice_get old.slots s ≡ there
        → StepsAsAlone old new records records_then (AddSlotIs quotas) s
    from None found = none (s == n) refl found
    from (Some slot) found =
        let within : s < n = slice_get_within old.slots s slot found in
        let apart : (n == s) ≡ false = grind (arith, nat_tests) in
        by (Some slot) found
        (ap (λ (l : List SlotState). slice_get l s) opened
        ∙ added_before old.slots (empty_slot quotas) slot s found)
        (other apart)

-- the record is added after those of before, and none for a number that has no slot then
pub opening_appends : (slots : List SlotState) (added : SlotState) (contents : List Content)
    (records : List RecordModel) → Appends (slots ++ added ∷ []) records
    (records ++ labelled (length slots) contents)
opening_appends slots added contents records = record {
  more = labelled (length slots) contents;
  front = refl;
  none_else = λ s none. from s (length slots == s) refl none;
}
  where
    from : (s : ℕ) (same : Bool) → (length slots == s) ≡ same
        → slice_get (slots ++ added ∷ []) s ≡ None
        → records_of s (records ++ labelled (length slots) contents) ≡ records_of s records
    from s false is none = told_other records (length slots) s contents is
    from s true is none =
        let same : s ≡ length slots = grind (arith, nat_tests) in
        let there : slice_get (slots ++ added ∷ []) s ≡ Some added =
        ap (slice_get (slots ++ added ∷ [])) same ∙ added_there slots added in
        absurd (cc)

-- an empty slot holds nothing that is unfit
pub opening_fits : (setup : NodeSetup) (slots : List SlotState) (quotas : List ℕ)
    → EachFits setup slots → EachFits setup (slots ++ empty_slot quotas ∷ [])
opening_fits setup [] quotas fits zero slot is =
    let empty : empty_slot quotas ≡ slot = cc in rw (← empty) tt
opening_fits setup [] quotas fits (suc s) slot is = absurd (cc)
opening_fits setup (x ∷ slots) quotas fits zero slot is = fits zero slot is
opening_fits setup (x ∷ slots) quotas fits (suc s) slot is =
    opening_fits setup slots quotas (λ r other at. fits (suc r) other at) s slot is

-- Lists that have the same at each place are the same.
pub lists_same : (xs ys : List SlotState) → ((i : ℕ) → slice_get xs i ≡ slice_get ys i) → xs ≡ ys
lists_same [] [] each = refl
lists_same [] (y ∷ ys) each = let none = each 0 in absurd (cc)
lists_same (x ∷ xs) [] each = let none = each 0 in absurd (cc)
lists_same (x ∷ xs) (y ∷ ys) each =
    let first : Some x ≡ Some y = each 0 in
    let same : x ≡ y = cc in
    ap (λ z. z ∷ xs) same ∙ ap (λ zs. y ∷ zs) (lists_same xs ys (λ i. each (suc i)))

-- what is past the last slot after an admitted event: the slot that it opens
pub opened_at : (setup : NodeSetup) (n : ℕ) (globals : Globals) (event : EventModel)
    → refused_as n globals event ≡ None → (i : ℕ)
    → slice_get (opened_by event) i ≡ (standing_after setup (n + i) n None globals event).slot
opened_at setup n globals (MomentIs t) admitted i =
    rw (standing_none setup (n + i) n globals (MomentIs t) refl) refl
opened_at setup n globals (TopologyIs topo) admitted i = refl
opened_at setup n globals (RoleIs group leader) admitted i =
    rw (standing_none setup (n + i) n globals (RoleIs group leader) refl) refl
opened_at setup n globals (DatagramIs protocol src dst bytes) admitted i = refl
opened_at setup n globals (CallIs r call) admitted i = refl
opened_at setup n globals (AddSlotIs quotas) admitted zero =
    let here : (n + 0 == n) ≡ true = grind (arith, nat_tests) in
    let room : nat_lt n slot_limit ≡ true = grind (arith, nat_tests) in
    rw (here, room) refl
opened_at setup n globals (AddSlotIs quotas) admitted (suc i) =
    let past : (n + suc i == n) ≡ false = grind (arith, nat_tests) in
    rw past refl

-- one way or the other nothing
none_either : (b : Bool) → (let none : List Content = [] in if b then none else none) ≡ []
none_either true = refl
none_either false = refl

-- and what a number without a slot gets of it
pub told_opened : (setup : NodeSetup) (s n : ℕ) (globals : Globals) (event : EventModel)
    → refused_as n globals event ≡ None
    → (standing_after setup s n None globals event).records
    ≡ (if s == n then told_opening event else [])
told_opened setup s n globals (MomentIs t) admitted =
    rw (standing_none setup s n globals (MomentIs t) refl) (sym (none_either (s == n)))
told_opened setup s n globals (TopologyIs topo) admitted = sym (none_either (s == n))
told_opened setup s n globals (RoleIs group leader) admitted =
    rw (standing_none setup s n globals (RoleIs group leader) refl) (sym (none_either (s == n)))
told_opened setup s n globals (DatagramIs protocol src dst bytes) admitted =
    sym (none_either (s == n))
told_opened setup s n globals (CallIs r call) admitted = sym (none_either (s == n))
told_opened setup s n globals (AddSlotIs quotas) admitted = added (s == n) refl
  where
    added : (b : Bool) → (s == n) ≡ b
        → (standing_after setup s n None globals (AddSlotIs quotas)).records
        ≡ (if s == n then Answers OpenedIs ∷ [] else [])
    added false is = rw is refl
    added true is =
        let room : nat_lt n slot_limit ≡ true = grind (arith, nat_tests) in rw (is, room) refl

-- What a step says that opens a slot, or doesn't.

-- it was accepted only where there was room for a slot more
room_left : (n : ℕ) (globals : Globals) (quotas : List ℕ)
    → FaultIs (refused_as n globals (AddSlotIs quotas)) (Ok tt) → n < slot_limit
room_left n globals quotas answer = by (nat_le slot_limit n) refl answer
  where
    by : (full : Bool) → nat_le slot_limit n ≡ full
        → FaultIs (if full then Some SlotsFull else None) (Ok tt) → n < slot_limit
    by true is answer = absurd answer
    by false is answer = grind (arith, nat_tests)

pub added_alone : (old new : NodeModel) (records records_then : List RecordModel)
    (quotas : List ℕ) (result : Result (Unit {0}) NodeFault)
    → FaultIs (refused_as (length old.slots) old.globals (AddSlotIs quotas)) result
    → OnOk result (new.slots ≡ old.slots ++ empty_slot quotas ∷ [])
    → OnOk result (records_then
    ≡ records ++ labelled (length old.slots) (Answers OpenedIs ∷ []))
    → OnOk result ((s : ℕ) → StepsAsAlone old new records records_then (AddSlotIs quotas) s)
added_alone old new records records_then quotas (Err fault) answer opened told = tt
added_alone old new records records_then quotas (Ok done) answer opened told =
    opening_alone old new records records_then quotas
    (room_left (length old.slots) old.globals quotas answer) opened told

pub added_count : (old new : NodeModel) (quotas : List ℕ) (result : Result (Unit {0}) NodeFault)
    → FaultIs (refused_as (length old.slots) old.globals (AddSlotIs quotas)) result
    → OnOk result (new.slots ≡ old.slots ++ empty_slot quotas ∷ [])
    → OnOk result (length new.slots ≡ slots_then (length old.slots) (AddSlotIs quotas))
added_count old new quotas (Err fault) answer opened = tt
added_count old new quotas (Ok done) answer opened =
    let few = room_left (length old.slots) old.globals quotas answer in
    let room : nat_lt (length old.slots) slot_limit ≡ true = grind (arith, nat_tests) in
    rw room (ap length opened ∙ one_more old.slots (empty_slot quotas))

pub added_appends : (old new : NodeModel) (records records_then : List RecordModel)
    (quotas : List ℕ) (result : Result (Unit {0}) NodeFault)
    → OnErr result (records_then ≡ records)
    → OnOk result (new.slots ≡ old.slots ++ empty_slot quotas ∷ [])
    → OnOk result (records_then
    ≡ records ++ labelled (length old.slots) (Answers OpenedIs ∷ []))
    → Appends new.slots records records_then
added_appends old new records records_then quotas (Err fault) unrecorded opened told =
    appends_none new.slots records records_then unrecorded
added_appends old new records records_then quotas (Ok done) unrecorded opened told =
    rw (opened, told)
    (opening_appends old.slots (empty_slot quotas) (Answers OpenedIs ∷ []) records)

-- the slots never get fewer
pub slots_grow : (n : ℕ) (event : EventModel) → n ≤ slots_then n event
slots_grow n (MomentIs t) = omega arith
slots_grow n (TopologyIs topo) = omega arith
slots_grow n (RoleIs group leader) = omega arith
slots_grow n (DatagramIs protocol src dst bytes) = omega arith
slots_grow n (CallIs r call) = omega arith
slots_grow n (AddSlotIs quotas) = by (nat_lt n slot_limit)
  where
    by : (b : Bool) → n ≤ (if b then n + 1 else n)
    by true = omega arith
    by false = omega arith
