-- The end of an application is reported to no one.
-- For `an_end_tells_nobody`.
-- By induction on the slots: the one that is reset has an answer alone, and no control place.
use Rattle.std.proofs.Common.{◌≡◌, ◌∙◌, suc, ℕ, Bool, true, false, if◌then◌else◌, List, [], ◌∷◌}
use Rattle.std.proofs.Common.{◌++◌, Option, Some, None, refl, sym, ap, length}
use Rattle.std.specs.Prelude.{◌==◌, slice_set}
use Rattle.std.proofs.lemmas.Bool.{eqb-true}
use Rattle.trdp_filter.specs.declared.globals.Globals.{Globals}
use Rattle.trdp_model.specs.declared.fault.NodeFault.{NodeFault}
use Rattle.trdp_model.specs.Alone.{records_after, refused_as}
use Rattle.trdp_model.specs.Configs.{NodeSetup, setup_of}
use Rattle.trdp_model.specs.Events.{CallIs, ResetCall}
use Rattle.trdp_model.specs.NodeModels.{NodeModel}
use Rattle.trdp_model.specs.Records.{Content, Answers, DoneIs, RecordModel, labelled}
use Rattle.trdp_model.specs.Slots.{SlotState}
use Rattle.trdp_daemon.specs.declared.contact.Contact.{Contact}
use Rattle.trdp_wire.specs.declared.port.Port.{Port}
use Rattle.trdp_wire.specs.declared.port.Port.TheVariants.{Pd, Md, PdGroup, MdGroup}
use Rattle.trdp_wire.specs.declared.port.Port.TheVariants.{Operator, Control}
use Rattle.trdp_daemon.specs.Effects.{ServiceState, Loss, LineLost, EventLost, TextsLost, silence}
use Rattle.trdp_daemon.specs.Effects.{both, contact_of, content_telling, event_effect}
use Rattle.trdp_daemon.specs.Effects.{event_records, is_first_lost, later_marks, may_take_memory}
use Rattle.trdp_daemon.specs.Effects.{record_telling, records_telling, records_unless}
use Rattle.trdp_daemon.specs.Effects.{slots_records, text_telling}
use Rattle.trdp_daemon.specs.Leases.{end_effect, ended_effect}
use Rattle.trdp_daemon.proofs.SilenceLemmas.{none_there}

-- records that offer nothing, whether their texts are lost or not
abbrev AreSilent : List (Option Contact) → List RecordModel → Type 0
AreSilent contacts [] = Unit {0}
AreSilent contacts (r ∷ records) =
    ((lost : Bool) → record_telling contacts lost r ≡ silence) × AreSilent contacts records

all_silent : (contacts : List (Option Contact)) (marks : List Bool) (records : List RecordModel)
    → AreSilent contacts records → records_telling contacts marks records ≡ silence
all_silent contacts marks [] silent = refl
all_silent contacts marks (r ∷ records) silent =
    ap (λ t. both t (records_telling contacts (later_marks marks) records))
    (silent.0 (is_first_lost marks))
    ∙ ap (both silence) (all_silent contacts (later_marks marks) records silent.1)

both_silent : (contacts : List (Option Contact)) (xs ys : List RecordModel)
    → AreSilent contacts xs → AreSilent contacts ys → AreSilent contacts (xs ++ ys)
both_silent contacts [] ys first second = second
both_silent contacts (x ∷ xs) ys first second =
    (first.0, both_silent contacts xs ys first.1 second)

-- the answer of a slot that has no control place
answer_silent : (contacts : List (Option Contact)) (s : ℕ) (content : Content)
    → content ≡ Answers DoneIs → contact_of contacts s ≡ None
    → AreSilent contacts (labelled s (content ∷ []))
unfolding content_telling text_telling
answer_silent contacts s content is none = (λ lost. rw is (rw none refl), tt)

slot_silent : (contacts : List (Option Contact)) (setup : NodeSetup) (g : Globals) (t s : ℕ)
    (slot : SlotState) → contact_of contacts t ≡ None
    → AreSilent contacts (labelled s (records_after setup s slot g (CallIs t ResetCall)))
slot_silent contacts setup g t s slot none = by_test (t == s) refl
  where
    by_test : (here : Bool) → (t == s) ≡ here
        → AreSilent contacts (labelled s (if here then Answers DoneIs ∷ [] else []))
    by_test false is = tt
    by_test true is = answer_silent contacts s (Answers DoneIs) refl
        (ap (λ n. contact_of contacts n) (sym (eqb-true t s is)) ∙ none)

slots_silent : (contacts : List (Option Contact)) (setup : NodeSetup) (g : Globals) (t s : ℕ)
    (slots : List SlotState) → contact_of contacts t ≡ None
    → AreSilent contacts (slots_records setup g (CallIs t ResetCall) s slots)
slots_silent contacts setup g t s [] none = tt
slots_silent contacts setup g t s (slot ∷ slots) none =
    both_silent contacts
    (labelled s (records_after setup s slot g (CallIs t ResetCall)))
    (slots_records setup g (CallIs t ResetCall) (suc s) slots)
    (slot_silent contacts setup g t s slot none)
    (slots_silent contacts setup g t (suc s) slots none)

unless_silent : (contacts : List (Option Contact)) (fault : Option NodeFault) (node : NodeModel)
    (t : ℕ) → contact_of contacts t ≡ None
    → AreSilent contacts (records_unless fault node (CallIs t ResetCall))
unless_silent contacts (Some fault) node t none = tt
unless_silent contacts None node t none =
    both_silent contacts
    (slots_records (setup_of node.config) node.globals (CallIs t ResetCall) 0 node.slots) []
    (slots_silent contacts (setup_of node.config) node.globals t 0 node.slots none) tt

-- the reset of a slot whose application has ended
end_silent : (s : ServiceState) (slot : ℕ) (loss : Loss)
    → (end_effect s slot loss).telling ≡ silence
unfolding event_effect may_take_memory
end_silent s slot loss = by_loss loss
  where
    contacts : List (Option Contact)
    contacts = slice_set s.contacts slot None

    quiet : AreSilent contacts (event_records s.node (CallIs slot ResetCall))
    quiet = unless_silent contacts
        (refused_as (length s.node.slots) s.node.globals (CallIs slot ResetCall)) s.node slot
        (none_there s.contacts slot)

    by_loss : (loss : Loss) → (end_effect s slot loss).telling ≡ silence
    by_loss LineLost = all_silent contacts [] (event_records s.node (CallIs slot ResetCall)) quiet
    by_loss EventLost = all_silent contacts [] (event_records s.node (CallIs slot ResetCall)) quiet
    by_loss (TextsLost marks) =
        all_silent contacts marks (event_records s.node (CallIs slot ResetCall)) quiet

pub ended_silent : (s : ServiceState) (port : Port) (loss : Loss)
    → (ended_effect s port loss).telling ≡ silence
unfolding ended_effect
ended_silent s Pd loss = refl
ended_silent s Md loss = refl
ended_silent s (PdGroup group) loss = refl
ended_silent s (MdGroup group) loss = refl
ended_silent s Operator loss = refl
ended_silent s (Control slot) loss = end_silent s slot loss
