-- One slot in one move.
-- For the five promises of `laws`, through `EffectLemmas` and `CallEffectLemmas`.
-- By induction on the entries: each act keeps its own entry, and what it reports is explained.
use Rattle.std.proofs.Common.{◌≡◌, ℕ, List, [], ◌∷◌, Option, Some}
use Rattle.std.proofs.Common.{None, Bool, true, false, refl, subst, arith, inl, inr}
use Rattle.std.proofs.Common.{slice_get, filter}
use Rattle.std.specs.Prelude.{cond, find, ◌==◌, if◌then◌else◌}
use Rattle.std.specs.Prelude.{◌⊎◌}
use Rattle.std.specs.List.{flat_map}
use Rattle.std.proofs.lemmas.Bool.Decides.{nat_tests}
use Rattle.trdp_filter.specs.declared.globals.Globals.{Globals}
use Rattle.trdp_filter.specs.Telegrams.{TelegramModel}
use Rattle.trdp_model.specs.declared.any_object.AnyObject.{AnyObject}
use Rattle.trdp_model.specs.declared.fault.Refusal.{Refusal}
use Rattle.trdp_model.specs.declared.fault.Refusal.TheVariants as refusals
use Rattle.trdp_model.specs.Configs.{NodeSetup}
use Rattle.trdp_model.specs.Records.{Content, HandleIs}
use Rattle.trdp_model.specs.Records.{Answers}
use Rattle.trdp_model.specs.Acts.{Act, entry_left, left_at}
use Rattle.trdp_model.specs.Slots.{Entry, SlotState, Outcome, unchanged, entry_under}
use Rattle.trdp_model.specs.Openings.{refused, opened_with}
use Rattle.trdp_model.specs.Moments.{is_due, fires_before, inserted, in_order, firing_act}
use Rattle.trdp_model.specs.Moments.{moved_to}
use Rattle.trdp_model.specs.Datagrams.{is_acting, acting}
use Rattle.trdp_model.specs.Datagrams.{taking_act, handed}
use Rattle.trdp_model.specs.Calls.{at_entry, at_object}
use Rattle.trdp_model.specs.Events.{MomentIs}
use Rattle.trdp_net.specs.Networks.{Move}
use Rattle.trdp_net.specs.Provenance.{In, Gives, Held}
use Rattle.trdp_net.proofs.PartLemmas.{each_append, each_map, each_in, in_flat_map, each_flat_map}
use Rattle.trdp_net.proofs.PartLemmas.{in_filter, filter_in}
use Rattle.trdp_net.proofs.Kept.{ObjectKept, EntryKept, object_later, StaysKept, ActKept}
use Rattle.trdp_net.proofs.ObjectLemmas.{fires_kept, TelegramBy, takes_kept}
use Rattle.trdp_net.proofs.Explained.{spot, ToldBy}
use Rattle.trdp_net.proofs.TypedMoveLemmas.{IsTypedObject, IsTypedEntry}
use Rattle.trdp_net.specs.Provenance.{Each}

-- what slot s of the node has after the move, and what is reported to it
pub record OutcomeKept (past : List Move) (m : Move) (s : ℕ) (outcome : Outcome) : Type 0 where
  pub objects : Each (EntryKept (m ∷ past) m.before.setup m.node s) outcome.slot.objects
  pub tells : Each (ToldBy past m m.node s) outcome.records

-- each record of the slot at this move is one of these
abbrev pub AreGiven : Move → ℕ → List Content → Type 0
AreGiven m s records = (content : Content) → In content records → Gives m.node s content m

-- what was known of the entries is known later
pub entries_later : (past : List Move) (m : Move) (setup : NodeSetup) (k s : ℕ) (es : List Entry)
    → Each (EntryKept past setup k s) es → Each (EntryKept (m ∷ past) setup k s) es
entries_later past m setup k s es h =
    each_map (EntryKept past setup k s) (EntryKept (m ∷ past) setup k s) es
    (λ e kept. object_later past m setup (spot k s e.handle) e.object kept) h

-- a slot that an event leaves as it is
pub unchanged_kept : (past : List Move) (m : Move) (s : ℕ) (slot : SlotState)
    → Each (EntryKept past m.before.setup m.node s) slot.objects
    → OutcomeKept past m s (unchanged slot)
unchanged_kept past m s slot h =
    record { objects = entries_later past m m.before.setup m.node s slot.objects h; tells = tt }

-- a slot that refuses a call
pub refused_kept : (past : List Move) (m : Move) (s : ℕ) (slot : SlotState) (refusal : Refusal)
    → Each (EntryKept past m.before.setup m.node s) slot.objects
    → OutcomeKept past m s (refused slot refusal)
refused_kept past m s slot refusal h = record {
  objects = entries_later past m m.before.setup m.node s slot.objects h;
  tells = (tt, tt);
}

-- an entry that stays or is removed
left_kept : (past : List Move) (setup : NodeSetup) (k s : ℕ) (e : Entry) (left : Option AnyObject)
    → StaysKept past setup (spot k s e.handle) left
    → Each (EntryKept past setup k s) (entry_left e left)
left_kept past setup k s e None stays = tt
left_kept past setup k s e (Some x) stays = (stays, tt)

-- an entry of the slot is held
held_in : (m : Move) (s : ℕ) (slot : SlotState) (e : Entry)
    → slice_get m.before.slots s ≡ Some slot → In e slot.objects
    → Held (spot m.node s e.handle) e.object m
held_in m s slot e slot_is is =
    record { slot = slot; slot_is = slot_is; held = is }

-- several objects act, each by its own rule, and are heard in some order
acting_kept : (past : List Move) (m : Move) (s : ℕ) (slot : SlotState) (test : Entry → Bool)
    (act : Entry → Act) (order : List Entry)
    → slice_get m.before.slots s ≡ Some slot → Each IsTypedEntry slot.objects
    → Each (EntryKept past m.before.setup m.node s) slot.objects
    → ((e : Entry) → In e order → In e slot.objects)
    → ((e : Entry) → In e slot.objects → test e ≡ true → In e order)
    → ((e : Entry) → IsTypedObject e.object
    → ObjectKept past m.before.setup (spot m.node s e.handle) e.object
    → Held (spot m.node s e.handle) e.object m → AreGiven m s (act e).records
    → ActKept past m (spot m.node s e.handle) (act e))
    → AreGiven m s (flat_map (λ e. (act e).records) order)
    → OutcomeKept past m s (record {
      slot = record slot {
        objects = flat_map (λ e. if test e then entry_left e (act e).left else e ∷ [])
            slot.objects;
      };
      records = flat_map (λ e. (act e).records) order;
    })
acting_kept past m s slot test act order slot_is typed kept out into rule given = record {
  objects =
      each_flat_map (EntryKept (m ∷ past) m.before.setup m.node s)
      (λ e. if test e then entry_left e (act e).left else e ∷ []) slot.objects
      (λ e is. stays e is (test e) refl);
  tells =
      each_flat_map (ToldBy past m m.node s) (λ e. (act e).records) order
      (λ e is. (one e (out e is) is).tells);
}
  where
    one : (e : Entry) → In e slot.objects → In e order
        → ActKept past m (spot m.node s e.handle) (act e)
    one e is there =
        rule e (each_in IsTypedEntry slot.objects e typed is)
        (each_in (EntryKept past m.before.setup m.node s) slot.objects e kept is)
        (held_in m s slot e slot_is is)
        (λ content given_by. given content (in_flat_map (λ f. (act f).records) order e content
        there given_by))

    stays : (e : Entry) → In e slot.objects → (b : Bool) → test e ≡ b
        → Each (EntryKept (m ∷ past) m.before.setup m.node s)
        (if b then entry_left e (act e).left else e ∷ [])
    stays e is true acts =
        left_kept (m ∷ past) m.before.setup m.node s e (act e).left
        (one e is (into e is acts)).stays
    stays e is false acts = (
      object_later past m m.before.setup (spot m.node s e.handle) e.object
          (each_in (EntryKept past m.before.setup m.node s) slot.objects e kept is),
      tt,
    )

-- the order of firing has the same objects
in_inserted : (e f : Entry) (es : List Entry) → In f (inserted e es) → (e ≡ f) ⊎ In f es
in_inserted e f [] is = is
in_inserted e f (g ∷ es) is = here (fires_before g e) is (λ later. in_inserted e f es later)
  where
    here : (b : Bool) → In f (if b then g ∷ inserted e es else e ∷ g ∷ es)
        → (In f (inserted e es) → (e ≡ f) ⊎ In f es) → (e ≡ f) ⊎ In f (g ∷ es)
    here true (inl same) later = inr (inl same)
    here true (inr is) later = elim (later is) [ inl same ↦ inl same | inr is ↦ inr (inr is) ]
    here false is later = is

inserted_in : (e f : Entry) (es : List Entry) → (e ≡ f) ⊎ In f es → In f (inserted e es)
inserted_in e f [] is = is
inserted_in e f (g ∷ es) is = here (fires_before g e) is (λ later. inserted_in e f es later)
  where
    here : (b : Bool) → (e ≡ f) ⊎ In f (g ∷ es)
        → ((e ≡ f) ⊎ In f es → In f (inserted e es))
        → In f (if b then g ∷ inserted e es else e ∷ g ∷ es)
    here true (inl same) later = inr (later (inl same))
    here true (inr (inl same)) later = inl same
    here true (inr (inr is)) later = inr (later (inr is))
    here false is later = is

-- an entry in firing order is an entry
pub order_in : (f : Entry) (es : List Entry) → In f (in_order es) → In f es
order_in f [] is = is
order_in f (e ∷ es) is =
    elim (in_inserted e f (in_order es) is)
    [ inl same ↦ inl same | inr later ↦ inr (order_in f es later) ]

in_its_order : (f : Entry) (es : List Entry) → In f es → In f (in_order es)
in_its_order f [] is = is
in_its_order f (e ∷ es) (inl same) = inserted_in e f (in_order es) (inl same)
in_its_order f (e ∷ es) (inr is) = inserted_in e f (in_order es) (inr (in_its_order f es is))

-- at a moment
pub moved_kept : (past : List Move) (m : Move) (s : ℕ) (slot : SlotState) (t : ℕ)
    (globals : Globals) → m.event ≡ MomentIs t
    → slice_get m.before.slots s ≡ Some slot → Each IsTypedEntry slot.objects
    → Each (EntryKept past m.before.setup m.node s) slot.objects
    → AreGiven m s (moved_to slot globals).records → OutcomeKept past m s (moved_to slot globals)
moved_kept past m s slot t globals event slot_is typed kept given =
    acting_kept past m s slot (is_due globals.now) (firing_act globals)
    (in_order (filter (is_due globals.now) slot.objects)) slot_is typed kept
    (λ e is. filter_in (is_due globals.now) slot.objects e
    (order_in e (filter (is_due globals.now) slot.objects) is))
    (λ e is due. in_its_order e (filter (is_due globals.now) slot.objects)
    (in_filter (is_due globals.now) slot.objects e is due))
    (λ e fits was held by. fires_kept past m (spot m.node s e.handle) t globals e.object event fits
    was held) given

-- at a telegram that is no request
pub handed_kept : (past : List Move) (m : Move) (s : ℕ) (slot : SlotState) (setup : NodeSetup)
    (globals : Globals) (telegram : TelegramModel) → TelegramBy past m telegram
    → slice_get m.before.slots s ≡ Some slot → Each IsTypedEntry slot.objects
    → Each (EntryKept past m.before.setup m.node s) slot.objects
    → AreGiven m s (handed setup slot globals telegram).records
    → OutcomeKept past m s (handed setup slot globals telegram)
handed_kept past m s slot setup globals telegram origin slot_is typed kept given =
    acting_kept past m s slot (is_acting telegram globals slot.objects)
    (taking_act setup telegram globals) (acting telegram globals slot.objects) slot_is typed kept
    (λ e is. filter_in (is_acting telegram globals slot.objects) slot.objects e is)
    (λ e is acts. in_filter (is_acting telegram globals slot.objects) slot.objects e is acts)
    (λ e fits was held by. takes_kept past m (spot m.node s e.handle) setup telegram globals
    e.object origin fits was held by) given

-- a new object, or a refusal
pub opened_kept : (past : List Move) (m : Move) (s : ℕ) (slot : SlotState)
    (refusal : Option Refusal) (object : AnyObject) (records : List Content)
    → Each (EntryKept past m.before.setup m.node s) slot.objects
    → (refusal ≡ None → Gives m.node s (Answers (HandleIs slot.next)) m
    → ObjectKept (m ∷ past) m.before.setup (spot m.node s slot.next) object)
    → (refusal ≡ None → Gives m.node s (Answers (HandleIs slot.next)) m
    → Each (ToldBy past m m.node s) records)
    → AreGiven m s (opened_with refusal slot object records).records
    → OutcomeKept past m s (opened_with refusal slot object records)
opened_kept past m s slot (Some refusal) object records kept new tells given =
    refused_kept past m s slot refusal kept
opened_kept past m s slot None object records kept new tells given =
    let handle : Gives m.node s (Answers (HandleIs slot.next)) m =
    given (Answers (HandleIs slot.next)) (inl refl) in
    record {
      objects =
          each_append (EntryKept (m ∷ past) m.before.setup m.node s) slot.objects
          (record { handle = slot.next; object = object } ∷ [])
          (entries_later past m m.before.setup m.node s slot.objects kept) (new refl handle, tt);
      tells = (tt, tells refl handle);
    }

-- the object of a handle
pub find_in : (handle : ℕ) (es : List Entry) (e : Entry) → entry_under handle es ≡ Some e
    → In e es × (e.handle ≡ handle)
find_in handle [] e is = absurd (cc)
find_in handle (f ∷ es) e is =
    here (f.handle == handle) refl is (λ later. find_in handle es e later)
  where
    here : (b : Bool) → (f.handle == handle) ≡ b
        → cond b (Some f) (find (λ entry. entry.handle == handle) es) ≡ Some e
        → (entry_under handle es ≡ Some e → In e es × (e.handle ≡ handle))
        → In e (f ∷ es) × (e.handle ≡ handle)
    here true test found later =
        let same : f ≡ e = cc found in
        let there : f.handle ≡ handle = grind (arith, nat_tests) in
        (inl same, subst (λ (x : Entry). x.handle ≡ handle) same there)
    here false test found later = let rest = later found in (inr rest.0, rest.1)

-- one object acts by its handle
pub at_handle_kept : (past : List Move) (m : Move) (s : ℕ) (slot : SlotState) (handle : ℕ)
    (act : AnyObject → Act) → slice_get m.before.slots s ≡ Some slot
    → Each IsTypedEntry slot.objects
    → Each (EntryKept past m.before.setup m.node s) slot.objects
    → ((x : AnyObject) → IsTypedObject x → ObjectKept past m.before.setup (spot m.node s handle) x
    → Held (spot m.node s handle) x m → AreGiven m s (act x).records
    → ActKept past m (spot m.node s handle) (act x))
    → AreGiven m s (at_object slot handle act).records
    → OutcomeKept past m s (at_object slot handle act)
at_handle_kept past m s slot handle act slot_is typed kept rule given =
    found (entry_under handle slot.objects) refl given
  where
    found : (o : Option Entry) → entry_under handle slot.objects ≡ o
        → AreGiven m s (at_entry o slot handle act).records
        → OutcomeKept past m s (at_entry o slot handle act)
    found None is by = refused_kept past m s slot refusals.NoHandle kept
    found (Some e) is by =
        let there = find_in handle slot.objects e is in
        let one : ActKept past m (spot m.node s handle) (act e.object) =
        rule e.object (each_in IsTypedEntry slot.objects e typed there.0)
        (subst (λ (h : ℕ). ObjectKept past m.before.setup (spot m.node s h) e.object) there.1
        (each_in (EntryKept past m.before.setup m.node s) slot.objects e kept there.0))
        (subst (λ (h : ℕ). Held (spot m.node s h) e.object m) there.1
        (held_in m s slot e slot_is there.0)) by in
        record {
          objects =
              each_flat_map (EntryKept (m ∷ past) m.before.setup m.node s)
              (left_at handle (act e.object).left) slot.objects
              (λ f is_f. stays (act e.object).left one.stays f is_f (f.handle == handle) refl);
          tells = one.tells;
        }
      where
        stays : (left : Option AnyObject)
            → StaysKept (m ∷ past) m.before.setup (spot m.node s handle) left
            → (f : Entry) → In f slot.objects → (b : Bool) → (f.handle == handle) ≡ b
            → Each (EntryKept (m ∷ past) m.before.setup m.node s)
            (if b then entry_left f left else f ∷ [])
        stays left kept_left f is_f true test =
            let same : handle ≡ f.handle = grind (arith, nat_tests) in
            left_kept (m ∷ past) m.before.setup m.node s f left
            (subst (λ (h : ℕ). StaysKept (m ∷ past) m.before.setup (spot m.node s h) left) same
            kept_left)
        stays left kept_left f is_f false test = (
          object_later past m m.before.setup (spot m.node s f.handle) f.object
              (each_in (EntryKept past m.before.setup m.node s) slot.objects f kept is_f),
          tt,
        )
