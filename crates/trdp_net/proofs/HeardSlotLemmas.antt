-- From which places answers are reported to the objects of a slot in one move.
-- For `no_invented_reply`, its clause `distinct`, through `HeardRunLemmas`.
-- By cases on the event: at a telegram one more place at most for each object, and else none.
use Rattle.std.proofs.Common.{◌≡◌, ℕ, ◌<◌, ◌≤◌, List, [], ◌∷◌, ◌++◌, Option, Some, None}
use Rattle.std.proofs.Common.{Bool, true, false, refl, ap, sym, ◌∙◌, subst, arith, inl, inr}
use Rattle.std.proofs.Common.{filter}
use Rattle.std.proofs.Common.{append-nil}
use Rattle.std.specs.Prelude.{cond, ◌==◌, ◌⊎◌, if◌then◌else◌}
use Rattle.std.specs.List.{flat_map}
use Rattle.std.proofs.lemmas.Bool.Decides.{nat_tests}
use Rattle.trdp_base.specs.declared.place.Place.{Place}
use Rattle.trdp_head.specs.MdTelegrams.{MdTelegram}
use Rattle.trdp_filter.specs.declared.globals.Globals.{Globals}
use Rattle.trdp_filter.specs.Telegrams.{TelegramModel, PdIs, MdIs}
use Rattle.trdp_pd.specs.Publishers.{published}
use Rattle.trdp_pd.specs.Subscriptions.{subscribed}
use Rattle.trdp_pd.specs.Requesters.{opened}
use Rattle.trdp_md.specs.Listeners.{listening}
use Rattle.trdp_md.specs.Callers.{new_caller}
use Rattle.trdp_md.specs.Repliers.{asked_by}
use Rattle.trdp_model.specs.declared.kind.Kind.TheVariants as kinds
use Rattle.trdp_model.specs.declared.any_object.AnyObject.TheVariants.{Publisher, Subscription}
use Rattle.trdp_model.specs.declared.any_object.AnyObject.TheVariants.{Requester, Listener}
use Rattle.trdp_model.specs.declared.any_object.AnyObject.TheVariants.{Caller, Replier}
use Rattle.trdp_model.specs.declared.fault.Refusal.{Refusal}
use Rattle.trdp_model.specs.Configs.{NodeSetup, zero_size_of}
use Rattle.trdp_model.specs.Records.{Content}
use Rattle.trdp_model.specs.Acts.{Act, entry_left}
use Rattle.trdp_model.specs.Slots.{Entry, SlotState, Outcome, unchanged, emptied}
use Rattle.trdp_model.specs.Openings.{opening_refusal}
use Rattle.trdp_model.specs.Notices.{notify_refusal, notice}
use Rattle.trdp_model.specs.Requests.{has_session, request_refusal, request_sent, asked_unless}
use Rattle.trdp_model.specs.Requests.{asked_by_hearing}
use Rattle.trdp_model.specs.Datagrams.{telegram_of, hearing, is_acting, after_telegram}
use Rattle.trdp_model.specs.Datagrams.{taking_act, handed, is_request_kind, requested, received}
use Rattle.trdp_model.specs.Datagrams.{is_valid_at, received_if}
use Rattle.trdp_model.specs.Calls.{publish_refusal, subscribe_refusal, listen_refusal, puts}
use Rattle.trdp_model.specs.Calls.{shows}
use Rattle.trdp_model.specs.Calls.{ends, told_unless, called}
use Rattle.trdp_model.specs.Pulls.{pulls}
use Rattle.trdp_model.specs.Replies.{replies, queries, reply_errors, confirms, aborts}
use Rattle.trdp_model.specs.Events.{CallModel, PublishCall, PutCall, UnpublishCall, SubscribeCall}
use Rattle.trdp_model.specs.Events.{GetCall, UnsubscribeCall, OpenPullCall, PullCall}
use Rattle.trdp_model.specs.Events.{ClosePullCall, ListenCall, UnlistenCall, NotifyCall}
use Rattle.trdp_model.specs.Events.{RequestCall, ReplyCall, QueryCall, ReplyErrorCall}
use Rattle.trdp_model.specs.Events.{ConfirmCall, AbortCall, ResetCall}
use Rattle.trdp_model.specs.Events.{EventModel, MomentIs, TopologyIs}
use Rattle.trdp_model.specs.Events.{RoleIs, DatagramIs, CallIs}
use Rattle.trdp_model.specs.Events.{AddSlotIs}
use Rattle.trdp_model.specs.Alone.{plain_effect}
use Rattle.trdp_net.specs.Provenance.{In}
use Rattle.trdp_net.specs.Promises.{replied_in, IsNew, AreDistinct}
use Rattle.trdp_net.proofs.PartLemmas.{each_map, each_in}
use Rattle.trdp_net.proofs.HeardLemmas.{Covers, CoversLeft, IsQuiet}
use Rattle.trdp_net.proofs.HeardTelegramLemmas.{HeardAct}
use Rattle.trdp_net.proofs.HeardLemmas.{puts_quiet, ends_quiet, shows_quiet, pulls_quiet}
use Rattle.trdp_net.proofs.HeardLemmas.{replies_quiet}
use Rattle.trdp_net.proofs.HeardLemmas.{queries_quiet, errors_quiet, confirms_quiet, aborts_quiet}
use Rattle.trdp_net.proofs.HeardTelegramLemmas.{takes_heard}
use Rattle.trdp_net.specs.Provenance.{Each}
use Rattle.trdp_net.proofs.HeardEntryLemmas.{IsOnly, AreOnly, HeardSlot, told_append, quiet_outcome}
use Rattle.trdp_net.proofs.HeardEntryLemmas.{LeftsOf, left_lefts, entries_heard, left_covers}
use Rattle.trdp_net.proofs.HeardEntryLemmas.{new_heard, opened_heard, moved_heard, at_handle_heard}

-- several objects act, and an answer of its own may be reported to each

told_none : (h : ℕ) (test : Entry → Bool) (act : Entry → Act) (es : List Entry) → IsOnly h es
    → ((e : Entry) → In e es → (e.handle == h) ≡ false → replied_in h (act e).records ≡ [])
    → replied_in h (flat_map (λ e. (act e).records) (filter test es)) ≡ []
told_none h test act [] only others = refl
told_none h test act (e ∷ es) only others =
    either (test e) (told_none h test act es only.1 (λ f is. others f (inr is)))
  where
    either : (b : Bool)
        → replied_in h (flat_map (λ f. (act f).records) (filter test es)) ≡ []
        → replied_in h
        (flat_map (λ f. (act f).records) (cond b (e ∷ filter test es) (filter test es))) ≡ []
    either true rest =
        told_append h (act e).records (flat_map (λ f. (act f).records) (filter test es))
        ∙ rw (others e (inl refl) only.0, rest) refl
    either false rest = rest

other_handle : (es : List Entry) (e f : Entry) → IsOnly e.handle es → In f es
    → (e.handle == f.handle) ≡ false
other_handle es e f only is =
    let not : (f.handle == e.handle) ≡ false =
    each_in (λ g. (g.handle == e.handle) ≡ false) es f only is in
    grind (arith, nat_tests)

told_one : (test : Entry → Bool) (act : Entry → Act) (es : List Entry) (e : Entry) → In e es
    → AreOnly es
    → ((f : Entry) (h : ℕ) → In f es → (f.handle == h) ≡ false
    → replied_in h (act f).records ≡ [])
    → replied_in e.handle (flat_map (λ f. (act f).records) (filter test es))
    ≡ (if test e then replied_in e.handle (act e).records else [])
told_one test act [] e is only others = absurd is
told_one test act (g ∷ es) e (inl same) only others =
    subst
    (λ (x : Entry). replied_in x.handle
    (flat_map (λ f. (act f).records) (cond (test g) (g ∷ filter test es) (filter test es)))
    ≡ (if test x then replied_in x.handle (act x).records else []))
    same (either (test g))
  where
    rest : replied_in g.handle (flat_map (λ f. (act f).records) (filter test es)) ≡ []
    rest =
        told_none g.handle test act es only.0
        (λ f is_f not. others f g.handle (inr is_f) not)

    either : (b : Bool)
        → replied_in g.handle
        (flat_map (λ f. (act f).records) (cond b (g ∷ filter test es) (filter test es)))
        ≡ (if b then replied_in g.handle (act g).records else [])
    either true =
        told_append g.handle (act g).records (flat_map (λ f. (act f).records) (filter test es))
        ∙ (ap (λ (ps : List Place). replied_in g.handle (act g).records ++ ps) rest
        ∙ append-nil (replied_in g.handle (act g).records))
    either false = rest
told_one test act (g ∷ es) e (inr is) only others =
    either (test g)
    (told_one test act es e is only.1 (λ f h is_f. others f h (inr is_f)))
  where
    either : (b : Bool)
        → replied_in e.handle (flat_map (λ f. (act f).records) (filter test es))
        ≡ (if test e then replied_in e.handle (act e).records else [])
        → replied_in e.handle
        (flat_map (λ f. (act f).records) (cond b (g ∷ filter test es) (filter test es)))
        ≡ (if test e then replied_in e.handle (act e).records else [])
    either true rest =
        told_append e.handle (act g).records (flat_map (λ f. (act f).records) (filter test es))
        ∙ (ap
        (λ (ps : List Place).
        ps ++ replied_in e.handle (flat_map (λ f. (act f).records) (filter test es)))
        (others g e.handle (inl refl) (other_handle es g e only.0 is)) ∙ rest)
    either false rest = rest

-- an entry of the handle, or none
some_entry : (h : ℕ) (es : List Entry) → ((e : Entry) × In e es × (e.handle ≡ h)) ⊎ IsOnly h es
some_entry h [] = inr tt
some_entry h (e ∷ es) = either (e.handle == h) refl (some_entry h es)
  where
    either : (b : Bool) → (e.handle == h) ≡ b
        → ((f : Entry) × In f es × (f.handle ≡ h)) ⊎ IsOnly h es
        → ((f : Entry) × In f (e ∷ es) × (f.handle ≡ h)) ⊎ IsOnly h (e ∷ es)
    either true is rest = let same : e.handle ≡ h = grind (arith, nat_tests) in
        inl (e, inl refl, same)
    either false is (inl found) = inl (found.0, inr found.1, found.2)
    either false is (inr none) = inr (is, none)

handed_heard : (old : ℕ → List Place) (slot : SlotState) (setup : NodeSetup) (globals : Globals)
    (telegram : TelegramModel) → HeardSlot old slot
    → HeardSlot (λ h. replied_in h (handed setup slot globals telegram).records ++ old h)
    (handed setup slot globals telegram).slot
handed_heard old slot setup globals telegram h =
    entries_heard old new slot (after_telegram setup telegram globals slot.objects)
    (λ e. lefts e (test e)) (λ e is covers. stays e is covers (test e) refl)
    (λ n above. fresh n above) (λ n. distinct n (some_entry n slot.objects)) h
  where
    test : Entry → Bool
    test = is_acting telegram globals slot.objects

    act : Entry → Act
    act = taking_act setup telegram globals

    told : ℕ → List Place
    told n = replied_in n (flat_map (λ e. (act e).records) (filter test slot.objects))

    new : ℕ → List Place
    new n = told n ++ old n

    one : (e : Entry) → In e slot.objects → HeardAct (old e.handle) e.handle (act e)
    one e is =
        takes_heard (old e.handle) e.handle setup telegram globals e.object
        (h.distinct e.handle)
        (each_in (λ f. Covers (old f.handle) f.object) slot.objects e h.covers is)

    others : (e : Entry) (n : ℕ) → In e slot.objects → (e.handle == n) ≡ false
        → replied_in n (act e).records ≡ []
    others e n is other = (one e is).others n other

    mine : (e : Entry) → In e slot.objects
        → told e.handle ≡ (if test e then replied_in e.handle (act e).records else [])
    mine e is = told_one test act slot.objects e is h.only others

    none : (n : ℕ) → IsOnly n slot.objects → told n ≡ []
    none n only = told_none n test act slot.objects only (λ e is other. others e n is other)

    lefts : (e : Entry) (b : Bool)
        → LeftsOf e (if b then entry_left e (act e).left else e ∷ [])
    lefts e true = left_lefts e (act e).left
    lefts e false = refl

    stays : (e : Entry) → In e slot.objects → Covers (old e.handle) e.object → (b : Bool)
        → test e ≡ b → Each (λ f. Covers (new f.handle) f.object)
        (if b then entry_left e (act e).left else e ∷ [])
    stays e is covers true acts =
        let mine_is : told e.handle ≡ replied_in e.handle (act e).records = rw acts at
        (mine e is) in
        left_covers new e (act e).left
        (subst (λ (ps : List Place). CoversLeft (ps ++ old e.handle) (act e).left) (sym mine_is)
        (one e is).covers)
    stays e is covers false acts =
        let mine_is : told e.handle ≡ [] = rw acts at (mine e is) in (
          subst (λ (ps : List Place). Covers (ps ++ old e.handle) e.object)
              (sym mine_is) covers,
          tt,
        )

    fresh : (n : ℕ) → slot.next ≤ n → new n ≡ []
    fresh n above =
        let only : IsOnly n slot.objects =
        each_map (λ e. e.handle < slot.next) (λ e. (e.handle == n) ≡ false) slot.objects
        (λ e less. below_other e.handle n less above) h.below in
        rw (none n only) (h.fresh n above)
      where
        below_other : (a b : ℕ) → a < slot.next → slot.next ≤ b → (a == b) ≡ false
        below_other a b less more = grind (arith, nat_tests)

    distinct : (n : ℕ) → ((e : Entry) × In e slot.objects × (e.handle ≡ n)) ⊎ IsOnly n slot.objects
        → AreDistinct (new n)
    distinct n (inr only) =
        subst (λ (ps : List Place). AreDistinct (ps ++ old n)) (sym (none n only)) (h.distinct n)
    distinct n (inl found) =
        subst (λ (k : ℕ). AreDistinct (new k)) found.2
        (at_entry_distinct found.0 found.1 (test found.0) refl)
      where
        at_entry_distinct : (e : Entry) → In e slot.objects → (b : Bool) → test e ≡ b
            → AreDistinct (new e.handle)
        at_entry_distinct e is true acts =
            let mine_is : told e.handle ≡ replied_in e.handle (act e).records =
            rw acts at (mine e is) in
            subst (λ (ps : List Place). AreDistinct (ps ++ old e.handle)) (sym mine_is)
            (one e is).distinct
        at_entry_distinct e is false acts =
            let mine_is : told e.handle ≡ [] = rw acts at (mine e is) in
            subst (λ (ps : List Place). AreDistinct (ps ++ old e.handle)) (sym mine_is)
            (h.distinct e.handle)

-- at a request
asked_heard : (old : ℕ → List Place) (slot : SlotState) (listener : Option ℕ) (globals : Globals)
    (src : Place) (t : MdTelegram) → HeardSlot old slot
    → HeardSlot (λ h. replied_in h (asked_by_hearing listener slot globals src t).records ++ old h)
    (asked_by_hearing listener slot globals src t).slot
asked_heard old slot None globals src t h = h
asked_heard old slot (Some listener) globals src t h =
    either (has_session kinds.Replier t.head.session slot.objects)
  where
    unless : (refusal : Option Refusal)
        → HeardSlot (λ n. replied_in n (asked_unless refusal slot listener globals src t).records
        ++ old n)
        (asked_unless refusal slot listener globals src t).slot
    unless (Some refusal) = h
    unless None = new_heard old slot (Replier (asked_by src t.head globals.now)) (λ ps is. tt) h

    either : (b : Bool)
        → HeardSlot (λ n. replied_in n (let o : Outcome = (if b then unchanged slot
        else asked_unless (opening_refusal slot kinds.Replier) slot listener globals src t) in
        o).records
        ++ old n)
        (let o : Outcome = (if b then unchanged slot
        else asked_unless (opening_refusal slot kinds.Replier) slot listener globals src t) in
        o).slot
    either true = h
    either false = unless (opening_refusal slot kinds.Replier)

received_heard : (old : ℕ → List Place) (slot : SlotState) (setup : NodeSetup) (globals : Globals)
    (telegram : TelegramModel) → HeardSlot old slot
    → HeardSlot (λ h. replied_in h (received setup slot globals telegram).records ++ old h)
    (received setup slot globals telegram).slot
received_heard old slot setup globals (PdIs src dst t) h =
    handed_heard old slot setup globals (PdIs src dst t) h
received_heard old slot setup globals (MdIs src dst t) h = either (is_request_kind t.head.kind)
  where
    either : (b : Bool)
        → HeardSlot (λ n. replied_in n (let o : Outcome = (if b
        then requested slot globals (MdIs src dst t)
        else handed setup slot globals (MdIs src dst t)) in o).records ++ old n)
        (let o : Outcome = (if b then requested slot globals (MdIs src dst t)
        else handed setup slot globals (MdIs src dst t)) in o).slot
    either true =
        asked_heard old slot (hearing (MdIs src dst t) globals slot.objects) globals src t h
    either false = handed_heard old slot setup globals (MdIs src dst t) h

received_if_heard : (old : ℕ → List Place) (slot : SlotState) (setup : NodeSetup)
    (globals : Globals) (telegram : Option TelegramModel) → HeardSlot old slot
    → HeardSlot (λ h. replied_in h (received_if setup slot globals telegram).records ++ old h)
    (received_if setup slot globals telegram).slot
received_if_heard old slot setup globals None h = h
received_if_heard old slot setup globals (Some t) h = either (is_valid_at globals t)
  where
    either : (b : Bool)
        → HeardSlot (λ n. replied_in n (let o : Outcome = (if b then received setup slot globals t
        else unchanged slot) in o).records ++ old n)
        (let o : Outcome = (if b then received setup slot globals t else unchanged slot) in o).slot
    either true = received_heard old slot setup globals t h
    either false = h

told_heard : (old : ℕ → List Place) (slot : SlotState) (refusal : Option Refusal)
    (records : List Content) → IsQuiet records → HeardSlot old slot
    → HeardSlot (λ h. replied_in h (told_unless refusal slot records).records ++ old h)
    (told_unless refusal slot records).slot
told_heard old slot (Some refusal) records quiet h = h
told_heard old slot None records quiet h =
    quiet_outcome old (told_unless None slot records) (λ n. quiet n) h

called_heard : (old : ℕ → List Place) (slot : SlotState) (setup : NodeSetup) (globals : Globals)
    (call : CallModel) → HeardSlot old slot
    → HeardSlot (λ h. replied_in h (called setup slot globals call).records ++ old h)
    (called setup slot globals call).slot
called_heard old slot setup globals (PublishCall terms) h =
    opened_heard old slot (publish_refusal setup slot terms)
    (Publisher (published terms globals.now)) [] (λ n. refl) (λ ps is. tt) h
called_heard old slot setup globals (PutCall handle bytes) h =
    at_handle_heard old slot handle (puts setup bytes) (puts_quiet (old handle) setup bytes) h
called_heard old slot setup globals (UnpublishCall handle) h =
    at_handle_heard old slot handle (ends kinds.Publisher)
    (ends_quiet (old handle) kinds.Publisher) h
called_heard old slot setup globals (SubscribeCall terms) h =
    opened_heard old slot (subscribe_refusal setup slot terms)
    (Subscription (subscribed terms (zero_size_of setup terms.dataset) globals.now)) []
    (λ n. refl) (λ ps is. tt) h
called_heard old slot setup globals (GetCall handle) h =
    at_handle_heard old slot handle shows (shows_quiet (old handle)) h
called_heard old slot setup globals (UnsubscribeCall handle) h =
    at_handle_heard old slot handle (ends kinds.Subscription)
    (ends_quiet (old handle) kinds.Subscription) h
called_heard old slot setup globals (OpenPullCall terms) h =
    opened_heard old slot (opening_refusal slot kinds.Requester) (Requester (opened terms)) []
    (λ n. refl) (λ ps is. tt) h
called_heard old slot setup globals (PullCall handle) h =
    at_handle_heard old slot handle (pulls globals) (pulls_quiet (old handle) globals) h
called_heard old slot setup globals (ClosePullCall handle) h =
    at_handle_heard old slot handle (ends kinds.Requester)
    (ends_quiet (old handle) kinds.Requester) h
called_heard old slot setup globals (ListenCall filter) h =
    opened_heard old slot (listen_refusal slot filter) (Listener (listening filter)) []
    (λ n. refl) (λ ps is. tt) h
called_heard old slot setup globals (UnlistenCall handle) h =
    at_handle_heard old slot handle (ends kinds.Listener)
    (ends_quiet (old handle) kinds.Listener) h
called_heard old slot setup globals (NotifyCall terms payload) h =
    told_heard old slot (notify_refusal globals terms payload) (notice terms payload ∷ [])
    (λ n. refl) h
called_heard old slot setup globals (RequestCall terms payload) h =
    opened_heard old slot (request_refusal slot globals terms payload)
    (Caller (new_caller terms payload globals.now)) (request_sent terms payload ∷ []) (λ n. refl)
    (λ ps is p none. subst (λ (qs : List Place). IsNew p qs) (sym is) tt) h
called_heard old slot setup globals (ReplyCall handle com_id status payload) h =
    at_handle_heard old slot handle (replies com_id status payload)
    (replies_quiet (old handle) com_id status payload) h
called_heard old slot setup globals (QueryCall handle com_id status timeout payload) h =
    at_handle_heard old slot handle (queries globals.now com_id status timeout payload)
    (queries_quiet (old handle) globals.now com_id status timeout payload) h
called_heard old slot setup globals (ReplyErrorCall handle com_id status) h =
    at_handle_heard old slot handle (reply_errors com_id status)
    (errors_quiet (old handle) com_id status) h
called_heard old slot setup globals (ConfirmCall handle place status) h =
    at_handle_heard old slot handle (confirms handle place status)
    (confirms_quiet (old handle) handle place status) h
called_heard old slot setup globals (AbortCall handle) h =
    at_handle_heard old slot handle aborts (aborts_quiet (old handle)) h
called_heard old slot setup globals ResetCall h =
    quiet_outcome old (told_unless None (emptied slot) []) (λ n. refl) (record {
      only = tt;
      below = tt;
      fresh = h.fresh;
      covers = tt;
      distinct = h.distinct;
    })

-- at any event
pub effect_heard : (old : ℕ → List Place) (setup : NodeSetup) (s : ℕ) (slot : SlotState)
    (globals : Globals) (event : EventModel) → HeardSlot old slot
    → HeardSlot (λ h. replied_in h (plain_effect setup s slot globals event).records ++ old h)
    (plain_effect setup s slot globals event).slot
effect_heard old setup s slot globals (MomentIs t) h =
    moved_heard old slot (record globals { now = t }) h
effect_heard old setup s slot globals (TopologyIs topo) h = h
effect_heard old setup s slot globals (RoleIs group leader) h = h
effect_heard old setup s slot globals (AddSlotIs quotas) h = h
effect_heard old setup s slot globals (DatagramIs protocol src dst bytes) h =
    received_if_heard old slot setup globals (telegram_of protocol src dst bytes) h
effect_heard old setup s slot globals (CallIs r call) h = either (r == s)
  where
    either : (b : Bool)
        → HeardSlot (λ n. replied_in n (let o : Outcome = (if b then called setup slot globals call
        else unchanged slot) in o).records ++ old n)
        (let o : Outcome = (if b then called setup slot globals call else unchanged slot) in
        o).slot
    either true = called_heard old slot setup globals call h
    either false = h
