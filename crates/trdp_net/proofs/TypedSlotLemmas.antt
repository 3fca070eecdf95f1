-- A slot that fits sends what fits, and what is sent fitting opens what fits.
-- For the promises that need `AreTypedSteps`, through `TypedRunLemmas`.
-- By cases on the event, and by induction on the entries for a moment and a telegram.
use Rattle.std.proofs.Common.{◌≡◌, ℕ, ◌≤◌, List, [], ◌∷◌, length}
use Rattle.std.proofs.Common.{Option, Some, None, Bool, true, false, refl, subst, arith}
use Rattle.std.proofs.Common.{filter}
use Rattle.std.specs.Prelude.{option_map, ◌==◌, if◌then◌else◌}
use Rattle.std.specs.List.{flat_map}
use Rattle.trdp_base.specs.declared.place.Place.{Place}
use Rattle.trdp_head.specs.MdHeads.{IsMdHead}
use Rattle.trdp_head.specs.PdTelegrams.{PdTelegram, pd_telegram_of}
use Rattle.trdp_head.specs.MdTelegrams.{MdTelegram, md_telegram_of}
use Rattle.trdp_filter.specs.declared.globals.Globals.{Globals}
use Rattle.trdp_filter.specs.Telegrams.{TelegramModel, PdIs, MdIs}
use Rattle.trdp_pd.specs.Publishers.{published}
use Rattle.trdp_pd.specs.Subscriptions.{subscribed}
use Rattle.trdp_pd.specs.Requesters.{opened}
use Rattle.trdp_md.specs.declared.terms.NotifyTerms.{NotifyTerms}
use Rattle.trdp_md.specs.Callers.{request_of, new_caller}
use Rattle.trdp_md.specs.Listeners.{listening}
use Rattle.trdp_md.specs.Notifications.{notification_of}
use Rattle.trdp_model.specs.declared.kind.Kind.TheVariants as kinds
use Rattle.trdp_model.specs.declared.any_object.AnyObject.{AnyObject}
use Rattle.trdp_model.specs.declared.any_object.AnyObject.TheVariants.{Publisher, Subscription}
use Rattle.trdp_model.specs.declared.any_object.AnyObject.TheVariants.{Requester, Listener}
use Rattle.trdp_model.specs.declared.any_object.AnyObject.TheVariants.{Caller}
use Rattle.trdp_model.specs.declared.record.Protocol.{Protocol}
use Rattle.trdp_model.specs.declared.record.Protocol.TheVariants.{Pd, Md}
use Rattle.trdp_model.specs.declared.fault.Refusal.{Refusal}
use Rattle.trdp_model.specs.declared.fault.Refusal.TheVariants as refusals
use Rattle.trdp_model.specs.Configs.{NodeSetup, zero_size_of}
use Rattle.trdp_model.specs.Records.{Content}
use Rattle.trdp_model.specs.Acts.{Act, entry_left, left_at}
use Rattle.trdp_model.specs.Slots.{Entry, SlotState, Outcome, unchanged, entry_under}
use Rattle.trdp_model.specs.Openings.{refused, opening_refusal, opened_with}
use Rattle.trdp_model.specs.Moments.{is_due, in_order, firing_act}
use Rattle.trdp_model.specs.Moments.{moved_to}
use Rattle.trdp_model.specs.Notices.{notify_refusal, notice}
use Rattle.trdp_model.specs.Requests.{has_session, request_refusal, request_sent, asked_unless}
use Rattle.trdp_model.specs.Requests.{asked_by_hearing}
use Rattle.trdp_model.specs.Datagrams.{telegram_of, hearing, is_acting, acting}
use Rattle.trdp_model.specs.Datagrams.{taking_act, handed, is_request_kind, requested, received}
use Rattle.trdp_model.specs.Datagrams.{is_valid_at, received_if}
use Rattle.trdp_model.specs.Calls.{publish_refusal, subscribe_refusal, listen_refusal, puts}
use Rattle.trdp_model.specs.Calls.{shows}
use Rattle.trdp_model.specs.Calls.{ends, at_entry, at_object, told_unless, called}
use Rattle.trdp_model.specs.Pulls.{pulls}
use Rattle.trdp_model.specs.Replies.{replies, queries, reply_errors, confirms, aborts}
use Rattle.trdp_model.specs.Events.{CallModel, PublishCall, PutCall, UnpublishCall, SubscribeCall}
use Rattle.trdp_model.specs.Events.{GetCall, UnsubscribeCall, OpenPullCall, PullCall}
use Rattle.trdp_model.specs.Events.{ClosePullCall, ListenCall, UnlistenCall, NotifyCall}
use Rattle.trdp_model.specs.Events.{RequestCall, ReplyCall, QueryCall, ReplyErrorCall}
use Rattle.trdp_model.specs.Events.{ConfirmCall, AbortCall, ResetCall}
use Rattle.trdp_model.specs.Events.{EventModel, MomentIs, TopologyIs}
use Rattle.trdp_model.specs.Events.{RoleIs, DatagramIs, CallIs}
use Rattle.trdp_model.specs.Events.{AddSlotIs}
use Rattle.trdp_model.specs.Alone.{plain_effect}
use Rattle.trdp_net.specs.Provenance.{In}
use Rattle.trdp_net.specs.Typed.{IsTypedCall}
use Rattle.trdp_net.proofs.PartLemmas.{each_append, each_in, each_flat_map, filter_in}
use Rattle.trdp_net.proofs.SlotLemmas.{order_in, find_in}
use Rattle.trdp_net.proofs.HeadLemmas.{request_head, notification_head}
use Rattle.trdp_net.proofs.CallEffectLemmas.{request_limit, notify_limit}
use Rattle.trdp_net.proofs.TypedMoveLemmas.{IsTypedObject, IsTypedEntry}
use Rattle.trdp_net.specs.Provenance.{Each}
use Rattle.trdp_net.specs.Typed.{IsNotifyTerms}
use Rattle.trdp_net.proofs.TypedObjectLemmas.{IsSentTyped, IsTypedRecord, AreTyped, md_typed}
use Rattle.trdp_net.proofs.TypedObjectLemmas.{LeftTyped}
use Rattle.trdp_net.proofs.TypedObjectLemmas.{ActTyped, answers_typed, fires_typed, takes_typed}
use Rattle.trdp_net.proofs.TypedCallLemmas.{puts_typed, ends_typed, pulls_typed, replies_typed}
use Rattle.trdp_net.proofs.TypedCallLemmas.{queries_typed, errors_typed, confirms_typed}
use Rattle.trdp_net.proofs.TypedCallLemmas.{aborts_typed}

-- a slot

-- a slot that fits, with records that fit
pub record OutcomeTyped (outcome : Outcome) : Type 0 where
  pub objects : Each IsTypedEntry outcome.slot.objects
  pub sends : AreTyped outcome.records

left_typed : (e : Entry) (left : Option AnyObject) → LeftTyped left
    → Each IsTypedEntry (entry_left e left)
left_typed e None fits = tt
left_typed e (Some x) fits = (fits, tt)

unchanged_typed : (slot : SlotState) → Each IsTypedEntry slot.objects
    → OutcomeTyped (unchanged slot)
unchanged_typed slot fits = record { objects = fits; sends = tt }

refused_typed : (slot : SlotState) (refusal : Refusal) → Each IsTypedEntry slot.objects
    → OutcomeTyped (refused slot refusal)
refused_typed slot refusal fits = record { objects = fits; sends = (tt, tt) }

acting_typed : (slot : SlotState) (test : Entry → Bool) (act : Entry → Act) (order : List Entry)
    → Each IsTypedEntry slot.objects → ((e : Entry) → In e order → In e slot.objects)
    → ((e : Entry) → IsTypedObject e.object → ActTyped (act e))
    → OutcomeTyped (record {
      slot = record slot {
        objects = flat_map (λ e. if test e then entry_left e (act e).left else e ∷ [])
            slot.objects;
      };
      records = flat_map (λ e. (act e).records) order;
    })
acting_typed slot test act order fits out rule = record {
  objects =
      each_flat_map IsTypedEntry (λ e. if test e then entry_left e (act e).left else e ∷ [])
      slot.objects (λ e is. stays e (each_in IsTypedEntry slot.objects e fits is) (test e));
  sends =
      each_flat_map IsTypedRecord (λ e. (act e).records) order
      (λ e is. (rule e (each_in IsTypedEntry slot.objects e fits (out e is))).sends);
}
  where
    stays : (e : Entry) → IsTypedObject e.object → (b : Bool)
        → Each IsTypedEntry (if b then entry_left e (act e).left else e ∷ [])
    stays e e_fits true = left_typed e (act e).left (rule e e_fits).left
    stays e e_fits false = (e_fits, tt)

moved_typed : (slot : SlotState) (globals : Globals) → Each IsTypedEntry slot.objects
    → OutcomeTyped (moved_to slot globals)
moved_typed slot globals fits =
    acting_typed slot (is_due globals.now) (firing_act globals)
    (in_order (filter (is_due globals.now) slot.objects)) fits
    (λ e is. filter_in (is_due globals.now) slot.objects e
    (order_in e (filter (is_due globals.now) slot.objects) is))
    (λ e e_fits. fires_typed e.handle globals e.object e_fits)

handed_typed : (slot : SlotState) (setup : NodeSetup) (globals : Globals)
    (telegram : TelegramModel) → Each IsTypedEntry slot.objects
    → OutcomeTyped (handed setup slot globals telegram)
handed_typed slot setup globals telegram fits =
    acting_typed slot (is_acting telegram globals slot.objects) (taking_act setup telegram globals)
    (acting telegram globals slot.objects) fits
    (λ e is. filter_in (is_acting telegram globals slot.objects) slot.objects e is)
    (λ e e_fits. takes_typed e.handle setup telegram globals e.object e_fits)

opened_typed : (slot : SlotState) (refusal : Option Refusal) (object : AnyObject)
    (records : List Content) → Each IsTypedEntry slot.objects
    → (refusal ≡ None → IsTypedObject object)
    → (refusal ≡ None → AreTyped records) → OutcomeTyped (opened_with refusal slot object records)
opened_typed slot (Some refusal) object records fits new sends = refused_typed slot refusal fits
opened_typed slot None object records fits new sends = record {
  objects = each_append IsTypedEntry slot.objects _ fits (new refl, tt);
  sends = (tt, sends refl);
}

at_handle_typed : (slot : SlotState) (handle : ℕ) (act : AnyObject → Act)
    → Each IsTypedEntry slot.objects → ((x : AnyObject) → IsTypedObject x → ActTyped (act x))
    → OutcomeTyped (at_object slot handle act)
at_handle_typed slot handle act fits rule = found (entry_under handle slot.objects) refl
  where
    found : (o : Option Entry) → entry_under handle slot.objects ≡ o
        → OutcomeTyped (at_entry o slot handle act)
    found None is = refused_typed slot refusals.NoHandle fits
    found (Some e) is =
        let one : ActTyped (act e.object) =
        rule e.object (each_in IsTypedEntry slot.objects e fits
        (find_in handle slot.objects e is).0)
        in
        record {
          objects =
              each_flat_map IsTypedEntry (left_at handle (act e.object).left) slot.objects
              (λ f is_f. stays (act e.object).left one.left f
              (each_in IsTypedEntry slot.objects f fits is_f) (f.handle == handle));
          sends = one.sends;
        }
      where
        stays : (left : Option AnyObject) → LeftTyped left → (f : Entry)
            → IsTypedObject f.object → (b : Bool)
            → Each IsTypedEntry (if b then entry_left f left else f ∷ [])
        stays left left_fits f f_fits true = left_typed f left left_fits
        stays left left_fits f f_fits false = (f_fits, tt)

notified_typed : (slot : SlotState) (refusal : Option Refusal) (terms : NotifyTerms)
    (payload : List ℕ) → (refusal ≡ None → length payload ≤ 65388) → IsNotifyTerms terms
    → Each IsTypedEntry slot.objects
    → OutcomeTyped (told_unless refusal slot (notice terms payload ∷ []))
notified_typed slot (Some refusal) terms payload limit terms_fit fits =
    refused_typed slot refusal fits
notified_typed slot None terms payload limit terms_fit fits = record {
  objects = fits;
  sends = (
    tt,
    (
      md_typed (notification_of terms) payload (notification_head terms terms_fit)
          (limit refl),
      tt,
    ),
  );
}

called_typed : (slot : SlotState) (setup : NodeSetup) (globals : Globals) (call : CallModel)
    → IsTypedCall call → Each IsTypedEntry slot.objects
    → OutcomeTyped (called setup slot globals call)
called_typed slot setup globals (PublishCall terms) c fits =
    opened_typed slot (publish_refusal setup slot terms) (Publisher (published terms globals.now))
    [] fits (λ none. record { counter = omega arith; com_id = c.com_id; topo = c.topo })
    (λ none. tt)
called_typed slot setup globals (PutCall handle bytes) c fits =
    at_handle_typed slot handle (puts setup bytes) fits (puts_typed setup bytes)
called_typed slot setup globals (UnpublishCall handle) c fits =
    at_handle_typed slot handle (ends kinds.Publisher) fits (ends_typed kinds.Publisher)
called_typed slot setup globals (SubscribeCall terms) c fits =
    opened_typed slot (subscribe_refusal setup slot terms)
    (Subscription (subscribed terms (zero_size_of setup terms.dataset) globals.now)) [] fits
    (λ none. tt) (λ none. tt)
called_typed slot setup globals (GetCall handle) c fits =
    at_handle_typed slot handle shows fits (λ x x_fits. answers_typed x _ x_fits)
called_typed slot setup globals (UnsubscribeCall handle) c fits =
    at_handle_typed slot handle (ends kinds.Subscription) fits (ends_typed kinds.Subscription)
called_typed slot setup globals (OpenPullCall terms) c fits =
    opened_typed slot (opening_refusal slot kinds.Requester) (Requester (opened terms)) [] fits
    (λ none. record {
      counter = omega arith;
      com_id = c.com_id;
      topo = c.topo;
      reply_com_id = c.reply_com_id;
      reply_ip = c.reply_ip;
    })
    (λ none. tt)
called_typed slot setup globals (PullCall handle) c fits =
    at_handle_typed slot handle (pulls globals) fits (pulls_typed globals)
called_typed slot setup globals (ClosePullCall handle) c fits =
    at_handle_typed slot handle (ends kinds.Requester) fits (ends_typed kinds.Requester)
called_typed slot setup globals (ListenCall filter) c fits =
    opened_typed slot (listen_refusal slot filter) (Listener (listening filter)) [] fits
    (λ none. tt) (λ none. tt)
called_typed slot setup globals (UnlistenCall handle) c fits =
    at_handle_typed slot handle (ends kinds.Listener) fits (ends_typed kinds.Listener)
called_typed slot setup globals (NotifyCall terms payload) c fits =
    notified_typed slot (notify_refusal globals terms payload) terms payload
    (notify_limit globals terms payload) c fits
called_typed slot setup globals (RequestCall terms payload) c fits =
    opened_typed slot (request_refusal slot globals terms payload)
    (Caller (new_caller terms payload globals.now)) (request_sent terms payload ∷ []) fits
    (λ none. record {
      terms = c;
      counter = omega arith;
      payload = request_limit slot globals terms payload none;
    })
    (λ none. (
      md_typed (request_of terms 0) payload (request_head terms 0 c (omega arith))
          (request_limit slot globals terms payload none),
      tt,
    ))
called_typed slot setup globals (ReplyCall handle com_id status payload) c fits =
    at_handle_typed slot handle (replies com_id status payload) fits
    (λ x x_fits. replies_typed com_id status payload x c.0 c.1 x_fits)
called_typed slot setup globals (QueryCall handle com_id status timeout payload) c fits =
    at_handle_typed slot handle (queries globals.now com_id status timeout payload) fits
    (λ x x_fits. queries_typed globals.now com_id status timeout payload x c.0 c.1 c.2 x_fits)
called_typed slot setup globals (ReplyErrorCall handle com_id status) c fits =
    at_handle_typed slot handle (reply_errors com_id status) fits
    (λ x x_fits. errors_typed com_id status x c.0 c.1 x_fits)
called_typed slot setup globals (ConfirmCall handle place status) c fits =
    at_handle_typed slot handle (confirms handle place status) fits
    (λ x x_fits. confirms_typed handle place status x c x_fits)
called_typed slot setup globals (AbortCall handle) c fits =
    at_handle_typed slot handle aborts fits aborts_typed
called_typed slot setup globals ResetCall c fits = record { objects = tt; sends = (tt, tt) }

-- a telegram with a header whose fields fit
abbrev pub IsTypedTelegram : TelegramModel → Type 0
IsTypedTelegram (PdIs src dst t) = Unit {0}
IsTypedTelegram (MdIs src dst t) = IsMdHead t.head

asked_typed : (slot : SlotState) (listener : Option ℕ) (globals : Globals) (src : Place)
    (t : MdTelegram) → IsMdHead t.head → Each IsTypedEntry slot.objects
    → OutcomeTyped (asked_by_hearing listener slot globals src t)
asked_typed slot None globals src t head fits = unchanged_typed slot fits
asked_typed slot (Some listener) globals src t head fits =
    either (has_session kinds.Replier t.head.session slot.objects)
  where
    unless : (refusal : Option Refusal)
        → OutcomeTyped (asked_unless refusal slot listener globals src t)
    unless (Some refusal) = record { objects = fits; sends = (tt, tt) }
    unless None = record {
      objects =
          each_append IsTypedEntry slot.objects _ fits (
            record {
              topo = record { etb = head.prefix.etb; op_trn = head.prefix.op_trn };
              session = head.session;
              source_uri = head.source_uri;
              dest_uri = head.dest_uri;
            },
            tt,
          );
      sends = (tt, tt);
    }

    either : (b : Bool) → OutcomeTyped (if b then unchanged slot
        else asked_unless (opening_refusal slot kinds.Replier) slot listener globals src t)
    either true = unchanged_typed slot fits
    either false = unless (opening_refusal slot kinds.Replier)

received_typed : (slot : SlotState) (setup : NodeSetup) (globals : Globals)
    (telegram : TelegramModel) → IsTypedTelegram telegram → Each IsTypedEntry slot.objects
    → OutcomeTyped (received setup slot globals telegram)
received_typed slot setup globals (PdIs src dst t) t_fits fits =
    handed_typed slot setup globals (PdIs src dst t) fits
received_typed slot setup globals (MdIs src dst t) t_fits fits =
    either (is_request_kind t.head.kind)
  where
    either : (b : Bool) → OutcomeTyped (if b then requested slot globals (MdIs src dst t)
        else handed setup slot globals (MdIs src dst t))
    either true =
        asked_typed slot (hearing (MdIs src dst t) globals slot.objects) globals src t t_fits fits
    either false = handed_typed slot setup globals (MdIs src dst t) fits

received_if_typed : (slot : SlotState) (setup : NodeSetup) (globals : Globals)
    (telegram : Option TelegramModel)
    → ((t : TelegramModel) → telegram ≡ Some t → IsTypedTelegram t)
    → Each IsTypedEntry slot.objects → OutcomeTyped (received_if setup slot globals telegram)
received_if_typed slot setup globals None t_fits fits = unchanged_typed slot fits
received_if_typed slot setup globals (Some t) t_fits fits = either (is_valid_at globals t)
  where
    either : (b : Bool) → OutcomeTyped (if b then received setup slot globals t
        else unchanged slot)
    either true = received_typed slot setup globals t (t_fits t refl) fits
    either false = unchanged_typed slot fits

telegram_typed : (protocol : Protocol) (src dst : Place) (bytes : List ℕ)
    → IsSentTyped protocol bytes → (t : TelegramModel)
    → telegram_of protocol src dst bytes ≡ Some t
    → IsTypedTelegram t
telegram_typed Pd src dst bytes sent t is = here (pd_telegram_of bytes) is
  where
    here : (o : Option PdTelegram) → option_map (λ telegram. PdIs src dst telegram) o ≡ Some t
        → IsTypedTelegram t
    here None none = absurd (cc none)
    here (Some telegram) some =
        let same : PdIs src dst telegram ≡ t = cc some in
        subst (λ (x : TelegramModel). IsTypedTelegram x) same tt
telegram_typed Md src dst bytes sent t is = here (md_telegram_of bytes) refl is
  where
    here : (o : Option MdTelegram) → md_telegram_of bytes ≡ o
        → option_map (λ telegram. MdIs src dst telegram) o ≡ Some t → IsTypedTelegram t
    here None read none = absurd (cc none)
    here (Some telegram) read some =
        let same : MdIs src dst telegram ≡ t = cc some in
        subst (λ (x : TelegramModel). IsTypedTelegram x) same (sent telegram read)

-- an event whose numbers fit, or that brings what was sent fitting
abbrev pub IsTypedEvent : EventModel → Type 0
IsTypedEvent (CallIs s call) = IsTypedCall call
IsTypedEvent (DatagramIs protocol src dst bytes) = IsSentTyped protocol bytes
IsTypedEvent event = Unit {0}

-- a slot that fits, at an event that fits
pub effect_typed : (setup : NodeSetup) (s : ℕ) (slot : SlotState) (globals : Globals)
    (event : EventModel) → IsTypedEvent event → Each IsTypedEntry slot.objects
    → OutcomeTyped (plain_effect setup s slot globals event)
effect_typed setup s slot globals (MomentIs t) e fits =
    moved_typed slot (record globals { now = t }) fits
effect_typed setup s slot globals (TopologyIs topo) e fits = unchanged_typed slot fits
effect_typed setup s slot globals (RoleIs group leader) e fits = unchanged_typed slot fits
effect_typed setup s slot globals (AddSlotIs quotas) e fits = unchanged_typed slot fits
effect_typed setup s slot globals (DatagramIs protocol src dst bytes) e fits =
    received_if_typed slot setup globals (telegram_of protocol src dst bytes)
    (telegram_typed protocol src dst bytes e) fits
effect_typed setup s slot globals (CallIs r call) e fits = either (r == s)
  where
    either : (b : Bool) → OutcomeTyped (if b then called setup slot globals call
        else unchanged slot)
    either true = called_typed slot setup globals call e fits
    either false = unchanged_typed slot fits
