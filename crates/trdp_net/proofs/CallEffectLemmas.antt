-- What a call does to one slot.
-- For the five promises of `laws`, through `EffectLemmas`.
-- By cases on the call: it acts by a handle or opens an object, each by one lemma of `SlotLemmas`.
use Rattle.std.proofs.Common.{◌≡◌, ℕ, ◌≤◌, List, [], ◌∷◌, length, Option, Some}
use Rattle.std.proofs.Common.{None, Bool, true, false, refl, arith, inl}
use Rattle.std.proofs.Common.{slice_get, filter}
use Rattle.std.specs.Prelude.{nat_lt, not, if◌then◌else◌}
use Rattle.std.specs.Option.{option_or}
use Rattle.std.proofs.lemmas.Bool.Decides.{nat_tests}
use Rattle.trdp_filter.specs.declared.globals.Globals.{Globals}
use Rattle.trdp_filter.specs.Counts.{topo_valid}
use Rattle.trdp_pd.specs.declared.terms.ValueState.TheVariants.{Never, Valid}
use Rattle.trdp_pd.specs.Publishers.{published}
use Rattle.trdp_pd.specs.Subscriptions.{subscribed}
use Rattle.trdp_pd.specs.Requesters.{opened}
use Rattle.trdp_md.specs.declared.terms.NotifyTerms.{NotifyTerms}
use Rattle.trdp_md.specs.declared.terms.CallerTerms.{CallerTerms}
use Rattle.trdp_md.specs.Listeners.{listening}
use Rattle.trdp_md.specs.Callers.{new_caller, request_of}
use Rattle.trdp_md.specs.Notifications.{notification_of}
use Rattle.trdp_model.specs.declared.kind.Kind.TheVariants as kinds
use Rattle.trdp_model.specs.declared.any_object.AnyObject.TheVariants.{Publisher, Subscription}
use Rattle.trdp_model.specs.declared.any_object.AnyObject.TheVariants.{Requester, Listener}
use Rattle.trdp_model.specs.declared.any_object.AnyObject.TheVariants.{Caller}
use Rattle.trdp_model.specs.declared.record.Protocol.TheVariants.{Md}
use Rattle.trdp_model.specs.declared.fault.Refusal.{Refusal}
use Rattle.trdp_model.specs.declared.fault.Refusal.TheVariants as refusals
use Rattle.trdp_model.specs.Configs.{NodeSetup, zero_size_of}
use Rattle.trdp_model.specs.Records.{HandleIs, DoneIs}
use Rattle.trdp_model.specs.Records.{Answers}
use Rattle.trdp_model.specs.Slots.{SlotState}
use Rattle.trdp_model.specs.Openings.{opening_refusal, opened_with}
use Rattle.trdp_model.specs.Notices.{notify_refusal, notice}
use Rattle.trdp_model.specs.Requests.{has_session, request_refusal, request_sent}
use Rattle.trdp_model.specs.Requests.{retries_refusal}
use Rattle.trdp_model.specs.Calls.{publish_refusal, subscribe_refusal, listen_refusal, puts}
use Rattle.trdp_model.specs.Calls.{shows}
use Rattle.trdp_model.specs.Calls.{ends, told_unless, called}
use Rattle.trdp_model.specs.Pulls.{pulls}
use Rattle.trdp_model.specs.Replies.{replies, queries, reply_errors, confirms, aborts}
use Rattle.trdp_model.specs.Events.{CallModel, PublishCall, PutCall, UnpublishCall, SubscribeCall}
use Rattle.trdp_model.specs.Events.{GetCall, UnsubscribeCall, OpenPullCall, PullCall}
use Rattle.trdp_model.specs.Events.{ClosePullCall, ListenCall, UnlistenCall, NotifyCall}
use Rattle.trdp_model.specs.Events.{RequestCall, ReplyCall, QueryCall, ReplyErrorCall}
use Rattle.trdp_model.specs.Events.{ConfirmCall, AbortCall, ResetCall}
use Rattle.trdp_model.specs.Events.{CallIs}
use Rattle.trdp_net.specs.Networks.{Move, place_of}
use Rattle.trdp_net.specs.Provenance.{Gives, IsNotified, IsRequested}
use Rattle.trdp_net.proofs.Kept.{EntryKept, said_by}
use Rattle.trdp_net.proofs.HeadLemmas.{request_head, notification_head}
use Rattle.trdp_net.proofs.SendingLemmas.{sends_md}
use Rattle.trdp_net.proofs.ObjectLemmas.{put_kept, ends_kept}
use Rattle.trdp_net.proofs.ObjectLemmas.{shows_kept, pull_kept, reply_kept, query_kept, error_kept}
use Rattle.trdp_net.proofs.ObjectLemmas.{confirm_kept, abort_kept}
use Rattle.trdp_net.proofs.SlotLemmas.{OutcomeKept, AreGiven, entries_later}
use Rattle.trdp_net.proofs.SlotLemmas.{refused_kept, opened_kept}
use Rattle.trdp_net.proofs.SlotLemmas.{at_handle_kept}
use Rattle.trdp_net.proofs.Explained.{spot}
use Rattle.trdp_net.proofs.TypedMoveLemmas.{IsTypedSending, IsTypedEntry}
use Rattle.trdp_net.specs.Provenance.{Each}
use Rattle.trdp_net.specs.Typed.{IsNotifyTerms, IsCallerTerms}

request_made : (past : List Move) (m : Move) (s : ℕ) (slot : SlotState) (terms : CallerTerms)
    (payload : List ℕ) → m.event ≡ CallIs s (RequestCall terms payload)
    → Gives m.node s (Answers (HandleIs slot.next)) m
    → IsRequested (spot m.node s slot.next) terms.session
    (said_by (place_of Md m.before.setup) terms payload) m past
request_made past m s slot terms payload event given = record {
  terms = terms;
  makes = record { event_is = event; gives = given };
  place_is = refl;
  session_is = refl;
  com_id_is = refl;
  source_uri_is = refl;
  dest_uri_is = refl;
}

-- a granted Request carries no more than a telegram of message data holds
pub request_limit : (slot : SlotState) (globals : Globals) (terms : CallerTerms) (payload : List ℕ)
    → request_refusal slot globals terms payload ≡ None → length payload ≤ 65388
request_limit slot globals terms payload none =
    either (not (topo_valid terms.topo globals.topo)) (nat_lt terms.timeout 1000)
    (nat_lt 8 terms.expected) (nat_lt 65388 (length payload)) refl none
  where
    rest : Option Refusal
    rest = if has_session kinds.Caller terms.session slot.objects then Some refusals.SessionOpen
        else option_or (opening_refusal slot kinds.Caller) (retries_refusal terms)

    either : (a b c d : Bool) → nat_lt 65388 (length payload) ≡ d
        → (if a then Some refusals.State else
        if b then Some refusals.Timeout else
        if c then Some refusals.Expected else
        if d then Some refusals.TooLong else rest) ≡ None
        → length payload ≤ 65388
    either true b c d is none = absurd (cc none)
    either false true c d is none = absurd (cc none)
    either false false true d is none = absurd (cc none)
    either false false false true is none = absurd (cc none)
    either false false false false is none = grind (arith, nat_tests)

requested_kept : (past : List Move) (m : Move) (s : ℕ) (slot : SlotState) (globals : Globals)
    (terms : CallerTerms) (payload : List ℕ) → m.event ≡ CallIs s (RequestCall terms payload)
    → IsCallerTerms terms → Each (EntryKept past m.before.setup m.node s) slot.objects
    → AreGiven m s (opened_with (request_refusal slot globals terms payload) slot
    (Caller (new_caller terms payload globals.now)) (request_sent terms payload ∷ [])).records
    → OutcomeKept past m s (opened_with (request_refusal slot globals terms payload) slot
    (Caller (new_caller terms payload globals.now)) (request_sent terms payload ∷ []))
unfolding request_of
requested_kept past m s slot globals terms payload event fits kept given =
    opened_kept past m s slot (request_refusal slot globals terms payload)
    (Caller (new_caller terms payload globals.now)) (request_sent terms payload ∷ []) kept
    (λ none by. record {
      requested = inl (request_made past m s slot terms payload event by);
      limit = request_limit slot globals terms payload none;
      answers = tt;
      apart = tt;
    })
    (λ none by. (
      sends_md (m ∷ past) (place_of Md m.before.setup) terms.to (request_of terms 0)
          payload (request_head terms 0 fits (omega arith))
          (request_limit slot globals terms payload none)
          (inl (spot m.node s slot.next, request_made past m s slot terms payload event by)),
      tt,
    ))
    given

-- the same of a granted Notify
pub notify_limit : (globals : Globals) (terms : NotifyTerms) (payload : List ℕ)
    → notify_refusal globals terms payload ≡ None → length payload ≤ 65388
notify_limit globals terms payload none =
    either (not (topo_valid terms.topo globals.topo)) (nat_lt 65388 (length payload)) refl none
  where
    either : (a b : Bool) → nat_lt 65388 (length payload) ≡ b
        → (if a then Some refusals.State else
        if b then Some refusals.TooLong else None) ≡ None
        → length payload ≤ 65388
    either true b is none = absurd (cc none)
    either false true is none = absurd (cc none)
    either false false is none = grind (arith, nat_tests)

notified_kept : (past : List Move) (m : Move) (s : ℕ) (slot : SlotState)
    (refusal : Option Refusal) (terms : NotifyTerms) (payload : List ℕ)
    → (refusal ≡ None → length payload ≤ 65388)
    → m.event ≡ CallIs s (NotifyCall terms payload) → IsNotifyTerms terms
    → Each (EntryKept past m.before.setup m.node s) slot.objects
    → AreGiven m s (told_unless refusal slot (notice terms payload ∷ [])).records
    → OutcomeKept past m s (told_unless refusal slot (notice terms payload ∷ []))
unfolding notification_of
notified_kept past m s slot (Some refusal) terms payload limit event fits kept given =
    refused_kept past m s slot refusal kept
notified_kept past m s slot None terms payload limit event fits kept given =
    let made : IsNotified (record {
      src = place_of Md m.before.setup;
      com_id = terms.com_id;
      source_uri = terms.source_uri;
      dest_uri = terms.dest_uri;
      payload = payload;
    }) m past = record {
      slot = s;
      terms = terms;
      makes = record { event_is = event; gives = given (Answers DoneIs) (inl refl) };
      place_is = refl;
      com_id_is = refl;
      source_uri_is = refl;
      dest_uri_is = refl;
    } in
    record {
      objects = entries_later past m m.before.setup m.node s slot.objects kept;
      tells = (
        tt,
        (
          sends_md (m ∷ past) (place_of Md m.before.setup) terms.to
              (notification_of terms) payload (notification_head terms fits) (limit refl)
              (inl made),
          tt,
        ),
      );
    }

never_valid : Never ≡ Valid → ⊥
never_valid is = absurd (cc)

-- what is known of a slot stays known at a call, and each record is explained
pub called_kept : (past : List Move) (m : Move) (s : ℕ) (slot : SlotState) (setup : NodeSetup)
    (globals : Globals) (call : CallModel) → m.event ≡ CallIs s call → IsTypedSending call
    → slice_get m.before.slots s ≡ Some slot → Each IsTypedEntry slot.objects
    → Each (EntryKept past m.before.setup m.node s) slot.objects
    → AreGiven m s (called setup slot globals call).records
    → OutcomeKept past m s (called setup slot globals call)
called_kept past m s slot setup globals (PublishCall terms) event fits slot_is typed kept given =
    opened_kept past m s slot (publish_refusal setup slot terms)
    (Publisher (published terms globals.now)) [] kept (λ none by. tt) (λ none by. tt) given
called_kept past m s slot setup globals (PutCall handle bytes) event fits slot_is typed kept
    given =
    at_handle_kept past m s slot handle (puts setup bytes) slot_is typed kept
    (λ x x_fits was held by. put_kept past m
    (spot m.node s handle) setup bytes x event was held by)
    given
called_kept past m s slot setup globals (UnpublishCall handle) event fits slot_is typed kept
    given =
    at_handle_kept past m s slot handle (ends kinds.Publisher) slot_is typed kept
    (λ x x_fits was held by. ends_kept past m (spot m.node s handle) kinds.Publisher x was) given
called_kept past m s slot setup globals (SubscribeCall terms) event fits slot_is typed kept given =
    opened_kept past m s slot (subscribe_refusal setup slot terms)
    (Subscription (subscribed terms (zero_size_of setup terms.dataset) globals.now)) [] kept
    (λ none by valid. absurd (never_valid valid)) (λ none by. tt) given
called_kept past m s slot setup globals (GetCall handle) event fits slot_is typed kept given =
    at_handle_kept past m s slot handle shows slot_is typed kept
    (λ x x_fits was held by. shows_kept past m (spot m.node s handle) x was) given
called_kept past m s slot setup globals (UnsubscribeCall handle) event fits slot_is typed kept
    given =
    at_handle_kept past m s slot handle (ends kinds.Subscription) slot_is typed kept
    (λ x x_fits was held by. ends_kept past m
    (spot m.node s handle) kinds.Subscription x was) given
called_kept past m s slot setup globals (OpenPullCall terms) event fits slot_is typed kept given =
    opened_kept past m s slot (opening_refusal slot kinds.Requester) (Requester (opened terms)) []
    kept (λ none by. tt) (λ none by. tt) given
called_kept past m s slot setup globals (PullCall handle) event fits slot_is typed kept given =
    at_handle_kept past m s slot handle (pulls globals) slot_is typed kept
    (λ x x_fits was held by. pull_kept past m (spot m.node s handle) globals x x_fits was) given
called_kept past m s slot setup globals (ClosePullCall handle) event fits slot_is typed kept
    given =
    at_handle_kept past m s slot handle (ends kinds.Requester) slot_is typed kept
    (λ x x_fits was held by. ends_kept past m (spot m.node s handle) kinds.Requester x was) given
called_kept past m s slot setup globals (ListenCall filter) event fits slot_is typed kept given =
    opened_kept past m s slot (listen_refusal slot filter) (Listener (listening filter)) [] kept
    (λ none by. tt) (λ none by. tt) given
called_kept past m s slot setup globals (UnlistenCall handle) event fits slot_is typed kept given =
    at_handle_kept past m s slot handle (ends kinds.Listener) slot_is typed kept
    (λ x x_fits was held by. ends_kept past m (spot m.node s handle) kinds.Listener x was) given
called_kept past m s slot setup globals (NotifyCall terms payload) event fits slot_is typed kept
    given =
    notified_kept past m s slot (notify_refusal globals terms payload) terms payload
    (notify_limit globals terms payload) event fits kept given
called_kept past m s slot setup globals (RequestCall terms payload) event fits slot_is typed kept
    given =
    requested_kept past m s slot globals terms payload event fits kept given
called_kept past m s slot setup globals (ReplyCall handle com_id status payload) event fits slot_is
    typed kept given =
    at_handle_kept past m s slot handle (replies com_id status payload) slot_is typed kept
    (λ x x_fits was held by. reply_kept past m (spot m.node s handle) com_id status payload x event
    fits.0 fits.1 x_fits was held by) given
called_kept past m s slot setup globals (QueryCall handle com_id status timeout payload) event fits
    slot_is typed kept given =
    at_handle_kept past m s slot handle (queries globals.now com_id status timeout payload) slot_is
    typed kept
    (λ x x_fits was held by. query_kept past m (spot m.node s handle) globals.now com_id status
    timeout payload x event fits.0 fits.1 fits.2 x_fits was held by) given
called_kept past m s slot setup globals (ReplyErrorCall handle com_id status) event fits slot_is
    typed kept given =
    at_handle_kept past m s slot handle (reply_errors com_id status) slot_is typed kept
    (λ x x_fits was held by. error_kept past m (spot m.node s handle) com_id status x event fits.0
    fits.1 x_fits was held by) given
called_kept past m s slot setup globals (ConfirmCall handle place status) event fits slot_is typed
    kept given =
    at_handle_kept past m s slot handle (confirms handle place status) slot_is typed kept
    (λ x x_fits was held by. confirm_kept past m (spot m.node s handle) place status x event fits
    x_fits was held by) given
called_kept past m s slot setup globals (AbortCall handle) event fits slot_is typed kept given =
    at_handle_kept past m s slot handle aborts slot_is typed kept
    (λ x x_fits was held by. abort_kept past m (spot m.node s handle) x was) given
called_kept past m s slot setup globals ResetCall event fits slot_is typed kept given =
    record { objects = tt; tells = (tt, tt) }
