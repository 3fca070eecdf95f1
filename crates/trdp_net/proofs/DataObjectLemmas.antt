-- Publishers, subscriptions and requesters, in one move.
-- For `no_invented_value`, through `ObjectLemmas`.
-- A publisher's value was put, and a telegram carries what was put, so a subscription shows that.
use Rattle.std.proofs.Common.{◌≡◌, ℕ, ◌≤◌, List, [], ◌∷◌, length, Option, Some, None, Bool, true}
use Rattle.std.proofs.Common.{false, refl, ap, sym, ◌∙◌, subst, arith, inl, inr}
use Rattle.std.specs.Prelude.{◌⊎◌, if◌then◌else◌}
use Rattle.trdp_base.specs.declared.place.Place.{Place}
use Rattle.trdp_head.specs.declared.pd.PdKind.{PdKind}
use Rattle.trdp_head.specs.declared.pd.PdKind.TheVariants as data_kind
use Rattle.trdp_head.specs.PdTelegrams.{PdTelegram}
use Rattle.trdp_filter.specs.declared.globals.Globals.{Globals}
use Rattle.trdp_filter.specs.Telegrams.{TelegramModel, PdIs, MdIs}
use Rattle.trdp_pd.specs.declared.terms.ValueState.TheVariants.{Never, Valid, Silent}
use Rattle.trdp_pd.specs.declared.terms.ValueState.{ValueState}
use Rattle.trdp_pd.specs.declared.terms.SubscriptionTerms.{SubscriptionTerms}
use Rattle.trdp_pd.specs.declared.object.Taken.{Taken}
use Rattle.trdp_pd.specs.declared.object.Taken.TheVariants as took
use Rattle.trdp_pd.specs.Publishers.{PublisherState, head_as, may_send}
use Rattle.trdp_pd.specs.Publishers.{is_answered, next_due, next_counter}
use Rattle.trdp_pd.specs.declared.object.Fired.TheVariants as fires
use Rattle.trdp_pd.specs.Effects.{Reception, Firing}
use Rattle.trdp_pd.specs.Requesters.{RequesterState, pull_head}
use Rattle.trdp_pd.specs.Subscriptions.{SubscriptionState, is_accepted_value}
use Rattle.trdp_pd.specs.Subscriptions.{HasTaken, IsOfValue, taken_in, storing}
use Rattle.trdp_pd.proofs.SubscriptionLemmas.{HasTaken-taking}
use Rattle.trdp_model.specs.declared.any_object.AnyObject.TheVariants.{Publisher, Subscription}
use Rattle.trdp_model.specs.declared.record.Protocol.TheVariants.{Pd}
use Rattle.trdp_model.specs.declared.fault.Refusal.{Refusal}
use Rattle.trdp_model.specs.Configs.{NodeSetup}
use Rattle.trdp_model.specs.Records.{Content, DoneIs, Answers}
use Rattle.trdp_model.specs.Records.{value_sent}
use Rattle.trdp_model.specs.Acts.{Act}
use Rattle.trdp_model.specs.Moments.{firing_act, left_firing, firing_records}
use Rattle.trdp_model.specs.Datagrams.{taking_act, taken_records, left_taking, fits_object}
use Rattle.trdp_model.specs.Calls.{puts_unless}
use Rattle.trdp_model.specs.Pulls.{answer_place, pulls_if}
use Rattle.trdp_model.specs.Events.{PutCall, CallIs}
use Rattle.trdp_net.specs.Networks.{Move, place_of}
use Rattle.trdp_net.specs.Provenance.{Ever, In, Spot, Gives, Held, IsPut}
use Rattle.trdp_net.proofs.Kept.{WasPut, ValueKept, value_later, ActKept}
use Rattle.trdp_net.proofs.HeadLemmas.{publisher_head, requester_head}
use Rattle.trdp_net.proofs.SendingLemmas.{sends_pd}
use Rattle.trdp_net.proofs.Explained.{DataBy, ToldBy}
use Rattle.trdp_net.proofs.TypedMoveLemmas.{IsPublisher, IsRequester}
use Rattle.trdp_net.specs.Provenance.{Each}

-- a value that is sent as data or as a pull reply
value_kept : (past : List Move) (m : Move) (k s : ℕ) (to : Place) (kind : PdKind)
    (p : PublisherState) (value : Option (List ℕ)) → IsPublisher p
    → ((bytes : List ℕ) → WasPut past p.terms.com_id bytes
    → DataBy kind (m ∷ past) (record { head = head_as kind p; payload = bytes }))
    → ValueKept past p.terms.com_id value
    → Each (ToldBy past m k s) (value_sent to (head_as kind p) value)
value_kept past m k s to kind p None fits origin kept = tt
value_kept past m k s to kind p (Some bytes) fits origin kept = (
  sends_pd (m ∷ past) (place_of Pd m.before.setup) to (head_as kind p) bytes
      (publisher_head kind p fits) kept.limit (origin bytes kept),
  tt,
)

data_origin : (past : List Move) (m : Move) (p : PublisherState) (bytes : List ℕ)
    → WasPut past p.terms.com_id bytes
    → DataBy data_kind.Data (m ∷ past)
    (record { head = head_as data_kind.Data p; payload = bytes })
data_origin past m p bytes was = inr was.put

reply_origin : (past : List Move) (m : Move) (p : PublisherState) (bytes : List ℕ)
    → WasPut past p.terms.com_id bytes
    → DataBy data_kind.PullReply (m ∷ past)
    (record { head = head_as data_kind.PullReply p; payload = bytes })
reply_origin past m p bytes was = inr was.put

-- the act of a publisher that fired so
abbrev fired_act : ℕ → PublisherState → Firing PublisherState → Act
fired_act handle p f = record {
  left = left_firing f.fired (Publisher f.object);
  records = firing_records handle (Publisher p) f.fired;
}

-- a publisher whose moment has come
pub publisher_fires : (past : List Move) (m : Move) (at : Spot) (globals : Globals)
    (p : PublisherState) → IsPublisher p → ValueKept past p.terms.com_id p.value
    → ActKept past m at
    (firing_act globals (record { handle = at.handle; object = Publisher p }))
publisher_fires past m at globals p fits kept = either (may_send p globals)
  where
    either : (b : Bool) → ActKept past m at (fired_act at.handle p
        (if b then record {
          object = record p { due = next_due p globals.now; counter = next_counter p.counter };
          fired = fires.Data (head_as data_kind.Data p);
        }
        else record { object = record p { due = next_due p globals.now }; fired = fires.Nothing }))
    either true = record {
      stays = value_later past m p.terms.com_id p.value kept;
      tells = value_kept past m at.node at.slot p.terms.to data_kind.Data p p.value fits
          (data_origin past m p) kept;
    }
    either false =
        record { stays = value_later past m p.terms.com_id p.value kept; tells = tt }

-- the act of a publisher that took a telegram so
abbrev took_act : NodeSetup → TelegramModel → ℕ → PublisherState → Reception PublisherState → Act
took_act setup telegram handle p f = record {
  left = left_taking f.taken (Publisher f.object);
  records = taken_records setup telegram handle (Publisher p) f.taken;
}

-- a publisher at a telegram
pub publisher_takes : (past : List Move) (m : Move) (at : Spot) (setup : NodeSetup)
    (telegram : TelegramModel) (globals : Globals) (p : PublisherState)
    → IsPublisher p → ValueKept past p.terms.com_id p.value
    → ActKept past m at (taking_act setup telegram globals
    (record { handle = at.handle; object = Publisher p }))
publisher_takes past m at setup (MdIs src dst telegram) globals p fits kept =
    record { stays = value_later past m p.terms.com_id p.value kept; tells = tt }
publisher_takes past m at setup (PdIs src dst telegram) globals p fits kept =
    either (is_answered p telegram.head globals)
  where
    either : (b : Bool) → ActKept past m at
        (took_act setup (PdIs src dst telegram) at.handle p
        (if b then record {
          object = record p { counter = next_counter p.counter };
          taken = took.Pulled (head_as data_kind.PullReply p);
        }
        else record { object = p; taken = took.Nothing }))
    either true = record {
      stays = value_later past m p.terms.com_id p.value kept;
      tells = value_kept past m at.node at.slot
          (answer_place setup (PdIs src dst telegram)) data_kind.PullReply p p.value fits
          (reply_origin past m p) kept;
    }
    either false =
        record { stays = value_later past m p.terms.com_id p.value kept; tells = tt }

not_silent_valid : Silent ≡ Valid → ⊥
not_silent_valid is = absurd (cc)

-- a subscription whose moment has come
pub subscription_fires : (past : List Move) (m : Move) (at : Spot) (globals : Globals)
    (u : SubscriptionState)
    → ActKept past m at
    (firing_act globals (record { handle = at.handle; object = Subscription u }))
subscription_fires past m at globals u =
    record { stays = λ valid. absurd (not_silent_valid valid); tells = (tt, tt) }

-- what was sent as a value was put
value_origin : (past : List Move) (src dst : Place) (t : PdTelegram)
    → IsOfValue (PdIs src dst t) → DataBy t.head.kind past t
    → Ever (IsPut t.head.com_id t.payload) past
value_origin past src dst t (inl is) origin =
    subst (λ (k : PdKind). DataBy k past t) is origin
value_origin past src dst t (inr is) origin =
    subst (λ (k : PdKind). DataBy k past t) is origin

-- what a subscription took
took_kept : (past : List Move) (m : Move) (at : Spot) (setup : NodeSetup) (src dst : Place)
    (t : PdTelegram) (u after : SubscriptionState) (taken : Taken)
    → (taken ≡ took.Nothing) ⊎ ((taken ≡ took.Stored) ⊎ (taken ≡ took.Alive))
    → (after.state ≡ Valid → Ever (IsPut after.terms.filter.com_id after.value) (m ∷ past))
    → ActKept past m at (record {
      left = left_taking taken (Subscription after);
      records = taken_records setup (PdIs src dst t) at.handle (Subscription u) taken;
    })
took_kept past m at setup src dst t u after taken (inl is) kept =
    rw is (record { stays = kept; tells = tt })
took_kept past m at setup src dst t u after taken (inr (inl is)) kept =
    rw is (record { stays = kept; tells = tt })
took_kept past m at setup src dst t u after taken (inr (inr is)) kept =
    rw is (record { stays = kept; tells = (tt, tt) })

takes_in : (u : SubscriptionState)
    → (taken_in u.state ≡ took.Nothing)
    ⊎ ((taken_in u.state ≡ took.Stored) ⊎ (taken_in u.state ≡ took.Alive))
takes_in u = by_state u.state
  where
    by_state : (state : ValueState) → (taken_in state ≡ took.Nothing)
        ⊎ ((taken_in state ≡ took.Stored) ⊎ (taken_in state ≡ took.Alive))
    by_state Never = inr (inl refl)
    by_state Valid = inr (inl refl)
    by_state Silent = inr (inr refl)

-- the act of a subscription that took a telegram so
abbrev subscription_act :
    NodeSetup → TelegramModel → ℕ → SubscriptionState → Reception SubscriptionState → Act
subscription_act setup telegram handle u f = record {
  left = left_taking f.taken (Subscription f.object);
  records = taken_records setup telegram handle (Subscription u) f.taken;
}

-- a subscription at a telegram that carries what was put
pub subscription_takes : (past : List Move) (m : Move) (at : Spot) (setup : NodeSetup)
    (src dst : Place) (t : PdTelegram) (globals : Globals) (u : SubscriptionState)
    → DataBy t.head.kind past t
    → (u.state ≡ Valid → Ever (IsPut u.terms.filter.com_id u.value) past)
    → ActKept past m at (taking_act setup (PdIs src dst t) globals
    (record { handle = at.handle; object = Subscription u }))
subscription_takes past m at setup src dst t globals u origin kept =
    either (is_accepted_value u src dst t.head globals fits) refl
  where
    fits : Bool
    fits = fits_object setup (PdIs src dst t) (Subscription u)

    valid_after : (after : SubscriptionState) → after.terms ≡ u.terms
        → (after ≡ u) ⊎ HasTaken u (PdIs src dst t) fits after
        → after.state ≡ Valid → Ever (IsPut after.terms.filter.com_id after.value) (m ∷ past)
    valid_after after terms (inl same) valid =
        inr (subst
        (λ (v : SubscriptionState). v.state ≡ Valid
        → Ever (IsPut v.terms.filter.com_id v.value) past)
        (sym same) kept valid)
    valid_after after terms (inr has) valid =
        let com_id : t.head.com_id ≡ after.terms.filter.com_id =
        has.com_id ∙ ap (λ (w : SubscriptionTerms). w.filter.com_id) (sym terms) in
        inr (subst (λ (c : ℕ). Ever (IsPut c after.value) past) com_id
        (subst (λ (v : List ℕ). Ever (IsPut t.head.com_id v) past) (sym has.value)
        (value_origin past src dst t has.kind origin)))

    either : (b : Bool) → is_accepted_value u src dst t.head globals fits ≡ b
        → ActKept past m at (subscription_act setup (PdIs src dst t) at.handle u
        (if b then record { object = storing u src t globals.now; taken = taken_in u.state }
        else record { object = u; taken = took.Nothing }))
    either true is =
        let has = HasTaken-taking u (PdIs src dst t) globals fits in
        took_kept past m at setup src dst t u (storing u src t globals.now)
        (taken_in u.state) (takes_in u)
        (valid_after (storing u src t globals.now) refl
        (rw is at has))
    either false is =
        took_kept past m at setup src dst t u u took.Nothing (inl refl) (λ valid. inr (kept valid))

-- a value that is put
pub puts_kept : (past : List Move) (m : Move) (at : Spot) (bytes : List ℕ)
    (refusal : Option Refusal) (p : PublisherState)
    → (refusal ≡ None → length bytes ≤ 1432)
    → m.event ≡ CallIs at.slot (PutCall at.handle bytes)
    → ValueKept past p.terms.com_id p.value → Held at (Publisher p) m
    → ((content : Content) → In content (puts_unless refusal bytes p).records
    → Gives at.node at.slot content m)
    → ActKept past m at (puts_unless refusal bytes p)
puts_kept past m at bytes (Some refusal) p limit event kept held given =
    record { stays = value_later past m p.terms.com_id p.value kept; tells = (tt, tt) }
puts_kept past m at bytes None p limit event kept held given = record {
  stays = record {
    put = inl (record {
      at = at;
      p = p;
      makes = record { event_is = event; gives = given (Answers DoneIs) (inl refl) };
      held = held;
      com_id_is = refl;
    });
    limit = limit refl;
  };
  tells = (tt, tt);
}

-- a pull request
pub pulls_kept : (past : List Move) (m : Move) (at : Spot) (b : Bool) (r : RequesterState)
    → IsRequester r → ActKept past m at (pulls_if b r)
pulls_kept past m at false r fits = record { stays = tt; tells = (tt, tt) }
pulls_kept past m at true r fits = record {
  stays = tt;
  tells = (
    tt,
    (
      sends_pd (m ∷ past) (place_of Pd m.before.setup) r.terms.to (pull_head r) []
          (requester_head r fits) (omega arith) tt,
      tt,
    ),
  );
}
