-- From which places an answer is reported to an object at a telegram: from one more at most.
-- For `no_invented_reply`, its clause `distinct`, through `HeardSlotLemmas`.
-- Only a caller reports an answer, and only one whose place isn't yet among its answers.
use Rattle.std.proofs.Common.{◌≡◌, ℕ, List, [], ◌∷◌, ◌++◌, Bool, true}
use Rattle.std.proofs.Common.{false, refl, sym, subst, arith}
use Rattle.std.specs.Prelude.{not, ◌==◌, ◌&&◌, if◌then◌else◌}
use Rattle.std.proofs.lemmas.Bool.Decides.{nat_tests}
use Rattle.trdp_base.specs.declared.place.Place.{Place}
use Rattle.trdp_head.specs.declared.md.MdKind.{MdKind}
use Rattle.trdp_head.specs.declared.md.MdKind.TheVariants as message
use Rattle.trdp_head.specs.MdTelegrams.{MdTelegram}
use Rattle.trdp_filter.specs.declared.globals.Globals.{Globals}
use Rattle.trdp_filter.specs.Telegrams.{TelegramModel, PdIs, MdIs}
use Rattle.trdp_pd.specs.declared.object.Taken.{Taken}
use Rattle.trdp_pd.specs.declared.object.Taken.TheVariants as took
use Rattle.trdp_pd.specs.Effects.{Reception}
use Rattle.trdp_pd.specs.declared.terms.ValueState.{ValueState}
use Rattle.trdp_pd.specs.declared.terms.ValueState.TheVariants.{Never, Valid, Silent}
use Rattle.trdp_pd.specs.Publishers.{PublisherState, is_answered}
use Rattle.trdp_pd.specs.Publishers.{next_counter, reply_head}
use Rattle.trdp_pd.specs.Subscriptions.{SubscriptionState, is_accepted_value as is_stored, storing}
use Rattle.trdp_pd.specs.Subscriptions.{taken_in}
use Rattle.trdp_md.specs.declared.caller.Caller.{Caller as AnyCaller}
use Rattle.trdp_md.specs.declared.replier.Replier.{Replier as AnyReplier}
use Rattle.trdp_md.specs.declared.listener.Listener.{Listener as AnyListener}
use Rattle.trdp_md.specs.Answers.{has_answered}
use Rattle.trdp_md.specs.Callers.{is_accepted_answer, is_for_caller, has_place, answering}
use Rattle.trdp_md.specs.Callers.{answer_of}
use Rattle.trdp_md.specs.Callers.{answer_taken, is_complete}
use Rattle.trdp_md.specs.Listeners.{listener_addressed}
use Rattle.trdp_md.specs.Repliers.{is_for_replier, ended}
use Rattle.trdp_model.specs.declared.any_object.AnyObject.{AnyObject}
use Rattle.trdp_model.specs.declared.any_object.AnyObject.TheVariants.{Publisher, Subscription}
use Rattle.trdp_model.specs.declared.any_object.AnyObject.TheVariants.{Requester, Listener}
use Rattle.trdp_model.specs.declared.any_object.AnyObject.TheVariants.{Caller, Replier}
use Rattle.trdp_model.specs.Configs.{NodeSetup}
use Rattle.trdp_model.specs.Acts.{Act}
use Rattle.trdp_model.specs.Notices.{message_of, heard_as}
use Rattle.trdp_model.specs.Datagrams.{taking_act, taken_records, left_taking, fits_object}
use Rattle.trdp_model.specs.Pulls.{answer_place}
use Rattle.trdp_net.specs.Promises.{replied_in, IsNew, AreDistinct}
use Rattle.trdp_net.proofs.PartLemmas.{and_right}
use Rattle.trdp_net.proofs.CallerLemmas.{answered_push}
use Rattle.trdp_net.proofs.HeardLemmas.{Covers, CoversLeft, IsQuiet, QuietAct, value_quiet}
use Rattle.trdp_md.proofs.AnswerLemmas.{flipped}

-- at a telegram

-- an act that may report an answer to the object of its handle, from a place from which nothing
-- was reported yet
pub record HeardAct (places : List Place) (handle : ℕ) (act : Act) : Type 0 where
  pub covers : CoversLeft (replied_in handle act.records ++ places) act.left
  pub distinct : AreDistinct (replied_in handle act.records ++ places)
  pub others : (h : ℕ) → (handle == h) ≡ false → replied_in h act.records ≡ []

quiet_heard : (places : List Place) (handle : ℕ) (act : Act) → AreDistinct places
    → QuietAct places act → HeardAct places handle act
quiet_heard places handle act distinct is = record {
  covers =
      subst (λ (ps : List Place). CoversLeft (ps ++ places) act.left) (sym (is.quiet handle))
      is.covers;
  distinct =
      subst (λ (ps : List Place). AreDistinct (ps ++ places)) (sym (is.quiet handle)) distinct;
  others = λ h other. is.quiet h;
}

-- the act of an object that took a telegram so
abbrev took_act : NodeSetup → TelegramModel → ℕ → AnyObject → Taken → AnyObject → Act
took_act setup telegram handle x taken after =
    record {
      left = left_taking taken after;
      records = taken_records setup telegram handle x
          taken;
    }

publisher_quiet : (places : List Place) (handle : ℕ) (setup : NodeSetup)
    (telegram : TelegramModel) (globals : Globals) (p : PublisherState)
    → QuietAct places (taking_act setup telegram globals
    (record { handle = handle; object = Publisher p }))
publisher_quiet places handle setup (MdIs src dst t) globals p =
    record { covers = tt; quiet = λ h. refl }
publisher_quiet places handle setup (PdIs src dst t) globals p =
    either (is_answered p t.head globals)
  where
    act : Reception PublisherState → Act
    act f = took_act setup (PdIs src dst t) handle (Publisher p) f.taken (Publisher f.object)

    either : (b : Bool) → QuietAct places (act
        (if b then record {
          object = record p { counter = next_counter p.counter };
          taken = took.Pulled (reply_head p);
        }
        else record { object = p; taken = took.Nothing }))
    either true = record {
      covers = tt;
      quiet = value_quiet (answer_place setup (PdIs src dst t)) (reply_head p) p.value;
    }
    either false = record { covers = tt; quiet = λ h. refl }

subscription_quiet : (places : List Place) (handle : ℕ) (setup : NodeSetup)
    (telegram : TelegramModel) (globals : Globals) (u : SubscriptionState)
    → QuietAct places (taking_act setup telegram globals
    (record { handle = handle; object = Subscription u }))
subscription_quiet places handle setup (MdIs src dst t) globals u =
    record { covers = tt; quiet = λ h. refl }
subscription_quiet places handle setup (PdIs src dst t) globals u =
    either
    (is_stored u src dst t.head globals (fits_object setup (PdIs src dst t) (Subscription u)))
  where
    act : Reception SubscriptionState → Act
    act f = took_act setup (PdIs src dst t) handle (Subscription u) f.taken (Subscription f.object)

    stored : (state : ValueState) → QuietAct places
        (act (record { object = storing u src t globals.now; taken = taken_in state }))
    stored Never = record { covers = tt; quiet = λ h. refl }
    stored Valid = record { covers = tt; quiet = λ h. refl }
    stored Silent = record { covers = tt; quiet = λ h. refl }

    either : (b : Bool) → QuietAct places (act
        (if b then record { object = storing u src t globals.now; taken = taken_in u.state }
        else record { object = u; taken = took.Nothing }))
    either true = stored u.state
    either false = record { covers = tt; quiet = λ h. refl }

heard_quiet : (kind : MdKind) (handle : ℕ) (src : Place) (t : MdTelegram)
    → IsQuiet (heard_as kind handle (message_of src t))
heard_quiet message.Notify handle src t h = refl
heard_quiet message.Request handle src t h = refl
heard_quiet message.Reply handle src t h = refl
heard_quiet message.Query handle src t h = refl
heard_quiet message.Confirm handle src t h = refl
heard_quiet message.Error handle src t h = refl

listener_quiet : (places : List Place) (handle : ℕ) (setup : NodeSetup)
    (telegram : TelegramModel) (globals : Globals) (l : AnyListener)
    → QuietAct places (taking_act setup telegram globals
    (record { handle = handle; object = Listener l }))
listener_quiet places handle setup (PdIs src dst t) globals l =
    record { covers = tt; quiet = λ h. refl }
listener_quiet places handle setup (MdIs src dst t) globals l =
    either (listener_addressed l (MdIs src dst t) globals)
  where
    either : (b : Bool) → QuietAct places
        (took_act setup (MdIs src dst t) handle (Listener l)
        (if b then took.Heard else took.Nothing) (Listener l))
    either true = record { covers = tt; quiet = heard_quiet t.head.kind handle src t }
    either false = record { covers = tt; quiet = λ h. refl }

replier_quiet : (places : List Place) (handle : ℕ) (setup : NodeSetup)
    (telegram : TelegramModel) (globals : Globals) (r : AnyReplier)
    → QuietAct places (taking_act setup telegram globals
    (record { handle = handle; object = Replier r }))
replier_quiet places handle setup (PdIs src dst t) globals r =
    record { covers = tt; quiet = λ h. refl }
replier_quiet places handle setup (MdIs src dst t) globals r =
    either (is_for_replier r src t.head)
  where
    act : Reception AnyReplier → Act
    act f = took_act setup (MdIs src dst t) handle (Replier r) f.taken (Replier f.object)

    either : (b : Bool) → QuietAct places (act
        (if b then record { object = ended r; taken = took.Confirmed t.head.status }
        else record { object = r; taken = took.Nothing }))
    either true = record { covers = tt; quiet = λ h. refl }
    either false = record { covers = tt; quiet = λ h. refl }

same_handle : (h : ℕ) → (h == h) ≡ true
same_handle h = grind (arith, nat_tests)

caller_heard : (places : List Place) (handle : ℕ) (setup : NodeSetup)
    (telegram : TelegramModel) (globals : Globals) (c : AnyCaller)
    → AreDistinct places → Covers places (Caller c)
    → HeardAct places handle (taking_act setup telegram globals
    (record { handle = handle; object = Caller c }))
unfolding answer_taken is_accepted_answer
caller_heard places handle setup (PdIs src dst t) globals c distinct covers =
    record { covers = covers; distinct = distinct; others = λ h other. refl }
caller_heard places handle setup (MdIs src dst t) globals c distinct covers =
    either (is_accepted_answer c src t.head) refl
  where
    after : AnyCaller
    after = answering c src t.head globals.now

    act : Reception AnyCaller → Act
    act f = took_act setup (MdIs src dst t) handle (Caller c) f.taken (Caller f.object)

    fresh : is_accepted_answer c src t.head ≡ true → IsNew src places
    fresh accepted =
        covers src (flipped (has_answered c.answers src)
        (and_right (is_for_caller c t.head && has_place c) (not (has_answered c.answers src))
        accepted))

    more : (b : Bool) → b ≡ true → is_accepted_answer c src t.head ≡ true
        → Covers ((if b then src ∷ [] else []) ++ places) (Caller after)
    more true is accepted =
        λ p none. let parts = answered_push c.answers (answer_of src t.head) p none in
        (parts.1, covers p parts.0)
    more false is accepted = absurd (cc is)

    distinct_more : (b : Bool) → b ≡ true → is_accepted_answer c src t.head ≡ true
        → AreDistinct ((if b then src ∷ [] else []) ++ places)
    distinct_more true is accepted = (fresh accepted, distinct)
    distinct_more false is accepted = absurd (cc is)

    none_told : (b : Bool) → b ≡ false
        → (let ps : List Place = (if b then src ∷ [] else []) in ps) ≡ []
    none_told true is = absurd (cc is)
    none_told false is = refl

    last : (b : Bool) → is_accepted_answer c src t.head ≡ true → HeardAct places handle
        (act (record { object = after; taken = if b then took.RepliedLast else took.Replied }))
    last true accepted = record {
      covers = tt;
      distinct = distinct_more (handle == handle) (same_handle handle) accepted;
      others = λ h other. none_told (handle == h) other;
    }
    last false accepted = record {
      covers = more (handle == handle) (same_handle handle) accepted;
      distinct = distinct_more (handle == handle) (same_handle handle) accepted;
      others = λ h other. none_told (handle == h) other;
    }

    either : (b : Bool) → is_accepted_answer c src t.head ≡ b → HeardAct places handle (act
        (if b then record { object = after; taken = answer_taken after }
        else record { object = c; taken = took.Nothing }))
    either true accepted = last (is_complete after) accepted
    either false accepted =
        record { covers = covers; distinct = distinct; others = λ h other. refl }

-- any object at a telegram
pub takes_heard : (places : List Place) (handle : ℕ) (setup : NodeSetup)
    (telegram : TelegramModel) (globals : Globals) (x : AnyObject)
    → AreDistinct places → Covers places x
    → HeardAct places handle (taking_act setup telegram globals
    (record { handle = handle; object = x }))
takes_heard places handle setup telegram globals (Publisher p) distinct covers =
    quiet_heard places handle _ distinct
    (publisher_quiet places handle setup telegram globals p)
takes_heard places handle setup telegram globals (Subscription u) distinct covers =
    quiet_heard places handle _ distinct
    (subscription_quiet places handle setup telegram globals u)
takes_heard places handle setup telegram globals (Requester r) distinct covers =
    record { covers = tt; distinct = distinct; others = λ h other. refl }
takes_heard places handle setup telegram globals (Listener l) distinct covers =
    quiet_heard places handle _ distinct
    (listener_quiet places handle setup telegram globals l)
takes_heard places handle setup telegram globals (Caller c) distinct covers =
    caller_heard places handle setup telegram globals c distinct covers
takes_heard places handle setup telegram globals (Replier r) distinct covers =
    quiet_heard places handle _ distinct
    (replier_quiet places handle setup telegram globals r)
