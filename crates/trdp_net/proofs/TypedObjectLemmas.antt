-- An object that fits sends what fits, at a moment and at a telegram.
-- For the promises that need `AreTypedSteps`, through `TypedSlotLemmas`.
-- By cases on the kind of object; a counter stays below 2 ^ 32 since it wraps there.
use Rattle.std.proofs.Common.{◌≡◌, ℕ, ◌<◌, ◌≤◌, ◌+◌, ◌^◌, List, length}
use Rattle.std.proofs.Common.{Option, Some, None, Bool, true, false, sym, ◌∙◌, subst, arith}
use Rattle.std.specs.Prelude.{if◌then◌else◌}
use Rattle.std.proofs.Math.Nat.{mod-lt}
use Rattle.trdp_base.specs.declared.place.Place.{Place}
use Rattle.trdp_head.specs.declared.pd.PdHead.{PdHead}
use Rattle.trdp_head.specs.declared.md.MdHead.{MdHead}
use Rattle.trdp_head.specs.declared.md.MdKind.{MdKind}
use Rattle.trdp_head.specs.declared.md.MdKind.TheVariants as message
use Rattle.trdp_head.specs.MdHeads.{IsMdHead}
use Rattle.trdp_head.specs.MdTelegrams.{MdTelegram, md_telegram_of}
use Rattle.trdp_head.specs.MdBytes.{md_bytes}
use Rattle.trdp_head.proofs.MdBytesLemmas.{IsMdTelegram-md_bytes}
use Rattle.trdp_head.proofs.MdTelegramLemmas.{md_telegram-is}
use Rattle.trdp_filter.specs.declared.globals.Globals.{Globals}
use Rattle.trdp_filter.specs.Counts.{topo_valid}
use Rattle.trdp_filter.specs.Telegrams.{TelegramModel, PdIs, MdIs}
use Rattle.trdp_pd.specs.declared.object.Taken.{Taken}
use Rattle.trdp_pd.specs.declared.object.Taken.TheVariants as took
use Rattle.trdp_pd.specs.declared.object.Fired.TheVariants as fires
use Rattle.trdp_pd.specs.Effects.{Reception, Firing}
use Rattle.trdp_pd.specs.declared.terms.ValueState.{ValueState}
use Rattle.trdp_pd.specs.declared.terms.ValueState.TheVariants.{Never, Valid, Silent}
use Rattle.trdp_pd.specs.Publishers.{PublisherState, may_send, is_answered, next_due, next_counter}
use Rattle.trdp_pd.specs.Publishers.{data_head, reply_head}
use Rattle.trdp_pd.specs.Subscriptions.{SubscriptionState, is_accepted_value as is_stored, storing}
use Rattle.trdp_pd.specs.Subscriptions.{taken_in}
use Rattle.trdp_md.specs.declared.caller.Caller.{Caller as AnyCaller}
use Rattle.trdp_md.specs.declared.replier.Replier.{Replier as AnyReplier}
use Rattle.trdp_md.specs.Callers.{is_accepted_answer, answering, answer_taken, is_complete}
use Rattle.trdp_md.specs.Callers.{request_of}
use Rattle.trdp_md.specs.Callers.{is_repeating, waiting_again, repeating, reason_of}
use Rattle.trdp_md.specs.Listeners.{listener_addressed}
use Rattle.trdp_md.specs.Repliers.{is_for_replier, ended}
use Rattle.trdp_model.specs.declared.any_object.AnyObject.{AnyObject}
use Rattle.trdp_model.specs.declared.any_object.AnyObject.TheVariants.{Publisher, Subscription}
use Rattle.trdp_model.specs.declared.any_object.AnyObject.TheVariants.{Requester, Listener}
use Rattle.trdp_model.specs.declared.any_object.AnyObject.TheVariants.{Caller, Replier}
use Rattle.trdp_model.specs.declared.record.Protocol.{Protocol}
use Rattle.trdp_model.specs.declared.record.Protocol.TheVariants.{Pd, Md}
use Rattle.trdp_model.specs.Configs.{NodeSetup}
use Rattle.trdp_model.specs.Records.{AnswerModel, value_sent}
use Rattle.trdp_model.specs.Records.{Content, Answers, Indicates, Sends}
use Rattle.trdp_model.specs.Acts.{Act, answers}
use Rattle.trdp_model.specs.Moments.{firing_act}
use Rattle.trdp_model.specs.Moments.{firing_records, left_firing}
use Rattle.trdp_model.specs.Notices.{message_of, heard_as}
use Rattle.trdp_model.specs.Datagrams.{taking_act}
use Rattle.trdp_model.specs.Datagrams.{taken_records, left_taking}
use Rattle.trdp_model.specs.Datagrams.{fits_object}
use Rattle.trdp_model.specs.Pulls.{answer_place}
use Rattle.trdp_net.proofs.HeadLemmas.{request_head}
use Rattle.trdp_net.proofs.TypedMoveLemmas.{IsPublisher, IsTypedObject}
use Rattle.trdp_net.specs.Provenance.{Each}

-- a message that is sent is read with a header whose fields fit
abbrev pub IsSentTyped : Protocol → List ℕ → Type 0
IsSentTyped Pd bytes = Unit {0}
IsSentTyped Md bytes = (t : MdTelegram) → md_telegram_of bytes ≡ Some t → IsMdHead t.head

-- a record that sends a message sends one whose fields fit
abbrev pub IsTypedRecord : Content → Type 0
IsTypedRecord (Answers answer) = Unit {0}
IsTypedRecord (Indicates indication) = Unit {0}
IsTypedRecord (Sends protocol to bytes) = IsSentTyped protocol bytes

-- the same of each record
abbrev pub AreTyped : List Content → Type 0
AreTyped records = Each IsTypedRecord records

-- a message with a header that fits is read with one that fits
pub md_typed : (head : MdHead) (payload : List ℕ) → IsMdHead head → length payload ≤ 65388
    → IsSentTyped Md (md_bytes head payload)
md_typed head payload fits limit t is =
    let read : md_telegram_of (md_bytes head payload)
    ≡ Some (let w : MdTelegram = record { head = head; payload = payload } in w) =
    md_telegram-is (IsMdTelegram-md_bytes head payload fits limit) in
    let one : Some (let w : MdTelegram = record { head = head; payload = payload } in w) ≡ Some t =
    sym read ∙ is in
    let same : (let w : MdTelegram = record { head = head; payload = payload } in w)
    ≡ t = cc one in
    subst (λ (u : MdTelegram). IsMdHead u.head) same fits

-- what is left of an object fits
abbrev pub LeftTyped : Option AnyObject → Type 0
LeftTyped None = Unit {0}
LeftTyped (Some x) = IsTypedObject x

-- an act that leaves and sends what fits
pub record ActTyped (act : Act) : Type 0 where
  pub left : LeftTyped act.left
  pub sends : AreTyped act.records

-- an object that only answers
pub answers_typed : (x : AnyObject) (answer : AnswerModel) → IsTypedObject x
    → ActTyped (answers x answer)
answers_typed x answer fits = record { left = fits; sends = (tt, tt) }

value_typed : (to : Place) (head : PdHead) (value : Option (List ℕ))
    → AreTyped (value_sent to head value)
value_typed to head None = tt
value_typed to head (Some bytes) = (tt, tt)

-- the next sequence counter fits its field
pub next_fits : (counter : ℕ) → next_counter counter < 2 ^ 32
next_fits counter = mod-lt (counter + 1) (omega arith)

counted : (p : PublisherState) (due : ℕ) → IsPublisher p
    → IsPublisher (record p { due = due; counter = next_counter p.counter })
counted p due fits =
    record { counter = next_fits p.counter; com_id = fits.com_id; topo = fits.topo }

-- at a moment
pub fires_typed : (handle : ℕ) (globals : Globals) (x : AnyObject) → IsTypedObject x
    → ActTyped (firing_act globals (record { handle = handle; object = x }))
fires_typed handle globals (Publisher p) fits = either (may_send p globals)
  where
    act : Firing PublisherState → Act
    act f = record {
      left = left_firing f.fired (Publisher f.object);
      records = firing_records handle (Publisher p) f.fired;
    }

    either : (b : Bool) → ActTyped (act
        (if b then record {
          object = record p { due = next_due p globals.now; counter = next_counter p.counter };
          fired = fires.Data (data_head p);
        }
        else record { object = record p { due = next_due p globals.now }; fired = fires.Nothing }))
    either true = record {
      left = counted p (next_due p globals.now) fits;
      sends = value_typed p.terms.to (data_head p) p.value;
    }
    either false = record {
      left = record { counter = fits.counter; com_id = fits.com_id; topo = fits.topo };
      sends = tt;
    }
fires_typed handle globals (Subscription u) fits = record { left = tt; sends = (tt, tt) }
fires_typed handle globals (Requester r) fits = record { left = fits; sends = tt }
fires_typed handle globals (Listener l) fits = record { left = tt; sends = tt }
fires_typed handle globals (Caller c) fits = either (is_repeating c)
  where
    act : Firing AnyCaller → Act
    act f = record {
      left = left_firing f.fired (Caller f.object);
      records = firing_records handle (Caller c) f.fired;
    }

    repeats : (b : Bool) → ActTyped (act
        (if b then record {
          object = record (waiting_again c globals.now) { counter = next_counter c.counter };
          fired = fires.Again (request_of c.terms c.counter);
        }
        else record { object = waiting_again c globals.now; fired = fires.Nothing }))
    repeats true = record {
      left = record {
        terms = fits.terms;
        counter = next_fits c.counter;
        payload = fits.payload;
      };
      sends = (
        md_typed (request_of c.terms c.counter) c.payload
            (request_head c.terms c.counter fits.terms fits.counter) fits.payload,
        tt,
      );
    }
    repeats false = record {
      left = record { terms = fits.terms; counter = fits.counter; payload = fits.payload };
      sends = tt;
    }

    either : (b : Bool) → ActTyped (act
        (if b then repeating c globals
        else record { object = record c { deadline = None }; fired = fires.Closed (reason_of c) }))
    either true = repeats (topo_valid c.terms.topo globals.topo)
    either false = record { left = tt; sends = (tt, tt) }
fires_typed handle globals (Replier r) fits = record { left = tt; sends = (tt, tt) }

-- at a telegram
heard_typed : (kind : MdKind) (handle : ℕ) (src : Place) (t : MdTelegram)
    → AreTyped (heard_as kind handle (message_of src t))
heard_typed message.Notify handle src t = (tt, tt)
heard_typed message.Request handle src t = tt
heard_typed message.Reply handle src t = tt
heard_typed message.Query handle src t = tt
heard_typed message.Confirm handle src t = tt
heard_typed message.Error handle src t = tt

-- the act of an object that took a telegram so
abbrev took_act : NodeSetup → TelegramModel → ℕ → AnyObject → Taken → AnyObject → Act
took_act setup telegram handle x taken after =
    record {
      left = left_taking taken after;
      records = taken_records setup telegram handle x
          taken;
    }

-- any object that fits, at a telegram
pub takes_typed : (handle : ℕ) (setup : NodeSetup) (telegram : TelegramModel)
    (globals : Globals) (x : AnyObject) → IsTypedObject x
    → ActTyped (taking_act setup telegram globals
    (record { handle = handle; object = x }))
unfolding answer_taken
takes_typed handle setup (MdIs src dst t) globals (Publisher p) fits =
    record { left = fits; sends = tt }
takes_typed handle setup (PdIs src dst t) globals (Publisher p) fits =
    either (is_answered p t.head globals)
  where
    act : Reception PublisherState → Act
    act f = took_act setup (PdIs src dst t) handle (Publisher p) f.taken (Publisher f.object)

    either : (b : Bool) → ActTyped (act
        (if b then record {
          object = record p { counter = next_counter p.counter };
          taken = took.Pulled (reply_head p);
        }
        else record { object = p; taken = took.Nothing }))
    either true = record {
      left = record { counter = next_fits p.counter; com_id = fits.com_id; topo = fits.topo };
      sends = value_typed (answer_place setup (PdIs src dst t)) (reply_head p) p.value;
    }
    either false = record { left = fits; sends = tt }
takes_typed handle setup (MdIs src dst t) globals (Subscription u) fits =
    record { left = tt; sends = tt }
takes_typed handle setup (PdIs src dst t) globals (Subscription u) fits =
    either
    (is_stored u src dst t.head globals (fits_object setup (PdIs src dst t) (Subscription u)))
  where
    act : Reception SubscriptionState → Act
    act f = took_act setup (PdIs src dst t) handle (Subscription u) f.taken (Subscription f.object)

    stored : (state : ValueState) → ActTyped
        (act (record { object = storing u src t globals.now; taken = taken_in state }))
    stored Never = record { left = tt; sends = tt }
    stored Valid = record { left = tt; sends = tt }
    stored Silent = record { left = tt; sends = (tt, tt) }

    either : (b : Bool) → ActTyped (act
        (if b then record { object = storing u src t globals.now; taken = taken_in u.state }
        else record { object = u; taken = took.Nothing }))
    either true = stored u.state
    either false = record { left = tt; sends = tt }
takes_typed handle setup telegram globals (Requester r) fits =
    record { left = fits; sends = tt }
takes_typed handle setup (PdIs src dst t) globals (Listener l) fits =
    record { left = tt; sends = tt }
takes_typed handle setup (MdIs src dst t) globals (Listener l) fits =
    either (listener_addressed l (MdIs src dst t) globals)
  where
    either : (b : Bool) → ActTyped (took_act setup (MdIs src dst t) handle (Listener l)
        (if b then took.Heard else took.Nothing) (Listener l))
    either true = record { left = tt; sends = heard_typed t.head.kind handle src t }
    either false = record { left = tt; sends = tt }
takes_typed handle setup (PdIs src dst t) globals (Caller c) fits =
    record { left = fits; sends = tt }
takes_typed handle setup (MdIs src dst t) globals (Caller c) fits =
    either (is_accepted_answer c src t.head)
  where
    after : AnyCaller
    after = answering c src t.head globals.now

    act : Reception AnyCaller → Act
    act f = took_act setup (MdIs src dst t) handle (Caller c) f.taken (Caller f.object)

    last : (b : Bool) → ActTyped
        (act (record { object = after; taken = if b then took.RepliedLast else took.Replied }))
    last true = record { left = tt; sends = (tt, (tt, tt)) }
    last false = record {
      left = record { terms = fits.terms; counter = fits.counter; payload = fits.payload };
      sends = (tt, tt);
    }

    either : (b : Bool) → ActTyped (act
        (if b then record { object = after; taken = answer_taken after }
        else record { object = c; taken = took.Nothing }))
    either true = last (is_complete after)
    either false = record { left = fits; sends = tt }
takes_typed handle setup (PdIs src dst t) globals (Replier r) fits =
    record { left = fits; sends = tt }
takes_typed handle setup (MdIs src dst t) globals (Replier r) fits =
    either (is_for_replier r src t.head)
  where
    act : Reception AnyReplier → Act
    act f = took_act setup (MdIs src dst t) handle (Replier r) f.taken (Replier f.object)

    either : (b : Bool) → ActTyped (act
        (if b then record { object = ended r; taken = took.Confirmed t.head.status }
        else record { object = r; taken = took.Nothing }))
    either true = record { left = tt; sends = (tt, tt) }
    either false = record { left = fits; sends = tt }
