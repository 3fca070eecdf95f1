-- A subscription, its telegrams and its supervision.
use Rattle.std.specs.Prelude.{◌≡◌, ◌⊎◌, ℕ, ◌+◌, ◌-◌, ◌%◌, ◌^◌, List, length, replicate, Option}
use Rattle.std.specs.Prelude.{Some, None, Bool, true, false, not, nat_lt, ◌==◌, ◌&&◌}
use Rattle.std.specs.Prelude.{if◌then◌else◌}
use Rattle.trdp_base.specs.declared.place.Ip.{Ip}
use Rattle.trdp_base.specs.declared.place.Place.{Place}
use Rattle.trdp_head.specs.declared.pd.PdHead.{PdHead}
use Rattle.trdp_head.specs.declared.pd.PdKind.{PdKind}
use Rattle.trdp_head.specs.declared.pd.PdKind.TheVariants.{Data, PullReply}
use Rattle.trdp_head.specs.PdKinds.{pd_code_of}
use Rattle.trdp_head.specs.PdTelegrams.{PdTelegram}
use Rattle.trdp_filter.specs.declared.globals.Globals.{Globals}
use Rattle.trdp_filter.specs.PdFilters.{pd_passes}
use Rattle.trdp_filter.specs.Telegrams.{TelegramModel, PdIs, MdIs, com_id_of, payload_of}
use Rattle.trdp_pd.specs.declared.terms.Behaviour.{Behaviour}
use Rattle.trdp_pd.specs.declared.terms.Behaviour.TheVariants.{Zero, Keep}
use Rattle.trdp_pd.specs.declared.terms.SubscriptionTerms.{SubscriptionTerms}
use Rattle.trdp_pd.specs.declared.terms.ValueState.{ValueState}
use Rattle.trdp_pd.specs.declared.terms.ValueState.TheVariants.{Never, Valid}
use Rattle.trdp_pd.specs.declared.terms.ValueState.TheVariants.{Silent as SilentState}
use Rattle.trdp_pd.specs.declared.terms.Latest.{Latest}
use Rattle.trdp_pd.specs.declared.object.Taken.{Taken}
use Rattle.trdp_pd.specs.declared.object.Taken.TheVariants.{Nothing, Stored, Alive}
use Rattle.trdp_pd.specs.declared.object.Fired.TheVariants.{Silent}
use Rattle.trdp_pd.specs.Effects.{Reception, Firing}

-- A subscription: its terms, the size of its dataset's zero value, its deadline if it has one, how
-- good its value is, the counter that it shows, and its value. `latest` is of the latest telegram
-- that it accepted; there is none after a time-out.
pub record SubscriptionState : Type 0 where
  pub terms : SubscriptionTerms
  pub zero_size : ℕ
  pub deadline : Option ℕ
  pub state : ValueState
  pub counter : ℕ
  pub latest : Option Latest
  pub value : List ℕ

-- the deadline of a supervision time that begins now; one of 0 never runs out
-- rule: subscription.supervision
unfoldable pub deadline_from : ℕ → ℕ → Option ℕ
deadline_from supervision now = if supervision == 0 then None else Some (now + supervision)

-- the length of the first value: the number, that of the dataset's zero value, and 0 for dataset
-- 0, which has none
unfoldable pub first_size : SubscriptionTerms → ℕ → ℕ
first_size terms zero_size = if terms.dataset == 0 then 0 else zero_size

-- a new subscription shows the dataset's zero value and counter 0, and is supervised from now on
-- rule: subscription.first
abbrev pub subscribed : SubscriptionTerms → ℕ → ℕ → SubscriptionState
subscribed terms zero_size now = record {
  terms = terms;
  zero_size = first_size terms zero_size;
  deadline = deadline_from terms.supervision now;
  state = Never;
  counter = 0;
  latest = None;
  value = replicate (first_size terms zero_size) 0;
}

-- the message types that carry a value
-- rule: telegram.error
abbrev pub carries_value : PdKind → Bool
carries_value Data = true
carries_value PullReply = true
carries_value _ = false

-- how many sequence counters before the latest one are those of old telegrams (profile)
abbrev pub stale_window : ℕ
stale_window = 16

-- stale: of the source address and message type of the latest accepted telegram, and its counter
-- less than the window below that one's, modulo 2^32
-- rule: subscription.stale
unfoldable pub is_stale : Option Latest → Ip → PdHead → Bool
is_stale None source head = false
is_stale (Some latest) source head =
    latest.source.0 == source.0 && pd_code_of latest.kind == pd_code_of head.kind
    && nat_lt ((latest.counter + 2 ^ 32 - head.counter) % 2 ^ 32) stale_window

-- the telegram is data or a pull reply, and the filter passes it
unfoldable pub is_for_subscription : SubscriptionState → Place → Place → PdHead → Globals → Bool
is_for_subscription s src dst head globals =
    carries_value head.kind && pd_passes s.terms.filter src dst head globals.topo

-- acceptance: the telegram is for the subscription, its payload fits the dataset, and it isn't
-- stale
-- rule: subscription.accept
unfoldable pub is_accepted_value : SubscriptionState → Place → Place → PdHead → Globals → Bool
    → Bool
is_accepted_value s src dst head globals fits =
    is_for_subscription s src dst head globals && fits && not (is_stale s.latest src.ip head)

-- which telegrams are for a subscription; no message is
abbrev pub subscription_addressed : SubscriptionState → TelegramModel → Globals → Bool
subscription_addressed s (PdIs src dst telegram) globals =
    is_for_subscription s src dst telegram.head globals
subscription_addressed s (MdIs src dst telegram) globals = false

-- an accepted telegram sets value, counter, memory and state, and the supervision time restarts
-- rule: subscription.restart
abbrev pub storing : SubscriptionState → Place → PdTelegram → ℕ → SubscriptionState
storing s src telegram now = record s {
  deadline = deadline_from s.terms.supervision now;
  state = Valid;
  counter = telegram.head.counter;
  latest = Some (record {
    source = src.ip;
    kind = telegram.head.kind;
    counter = telegram.head.counter;
  });
  value = telegram.payload;
}

-- a subscription that was silent is alive again
-- rule: subscription.alive
abbrev pub taken_in : ValueState → Taken
taken_in SilentState = Alive
taken_in _ = Stored

-- reception: an accepted telegram is stored, any other changes nothing
abbrev pub subscription_taking :
    SubscriptionState → TelegramModel → Globals → Bool → Reception SubscriptionState
subscription_taking s (PdIs src dst telegram) globals fits =
    if is_accepted_value s src dst telegram.head globals fits
    then record { object = storing s src telegram globals.now; taken = taken_in s.state }
    else record { object = s; taken = Nothing }
subscription_taking s (MdIs src dst telegram) globals fits = record { object = s; taken = Nothing }

-- the value after a time-out: kept, or the dataset's zero value, or for dataset 0 as many zeros as
-- it had bytes
-- rule: subscription.behaviour
unfoldable pub value_after_time_out : SubscriptionTerms → ℕ → List ℕ → List ℕ
value_after_time_out terms zero_size value = by_behaviour terms.behaviour
  where
    by_behaviour : Behaviour → List ℕ
    by_behaviour Keep = value
    by_behaviour Zero = replicate (if terms.dataset == 0 then length value else zero_size) 0

-- supervision time-out: silent, with no deadline and no memory until the next accepted telegram;
-- the counter stays
-- rule: subscription.forget
abbrev pub subscription_firing : SubscriptionState → Globals → Firing SubscriptionState
subscription_firing s globals = record {
  object = record s {
    deadline = None;
    state = SilentState;
    latest = None;
    value = value_after_time_out s.terms s.zero_size s.value;
  };
  fired = Silent;
}

-- the telegram carries a value: it is data, or the reply to a pull request
abbrev pub IsOfValue : TelegramModel → Type 0
IsOfValue (PdIs src dst telegram) = (telegram.head.kind ≡ Data) ⊎ (telegram.head.kind ≡ PullReply)
IsOfValue (MdIs src dst telegram) = ⊥

-- the subscription accepted the telegram, data or a pull reply of its own comId whose payload fits
-- its dataset: its value is good and is the telegram's payload
pub record HasTaken
    (s : SubscriptionState) (telegram : TelegramModel) (is_fit : Bool) (after : SubscriptionState)
    : Type 0 where
  pub kind : IsOfValue telegram
  pub com_id : com_id_of telegram ≡ s.terms.filter.com_id
  pub fits : is_fit ≡ true
  pub state : after.state ≡ Valid
  pub value : after.value ≡ payload_of telegram
