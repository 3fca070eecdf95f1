-- An example: a run of two nodes in which each thing that the promises speak of happens.
use Rattle.std.specs.Prelude.{◌≡◌, ℕ, List, [], ◌∷◌, ◌++◌, map, pos, Some, slice_get}
use Rattle.trdp_base.specs.declared.place.Place.{Place}
use Rattle.trdp_pd.specs.declared.object.Reason.TheVariants.{Done}
use Rattle.trdp_pd.specs.declared.terms.ValueState.TheVariants.{Valid}
use Rattle.trdp_pd.specs.Subscriptions.{SubscriptionState}
use Rattle.trdp_model.specs.declared.any_object.AnyObject.TheVariants.{Subscription}
use Rattle.trdp_model.specs.declared.record.Protocol.{Protocol}
use Rattle.trdp_model.specs.declared.record.Protocol.TheVariants.{Pd, Md}
use Rattle.trdp_model.specs.Records.{Content, Answers, Indicates, Sends, HandleIs, DoneIs, ValueIs}
use Rattle.trdp_model.specs.Records.{NotifiedIs, AskedIs, RepliedIs, ConfirmedIs, ClosedIs}
use Rattle.trdp_model.specs.Events.{PublishCall, PutCall, SubscribeCall, GetCall, ListenCall}
use Rattle.trdp_model.specs.Events.{NotifyCall, RequestCall, QueryCall, ConfirmCall}
use Rattle.trdp_model.specs.Slots.{Entry, SlotState}
use Rattle.trdp_net.specs.Networks.{NetNode, Sent, Move, Network, Step, CallAt, MomentAt}
use Rattle.trdp_net.specs.Networks.{TopologyAt, RoleAt, DeliveryAt, AddSlotAt, network_run}
use Rattle.trdp_net.specs.Networks.{opened_network}
use Rattle.trdp_net.specs.Provenance.{Ever, In, Gives}
use Rattle.trdp_net.specs.Promises.{history, told_in}
use Rattle.trdp_net.specs.ExampleTerms.{example_configs, data_1, messages_0, messages_1}
use Rattle.trdp_net.specs.ExampleTerms.{publisher_terms, example_value, subscription_terms}
use Rattle.trdp_net.specs.ExampleTerms.{any_message, notify_terms, caller_terms, example_session}
use Rattle.trdp_net.specs.ExampleTerms.{notice_told, request_told, query_told, value_bytes}
use Rattle.trdp_net.specs.ExampleTerms.{notice_bytes, request_bytes, query_bytes, confirm_bytes}

-- a step, and what is reported to the slot of its node at it
pub record Row : Type 0 where
  pub step : Step
  pub told : List Content

-- the same in short
abbrev pub tells : Step → List Content → Row
tells step told = record { step = step; told = told }

-- node 0 publishes a value; node 1 subscribes to it, gets it and looks at it
abbrev pub value_rows : List Row
value_rows =
    tells (CallAt 0 0 (PublishCall publisher_terms)) (Answers (HandleIs 1) ∷ [])
    ∷ tells (CallAt 0 0 (PutCall 1 example_value)) (Answers DoneIs ∷ [])
    ∷ tells (CallAt 1 0 (SubscribeCall subscription_terms)) (Answers (HandleIs 1) ∷ [])
    ∷ tells (MomentAt 0 1000) (Sends Pd data_1 value_bytes ∷ [])
    ∷ tells (DeliveryAt 1 0) []
    ∷ tells (CallAt 1 0 (GetCall 1))
    (Answers (ValueIs (record { state = Valid; counter = 0; bytes = example_value })) ∷ [])
    ∷ []

-- node 1 listens, and is notified by node 0
abbrev pub notice_rows : List Row
notice_rows =
    tells (CallAt 1 0 (ListenCall any_message)) (Answers (HandleIs 2) ∷ [])
    ∷ tells (CallAt 0 0 (NotifyCall notify_terms (5 ∷ [])))
    (Answers DoneIs ∷ Sends Md messages_1 notice_bytes ∷ [])
    ∷ tells (DeliveryAt 1 1) (Indicates (NotifiedIs 2 notice_told) ∷ [])
    ∷ []

-- node 0 requests; the request comes twice, and opens one replier
abbrev pub request_rows : List Row
request_rows =
    tells (CallAt 0 0 (RequestCall caller_terms (6 ∷ 7 ∷ [])))
    (Answers (HandleIs 2) ∷ Sends Md messages_1 request_bytes ∷ [])
    ∷ tells (DeliveryAt 1 2) (Indicates (AskedIs 2 3 example_session request_told) ∷ [])
    ∷ tells (DeliveryAt 1 2) []
    ∷ []

-- the replier queries; the query comes twice, and is reported once
abbrev pub query_rows : List Row
query_rows =
    tells (CallAt 1 0 (QueryCall 3 3001 (pos 0) 1000000 (8 ∷ 9 ∷ [])))
    (Answers DoneIs ∷ Sends Md messages_0 query_bytes ∷ [])
    ∷ tells (DeliveryAt 0 3) (Indicates (RepliedIs 2 query_told) ∷ [])
    ∷ tells (DeliveryAt 0 3) []
    ∷ []

-- the caller confirms with status 3, and is done; the replier is confirmed
abbrev pub confirm_rows : List Row
confirm_rows =
    tells (CallAt 0 0 (ConfirmCall 2 messages_1 (pos 3)))
    (Answers DoneIs ∷ Sends Md messages_1 confirm_bytes ∷ Indicates (ClosedIs 2 Done) ∷ [])
    ∷ tells (DeliveryAt 1 4) (Indicates (ConfirmedIs 3 (pos 3)) ∷ [])
    ∷ []

-- all of them
abbrev pub example_rows : List Row
example_rows = value_rows ++ notice_rows ++ request_rows ++ query_rows ++ confirm_rows

-- the steps of rows
abbrev pub steps_of : List Row → List Step
steps_of rows = map (λ row. row.step) rows

abbrev pub example_steps : List Step
example_steps = steps_of example_rows

-- the network after them, and its history
abbrev pub example_network : Network
example_network = network_run (opened_network example_configs) example_steps

abbrev pub example_history : List Move
example_history = history example_configs example_steps

-- the node of a step
abbrev pub node_of_step : Step → ℕ
node_of_step (CallAt node slot call) = node
node_of_step (MomentAt node t) = node
node_of_step (TopologyAt node topo) = node
node_of_step (RoleAt node group leader) = node
node_of_step (DeliveryAt node which) = node
node_of_step (AddSlotAt node quotas) = node

-- what was reported to slot 0 of a node at a move of the node
pub record ToldAtMove : Type 0 where
  pub node : ℕ
  pub told : List Content

abbrev pub turn_of : Move → ToldAtMove
turn_of m = record { node = m.node; told = told_in 0 m (slice_get m.before.slots 0) }

-- the same of each move of a history, the first move first
abbrev pub turns_of : List Move → List ToldAtMove
turns_of [] = []
turns_of (m ∷ past) = turns_of past ++ turn_of m ∷ []

-- what the rows say
abbrev pub turns_in : List Row → List ToldAtMove
turns_in rows =
    map (λ row. let t : ToldAtMove = record { node = node_of_step row.step; told = row.told } in t)
    rows

-- a telegram that was sent
abbrev pub telegram : Protocol → Place → Place → List ℕ → Sent
telegram protocol from to bytes =
    record { protocol = protocol; bytes = bytes; from = from; to = to }

-- this was reported to slot s of node k at some move
abbrev pub WasTold : ℕ → ℕ → Content → List Move → Type 0
WasTold k s content past = Ever (λ m before. Gives k s content m) past

-- a subscription in slot s of node k shows these bytes of that comId, and they are valid
pub record ShowsValid (w : Network) (k s com_id : ℕ) (bytes : List ℕ) : Type 0 where
  pub node : NetNode
  pub slot : SlotState
  pub entry : Entry
  pub u : SubscriptionState
  pub node_is : slice_get w.nodes k ≡ Some node
  pub slot_is : slice_get node.slots s ≡ Some slot
  pub held : In entry slot.objects
  pub subscription : entry.object ≡ Subscription u
  pub valid : u.state ≡ Valid
  pub com_id_is : u.terms.filter.com_id ≡ com_id
  pub value_is : u.value ≡ bytes
