-- Where something comes from: an earlier move of the run.
use Rattle.std.specs.Prelude.{◌≡◌, ◌⊎◌, ℕ, ℤ, List, [], ◌∷◌, Some, slice_get}
use Rattle.trdp_base.specs.declared.place.Place.{Place}
use Rattle.trdp_base.specs.declared.session.SessionId.{SessionId}
use Rattle.trdp_head.specs.declared.md.MdKind.{MdKind}
use Rattle.trdp_head.specs.declared.md.MdKind.TheVariants as message
use Rattle.trdp_pd.specs.Publishers.{PublisherState}
use Rattle.trdp_md.specs.declared.terms.NotifyTerms.{NotifyTerms}
use Rattle.trdp_md.specs.declared.terms.CallerTerms.{CallerTerms}
use Rattle.trdp_md.specs.declared.caller.Caller.{Caller as AnyCaller}
use Rattle.trdp_md.specs.declared.replier.Replier.{Replier as AnyReplier}
use Rattle.trdp_model.specs.declared.any_object.AnyObject.{AnyObject}
use Rattle.trdp_model.specs.declared.any_object.AnyObject.TheVariants.{Publisher, Caller, Replier}
use Rattle.trdp_model.specs.declared.record.Protocol.TheVariants.{Md}
use Rattle.trdp_model.specs.Records.{Content, AnswerModel, HandleIs, DoneIs, MessageModel}
use Rattle.trdp_model.specs.Records.{ReplyModel, AskedIs, RepliedIs, Answers, Indicates}
use Rattle.trdp_model.specs.Events.{CallModel, PutCall, NotifyCall, RequestCall, ReplyCall}
use Rattle.trdp_model.specs.Events.{QueryCall, ReplyErrorCall, ConfirmCall, CallIs}
use Rattle.trdp_model.specs.Slots.{SlotState}
use Rattle.trdp_net.specs.Networks.{Move, effect_in, place_of}

-- it held once: of some move, given the moves before that one. So `Ever P past`, said of a move
-- whose past this is, is `P earlier`
abbrev pub Ever : (Move → List Move → Type 0) → List Move → Type 0
Ever P [] = ⊥
Ever P (m ∷ past) = P m past ⊎ Ever P past

-- it holds of each move, given the moves before that one
abbrev pub Always : (Move → List Move → Type 0) → List Move → Type 0
Always P [] = Unit {0}
Always P (m ∷ past) = P m past × Always P past

-- it holds of each of the list
abbrev pub Each : {A : Type 0} → (A → Type 0) → List A → Type 0
Each P [] = Unit {0}
Each P (x ∷ xs) = P x × Each P xs

-- it is one of the list
abbrev pub In : {A : Type 0} → A → List A → Type 0
In x [] = ⊥
In x (y ∷ ys) = (y ≡ x) ⊎ In x ys

-- an object of the network: its node, its slot and its handle
pub record Spot : Type 0 where
  pub node : ℕ
  pub slot : ℕ
  pub handle : ℕ

-- slot s of node k got this record at this move
pub record Gives (k s : ℕ) (content : Content) (m : Move) : Type 0 where
  pub node_is : m.node ≡ k
  pub slot : SlotState
  pub slot_is : slice_get m.before.slots s ≡ Some slot
  pub given : In content (effect_in m s slot).records

-- slot s of node k made this call at this move, and this was the answer. One other than a refusal
-- says that the call was granted
pub record Makes (k s : ℕ) (call : CallModel) (answer : AnswerModel) (m : Move) : Type 0 where
  pub event_is : m.event ≡ CallIs s call
  pub gives : Gives k s (Answers answer) m

-- before this move the object was this one
pub record Held (at : Spot) (object : AnyObject) (m : Move) : Type 0 where
  pub slot : SlotState
  pub slot_is : slice_get m.before.slots at.slot ≡ Some slot
  pub held : In (record { handle = at.handle; object = object }) slot.objects

-- a granted Put of these bytes to a publisher of this comId
pub record IsPut (com_id : ℕ) (bytes : List ℕ) (m : Move) (past : List Move) : Type 0 where
  pub at : Spot
  pub p : PublisherState
  pub makes : Makes at.node at.slot (PutCall at.handle bytes) DoneIs m
  pub held : Held at (Publisher p) m
  pub com_id_is : p.terms.com_id ≡ com_id

-- a granted Notify, at the node of the message's place, of its comId, URIs and payload
pub record IsNotified (said : MessageModel) (m : Move) (past : List Move) : Type 0 where
  pub slot : ℕ
  pub terms : NotifyTerms
  pub makes : Makes m.node slot (NotifyCall terms said.payload) DoneIs m
  pub place_is : place_of Md m.before.setup ≡ said.src
  pub com_id_is : terms.com_id ≡ said.com_id
  pub source_uri_is : terms.source_uri ≡ said.source_uri
  pub dest_uri_is : terms.dest_uri ≡ said.dest_uri

-- a granted Request, at the node of the message's place, of this identifier and of the message's
-- comId, URIs and payload, which opened this caller
pub record IsRequested (at : Spot) (session : SessionId) (said : MessageModel)
    (m : Move) (past : List Move) : Type 0 where
  pub terms : CallerTerms
  pub makes : Makes at.node at.slot (RequestCall terms said.payload) (HandleIs at.handle) m
  pub place_is : place_of Md m.before.setup ≡ said.src
  pub session_is : terms.session ≡ session
  pub com_id_is : terms.com_id ≡ said.com_id
  pub source_uri_is : terms.source_uri ≡ said.source_uri
  pub dest_uri_is : terms.dest_uri ≡ said.dest_uri

-- the same, whichever caller it opened
abbrev pub IsRequestedBySome : SessionId → MessageModel → Move → List Move → Type 0
IsRequestedBySome session said m past = (at : Spot) × IsRequested at session said m past

-- the same, whatever it said
abbrev pub IsRequestedAs : Spot → SessionId → Move → List Move → Type 0
IsRequestedAs at session m past = (said : MessageModel) × IsRequested at session said m past

-- `Asked` reported to this replier a request of this identifier from this place, which this caller
-- had made there
pub record IsAsked (at by : Spot) (session : SessionId) (from : Place)
    (m : Move) (past : List Move) : Type 0 where
  pub listener : ℕ
  pub said : MessageModel
  pub gives : Gives at.node at.slot (Indicates (AskedIs listener at.handle session said)) m
  pub from_is : said.src ≡ from
  pub requested : Ever (IsRequested by session said) past

-- the call makes this answer on the replier of the handle
abbrev pub IsAnswerCall : ℕ → ReplyModel → CallModel → Type 0
IsAnswerCall handle answer (ReplyCall h com_id status payload) =
    (h ≡ handle) × (answer.kind ≡ message.Reply) × (com_id ≡ answer.com_id)
    × (status ≡ answer.status) × (payload ≡ answer.payload)
IsAnswerCall handle answer (QueryCall h com_id status timeout payload) =
    (h ≡ handle) × (answer.kind ≡ message.Query) × (com_id ≡ answer.com_id)
    × (status ≡ answer.status) × (payload ≡ answer.payload)
IsAnswerCall handle answer (ReplyErrorCall h com_id status) =
    (h ≡ handle) × (answer.kind ≡ message.Error) × (com_id ≡ answer.com_id)
    × (status ≡ answer.status) × ([] ≡ answer.payload)
IsAnswerCall handle answer _ = ⊥

-- a granted Reply, Query or ReplyError on this replier, of this identifier, at the node of the
-- answer's place; the replier had been asked by this caller
pub record IsAnswered (at by : Spot) (session : SessionId) (answer : ReplyModel)
    (m : Move) (past : List Move) : Type 0 where
  pub r : AnyReplier
  pub call : CallModel
  pub is_answer : IsAnswerCall at.handle answer call
  pub makes : Makes at.node at.slot call DoneIs m
  pub held : Held at (Replier r) m
  pub session_is : r.session ≡ session
  pub place_is : place_of Md m.before.setup ≡ answer.src
  pub asked : Ever (IsAsked at by session r.peer) past

-- the same on any replier that this caller had asked
abbrev pub IsAnsweredTo : Spot → SessionId → ReplyModel → Move → List Move → Type 0
IsAnsweredTo by session answer m past = (at : Spot) × IsAnswered at by session answer m past

-- the same on any replier that any caller had asked
abbrev pub IsAnsweredBySome : SessionId → ReplyModel → Move → List Move → Type 0
IsAnsweredBySome session answer m past = (at by : Spot) × IsAnswered at by session answer m past

-- an answer of this kind from this place was reported to this caller of this identifier, and had
-- been made there
pub record IsReplied (at : Spot) (session : SessionId) (place : Place) (kind : MdKind)
    (m : Move) (past : List Move) : Type 0 where
  pub answer : ReplyModel
  pub gives : Gives at.node at.slot (Indicates (RepliedIs at.handle answer)) m
  pub place_is : answer.src ≡ place
  pub kind_is : answer.kind ≡ kind
  pub answered : Ever (IsAnsweredBySome session answer) past

-- a granted Confirm of this caller, of this identifier and at the node of the place `home`, for
-- the place `place`, from which a query had been reported to it
pub record IsConfirmed (at : Spot) (session : SessionId) (home place : Place) (status : ℤ)
    (m : Move) (past : List Move) : Type 0 where
  pub c : AnyCaller
  pub makes : Makes at.node at.slot (ConfirmCall at.handle place status) DoneIs m
  pub held : Held at (Caller c) m
  pub session_is : c.terms.session ≡ session
  pub home_is : place_of Md m.before.setup ≡ home
  pub queried : Ever (IsReplied at session place message.Query) past

-- the same of any caller
abbrev pub IsConfirmedBySome :
    SessionId → Place → Place → ℤ → Move → List Move → Type 0
IsConfirmedBySome session home place status m past =
    (at : Spot) × IsConfirmed at session home place status m past

-- the same of this caller, whatever the status
abbrev pub IsConfirmedAs : Spot → SessionId → Place → Place → Move → List Move → Type 0
IsConfirmedAs at session home place m past =
    (status : ℤ) × IsConfirmed at session home place status m past

-- a granted Query on this replier, of this identifier
abbrev pub IsQueried : Spot → SessionId → Move → List Move → Type 0
IsQueried at session m past =
    (by : Spot) × (answer : ReplyModel) × (answer.kind ≡ message.Query)
    × IsAnswered at by session answer m past
