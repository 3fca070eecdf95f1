-- What is promised of every run, and on what premises.
use Rattle.std.specs.Prelude.{◌≡◌, ◌≤◌, ◌<◌, ℕ, ℤ, List, [], ◌∷◌, ◌++◌, ◌==◌, length, false}
use Rattle.std.specs.Prelude.{Option, None, Some, slice_get, if◌then◌else◌}
use Rattle.trdp_base.specs.declared.place.Place.{Place}
use Rattle.trdp_base.specs.declared.session.SessionId.{SessionId}
use Rattle.trdp_dataset.specs.Configs.{ConfigModel}
use Rattle.trdp_head.specs.declared.md.MdKind.TheVariants as message
use Rattle.trdp_pd.specs.declared.object.Reason.TheVariants.{Done}
use Rattle.trdp_pd.specs.declared.terms.ValueState.TheVariants.{Valid}
use Rattle.trdp_pd.specs.Subscriptions.{SubscriptionState}
use Rattle.trdp_md.specs.declared.answers.RequestAnswer.{RequestAnswer}
use Rattle.trdp_md.specs.declared.caller.Caller.{Caller as AnyCaller}
use Rattle.trdp_md.specs.declared.replier.Replier.{Replier as AnyReplier}
use Rattle.trdp_md.specs.Answers.{is_place}
use Rattle.trdp_md.specs.Sessions.{AreApart}
use Rattle.trdp_model.specs.declared.any_object.AnyObject.TheVariants.{Subscription, Caller}
use Rattle.trdp_model.specs.declared.any_object.AnyObject.TheVariants.{Replier}
use Rattle.trdp_model.specs.declared.record.Protocol.TheVariants.{Md}
use Rattle.trdp_model.specs.Records.{Content, MessageModel, ReplyModel, NotifiedIs, AskedIs}
use Rattle.trdp_model.specs.Records.{RepliedIs, ConfirmedIs, ClosedIs, Indicates}
use Rattle.trdp_model.specs.Slots.{Entry, SlotState}
use Rattle.trdp_net.specs.Networks.{NetNode, Move, Network, Step, is_group, effect_in, place_of}
use Rattle.trdp_net.specs.Networks.{network_run, opened_network}
use Rattle.trdp_net.specs.Provenance.{Ever, Each, In, Spot, Gives, Held, IsPut, IsNotified}
use Rattle.trdp_net.specs.Provenance.{IsRequestedBySome, IsRequestedAs, IsAnsweredTo, IsReplied}
use Rattle.trdp_net.specs.Provenance.{IsConfirmedBySome, IsConfirmedAs, IsQueried}

-- the moves of a run from opened nodes, the latest first
abbrev pub history : List ConfigModel → List Step → List Move
history configs steps = (network_run (opened_network configs) steps).history

-- premise: no node's own address is a group address
abbrev pub AreSingle : List ConfigModel → Type 0
AreSingle configs = Each (λ config. is_group config.address ≡ false) configs

-- a granted Request of this identifier, of whichever caller
abbrev pub Requests : SessionId → Move → List Move → Type 0
Requests session m past = (at : Spot) × IsRequestedAs at session m past

-- premise: no two granted Requests carry the same identifier
abbrev pub IsFresh : Move → List Move → Type 0
IsFresh m past = (session : SessionId) → Requests session m past → Ever (Requests session) past → ⊥

-- no invented value: a subscription shows, as long as it is valid, what was put to a publisher of
-- its comId
abbrev pub ValuesArePut : Network → Type 0
ValuesArePut w =
    (k s : ℕ) (node : NetNode) (slot : SlotState) (entry : Entry) (u : SubscriptionState)
    → slice_get w.nodes k ≡ Some node → slice_get node.slots s ≡ Some slot
    → In entry slot.objects → entry.object ≡ Subscription u → u.state ≡ Valid
    → Ever (IsPut u.terms.filter.com_id u.value) w.history

-- the caller that an answer is reported to, and that this answer was made to its own request
pub record IsReplyMade (m : Move) (past : List Move) (at : Spot) (answer : ReplyModel)
    : Type 0 where
  pub c : AnyCaller
  pub held : Held at (Caller c) m
  pub answered : Ever (IsAnsweredTo at c.terms.session answer) past

-- no invented reply: each answer that is reported to a caller was made to its request
abbrev pub RepliesAreMade : Move → List Move → Type 0
RepliesAreMade m past =
    (at : Spot) (answer : ReplyModel)
    → Gives at.node at.slot (Indicates (RepliedIs at.handle answer)) m
    → IsReplyMade m past at answer

-- the replier that a confirmation is reported to had queried, and a caller of its session
-- confirmed it: for the place of the replier's node, from the address of the replier's peer
pub record IsConfirmMade (m : Move) (past : List Move) (at : Spot) (status : ℤ) : Type 0 where
  pub r : AnyReplier
  pub held : Held at (Replier r) m
  pub queried : Ever (IsQueried at r.session) past
  pub home : Place
  pub home_is : home.ip.0 ≡ r.peer.ip.0
  pub confirmed :
      Ever (IsConfirmedBySome r.session home (place_of Md m.before.setup) status) past

-- no invented confirmation: each that is reported to a replier was made by a caller of its session
abbrev pub ConfirmsAreMade : Move → List Move → Type 0
ConfirmsAreMade m past =
    (at : Spot) (status : ℤ)
    → Gives at.node at.slot (Indicates (ConfirmedIs at.handle status)) m
    → IsConfirmMade m past at status

-- an answer that was reported to the caller, and that it confirmed if it was a query
pub record IsSettled (past : List Move) (at : Spot) (session : SessionId) (home : Place)
    (a : RequestAnswer) : Type 0 where
  pub replied : Ever (IsReplied at session a.place a.kind) past
  pub confirmed : a.kind ≡ message.Query → Ever (IsConfirmedAs at session home a.place) past

-- this answer was reported to this caller
abbrev pub IsToldOf : Spot → ReplyModel → Move → List Move → Type 0
IsToldOf at answer m past = Gives at.node at.slot (Indicates (RepliedIs at.handle answer)) m

-- as many places as expected have answered, and at least one; and each query that was reported to
-- the caller is confirmed, however many answers it expected. The move that closes the caller may
-- be the one that reports the last answer or confirms the last query
pub record IsDoneDue (m : Move) (past : List Move) (at : Spot) : Type 0 where
  pub c : AnyCaller
  pub held : Held at (Caller c) m
  pub answers : List RequestAnswer
  pub enough : c.terms.expected ≤ length answers
  pub some : 0 < length answers
  pub apart : AreApart answers
  pub settled :
      Each (IsSettled (m ∷ past) at c.terms.session (place_of Md m.before.setup)) answers
  pub each_query : (answer : ReplyModel) → Ever (IsToldOf at answer) (m ∷ past)
      → answer.kind ≡ message.Query
      → Ever (IsConfirmedAs at c.terms.session (place_of Md m.before.setup) answer.src)
      (m ∷ past)

-- no early completion: `Done` is reported to a caller once nothing is expected any more
abbrev pub DoneIsDue : Move → List Move → Type 0
DoneIsDue m past =
    (at : Spot) → Gives at.node at.slot (Indicates (ClosedIs at.handle Done)) m
    → IsDoneDue m past at

-- no invented notification: each that is reported to a listener was made by a granted Notify
abbrev pub NoticesAreMade : Move → List Move → Type 0
NoticesAreMade m past =
    (k s listener : ℕ) (said : MessageModel)
    → Gives k s (Indicates (NotifiedIs listener said)) m → Ever (IsNotified said) past

-- no invented request: each that a replier is opened for was made by a granted Request
abbrev pub RequestsAreMade : Move → List Move → Type 0
RequestsAreMade m past =
    (k s listener replier : ℕ) (session : SessionId) (said : MessageModel)
    → Gives k s (Indicates (AskedIs listener replier session said)) m
    → Ever (IsRequestedBySome session said) past

-- the places of the answers that are reported to the caller of this handle, in order
abbrev pub replied_in : ℕ → List Content → List Place
replied_in h [] = []
replied_in h (Indicates (RepliedIs handle answer) ∷ records) =
    if handle == h then answer.src ∷ replied_in h records else replied_in h records
replied_in h (_ ∷ records) = replied_in h records

-- the records of slot s at this move, if there is one
abbrev pub told_in : ℕ → Move → Option SlotState → List Content
told_in s m None = []
told_in s m (Some slot) = (effect_in m s slot).records

-- the places of the answers that are reported to this caller at this move
abbrev pub replied_at : Spot → Move → List Place
replied_at at m =
    if m.node == at.node
    then replied_in at.handle (told_in at.slot m (slice_get m.before.slots at.slot))
    else []

-- the same over all moves
abbrev pub all_replied : Spot → List Move → List Place
all_replied at [] = []
all_replied at (m ∷ past) = replied_at at m ++ all_replied at past

-- the place is none of these
abbrev pub IsNew : Place → List Place → Type 0
IsNew place [] = Unit {0}
IsNew place (other ∷ places) = (is_place other place ≡ false) × IsNew place places

-- no two of the places are one
abbrev pub AreDistinct : List Place → Type 0
AreDistinct [] = Unit {0}
AreDistinct (place ∷ places) = IsNew place places × AreDistinct places
