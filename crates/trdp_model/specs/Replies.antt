-- The answers to requests: how a replier sends one, how a caller confirms one, and what is
-- reported of those that are received.
use Rattle.std.specs.Prelude.{ℕ, ℤ, pos, List, [], ◌∷◌, ◌++◌, length, Option, Some, None, Bool}
use Rattle.std.specs.Prelude.{true, false, not}
use Rattle.std.specs.Prelude.{int_lt, int_le, nat_lt, if◌then◌else◌}
use Rattle.trdp_base.specs.declared.place.Place.{Place}
use Rattle.trdp_head.specs.declared.md.MdHead.{MdHead}
use Rattle.trdp_head.specs.declared.md.MdKind.TheVariants as message
use Rattle.trdp_head.specs.MdTelegrams.{MdTelegram}
use Rattle.trdp_head.specs.MdBytes.{md_bytes}
use Rattle.trdp_filter.specs.Telegrams.{TelegramModel, PdIs, MdIs}
use Rattle.trdp_pd.specs.declared.object.Reason.{Reason}
use Rattle.trdp_md.specs.declared.caller.Caller.{Caller as AnyCaller}
use Rattle.trdp_md.specs.declared.replier.Replier.{Replier as AnyReplier}
use Rattle.trdp_md.specs.Answers.{awaits}
use Rattle.trdp_md.specs.Callers.{confirm_of, confirming, closed_of}
use Rattle.trdp_md.specs.declared.replier.Stage.{Stage}
use Rattle.trdp_md.specs.declared.replier.Stage.TheVariants.{Asked, AwaitConfirm}
use Rattle.trdp_md.specs.Repliers.{answer_with, queried}
use Rattle.trdp_model.specs.declared.any_object.AnyObject.{AnyObject}
use Rattle.trdp_model.specs.declared.any_object.AnyObject.TheVariants.{Caller, Replier}
use Rattle.trdp_model.specs.declared.fault.Refusal.{Refusal}
use Rattle.trdp_model.specs.declared.fault.Refusal.TheVariants.{WrongKind, State, Timeout, Status}
use Rattle.trdp_model.specs.declared.fault.Refusal.TheVariants.{TooLong}
use Rattle.trdp_model.specs.declared.record.Protocol.TheVariants.{Md}
use Rattle.trdp_model.specs.Records.{Content, DoneIs, Answers, ReplyModel, RepliedIs, ClosedIs}
use Rattle.trdp_model.specs.Records.{Indicates, Sends}
use Rattle.trdp_model.specs.Acts.{Act, refuses}
use Rattle.trdp_base.specs.Limits.{md_payload_limit}

-- an answer as its caller's slot gets it
abbrev pub reply_of : Place → MdTelegram → ReplyModel
reply_of src telegram = record {
  src = src;
  kind = telegram.head.kind;
  status = telegram.head.status;
  com_id = telegram.head.com_id;
  payload = telegram.payload;
}

-- what the slot of a caller gets of an answer that the caller accepted
abbrev pub replied : ℕ → TelegramModel → List Content
replied handle (PdIs src dst telegram) = []
replied handle (MdIs src dst telegram) = Indicates (RepliedIs handle (reply_of src telegram)) ∷ []

-- what a slot gets of a caller or replier that is over
abbrev pub closing : ℕ → Reason → Content
closing handle reason = Indicates (ClosedIs handle reason)

-- the stage in which a replier hasn't answered yet
abbrev pub is_unanswered : Stage → Bool
is_unanswered Asked = true
is_unanswered AwaitConfirm = false

-- first refusal of a reply: the replier has answered by a query, a status below 0, more bytes than
-- message data carries
-- rule: replier.status
abbrev pub reply_refusal : AnyReplier → ℤ → List ℕ → Option Refusal
reply_refusal r status payload =
    if not (is_unanswered r.stage) then Some State else
    if int_lt status (pos 0) then Some Status else
    if nat_lt md_payload_limit (length payload) then Some TooLong else None

-- first refusal of a query: the same, and after the first a timeout below 1,000 microseconds
-- rule: refusal.query
abbrev pub query_refusal : AnyReplier → ℤ → ℕ → List ℕ → Option Refusal
query_refusal r status timeout payload =
    if not (is_unanswered r.stage) then Some State else
    if nat_lt timeout 1000 then Some Timeout else reply_refusal r status payload

-- first refusal of an error: the replier has answered by a query, a status of 0 or more
-- rule: replier.error
abbrev pub error_refusal : AnyReplier → ℤ → Option Refusal
error_refusal r status =
    if not (is_unanswered r.stage) then Some State else
    if int_le (pos 0) status then Some Status else None

-- an answer that isn't refused goes to the replier's peer, and this is left of the replier
abbrev pub answers_unless :
    Option Refusal → AnyReplier → Option AnyObject → MdHead → List ℕ → Act
answers_unless (Some refusal) r left head payload = refuses (Replier r) refusal
answers_unless None r left head payload = record {
  left = left;
  records = Answers DoneIs ∷ Sends Md r.peer (md_bytes head payload) ∷ [];
}

-- the act of an object that is to reply: a replier ends with it
abbrev pub replies : ℕ → ℤ → List ℕ → AnyObject → Act
replies com_id status payload (Replier r) =
    answers_unless (reply_refusal r status payload) r None
    (answer_with r message.Reply com_id status 0) payload
replies com_id status payload object = refuses object WrongKind

-- the act of an object that is to reply and be confirmed within a time: a replier waits for that
abbrev pub queries : ℕ → ℕ → ℤ → ℕ → List ℕ → AnyObject → Act
queries now com_id status timeout payload (Replier r) =
    answers_unless (query_refusal r status timeout payload) r
    (Some (Replier (queried r now timeout)))
    (answer_with r message.Query com_id status timeout) payload
queries now com_id status timeout payload object = refuses object WrongKind

-- the act of an object that is to send an error: its status is below 0, it has no payload, and a
-- replier ends with it
abbrev pub reply_errors : ℕ → ℤ → AnyObject → Act
reply_errors com_id status (Replier r) =
    answers_unless (error_refusal r status) r None
    (answer_with r message.Error com_id status 0) []
reply_errors com_id status object = refuses object WrongKind

-- a caller with these records, which is over if it has all that it waits for
abbrev pub concluded : Option Reason → ℕ → AnyCaller → List Content → Act
concluded None handle c records = record { left = Some (Caller c); records = records }
concluded (Some reason) handle c records =
    record { left = None; records = records ++ closing handle reason ∷ [] }

-- a confirmation that isn't refused goes to the place, and the place awaits none any more
abbrev pub confirms_unless : Option Refusal → ℕ → Place → ℤ → AnyCaller → Act
confirms_unless (Some refusal) handle place status c = refuses (Caller c) refusal
confirms_unless None handle place status c =
    concluded (closed_of (confirming c place)) handle (confirming c place)
    (Answers DoneIs ∷ Sends Md place (md_bytes (confirm_of c.terms status) []) ∷ [])

-- first refusal of a confirmation: the place awaits none, a status below 0
-- rule: confirmation.refusal
abbrev pub confirm_refusal : AnyCaller → Place → ℤ → Option Refusal
confirm_refusal c place status =
    if not (awaits c.answers place) then Some State else
    if int_lt status (pos 0) then Some Status else None

-- the act of an object of a handle that is to confirm
abbrev pub confirms : ℕ → Place → ℤ → AnyObject → Act
confirms handle place status (Caller c) =
    confirms_unless (confirm_refusal c place status) handle place status c
confirms handle place status object = refuses object WrongKind

-- the act of an object that is to be given up: a caller or a replier ends, and nothing is sent
-- rule: session.abort
abbrev pub aborts : AnyObject → Act
aborts (Caller c) = record { left = None; records = Answers DoneIs ∷ [] }
aborts (Replier r) = record { left = None; records = Answers DoneIs ∷ [] }
aborts object = refuses object WrongKind
