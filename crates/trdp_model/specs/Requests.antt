-- Requests: how one is sent, and what a slot makes of one that its listener heard.
use Rattle.std.specs.Prelude.{ℕ, List, [], ◌∷◌, length, Option, Some, None, Bool, false, not, ◌==◌}
use Rattle.std.specs.Prelude.{◌&&◌, nat_lt, if◌then◌else◌}
use Rattle.std.specs.List.{list_any}
use Rattle.std.specs.Option.{option_or}
use Rattle.trdp_base.specs.declared.place.Place.{Place}
use Rattle.trdp_base.specs.declared.session.SessionId.{SessionId}
use Rattle.trdp_head.specs.MdTelegrams.{MdTelegram}
use Rattle.trdp_head.specs.MdBytes.{md_bytes}
use Rattle.trdp_filter.specs.declared.globals.Globals.{Globals}
use Rattle.trdp_filter.specs.Counts.{topo_valid}
use Rattle.trdp_md.specs.declared.terms.CallerTerms.{CallerTerms}
use Rattle.trdp_md.specs.Callers.{request_of}
use Rattle.trdp_md.specs.Repliers.{asked_by}
use Rattle.trdp_model.specs.declared.any_object.AnyObject.{AnyObject}
use Rattle.trdp_model.specs.declared.any_object.AnyObject.TheVariants.{Caller, Replier}
use Rattle.trdp_model.specs.declared.kind.Kind.{Kind}
use Rattle.trdp_model.specs.declared.kind.Kind.TheVariants.{Caller as Calling}
use Rattle.trdp_model.specs.declared.kind.Kind.TheVariants.{Replier as Replying}
use Rattle.trdp_model.specs.Kinds.{kind_of, is_same_kind}
use Rattle.trdp_model.specs.declared.fault.Refusal.{Refusal}
use Rattle.trdp_model.specs.declared.fault.Refusal.TheVariants.{State, Timeout, Expected, TooLong}
use Rattle.trdp_model.specs.declared.fault.Refusal.TheVariants.{SessionOpen, Retries}
use Rattle.trdp_model.specs.declared.record.Protocol.TheVariants.{Md}
use Rattle.trdp_model.specs.Records.{Content, Indicates, AskedIs, OverrunIs, Sends}
use Rattle.trdp_model.specs.Slots.{Entry, SlotState, Outcome, unchanged, with_new_object}
use Rattle.trdp_model.specs.Openings.{opening_refusal}
use Rattle.trdp_model.specs.Notices.{message_of}
use Rattle.trdp_base.specs.Limits.{md_payload_limit}

-- the object is a caller or a replier of that session
abbrev pub is_of_session : SessionId → AnyObject → Bool
is_of_session session (Caller c) = c.terms.session.0 == session.0
is_of_session session (Replier r) = r.session.0 == session.0
is_of_session session object = false

-- an object of that kind is open in that session: a slot may have a caller and a replier in one
-- rule: caller.session
abbrev pub has_session : Kind → SessionId → List Entry → Bool
has_session kind session objects =
    list_any
    (λ entry. is_same_kind (kind_of entry.object) kind && is_of_session session entry.object)
    objects

-- more repeats than two are refused
-- rule: caller.retries
abbrev pub retries_refusal : CallerTerms → Option Refusal
retries_refusal terms = if nat_lt 2 terms.retries then Some Retries else None

-- First refusal of a request: topology counters that don't match the node's, a timeout below 1,000
-- microseconds, more than eight places expected, more bytes than message data carries. Then a
-- session that a caller of the slot has, the quota, the handles, more repeats than two.
-- rule: caller.refusal
abbrev pub request_refusal : SlotState → Globals → CallerTerms → List ℕ → Option Refusal
request_refusal slot globals terms payload =
    if not (topo_valid terms.topo globals.topo) then Some State else
    if nat_lt terms.timeout 1000 then Some Timeout else
    if nat_lt 8 terms.expected then Some Expected else
    if nat_lt md_payload_limit (length payload) then Some TooLong else
    if has_session Calling terms.session slot.objects then Some SessionOpen else
    option_or (opening_refusal slot Calling) (retries_refusal terms)

-- a request as it is sent at first, with sequence counter 0
abbrev pub request_sent : CallerTerms → List ℕ → Content
request_sent terms payload = Sends Md terms.to (md_bytes (request_of terms 0) payload)

-- what a slot makes of a request of a session that no replier of it has: a new replier, which is
-- reported with its handle; where it refuses one, that is reported
-- rule: replier.overrun
abbrev pub asked_unless : Option Refusal → SlotState → ℕ → Globals → Place → MdTelegram → Outcome
asked_unless (Some refusal) slot listener globals src telegram =
    record { slot = slot; records = Indicates (OverrunIs listener) ∷ [] }
asked_unless None slot listener globals src telegram = record {
  slot = with_new_object slot (Replier (asked_by src telegram.head globals.now));
  records =
      Indicates
      (AskedIs listener slot.next telegram.head.session (message_of src telegram))
      ∷ [];
}

-- what a slot makes of a request that its listener of that handle heard: nothing where a replier
-- of the session is open, whichever peer it belongs to
-- rule: replier.repeat replier.again
abbrev pub asked : SlotState → ℕ → Globals → Place → MdTelegram → Outcome
asked slot listener globals src telegram =
    if has_session Replying telegram.head.session slot.objects
    then unchanged slot
    else asked_unless (opening_refusal slot Replying) slot listener globals src telegram

-- the same, if one of its listeners heard it
abbrev pub asked_by_hearing :
    Option ℕ → SlotState → Globals → Place → MdTelegram → Outcome
asked_by_hearing None slot globals src telegram = unchanged slot
asked_by_hearing (Some listener) slot globals src telegram =
    asked slot listener globals src telegram
