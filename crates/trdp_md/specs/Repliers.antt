-- A replier: a request that was heard, and waits for its answer.
use Rattle.std.specs.Prelude.{ℕ, ◌+◌, ℤ, Option, Some, None, Bool, true, false, ◌==◌, ◌&&◌}
use Rattle.std.specs.Prelude.{if◌then◌else◌}
use Rattle.trdp_base.specs.declared.place.Place.{Place}
use Rattle.trdp_head.specs.declared.md.MdHead.{MdHead}
use Rattle.trdp_head.specs.declared.md.MdKind.{MdKind}
use Rattle.trdp_head.specs.declared.md.MdKind.TheVariants.{Notify, Request, Reply, Query, Confirm}
use Rattle.trdp_head.specs.declared.md.MdKind.TheVariants.{Error}
use Rattle.trdp_filter.specs.declared.globals.Globals.{Globals}
use Rattle.trdp_filter.specs.Counts.{topo_valid}
use Rattle.trdp_filter.specs.Telegrams.{TelegramModel, PdIs, MdIs}
use Rattle.trdp_pd.specs.declared.object.Reason.{Reason}
use Rattle.trdp_pd.specs.declared.object.Reason.TheVariants.{ReplyMissed, NoConfirm}
use Rattle.trdp_pd.specs.declared.object.Taken.TheVariants.{Nothing as NotTaken, Confirmed}
use Rattle.trdp_pd.specs.declared.object.Fired.TheVariants.{Closed}
use Rattle.trdp_pd.specs.Effects.{Reception, Firing}
use Rattle.trdp_md.specs.declared.replier.Stage.{Stage}
use Rattle.trdp_md.specs.declared.replier.Stage.TheVariants.{Asked, AwaitConfirm}
use Rattle.trdp_md.specs.declared.replier.Replier.{Replier}
use Rattle.trdp_md.specs.Waiting.{reply_by}

-- a new replier: it keeps from the request where to send answers and with what fields, and the
-- request's time begins now
abbrev pub asked_by : Place → MdHead → ℕ → Replier
asked_by peer head now = record {
  peer = peer;
  session = head.session;
  topo = head.topo;
  source_uri = head.source_uri;
  dest_uri = head.dest_uri;
  stage = Asked;
  deadline = Some (reply_by head.timeout now);
}

-- the header of an answer: of the request's session and topology counters, with the request's URIs
-- swapped
-- rule: replier.answer
unfoldable pub answer_with : Replier → MdKind → ℕ → ℤ → ℕ → MdHead
answer_with r kind com_id status timeout = record {
  counter = 0;
  kind = kind;
  com_id = com_id;
  topo = r.topo;
  status = status;
  session = r.session;
  timeout = timeout;
  source_uri = r.dest_uri;
  dest_uri = r.source_uri;
}

-- a query was sent: its confirmation is awaited, for a time that begins now
-- rule: replier.query
abbrev pub queried : Replier → ℕ → ℕ → Replier
queried r now timeout =
    record r { stage = AwaitConfirm; deadline = Some (now + timeout) }

-- the stage in which a confirmation is awaited
-- rule: confirmation.stage
unfoldable pub awaits_confirm : Stage → Bool
awaits_confirm Asked = false
awaits_confirm AwaitConfirm = true

-- the message type that confirms
unfoldable pub is_confirm : MdKind → Bool
is_confirm Notify = false
is_confirm Request = false
is_confirm Reply = false
is_confirm Query = false
is_confirm Confirm = true
is_confirm Error = false

-- a confirmation is awaited, and the message is one of the replier's session, from the peer's
-- address and any port, with topology counters that match the request's
-- rule: confirmation.source
unfoldable pub is_for_replier : Replier → Place → MdHead → Bool
is_for_replier r src head =
    awaits_confirm r.stage && is_confirm head.kind && head.session.0 == r.session.0
    && src.ip.0 == r.peer.ip.0 && topo_valid head.topo r.topo

-- when it is to close
abbrev pub replier_due : Replier → Option ℕ
replier_due r = r.deadline

-- which telegrams are for a replier; no process data is
abbrev pub replier_addressed : Replier → TelegramModel → Globals → Bool
replier_addressed r (PdIs src dst telegram) globals = false
replier_addressed r (MdIs src dst telegram) globals = is_for_replier r src telegram.head

-- a replier that is over has no deadline
abbrev pub ended : Replier → Replier
ended r = record r { deadline = None }

-- reception: the confirmation ends it, any other telegram changes nothing
abbrev pub replier_taking : Replier → TelegramModel → Globals → Bool → Reception Replier
replier_taking r (PdIs src dst telegram) globals fits = record { object = r; taken = NotTaken }
replier_taking r (MdIs src dst telegram) globals fits =
    if is_for_replier r src telegram.head
    then record { object = ended r; taken = Confirmed telegram.head.status }
    else record { object = r; taken = NotTaken }

-- why it closes at its deadline
-- rule: replier.reason
unfoldable pub missed : Stage → Reason
missed Asked = ReplyMissed
missed AwaitConfirm = NoConfirm

-- the deadline ends it
abbrev pub replier_firing : Replier → Globals → Firing Replier
replier_firing r globals = record { object = ended r; fired = Closed (missed r.stage) }
