-- A publisher and its moment.
use Rattle.std.specs.Prelude.{ℕ, ◌+◌, ◌-◌, ◌*◌, ◌/◌, ◌%◌, ◌^◌, List, Option, Some, None, Bool}
use Rattle.std.specs.Prelude.{true, false, is_some, ◌==◌, ◌&&◌, ◌||◌, if◌then◌else◌}
use Rattle.trdp_head.specs.declared.pd.PdHead.{PdHead}
use Rattle.trdp_head.specs.declared.pd.PdKind.{PdKind}
use Rattle.trdp_head.specs.declared.pd.PdKind.TheVariants.{Data as DataKind, PullReply}
use Rattle.trdp_head.specs.declared.pd.PdKind.TheVariants.{PullRequest}
use Rattle.trdp_filter.specs.declared.globals.Globals.{Globals}
use Rattle.trdp_filter.specs.Counts.{topo_valid}
use Rattle.trdp_filter.specs.Globals.{leads}
use Rattle.trdp_filter.specs.Telegrams.{TelegramModel, PdIs, MdIs}
use Rattle.trdp_pd.specs.declared.terms.PublisherTerms.{PublisherTerms}
use Rattle.trdp_pd.specs.declared.object.Taken.TheVariants.{Nothing as NotTaken, Pulled}
use Rattle.trdp_pd.specs.declared.object.Fired.TheVariants.{Nothing, Data}
use Rattle.trdp_pd.specs.Effects.{Reception, Firing}

-- a publisher: what it is to send, when it is next due, its value if it has one, and the counter
-- of its next telegram
pub record PublisherState : Type 0 where
  pub terms : PublisherTerms
  pub due : ℕ
  pub value : Option (List ℕ)
  pub counter : ℕ

-- a new publisher is first due one cycle later, has no value, and counts from 0
-- rule: publisher.first
abbrev pub published : PublisherTerms → ℕ → PublisherState
published terms now = record { terms = terms; due = now + terms.cycle; value = None; counter = 0 }

-- a publisher of cycle 0 is never due
-- rule: publisher.idle
abbrev pub publisher_due : PublisherState → Option ℕ
publisher_due p = if p.terms.cycle == 0 then None else Some p.due

-- may send: it has a value, the node leads its group if it has one, and its topology counters
-- match the node's
-- rule: publisher.send
abbrev pub may_send : PublisherState → Globals → Bool
may_send p globals =
    is_some p.value
    && (p.terms.group == 0 || leads globals.led p.terms.group)
    && topo_valid p.terms.topo globals.topo

-- no catching up: the first of its moments after now, in whole cycles from the one that it was due
-- at
-- rule: publisher.cycle
abbrev pub next_due : PublisherState → ℕ → ℕ
next_due p now = p.due + ((now - p.due) / p.terms.cycle + 1) * p.terms.cycle

-- the sequence counter after one more telegram
abbrev pub next_counter : ℕ → ℕ
next_counter counter = (counter + 1) % 2 ^ 32

-- the header of the next telegram, as one of this type: the publisher's sequence counter, comId
-- and topology counters, and no reply fields
-- rule: publisher.head
abbrev pub head_as : PdKind → PublisherState → PdHead
head_as kind p = record {
  counter = p.counter;
  kind = kind;
  com_id = p.terms.com_id;
  topo = p.terms.topo;
  reply_com_id = 0;
  reply_ip = record { 0 = 0 };
}

-- the header of the next telegram of the cycle
abbrev pub data_head : PublisherState → PdHead
data_head p = head_as DataKind p

-- the header of the next telegram that answers a pull request
abbrev pub reply_head : PublisherState → PdHead
reply_head p = head_as PullReply p

-- cyclic sending: at most one telegram; the counter goes up by one modulo 2^32 exactly where one
-- is sent
-- rule: publisher.counter
abbrev pub publisher_firing : PublisherState → Globals → Firing PublisherState
publisher_firing p globals =
    if may_send p globals
    then record {
      object = record p { due = next_due p globals.now; counter = next_counter p.counter };
      fired = Data (data_head p);
    }
    else record { object = record p { due = next_due p globals.now }; fired = Nothing }

-- the message type that asks for a value
unfoldable pub asks_for_value : PdKind → Bool
asks_for_value PullRequest = true
asks_for_value _ = false

-- the comId that a pull request asks for: its replyComId, or its comId where that is 0
-- rule: publisher.asked
unfoldable pub asked_com_id : PdHead → ℕ
asked_com_id head = if head.reply_com_id == 0 then head.com_id else head.reply_com_id

-- the telegram is a pull request that asks for the publisher's comId, with topology counters that
-- match the publisher's
unfoldable pub is_asked : PublisherState → PdHead → Bool
is_asked p head =
    asks_for_value head.kind
    && asked_com_id head == p.terms.com_id
    && topo_valid head.topo p.terms.topo

-- which telegrams are for a publisher; no message is
abbrev pub publisher_addressed : PublisherState → TelegramModel → Globals → Bool
publisher_addressed p (PdIs src dst telegram) globals = is_asked p telegram.head
publisher_addressed p (MdIs src dst telegram) globals = false

-- the publisher answers the pull request: it is asked, and it may send
unfoldable pub is_answered : PublisherState → PdHead → Globals → Bool
is_answered p head globals = is_asked p head && may_send p globals

-- pull answer: one telegram out of the cycle, which is counted like those of the cycle and leaves
-- the due moment
-- rule: publisher.answer
abbrev pub publisher_taking :
    PublisherState → TelegramModel → Globals → Bool → Reception PublisherState
publisher_taking p (PdIs src dst telegram) globals fits =
    if is_answered p telegram.head globals
    then record {
      object = record p { counter = next_counter p.counter };
      taken = Pulled (reply_head p);
    }
    else record { object = p; taken = NotTaken }
publisher_taking p (MdIs src dst telegram) globals fits = record { object = p; taken = NotTaken }
