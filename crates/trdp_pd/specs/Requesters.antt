-- A requester.
use Rattle.std.specs.Prelude.{ℕ, Option, None, Bool, false}
use Rattle.trdp_head.specs.declared.pd.PdHead.{PdHead}
use Rattle.trdp_head.specs.declared.pd.PdKind.TheVariants.{PullRequest}
use Rattle.trdp_filter.specs.declared.globals.Globals.{Globals}
use Rattle.trdp_filter.specs.Telegrams.{TelegramModel}
use Rattle.trdp_pd.specs.declared.terms.RequesterTerms.{RequesterTerms}
use Rattle.trdp_pd.specs.declared.object.Taken.TheVariants.{Nothing as NotTaken}
use Rattle.trdp_pd.specs.declared.object.Fired.TheVariants.{Nothing}
use Rattle.trdp_pd.specs.Effects.{Reception, Firing}
use Rattle.trdp_pd.specs.Publishers.{next_counter}

-- a requester: what it asks for, and the counter of its next pull request
pub record RequesterState : Type 0 where
  pub terms : RequesterTerms
  pub counter : ℕ

-- a new requester counts from 0
abbrev pub opened : RequesterTerms → RequesterState
opened terms = record { terms = terms; counter = 0 }

-- the header of the next pull request
-- rule: requester.head
abbrev pub pull_head : RequesterState → PdHead
pull_head r = record {
  counter = r.counter;
  kind = PullRequest;
  com_id = r.terms.com_id;
  topo = r.terms.topo;
  reply_com_id = r.terms.reply_com_id;
  reply_ip = r.terms.reply_ip;
}

-- a requester that pulled, and the header that it sends
pub record Pulling : Type 0 where
  pub object : RequesterState
  pub head : PdHead

-- pull: one pull request, and the counter goes up by one modulo 2^32
-- rule: requester.pull
abbrev pub pulling : RequesterState → Pulling
pulling r = record { object = record r { counter = next_counter r.counter }; head = pull_head r }

-- a requester is never due
abbrev pub requester_due : RequesterState → Option ℕ
requester_due r = None

-- no telegram is for a requester
abbrev pub requester_addressed : RequesterState → TelegramModel → Globals → Bool
requester_addressed r telegram globals = false

-- a requester accepts no telegram
abbrev pub requester_taking :
    RequesterState → TelegramModel → Globals → Bool → Reception RequesterState
requester_taking r telegram globals fits = record { object = r; taken = NotTaken }

-- a requester does nothing by itself
abbrev pub requester_firing : RequesterState → Globals → Firing RequesterState
requester_firing r globals = record { object = r; fired = Nothing }
