-- What a pull does, and where a pull request is answered.
use Rattle.std.specs.Prelude.{List, [], ◌∷◌, Some, Bool, true, false, ◌==◌, if◌then◌else◌}
use Rattle.trdp_base.specs.declared.place.Place.{Place}
use Rattle.trdp_head.specs.declared.pd.PdHead.{PdHead}
use Rattle.trdp_head.specs.PdBytes.{pd_bytes}
use Rattle.trdp_filter.specs.declared.globals.Globals.{Globals}
use Rattle.trdp_filter.specs.Counts.{topo_valid}
use Rattle.trdp_filter.specs.Telegrams.{TelegramModel, PdIs, MdIs}
use Rattle.trdp_model.specs.declared.any_object.AnyObject.{AnyObject}
use Rattle.trdp_model.specs.declared.any_object.AnyObject.TheVariants.{Publisher, Requester}
use Rattle.trdp_pd.specs.Requesters.{RequesterState, pulling}
use Rattle.trdp_model.specs.Configs.{NodeSetup}
use Rattle.trdp_model.specs.declared.fault.Refusal.TheVariants.{WrongKind, State}
use Rattle.trdp_model.specs.declared.record.Protocol.TheVariants.{Pd}
use Rattle.trdp_model.specs.Records.{Content, DoneIs, Answers, Sends, value_sent}
use Rattle.trdp_model.specs.Acts.{Act, refuses}

-- a requester whose topology counters match the node's is answered, and then its pull request
-- goes out without payload
-- rule: requester.counters
abbrev pub pulls_if : Bool → RequesterState → Act
pulls_if false r = refuses (Requester r) State
pulls_if true r = record {
  left = Some (Requester (pulling r).object);
  records = Answers DoneIs ∷ Sends Pd r.terms.to (pd_bytes (pulling r).head []) ∷ [];
}

-- the act of an object that is to pull
abbrev pub pulls : Globals → AnyObject → Act
pulls globals (Requester r) = pulls_if (topo_valid r.terms.topo globals.topo) r
pulls globals object = refuses object WrongKind

-- the place to which the answer to a pull request goes: its reply address, at the node's own
-- process data port, or where it has none the place that it came from; a message is no pull
-- request
-- rule: publisher.reply
unfoldable pub answer_place : NodeSetup → TelegramModel → Place
answer_place setup (PdIs src dst telegram) =
    if telegram.head.reply_ip.0 == 0
    then src
    else record { ip = telegram.head.reply_ip; port = setup.pd_port }
answer_place setup (MdIs src dst telegram) = src

-- the answer of a publisher to a pull request carries its value
abbrev pub pull_answer : AnyObject → Place → PdHead → List Content
pull_answer (Publisher p) to head = value_sent to head p.value
pull_answer object to head = []
