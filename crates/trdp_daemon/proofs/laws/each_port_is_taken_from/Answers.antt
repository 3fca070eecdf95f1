use Rattle.trdp_daemon.proofs.EachPortLemmas.{turns_take_each, all_open}
use Rattle.trdp_daemon.specs.Turns.{opened_service}
use Rattle.trdp_daemon.proofs.laws.each_port_is_taken_from.Goals as goal

pub returns-clause-served : goal.returns-clause-served
returns-clause-served c = λ config service turns enough takes.
    turns_take_each config service turns enough takes

pub returns-clause-opened : goal.returns-clause-opened
returns-clause-opened c = λ config lease turns none takes.
    turns_take_each config (opened_service config lease) turns (all_open config lease none) takes
