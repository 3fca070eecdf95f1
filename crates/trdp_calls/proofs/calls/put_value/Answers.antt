use Rattle.std.proofs.Common.{rules}
use Rattle.trdp_marshal.specs.Items.{model_of}
use Rattle.trdp_model.specs.Configs.{setup_of}
use Rattle.trdp_store.proofs.StoreLemmas.Slots.{rising}
use Rattle.trdp_calls.proofs.CallLemmas.Acts.{asked_refused}
use Rattle.trdp_calls.proofs.calls.put_value.Goals as goal

pub returns-in-Err-Refused-clause-becomes : goal.returns-in-Err-Refused-clause-becomes
returns-in-Err-Refused-clause-becomes c =
    asked_refused (setup_of c.args.setting.now.config.now)
    (model_of c.args.item.now) c.args.store.now c.args.s c.args.handle
    c.in-Err-Refused.refusal c.args.out.now c.push_plain_answer.new.self c.requires.slot
    (rising c.args.store.now c.args.s c.sound.ensures.sound)
    (rw c.in-Err-Refused.field-0-is at c.in-Err-Refused.ensures.refused)
    (rw c.in_ok-reserve.ensures.records at c.push_plain_answer.ensures.records)

pub ask-requires-clause-room : goal.ask-requires-clause-room
ask-requires-clause-room c = search rules

pub returns-in-Err-NoMemory-clause-unrecorded : goal.returns-in-Err-NoMemory-clause-unrecorded
returns-in-Err-NoMemory-clause-unrecorded c = search rules

pub returns-in-Ok-clause-becomes : goal.returns-in-Ok-clause-becomes
returns-in-Ok-clause-becomes c = search rules
