use Rattle.std.proofs.Common.{sym}
use Rattle.trdp_calls.proofs.CallLemmas.Requests.{sends_request}
use Rattle.trdp_store.proofs.StoreLemmas.Slots.{slots_kept}
use Rattle.trdp_calls.proofs.callers.request.Goals as goal

pub returns-in-Some-clause-becomes : goal.returns-in-Some-clause-becomes
returns-in-Some-clause-becomes c =
    rw (← c.in-Some.ensures.value)
    (record {
      slots = sym (slots_kept c.args.store.now c.args.s c.requires.slot);
      records = c.push_plain_answer.ensures.records;
    })

pub returns-clause-becomes : goal.returns-clause-becomes
returns-clause-becomes c =
    sends_request c.args.store.now c.open-answer.new.store c.args.s c.args.setting.now.globals.now
    c.args.terms.now c.args.payload.now c.in_ok-caller.caller _ c.request_head.result
    c.args.out.now c.push_plain_answer-2.new.self c.push_md.new.self
    (sym c.in_default.ensures.value)
    c.in_ok-caller.ensures c.request_head.ensures c.open-answer.ensures.outcome
    c.open-answer.ensures.others c.push_plain_answer-2.ensures.records c.push_md.ensures.records
