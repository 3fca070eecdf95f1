use Rattle.std.proofs.Common.{sym, ◌∙◌, ap}
use Rattle.trdp_memory.specs.MemoryConnections.{answers_write, went_by}
use Rattle.trdp_memory.proofs.FirstLemmas.{found_none, find_element}
use Rattle.trdp_memory.proofs.connection_log.went_at.Goals as goal

pub returns-in-None : goal.returns-in-None
returns-in-None c = c.took.ensures ∙ ap (went_by c.args.many) (sym (found_none
    (answers_write c.args.number c.args.write) c.args.answers.now
    (sym c.answer_index.ensures ∙ c.in-None.is)))

pub returns-in-Some : goal.returns-in-Some
returns-in-Some c = c.cut_went.ensures ∙ ap (went_by c.args.many) (sym (find_element
    (answers_write c.args.number c.args.write) c.args.answers.now c.in-Some.index _
    (sym c.answer_index.ensures ∙ c.in-Some.is)))
