use Rattle.trdp_text.specs.ConfigNames.{text_of_config_fault}
use Rattle.trdp_program.proofs.FaultLineLemmas.{first_whole, first_front}
use Rattle.trdp_program.proofs.told.tell_config_fault.Goals as goal

pub returns-then-tell_line : goal.returns-then-tell_line
returns-then-tell_line g c =
    first_whole (text_of_config_fault c.args.fault) _ (g.E.Write.contents c.tell_line.new.writer)
    _ (c.tell_line.ensures.whole c.if-tell_line.true) c.tell_text.ensures

pub returns-else-tell_line : goal.returns-else-tell_line
returns-else-tell_line g c =
    first_front (text_of_config_fault c.args.fault) _ _ c.tell_line.ensures.told
