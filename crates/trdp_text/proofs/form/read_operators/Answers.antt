use Rattle.std.proofs.Common.{rules}
use Rattle.trdp_text.specs.Lines.{say_among}
use Rattle.trdp_text.specs.PortLines.{operator_forms}
use Rattle.trdp_text.proofs.form.read_operators.Goals as goal

pub returns-then-is_word-3 : goal.returns-then-is_word-3
unfolding say_among operator_forms
returns-then-is_word-3 c = search rules
