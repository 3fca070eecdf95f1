use Rattle.std.proofs.Common.{rules}
use Rattle.trdp_script.proofs.input.read_piece.Goals as goal

pub returns-in-Err-clause-bytes : goal.returns-in-Err-clause-bytes
returns-in-Err-clause-bytes g c = search rules
