use Rattle.trdp_lines.proofs.LineLemmas.{none_found, line_found}
use Rattle.trdp_lines.proofs.intake.first_line_of.Goals as goal

pub returns-in_err-place : goal.returns-in_err-place
returns-in_err-place c = rw c.from_residual.ensures
    (none_found c.args.seen c.args.bytes.now c.requires.unended
    (rw (c.split_at.ensures.back) at c.in_err-place.ensures))

pub returns : goal.returns
returns c = line_found c.args.seen c.args.bytes.now c.in_ok-place.place
    c.requires.within c.requires.unended (rw (c.split_at.ensures.back) at c.in_ok-place.ensures)
