use Rattle.std.proofs.Common.{ap, arith, vec_len, vec_capacity}
use Rattle.std.proofs.lemmas.Grind.{common_steps}
use Rattle.trdp_base.proofs.StatusLemmas.{length-text_of_magnitude}
use Rattle.trdp_base.proofs.status.push_status.Goals.{then-status-lt0, else-status-lt0}
use Rattle.trdp_base.proofs.status.push_status.Goals as goal

pub put_number-requires : goal.put_number-requires
put_number-requires c =
    let digits = length-text_of_magnitude c.from.result
    (omega (arith, c.from.ensures, c.unsigned_abs.ensures.bound)) in
    elim c.if-status-lt0.branch [
      | then-status-lt0 w ↦ record {
        room = omega (
          arith,
          digits,
          ap vec_len w.out-is,
          ap vec_capacity w.out-is,
          w.push_reserved.ensures.len,
          w.push_reserved.ensures.capacity,
          c.in_ok-reserve.ensures.ok,
        );
      }
      | else-status-lt0 w ↦ record {
        room = omega (
          arith,
          digits,
          ap vec_len w.out-is,
          ap vec_capacity w.out-is,
          c.in_ok-reserve.ensures.ok,
        );
      }
    ]

pub returns-clause-length : goal.returns-clause-length
returns-clause-length c =
    let digits = length-text_of_magnitude c.from.result
    (omega (arith, c.from.ensures, c.unsigned_abs.ensures.bound)) in
    elim c.if-status-lt0.branch [
      | then-status-lt0 w ↦ omega (
        arith,
        digits,
        ap vec_len w.out-is,
        w.push_reserved.ensures.len,
        c.put_number.ensures.len,
        c.in_ok-reserve.ensures.len,
      )
      | else-status-lt0 w ↦ omega (
        arith,
        digits,
        ap vec_len w.out-is,
        c.put_number.ensures.len,
        c.in_ok-reserve.ensures.len,
      )
    ]

pub returns-clause-ok : goal.returns-clause-ok
returns-clause-ok c = grind (arith, common_steps)
