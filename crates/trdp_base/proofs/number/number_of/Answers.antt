use Rattle.std.proofs.Common.{◌<◌, length, refl, arith, ap, Some}
use Rattle.std.proofs.lemmas.Bool.{false≢true}
use Rattle.std.proofs.lemmas.Bool.Decides.{nat_tests}
use Rattle.trdp_base.proofs.NumberLemmas.{read_one_more, written_of_read, written_some}
use Rattle.trdp_base.proofs.NumberLemmas.{written_plain, written_digits, written_front, read_value}
use Rattle.trdp_base.proofs.number.number_of.Goals as goal
use Rattle.trdp_base.proofs.number.number_of.Goals.{then-is_empty-via-then-is_empty}
use Rattle.trdp_base.proofs.number.number_of.Goals.{then-is_empty-via-else-is_empty+then-has_needless_zero}

pub returns-then-is_empty-clause-found : goal.returns-then-is_empty-clause-found
returns-then-is_empty-clause-found c = λ number small e.
    let some = written_some c.args.text.now number small e in
    absurd (elim c.then-is_empty.branch [
      | then-is_empty-via-then-is_empty w ↦
          let empty = w.if-is_empty.ensures in
          grind (arith, nat_tests)
      | then-is_empty-via-else-is_empty+then-has_needless_zero w ↦
          written_plain _ number small e (w.if-has_needless_zero.ensures.0 refl)
    ])

pub returns-in_err-number-clause-found : goal.returns-in_err-number-clause-found
returns-in_err-number-clause-found c = λ number small e.
    let l = c.loop-character in
    let inside = c.loop-character-test.true in
    let digit = written_digits _ number l.character-index small e inside in
    let large = c.in_err-number.ensures.none digit.0 digit.1 in
    absurd (omega (
      arith,
      large,
      small,
      written_front _ number l.character-index l.number small e inside l.invariant.read,
    ))

pub loop-character-preserved : goal.loop-character-preserved
loop-character-preserved c =
    let told = c.in_ok-number.ensures in record {
      read = read_one_more _ c.loop-character.character-index c.loop-character.number
          _ c.loop-character-test.true told.digit.0
          told.digit.1 told.value c.loop-character.invariant.read;
      small = told.small;
    }

pub returns-clause-value : goal.returns-clause-value
returns-clause-value c =
    let some : 0 < length c.args.text.now = grind (arith, nat_tests, c.if-is_empty.ensures) in
    written_of_read _ c.loop-character.character-index c.loop-character.number some
    (λ needless. false≢true (c.if-has_needless_zero.ensures.1 needless))
    c.loop-character-test.false
    (c.loop-character.invariant.small) c.loop-character.invariant.read

pub returns-clause-found : goal.returns-clause-found
returns-clause-found c = λ number small e.
    ap Some (read_value _ c.loop-character.character-index c.loop-character.number number small e
    c.loop-character-test.false c.loop-character.invariant.read)
