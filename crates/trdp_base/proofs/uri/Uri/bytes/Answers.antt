use Rattle.std.proofs.Common.{length, arith, ap, subst}
use Rattle.std.specs.Prelude.{All}
use Rattle.trdp_base.proofs.UriLemmas.{NoZero, length-before_zero, no_zero_before}
use Rattle.trdp_base.proofs.uri.Uri.bytes.Goals as goal

pub returns-clause-within : goal.returns-clause-within
returns-clause-within c =
    omega (arith, length-before_zero c.self.inside.field, c.self.told, ap length c.self.view_is)

pub returns-clause-sound : goal.returns-clause-sound
returns-clause-sound c = subst (All NoZero) c.self.view_is (no_zero_before c.self.inside.field)
