use Rattle.std.proofs.Common.{rules}
use Rattle.trdp_dataset.proofs.element.ElementKind.form.Goals as goal

pub returns-in-Int8 : goal.returns-in-Int8
returns-in-Int8 c = search rules
