use Rattle.trdp_marshal.specs.Items.{model_of}
use Rattle.trdp_marshal.proofs.RefusalLemmas.{tells_unknown, tells_shape, tells_long}
use Rattle.trdp_marshal.proofs.writer.encode.Goals as goal

pub returns-clause-unknown : goal.returns-clause-unknown
returns-clause-unknown c = tells_unknown c.args.registry.now
    c.args.id (model_of c.args.item.now) c.encoded.result c.encoded.ensures.fault

pub returns-clause-shape : goal.returns-clause-shape
returns-clause-shape c = tells_shape c.args.registry.now
    c.args.id (model_of c.args.item.now) c.encoded.result c.encoded.ensures.fault

pub returns-clause-long : goal.returns-clause-long
returns-clause-long c = tells_long c.args.registry.now
    c.args.id (model_of c.args.item.now) c.encoded.result c.encoded.ensures.fault
