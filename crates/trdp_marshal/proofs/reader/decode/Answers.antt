use Rattle.std.proofs.Common.{arith}
use Rattle.trdp_marshal.proofs.RefusalLemmas.{tells_undecoded_unknown, tells_undecoded_shape}
use Rattle.trdp_marshal.proofs.reader.decode.Goals as goal

pub returns-clause-unknown : goal.returns-clause-unknown
returns-clause-unknown c = tells_undecoded_unknown c.args.registry.now
    c.args.id c.args.bytes.now c.decoded.result c.decoded.ensures.fault

pub returns-clause-shape : goal.returns-clause-shape
returns-clause-shape c =
    tells_undecoded_shape c.args.registry.now c.args.id c.args.bytes.now
    c.decoded.result c.decoded.ensures.fault (λ i. omega (arith, c.type_inv.bytes i))
