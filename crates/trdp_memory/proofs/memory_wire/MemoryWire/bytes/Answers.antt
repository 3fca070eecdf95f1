use Rattle.std.proofs.Common.{◌∙◌, ap}
use Rattle.std.specs.List.{flat_map}
use Rattle.trdp_memory.proofs.GiveRowLemmas.{gives_bytes}
use Rattle.trdp_memory.proofs.memory_wire.MemoryWire.bytes.Goals as goal

pub returns : goal.returns
returns c =
    c.deref.ensures.value
    ∙ gives_bytes c.self.inside.given.items c.self.inside.bytes.items c.self.invariant.0
    ∙ ap (λ w. flat_map (λ give. give.offer.bytes) w.gives) c.self.view_is
