use Rattle.std.proofs.Common.{length, sym, ◌∙◌, ap, map}
use Rattle.trdp_memory.specs.Rows.{bytes_in, gives_of}
use Rattle.trdp_memory.proofs.memory_wire.MemoryWire.offers.Goals as goal

pub new-requires : goal.new-requires
new-requires c = ap bytes_in c.deref.ensures.value ∙ c.self.invariant.0
    ∙ ap length (sym c.deref-2.ensures.value)

pub returns : goal.returns
returns c = c.new.ensures
    ∙ ap (λ l. map (λ give. give.offer) (gives_of c.deref-2.result.now l)) c.deref.ensures.value
    ∙ ap (λ l. map (λ give. give.offer) (gives_of l c.self.inside.given.items))
    c.deref-2.ensures.value
    ∙ ap (λ w. map (λ give. give.offer) w.gives) c.self.view_is
