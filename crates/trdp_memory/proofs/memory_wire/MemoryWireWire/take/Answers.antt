use Rattle.std.proofs.Common.{◌==◌, ◌∷◌, [], refl, sym, subst}
use Rattle.trdp_base.specs.Reported.{TellsMore}
use Rattle.trdp_memory.specs.MemoryWires.{MemoryWireState, told}
use Rattle.trdp_wire.specs.Told.{nowhere, taking_of}
use Rattle.trdp_memory.proofs.MemoryWireLemmas.{take_gives_none, take_told}
use Rattle.trdp_memory.proofs.memory_wire.MemoryWireWire.take.Goals as goal

pub returns-clause-takes : goal.returns-clause-takes
returns-clause-takes c =
    let w = c.args.self.now in
    let taking = taking_of c.args.port nowhere c.receive-found.result.0 c.receive-found.new.room in
    subst (λ (x : MemoryWireState). TellsMore (told w.tells w.takings)
    (told x.tells x.takings) (taking ∷ [])) (sym c.receive-found.ensures.after)
    (take_told w taking (w.take_room == 0) refl)

pub returns-clause-gives_nothing : goal.returns-clause-gives_nothing
returns-clause-gives_nothing c =
    let w = c.args.self.now in
    let taking = taking_of c.args.port nowhere c.receive-found.result.0 c.receive-found.new.room in
    subst (λ (x : MemoryWireState). TellsMore (told w.tells w.gives) (told x.tells x.gives) [])
    (sym c.receive-found.ensures.after) (take_gives_none w taking (w.take_room == 0) refl)
