use Rattle.std.proofs.Common.{◌==◌, ◌∷◌, ◌∙◌, [], ap, refl, sym, subst}
use Rattle.trdp_base.specs.Reported.{TellsMore}
use Rattle.trdp_memory.specs.MemoryWires.{MemoryWireState, after_take, told}
use Rattle.trdp_wire.specs.Told.{taking_of}
use Rattle.trdp_memory.proofs.MemoryWireLemmas.{take_gives_none, take_told}
use Rattle.trdp_memory.proofs.memory_wire.MemoryWireWire.find.Goals as goal

pub returns-clause-after : goal.returns-clause-after
returns-clause-after c = c.receive.ensures.after ∙ ap (λ b. after_take c.args.self.now
    (taking_of c.args.port (λ place. b) c.receive.result.0 c.receive.new.room))
    (sym c.receive.ensures.ended)

pub returns-clause-takes : goal.returns-clause-takes
returns-clause-takes c =
    let w = c.args.self.now in
    let taking = taking_of c.args.port (λ place. c.receive.result.1)
    c.receive.result.0 c.receive.new.room in
    subst (λ (x : MemoryWireState). TellsMore (told w.tells w.takings)
    (told x.tells x.takings) (taking ∷ [])) (sym (returns-clause-after c))
    (take_told w taking (w.take_room == 0) refl)

pub returns-clause-gives_nothing : goal.returns-clause-gives_nothing
returns-clause-gives_nothing c =
    let w = c.args.self.now in
    let taking = taking_of c.args.port (λ place. c.receive.result.1)
    c.receive.result.0 c.receive.new.room in
    subst (λ (x : MemoryWireState). TellsMore (told w.tells w.gives) (told x.tells x.gives) [])
    (sym (returns-clause-after c)) (take_gives_none w taking (w.take_room == 0) refl)
