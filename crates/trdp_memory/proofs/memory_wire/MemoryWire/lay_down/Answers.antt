use Rattle.std.proofs.Common.{◌≡◌, [], ◌∷◌, ◌++◌, ◌∙◌, ap, map}
use Rattle.trdp_memory.specs.Rows.{row_taking}
use Rattle.trdp_memory.specs.contracts.memory_wire.MemoryWire.{the_view}
use Rattle.trdp_memory.specs.MemoryWires.{ArrivalModel, with_arrival}
use Rattle.trdp_memory.proofs.MemoryWireLemmas.{arrival_laid}
use Rattle.trdp_memory.proofs.TakeRowLemmas.{takings_more, within_more}
use Rattle.trdp_memory.proofs.memory_wire.MemoryWire.lay_down.Goals as goal

pub invariant_of-self-2 : goal.invariant_of-self-2
invariant_of-self-2 c = (
  c.self.invariant.0,
  within_more c.self.inside.arrivals.items c.push.new.self.items
      _ c.self.inside.taken.items c.in_ok-push.ensures.items c.self.invariant.1,
  c.self.invariant.2,
)

pub returns-clause-laid_down : goal.returns-clause-laid_down
returns-clause-laid_down c =
    let arrival : ArrivalModel = record {
      port = c.args.port;
      at_take = c.args.take;
      from = c.args.from;
      bytes = c.args.bytes.now;
      ends = c.args.ends;
    } in
    let laid = c.self.inside.arrivals.items in
    let more : c.push.new.self.items ≡ laid ++ arrival ∷ [] = c.in_ok-push.ensures.items
    ∙ ap (λ l. laid ++ (let a : ArrivalModel = record arrival { bytes = l } in a) ∷ [])
    (c.in_ok-bytes.ensures.items_if_clones_equal (λ x y same. same)) in
    arrival_laid (the_view c.self.inside) c.push.new.self.items
    _ arrival more (ap (λ l. map (row_taking l) c.self.inside.taken.items) more
    ∙ takings_more laid arrival c.self.inside.taken.items c.self.invariant.1)
    ∙ ap (λ w. with_arrival w arrival) c.self.view_is
