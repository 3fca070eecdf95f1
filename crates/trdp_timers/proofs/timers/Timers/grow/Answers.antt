use Rattle.std.proofs.Common.{◌≡◌, ◌≤◌, ◌-◌, ◌∙◌, ℕ, List, length, Option, None, ap, arith}
use Rattle.std.proofs.Common.{◌++◌, replicate, vec_capacity}
use Rattle.std.proofs.lemmas.List.{take_all}
use Rattle.trdp_timers.specs.declared.order.Order.{Order}
use Rattle.trdp_timers.proofs.RoomLemmas.{kept_grown}
use Rattle.trdp_timers.proofs.timers.Timers.grow.Goals as goal

pub invariant_of-self-2 : goal.invariant_of-self-2
invariant_of-self-2 c =
    let t = c.self.inside in
    let os = t.orders.items in
    let m = c.args.room - length os in
    let len : t.orders.len ≡ length os = t.orders.ok.0 in
    let more : length os ≤ c.args.room = omega arith in
    let items : c.resize.new.self.items ≡ os ++ replicate m None =
    c.in_ok-resize.ensures.items ∙ ap (λ (l : List (Option Order)).
    l ++ replicate (c.args.room - t.orders.len) None) (take_all c.args.room os more)
    ∙ ap (λ (k : ℕ). os ++ replicate (c.args.room - k) None) len in
    let places : c.add_places.new.self.places.items ≡ t.heap.places.items ++ replicate m 0 =
    c.add_places.ensures.places
    ∙ ap (λ (l : List ℕ). l ++ replicate (c.args.room - length l) 0) c.make_room.ensures.places
    ∙ ap (λ (k : ℕ). t.heap.places.items ++ replicate (c.args.room - k) 0) c.self.invariant.room in
    let cap : c.args.room ≤ vec_capacity c.add_places.new.self.keys =
    rw c.add_places.ensures.keys c.in_ok-make_room.ensures.keys_room in
    kept_grown os c.resize.new.self.items t.heap.keys.items c.add_places.new.self.keys.items
    t.heap.places.items c.add_places.new.self.places.items (vec_capacity t.heap.keys)
    (vec_capacity c.add_places.new.self.keys) m c.self.invariant items (cc) places (omega arith)
