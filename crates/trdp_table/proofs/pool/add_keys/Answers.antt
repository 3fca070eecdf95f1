use Rattle.std.proofs.Common.{◌≡◌, ◌++◌, ◌+◌, ◌∷◌, [], ◌∙◌, ℕ, List, Option, None, length}
use Rattle.std.proofs.Common.{replicate, ap, arith}
use Rattle.std.specs.List.{range_with_len}
use Rattle.std.proofs.lemmas.List.{append_assoc, replicate_more, length-append, length-replicate}
use Rattle.trdp_table.proofs.PoolLemmas.Places.{Places}
use Rattle.trdp_table.proofs.PoolLemmas.Growth.{keys_more}
use Rattle.trdp_table.proofs.pool.add_keys.Goals as goal

pub loop-preserved : goal.loop-preserved
loop-preserved c =
    let n = c.loop.counter in
    let places : Places = c.args.places.now.items in
    let free : List ℕ = c.args.free.now.items in
    let none_yet : Option ℕ = None in
    let none : Places = replicate n None in
    let was : c.loop.places.items ≡ places ++ none = c.loop.invariant.places in
    let key : c.len.result ≡ length places + n = omega (
      arith,
      c.len.ensures,
      c.loop.places.ok.0,
      ap length was,
      length-append places none,
      length-replicate n none_yet,
    ) in
    record {
      places = rw (c.push_reserved-in-loop.ensures.items, was)
          (append_assoc places none (None ∷ [])
          ∙ ap (λ (ps : Places). places ++ ps) (replicate_more n None));
      free = rw (c.push_reserved.ensures.items, c.loop.invariant.free, key)
          (append_assoc free (range_with_len (length places) n) ((length places + n) ∷ [])
          ∙ ap (λ (ks : List ℕ). free ++ ks) (keys_more (length places) n));
      places_room = omega (
        arith,
        c.loop.invariant.places_room,
        c.loop-test.true,
        c.push_reserved-in-loop.ensures.len,
        c.push_reserved-in-loop.ensures.capacity,
      );
      free_room = omega (
        arith,
        c.loop.invariant.free_room,
        c.loop-test.true,
        c.push_reserved.ensures.len,
        c.push_reserved.ensures.capacity,
      );
      capacity = c.push_reserved.ensures.capacity ∙ c.loop.invariant.capacity;
    }
