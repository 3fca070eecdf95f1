use Rattle.std.proofs.Common.{◌≡◌, ◌++◌, ◌+◌, ◌-◌, ◌≤◌, length, replicate, None}
use Rattle.std.proofs.Common.{vec_len, vec_capacity}
use Rattle.std.specs.List.{range_with_len}
use Rattle.trdp_table.proofs.pool.add_keys.Given as goal

abbrev pub invariant-loop : goal.invariant-loop
invariant-loop l = record {
  places : l.places.items ≡ l.fn.places.items ++ replicate l.counter None;
  free : l.free.items
      ≡ l.fn.free.items ++ range_with_len (length l.fn.places.items) l.counter;
  places_room : vec_len l.places + (l.more - l.counter) ≤ vec_capacity l.places;
  free_room : vec_len l.free + (l.more - l.counter) ≤ vec_capacity l.free;
  capacity : vec_capacity l.free ≡ vec_capacity l.fn.free;
}
