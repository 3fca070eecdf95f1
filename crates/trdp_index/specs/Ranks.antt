-- The order of rows.
use Rattle.std.specs.Prelude.{Bool, ◌==◌, ◌&&◌, ◌||◌, nat_lt}
use Rattle.trdp_index.specs.declared.rank.Rank.{Rank}

-- one comes before another by its first number, then by its slot, then by its last number
unfoldable pub is_before : Rank → Rank → Bool
is_before a b =
    nat_lt a.first b.first
    || (a.first == b.first
    && (nat_lt a.slot b.slot || (a.slot == b.slot && nat_lt a.last b.last)))

-- one is the same as another
unfoldable pub is_same : Rank → Rank → Bool
is_same a b = a.first == b.first && a.slot == b.slot && a.last == b.last
