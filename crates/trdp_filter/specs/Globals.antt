-- What all objects of a node see alike.
use Rattle.std.specs.Prelude.{ℕ, Bool, false, replicate, slice_index_or, slice_set}
use Rattle.trdp_filter.specs.declared.globals.Groups.{Groups}
use Rattle.trdp_filter.specs.declared.globals.Globals.{Globals}

-- how many numbers a redundancy group may have, 0 for none among them (profile)
abbrev pub group_count : ℕ
group_count = 256

-- the node leads no redundancy group
unfoldable pub no_groups : Groups
no_groups = record { led = replicate group_count false }

-- the node leads the redundancy group
unfoldable pub leads : Groups → ℕ → Bool
leads groups group = slice_index_or groups.led group false

-- the redundancy groups with the node as leader of this one, or as follower
-- rule: role.group
unfoldable pub with_role : Groups → ℕ → Bool → Groups
with_role groups group leader = record { led = slice_set groups.led group leader }

-- node globals before the first event: time 0, both topology counters 0, no group led
abbrev pub first_globals : Globals
first_globals = record { now = 0; topo = record { etb = 0; op_trn = 0 }; led = no_groups }
