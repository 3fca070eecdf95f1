use Rattle.std.proofs.Common.{◌≡◌, ◌++◌, drop, map}
use Rattle.toml.specs.View.{table_view}
use Rattle.trdp_dataset.specs.Seen.{tables_seen}
use Rattle.trdp_dataset.specs.Configs.{slot_config, slots_in}
use Rattle.trdp_dataset.specs.StoredSlots.{slot_models}
use Rattle.trdp_dataset.proofs.config.slots_in.Given as goal

abbrev pub invariant-loop-member : goal.invariant-loop-member
invariant-loop-member l = slot_models l.slots.items
    ++ map slot_config (tables_seen (drop l.member-index l.member-items))
    ≡ slots_in (table_view l.top)
