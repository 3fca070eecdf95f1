-- What came and went at a link.
use Rattle.std.specs.Prelude.{◌≡◌, List, map, Option}
use Rattle.trdp_daemon.specs.declared.link.Link.{Link}
use Rattle.trdp_base.specs.Reported.{TellsMore}
use Rattle.trdp_wire.specs.Told.{Taking, Give}
use Rattle.trdp_daemon.specs.Counting.{totals_after}
use Rattle.trdp_daemon.specs.Effects.{Telling}

-- these takes were made, all of this was offered, and nothing else; the wire reports its takes and
-- gives by these functions
pub record Carries {W : Type 0} (takings_in : W → Option (List Taking))
    (gives_in : W → Option (List Give)) (old new : Link W) (takings : List Taking)
    (telling : Telling) : Type 0 where
  pub gives : List Give
  pub offers : map (λ g. g.offer) gives ≡ telling.offers
  pub takes : TellsMore (takings_in old.wire) (takings_in new.wire) takings
  pub given : TellsMore (gives_in old.wire) (gives_in new.wire) gives
  pub totals : new.totals ≡ totals_after old.totals takings gives telling.missed
