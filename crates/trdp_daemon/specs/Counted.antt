-- What was counted from take to take: the totals in each answer to the operator.
use Rattle.std.specs.Prelude.{◌≡◌, List, [], ◌∷◌, length, take, drop}
use Rattle.trdp_daemon.specs.declared.totals.Totals.{Totals}
use Rattle.trdp_daemon.specs.Counting.{totals_after}
use Rattle.trdp_daemon.specs.Effects.{ServiceState, Effect}
use Rattle.trdp_wire.specs.Told.{Taking, Give}
use Rattle.trdp_daemon.specs.Turns.{Visit, visit_effect, Turn, moment_effect, turn_effect}
use Rattle.trdp_daemon.specs.Turns.{takings_of}

-- the totals after these takes and this effect of them, where the first of the gives are those of
-- what it offers
abbrev pub counted_with : Totals → List Taking → Effect → List Give → Totals
counted_with totals takings effect gives =
    totals_after totals takings (take (length effect.telling.offers) gives) effect.telling.missed

-- the gives after them
abbrev pub gives_behind : Effect → List Give → List Give
gives_behind effect gives = drop (length effect.telling.offers) gives

-- from these totals on, with these gives, each take was answered when that much was counted, that
-- take included
abbrev pub VisitsCounted : Totals → ServiceState → List Visit → List Give → Type 0
VisitsCounted totals service [] gives = Unit {0}
VisitsCounted totals service (visit ∷ visits) gives =
    let effect = visit_effect service visit in
    (visit.totals ≡ totals_after totals (visit.taking ∷ []) [] 0)
    × VisitsCounted (counted_with totals (visit.taking ∷ []) effect gives) effect.service visits
    (gives_behind effect gives)

-- the same of a turn's takes, after its moment
abbrev pub TurnCounted : Totals → ServiceState → Turn → List Give → Type 0
TurnCounted totals service turn gives =
    let moment = moment_effect service turn in
    VisitsCounted (counted_with totals [] moment gives) moment.service turn.visits
    (gives_behind moment gives)

-- the same of turns one after another
abbrev pub TurnsCounted : Totals → ServiceState → List Turn → List Give → Type 0
TurnsCounted totals service [] gives = Unit {0}
TurnsCounted totals service (turn ∷ turns) gives =
    let effect = turn_effect service turn in
    TurnCounted totals service turn gives
    × TurnsCounted (counted_with totals (takings_of turn) effect gives) effect.service turns
    (gives_behind effect gives)
