-- What was counted from take to take, of takes and turns one after another.
-- For `TurnLemmas` and `DaemonLemmas`.
-- By induction: the gives of the first are those in front, and what they count is counted before.
use Rattle.std.proofs.Common.{◌≡◌, ◌≤◌, ◌+◌, ℕ, List, [], ◌∷◌, ◌++◌, Option, sym, ◌∙◌}
use Rattle.std.proofs.Common.{ap, subst, arith, map, take, length, length-append}
use Rattle.std.specs.Prelude.{drop}
use Rattle.std.specs.List.{flat_map}
use Rattle.std.proofs.lemmas.List.{length-map, length-drop, take_at, drop_at, take-append-le}
use Rattle.std.proofs.lemmas.List.{drop-append-le, take-append-drop}
use Rattle.std.proofs.lemmas.List.Concat.{flat_map-cons}
use Rattle.trdp_daemon.specs.declared.link.Link.{Link}
use Rattle.trdp_daemon.specs.declared.totals.Totals.{Totals}
use Rattle.trdp_wire.specs.Told.{Taking, Give, Offer}
use Rattle.trdp_daemon.specs.Counted.{counted_with, VisitsCounted, TurnCounted, TurnsCounted}
use Rattle.trdp_daemon.specs.Counting.{totals_after}
use Rattle.trdp_daemon.specs.Effects.{ServiceState, Telling}
use Rattle.trdp_daemon.specs.Links.{Carries}
use Rattle.trdp_daemon.specs.Turns.{Visit, visit_effect, visits_effect, Turn, moment_effect}
use Rattle.trdp_daemon.specs.Turns.{turn_effect, turns_effect, takings_of}
use Rattle.trdp_daemon.proofs.LinkLemmas.{totals_both}

-- there is a give for each offer
pub gives_length : (gives : List Give) (offers : List Offer)
    → map (λ g. g.offer) gives ≡ offers → length offers ≡ length gives
gives_length gives offers is =
    ap (λ (l : List Offer). length l) (sym is) ∙ length-map gives (λ g. g.offer)

pub given_length : {W : Type 0} {takings_in : W → Option (List Taking)}
    {gives_in : W → Option (List Give)} {a b : Link W} {ts : List Taking} {x : Telling}
    (p : Carries takings_in gives_in a b ts x) → length x.offers ≡ length p.gives
given_length {x = x} p = gives_length p.gives x.offers p.offers

-- from equal totals and services on
pub counted_from : {s t : ServiceState} {m n : Totals} (vs : List Visit) (gs : List Give)
    → s ≡ t → m ≡ n → VisitsCounted m s vs gs → VisitsCounted n t vs gs
counted_from {s} {t} {m} {n} vs gs service totals counted =
    subst (λ (x : Totals). VisitsCounted x t vs gs) totals
    (subst (λ (x : ServiceState). VisitsCounted m x vs gs) service counted)

pub turns_counted_from : {s t : ServiceState} {m n : Totals} (ts : List Turn) (gs : List Give)
    → s ≡ t → m ≡ n → TurnsCounted m s ts gs → TurnsCounted n t ts gs
turns_counted_from {s} {t} {m} {n} ts gs service totals counted =
    subst (λ (x : Totals). TurnsCounted x t ts gs) totals
    (subst (λ (x : ServiceState). TurnsCounted m x ts gs) service counted)

-- what holds of the front of the gives and of those after it holds with more gives
more_gives : (P : List Give → List Give → Type 0) (n : ℕ) (gs hs : List Give) → n ≤ length gs
    → P (take n gs) (drop n gs ++ hs) → P (take n (gs ++ hs)) (drop n (gs ++ hs))
more_gives P n gs hs within is =
    subst (λ (l : List Give). P l (drop n (gs ++ hs))) (sym (take-append-le n gs hs within))
    (subst (λ (l : List Give). P (take n gs) l) (sym (drop-append-le n gs hs within)) is)

-- takes with more gives after theirs
visits_more : (totals : Totals) (s : ServiceState) (vs : List Visit) (gs hs : List Give)
    → length (visits_effect s vs).telling.offers ≤ length gs → VisitsCounted totals s vs gs
    → VisitsCounted totals s vs (gs ++ hs)
visits_more totals s [] gs hs enough counted = tt
visits_more totals s (v ∷ vs) gs hs enough (here, counted) =
    let e = visit_effect s v in
    let n = length e.telling.offers in
    let rest = (visits_effect e.service vs).telling.offers in
    let all = length-append e.telling.offers rest in
    let within : n ≤ length gs = omega (arith, enough, all) in
    let left : length rest ≤ length (drop n gs) =
    omega (arith, enough, all, length-drop n gs) in (
      here,
      more_gives (λ front behind. VisitsCounted
          (totals_after totals (v.taking ∷ []) front e.telling.missed) e.service vs behind) n gs hs
          within (visits_more (counted_with totals (v.taking ∷ []) e gs) e.service vs (drop n gs)
          hs left counted),
    )

-- a turn with more gives after its own
turn_more : (totals : Totals) (s : ServiceState) (turn : Turn) (gs hs : List Give)
    → length (turn_effect s turn).telling.offers ≤ length gs → TurnCounted totals s turn gs
    → TurnCounted totals s turn (gs ++ hs)
turn_more totals s turn gs hs enough counted =
    let e = moment_effect s turn in
    let n = length e.telling.offers in
    let rest = (visits_effect e.service turn.visits).telling.offers in
    let all = length-append e.telling.offers rest in
    let within : n ≤ length gs = omega (arith, enough, all) in
    let left : length rest ≤ length (drop n gs) =
    omega (arith, enough, all, length-drop n gs) in
    more_gives (λ front behind. VisitsCounted (totals_after totals [] front e.telling.missed)
    e.service turn.visits behind) n gs hs within
    (visits_more (counted_with totals [] e gs) e.service turn.visits (drop n gs) hs left counted)

-- what is counted by an effect, and by one after it
counted_on : (totals : Totals) (ts us : List Taking) (n : ℕ) (gs : List Give) (m k : ℕ)
    → totals_after totals (ts ++ us) gs (m + k)
    ≡ totals_after (totals_after totals ts (take n gs) m) us (drop n gs) k
counted_on totals ts us n gs m k =
    ap (λ l. totals_after totals (ts ++ us) l (m + k)) (sym (take-append-drop n gs))
    ∙ sym (totals_both totals ts us (take n gs) (drop n gs) m k)

-- takes, and then others
pub visits_counted_both : (totals : Totals) (s : ServiceState) (vs ws : List Visit)
    (gs hs : List Give) → length (visits_effect s vs).telling.offers ≡ length gs
    → VisitsCounted totals s vs gs
    → VisitsCounted (totals_after totals (map (λ v. v.taking) vs) gs
    (visits_effect s vs).telling.missed) (visits_effect s vs).service ws hs
    → VisitsCounted totals s (vs ++ ws) (gs ++ hs)
visits_counted_both totals s [] ws [] hs all counted others = others
visits_counted_both totals s [] ws (g ∷ gs) hs all counted others = absurd (omega (arith, all))
visits_counted_both totals s (v ∷ vs) ws gs hs all (here, counted) others =
    let e = visit_effect s v in
    let n = length e.telling.offers in
    let rest = visits_effect e.service vs in
    let sum = length-append e.telling.offers rest.telling.offers in
    let within : n ≤ length gs = omega (arith, all, sum) in
    let left : length rest.telling.offers ≡ length (drop n gs) =
    omega (arith, all, sum, length-drop n gs) in
    let later = subst (λ (t : Totals). VisitsCounted t rest.service ws hs)
    (counted_on totals (v.taking ∷ []) (map (λ v. v.taking) vs) n gs e.telling.missed
    rest.telling.missed) others in (
      here,
      more_gives (λ front behind. VisitsCounted
          (totals_after totals (v.taking ∷ []) front e.telling.missed) e.service (vs ++ ws) behind)
          n gs hs within (visits_counted_both (counted_with totals (v.taking ∷ []) e gs) e.service
          vs ws (drop n gs) hs left counted later),
    )

-- turns, and then others
pub turns_counted_both : (totals : Totals) (s : ServiceState) (ts us : List Turn)
    (gs hs : List Give) → length (turns_effect s ts).telling.offers ≡ length gs
    → TurnsCounted totals s ts gs
    → TurnsCounted (totals_after totals (flat_map takings_of ts) gs
    (turns_effect s ts).telling.missed) (turns_effect s ts).service us hs
    → TurnsCounted totals s (ts ++ us) (gs ++ hs)
turns_counted_both totals s [] us [] hs all counted others = others
turns_counted_both totals s [] us (g ∷ gs) hs all counted others = absurd (omega (arith, all))
turns_counted_both totals s (t ∷ ts) us gs hs all (here, counted) others =
    let e = turn_effect s t in
    let n = length e.telling.offers in
    let rest = turns_effect e.service ts in
    let sum = length-append e.telling.offers rest.telling.offers in
    let within : n ≤ length gs = omega (arith, all, sum) in
    let left : length rest.telling.offers ≡ length (drop n gs) =
    omega (arith, all, sum, length-drop n gs) in
    let later = subst (λ (x : Totals). TurnsCounted x rest.service us hs)
    (ap (λ l. totals_after totals l gs (e.telling.missed + rest.telling.missed))
    (flat_map-cons takings_of t ts)
    ∙ counted_on totals (takings_of t) (flat_map takings_of ts) n gs e.telling.missed
    rest.telling.missed) others in (
      turn_more totals s t gs hs within here,
      more_gives (λ front behind. TurnsCounted
          (totals_after totals (takings_of t) front e.telling.missed) e.service (ts ++ us) behind)
          n gs hs within (turns_counted_both (counted_with totals (takings_of t) e gs) e.service
          ts us (drop n gs) hs left counted later),
    )

-- a moment, and then the takes
pub moment_counted : (totals : Totals) (s : ServiceState) (turn : Turn) (gs hs : List Give)
    → length (moment_effect s turn).telling.offers ≡ length gs
    → VisitsCounted (totals_after totals [] gs (moment_effect s turn).telling.missed)
    (moment_effect s turn).service turn.visits hs
    → TurnCounted totals s turn (gs ++ hs)
moment_counted totals s turn gs hs all counted =
    let e = moment_effect s turn in
    let n = length e.telling.offers in
    subst (λ (l : List Give). VisitsCounted (totals_after totals [] l e.telling.missed) e.service
    turn.visits (drop n (gs ++ hs))) (sym (take_at gs hs n (sym all)))
    (subst (λ (l : List Give). VisitsCounted (totals_after totals [] gs e.telling.missed)
    e.service turn.visits l) (sym (drop_at gs hs n (sym all))) counted)
