-- A daemon's turns, one after another.
-- For `Daemon::new`, `turn`, `timed_turn` and `run`, and for `RestLemmas`.
-- By: turns that are served one after another are served together.
use Rattle.std.proofs.Common.{◌≡◌, ◌+◌, ℕ, List, [], ◌∷◌, ◌++◌, Option, refl, sym, ◌∙◌}
use Rattle.std.proofs.Common.{ap, subst, length, map, append-nil, length-append}
use Rattle.std.specs.List.{flat_map}
use Rattle.std.proofs.lemmas.List.{map-append}
use Rattle.std.proofs.lemmas.Grind.{flat_map-append}
use Rattle.std.proofs.lemmas.List.Concat.{flat_map-cons}
use Rattle.trdp_dataset.specs.Configs.{ConfigModel}
use Rattle.trdp_daemon.specs.declared.link.Link.{Link}
use Rattle.trdp_wire.specs.declared.port.Port.{Port}
use Rattle.trdp_daemon.specs.declared.service.Service.{Service}
use Rattle.trdp_base.specs.Reported.{TellsMore}
use Rattle.trdp_wire.specs.Told.{Taking, Give}
use Rattle.trdp_daemon.specs.Counting.{no_totals, totals_after}
use Rattle.trdp_daemon.specs.Daemons.{DaemonState, TakesTurns, HasServed, opened_daemon}
use Rattle.trdp_daemon.specs.Effects.{ServiceState, then_effect}
use Rattle.trdp_wire.specs.Ports.{ports_of}
use Rattle.trdp_daemon.specs.Services.{TakesTurn, service_state}
use Rattle.trdp_daemon.specs.Turns.{AllTakeAt, TurnTakesAt, takings_of, turn_effect, turns_effect}
use Rattle.trdp_daemon.specs.Turns.{opened_service}
use Rattle.trdp_daemon.proofs.CountedLemmas.{gives_length, turns_counted_both, turns_counted_from}
use Rattle.trdp_daemon.proofs.LinkLemmas.{carries_as, totals_both}
use Rattle.trdp_base.proofs.ReportedLemmas.{adds_none, adds_both}
use Rattle.trdp_daemon.proofs.TellingLemmas.{both_silence}
use Rattle.trdp_daemon.proofs.TurnLemmas.{turns_append, all_both}

abbrev pub daemon_of : {W C : Type 0} → Service → Link W → C → DaemonState W C
daemon_of service link clock = record {
  service = service_state service;
  wire = link.wire;
  clock = clock;
  totals = link.totals;
  asked = link.asked;
}

-- one turn
unfoldable pub one_turn : {W C : Type 0} {takings_in : W → Option (List Taking)}
    {gives_in : W → Option (List Give)} {readings_in : C → Option (List ℕ)}
    (s t : Service) (a b : Link W) (x y : C) (ports : List Port) (reading : ℕ)
    → ports ≡ ports_of s.node.config → t.node.config ≡ s.node.config
    → TellsMore (readings_in x) (readings_in y) (reading ∷ [])
    → TakesTurn takings_in gives_in s t a b ports reading
    → TakesTurns takings_in gives_in readings_in 1 (daemon_of s a x) (daemon_of t b y)
unfolding carries_as
one_turn {W} {C} {takings_in} {gives_in} {readings_in} s
    t a b x y ports reading named config read p =
    let taken : takings_of p.turn ≡ flat_map takings_of (p.turn ∷ []) =
    sym (append-nil (takings_of p.turn)) ∙ sym (flat_map-cons takings_of p.turn []) in
    let telling = (turn_effect (service_state s) p.turn).telling in
    let whole = carries_as p.comes.carried taken (sym (both_silence telling)) in
    record {
      turns = p.turn ∷ [];
      gives = whole.gives;
      count = refl;
      ports = (
        subst (λ (l : List Port). TurnTakesAt l (service_state s) p.turn) named p.takes_at,
        tt,
      );
      read =
          subst (λ (r : ℕ). TellsMore (readings_in x) (readings_in y) (r ∷ [])) (sym p.reading_is)
          read;
      took = whole.takes;
      gave = whole.given;
      offers = whole.offers;
      service = p.comes.service_is;
      config = config;
      totals = whole.totals;
      counted = (p.counted, tt);
    }

-- no turn
unfoldable pub no_turns : {W C : Type 0} (takings_in : W → Option (List Taking))
    (gives_in : W → Option (List Give)) (readings_in : C → Option (List ℕ)) (d : DaemonState W C)
    → TakesTurns takings_in gives_in readings_in 0 d d
no_turns takings_in gives_in readings_in d = record {
  turns = [];
  gives = [];
  count = refl;
  ports = tt;
  read = adds_none (readings_in d.clock);
  took = adds_none (takings_in d.wire);
  gave = adds_none (gives_in d.wire);
  offers = refl;
  service = refl;
  config = refl;
  totals = refl;
  counted = tt;
}

-- turns after turns
unfoldable pub turns_both : {W C : Type 0} {takings_in : W → Option (List Taking)}
    {gives_in : W → Option (List Give)} {readings_in : C → Option (List ℕ)}
    {m n : ℕ} {a b c : DaemonState W C} → TakesTurns takings_in gives_in readings_in m a b
    → TakesTurns takings_in gives_in readings_in n b c
    → TakesTurns takings_in gives_in readings_in (m + n) a c
turns_both {W} {C} {takings_in} {gives_in} {readings_in} {m} {n} {a} {b} {c} p q =
    let first = turns_effect a.service p.turns in
    let same : turns_effect b.service q.turns ≡ turns_effect first.service q.turns =
    ap (λ s. turns_effect s q.turns) p.service in
    let all : then_effect first (λ after. turns_effect after q.turns) ≡ turns_effect a.service
    (p.turns ++ q.turns) = sym (turns_append a.service p.turns q.turns) in
    let takings = flat_map takings_of p.turns in
    let takings_then = flat_map takings_of q.turns in
    let both_takings : takings ++ takings_then ≡ flat_map takings_of (p.turns ++ q.turns) =
    sym (flat_map-append takings_of p.turns q.turns) in
    record {
      turns = p.turns ++ q.turns;
      gives = p.gives ++ q.gives;
      count = length-append p.turns q.turns ∙ ap (λ k. k + length q.turns) p.count
          ∙ ap (λ k. m + k) q.count;
      ports = all_both (ports_of a.service.node.config) a.service p.turns q.turns p.ports
          (subst (λ (s : ServiceState). AllTakeAt (ports_of a.service.node.config) s q.turns)
          p.service (subst (λ (l : List Port). AllTakeAt l b.service q.turns)
          (ap ports_of p.config) q.ports));
      read = subst (λ (l : List ℕ). TellsMore (readings_in a.clock) (readings_in c.clock) l)
          (sym (map-append (λ t. t.reading) p.turns q.turns))
          (adds_both (readings_in a.clock) (readings_in b.clock) (readings_in c.clock)
          (map (λ t. t.reading) p.turns) (map (λ t. t.reading) q.turns) p.read q.read);
      took =
          subst (λ (l : List Taking). TellsMore (takings_in a.wire) (takings_in c.wire) l)
          both_takings
          (adds_both (takings_in a.wire) (takings_in b.wire)
          (takings_in c.wire) takings takings_then p.took q.took);
      gave = adds_both (gives_in a.wire) (gives_in b.wire)
          (gives_in c.wire) p.gives q.gives p.gave q.gave;
      offers = map-append (λ g. g.offer) p.gives q.gives
          ∙ ap (λ l. l ++ map (λ g. g.offer) q.gives) p.offers
          ∙ ap (λ l. first.telling.offers ++ l) (q.offers ∙ ap (λ e. e.telling.offers) same)
          ∙ ap (λ e. e.telling.offers) all;
      service = q.service ∙ ap (λ e. e.service) same ∙ ap (λ e. e.service) all;
      config = q.config ∙ p.config;
      counted = turns_counted_both a.totals a.service p.turns q.turns p.gives q.gives
          (gives_length p.gives first.telling.offers p.offers)
          p.counted (turns_counted_from q.turns q.gives p.service p.totals q.counted);
      totals = q.totals ∙ ap (λ t. totals_after
          t takings_then q.gives (turns_effect b.service q.turns).telling.missed) p.totals
          ∙ totals_both a.totals takings takings_then
          p.gives q.gives first.telling.missed (turns_effect b.service q.turns).telling.missed
          ∙ ap (λ l. totals_after a.totals l (p.gives ++ q.gives)
          (first.telling.missed + (turns_effect b.service q.turns).telling.missed)) both_takings
          ∙ ap (λ e. totals_after a.totals (flat_map takings_of (p.turns ++ q.turns))
          (p.gives ++ q.gives) (first.telling.missed + e.telling.missed)) same
          ∙ ap (λ e. totals_after a.totals
          (flat_map takings_of (p.turns ++ q.turns)) (p.gives ++ q.gives) e.telling.missed) all;
    }

-- turns from the first on
unfoldable pub served : {W C : Type 0} {takings_in : W → Option (List Taking)}
    {gives_in : W → Option (List Give)} {readings_in : C → Option (List ℕ)}
    {config : ConfigModel} {lease : Option ℕ} {wire : W} {clock : C} {n : ℕ} {d : DaemonState W C}
    → TakesTurns takings_in gives_in readings_in n (opened_daemon config lease wire clock) d
    → HasServed takings_in gives_in readings_in config lease wire clock n d
served p = record {
  turns = p.turns;
  gives = p.gives;
  count = p.count;
  ports = p.ports;
  read = p.read;
  took = p.took;
  gave = p.gave;
  offers = p.offers;
  service = p.service;
  config_is = p.config;
  totals = p.totals;
  counted = p.counted;
}

unfoldable pub from_first : {W C : Type 0} {takings_in : W → Option (List Taking)}
    {gives_in : W → Option (List Give)} {readings_in : C → Option (List ℕ)}
    {config : ConfigModel} {lease : Option ℕ} {wire : W} {clock : C} {n : ℕ} {d : DaemonState W C}
    → HasServed takings_in gives_in readings_in config lease wire clock n d
    → TakesTurns takings_in gives_in readings_in n (opened_daemon config lease wire clock) d
from_first p = record {
  turns = p.turns;
  gives = p.gives;
  count = p.count;
  ports = p.ports;
  read = p.read;
  took = p.took;
  gave = p.gave;
  offers = p.offers;
  service = p.service;
  config = p.config_is;
  totals = p.totals;
  counted = p.counted;
}

unfoldable pub served_on : {W C : Type 0} {takings_in : W → Option (List Taking)}
    {gives_in : W → Option (List Give)} {readings_in : C → Option (List ℕ)}
    {config : ConfigModel} {lease : Option ℕ} {wire : W} {clock : C} {m n : ℕ}
    {d e : DaemonState W C}
    → HasServed takings_in gives_in readings_in config lease wire clock m d
    → TakesTurns takings_in gives_in readings_in n d e
    → HasServed takings_in gives_in readings_in config lease wire clock (m + n) e
served_on p q = served (turns_both (from_first p) q)

opened_is : {W C : Type 0} (config : ConfigModel) (lease : Option ℕ) (wire : W) (clock : C)
    (s : Service) (l : Link W)
    → service_state s ≡ opened_service config lease → l.wire ≡ wire → l.totals ≡ no_totals
    → l.asked ≡ 0 → daemon_of s l clock ≡ opened_daemon config lease wire clock
opened_is config lease wire clock s l service same none fresh = cc

pub served_none : {W C : Type 0} (takings_in : W → Option (List Taking))
    (gives_in : W → Option (List Give)) (readings_in : C → Option (List ℕ))
    (config : ConfigModel) (lease : Option ℕ) (wire : W) (clock : C) (s : Service) (l : Link W)
    → service_state s ≡ opened_service config lease → l.wire ≡ wire → l.totals ≡ no_totals
    → l.asked ≡ 0
    → HasServed takings_in gives_in readings_in config lease wire clock 0 (daemon_of s l clock)
served_none {W} {C} takings_in gives_in readings_in config lease wire clock s
    l service same none fresh =
    let first = opened_daemon config lease wire clock in
    served (subst (λ (d : DaemonState W C). TakesTurns takings_in gives_in readings_in 0 first d)
    (sym (opened_is config lease wire clock s l service same none fresh))
    (no_turns takings_in gives_in readings_in first))
