-- A turn, and turns one after another.
-- For `Service::visit` and `Daemon::timed_turn`, and for the daemon's turns.
-- By induction on the visits: a turn is a moment and then the takes at each port.
use Rattle.std.proofs.Common.{◌≡◌, ◌+◌, ℕ, Bool, true, false, List, [], ◌∷◌, ◌++◌, Option}
use Rattle.std.proofs.Common.{refl, sym, ◌∙◌, ap, subst, take, length}
use Rattle.std.specs.Prelude.{nat_lt}
use Rattle.std.proofs.lemmas.List.{map-append}
use Rattle.trdp_engine.specs.NodeStates.{uncounted}
use Rattle.trdp_daemon.specs.declared.link.Link.{Link}
use Rattle.trdp_model.specs.Events.{EventModel}
use Rattle.trdp_model.specs.NodeModels.{NodeModel}
use Rattle.trdp_wire.specs.declared.port.Port.{Port}
use Rattle.trdp_wire.specs.declared.port.Port.TheVariants.{Pd, Md, PdGroup, MdGroup}
use Rattle.trdp_wire.specs.declared.port.Port.TheVariants.{Operator, Control}
use Rattle.trdp_daemon.specs.declared.service.Service.{Service}
use Rattle.trdp_wire.specs.Told.{Taking, Give}
use Rattle.trdp_daemon.specs.Effects.{ServiceState, Effect, Telling, both}
use Rattle.trdp_daemon.specs.Effects.{still, then_effect, event_effect}
use Rattle.trdp_daemon.specs.Services.{Comes, ComesWith, TakesOnce, TakesAtPorts, TakesTurn}
use Rattle.trdp_daemon.specs.Services.{service_state}
use Rattle.trdp_daemon.specs.Turns.{Visit, visit_effect, visits_effect, Turn, is_there, TakesFirst}
use Rattle.trdp_daemon.specs.Turns.{begun, moment_effect}
use Rattle.trdp_daemon.specs.Turns.{turn_effect, turns_effect, moment_of, TakesAt, AllTakeAt}
use Rattle.trdp_daemon.proofs.CountedLemmas.{counted_from, given_length, moment_counted}
use Rattle.trdp_daemon.proofs.CountedLemmas.{visits_counted_both}
use Rattle.trdp_daemon.proofs.LinkLemmas.{carries_as, carries_none, carries_both}
use Rattle.trdp_daemon.proofs.TellingLemmas.{both_assoc, both_silence, silence_both}

abbrev pub effect_of : ServiceState → Telling → Effect
effect_of service telling = record { service = service; telling = telling }

-- one effect after two others
then_assoc : (e : Effect) (f g : ServiceState → Effect)
    → then_effect (then_effect e f) g ≡ then_effect e (λ s. then_effect (f s) g)
then_assoc e f g = ap (effect_of (g (f e.service).service).service)
    (both_assoc e.telling (f e.service).telling (g (f e.service).service).telling)

still_then : (s : ServiceState) (f : ServiceState → Effect) → then_effect (still s) f ≡ f s
still_then s f = ap (effect_of (f s).service) (silence_both (f s).telling)

visits_append : (s : ServiceState) (xs ys : List Visit) → visits_effect s (xs ++ ys)
    ≡ then_effect (visits_effect s xs) (λ after. visits_effect after ys)
visits_append s [] ys = sym (still_then s (λ after. visits_effect after ys))
visits_append s (x ∷ xs) ys =
    let first = visit_effect s x in
    let later = visits_append first.service xs ys in
    ap (λ e. effect_of e.service (both first.telling e.telling)) later
    ∙ sym (then_assoc first (λ after. visits_effect after xs) (λ after. visits_effect after ys))

pub turns_append : (s : ServiceState) (xs ys : List Turn)
    → turns_effect s (xs ++ ys) ≡ then_effect (turns_effect s xs) (λ after. turns_effect after ys)
turns_append s [] ys = sym (still_then s (λ after. turns_effect after ys))
turns_append s (x ∷ xs) ys =
    let first = turn_effect s x in
    let later = turns_append first.service xs ys in
    ap (λ e. effect_of e.service (both first.telling e.telling)) later
    ∙ sym (then_assoc first (λ after. turns_effect after xs) (λ after. turns_effect after ys))

-- what has the same takes and effect
unfoldable comes_as : {W : Type 0} {takings_in : W → Option (List Taking)}
    {gives_in : W → Option (List Give)} {s t : Service} {a b : Link W} {ts us : List Taking}
    {e f : Effect} → Comes takings_in gives_in s t a b ts e → ts ≡ us → e ≡ f
    → Comes takings_in gives_in s t a b us f
comes_as p takes is = record {
  service_is = p.service_is ∙ ap (λ e. e.service) is;
  carried = carries_as p.carried takes (ap (λ e. e.telling) is);
}

-- what happens one after another
unfoldable pub comes_both : {W : Type 0} {takings_in : W → Option (List Taking)}
    {gives_in : W → Option (List Give)} {r s t : Service} {a b c : Link W}
    {ts us : List Taking} {e : Effect} (f : ServiceState → Effect)
    → Comes takings_in gives_in r s a b ts e
    → Comes takings_in gives_in s t b c us (f (service_state s))
    → Comes takings_in gives_in r t a c (ts ++ us) (then_effect e f)
comes_both {W} {takings_in} {gives_in} {r} {s} {t} {a} {b} {c} {ts} {us} {e} f p q = record {
  service_is = q.service_is ∙ ap (λ x. (f x).service) p.service_is;
  carried = carries_both p.carried
      (carries_as q.carried refl (ap (λ x. (f x).telling) p.service_is));
}

-- takes at a port first, and then at others
first_both : (there : Bool) (port : Port) (ps qs : List Port) (s : ServiceState)
    (xs ys : List Visit) → ((t : ServiceState) (zs : List Visit) → TakesAt ps t zs
    → TakesAt qs (visits_effect t zs).service ys → TakesAt (ps ++ qs) t (zs ++ ys))
    → TakesFirst there port (TakesAt ps) s xs → TakesAt qs (visits_effect s xs).service ys
    → TakesFirst there port (TakesAt (ps ++ qs)) s (xs ++ ys)
first_both false port ps qs s xs ys later first others = later s xs first others
first_both true port ps qs s [] ys later first others = absurd first
first_both true port ps qs s (x ∷ xs) ys later (here, first) others =
    (here, later (visit_effect s x).service xs first others)

-- takes at some ports, and then at others
takes_both : (ps qs : List Port) (s : ServiceState) (xs ys : List Visit) → TakesAt ps s xs
    → TakesAt qs (visits_effect s xs).service ys → TakesAt (ps ++ qs) s (xs ++ ys)
takes_both [] qs s xs ys none others = at_none xs none others
  where
    at_none : (xs : List Visit) → xs ≡ [] → TakesAt qs (visits_effect s xs).service ys
        → TakesAt qs s (xs ++ ys)
    at_none [] none others = others
    at_none (x ∷ xs) none others = absurd (cc)
takes_both (p ∷ ps) qs s xs ys first others = first_both (is_there s.node p) p ps qs s xs ys
    (λ t zs early late. takes_both ps qs t zs ys early late) first others

-- turns that take at some ports, and then others that do
pub all_both : (ports : List Port) (s : ServiceState) (xs ys : List Turn) → AllTakeAt ports s xs
    → AllTakeAt ports (turns_effect s xs).service ys → AllTakeAt ports s (xs ++ ys)
all_both ports s [] ys first others = others
all_both ports s (x ∷ xs) ys (here, first) others =
    (here, all_both ports (turn_effect s x).service xs ys first others)

pub visits_none : {W : Type 0} (takings_in : W → Option (List Taking))
    (gives_in : W → Option (List Give)) (s : Service) (a : Link W)
    → TakesAtPorts takings_in gives_in s s a a []
visits_none takings_in gives_in s a = record {
  visits = [];
  takes_at = refl;
  comes = record { service_is = refl; carried = carries_none takings_in gives_in a };
  counted = tt;
}

-- what a test has said of whether a port is there, and that port after it
abbrev pub Asked : NodeModel → Port → Port → Bool → Type 0
Asked node asked port is = (port ≡ asked) × (is_there node port ≡ is)

pub asked_control : (node : NodeModel) (asked port : Port) (is : Bool) (slot from slots : ℕ)
    → asked ≡ Control slot → port ≡ Control slot → from ≡ slot → slots ≡ length node.slots
    → is ≡ nat_lt from slots → Asked node asked port is
asked_control node asked port is slot from slots before after same count test = (
  after ∙ sym before,
  ap (is_there node) after
      ∙ sym (test ∙ ap (λ n. nat_lt n slots) same ∙ ap (nat_lt slot) count),
)

there_else : (node : NodeModel) (port : Port) → ((slot : ℕ) → port ≡ Control slot → ⊥)
    → is_there node port ≡ true
there_else node Pd other = refl
there_else node Md other = refl
there_else node (PdGroup group) other = refl
there_else node (MdGroup group) other = refl
there_else node Operator other = refl
there_else node (Control slot) other = absurd (other slot refl)

pub asked_other : (node : NodeModel) (asked port : Port) (is : Bool)
    → ((slot : ℕ) → asked ≡ Control slot → ⊥) → port ≡ asked → is ≡ true
    → Asked node asked port is
asked_other node asked port is other same test =
    (same, ap (is_there node) same ∙ there_else node asked other ∙ sym test)

-- a port that isn't there
pub port_passed : {W : Type 0} (takings_in : W → Option (List Taking))
    (gives_in : W → Option (List Give)) (s : Service) (a : Link W) {asked port : Port} {is : Bool}
    → Asked (service_state s).node asked port is → is ≡ false
    → TakesAtPorts takings_in gives_in s s a a (asked ∷ [])
port_passed takings_in gives_in s a asks closed =
    subst (λ (q : Port). TakesAtPorts takings_in gives_in s s a a (q ∷ [])) asks.0 (record {
      visits = [];
      takes_at = rw (asks.1 ∙ closed) refl;
      comes = record { service_is = refl; carried = carries_none takings_in gives_in a };
      counted = tt;
    })

-- a port that is there
pub port_taken : {W : Type 0} {takings_in : W → Option (List Taking)}
    {gives_in : W → Option (List Give)} {s t : Service} {a b : Link W} {asked port : Port}
    {is : Bool} → Asked (service_state s).node asked port is → is ≡ true
    → TakesOnce takings_in gives_in s t a b port
    → TakesAtPorts takings_in gives_in s t a b (asked ∷ [])
port_taken {W} {takings_in} {gives_in} {s} {t} {a} {b} {asked} {port} {is} asks there p =
    let effect = visit_effect (service_state s) p.visit in
    subst (λ (q : Port). TakesAtPorts takings_in gives_in s t a b (q ∷ [])) asks.0 (record {
      visits = p.visit ∷ [];
      takes_at = subst (λ (b : Bool).
          TakesFirst b port (TakesAt []) (service_state s) (p.visit ∷ []))
          (sym (asks.1 ∙ there)) (p.port_is, refl);
      comes = subst (λ (e : Effect). Comes takings_in gives_in s t a b (p.visit.taking ∷ []) e)
          (ap (effect_of effect.service) (sym (both_silence effect.telling))) p.comes;
      counted = (p.counted, tt);
    })

pub visits_both : {W : Type 0} {takings_in : W → Option (List Taking)}
    {gives_in : W → Option (List Give)} {r s t : Service} {a b c : Link W} {ps qs : List Port}
    → TakesAtPorts takings_in gives_in r s a b ps → TakesAtPorts takings_in gives_in s t b c qs
    → TakesAtPorts takings_in gives_in r t a c (ps ++ qs)
unfolding comes_as comes_both carries_as carries_both
visits_both {W} {takings_in} {gives_in} {r} {s} {t} {a} {b} {c} {ps} {qs} p q =
    let first = comes_both {e = visits_effect (service_state r) p.visits}
    (λ after. visits_effect after q.visits) p.comes q.comes in
    record {
      visits = p.visits ++ q.visits;
      takes_at = takes_both ps qs (service_state r) p.visits q.visits p.takes_at
          (subst (λ (x : ServiceState). TakesAt qs x q.visits) p.comes.service_is q.takes_at);
      comes = comes_as first (sym (map-append (λ v. v.taking) p.visits q.visits))
          (sym (visits_append (service_state r) p.visits q.visits));
      counted = visits_counted_both a.totals (service_state r) p.visits q.visits
          p.comes.carried.gives q.comes.carried.gives
          (given_length p.comes.carried)
          p.counted
          (counted_from q.visits q.comes.carried.gives p.comes.service_is p.comes.carried.totals
          q.counted);
    }

-- one more port
pub visits_next : {W : Type 0} {takings_in : W → Option (List Taking)}
    {gives_in : W → Option (List Give)} {r s t : Service} {a b c : Link W}
    (ports : List Port) (i : ℕ) (port : Port) → take (i + 1) ports ≡ take i ports ++ port ∷ []
    → TakesAtPorts takings_in gives_in r s a b (take i ports)
    → TakesAtPorts takings_in gives_in s t b c (port ∷ [])
    → TakesAtPorts takings_in gives_in r t a c (take (i + 1) ports)
visits_next {W} {takings_in} {gives_in} {r} {s} {t} {a} {b} {c} ports i port next p q =
    subst (λ (l : List Port). TakesAtPorts takings_in gives_in r t a c l)
    (sym next) (visits_both p q)

-- a moment, and then the takes
pub turn_taken :
    {W : Type 0} {takings_in : W → Option (List Taking)} {gives_in : W → Option (List Give)}
    {r s t : Service} {a b c : Link W} (ports : List Port) (reading : ℕ)
    → ComesWith takings_in gives_in r s a b
    (event_effect (begun (service_state r) reading) (moment_of (uncounted r.node) reading))
    → TakesAtPorts takings_in gives_in s t b c ports
    → TakesTurn takings_in gives_in r t a c ports reading
unfolding comes_both carries_as carries_both
turn_taken {W} {takings_in} {gives_in} {r} {s} {t} {a} {b} {c} ports reading p q =
    let turn : Turn = record { reading = reading; loss = p.loss; visits = q.visits } in
    record {
      turn = turn;
      reading_is = refl;
      takes_at =
          subst (λ (x : ServiceState). TakesAt ports x q.visits) p.comes.service_is q.takes_at;
      comes = comes_both
          {e = moment_effect (service_state r) turn}
          (λ after. visits_effect after q.visits) p.comes q.comes;
      counted = moment_counted a.totals (service_state r) turn
          p.comes.carried.gives q.comes.carried.gives (given_length p.comes.carried)
          (counted_from q.visits q.comes.carried.gives p.comes.service_is p.comes.carried.totals
          q.counted);
    }

-- the moment of a turn that was begun
pub moment_begun : {W : Type 0} {takings_in : W → Option (List Taking)}
    {gives_in : W → Option (List Give)} {a b : Link W} (old mid new : Service) (state : ServiceState)
    (event event_then : EventModel) → service_state mid ≡ state → event ≡ event_then
    → ComesWith takings_in gives_in mid new a b (event_effect (service_state mid) event)
    → ComesWith takings_in gives_in old new a b (event_effect state event_then)
moment_begun old mid new state event event_then is same p =
    let as_well = ap (λ s. event_effect s event p.loss) is
    ∙ ap (λ e. event_effect state e p.loss) same in
    record {
      loss = p.loss;
      comes = record {
        service_is = p.comes.service_is ∙ ap (λ e. e.service) as_well;
        carried = carries_as p.comes.carried refl (ap (λ e. e.telling) as_well);
      };
    }
