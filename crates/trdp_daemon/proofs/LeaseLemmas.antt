-- The effect of a take that found nothing at a port, or the end of an application.
-- For `Service::visit` and `Service::take_end`.
-- By cases on the port.
use Rattle.std.proofs.Common.{◌≡◌, ℕ, Bool, true, false, List, [], Option, refl, sym, ◌∙◌, ap, subst}
use Rattle.std.proofs.Common.{if◌then◌else◌}
use Rattle.trdp_daemon.specs.declared.link.Link.{Link}
use Rattle.trdp_wire.specs.declared.port.Port.{Port}
use Rattle.trdp_wire.specs.declared.port.Port.TheVariants.{Pd, Md, PdGroup, MdGroup}
use Rattle.trdp_wire.specs.declared.port.Port.TheVariants.{Operator, Control}
use Rattle.trdp_daemon.specs.declared.service.Service.{Service}
use Rattle.trdp_wire.specs.Told.{Taking, Give}
use Rattle.trdp_daemon.specs.Effects.{Effect, Loss, ServiceState, TextsLost, still}
use Rattle.trdp_daemon.specs.Leases.{end_effect, ended_effect, is_silent_at, quiet_effect}
use Rattle.trdp_daemon.specs.Services.{Comes, ComesWith, service_state}
use Rattle.trdp_daemon.proofs.VisitLemmas.{nothing_comes}

-- at a port of a slot that was silent for too long the slot's application has ended; at the others
-- nothing happens
quiet_is : (s : ServiceState) (port : Port) (loss : Loss) → quiet_effect s port loss
    ≡ (if is_silent_at s port then ended_effect s port loss else still s)
unfolding quiet_effect is_silent_at ended_effect
quiet_is s Pd loss = refl
quiet_is s Md loss = refl
quiet_is s (PdGroup group) loss = refl
quiet_is s (MdGroup group) loss = refl
quiet_is s Operator loss = refl
quiet_is s (Control slot) loss = refl

pub quiet_end : {W : Type 0} {takings_in : W → Option (List Taking)}
    {gives_in : W → Option (List Give)} {a b : Link W} (old new : Service) (port : Port)
    (silent : Bool) → silent ≡ is_silent_at (service_state old) port → silent ≡ true
    → ComesWith takings_in gives_in old new a b (ended_effect (service_state old) port)
    → ComesWith takings_in gives_in old new a b (quiet_effect (service_state old) port)
quiet_end {W} {takings_in} {gives_in} {a} {b} old new port silent is true_is comes = record {
  loss = comes.loss;
  comes = subst (λ (e : Effect). Comes takings_in gives_in old new a b [] e)
      (sym (quiet_is (service_state old) port comes.loss
      ∙ ap (λ x. if x then ended_effect (service_state old) port comes.loss
      else still (service_state old)) (sym is ∙ true_is))) comes.comes;
}

pub quiet_still : {W : Type 0} (takings_in : W → Option (List Taking))
    (gives_in : W → Option (List Give)) (a : Link W) (s : Service) (port : Port) (silent : Bool)
    → silent ≡ is_silent_at (service_state s) port → silent ≡ false
    → ComesWith takings_in gives_in s s a a (quiet_effect (service_state s) port)
quiet_still takings_in gives_in a s port silent is false_is = record {
  loss = TextsLost [];
  comes = subst (λ (e : Effect). Comes takings_in gives_in s s a a [] e)
      (sym (quiet_is (service_state s) port (TextsLost [])
      ∙ ap (λ x. if x then ended_effect (service_state s) port (TextsLost [])
      else still (service_state s)) (sym is ∙ false_is))) (nothing_comes takings_in gives_in s a);
}

-- at a control port that slot's application has ended
pub ended_control : {W : Type 0} {takings_in : W → Option (List Taking)}
    {gives_in : W → Option (List Give)} {a b : Link W} (old new : Service) (port : Port)
    (slot : ℕ) → port ≡ Control slot
    → ComesWith takings_in gives_in old new a b (end_effect (service_state old) slot)
    → ComesWith takings_in gives_in old new a b (ended_effect (service_state old) port)
unfolding ended_effect
ended_control old new port slot is comes =
    rw is (record { loss = comes.loss; comes = comes.comes })

pub ended_else : {W : Type 0} (takings_in : W → Option (List Taking))
    (gives_in : W → Option (List Give)) (a : Link W) (s : Service) (port : Port)
    → ((slot : ℕ) → port ≡ Control slot → ⊥)
    → ComesWith takings_in gives_in s s a a (ended_effect (service_state s) port)
unfolding ended_effect
ended_else takings_in gives_in a s Pd other =
    record { loss = TextsLost []; comes = nothing_comes takings_in gives_in s a }
ended_else takings_in gives_in a s Md other =
    record { loss = TextsLost []; comes = nothing_comes takings_in gives_in s a }
ended_else takings_in gives_in a s (PdGroup group) other =
    record { loss = TextsLost []; comes = nothing_comes takings_in gives_in s a }
ended_else takings_in gives_in a s (MdGroup group) other =
    record { loss = TextsLost []; comes = nothing_comes takings_in gives_in s a }
ended_else takings_in gives_in a s Operator other =
    record { loss = TextsLost []; comes = nothing_comes takings_in gives_in s a }
ended_else takings_in gives_in a s (Control slot) other = absurd (other slot refl)
