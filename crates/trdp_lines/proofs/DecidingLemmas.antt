-- When one that waits at a path is decided.
-- For `Path::take` and its steps.
-- By: it is where a read found nothing; else something came.
use Rattle.std.proofs.Common.{◌≡◌, ℕ, ◌<◌, ◌++◌, List, [], ◌∷◌, true, false, Option}
use Rattle.std.proofs.Common.{Some, None, zero, suc, inl, inr, refl, sym, ◌∙◌, arith}
use Rattle.std.proofs.lemmas.Bool.{cases_lt, or_parts}
use Rattle.std.proofs.lemmas.List.Folds.{list_any-append}
use Rattle.std.specs.Prelude.{IfNone}
use Rattle.trdp_lines.specs.declared.connections.Accepted.TheVariants.{Came}
use Rattle.trdp_lines.specs.declared.rule.Rule.{Rule}
use Rattle.trdp_lines.specs.declared.rule.Rule.TheVariants.{Application, Operators}
use Rattle.trdp_lines.specs.Askings.{AsksPlaces}
use Rattle.trdp_lines.specs.Connections.{Accepts, ConnectionCall}
use Rattle.trdp_base.specs.Reported.{TellsMore}
use Rattle.trdp_lines.specs.Conversations.{ConversationState}
use Rattle.trdp_lines.specs.Hearings.{Decides, Hears, brings, has_brought}
use Rattle.trdp_lines.specs.Paths.{IsTrueOf}
use Rattle.trdp_lines.specs.Seatings.{IsPath}
use Rattle.trdp_lines.specs.Seats.{seat_at, seats_at}
use Rattle.trdp_lines.proofs.AskingLemmas.{if_none_then}
use Rattle.trdp_lines.proofs.BetweenLemmas.{tells_nothing, told_next}
use Rattle.trdp_lines.proofs.HadLemmas.{never_both}

-- where none waits then
pub decides_none : (calls calls_then : Option (List ConnectionCall)) (more : List ConnectionCall)
    (waiting : Option ℕ) → TellsMore calls calls_then more → waiting ≡ None
    → Decides calls calls_then waiting
decides_none calls calls_then more waiting told none = record {
  more = more;
  told = told;
  decided = λ nothing. none;
}

-- where something came
pub decides_heard : (calls calls_then : Option (List ConnectionCall)) (waiting : Option ℕ)
    → Hears calls calls_then false true → Decides calls calls_then waiting
decides_heard calls calls_then waiting hears = record {
  more = hears.more;
  told = hears.told;
  decided = λ nothing. never_both (has_brought hears.more) (sym hears.hears) nothing;
}

-- none waits for a seat that is free
none_waits : (calls : List ConnectionCall) (whose : Option ℕ) (c : ConversationState)
    (waiting : Option ℕ) (came : ℕ) → whose ≡ None → IsTrueOf calls whose c waiting came
    → waiting ≡ None
none_waits calls None c None came free known = refl
none_waits calls None c (Some next) came free known = absurd known
none_waits calls (Some n) c waiting came free known = cc

-- where a seat is free
pub decides_free : (rule : Rule) (calls : Option (List ConnectionCall))
    (seats : List ConversationState) (waiting : Option ℕ) (came place : ℕ)
    → IsPath rule calls seats waiting came → place < seats_at rule
    → (seat_at seats place).number ≡ None → Decides calls calls waiting
decides_free Operators calls seats waiting came place path within free =
    decides_none calls calls [] waiting (tells_nothing calls) path.order
decides_free Application calls seats waiting came (suc place) path within free =
    absurd (omega (arith, within))
decides_free Application None seats waiting came zero path within free = record {
  more = Accepts 0 Came ∷ [];
  told = tt;
  decided = λ nothing. never_both (has_brought (Accepts 0 Came ∷ [])) refl nothing;
}
decides_free Application (Some calls) seats waiting came zero path within free =
    decides_none (Some calls) (Some calls) [] waiting (tells_nothing (Some calls))
    (none_waits calls (seat_at seats 0).number (seat_at seats 0) waiting came free path.order)

-- after these calls
pub decides_next : (one two three : Option (List ConnectionCall)) (more : List ConnectionCall)
    (waiting : Option ℕ) → TellsMore one two more → Decides two three waiting
    → Decides one three waiting
decides_next one two three more waiting told then = record {
  more = more ++ then.more;
  told = told_next one two three more then.more told then.told;
  decided = λ nothing. then.decided
      (or_parts (has_brought more) (has_brought then.more)
      (sym (list_any-append brings more then.more) ∙ nothing)).1;
}

-- before these calls, by which none comes to wait
pub decides_before : (one two three : Option (List ConnectionCall)) (more : List ConnectionCall)
    (waiting waiting_then : Option ℕ) → Decides one two waiting → TellsMore two three more
    → (waiting ≡ None → waiting_then ≡ None) → Decides one three waiting_then
decides_before one two three more waiting waiting_then first told kept = record {
  more = first.more ++ more;
  told = told_next one two three first.more more first.told told;
  decided = λ nothing. kept (first.decided
      (or_parts (has_brought first.more) (has_brought more)
      (sym (list_any-append brings first.more more) ∙ nothing)).0);
}

-- a path has a seat
seats_some : (rule : Rule) → 0 < seats_at rule
seats_some Application = omega arith
seats_some Operators = omega arith

-- where all seats were asked, those before a place last
pub decides_round : {X : Type 0} (rule : Rule) (found : Option X) (first : ℕ)
    (one two three : Option (List ConnectionCall)) (seats mid seats_then : List ConversationState)
    (waiting mid_waiting waiting_then : Option ℕ)
    → AsksPlaces first (seats_at rule) one two seats mid waiting
    → (first < seats_at rule → Decides one two mid_waiting)
    → IfNone found (AsksPlaces 0 first two three mid seats_then mid_waiting)
    → IfNone found (0 < first → Decides two three waiting_then)
    → (mid_waiting ≡ None → waiting_then ≡ None)
    → IfNone found (Decides one three waiting_then)
decides_round rule found first one two three seats mid seats_then waiting mid_waiting waiting_then
    before decided behind decided_then kept = elim (cases_lt first (seats_at rule)) [
      | inl low ↦ if_none_then found
          (λ asked. decides_before one two three asked.more mid_waiting waiting_then (decided low)
          asked.told kept) behind
      | inr high ↦ if_none_then found
          (λ decides. decides_next one two three before.more waiting_then before.told
          (decides (omega (arith, high, seats_some rule)))) decided_then
    ]
