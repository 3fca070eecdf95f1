-- One step of what is at a place up or down a heap.
-- For `rise`, `sink` and `first_below`, and for `KeyLemmas`.
-- By: in a heap that is one but at one place, a step moves that place and leaves the rest a heap.
use Rattle.std.proofs.Common.{◌≡◌, ◌<◌, ◌≤◌, ◌-◌, ◌+◌, ◌*◌, ◌/◌, inl, inr, ℕ, zero}
use Rattle.std.proofs.Common.{suc, Option, None, refl, sym, ap, subst, ◌∙◌, arith}
use Rattle.std.proofs.lemmas.Bool.{cases_eq}
use Rattle.trdp_timers.specs.declared.order.Order.{Order}
use Rattle.trdp_timers.specs.Orders.{Leads}
use Rattle.trdp_timers.specs.Heap.{IsHeap, FitsAt, CanRise, CanSink, IsSwapped}
use Rattle.trdp_timers.proofs.OrderLemmas.{leads_refl, leads_none, leads_trans}

-- two equations at once
along : {a b x y : Option Order} → x ≡ a → y ≡ b → Leads a b → Leads x y
along {a} {b} {x} {y} e f h = rw (e, f) h

-- a heap where what is at the place fits between its neighbours
pub settled : (n : ℕ) (at : ℕ → Option Order) (p : ℕ) (was : Option Order) → FitsAt n at p was
    → (0 < p → Leads (at ((p - 1) / 2)) (at p))
    → ((i : ℕ) → 0 < i → i < n → (i - 1) / 2 ≡ p → Leads (at p) (at i)) → IsHeap n at
settled n at p was fits up down i some within = elim (cases_eq i p) [
  | inl e ↦ subst (λ (k : ℕ). Leads (at ((k - 1) / 2)) (at k)) (sym e) (up (omega arith))
  | inr ne ↦ elim (cases_eq ((i - 1) / 2) p) [
    | inl e ↦ subst (λ (k : ℕ). Leads (at k) (at i)) (sym e) (down i some within e)
    | inr other ↦ fits.others i some within ne other
  ]
]

-- what is at p goes up one step
pub risen : (n m : ℕ) (at to : ℕ → Option Order) (p q : ℕ) → m ≡ n → q ≡ (p - 1) / 2
    → 0 < p → p < n → IsSwapped at to p q → Leads (at p) (at q) → CanRise n at p → CanRise m to q
risen n m at to p q same_n is some within swapped before (was, fits, rises) = (
  at q,
  record {
    others = λ i pos inside ne other. elim (cases_eq ((i - 1) / 2) p) [
      | inl e ↦ along (ap to e ∙ swapped.first) (swapped.others i (omega arith) ne)
          (leads_trans (at q) was (at i) (subst (λ (k : ℕ). Leads (at k) was)
          (sym is) (fits.above some)) (fits.below i pos (omega arith) e))
      | inr far ↦ along (swapped.others ((i - 1) / 2) far other)
          (swapped.others i (λ e. other (ap (λ (k : ℕ). (k - 1) / 2) e ∙ sym is)) ne)
          (fits.others i
          pos (omega arith) (λ e. other (ap (λ (k : ℕ). (k - 1) / 2) e ∙ sym is)) far)
    ];
    above = λ pos. along (swapped.others ((q - 1) / 2) (omega arith) (omega arith))
        refl (fits.others q pos (omega arith) (omega arith) (omega arith));
    below = λ i pos inside e. elim (cases_eq i p) [
      | inl same ↦ along refl (ap to same ∙ swapped.first) (leads_refl (at q))
      | inr apart ↦ along refl (swapped.others i apart (omega arith))
          (subst (λ (k : ℕ). Leads (at k) (at i))
          e (fits.others i pos (omega arith) apart (omega arith)))
    ];
  },
  along swapped.second refl before,
)

-- what is at p goes down one step, in exchange for the first of those below it
pub sunk : (n m : ℕ) (at to : ℕ → Option Order) (p c : ℕ)
    → m ≡ n → 0 < c → c < n → (c - 1) / 2 ≡ p → IsSwapped at to p c
    → ((i : ℕ) → 0 < i → i < n → (i - 1) / 2 ≡ p → Leads (at c) (at i))
    → CanSink n at p → CanSink m to c
sunk n m at to p c same_n some within is swapped first (was, fits) = (
  at c,
  record {
    others = λ i pos inside ne other. elim (cases_eq i p) [
      | inl e ↦
          along (swapped.others ((i - 1) / 2) (omega arith) (omega arith)) (ap to e ∙ swapped.first)
          (leads_trans (at ((i - 1) / 2)) was (at c) (subst (λ (k : ℕ). Leads (at ((k - 1) / 2))
          was) (sym e) (fits.above (omega arith))) (fits.below c some within is))
      | inr apart ↦ elim (cases_eq ((i - 1) / 2) p) [
        | inl e ↦ along (ap to e ∙ swapped.first) (swapped.others i apart ne)
            (first i pos (omega arith) e)
        | inr far ↦ along (swapped.others ((i - 1) / 2) far other)
            (swapped.others i apart ne) (fits.others i pos (omega arith) apart far)
      ]
    ];
    above = λ pos. along (ap to is ∙ swapped.first) refl (leads_refl (at c));
    below = λ i pos inside e. along refl (swapped.others i (omega arith) (omega arith))
        (subst (λ (k : ℕ). Leads (at k) (at i))
        e (fits.others i pos (omega arith) (omega arith) (omega arith)));
  },
)

-- what is at p, below which nothing is, can rise from there
pub can_rise_from_end : (n : ℕ) (at : ℕ → Option Order) (p : ℕ) → n / 2 ≤ p → CanSink n at p
    → CanRise n at p
can_rise_from_end n at p end (was, fits) = (
  None,
  record {
    others = fits.others;
    above = λ h. leads_none (at ((p - 1) / 2));
    below = λ i h k e. absurd (omega arith);
  },
  leads_none (at p),
)

-- the first leads all
pub first_leads : (n : ℕ) (at : ℕ → Option Order)
    → IsHeap n at → (m i : ℕ) → i < m → i < n → Leads (at 0) (at i)
first_leads n at heap zero i less within = absurd (omega arith)
first_leads n at heap (suc m) zero less within = leads_refl (at 0)
first_leads n at heap (suc m) (suc i) less within =
    leads_trans (at 0) (at ((suc i - 1) / 2)) (at (suc i)) (first_leads n at heap
    m ((suc i - 1) / 2) (omega arith) (omega arith)) (heap (suc i) (omega arith) within)

-- what leads both of those below p leads each of them
pub of_two : (n : ℕ) (at : ℕ → Option Order) (p c : ℕ)
    → (2 * p + 1 < n → Leads (at c) (at (2 * p + 1)))
    → (2 * p + 1 + 1 < n → Leads (at c) (at (2 * p + 1 + 1)))
    → (i : ℕ) → 0 < i → i < n → (i - 1) / 2 ≡ p → Leads (at c) (at i)
of_two n at p c left right i some within is = elim (cases_eq i (2 * p + 1)) [
  | inl e ↦ subst (λ (k : ℕ). Leads (at c) (at k)) (sym e) (left (omega arith))
  | inr ne ↦
      let e : 2 * p + 1 + 1 ≡ i = omega arith in
      subst (λ (k : ℕ). Leads (at c) (at k)) e (right (omega arith))
]
