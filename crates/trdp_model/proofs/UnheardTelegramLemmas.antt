-- Telegrams that no listener hears: each object that one is for acts at it.
-- For the lemmas on what a node hears, in the crate above.
-- By induction on the objects.
use Rattle.std.proofs.Common.{◌≡◌, ℕ, List, [], ◌∷◌, filter, not, Option}
use Rattle.std.proofs.Common.{None, Bool, true, false, refl, ◌∙◌, sym, ap}
use Rattle.std.specs.Prelude.{◌&&◌, ◌||◌}
use Rattle.std.proofs.lemmas.Bool.{false≢true}
use Rattle.trdp_filter.specs.declared.globals.Globals.{Globals}
use Rattle.trdp_filter.specs.Telegrams.{TelegramModel}
use Rattle.trdp_model.specs.Slots.{Entry}
use Rattle.trdp_model.specs.Datagrams.{is_for_entry, is_listening, hearing, acts_where, acting}

-- the telegram is for no listener
abbrev pub IsUnheard : TelegramModel → Globals → Type 0
IsUnheard telegram globals = (e : Entry)
    → (is_listening e && is_for_entry telegram globals e) ≡ false

module _ (telegram : TelegramModel) (globals : Globals) (none : IsUnheard telegram globals) where
  nobody_hears : (es : List Entry) → hearing telegram globals es ≡ None
  nobody_hears [] = refl
  nobody_hears (e ∷ es) = rw (none e) (nobody_hears es)

  acts_is : (e : Entry) → acts_where None telegram globals e ≡ is_for_entry telegram globals e
  acts_is e = either (is_listening e) (is_for_entry telegram globals e) (none e)
    where
      either : (l a : Bool) → (l && a) ≡ false → (a && (not l || false)) ≡ a
      either true true never = absurd (false≢true (sym never))
      either true false never = refl
      either false true never = refl
      either false false never = refl

  filter_same : (p q : Entry → Bool) (es : List Entry)
      → ((e : Entry) → p e ≡ q e) → filter p es ≡ filter q es
  filter_same p q [] same = refl
  filter_same p q (e ∷ es) same = rw (same e, filter_same p q es same) refl

  pub acting_all : (es : List Entry)
      → acting telegram globals es ≡ filter (is_for_entry telegram globals) es
  acting_all es =
      ap (λ (l : Option ℕ). filter (acts_where l telegram globals) es) (nobody_hears es)
      ∙ filter_same (acts_where None telegram globals) (is_for_entry telegram globals) es acts_is
