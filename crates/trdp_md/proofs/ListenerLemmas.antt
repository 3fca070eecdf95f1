-- What a listener hears.
-- For `listener_hears_its_own`.
-- By cases on the message type, and on the tests of the filter.
use Rattle.std.proofs.Common.{◌≡◌, ◌⊎◌, inl, inr, Bool, true, false, refl}
use Rattle.std.specs.Prelude.{◌↔◌, ◌&&◌}
use Rattle.trdp_head.specs.declared.md.MdKind.{MdKind}
use Rattle.trdp_head.specs.declared.md.MdKind.TheVariants.{Notify, Request, Reply, Query, Confirm}
use Rattle.trdp_head.specs.declared.md.MdKind.TheVariants.{Error}
use Rattle.trdp_filter.specs.declared.globals.Globals.{Globals}
use Rattle.trdp_filter.specs.MdFilters.{md_passes}
use Rattle.trdp_filter.specs.Telegrams.{TelegramModel, PdIs, MdIs}
use Rattle.trdp_pd.specs.declared.object.Taken.TheVariants.{Nothing as NotTaken, Heard}
use Rattle.trdp_md.specs.declared.listener.Listener.{Listener}
use Rattle.trdp_md.specs.Listeners.{is_unasked, is_for_listener, IsHeard}
use Rattle.trdp_md.specs.Listeners.{listener_addressed, listener_taking}
use Rattle.trdp_md.proofs.ConfirmLemmas.{both}

false-true : false ≡ true → ⊥
false-true is = absurd (cc)

-- the messages that come unasked are notifications and requests
kind-is_unasked :
    (kind : MdKind) → is_unasked kind ≡ true → (kind ≡ Notify) ⊎ (kind ≡ Request)
unfolding is_unasked
kind-is_unasked Notify is = inl refl
kind-is_unasked Request is = inr refl
kind-is_unasked Reply is = absurd (false-true is)
kind-is_unasked Query is = absurd (false-true is)
kind-is_unasked Confirm is = absurd (false-true is)
kind-is_unasked Error is = absurd (false-true is)

is_unasked-kind :
    (kind : MdKind) → (kind ≡ Notify) ⊎ (kind ≡ Request) → is_unasked kind ≡ true
unfolding is_unasked
is_unasked-kind kind (inl is) = rw is refl
is_unasked-kind kind (inr is) = rw is refl

-- what is for a listener is what it is to hear
IsHeard-addressed :
    (l : Listener) (telegram : TelegramModel) (globals : Globals)
    → listener_addressed l telegram globals ≡ true → IsHeard l telegram globals
unfolding is_for_listener
IsHeard-addressed l (PdIs src dst telegram) globals is = false-true is
IsHeard-addressed l (MdIs src dst telegram) globals is =
    let passes : Bool = md_passes l.filter src dst telegram.head globals.topo in
    let parts = both (is_unasked telegram.head.kind) passes is in
    (kind-is_unasked telegram.head.kind parts.0, parts.1)

addressed-IsHeard :
    (l : Listener) (telegram : TelegramModel) (globals : Globals)
    → IsHeard l telegram globals → listener_addressed l telegram globals ≡ true
unfolding is_for_listener
addressed-IsHeard l (PdIs src dst telegram) globals is = absurd (is)
addressed-IsHeard l (MdIs src dst telegram) globals is =
    rw (is_unasked-kind telegram.head.kind is.0, is.1) refl

-- what a listener hears is for it
addressed-heard :
    (l : Listener) (telegram : TelegramModel) (globals : Globals) (fits : Bool)
    → (listener_taking l telegram globals fits).taken ≡ Heard
    → listener_addressed l telegram globals ≡ true
addressed-heard l telegram globals fits heard =
    either (listener_addressed l telegram globals) refl
  where
    either :
        (b : Bool) → listener_addressed l telegram globals ≡ b
        → listener_addressed l telegram globals ≡ true
    either true is = is
    either false is = let none : NotTaken ≡ Heard = rw is at heard in absurd (cc)

pub hears :
    (l : Listener) (telegram : TelegramModel) (globals : Globals) (fits : Bool)
    → ((listener_taking l telegram globals fits).taken ≡ Heard) ↔ IsHeard l telegram globals
hears l telegram globals fits = (
  λ heard. IsHeard-addressed l telegram globals (addressed-heard l telegram globals fits heard),
  λ is. rw (addressed-IsHeard l telegram globals is) refl,
)
