-- What is true of every listener: its proofs for the trait of all objects. They are here because
-- what a trait's implementation names in src/ may be in specs/ alone.
use Rattle.std.specs.Prelude.{◌≡◌, Bool, false, refl}
use Rattle.trdp_filter.specs.declared.globals.Globals.{Globals}
use Rattle.trdp_filter.specs.Telegrams.{TelegramModel}
use Rattle.trdp_pd.specs.declared.object.Taken.TheVariants.{Nothing as NotTaken}
use Rattle.trdp_pd.specs.Due.{has_come_by}
use Rattle.trdp_md.specs.declared.listener.Listener.{Listener}
use Rattle.trdp_md.specs.Listeners.{listener_due, listener_addressed}
use Rattle.trdp_md.specs.Listeners.{listener_taking, listener_firing}

-- a telegram that isn't for a listener changes nothing
pub listener_taking-unaddressed :
    (l : Listener) (telegram : TelegramModel) (globals : Globals) (fits : Bool)
    → listener_addressed l telegram globals ≡ false
    → listener_taking l telegram globals fits ≡ record { object = l; taken = NotTaken }
listener_taking-unaddressed l telegram globals fits not = rw not refl

-- a listener isn't due
pub listener_due-firing :
    (l : Listener) (globals : Globals)
    → has_come_by globals.now (listener_due (listener_firing l globals).object) ≡ false
listener_due-firing l globals = refl

-- a telegram makes no listener due
pub listener_due-taking :
    (l : Listener) (telegram : TelegramModel) (globals : Globals) (fits : Bool)
    → has_come_by globals.now (listener_due l) ≡ false
    → has_come_by globals.now (listener_due (listener_taking l telegram globals fits).object)
    ≡ false
listener_due-taking l telegram globals fits not = not
