-- What is true of every requester: its proofs for the trait of all objects. They are here because
-- what a trait's implementation names in src/ may be in specs/ alone.
use Rattle.std.specs.Prelude.{◌≡◌, Bool, false, refl}
use Rattle.trdp_filter.specs.declared.globals.Globals.{Globals}
use Rattle.trdp_filter.specs.Telegrams.{TelegramModel}
use Rattle.trdp_pd.specs.declared.object.Taken.TheVariants.{Nothing as NotTaken}
use Rattle.trdp_pd.specs.Due.{has_come_by}
use Rattle.trdp_pd.specs.Requesters.{RequesterState, requester_due, requester_addressed}
use Rattle.trdp_pd.specs.Requesters.{requester_taking, requester_firing}

-- no telegram changes a requester
pub requester_taking-unaddressed :
    (r : RequesterState) (telegram : TelegramModel) (globals : Globals) (fits : Bool)
    → requester_addressed r telegram globals ≡ false
    → requester_taking r telegram globals fits ≡ record { object = r; taken = NotTaken }
requester_taking-unaddressed r telegram globals fits not = refl

-- a requester isn't due
pub requester_due-firing :
    (r : RequesterState) (globals : Globals)
    → has_come_by globals.now (requester_due (requester_firing r globals).object) ≡ false
requester_due-firing r globals = refl

-- a telegram makes no requester due
pub requester_due-taking :
    (r : RequesterState) (telegram : TelegramModel) (globals : Globals) (fits : Bool)
    → has_come_by globals.now (requester_due r) ≡ false
    → has_come_by globals.now (requester_due (requester_taking r telegram globals fits).object)
    ≡ false
requester_due-taking r telegram globals fits not = not
