-- What is true of every replier: its proofs for the trait of all objects. They are here because
-- what a trait's implementation names in src/ may be in specs/ alone.
use Rattle.std.specs.Prelude.{◌≡◌, Bool, true, false, refl}
use Rattle.trdp_filter.specs.declared.globals.Globals.{Globals}
use Rattle.trdp_filter.specs.Telegrams.{TelegramModel, PdIs, MdIs}
use Rattle.trdp_pd.specs.declared.object.Taken.TheVariants.{Nothing as NotTaken}
use Rattle.trdp_pd.specs.Due.{has_come_by}
use Rattle.trdp_md.specs.declared.replier.Replier.{Replier}
use Rattle.trdp_md.specs.Repliers.{is_for_replier, replier_due, replier_addressed}
use Rattle.trdp_md.specs.Repliers.{replier_taking, replier_firing}

-- a telegram that isn't for a replier changes nothing
pub replier_taking-unaddressed :
    (r : Replier) (telegram : TelegramModel) (globals : Globals) (fits : Bool)
    → replier_addressed r telegram globals ≡ false
    → replier_taking r telegram globals fits ≡ record { object = r; taken = NotTaken }
replier_taking-unaddressed r (PdIs src dst telegram) globals fits is = refl
replier_taking-unaddressed r (MdIs src dst telegram) globals fits is = rw is refl

-- a replier that fired has no deadline
pub replier_due-firing :
    (r : Replier) (globals : Globals)
    → has_come_by globals.now (replier_due (replier_firing r globals).object) ≡ false
replier_due-firing r globals = refl

-- a telegram makes no replier due
pub replier_due-taking :
    (r : Replier) (telegram : TelegramModel) (globals : Globals) (fits : Bool)
    → has_come_by globals.now (replier_due r) ≡ false
    → has_come_by globals.now (replier_due (replier_taking r telegram globals fits).object) ≡ false
replier_due-taking r (PdIs src dst telegram) globals fits not = not
replier_due-taking r (MdIs src dst telegram) globals fits not =
    either (is_for_replier r src telegram.head) refl
  where
    either :
        (b : Bool) → is_for_replier r src telegram.head ≡ b
        → has_come_by
        globals.now
        (replier_due (replier_taking r (MdIs src dst telegram) globals fits).object)
        ≡ false
    either true is = rw is refl
    either false is = rw is not
