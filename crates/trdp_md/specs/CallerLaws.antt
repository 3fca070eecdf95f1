-- What is true of every caller: its proofs for the trait of all objects. They are here because
-- what a trait's implementation names in src/ may be in specs/ alone.
use Rattle.std.proofs.Common.{◌≡◌, ℕ, Option, Some, None, Bool, true, false, refl, arith}
use Rattle.std.specs.Prelude.{nat_le, max, ◌+◌}
use Rattle.std.proofs.Math.Nat.{le-max_left}
use Rattle.std.proofs.lemmas.Bool.Decides.{nat_tests}
use Rattle.trdp_base.specs.declared.place.Place.{Place}
use Rattle.trdp_head.specs.declared.md.MdHead.{MdHead}
use Rattle.trdp_filter.specs.declared.globals.Globals.{Globals}
use Rattle.trdp_filter.specs.Telegrams.{TelegramModel, PdIs, MdIs}
use Rattle.trdp_pd.specs.declared.object.Taken.TheVariants.{Nothing as NotTaken}
use Rattle.trdp_pd.specs.Due.{has_come_by}
use Rattle.trdp_md.specs.declared.caller.Caller.{Caller}
use Rattle.trdp_md.specs.Callers.{is_query, is_for_caller, is_accepted_answer, deadline_after}
use Rattle.trdp_md.specs.Callers.{caller_due}
use Rattle.trdp_md.specs.Callers.{caller_addressed, caller_taking, caller_firing}
use Rattle.trdp_md.specs.Callers.{is_repeating, repeating, is_sound_caller}
use Rattle.trdp_filter.specs.Counts.{topo_valid}
use Rattle.trdp_md.specs.Waiting.{reply_by}

-- a message that isn't for a caller isn't accepted
is_accepted_answer-unaddressed :
    (c : Caller) (src : Place) (head : MdHead)
    → is_for_caller c head ≡ false → is_accepted_answer c src head ≡ false
unfolding is_accepted_answer
is_accepted_answer-unaddressed c src head is = rw is refl

-- a telegram that isn't for a caller changes nothing
pub caller_taking-unaddressed :
    (c : Caller) (telegram : TelegramModel) (globals : Globals) (fits : Bool)
    → caller_addressed c telegram globals ≡ false
    → caller_taking c telegram globals fits ≡ record { object = c; taken = NotTaken }
caller_taking-unaddressed c (PdIs src dst telegram) globals fits is = refl
caller_taking-unaddressed c (MdIs src dst telegram) globals fits is =
    rw (is_accepted_answer-unaddressed c src telegram.head is) refl

-- a sound caller that fired has a later deadline, or none
pub caller_due-firing :
    (c : Caller) (globals : Globals) → is_sound_caller c ≡ true
    → has_come_by globals.now (caller_due (caller_firing c globals).object) ≡ false
unfolding is_sound_caller
caller_due-firing c globals sound = either (is_repeating c) refl
  where
    later : has_come_by globals.now (Some (globals.now + c.terms.timeout)) ≡ false
    later = grind (arith, nat_tests)

    sent : (b : Bool) → topo_valid c.terms.topo globals.topo ≡ b
        → has_come_by globals.now (caller_due (repeating c globals).object) ≡ false
    sent true is = rw is later
    sent false is = rw is later

    either :
        (b : Bool) → is_repeating c ≡ b
        → has_come_by globals.now (caller_due (caller_firing c globals).object) ≡ false
    either true is = rw is (sent (topo_valid c.terms.topo globals.topo) refl)
    either false is = rw is refl

-- a caller stays sound: its terms stay
pub caller_sound-taking :
    (c : Caller) (telegram : TelegramModel) (globals : Globals) (fits : Bool)
    → is_sound_caller c ≡ true
    → is_sound_caller (caller_taking c telegram globals fits).object ≡ true
unfolding is_sound_caller
caller_sound-taking c (PdIs src dst telegram) globals fits sound = sound
caller_sound-taking c (MdIs src dst telegram) globals fits sound =
    either (is_accepted_answer c src telegram.head) refl
  where
    either :
        (b : Bool) → is_accepted_answer c src telegram.head ≡ b
        → is_sound_caller (caller_taking c (MdIs src dst telegram) globals fits).object ≡ true
    either true is = rw is sound
    either false is = rw is sound

pub caller_sound-firing :
    (c : Caller) (globals : Globals) → is_sound_caller c ≡ true
    → is_sound_caller (caller_firing c globals).object ≡ true
unfolding is_sound_caller
caller_sound-firing c globals sound = either (is_repeating c) refl
  where
    sent : (b : Bool) → topo_valid c.terms.topo globals.topo ≡ b
        → is_sound_caller (repeating c globals).object ≡ true
    sent true is = rw is sound
    sent false is = rw is sound

    either :
        (b : Bool) → is_repeating c ≡ b
        → is_sound_caller (caller_firing c globals).object ≡ true
    either true is = rw is (sent (topo_valid c.terms.topo globals.topo) refl)
    either false is = rw is sound

-- a moment that hasn't come hasn't come if it is put off
nat_le-max : (a b t : ℕ) → nat_le a t ≡ false → nat_le (max a b) t ≡ false
nat_le-max a b t not = let m = le-max_left a b in grind (arith, nat_tests)

-- an answer doesn't bring the deadline forward
deadline_after-later :
    (deadline : Option ℕ) (head : MdHead) (now t : ℕ) → has_come_by t deadline ≡ false
    → has_come_by t (deadline_after deadline head now) ≡ false
unfolding deadline_after
deadline_after-later deadline head now t not = either (is_query head.kind) refl deadline not
  where
    either :
        (b : Bool) → is_query head.kind ≡ b → (deadline : Option ℕ)
        → has_come_by t deadline ≡ false
        → has_come_by t (deadline_after deadline head now) ≡ false
    either true is (Some moment) not =
        rw is (nat_le-max moment (reply_by head.timeout now) t not)
    either true is None not = rw is refl
    either false is deadline not = rw is not

-- a telegram makes no caller due
pub caller_due-taking :
    (c : Caller) (telegram : TelegramModel) (globals : Globals) (fits : Bool)
    → has_come_by globals.now (caller_due c) ≡ false
    → has_come_by globals.now (caller_due (caller_taking c telegram globals fits).object) ≡ false
caller_due-taking c (PdIs src dst telegram) globals fits not = not
caller_due-taking c (MdIs src dst telegram) globals fits not =
    either (is_accepted_answer c src telegram.head) refl
  where
    either :
        (b : Bool) → is_accepted_answer c src telegram.head ≡ b
        → has_come_by
        globals.now
        (caller_due (caller_taking c (MdIs src dst telegram) globals fits).object)
        ≡ false
    either true is =
        rw is (deadline_after-later c.deadline telegram.head globals.now globals.now not)
    either false is = rw is not
