-- When a caller sends its request again.
-- For `caller_repeats_its_request`.
-- By cases: it repeats only without an answer and with a repeat left, which it uses up.
use Rattle.std.proofs.Common.{◌≡◌, ◌-◌, ◌<◌, Bool, true, false, refl, arith, List, [], ◌∷◌, length}
use Rattle.std.proofs.lemmas.Bool.Decides.{nat_tests}
use Rattle.trdp_head.specs.declared.md.MdHead.{MdHead}
use Rattle.trdp_filter.specs.declared.globals.Globals.{Globals}
use Rattle.trdp_filter.specs.Counts.{topo_valid}
use Rattle.trdp_pd.specs.declared.object.Fired.TheVariants.{Again}
use Rattle.trdp_md.specs.declared.answers.RequestAnswer.{RequestAnswer}
use Rattle.trdp_md.specs.declared.caller.Caller.{Caller}
use Rattle.trdp_md.specs.Callers.{caller_firing, is_repeating, repeating}

-- what is sent again is a repeat
repeats : (c : Caller) (globals : Globals) (head : MdHead)
    → (caller_firing c globals).fired ≡ Again head → is_repeating c ≡ true
repeats c globals head fired = either (is_repeating c) refl
  where
    either : (b : Bool) → is_repeating c ≡ b → is_repeating c ≡ true
    either true is = is
    either false is = let h = rw is at fired in absurd (cc)

none_of : (answers : List RequestAnswer) → length answers ≡ 0 → answers ≡ []
none_of [] none = refl
none_of (answer ∷ answers) none = absurd (omega (arith, none))

pub unanswered : (c : Caller) (globals : Globals) (head : MdHead)
    → (caller_firing c globals).fired ≡ Again head → c.answers ≡ []
unfolding is_repeating
unanswered c globals head fired =
    let is = repeats c globals head fired in
    let none : length c.answers ≡ 0 = grind (arith, nat_tests) in
    none_of c.answers none

less : (c : Caller) → is_repeating c ≡ true → c.left - 1 < c.left
unfolding is_repeating
less c is = let some : 0 < c.left = grind (arith, nat_tests) in omega (arith, some)

pub fewer : (c : Caller) (globals : Globals) (head : MdHead)
    → (caller_firing c globals).fired ≡ Again head
    → (caller_firing c globals).object.left < c.left
fewer c globals head fired =
    let is = repeats c globals head fired in
    rw is (sent (topo_valid c.terms.topo globals.topo) refl is)
  where
    sent : (b : Bool) → topo_valid c.terms.topo globals.topo ≡ b → is_repeating c ≡ true
        → (repeating c globals).object.left < c.left
    sent true valid is = rw valid (less c is)
    sent false valid is = rw valid (less c is)
