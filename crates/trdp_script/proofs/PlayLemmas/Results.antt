-- What holds of a result, by what else holds of it.
-- For the functions of a script that pass a result on, as `play` and `gather`.
-- By cases: it is a value or a fault.
use Rattle.std.specs.Prelude.{◌≡◌, Result, Ok, Err, OnOk, OnErr, IfErr, IsOk, is_ok}
use Rattle.std.specs.Prelude.{if◌then◌else◌}

pub on_ok : {A E : Type 0} {P Q : Type 0} (r : Result A E) → (P → Q) → OnOk r P → OnOk r Q
on_ok (Ok x) f p = f p
on_ok (Err e) f p = tt

pub on_err : {A E : Type 0} {P Q : Type 0} (r : Result A E) → (P → Q) → OnErr r P → OnErr r Q
on_err (Ok x) f p = tt
on_err (Err e) f p = f p

pub if_err : {A E : Type 0} {P Q : E → Type 0} (r : Result A E)
    → ((e : E) → P e → Q e) → IfErr r P → IfErr r Q
if_err (Ok x) f p = tt
if_err (Err e) f p = f e p

pub all_ok : {A E : Type 0} {Q : Type 0} (r : Result A E) → Q → OnOk r Q
all_ok (Ok x) q = q
all_ok (Err e) q = tt

pub all_err : {A E : Type 0} {Q : Type 0} (r : Result A E) → Q → OnErr r Q
all_err (Ok x) q = tt
all_err (Err e) q = q

-- what a call that can't fail gives
pub when_ok : {A E X : Type 0} (r : Result A E) (new good bad : X)
    → IsOk r → new ≡ (if is_ok r then good else bad) → new ≡ good
when_ok (Ok x) new good bad ok is = is
when_ok (Err e) new good bad ok is = absurd (cc)
