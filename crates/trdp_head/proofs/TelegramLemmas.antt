-- The faults of bytes, and what it takes to have none.
-- For `read_pd` and `read_md`, and for the lemmas on telegrams of either kind.
-- By: a chain of tests has the value of the first of them that holds.
use Rattle.std.proofs.Common.{◌≡◌, ℕ, ◌+◌, ◌-◌, ◌<◌, ◌≤◌, Bool, true, false, cond, eqb, ltb}
use Rattle.std.proofs.Common.{List, length, take, drop, slice_index, Option, Some, None, Ok}
use Rattle.std.proofs.Common.{Err, refl, sym, ap, subst, ◌∙◌, arith, eq-eqb, ◌⊎◌, inl, inr}
use Rattle.std.specs.Prelude.{not, Result}
use Rattle.std.specs.List.{slice_range}
use Rattle.std.specs.Result.{IsErrAnd, IfErr}
use Rattle.std.proofs.lemmas.Bool.{le-ltb, lt-ltb, ltb-false, eqb-true}
use Rattle.std.proofs.lemmas.List.{length-drop}
use Rattle.trdp_head.specs.declared.prefix.Prefix.{Prefix}
use Rattle.trdp_head.specs.declared.fault.HeadFault.{HeadFault}
use Rattle.trdp_head.specs.declared.fault.HeadFault.TheVariants.{Kind, Length}
use Rattle.trdp_head.specs.Fields.{field}
use Rattle.trdp_head.specs.Checks.{is_checked}
use Rattle.trdp_head.specs.IsTelegram.{IsTelegram}
use Rattle.trdp_head.specs.Faults.{prefix_fault_of, payload_fault_of, fault_of}

-- a test that fails leads on
cond-skip : {X : Type 0} (b : Bool) (x y : X) → b ≡ false → cond b x y ≡ y
cond-skip b x y h = rw h refl

-- no fault results from a test that holds
pub cond-no_fault : {X : Type 0} (b : Bool) (x : X) (rest : Option X)
    → cond b (Some x) rest ≡ None → (b ≡ false) × (rest ≡ None)
cond-no_fault true x rest h = absurd cc
cond-no_fault false x rest h = (refl, h)

pub not-false : (b : Bool) → not b ≡ false → b ≡ true
not-false true h = refl
not-false false h = absurd cc

pub some-inj : {X : Type 0} (x y : X) → Some x ≡ Some y → x ≡ y
some-inj x y e = cc

-- what holds of the error that is returned
pub err_answers : {T E : Type 0} (r : Result T E) (fault : E) (P : E → Type 0)
    → IsErrAnd r (λ given. given ≡ fault) → P fault → IfErr r P
err_answers (Ok x) fault P h p = absurd h
err_answers (Err y) fault P h p = subst P (sym h) p

-- a chain of tests has the value of the first of them that holds
pub cond-some : {X : Type 0} (b : Bool) (x y : X) (rest : Option X)
    → cond b (Some x) rest ≡ Some y → ((b ≡ true) × (x ≡ y)) ⊎ (rest ≡ Some y)
cond-some true x y rest h = inl (refl, some-inj x y h)
cond-some false x y rest h = inr h

pub fault-prefix : (size longest : ℕ) (known : Bool) (bytes : List ℕ) (fault : HeadFault)
    → prefix_fault_of size longest bytes ≡ Some fault
    → fault_of size longest known bytes ≡ Some fault
unfolding fault_of
fault-prefix size longest known bytes fault e = rw e refl

pub fault-kind : (size longest : ℕ) (known : Bool) (bytes : List ℕ)
    → prefix_fault_of size longest bytes ≡ None → known ≡ false
    → fault_of size longest known bytes ≡ Some Kind
unfolding fault_of
fault-kind size longest known bytes none e = rw (none, e) refl

pub fault-payload : (size longest : ℕ) (known : Bool) (bytes : List ℕ)
    → prefix_fault_of size longest bytes ≡ None → known ≡ true
    → fault_of size longest known bytes ≡ payload_fault_of size bytes
unfolding fault_of
fault-payload size longest known bytes none e = rw (none, e) refl

-- a telegram has no fault
pub prefix-no_fault : {size longest : ℕ} {bytes : List ℕ} {prefix : Prefix} {payload : List ℕ}
    → IsTelegram size longest bytes prefix payload
    → prefix_fault_of size longest bytes ≡ None
unfolding prefix_fault_of
prefix-no_fault {size} {longest} {bytes} t =
    let short : ltb (length bytes) size ≡ false = le-ltb (length bytes) size t.long_enough in
    let long : ltb longest (length bytes) ≡ false = le-ltb longest (length bytes) t.short_enough in
    let checked : not (is_checked (size - 4) bytes) ≡ false = ap not t.checked in
    let version : not (eqb (slice_index bytes 4) 1) ≡ false =
    ap not (eq-eqb (slice_index bytes 4) 1 t.version) in
    cond-skip _ _ _ short ∙ cond-skip _ _ _ long ∙ cond-skip _ _ _ checked ∙ cond-skip _ _ _ version

pub payload-no_fault : {size longest : ℕ} {bytes : List ℕ} {prefix : Prefix} {payload : List ℕ}
    → IsTelegram size longest bytes prefix payload
    → payload_fault_of size bytes ≡ None
unfolding payload_fault_of
payload-no_fault {size} {bytes = bytes} t =
    let fits : ltb (length bytes - size) (field 20 4 bytes) ≡ false =
    le-ltb (length bytes - size) (field 20 4 bytes) (omega (arith, t.fits)) in
    cond-skip _ _ _ fits

pub telegram-no_fault : {size longest : ℕ} {bytes : List ℕ} {prefix : Prefix} {payload : List ℕ}
    → IsTelegram size longest bytes prefix payload
    → (known : Bool) → known ≡ true → fault_of size longest known bytes ≡ None
telegram-no_fault {size} {longest} {bytes} t known e =
    fault-payload size longest known bytes (prefix-no_fault t) e ∙ payload-no_fault t

-- what follows the header is shorter than the payload
pub payload_past : (size n : ℕ) (bytes rest : List ℕ) → rest ≡ drop size bytes
    → n ≡ field 20 4 bytes → (n < 0) ⊎ (length rest < n)
    → payload_fault_of size bytes ≡ Some Length
unfolding payload_fault_of
payload_past size n bytes rest behind is past =
    let lt : length bytes - size < field 20 4 bytes = elim past [
      | inl none ↦ absurd (omega (arith, none))
      | inr lt ↦ omega (arith, lt, is, ap length behind, length-drop size bytes)
    ] in
    rw (lt-ltb (length bytes - size) (field 20 4 bytes) lt) refl

-- the payload is within what follows the header
pub payload_within : (size n : ℕ) (bytes rest : List ℕ) → rest ≡ drop size bytes
    → n ≡ field 20 4 bytes → n ≤ length rest → payload_fault_of size bytes ≡ None
unfolding payload_fault_of
payload_within size n bytes rest behind is within =
    let le : field 20 4 bytes ≤ length bytes - size =
    omega (arith, within, is, ap length behind, length-drop size bytes) in
    rw (le-ltb (length bytes - size) (field 20 4 bytes) le) refl

-- the payload is what is there, as far as it goes
pub payload_is : (size n : ℕ) (bytes rest payload : List ℕ) → rest ≡ drop size bytes
    → n ≡ field 20 4 bytes → payload ≡ slice_range rest 0 n
    → payload ≡ take (field 20 4 bytes) (drop size bytes)
payload_is size n bytes rest payload behind is got =
    got
    ∙ ap (λ (k : ℕ). take k rest) (omega (arith, is))
    ∙ ap (take (field 20 4 bytes)) behind

-- the bytes begin with these fields
pub record Begins (bytes : List ℕ) (prefix : Prefix) : Type 0 where
  pub code : field 6 2 bytes ≡ prefix.code
  pub counter : field 0 4 bytes ≡ prefix.counter
  pub com_id : field 8 4 bytes ≡ prefix.com_id
  pub etb : field 12 4 bytes ≡ prefix.topo.etb
  pub op_trn : field 16 4 bytes ≡ prefix.topo.op_trn

after_head : (size whole payload : ℕ) → size ≤ whole
    → payload ≤ whole - size → size + payload ≤ whole
after_head size whole payload h fits = omega arith

-- bytes without fault are a telegram
pub telegram-from : (size longest : ℕ) (bytes : List ℕ) (prefix : Prefix) (payload : List ℕ)
    → prefix_fault_of size longest bytes ≡ None
    → payload_fault_of size bytes ≡ None → Begins bytes prefix → payload
    ≡ take (field 20 4 bytes) (drop size bytes) → IsTelegram size longest bytes prefix payload
unfolding prefix_fault_of payload_fault_of
telegram-from size longest bytes prefix payload none none_behind fields content =
    let short = cond-no_fault _ _ _ none in
    let long = cond-no_fault _ _ _ short.1 in
    let check = cond-no_fault _ _ _ long.1 in
    let version = cond-no_fault _ _ _ check.1 in
    let fits = cond-no_fault _ _ _ none_behind in
    let long_enough : size ≤ length bytes = ltb-false (length bytes) size short.0 in
    record {
      long_enough = long_enough;
      short_enough = ltb-false longest (length bytes) long.0;
      checked = not-false (is_checked (size - 4) bytes) check.0;
      version = eqb-true (slice_index bytes 4) 1 (not-false _ version.0);
      code = fields.code;
      counter = fields.counter;
      com_id = fields.com_id;
      etb = fields.etb;
      op_trn = fields.op_trn;
      fits = after_head size (length bytes) (field 20 4 bytes)
          long_enough (ltb-false (length bytes - size) (field 20 4 bytes) fits.0);
      content = content;
    }
