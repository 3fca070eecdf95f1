-- Faults that are passed on.
-- For `NodeConfig::from_toml`, `load` and `datasets_in`.
-- By: the first fault of two lists is that of the first list, where this has one.
use Rattle.std.proofs.Common.{◌≡◌, ℕ, ◌+◌, ◌<◌, false, is_some, length, get_or, drop}
use Rattle.std.proofs.Common.{List, [], ◌∷◌, ◌++◌, refl, ◌∙◌, Option, Some, None}
use Rattle.std.proofs.Common.{Result, Ok, Err, IsErr, IsErrAnd, IfOk, IfErr, sym, subst}
use Rattle.std.proofs.lemmas.List.{at_drop_more}
use Rattle.trdp_dataset.specs.declared.fault.ConfigFault.{ConfigFault}
use Rattle.trdp_dataset.specs.declared.fault.ConfigFault.TheVariants.{OutOfMemory}
use Rattle.trdp_dataset.specs.Faults.{IsFaultOf, first_fault, RefusedAs}

-- a fault of one thing is one of another
pub fault_moves : (fault : ConfigFault) (one other : Option ConfigFault)
    → ((f : ConfigFault) → one ≡ Some f → other ≡ Some f)
    → IsFaultOf fault one → IsFaultOf fault other
fault_moves OutOfMemory one other h x = tt
fault_moves fault one other h x = h fault x

-- the fault that a call returned is returned
pub err_passes : {X : Type 0}
    → (result : Result X ConfigFault) (fault : ConfigFault) (expected : Option ConfigFault)
    → IsErrAnd result (λ f. f ≡ fault) → IsFaultOf fault expected
    → IfErr result (λ f. IsFaultOf f expected)
err_passes (Ok x) fault expected same h = absurd same
err_passes (Err f) fault expected same h =
    subst (λ (g : ConfigFault). IsFaultOf g expected) (sym same) h

-- an expected fault is returned
pub fault_comes : (fault : ConfigFault) (expected : Option ConfigFault)
    → expected ≡ Some fault → IsFaultOf fault expected
fault_comes OutOfMemory expected e = tt
fault_comes fault expected e = e

-- the first fault of two lists, where the first list has one
pub first_here : (xs ys : List (Option ConfigFault)) (fault : ConfigFault)
    → first_fault xs ≡ Some fault → first_fault (xs ++ ys) ≡ Some fault
first_here [] ys fault e = cc
first_here (None ∷ xs) ys fault e = first_here xs ys fault e
first_here (Some f ∷ xs) ys fault e = e

-- where the first list has none
pub first_later : (xs ys : List (Option ConfigFault))
    → first_fault xs ≡ None → first_fault (xs ++ ys) ≡ first_fault ys
first_later [] ys e = refl
first_later (None ∷ xs) ys e = first_later xs ys e
first_later (Some f ∷ xs) ys e = cc

-- a fault of the first checks
pub fault_here : (xs ys : List (Option ConfigFault)) (fault : ConfigFault)
    → IsFaultOf fault (first_fault xs) → IsFaultOf fault (first_fault (xs ++ ys))
fault_here xs ys fault h =
    fault_moves fault (first_fault xs) (first_fault (xs ++ ys)) (first_here xs ys) h

-- a fault of later checks
pub fault_later : (xs ys : List (Option ConfigFault)) (fault : ConfigFault) → first_fault xs ≡ None
    → IsFaultOf fault (first_fault ys) → IsFaultOf fault (first_fault (xs ++ ys))
fault_later xs ys fault none h = fault_moves fault
    (first_fault ys) (first_fault (xs ++ ys)) (λ f e. first_later xs ys none ∙ e) h

-- no check has a fault
pub none_first : (o : Option ConfigFault) (later : List (Option ConfigFault))
    → first_fault (o ∷ later) ≡ None → (o ≡ None) × (first_fault later ≡ None)
none_first None later e = (refl, e)
none_first (Some f) later e = cc

-- a check without a fault, and the rest
pub first_skips : (o : Option ConfigFault) (later : List (Option ConfigFault))
    → None ≡ o → first_fault (o ∷ later) ≡ first_fault later
first_skips None later e = refl
first_skips (Some f) later e = cc

pub first_stops : (o : Option ConfigFault) (later : List (Option ConfigFault)) (fault : ConfigFault)
    → Some fault ≡ o → first_fault (o ∷ later) ≡ Some fault
first_stops None later fault e = cc
first_stops (Some f) later fault e = sym e

-- the fault that a call returned is returned by the next
pub err_answers : {X : Type 0}
    → (result : Result X ConfigFault) (fault : ConfigFault) (expected : Option ConfigFault)
    → IsErrAnd result (λ f. f ≡ fault) → IsFaultOf fault expected
    → RefusedAs expected result
err_answers (Ok x) fault expected same h = absurd same
err_answers (Err f) fault expected same h =
    subst (λ (g : ConfigFault). IsFaultOf g expected) (sym same) h

-- a check without a fault is skipped
pub none_skipped : (faults : List (Option ConfigFault)) (i : ℕ) (d : Option ConfigFault)
    → i < length faults → false ≡ is_some (get_or faults i d)
    → first_fault (drop i faults) ≡ first_fault (drop (i + 1) faults)
none_skipped faults i d inside none = at_drop_more first_fault faults i d inside
    ∙ by (get_or faults i d) none
  where
    by : (o : Option ConfigFault) → false ≡ is_some o
        → first_fault (o ∷ drop (i + 1) faults) ≡ first_fault (drop (i + 1) faults)
    by None e = refl
    by (Some f) e = cc

-- a fault has no value
pub err_alone : {X : Type 0} → (result : Result X ConfigFault) (P : X → Type 0)
    → IsErr result → IfOk result P
err_alone (Ok x) P h = cc
err_alone (Err f) P h = tt
