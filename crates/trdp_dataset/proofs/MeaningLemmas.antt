-- What is read from a file is what the file means.
-- For `NodeConfig::from_toml` and `Registry::from_toml`.
-- By: a file that is a table has no such fault as to be none (`SingleFaultLemmas`).
use Rattle.std.proofs.Common.{◌≡◌, List, map, Some, Result, Ok, Err, IfOk, sym, ap, ◌∙◌}
use Rattle.std.specs.Str.{IsUtf8}
use Rattle.std.proofs.Common.{ℕ}
use Rattle.toml.specs.Data.{Members}
use Rattle.toml.specs.Parse.{parse_document}
use Rattle.trdp_dataset.specs.declared.fault.ConfigFault.{ConfigFault}
use Rattle.trdp_dataset.specs.declared.fault.ConfigFault.TheVariants.{Toml, OutOfMemory}
use Rattle.trdp_dataset.specs.Datasets.{DatasetModel}
use Rattle.trdp_dataset.specs.Positions.{PositionModel}
use Rattle.trdp_dataset.specs.Faults.{fault_at, least_fault, dataset_fault, fault_in, RefusedAs}
use Rattle.trdp_dataset.proofs.SingleFaultLemmas.{least_single, dataset_own, never_toml_of}
use Rattle.trdp_dataset.specs.Configs.{ReadsToml, unless}

-- a file that is a table isn't none
never_toml : (positions : List PositionModel) (ds : List DatasetModel)
    → fault_in positions ds ≡ Some Toml → ⊥
unfolding fault_in
never_toml positions ds e = never_toml_of (least_fault (map fault_at positions))
    (dataset_fault ds) (least_single positions) (dataset_own ds) e

-- a call that parsed a file and then returned by its positions and datasets reads what the file
-- means
pub reads : {A : Type 0} → (meaning : Members → Result A ConfigFault)
    (positions : List PositionModel) (ds : List DatasetModel)
    (value : A) (bytes : List ℕ) (top : Members) (result : Result A ConfigFault)
    → IsUtf8 bytes → parse_document bytes ≡ Some top
    → meaning top ≡ unless (fault_in positions ds) value → IfOk result (λ x. x ≡ value)
    → RefusedAs (fault_in positions ds) result → ReadsToml meaning bytes result
reads meaning positions ds value bytes top (Ok x) text parsed means same answers = (
  text,
  (top, parsed, ap (λ y. Ok y) same ∙ (ap (λ o. unless o value) (sym answers) ∙ sym means)),
)
reads meaning positions ds value bytes top (Err Toml) text parsed means same answers =
    absurd (never_toml positions ds answers)
reads meaning positions ds value bytes top (Err OutOfMemory) text parsed means same answers = tt
reads meaning positions ds value bytes top (Err fault) text parsed means same answers =
    (text, (top, parsed, ap (λ o. unless o value) (sym answers) ∙ sym means))
