-- Whether a line is cut, by its last byte.
-- For `is_cut_behind` of the lines of totals.
use Rattle.std.proofs.Common.{◌≡◌, ◌-◌, ◌<◌, ◌==◌, ℕ, suc, Bool, not, List, [], ◌∷◌, length, refl}
use Rattle.std.proofs.Common.{sym, ◌∙◌, ap, arith, Some, None}
use Rattle.std.specs.List.{slice_get}
use Rattle.std.proofs.lemmas.Option.{slice_get-get_or}
use Rattle.trdp_program.specs.Streams.{is_cut_behind}

-- the last of some bytes decides
pub cut_last : (before : Bool) (bytes : List ℕ) (byte : ℕ)
    → slice_get bytes (length bytes - 1) ≡ Some byte
    → is_cut_behind before bytes ≡ not (byte == 10)
cut_last before [] byte last = absurd (cc)
cut_last before (b ∷ []) byte last = cc
cut_last before (b ∷ c ∷ bytes) byte last =
    let at : length (b ∷ c ∷ bytes) - 1 ≡ suc (length (c ∷ bytes) - 1) = omega arith in
    cut_last (not (b == 10)) (c ∷ bytes) byte
    (ap (slice_get (b ∷ c ∷ bytes)) (sym at) ∙ last)

-- if there is none, it is as before
pub cut_none : (before : Bool) (bytes : List ℕ) → slice_get bytes (length bytes - 1) ≡ None
    → is_cut_behind before bytes ≡ before
cut_none before [] none = refl
cut_none before (b ∷ bytes) none =
    let within : length (b ∷ bytes) - 1 < length (b ∷ bytes) = omega arith in
    let some = slice_get-get_or (b ∷ bytes) (length (b ∷ bytes) - 1) b within in
    absurd (cc)
