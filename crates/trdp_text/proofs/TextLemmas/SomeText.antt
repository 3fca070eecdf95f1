-- What has some text.
-- For `play` and `print_records`, which may need memory for it.
-- By: a record's line ends with a newline, and a fault's begins with a word.
use Rattle.std.proofs.Common.{◌≡◌, List, ℕ, [], ◌∷◌, ◌++◌, refl, sym, ◌∙◌, ap, codes}
use Rattle.std.proofs.Common.{append_assoc, append-nil}
use Rattle.std.specs.List.{flat_map}
use Rattle.std.proofs.lemmas.Grind.{flat_map-append}
use Rattle.std.proofs.lemmas.List.Concat.{flat_map-cons}
use Rattle.trdp_base.specs.NumberText.{text_of_number}
use Rattle.trdp_model.specs.Records.{RecordModel}
use Rattle.trdp_model.specs.declared.fault.NodeFault.{NodeFault}
use Rattle.trdp_text.specs.RecordText.{name_of_fault, text_of_content, text_of_fault}
use Rattle.trdp_text.specs.RecordText.{text_of_record}

-- what is empty in two parts is empty in each
front_empty : (xs ys : List ℕ) → xs ++ ys ≡ [] → xs ≡ []
front_empty [] ys none = refl
front_empty (x ∷ xs) ys none = absurd (cc)

back_empty : (xs ys : List ℕ) → xs ++ ys ≡ [] → ys ≡ []
back_empty [] ys none = none
back_empty (x ∷ xs) ys none = absurd (cc)

-- a record has some text
record_told : (r : RecordModel) → text_of_record r ≡ [] → ⊥
unfolding text_of_record
record_told r none =
    let newline = back_empty (text_of_number r.slot ++ text_of_content r.content)
    (codes "\n") none in
    absurd (cc)

-- so has a fault
pub fault_told : (fault : NodeFault) → text_of_fault fault ≡ [] → ⊥
unfolding text_of_fault
fault_told fault none =
    let word = front_empty (codes "fault ") (name_of_fault fault ++ codes "\n") none in
    absurd (cc)

-- and so have records of which there is one
pub some_told : (all done left : List RecordModel) (r : RecordModel) → all ≡ done ++ r ∷ left
    → flat_map text_of_record all ≡ [] → ⊥
some_told all done left r is none =
    let f = flat_map text_of_record in
    let behind : f (r ∷ left) ≡ [] = back_empty (f done) (f (r ∷ left))
    (sym (flat_map-append text_of_record done (r ∷ left)) ∙ ap f (sym is) ∙ none) in
    record_told r (front_empty (text_of_record r) (f left)
    (sym (flat_map-cons text_of_record r left) ∙ behind))

-- the text of one more record
pub one_told : (told told_then : List ℕ) (before : List ℕ) (done : List RecordModel)
    (r : RecordModel) → told ≡ before ++ flat_map text_of_record done
    → told_then ≡ told ++ text_of_record r
    → told_then ≡ before ++ flat_map text_of_record (done ++ r ∷ [])
one_told told told_then before done r so_far more =
    let f = flat_map text_of_record in
    more ∙ ap (λ l. l ++ text_of_record r) so_far ∙ append_assoc before (f done) (text_of_record r)
    ∙ ap (λ l. before ++ l) (ap (λ l. f done ++ l) (sym (append-nil (text_of_record r))
    ∙ sym (flat_map-cons text_of_record r [])) ∙ sym (flat_map-append text_of_record done (r ∷ [])))
