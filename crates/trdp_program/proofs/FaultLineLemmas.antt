-- The line of a fault, on its way to the error stream.
-- For `tell_line` and `tell_config_fault`.
-- By: several writes append what they wrote together, whole or a front of it.
use Rattle.std.proofs.Common.{◌≡◌, ℕ, List, [], ◌∷◌, ◌++◌, length, take, sym, ◌∙◌, ap, subst}
use Rattle.std.proofs.Common.{arith, append_assoc, append-nil, true, Option, Some, None, IfSome}
use Rattle.std.proofs.Common.{Result, Ok, Err, OnOk, OnErr, is_ok, codes}
use Rattle.std.proofs.KnownBytes.{Appends-trans}
use Rattle.std.proofs.lemmas.List.{take_all}
use Rattle.std.specs.Io.KnownBytes.{Appends}
use Rattle.std.specs.declared.fmt.InlineText.{InlineText}
use Rattle.std.specs.Fmt.{WritesText, with_newline}
use Rattle.std.specs.Fmt.InlineText.{inline_text, IsIntact, AppendsIfIntact}
use Rattle.std.specs.List.{FoldsTo, concat}
use Rattle.trdp_script.specs.Writes.{PartlyWrites}
use Rattle.trdp_program.specs.Faults.{TellsFault, TellsFaultFirst, AppendsText}

-- all of the bytes were written, or a front of them
partly_written : {A E : Type 0} (r : Result A E) (old new : Option (List ℕ)) (bytes : List ℕ)
    → OnOk r (Appends old new bytes) → OnErr r (PartlyWrites old new bytes)
    → PartlyWrites old new bytes
partly_written (Ok done) old new bytes whole front =
    let all : take (length bytes) bytes ≡ bytes = take_all (length bytes) bytes (omega arith) in
    (length bytes, subst (λ (l : List ℕ). Appends old new l) (sym all) whole)
partly_written (Err fault) old new bytes whole front = front

-- what a good call says
when_ok : {A E P : Type 0} (r : Result A E) → is_ok r ≡ true → OnOk r P → P
when_ok (Ok x) good p = p
when_ok (Err e) good p = absurd (cc)

-- several writes append what they wrote together
after_calls : {n : ℕ} (s t : InlineText n) (parts : List (List ℕ))
    → FoldsTo AppendsIfIntact s parts t → IsIntact s
    → IsIntact t × (inline_text t ≡ inline_text s ++ concat parts)
after_calls s t [] same intact =
    (subst IsIntact same intact, ap inline_text (sym same) ∙ sym (append-nil (inline_text s)))
after_calls s t (part ∷ parts) calls intact =
    let first = calls.1 intact in
    let rest = after_calls calls.0 t parts calls.2 first.0 in (
      rest.0,
      rest.1 ∙ ap (λ l. l ++ concat parts) first.1
          ∙ append_assoc (inline_text s) part (concat parts),
    )

-- the bytes of a line that was made of a text
line_bytes : {A E : Type 0} {n : ℕ} (text : List ℕ) (start line : InlineText n) (made : Result A E)
    (bytes : List ℕ) → inline_text start ≡ [] → IsIntact start → is_ok made ≡ true
    → OnOk made (WritesText AppendsIfIntact start (with_newline (Some text)) line)
    → bytes ≡ inline_text line → bytes ≡ text ++ codes "\n"
line_bytes text start line made bytes empty intact good wrote is =
    let calls = when_ok made good wrote in
    let grown = after_calls start line calls.parts calls.calls intact in
    is ∙ grown.1 ∙ ap (λ l. l ++ concat calls.parts) empty ∙ calls.whole

-- a line that was made of a text, and then written or a front of it
pub told : {A B E F : Type 0} {n : ℕ} (output : Option (List ℕ)) (start line : InlineText n)
    (made : Result A E) (r : Result B F) (old new : Option (List ℕ)) (bytes : List ℕ)
    → inline_text start ≡ [] → IsIntact start → is_ok made ≡ true
    → OnOk made (WritesText AppendsIfIntact start (with_newline output) line)
    → bytes ≡ inline_text line → OnOk r (Appends old new bytes)
    → OnErr r (PartlyWrites old new bytes) → IfSome output (λ text. TellsFault text old new)
told None start line made r old new bytes empty intact good wrote is whole front = tt
told (Some text) start line made r old new bytes empty intact good wrote is whole front =
    subst (λ (l : List ℕ). PartlyWrites old new l)
    (line_bytes text start line made bytes empty intact good wrote is)
    (partly_written r old new bytes whole front)

-- the same, if it was written whole
pub told_whole : {A B E F : Type 0} {n : ℕ} (output : Option (List ℕ)) (start line : InlineText n)
    (made : Result A E) (r : Result B F) (old new : Option (List ℕ)) (bytes : List ℕ)
    → inline_text start ≡ [] → IsIntact start → is_ok made ≡ true
    → OnOk made (WritesText AppendsIfIntact start (with_newline output) line)
    → bytes ≡ inline_text line → OnOk r (Appends old new bytes) → is_ok r ≡ true
    → IfSome output (λ text. Appends old new (text ++ codes "\n"))
told_whole None start line made r old new bytes empty intact good wrote is whole written = tt
told_whole (Some text) start line made r old new bytes empty intact good wrote is whole written =
    subst (λ (l : List ℕ). Appends old new l)
    (line_bytes text start line made bytes empty intact good wrote is)
    (when_ok r written whole)

-- a line that was written whole, and more after it
pub first_whole : (text : List ℕ) (a b c : Option (List ℕ)) → Appends a b (text ++ codes "\n")
    → AppendsText b c → TellsFaultFirst text a c
first_whole text a b c line more =
    let all = text ++ codes "\n" ++ more.0 in
    let whole : all ≡ take (length all) all = sym (take_all (length all) all (omega arith)) in (
      more.0,
      (
        length all,
        subst (λ (l : List ℕ). Appends a c l) whole
            (Appends-trans a b c (text ++ codes "\n") more.0 line more.1),
      ),
    )

-- a line that was written in part, and nothing after it
pub first_front : (text : List ℕ) (a b : Option (List ℕ)) → TellsFault text a b
    → TellsFaultFirst text a b
first_front text a b front = (
  [],
  (
    front.0,
    subst (λ (l : List ℕ). Appends a b (take front.0 l))
        (sym (append-nil (text ++ codes "\n"))) front.1,
  ),
)
