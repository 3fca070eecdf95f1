-- Text on its way to a writer.
-- For `flush`, `flush_full` and `Player::take_line`, and for `ScriptLemmas`.
-- By: what is held back is written before what comes later, whole or a front of it.
use Rattle.std.proofs.Common.{◌≡◌, ℕ, List, [], ◌++◌, take, drop, sym, ◌∙◌, ap}
use Rattle.std.proofs.Common.{append_assoc, append-nil, take-append-drop}
use Rattle.std.specs.Prelude.{Option}
use Rattle.std.proofs.KnownBytes.{Appends-nil, Appends-trans}
use Rattle.trdp_script.specs.Writes.{PassesOn, PassesSome, PartlyWrites}

-- text that passes on after other text
pub passes_both : {a b c : Option (List ℕ)} {held held_then held_last xs ys : List ℕ}
    → PassesOn a b held held_then xs → PassesOn b c held_then held_last ys
    → PassesOn a c held held_last (xs ++ ys)
passes_both {a} {b} {c} {held} {held_then} {held_last} {xs} {ys} p q = record {
  part = p.part ++ q.part;
  written = Appends-trans a b c p.part q.part p.written q.written;
  rest = sym (append_assoc held xs ys) ∙ ap (λ zs. zs ++ ys) p.rest
      ∙ append_assoc p.part held_then ys
      ∙ ap (λ zs. p.part ++ zs) q.rest ∙ sym (append_assoc p.part q.part held_last);
}

-- some of the text passes on after other text
pub passes_some_after : {a b c : Option (List ℕ)} {held held_then xs ys : List ℕ}
    → PassesOn a b held held_then xs → PassesSome b c held_then ys → PassesSome a c held (xs ++ ys)
passes_some_after p q = record { lost = q.lost; passed = passes_both p q.passed }

-- a front of some text is a front of that text and more
pub passes_some_of : {a b : Option (List ℕ)} {held xs : List ℕ} (ys : List ℕ)
    → PassesSome a b held xs → PassesSome a b held (xs ++ ys)
passes_some_of {a} {b} {held} {xs} ys p = record {
  lost = p.lost ++ ys;
  passed = record {
    part = p.passed.part;
    written = p.passed.written;
    rest = sym (append_assoc held xs ys) ∙ ap (λ zs. zs ++ ys) p.passed.rest
        ∙ append_assoc p.passed.part p.lost ys;
  };
}

-- a front of what was held back was written
pub passes_front : {a b : Option (List ℕ)} {held : List ℕ}
    → PartlyWrites a b held → PassesSome a b held []
passes_front {a} {b} {held} (n, written) = record {
  lost = drop n held;
  passed = record {
    part = take n held;
    written = written;
    rest = append-nil held ∙ sym (take-append-drop n held);
  };
}

-- no text came
pub passes_nothing : (w : Option (List ℕ)) (held : List ℕ) → PassesOn w w held held []
passes_nothing w held = record { part = []; written = Appends-nil w; rest = append-nil held }

-- text that was added to what was held back goes on with it
pub passes_added : {a b : Option (List ℕ)} {held held_then with_it text : List ℕ}
    → with_it ≡ held ++ text → PassesOn a b with_it held_then [] → PassesOn a b held held_then text
passes_added {a} {b} {held} {held_then} {with_it} {text} is p = record {
  part = p.part;
  written = p.written;
  rest = sym is ∙ sym (append-nil with_it) ∙ p.rest;
}

-- or a front of both does
pub passes_some_added : {a b : Option (List ℕ)} {held with_it text : List ℕ}
    → with_it ≡ held ++ text → PassesSome a b with_it [] → PassesSome a b held text
passes_some_added is p = record { lost = p.lost; passed = passes_added is p.passed }
