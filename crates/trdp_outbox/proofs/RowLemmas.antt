-- The rows of an outbox and their bytes.
-- For `Outbox::get`, `push`, `push_with`, `push_pd` and `push_md`.
-- By: a row names a part of the bytes, and bytes that follow change no part.
use Rattle.std.proofs.Common.{subst, zero, suc, ◌≡◌, ℕ, ◌+◌, ◌≤◌, List, [], ◌∷◌, ◌++◌, length}
use Rattle.std.proofs.Common.{take, drop, map, Some, None, refl, ◌∙◌, ap, sym, arith, rules}
use Rattle.std.specs.Prelude.{slice_get, option_map}
use Rattle.std.proofs.lemmas.Grind.{common_steps}
use Rattle.std.proofs.lemmas.List.{take-append-le, length-append, map-append}
use Rattle.std.proofs.Common.{length-drop}
use Rattle.trdp_outbox.specs.declared.row.Row.{Row}
use Rattle.trdp_model.specs.Records.{RecordModel}
use Rattle.trdp_outbox.specs.Outboxes.{row_content, row_model, AllWithin}

pub AllWithin-get : (n : ℕ) (rows : List Row) (i : ℕ) (row : Row)
    → slice_get rows i ≡ Some row → AllWithin n rows → row.at + row.len ≤ n
AllWithin-get n [] i row is all = absurd (cc)
AllWithin-get n (r ∷ rows) zero row is all = let e : r ≡ row = cc in
    let P : Row → Type 0 = λ x. x.at + x.len ≤ n in subst P e all.0
AllWithin-get n (r ∷ rows) (suc i) row is all = AllWithin-get n rows i row is all.1

-- more bytes change no row
pub AllWithin-more : (n m : ℕ) (rows : List Row) → n ≤ m → AllWithin n rows → AllWithin m rows
AllWithin-more n m [] le all = tt
AllWithin-more n m (r ∷ rows) le all = (omega (arith, all.0), AllWithin-more n m rows le all.1)

pub AllWithin-push : (n : ℕ) (rows : List Row) (row : Row)
    → AllWithin n rows → row.at + row.len ≤ n → AllWithin n (rows ++ row ∷ [])
AllWithin-push n [] row all le = (le, tt)
AllWithin-push n (r ∷ rows) row all le = (all.0, AllWithin-push n rows row all.1 le)

drop-append-le : (n : ℕ) (xs ys : List ℕ) → n ≤ length xs → drop n (xs ++ ys) ≡ drop n xs ++ ys
drop-append-le n xs ys le = search (rules, common_steps)

row_model-more : (bytes more : List ℕ) (row : Row)
    → row.at + row.len ≤ length bytes → row_model (bytes ++ more) row ≡ row_model bytes row
row_model-more bytes more row le =
    ap (λ (b : List ℕ). let r : RecordModel =
    record { slot = row.slot; content = row_content row.form b } in r)
    (ap (take row.len) (drop-append-le row.at bytes more (omega arith))
    ∙ take-append-le row.len (drop row.at bytes) more (omega (arith, length-drop row.at bytes)))

pub records-more : (bytes more : List ℕ) (rows : List Row) → AllWithin (length bytes) rows
    → map (row_model (bytes ++ more)) rows ≡ map (row_model bytes) rows
records-more bytes more [] all = refl
records-more bytes more (r ∷ rows) all =
    rw (row_model-more bytes more r all.0, records-more bytes more rows all.1) refl

pub row_model-last : (bytes more : List ℕ) (row : Row)
    → row.at ≡ length bytes → row.len ≡ length more → row_model (bytes ++ more) row
    ≡ record { slot = row.slot; content = row_content row.form more }
row_model-last bytes more row at len =
    ap (λ (b : List ℕ). let r : RecordModel =
    record { slot = row.slot; content = row_content row.form b } in r)
    (rw (at, len) (search (rules, common_steps)))

slice_get-records : (bytes : List ℕ) (rows : List Row) (i : ℕ)
    → slice_get (map (row_model bytes) rows) i ≡ option_map (row_model bytes) (slice_get rows i)
slice_get-records bytes [] i = refl
slice_get-records bytes (r ∷ rows) zero = refl
slice_get-records bytes (r ∷ rows) (suc i) = slice_get-records bytes rows i

pub no_record : (bytes : List ℕ) (rows : List Row) (i : ℕ)
    → None ≡ slice_get rows i → None ≡ slice_get (map (row_model bytes) rows) i
no_record bytes rows i none = ap (option_map (row_model bytes)) none
    ∙ sym (slice_get-records bytes rows i)

pub some_record : (bytes : List ℕ) (rows : List Row) (i : ℕ) (row : Row) (part : List ℕ)
    → Some row ≡ slice_get rows i → part ≡ take row.len (drop row.at bytes)
    → let r : RecordModel = record { slot = row.slot; content = row_content row.form part } in
    Some r ≡ slice_get (map (row_model bytes) rows) i
some_record bytes rows i row part some is =
    rw is (ap (option_map (row_model bytes)) some ∙ sym (slice_get-records bytes rows i))

-- the records after one more row
pub records-push : (bytes more : List ℕ) (rows : List Row) (row : Row)
    → AllWithin (length bytes) rows → row.at ≡ length bytes → row.len ≡ length more
    → map (row_model (bytes ++ more)) (rows ++ row ∷ []) ≡ map (row_model bytes) rows
    ++ record { slot = row.slot; content = row_content row.form more } ∷ []
records-push bytes more rows row all at len =
    rw map-append (rw (records-more bytes more rows all, row_model-last bytes more row at len) refl)

pub AllWithin-row : (bytes more : List ℕ) (rows : List Row) (row : Row)
    → AllWithin (length bytes) rows → row.at ≡ length bytes
    → row.len ≡ length more → AllWithin (length (bytes ++ more)) (rows ++ row ∷ [])
AllWithin-row bytes more rows row all at len =
    AllWithin-push _ rows row (AllWithin-more _ _ rows
    (omega (arith, length-append bytes more)) all) (omega (arith, length-append bytes more))
