-- The gives of a wire in memory, one thing after another.
-- For `MemoryWire::bytes`, `give` and `push_give`.
-- By induction on the rows: each names its part of all bytes.
use Rattle.std.proofs.Common.{◌≡◌, suc, zero, ◌+◌, ◌≤◌, ℕ, List, [], ◌∷◌, ◌++◌, refl}
use Rattle.std.proofs.Common.{sym, ◌∙◌, ap, arith, length, take, drop, length-append}
use Rattle.std.proofs.lemmas.List.{take_all, take-append-le, drop-append-le}
use Rattle.std.proofs.lemmas.List.{take-append-drop}
use Rattle.std.specs.List.{flat_map}
use Rattle.std.proofs.lemmas.List.Concat.{flat_map-cons}
use Rattle.trdp_memory.specs.declared.rows.GiveRow.{GiveRow}
use Rattle.trdp_wire.specs.Told.{Give}
use Rattle.trdp_memory.specs.Rows.{row_give, gives_of, bytes_in}

length_rest : (n : ℕ) (xs : List ℕ) → n ≤ length xs → n + length (drop n xs) ≡ length xs
length_rest zero xs le = omega arith
length_rest (suc n) [] le = absurd (omega (arith, le))
length_rest (suc n) (x ∷ xs) le =
    let less : n ≤ length xs = omega (arith, le) in
    let rest = length_rest n xs less in
    omega (arith, rest)

pub gives_append : (rows : List GiveRow) (row : GiveRow) (bytes more : List ℕ)
    → bytes_in rows ≡ length bytes → row.len ≡ length more
    → gives_of (bytes ++ more) (rows ++ row ∷ []) ≡ gives_of bytes rows ++ row_give row more ∷ []
gives_append [] row [] more whole len =
    let all : take row.len more ≡ more = take_all row.len more (omega (arith, len)) in
    ap (λ l. row_give row l ∷ []) all
gives_append [] row (b ∷ bytes) more whole len = absurd (omega (arith, whole))
gives_append (r ∷ rows) row bytes more whole len =
    let within : r.len ≤ length bytes = omega (arith, whole) in
    let rest = length_rest r.len bytes within in
    let left : bytes_in rows ≡ length (drop r.len bytes) = omega (arith, whole, rest) in
    ap (λ l. row_give r l ∷ gives_of (drop r.len (bytes ++ more)) (rows ++ row ∷ []))
    (take-append-le r.len bytes more within)
    ∙ ap (λ l. row_give r (take r.len bytes) ∷ gives_of l (rows ++ row ∷ []))
    (drop-append-le r.len bytes more within)
    ∙ ap (λ l. row_give r (take r.len bytes) ∷ l)
    (gives_append rows row (drop r.len bytes) more left len)

pub bytes_append : (rows : List GiveRow) (row : GiveRow) (bytes more : List ℕ) → bytes_in rows
    ≡ length bytes → row.len ≡ length more → bytes_in (rows ++ row ∷ []) ≡ length (bytes ++ more)
bytes_append rows row bytes more whole len = sum rows
    ∙ ap (λ n. n + row.len) whole ∙ ap (λ n. length bytes + n) len ∙ sym (length-append bytes more)
  where
    sum : (rows : List GiveRow) → bytes_in (rows ++ row ∷ []) ≡ bytes_in rows + row.len
    sum [] = omega arith
    sum (r ∷ rows) = let rest = sum rows in omega (arith, rest)

-- all bytes are those of the gives
pub gives_bytes : (rows : List GiveRow) (bytes : List ℕ)
    → bytes_in rows ≡ length bytes → bytes ≡ flat_map (λ g. g.offer.bytes) (gives_of bytes rows)
gives_bytes [] [] whole = refl
gives_bytes [] (b ∷ bytes) whole = absurd (omega (arith, whole))
gives_bytes (r ∷ rows) bytes whole =
    let within : r.len ≤ length bytes = omega (arith, whole) in
    let rest = length_rest r.len bytes within in
    let left : bytes_in rows ≡ length (drop r.len bytes) = omega (arith, whole, rest) in
    sym (take-append-drop r.len bytes)
    ∙ ap (λ l. take r.len bytes ++ l) (gives_bytes rows (drop r.len bytes) left)
    ∙ sym (flat_map-cons (λ (g : Give). g.offer.bytes)
    (row_give r (take r.len bytes)) (gives_of (drop r.len bytes) rows))

pub gives_many : (rows : List GiveRow) (bytes : List ℕ) → length (gives_of bytes rows) ≡ length rows
gives_many [] bytes = refl
gives_many (r ∷ rows) bytes = ap suc (gives_many rows (drop r.len bytes))
