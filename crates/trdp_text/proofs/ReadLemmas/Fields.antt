-- Facts on the values that words are the written forms of.
-- For `number_of`, `ip_of`, `place_of`, `bytes_of`, `uri_of` and `status_of`.
-- By: a value in range is found where its written form is the word, and else none is.
use Rattle.std.proofs.Common.{◌≡◌, ◌≢◌, ℕ, ◌+◌, ◌*◌, ◌/◌, ◌%◌, ◌^◌, ◌<◌, ◌≤◌, ◌==◌, nat_lt, nat_le}
use Rattle.std.proofs.Common.{Bool, true, false, List, [], ◌∷◌}
use Rattle.std.proofs.Common.{◌++◌, length, ◌&&◌, map, Option, Some}
use Rattle.std.proofs.Common.{None, Result, Ok, Err, refl, sym, ap, ◌∙◌, subst, inl, inr, arith}
use Rattle.std.proofs.Common.{append_assoc}
use Rattle.std.specs.Prelude.{All, is_some, unwrap_or, ◌⊎◌}
use Rattle.std.specs.List.{slice_split}
use Rattle.std.specs.Char.{digit_value}
use Rattle.std.specs.Int.Digits.{number_from_digits}
use Rattle.std.specs.Str.{bytes_eq}
use Rattle.std.specs.Str.Parse.{digits_value}
use Rattle.std.proofs.lemmas.Bool.{and_from, and_parts, cases_Bool}
use Rattle.std.proofs.lemmas.Bool.{cases_lt, le-leb, leb-true, lt-ltb}
use Rattle.std.proofs.lemmas.Bool.{ltb-true, ne_eqb, true≢false}
use Rattle.std.proofs.lemmas.Bool.Decides.{nat_tests}
use Rattle.std.proofs.lemmas.Fmt.{decimal_is_IsNumeral}
use Rattle.std.proofs.lemmas.List.Elements.{All-nil, All-cons, All-append, All-head, All-tail}
use Rattle.std.proofs.lemmas.List.Elements.{All-from_get_or}
use Rattle.std.proofs.lemmas.List.Splits.{slice_split_at, slice_split_none}
use Rattle.std.proofs.lemmas.Result.{MatchResult-at_ok}
use Rattle.std.proofs.lemmas.List.Sums.{list_all-from_AllPass, AllPass-from_list_all}
use Rattle.std.proofs.lemmas.Slice.Eq.{bytes_eq-Decides}
use Rattle.std.proofs.lemmas.Str.Parse.{digit_at}
use Rattle.trdp_base.specs.AddressText.{text_of_ip, text_of_place}
use Rattle.trdp_base.specs.HexText.{hex_digit, hex_pairs, text_of_hex, IsHexText}
use Rattle.trdp_base.specs.NumberText.{text_of_number}
use Rattle.trdp_base.specs.Uris.{IsUri, IsUriText}
use Rattle.trdp_base.specs.declared.place.Ip.{Ip}
use Rattle.trdp_base.specs.declared.place.Place.{Place}
use Rattle.trdp_text.specs.Splits.{Lacks}
use Rattle.trdp_text.specs.Words.{if_written, first_word, other_words, number_of_word, ip_shown}
use Rattle.trdp_text.specs.Words.{ip_of_word, place_shown, place_of_word, bytes_shown}
use Rattle.trdp_text.specs.Words.{bytes_of_word, IsBytesFault, are_bytes, is_uri, uri_of_word}
use Rattle.trdp_text.specs.declared.fault.LineFault.{LineFault}
use Rattle.trdp_text.specs.declared.fault.LineFault.TheVariants.{BadWord, OutOfMemory}

-- a value in range that has the word as its written form is found
pub written : {A : Type 0} (text_of : A → List ℕ) (word : List ℕ) (may_stand : Bool) (shown : A)
    → may_stand ≡ true → word ≡ text_of shown → if_written text_of word may_stand shown ≡ Some shown
unfolding if_written
written text_of word may_stand shown may is =
    rw (may, (bytes_eq-Decides (text_of shown) word).1 (sym is)) refl

-- where no value in range has the word as its written form, none is found
pub unwritten : {A : Type 0} (text_of : A → List ℕ) (word : List ℕ) (may_stand : Bool) (shown : A)
    → (may_stand ≡ true → word ≡ text_of shown → ⊥) → if_written text_of word may_stand shown ≡ None
unfolding if_written
unwritten text_of word may_stand shown never =
    elim (cases_Bool (may_stand && bytes_eq (text_of shown) word)) [
      | inl passes ↦
          let both = and_parts may_stand (bytes_eq (text_of shown) word) passes in
          absurd (never both.0 (sym ((bytes_eq-Decides (text_of shown) word).0 both.1)))
      | inr fails ↦ rw fails refl
    ]

-- the digits of a number show it
pub number_shown : (number : ℕ) → number < 2 ^ 64 → digits_value 10 (text_of_number number) ≡ number
number_shown number small = (decimal_is_IsNumeral number small).1

pub number_found : (word : List ℕ) (max number : ℕ) → max < 2 ^ 64
    → number ≤ max → word ≡ text_of_number number → Some number ≡ number_of_word max word
unfolding number_of_word
number_found word max number small within is =
    let shown : digits_value 10 word ≡ number = ap (digits_value 10) is
    ∙ number_shown number (omega (arith, small, within)) in
    rw shown
    (sym (written text_of_number word (nat_le number max) number (le-leb number max within) is))

pub number_lacks : (word : List ℕ) (max : ℕ)
    → ((number : ℕ) → number ≤ max → word ≡ text_of_number number → ⊥)
    → None ≡ number_of_word max word
unfolding number_of_word
number_lacks word max never =
    sym (unwritten text_of_number word _ (digits_value 10 word)
    (λ within is. never (digits_value 10 word) (leb-true _ max within) is))

-- a value is no fault
pub err_not_ok : {A E : Type 0} (value : A) (fault : E)
    → Path (Result A E) (Err fault) (Ok value) → ⊥
err_not_ok {A} {E} value fault e =
    MatchResult-at_ok {T = A} {E = E} {r = Err fault} (λ _. ⊥) (λ _. Unit {0}) value e tt

-- equal results hold equal values
pub ok_same : {A E : Type 0} (a b : A) → Path (Result A E) (Ok a) (Ok b) → a ≡ b
ok_same a b e = cc

-- no digit of a number is a dot or a colon
pub number_lacks_byte : (byte number : ℕ) → number < 2 ^ 64
    → (byte < 48) ⊎ (57 < byte) → Lacks byte (text_of_number number)
number_lacks_byte byte number small outside =
    All-from_get_or (λ other. (other == byte) ≡ false) (text_of_number number) 0 (λ k inside.
    let digit = digit_at (text_of_number number) k (decimal_is_IsNumeral number small).0.1 inside in
    ne_eqb _ byte (λ same. elim outside [
      | inl below ↦ omega (arith, digit.0, same, below)
      | inr above ↦ omega (arith, digit.1, same, above)
    ]))

-- four parts joined by dots, split at the dots
dotted : (a b c d : List ℕ) → Lacks 46 a → Lacks 46 b → Lacks 46 c → Lacks 46 d
    → slice_split (λ byte. byte == 46) (a ++ 46 ∷ [] ++ b ++ 46 ∷ [] ++ c ++ 46 ∷ [] ++ d)
    ≡ a ∷ b ∷ c ∷ d ∷ []
dotted a b c d no_a no_b no_c no_d =
    let dot : ℕ → Bool = λ byte. byte == 46 in
    let joined : a ++ 46 ∷ [] ++ b ++ 46 ∷ [] ++ c ++ 46 ∷ [] ++ d
    ≡ a ++ 46 ∷ (b ++ 46 ∷ (c ++ 46 ∷ d)) = simp append_assoc refl in
    ap (slice_split dot) joined
    ∙ slice_split_at dot a 46 (b ++ 46 ∷ (c ++ 46 ∷ d)) no_a refl
    ∙ ap (λ parts. a ∷ parts) (slice_split_at dot b 46 (c ++ 46 ∷ d) no_b refl
    ∙ ap (λ parts. b ∷ parts) (slice_split_at dot c 46 d no_c refl
    ∙ ap (λ parts. c ∷ parts) (slice_split_none dot d no_d)))

-- the number of four bytes, the highest first
four_bytes : (a b c d : ℕ)
    → number_from_digits 256 (a ∷ b ∷ c ∷ d ∷ []) ≡ ((a * 256 + b) * 256 + c) * 256 + d
four_bytes a b c d = omega arith

-- a written address shows it
address_shown : (ip : Ip) → ip.0 < 2 ^ 32 → ip_shown (text_of_ip ip) ≡ ip
unfolding ip_shown
address_shown ip small =
    let a = ip.0 / 2 ^ 24 % 256 in
    let b = ip.0 / 2 ^ 16 % 256 in
    let c = ip.0 / 2 ^ 8 % 256 in
    let d = ip.0 % 256 in
    let lacks : (n : ℕ) → n < 256 → Lacks 46 (text_of_number n) =
    λ n low. number_lacks_byte 46 n (omega (arith, low)) (inl (omega arith)) in
    let parts = dotted (text_of_number a) (text_of_number b)
    (text_of_number c) (text_of_number d) (lacks a (omega arith))
    (lacks b (omega arith)) (lacks c (omega arith)) (lacks d (omega arith)) in
    let shows : (n : ℕ) → n < 256 → digits_value 10 (text_of_number n) ≡ n =
    λ n low. number_shown n (omega (arith, low)) in
    let value : ((a * 256 + b) * 256 + c) * 256 + d ≡ ip.0 = omega (arith, small) in
    let whole = ap (λ ps. number_from_digits 256 (map (digits_value 10) ps)) parts
    ∙ (λ i. number_from_digits 256 (shows a (omega arith) i
    ∷ shows b (omega arith) i ∷ shows c (omega arith) i ∷ shows d (omega arith) i ∷ []))
    ∙ four_bytes a b c d ∙ value in
    λ i. record { 0 = whole i }

pub ip_found : (word : List ℕ) (ip : Ip) → ip.0 < 2 ^ 32
    → word ≡ text_of_ip ip → Some ip ≡ ip_of_word word
unfolding ip_of_word
ip_found word ip small is =
    let shown : ip_shown word ≡ ip = ap ip_shown is ∙ address_shown ip small in
    rw shown
    (sym (written text_of_ip word (nat_lt ip.0 (2 ^ 32)) ip (lt-ltb ip.0 (2 ^ 32) small) is))

pub ip_lacks : (word : List ℕ)
    → ((ip : Ip) → ip.0 < 2 ^ 32 → word ≡ text_of_ip ip → ⊥) → None ≡ ip_of_word word
unfolding ip_of_word
ip_lacks word never =
    sym (unwritten text_of_ip word _ (ip_shown word)
    (λ small is. never (ip_shown word) (ltb-true _ (2 ^ 32) small) is))

-- no byte of an address is a colon
address_lacks_colon : (ip : Ip) → Lacks 58 (text_of_ip ip)
address_lacks_colon ip =
    let number : (n : ℕ) → n < 256 → Lacks 58 (text_of_number n) =
    λ n low. number_lacks_byte 58 n (omega (arith, low)) (inr (omega arith)) in
    let NoColon : ℕ → Type 0 = λ other. (other == 58) ≡ false in
    let dot : Lacks 58 (46 ∷ []) = All-cons NoColon 46 [] refl (All-nil NoColon) in
    let join = λ (xs ys : List ℕ). All-append NoColon xs ys in
    join _ _ (join _ _ (join _ _ (join _ _ (join _ _ (join _ _ (number (ip.0 / 2 ^ 24 % 256)
    (omega arith)) dot) (number (ip.0 / 2 ^ 16 % 256) (omega arith))) dot)
    (number (ip.0 / 2 ^ 8 % 256) (omega arith))) dot) (number (ip.0 % 256) (omega arith))

-- a written place shows it
place_is_shown : (place : Place) → place.ip.0 < 2 ^ 32
    → place.port < 2 ^ 16 → place_shown (text_of_place place) ≡ place
unfolding place_shown first_word other_words
place_is_shown place small port =
    let colon : ℕ → Bool = λ byte. byte == 58 in
    let no_colon = number_lacks_byte 58 place.port (omega (arith, port)) (inr (omega arith)) in
    let joined : text_of_place place ≡ text_of_ip place.ip ++ 58 ∷ text_of_number place.port =
    append_assoc (text_of_ip place.ip) (58 ∷ []) (text_of_number place.port) in
    let parts : slice_split colon (text_of_place place)
    ≡ text_of_ip place.ip ∷ text_of_number place.port ∷ [] =
    ap (slice_split colon) joined ∙ slice_split_at colon
    (text_of_ip place.ip) 58 (text_of_number place.port) (address_lacks_colon place.ip) refl
    ∙ ap (λ ps. text_of_ip place.ip ∷ ps)
    (slice_split_none colon (text_of_number place.port) no_colon) in
    let ip = ap (λ ps. ip_shown (first_word ps)) parts ∙ address_shown place.ip small in
    let number = ap (λ ps. digits_value 10 (first_word (other_words ps))) parts
    ∙ number_shown place.port (omega (arith, port)) in
    λ i. record { ip = ip i; port = number i }

pub place_found : (word : List ℕ) (place : Place) → place.ip.0 < 2 ^ 32
    → place.port < 2 ^ 16 → word ≡ text_of_place place → Some place ≡ place_of_word word
unfolding place_of_word
place_found word place small port is =
    let shown : place_shown word ≡ place = ap place_shown is ∙ place_is_shown place small port in
    let stands =
    and_from _ _ (lt-ltb place.ip.0 (2 ^ 32) small) (lt-ltb place.port (2 ^ 16) port) in
    rw shown (sym (written text_of_place word _ place stands is))

pub place_lacks : (word : List ℕ)
    → ((place : Place) → place.ip.0 < 2 ^ 32 → place.port < 2 ^ 16 → word ≡ text_of_place place → ⊥)
    → None ≡ place_of_word word
unfolding place_of_word
place_lacks word never =
    sym (unwritten text_of_place word _ (place_shown word) (λ stands is.
    let both = and_parts _ _ stands in
    never (place_shown word) (ltb-true _ (2 ^ 32) both.0) (ltb-true _ (2 ^ 16) both.1) is))

-- a byte
IsByte : ℕ → Type 0
IsByte byte = byte < 256

-- the digit of a value below 16 has that value
digit_shown : (value : ℕ) → value < 16 → digit_value (hex_digit value) ≡ value
digit_shown value small = grind (arith, nat_tests)

pairs_shown : (bytes : List ℕ) → All (λ byte. byte < 256) bytes
    → bytes_shown (hex_pairs bytes) ≡ bytes
unfolding bytes_shown
pairs_shown [] small = refl
pairs_shown (byte ∷ bytes) small =
    let here = All-head (λ b. b < 256) byte bytes small in
    let high = digit_shown (byte / 16) (omega (arith, here)) in
    let low = digit_shown (byte % 16) (omega arith) in
    let first : 16 * digit_value (hex_digit (byte / 16)) + digit_value (hex_digit (byte % 16))
    ≡ byte = omega (arith, high, low) in
    let rest = pairs_shown bytes (All-tail (λ b. b < 256) byte bytes small) in
    λ i. first i ∷ rest i

-- written bytes show them
bytes_are_shown : (bytes : List ℕ) → All (λ byte. byte < 256) bytes
    → bytes_shown (text_of_hex bytes) ≡ bytes
unfolding bytes_shown
bytes_are_shown [] small = refl
bytes_are_shown (byte ∷ bytes) small = pairs_shown (byte ∷ bytes) small

-- bytes pass the test for bytes
bytes_pass : (bytes : List ℕ) → All (λ byte. byte < 256) bytes → are_bytes bytes ≡ true
bytes_pass bytes small =
    list_all-from_AllPass (λ byte. nat_lt byte 256)
    bytes (λ k d inside. lt-ltb _ 256 (small k d inside))

-- what passes the test for bytes is bytes
passed_bytes : (bytes : List ℕ) → are_bytes bytes ≡ true → All (λ byte. byte < 256) bytes
passed_bytes bytes pass =
    let passes = AllPass-from_list_all (λ byte. nat_lt byte 256) bytes pass in
    λ k d inside. ltb-true _ 256 (passes k d inside)

pub bytes_found : (word bytes : List ℕ) → All (λ byte. byte < 256) bytes
    → word ≡ text_of_hex bytes → bytes_of_word word ≡ Some bytes
unfolding bytes_of_word
bytes_found word bytes small is =
    let shown : bytes_shown word ≡ bytes = ap bytes_shown is ∙ bytes_are_shown bytes small in
    rw shown (written text_of_hex word _ bytes (bytes_pass bytes small) is)

-- a value is none
some_not_none : {A : Type 0} (value : A) → Path (Option A) (Some value) None → ⊥
some_not_none value e = true≢false (ap is_some e)

-- a word from which no bytes are read is not the written form of any
pub bytes_lack : (word : List ℕ) → bytes_of_word word ≡ None → IsHexText word → ⊥
bytes_lack word none hex = some_not_none hex.0 (sym (bytes_found word hex.0 hex.1 hex.2) ∙ none)

-- the value that is found is in range and has the word as its written form
written_back : {A : Type 0} (text_of : A → List ℕ) (word : List ℕ)
    (may_stand : Bool) (shown value : A) → if_written text_of word may_stand shown ≡ Some value
    → (may_stand ≡ true) × (word ≡ text_of shown) × (shown ≡ value)
unfolding if_written
written_back text_of word may_stand shown value found =
    elim (cases_Bool (may_stand && bytes_eq (text_of shown) word)) [
      | inl passes ↦
          let both = and_parts may_stand (bytes_eq (text_of shown) word) passes in
          let same = rw passes at found in (
            both.0,
            sym ((bytes_eq-Decides (text_of shown) word).0 both.1),
            ap (λ o. unwrap_or o shown) same,
          )
      | inr fails ↦ let none = rw fails at found in absurd (some_not_none value (sym none))
    ]

-- what is read from a word is what the word is the written form of
pub bytes_written : (word bytes : List ℕ) → bytes_of_word word ≡ Some bytes
    → All (λ byte. byte < 256) bytes × (word ≡ text_of_hex bytes)
unfolding bytes_of_word
bytes_written word bytes found =
    let back = written_back text_of_hex word _ (bytes_shown word) bytes found in (
      subst (λ bs. All (λ byte. byte < 256) bs) back.2 (passed_bytes (bytes_shown word) back.0),
      back.1 ∙ ap text_of_hex back.2,
    )

-- what was read is the value of the word, where the reader takes just the written forms of bytes
pub bytes_read : (word read : List ℕ)
    → ((bytes : List ℕ) → All (λ byte. byte < 256) bytes → word ≡ text_of_hex bytes → read ≡ bytes)
    → ((IsHexText word → ⊥) → ⊥) → bytes_of_word word ≡ Some read
bytes_read word read found good = bytes_read_by (bytes_of_word word) refl
  where
    bytes_read_by : (o : Option (List ℕ)) → bytes_of_word word ≡ o → bytes_of_word word ≡ Some read
    bytes_read_by None is = absurd (good (bytes_lack word is))
    bytes_read_by (Some bytes) is =
        let facts = bytes_written word bytes is in
        is ∙ ap Some (sym (found bytes facts.0 facts.1))

-- a word that is not the written form of bytes is bad
pub word_is_bad : (word : List ℕ) (fault : LineFault)
    → (IsHexText word → ⊥) → fault ≡ BadWord → IsBytesFault (bytes_of_word word) fault
word_is_bad word fault bad is = word_is_bad_by (bytes_of_word word) refl
  where
    word_is_bad_by : (o : Option (List ℕ)) → bytes_of_word word ≡ o → IsBytesFault o fault
    word_is_bad_by None none = is
    word_is_bad_by (Some bytes) some = let facts = bytes_written word bytes some in
        absurd (bad (bytes, facts.0, facts.1))

-- where a word is not bad, an allocation failed
pub memory_ran_out : (word : List ℕ) (fault : LineFault)
    → ((IsHexText word → ⊥) → ⊥) → fault ≡ OutOfMemory → IsBytesFault (bytes_of_word word) fault
memory_ran_out word fault good is = memory_ran_out_by (bytes_of_word word) refl
  where
    memory_ran_out_by : (o : Option (List ℕ)) → bytes_of_word word ≡ o → IsBytesFault o fault
    memory_ran_out_by None none = absurd (good (bytes_lack word none))
    memory_ran_out_by (Some bytes) some = is

-- a number that is not zero is above it, and one above it is not zero
above_zero : (n : ℕ) → n ≢ 0 → 0 < n
above_zero n other =
    elim (cases_lt 0 n) [ inl above ↦ above | inr below ↦ absurd (other (omega (arith, below))) ]

not_zero : (n : ℕ) → 0 < n → n ≢ 0
not_zero n above = λ none. omega (arith, above, none)

-- a URI passes the test for one
uri_passes : (uri : List ℕ) → IsUri uri → is_uri uri ≡ true
uri_passes uri is =
    and_from _ _ (le-leb (length uri) 32 is.within)
    (list_all-from_AllPass (λ byte. nat_lt 0 byte)
    uri (λ k d inside. lt-ltb 0 _ (above_zero _ (is.sound k d inside))))

-- what passes the test for a URI is one
passed_uri : (uri : List ℕ) → is_uri uri ≡ true → IsUri uri
passed_uri uri pass =
    let both = and_parts _ _ pass in
    let passes = AllPass-from_list_all (λ byte. nat_lt 0 byte) uri both.1 in record {
      within = leb-true (length uri) 32 both.0;
      sound = λ k d inside. not_zero _ (ltb-true 0 _ (passes k d inside));
    }

pub uri_found : (word uri : List ℕ) → IsUri uri
    → All (λ byte. byte < 256) uri → word ≡ text_of_hex uri → Some uri ≡ uri_of_word word
unfolding uri_of_word
uri_found word uri good small is =
    let shown : bytes_shown word ≡ uri = ap bytes_shown is ∙ bytes_are_shown uri small in
    rw shown (sym (written text_of_hex word _
    uri (and_from _ _ (bytes_pass uri small) (uri_passes uri good)) is))

-- what is read from a word is the URI that the word is the written form of
uri_written : (word uri : List ℕ) → uri_of_word word ≡ Some uri
    → IsUri uri × All (λ byte. byte < 256) uri × (word ≡ text_of_hex uri)
unfolding uri_of_word
uri_written word uri found =
    let back = written_back text_of_hex word _ (bytes_shown word) uri found in
    let both = and_parts _ _ back.0 in (
      subst IsUri back.2 (passed_uri (bytes_shown word) both.1),
      subst (λ bs. All (λ byte. byte < 256) bs) back.2 (passed_bytes (bytes_shown word) both.0),
      back.1 ∙ ap text_of_hex back.2,
    )

-- from a word that is not the written form of a URI none is read
pub uri_lacks : (word : List ℕ) → (IsUriText word → ⊥) → None ≡ uri_of_word word
uri_lacks word bad = uri_lacks_by (uri_of_word word) refl
  where
    uri_lacks_by : (o : Option (List ℕ)) → uri_of_word word ≡ o → None ≡ uri_of_word word
    uri_lacks_by None is = sym is
    uri_lacks_by (Some uri) is = let facts = uri_written word uri is in
        absurd (bad (uri, facts.0, facts.1, facts.2))
