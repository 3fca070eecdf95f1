-- The words of a line, and the values that words are the written forms of.
use Rattle.std.specs.Prelude.{◌≡◌, ℕ, ◌+◌, ◌*◌, ◌^◌, ◌==◌, ◌&&◌, nat_lt, nat_le, List, [], ◌∷◌}
use Rattle.std.specs.Prelude.{ℤ, pos, neg_ℤ, int_lt, int_le, length, map, Bool, true, false, Option}
use Rattle.std.specs.Prelude.{Some, None, if◌then◌else◌, option_map, codes}
use Rattle.std.specs.Char.{digit_value}
use Rattle.std.specs.Int.Digits.{number_from_digits}
use Rattle.std.specs.List.{slice_split, list_all}
use Rattle.std.specs.Str.{bytes_eq}
use Rattle.std.specs.Str.Parse.{digits_value}
use Rattle.trdp_base.specs.AddressText.{text_of_ip, text_of_place}
use Rattle.trdp_base.specs.HexText.{text_of_hex}
use Rattle.trdp_base.specs.NumberText.{text_of_number}
use Rattle.trdp_base.specs.SessionText.{session_of}
use Rattle.trdp_base.specs.StatusText.{text_of_status}
use Rattle.trdp_base.specs.declared.place.Ip.{Ip}
use Rattle.trdp_base.specs.declared.place.Place.{Place}
use Rattle.trdp_base.specs.declared.session.SessionId.{SessionId}
use Rattle.trdp_text.specs.declared.fault.LineFault.{LineFault}
use Rattle.trdp_text.specs.declared.fault.LineFault.TheVariants.{BadWord, OutOfMemory}

-- the words of a line, with exactly one space between two of them; two adjacent spaces have an
-- empty word between them
-- rule: line.words
unfoldable pub words_of : List ℕ → List (List ℕ)
words_of line = slice_split (λ byte. byte == 32) line

-- the first word; an empty one where there is none
unfoldable pub first_word : List (List ℕ) → List ℕ
first_word [] = []
first_word (word ∷ words) = word

-- the words after the first
unfoldable pub other_words : List (List ℕ) → List (List ℕ)
other_words [] = []
other_words (word ∷ words) = words

-- the third word; an empty one where there is none
abbrev pub third_word : List (List ℕ) → List ℕ
third_word words = first_word (other_words (other_words words))

-- the number of words is in this range
abbrev pub are_between : ℕ → ℕ → List (List ℕ) → Bool
are_between least most words = nat_le least (length words) && nat_le (length words) most

-- the value, if it is in range and the word is its written form
unfoldable pub if_written : {A : Type 0} → (A → List ℕ) → List ℕ → Bool → A → Option A
if_written text_of word may_stand value =
    if may_stand && bytes_eq (text_of value) word then Some value else None

-- the number of at most `max` whose written form the word is
-- rule: line.number
unfoldable pub number_of_word : ℕ → List ℕ → Option ℕ
number_of_word max word =
    let number = digits_value 10 word in
    if_written text_of_number word (nat_le number max) number

-- the number of at most `max` whose written form the last word is; 0 where that is left out
-- rule: call.retries
unfoldable pub last_number : ℕ → List (List ℕ) → Option ℕ
last_number max [] = Some 0
last_number max (word ∷ words) = number_of_word max word

-- the number that digits show, below 0 after `-`
unfoldable pub status_shown : List ℕ → ℤ
status_shown [] = pos 0
status_shown (byte ∷ bytes) =
    if byte == 45 then neg_ℤ (pos (digits_value 10 bytes)) else pos (digits_value 10 (byte ∷ bytes))

-- the number is one of 32 bits with its sign
abbrev pub is_status : ℤ → Bool
is_status number = int_le (neg_ℤ (pos (2 ^ 31))) number && int_lt number (pos (2 ^ 31))

-- the status whose written form the word is
unfoldable pub status_of_word : List ℕ → Option ℤ
status_of_word word =
    let status = status_shown word in if_written text_of_status word (is_status status) status

-- the session identifier that the word reads as, in each of its forms
unfoldable pub session_of_word : List ℕ → Option SessionId
session_of_word word =
    option_map (λ id. let session : SessionId = record { 0 = id } in session) (session_of word)

-- the address that numbers joined by dots show
unfoldable pub ip_shown : List ℕ → Ip
ip_shown word = record {
  0 = number_from_digits 256 (map (digits_value 10) (slice_split (λ byte. byte == 46) word));
}

-- the address whose written form the word is
unfoldable pub ip_of_word : List ℕ → Option Ip
ip_of_word word =
    let ip = ip_shown word in
    if_written text_of_ip word (nat_lt ip.0 (2 ^ 32)) ip

-- the place that an address, a colon and a number show
unfoldable pub place_shown : List ℕ → Place
place_shown word =
    let parts = slice_split (λ byte. byte == 58) word in record {
      ip = ip_shown (first_word parts);
      port = digits_value 10 (first_word (other_words parts));
    }

-- the place whose written form the word is
unfoldable pub place_of_word : List ℕ → Option Place
place_of_word word =
    let place = place_shown word in
    if_written text_of_place word (nat_lt place.ip.0 (2 ^ 32) && nat_lt place.port (2 ^ 16)) place

-- the bytes that pairs of hexadecimal digits show
unfoldable pub bytes_shown : List ℕ → List ℕ
bytes_shown [] = []
bytes_shown (high ∷ []) = []
bytes_shown (high ∷ low ∷ digits) =
    (16 * digit_value high + digit_value low) ∷ bytes_shown digits

-- each number is a byte's
abbrev pub are_bytes : List ℕ → Bool
are_bytes bytes = list_all (λ byte. nat_lt byte 256) bytes

-- the bytes whose written form the word is
unfoldable pub bytes_of_word : List ℕ → Option (List ℕ)
bytes_of_word word =
    let bytes = bytes_shown word in if_written text_of_hex word (are_bytes bytes) bytes

-- the bytes are a URI's: at most 32, none of them zero
abbrev pub is_uri : List ℕ → Bool
is_uri bytes = nat_le (length bytes) 32 && list_all (λ byte. nat_lt 0 byte) bytes

-- the URI whose bytes have the word as their written form
unfoldable pub uri_of_word : List ℕ → Option (List ℕ)
uri_of_word word =
    let bytes = bytes_shown word in
    if_written text_of_hex word (are_bytes bytes && is_uri bytes) bytes

-- true where the word is the first of these, false where it is the second; none where it is
-- neither
unfoldable pub choice_of_word : List ℕ → List ℕ → List ℕ → Option Bool
choice_of_word first second word =
    if bytes_eq word first then Some true else (if bytes_eq word second then Some false else None)

-- none where the word is `any`, or else the number of at most `max` whose written form it is
unfoldable pub any_or_number : ℕ → List ℕ → Option (Option ℕ)
any_or_number max word =
    if bytes_eq word (codes "any")
    then Some None
    else option_map (λ number. Some number) (number_of_word max word)

-- why the bytes of a word weren't read: it isn't the written form of any, or else an allocation
-- failed
abbrev pub IsBytesFault : Option (List ℕ) → LineFault → Type 0
IsBytesFault None fault = fault ≡ BadWord
IsBytesFault (Some bytes) fault = fault ≡ OutOfMemory
