-- Numbers and times, each way of spelling with its way of reading.
-- For `DatasetCodecLemmas`, `SpellingLemmas` and `WriterLemmas`.
-- By: codecs are made of codecs: of one part, or of two, of which the second may look at the first.
use Rattle.std.proofs.Common.{◌≡◌, inl, inr, ◌<◌, ◌≤◌, ◌-◌, ◌*◌, ◌/◌, ◌^◌, ℕ, suc, pos, negsuc}
use Rattle.std.proofs.Common.{Bool, true, false, cond, nat_lt, List, [], ◌∷◌, ◌++◌, Option, Some}
use Rattle.std.proofs.Common.{None, length, drop, refl, sym, ap, ◌∙◌, arith, ltb-false, le-ltb}
use Rattle.std.proofs.Common.{ltb-true, lt-ltb, append_assoc, length-append, subst}
use Rattle.std.specs.Prelude.{option_and_then}
use Rattle.std.proofs.lemmas.Option.{none-some, cond_some, same_Some, some_pair_parts}
use Rattle.std.proofs.lemmas.List.{drop_at}
use Rattle.std.proofs.lemmas.Bool.{cases_lt}
use Rattle.byteorder.specs.Endian.{big_number, big_bytes}
use Rattle.byteorder.specs.Numbers.{big_number-reads_back, length-bytes_high_first}
use Rattle.trdp_dataset.specs.declared.element.Width.{Width}
use Rattle.trdp_dataset.specs.declared.element.Width.TheVariants.{One, Two, Four, Eight}
use Rattle.trdp_dataset.specs.declared.element.Form.{Form}
use Rattle.trdp_dataset.specs.declared.element.Form.TheVariants.{Unsigned, Signed}
use Rattle.trdp_dataset.specs.declared.element.Form.TheVariants.{Time48, Time64, Nested}
use Rattle.trdp_dataset.specs.Elements.{width_len}
use Rattle.trdp_marshal.specs.Items.{ItemModel, unsigned, signed, time48, time64, list}
use Rattle.trdp_marshal.specs.Spelling.{Speller, ◌>>=◌, joined, number_spelling}
use Rattle.trdp_marshal.specs.Spelling.{unsigned_spelling, signed_spelling}
use Rattle.trdp_marshal.specs.Spelling.{time48_spelling, time64_spelling, form_spelling}
use Rattle.trdp_marshal.specs.Reading.{Reader, number_at, unsigned_at}
use Rattle.trdp_marshal.specs.Reading.{signed_at, time48_at, time64_at, form_at}
use Rattle.trdp_marshal.specs.Numbers.{IsBytes, signed_number}
use Rattle.trdp_marshal.proofs.NumberLemmas.{bytes_of_number, number_fits}

-- these bytes are the spelling of the value, and the rest
pub record Takes {A : Type 0} (spell : A → Option (List ℕ)) (a : A) (bytes rest : List ℕ)
    : Type 0 where
  pub text : List ℕ
  pub spelled : spell a ≡ Some text
  pub all : bytes ≡ text ++ rest

-- what is spelled is read, whatever follows; what is read is spelled so, and the rest is left
pub record IsCodec {A : Type 0} (spell : A → Option (List ℕ))
    (read : List ℕ → Option (A × List ℕ)) : Type 0 where
  pub again : (a : A) (text rest : List ℕ) → spell a ≡ Some text
      → read (text ++ rest) ≡ Some (a, rest)
  pub takes : (bytes : List ℕ) (a : A) (rest : List ℕ)
      → IsBytes bytes → read bytes ≡ Some (a, rest) → Takes spell a bytes rest

bind_some : {A B : Type 0} (o : Option A) (f : A → Option B) (y : B)
    → option_and_then f o ≡ Some y → (x : A) × (o ≡ Some x) × (f x ≡ Some y)
bind_some None f y e = absurd (none-some y e)
bind_some (Some x) f y e = (x, refl, e)

pub joined_some : (first second : Option (List ℕ)) (text : List ℕ) → joined first second ≡ Some text
    → (a : List ℕ) × (b : List ℕ) × (first ≡ Some a) × (second ≡ Some b) × (text ≡ a ++ b)
joined_some None second text e = absurd (none-some text e)
joined_some (Some a) None text e = absurd (none-some text e)
joined_some (Some a) (Some b) text e = (a, b, refl, refl, sym (same_Some _ _ e))

guard_some : {A : Type 0} (b : Bool) (x y : A)
    → cond b None (Some x) ≡ Some y → (b ≡ false) × (x ≡ y)
guard_some true x y e = absurd (none-some y e)
guard_some false x y e = (refl, same_Some x y e)

bytes_after : (front rest : List ℕ) → IsBytes (front ++ rest) → IsBytes rest
bytes_after [] rest fits = fits
bytes_after (b ∷ front) rest fits = bytes_after front rest (λ i. fits (suc i))

-- what is left of bytes is bytes
rest_fits : {A : Type 0} {spell : A → Option (List ℕ)} {a : A} {bytes rest : List ℕ}
    → Takes spell a bytes rest → IsBytes bytes → IsBytes rest
rest_fits {rest = rest} t fits =
    bytes_after t.text rest (subst (λ (x : List ℕ). IsBytes x) t.all fits)

-- a value that is made of another one
pub made_codec : {A B : Type 0} (spell : A → Option (List ℕ))
    (read : List ℕ → Option (A × List ℕ)) (f : A → B) (spell_made : B → Option (List ℕ))
    → IsCodec spell read
    → ((a : A) (text : List ℕ) → spell a ≡ Some text → spell_made (f a) ≡ Some text)
    → ((b : B) (text : List ℕ) → spell_made b ≡ Some text
    → (a : A) × (b ≡ f a) × (spell a ≡ Some text))
    → IsCodec spell_made (λ bytes. read bytes >>= λ x. Some (f x.0, x.1))
made_codec {A} {B} spell read f spell_made codec same only = record {
  again = λ b text rest e.
      let w = only b text e in
      let r : read (text ++ rest) ≡ Some (w.0, rest) = codec.again w.0 text rest w.2 in
      ap (λ (o : Option (A × List ℕ)). o >>= λ x. Some (f x.0, x.1)) r
      ∙ ap (λ (x : B). Some (x, rest)) (sym w.1);
  takes = λ bytes b rest fits e.
      let w = bind_some (read bytes) (λ (x : A × List ℕ). Some (f x.0, x.1)) (b, rest) e in
      let t = codec.takes bytes w.0.0 w.0.1 fits w.1 in
      let parts = some_pair_parts _ _ _ _ w.2 in
      record {
        text = t.text;
        spelled = ap spell_made (sym parts.0) ∙ same w.0.0 t.text t.spelled;
        all = t.all ∙ ap (λ (x : List ℕ). t.text ++ x) parts.1;
      };
}

-- a value of two parts, one after the other, where the second may depend on the first
pub pair_codec :
    {A B C : Type 0} (spell : A → Option (List ℕ)) (read : List ℕ → Option (A × List ℕ))
    (spell_next : A → B → Option (List ℕ)) (read_next : A → List ℕ → Option (B × List ℕ))
    (f : A → B → C) (spell_made : C → Option (List ℕ))
    → IsCodec spell read
    → ((a : A) → IsCodec (spell_next a) (read_next a))
    → ((a : A) (b : B) (text : List ℕ) → joined (spell a) (spell_next a b) ≡ Some text
    → spell_made (f a b) ≡ Some text)
    → ((c : C) (text : List ℕ) → spell_made c ≡ Some text
    → (a : A) × (b : B) × (c ≡ f a b) × (joined (spell a) (spell_next a b) ≡ Some text))
    → IsCodec spell_made
    (λ bytes. read bytes >>= λ x. read_next x.0 x.1 >>= λ y. Some (f x.0 y.0, y.1))
pair_codec {A} {B} {C} spell read spell_next read_next f spell_made codec next same only = record {
  again = λ c text rest e.
      let w = only c text e in
      let j = joined_some (spell w.0) (spell_next w.0 w.1) text w.3 in
      let r : read (text ++ rest) ≡ Some (w.0, j.1 ++ rest) =
      ap read (ap (λ (x : List ℕ). x ++ rest) j.4 ∙ append_assoc j.0 j.1 rest)
      ∙ codec.again w.0 j.0 (j.1 ++ rest) j.2 in
      let s : read_next w.0 (j.1 ++ rest) ≡ Some (w.1, rest) = (next w.0).again w.1 j.1 rest j.3 in
      ap (λ (o : Option (A × List ℕ)). o >>= λ x. read_next x.0 x.1 >>= λ y. Some (f x.0 y.0, y.1))
      r ∙ ap (λ (o : Option (B × List ℕ)). o >>= λ y. Some (f w.0 y.0, y.1)) s
      ∙ ap (λ (x : C). Some (x, rest)) (sym w.2);
  takes = λ bytes c rest fits e.
      let v = bind_some (read bytes)
      (λ (x : A × List ℕ). read_next x.0 x.1 >>= λ y. Some (f x.0 y.0, y.1)) (c, rest) e in
      let w = bind_some (read_next v.0.0 v.0.1)
      (λ (y : B × List ℕ). Some (f v.0.0 y.0, y.1)) (c, rest) v.2 in
      let t = codec.takes bytes v.0.0 v.0.1 fits v.1 in
      let u = (next v.0.0).takes v.0.1 w.0.0 w.0.1 (rest_fits t fits) w.1 in
      let parts = some_pair_parts _ _ _ _ w.2 in
      let both : joined (spell v.0.0) (spell_next v.0.0 w.0.0) ≡ Some (t.text ++ u.text) =
      rw (t.spelled, u.spelled) refl in
      record {
        text = t.text ++ u.text;
        spelled = ap spell_made (sym parts.0) ∙ same v.0.0 w.0.0 (t.text ++ u.text) both;
        all = t.all
            ∙ ap (λ (x : List ℕ). t.text ++ x) (u.all ∙ ap (λ (x : List ℕ). u.text ++ x) parts.1)
            ∙ sym (append_assoc t.text u.text rest);
      };
}

pub number_codec : (k : ℕ) → IsCodec (number_spelling k) (number_at k)
unfolding number_spelling number_at
number_codec k = record {
  again = λ n text rest e.
      let w = cond_some (nat_lt n (256 ^ k)) _ _ e in
      let low : n < 256 ^ k = ltb-true _ _ w.0 in
      let len : length (big_bytes k n) ≡ k = length-bytes_high_first k n in
      let room : nat_lt (length (big_bytes k n ++ rest)) k ≡ false =
      le-ltb _ _ (omega (arith, len, length-append (big_bytes k n) rest)) in
      let number : big_number k (big_bytes k n ++ rest) ≡ n = big_number-reads_back k n rest low in
      let left : drop k (big_bytes k n ++ rest) ≡ rest = drop_at (big_bytes k n) rest k len in
      let read : number_at k (big_bytes k n ++ rest) ≡ Some (n, rest) =
      rw (room, number, left) refl in
      ap (λ (x : List ℕ). number_at k (x ++ rest)) (sym w.1) ∙ read;
  takes = λ bytes n rest fits e.
      let w = guard_some (nat_lt (length bytes) k) _ _ e in
      let room : k ≤ length bytes = ltb-false _ _ w.0 in
      let same : big_number k bytes ≡ n = ap (λ (x : ℕ × List ℕ). x.0) w.1 in
      let left : drop k bytes ≡ rest = ap (λ (x : ℕ × List ℕ). x.1) w.1 in
      let low : nat_lt (big_number k bytes) (256 ^ k) ≡ true =
      lt-ltb _ _ (number_fits k bytes fits) in
      let spelled : number_spelling k (big_number k bytes)
      ≡ Some (big_bytes k (big_number k bytes)) = rw low refl in
      record {
        text = big_bytes k (big_number k bytes);
        spelled = ap (number_spelling k) (sym same) ∙ spelled;
        all = sym (bytes_of_number k bytes fits room)
            ∙ ap (λ (x : List ℕ). big_bytes k (big_number k bytes) ++ x) left;
      };
}

unsigned_again : (k n : ℕ) (text : List ℕ) → number_spelling k n ≡ Some text
    → unsigned_spelling k (unsigned n) ≡ Some text
unfolding unsigned_spelling
unsigned_again k n text e = e

unsigned_only : (k : ℕ) (t : ItemModel) (text : List ℕ) → unsigned_spelling k t ≡ Some text
    → (n : ℕ) × (t ≡ unsigned n) × (number_spelling k n ≡ Some text)
unfolding unsigned_spelling
unsigned_only k (unsigned n) text e = (n, refl, e)
unsigned_only k (signed z) text e = absurd (none-some text e)
unsigned_only k (time48 s u) text e = absurd (none-some text e)
unsigned_only k (time64 s u) text e = absurd (none-some text e)
unsigned_only k (list ts) text e = absurd (none-some text e)

pub unsigned_codec : (k : ℕ) → IsCodec (unsigned_spelling k) (unsigned_at k)
unfolding unsigned_at
unsigned_codec k = made_codec (number_spelling k) (number_at k)
    unsigned (unsigned_spelling k) (number_codec k) (unsigned_again k) (unsigned_only k)

-- a number of k bytes as two's complement, and back
pub signed_again : (k half n : ℕ) (text : List ℕ) → 256 ^ k ≡ 2 * half
    → number_spelling k n ≡ Some text → signed_spelling k (signed (signed_number k n)) ≡ Some text
unfolding signed_spelling number_spelling signed_number
signed_again k half n text even e =
    let w = cond_some (nat_lt n (256 ^ k)) _ _ e in
    let low : n < 256 ^ k = ltb-true _ _ w.0 in
    elim (cases_lt n (256 ^ k / 2)) [
      | inl below ↦
          let yes : nat_lt n (256 ^ k / 2) ≡ true = lt-ltb _ _ below in
          rw (yes, yes) (ap Some w.1)
      | inr above ↦
          let no : nat_lt n (256 ^ k / 2) ≡ false = le-ltb _ _ above in
          let small : nat_lt (256 ^ k - 1 - n) (256 ^ k / 2) ≡ true = lt-ltb _ _ (omega arith) in
          let back : 256 ^ k - 1 - (256 ^ k - 1 - n) ≡ n = omega arith in
          rw (no, small, back) (ap Some w.1)
    ]

pub signed_only : (k half : ℕ) (t : ItemModel) (text : List ℕ)
    → 256 ^ k ≡ 2 * half → signed_spelling k t ≡ Some text
    → (n : ℕ) × (t ≡ signed (signed_number k n)) × (number_spelling k n ≡ Some text)
unfolding signed_spelling number_spelling signed_number
signed_only k half (unsigned n) text even e = absurd (none-some text e)
signed_only k half (signed (pos n)) text even e =
    let w = cond_some (nat_lt n (256 ^ k / 2)) _ _ e in
    let low : n < 256 ^ k / 2 = ltb-true _ _ w.0 in
    let in_range : nat_lt n (256 ^ k) ≡ true = lt-ltb _ _ (omega arith) in
    (n, rw w.0 refl, rw in_range (ap Some w.1))
signed_only k half (signed (negsuc n)) text even e =
    let w = cond_some (nat_lt n (256 ^ k / 2)) _ _ e in
    let low : n < 256 ^ k / 2 = ltb-true _ _ w.0 in
    let in_range : nat_lt (256 ^ k - 1 - n) (256 ^ k) ≡ true = lt-ltb _ _ (omega arith) in
    let high : nat_lt (256 ^ k - 1 - n) (256 ^ k / 2) ≡ false = le-ltb _ _ (omega arith) in
    let back : 256 ^ k - 1 - (256 ^ k - 1 - n) ≡ n = omega arith in
    (256 ^ k - 1 - n, rw (high, back) refl, rw in_range (ap Some w.1))
signed_only k half (time48 s u) text even e = absurd (none-some text e)
signed_only k half (time64 s u) text even e = absurd (none-some text e)
signed_only k half (list ts) text even e = absurd (none-some text e)

pub signed_codec : (k half : ℕ) → 256 ^ k ≡ 2 * half → IsCodec (signed_spelling k) (signed_at k)
unfolding signed_at
signed_codec k half even =
    made_codec (number_spelling k) (number_at k)
    (λ n. signed (signed_number k n)) (signed_spelling k) (number_codec k)
    (λ n text. signed_again k half n text even) (λ t text. signed_only k half t text even)

time48_same : (s u : ℕ) (text : List ℕ) → joined (number_spelling 4 s) (number_spelling 2 u)
    ≡ Some text → time48_spelling (time48 s u) ≡ Some text
unfolding time48_spelling
time48_same s u text e = e

time48_only : (t : ItemModel) (text : List ℕ) → time48_spelling t ≡ Some text → (s : ℕ)
    × (u : ℕ) × (t ≡ time48 s u) × (joined (number_spelling 4 s) (number_spelling 2 u) ≡ Some text)
unfolding time48_spelling
time48_only (unsigned n) text e = absurd (none-some text e)
time48_only (signed z) text e = absurd (none-some text e)
time48_only (time48 s u) text e = (s, u, refl, e)
time48_only (time64 s u) text e = absurd (none-some text e)
time48_only (list ts) text e = absurd (none-some text e)

pub time48_codec : IsCodec time48_spelling time48_at
unfolding time48_at
time48_codec =
    pair_codec (number_spelling 4) (number_at 4) (λ _. number_spelling 2) (λ _. number_at 2)
    time48 time48_spelling (number_codec 4) (λ _. number_codec 2) time48_same time48_only

time64_same : (s u : ℕ) (text : List ℕ) → joined (number_spelling 4 s) (number_spelling 4 u)
    ≡ Some text → time64_spelling (time64 s u) ≡ Some text
unfolding time64_spelling
time64_same s u text e = e

time64_only : (t : ItemModel) (text : List ℕ) → time64_spelling t ≡ Some text → (s : ℕ)
    × (u : ℕ) × (t ≡ time64 s u) × (joined (number_spelling 4 s) (number_spelling 4 u) ≡ Some text)
unfolding time64_spelling
time64_only (unsigned n) text e = absurd (none-some text e)
time64_only (signed z) text e = absurd (none-some text e)
time64_only (time48 s u) text e = absurd (none-some text e)
time64_only (time64 s u) text e = (s, u, refl, e)
time64_only (list ts) text e = absurd (none-some text e)

pub time64_codec : IsCodec time64_spelling time64_at
unfolding time64_at
time64_codec =
    pair_codec (number_spelling 4) (number_at 4) (λ _. number_spelling 4) (λ _. number_at 4)
    time64 time64_spelling (number_codec 4) (λ _. number_codec 4) time64_same time64_only

unsigned_of_width : (w : Width)
    → IsCodec (unsigned_spelling (width_len w)) (unsigned_at (width_len w))
unsigned_of_width w = unsigned_codec (width_len w)

signed_of_width : (w : Width) → IsCodec (signed_spelling (width_len w)) (signed_at (width_len w))
signed_of_width One = signed_codec 1 128 refl
signed_of_width Two = signed_codec 2 32768 refl
signed_of_width Four = signed_codec 4 2147483648 refl
signed_of_width Eight = signed_codec 8 9223372036854775808 refl

pub form_codec : (spell : ℕ → Speller ItemModel) (read : ℕ → Reader ItemModel)
    → ((id : ℕ) → IsCodec (spell id) (read id))
    → (form : Form) → IsCodec (form_spelling spell form) (form_at read form)
unfolding form_spelling form_at
form_codec spell read nested (Unsigned w) = unsigned_of_width w
form_codec spell read nested (Signed w) = signed_of_width w
form_codec spell read nested Time48 = time48_codec
form_codec spell read nested Time64 = time64_codec
form_codec spell read nested (Nested id) = nested id
