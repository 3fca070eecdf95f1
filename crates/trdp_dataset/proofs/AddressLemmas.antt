-- What is read as an address is the address of the text.
-- For `address_of`.
-- By: the only number that passes a test is the one that is found.
use Rattle.std.proofs.Common.{◌≡◌, ◌<◌, ◌^◌, ℕ, zero, suc, Bool, true, false}
use Rattle.std.proofs.Common.{List, Some, None, if◌then◌else◌, Result, Ok}
use Rattle.std.proofs.Common.{Err, refl, sym, ap, ◌∙◌, arith, inl, inr, ◌⊎◌}
use Rattle.std.proofs.lemmas.Slice.Eq.{bytes_eq-Decides}
use Rattle.trdp_base.specs.AddressText.{text_of_ip}
use Rattle.trdp_base.specs.declared.place.Ip.{Ip}
use Rattle.trdp_base.specs.declared.text.TextFault.{TextFault}
use Rattle.trdp_dataset.specs.Values.{found_below, is_written_so, address_of}

one_below : (n k : ℕ) → n < suc k → (n ≡ k) ⊎ (n < k)
one_below n k small = grind (arith, small)

found_here : (test : ℕ → Bool) (k n : ℕ) (b : Bool)
    → test k ≡ b → n < suc k → test n ≡ true → (test k ≡ true → k ≡ n)
    → (n < k → found_below test k ≡ Some n) → (if b then Some k else found_below test k) ≡ Some n
found_here test k n true e small passes only rest = ap (λ (m : ℕ). Some m) (only e)
found_here test k n false e small passes only rest = elim (one_below n k small) [
  | inl same ↦ absurd (let x : false ≡ true = sym e ∙ (ap test (sym same) ∙ passes) in cc)
  | inr less ↦ rest less
]

-- the only number that passes is found
only_found : (test : ℕ → Bool) (k n : ℕ) → n < k
    → test n ≡ true → ((m : ℕ) → m < k → test m ≡ true → m ≡ n) → found_below test k ≡ Some n
unfolding found_below
only_found test zero n small passes only = absurd (omega (arith, small))
only_found test (suc k) n small passes only =
    found_here test k n (test k) refl small passes (only k (omega arith))
    (λ less. only_found test k n less passes (λ m below. only m (omega (arith, below))))

none_here : (test : ℕ → Bool) (k : ℕ) (b : Bool) → test k ≡ b → (test k ≡ true → ⊥)
    → found_below test k ≡ None → (if b then Some k else found_below test k) ≡ None
none_here test k true e none rest = absurd (none e)
none_here test k false e none rest = rest

-- none is found where none passes
none_found : (test : ℕ → Bool) (k : ℕ) → ((m : ℕ) → m < k → test m ≡ true → ⊥)
    → found_below test k ≡ None
unfolding found_below
none_found test zero none = refl
none_found test (suc k) none = none_here test k (test k)
    refl (none k (omega arith)) (none_found test k (λ m below. none m (omega (arith, below))))

written : (text : List ℕ) (n : ℕ) → text ≡ text_of_ip (record { 0 = n })
    → is_written_so text n ≡ true
written text n e = (bytes_eq-Decides text (text_of_ip (record { 0 = n }))).1 e

is_written : (text : List ℕ) (n : ℕ) → is_written_so text n ≡ true
    → text ≡ text_of_ip (record { 0 = n })
is_written text n e = (bytes_eq-Decides text (text_of_ip (record { 0 = n }))).0 e

-- a text is read as one address
same_ip : (read : Result Ip TextFault) (ip other : Ip)
    → read ≡ Ok ip → read ≡ Ok other → other.0 ≡ ip.0
same_ip read ip other e f = let same : Ok ip ≡ Ok other = sym e ∙ f in cc

-- an address whose written form the text is, and the only one
pub address_read : (text : List ℕ) (read : Result Ip TextFault) (ip : Ip)
    → read ≡ Ok ip → ip.0 < 2 ^ 32 → text ≡ text_of_ip ip
    → ((other : Ip) → other.0 < 2 ^ 32 → text ≡ text_of_ip other → read ≡ Ok other)
    → Some ip.0 ≡ address_of text
unfolding address_of
address_read text read ip e small same only =
    sym (only_found (is_written_so text) (2 ^ 32) ip.0 small (written text ip.0 same)
    (λ m below passes. same_ip read ip (record { 0 = m })
    e (only (record { 0 = m }) below (is_written text m passes))))

-- a text that is the written form of no address
pub address_unread : (text : List ℕ) (read : Result Ip TextFault) (fault : TextFault)
    → read ≡ Err fault
    → ((other : Ip) → other.0 < 2 ^ 32 → text ≡ text_of_ip other → read ≡ Ok other)
    → None ≡ address_of text
unfolding address_of
address_unread text read fault e none =
    sym (none_found (is_written_so text) (2 ^ 32)
    (λ m below passes. let same : Err fault ≡ Ok (record { 0 = m }) = sym e
    ∙ none (record { 0 = m }) below (is_written text m passes) in cc))
