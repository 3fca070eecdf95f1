-- A written session identifier is read back, and has 36 bytes.
-- For `read_session` and `put_text`.
-- By: what is read are sixteen bytes, whose number is the identifier.
use Rattle.std.proofs.Common.{◌≡◌, ℕ, ◌<◌, ◌^◌, List, length, Option}
use Rattle.std.proofs.Common.{Some, None, refl, sym, ap, ◌∙◌}
use Rattle.std.specs.Prelude.{option_map}
use Rattle.std.specs.Int.{w128, to_be_bytes, from_be_bytes}
use Rattle.uuid.specs.Text.{parsed}
use Rattle.uuid.proofs.OrderLemmas.{from_be_bytes-to_be_bytes_16}
use Rattle.uuid.proofs.TextLemmas.{by_index_length}
use Rattle.trdp_base.specs.SessionText.{session_of, text_of_session}

none_of : (found : Option (List ℕ)) → (((bytes : List ℕ) × (found ≡ Some bytes)) → ⊥)
    → option_map (λ bytes. from_be_bytes w128 bytes) found ≡ None
none_of None none = refl
none_of (Some bytes) none = absurd (none (bytes, refl))

-- what reads as nothing reads as no identifier
pub unread : (text : List ℕ)
    → (((bytes : List ℕ) × (parsed text ≡ Some bytes)) → ⊥) → session_of text ≡ None
unfolding session_of
unread text none = none_of (parsed text) none

-- a text that reads as the bytes of an identifier reads as the identifier
pub read_back : (text : List ℕ) (id : ℕ) → id < 2 ^ 128
    → Some (to_be_bytes w128 id) ≡ parsed text → session_of text ≡ Some id
unfolding session_of
read_back text id small e =
    ap (λ (found : Option (List ℕ)). option_map (λ bytes. from_be_bytes w128 bytes) found) (sym e)
    ∙ ap Some (from_be_bytes-to_be_bytes_16 id small)

-- a written identifier has 36 bytes
pub length-text_of_session : (id : ℕ) → length (text_of_session id) ≡ 36
unfolding text_of_session
length-text_of_session id = by_index_length 36 _
