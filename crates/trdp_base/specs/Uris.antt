-- The URIs of message data, and the fields that contain them.
use Rattle.std.specs.Prelude.{◌≢◌, ℕ, ◌≡◌, ◌-◌, ◌<◌, ◌≤◌, ◌==◌, List, [], ◌∷◌}
use Rattle.std.specs.Prelude.{◌++◌, length, replicate, if◌then◌else◌, All}
use Rattle.trdp_base.specs.HexText.{text_of_hex}

-- the most bytes of a URI, which is the length of its field
abbrev pub uri_limit : ℕ
uri_limit = 32

-- at most 32 bytes, none of them zero
pub record IsUri (uri : List ℕ) : Type 0 where
  pub within : length uri ≤ uri_limit
  pub sound : All (λ byte. byte ≢ 0) uri

-- the bytes before the first zero byte; all of them where there is none
abbrev pub before_zero : List ℕ → List ℕ
before_zero [] = []
before_zero (byte ∷ bytes) = if byte == 0 then [] else byte ∷ before_zero bytes

-- the field of a URI in a header: its bytes, and zeros up to 32
unfoldable pub uri_field : List ℕ → List ℕ
uri_field uri = uri ++ replicate (uri_limit - length uri) 0

-- the text is the written form of a URI: its bytes as digits in pairs, or `-` for none
-- rule: text.uri
abbrev pub IsUriText : List ℕ → Type 0
IsUriText text = (uri : List ℕ) × IsUri uri × All (λ byte. byte < 256) uri
    × (text ≡ text_of_hex uri)
