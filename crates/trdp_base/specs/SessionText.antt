-- The written forms of session identifiers (RFC 9562).
use Rattle.std.specs.Prelude.{ℕ, List, Option, option_map}
use Rattle.std.specs.Int.{w128, to_be_bytes, from_be_bytes}
use Rattle.uuid.specs.Text.{parsed, hyphenated_text, lower}

-- the identifier that a text of one of the four forms reads as
-- rule: text.session
unfoldable pub session_of : List ℕ → Option ℕ
session_of text = option_map (λ bytes. from_be_bytes w128 bytes) (parsed text)

-- the hyphenated form in lower case
unfoldable pub text_of_session : ℕ → List ℕ
text_of_session id = hyphenated_text lower (to_be_bytes w128 id)

-- the length of the hyphenated form
abbrev pub session_length : ℕ
session_length = 36
