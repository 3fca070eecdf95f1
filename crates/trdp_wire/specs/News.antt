-- At which sockets something may be: where the system has reported news since a take found
-- nothing.
use Rattle.std.specs.Prelude.{◌≡◌, ℕ, List, [], ◌∷◌, Bool, true, false, if◌then◌else◌}
use Rattle.std.specs.Prelude.{slice_index_or, slice_set, Option, ◌⊎◌}
use Rattle.trdp_wire.specs.Sockets.{SocketCall, Waits}
use Rattle.trdp_base.specs.Reported.{TellsMore}

-- whether there are news of a socket; always true of one of which none are kept
abbrev pub has_news : List Bool → ℕ → Bool
has_news news socket = slice_index_or news socket true

-- there are news of these sockets too
abbrev pub with_news : List ℕ → List Bool → List Bool
with_news [] news = news
with_news (socket ∷ told) news = with_news told (slice_set news socket true)

-- the news after a take at a socket that found something or not
abbrev pub news_after : Bool → ℕ → List Bool → List Bool
news_after found socket news = if found then news else slice_set news socket false

-- whether something may be at a port after that was set: that, or true as before where no news are
-- kept
abbrev pub IsNoted : (may_be old new : Bool) → Type 0
IsNoted may_be old new = (new ≡ may_be) ⊎ ((old ≡ true) × (new ≡ true))

-- one wait was made, of that many milliseconds, and what it reported are news
pub record WaitsForNews (millis : ℕ) (calls calls_then : Option (List SocketCall))
    (news news_then : List Bool) : Type 0 where
  pub told : List ℕ
  pub asked : TellsMore calls calls_then (Waits millis told ∷ [])
  pub noted : news_then ≡ with_news told news
