-- The sockets of which the resting wire keeps news.
-- For `RestingWire::over`, `take_news` and `set_news`, and for `note_events`.
-- By induction on the list.
use Rattle.std.proofs.Common.{◌≡◌, ℕ, zero, suc, Bool, true, false, List, [], ◌∷◌, ◌++◌, map}
use Rattle.std.proofs.Common.{◌||◌}
use Rattle.std.proofs.Common.{refl, sym, ◌∙◌, ap, subst, replicate}
use Rattle.std.specs.Prelude.{slice_set}
use Rattle.std.proofs.lemmas.List.{map-append}
use Rattle.trdp_wire.specs.declared.port.Port.{Port}
use Rattle.trdp_wire.specs.News.{IsNoted, has_news, with_news}
use Rattle.trdp_wire.specs.Ports.{are_apart}
use Rattle.trdp_wire.specs.Sockets.{socket_of}
use Rattle.trdp_udp.proofs.ApartLemmas.{noted, noted_alone, sockets_apart}

-- where that many are there, there are news of each socket
pub each_there : (count socket : ℕ) → has_news (replicate count true) socket ≡ true
each_there zero socket = refl
each_there (suc count) zero = refl
each_there (suc count) (suc socket) = each_there count socket

pub or_false : (b : Bool) → b ≡ (b || false)
or_false true = refl
or_false false = refl

-- news that were set are set, but where none are kept
pub noted_at : (groups : List ℕ) (news news_then : List Bool) (port : Port) (may_be : Bool)
    → news_then ≡ slice_set news (socket_of groups port) may_be
    → IsNoted may_be (has_news news (socket_of groups port))
    (has_news news_then (socket_of groups port))
noted_at groups news news_then port may_be is =
    subst (λ (l : List Bool). IsNoted may_be (has_news news (socket_of groups port))
    (has_news l (socket_of groups port))) (sym is) (noted news (socket_of groups port) may_be)

-- and those of ports that are apart stay
pub noted_alone_at : (groups : List ℕ) (news news_then : List Bool) (port other : Port)
    (may_be : Bool) → news_then ≡ slice_set news (socket_of groups port) may_be
    → are_apart port other ≡ true
    → has_news news_then (socket_of groups other) ≡ has_news news (socket_of groups other)
noted_alone_at groups news news_then port other may_be is apart =
    ap (λ l. has_news l (socket_of groups other)) is
    ∙ noted_alone news (socket_of groups port) (socket_of groups other) may_be
    (sockets_apart groups port other apart)

-- one more is noted after the others
noted_last : (told : List ℕ) (socket : ℕ) (news : List Bool)
    → with_news (told ++ socket ∷ []) news ≡ slice_set (with_news told news) socket true
noted_last [] socket news = refl
noted_last (first ∷ told) socket news = noted_last told socket (slice_set news first true)

pub noted_next : {E : Type 0} (number : E → ℕ) (yielded : List E) (event : E)
    (news before after : List Bool) (socket : ℕ)
    → before ≡ with_news (map number yielded) news → socket ≡ number event
    → after ≡ slice_set before socket true
    → after ≡ with_news (map number (yielded ++ event ∷ [])) news
noted_next number yielded event news before after socket so_far is set =
    set ∙ ap (λ l. slice_set l socket true) so_far
    ∙ ap (λ s. slice_set (with_news (map number yielded) news) s true) is
    ∙ sym (noted_last (map number yielded) (number event) news)
    ∙ ap (λ l. with_news l news) (sym (map-append number yielded (event ∷ [])))
