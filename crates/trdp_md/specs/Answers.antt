-- The answers to one request.
use Rattle.std.specs.Prelude.{List, map, Bool, false, ◌==◌, ◌&&◌, if◌then◌else◌}
use Rattle.std.specs.List.{list_any}
use Rattle.trdp_base.specs.declared.place.Place.{Place}
use Rattle.trdp_md.specs.declared.answers.RequestAnswer.{RequestAnswer}

-- the two places are one: they have the same address and the same port
abbrev pub is_place : Place → Place → Bool
is_place a b = a.ip.0 == b.ip.0 && a.port == b.port

-- one of the answers came from the place
unfoldable pub has_answered : List RequestAnswer → Place → Bool
has_answered answers place = list_any (λ answer. is_place answer.place place) answers

-- an answer from the place awaits a confirmation
unfoldable pub awaits : List RequestAnswer → Place → Bool
awaits answers place =
    list_any (λ answer. is_place answer.place place && answer.confirm_owed) answers

-- any answer awaits a confirmation
unfoldable pub awaits_any : List RequestAnswer → Bool
awaits_any answers = list_any (λ answer. answer.confirm_owed) answers

-- an answer once the place is confirmed
abbrev pub confirmed_if : Place → RequestAnswer → RequestAnswer
confirmed_if place answer =
    if is_place answer.place place then record answer { confirm_owed = false } else answer

-- the answers once the place is confirmed: none from it awaits a confirmation any more
-- rule: confirmation.owed
unfoldable pub confirmed : List RequestAnswer → Place → List RequestAnswer
confirmed answers place = map (confirmed_if place) answers
