-- What the laws say of callers and repliers.
use Rattle.std.specs.Prelude.{◌≡◌, ◌⊎◌, ℤ, ◌<◌, ◌≤◌, ◌∷◌, [], ◌++◌, List, length, true, false}
use Rattle.std.specs.Prelude.{◌&&◌, not}
use Rattle.std.specs.List.{All, Any}
use Rattle.trdp_base.specs.declared.place.Place.{Place}
use Rattle.trdp_head.specs.declared.md.MdKind.{MdKind}
use Rattle.trdp_head.specs.declared.md.MdKind.TheVariants.{Reply, Query, Confirm, Error}
use Rattle.trdp_filter.specs.Counts.{topo_valid}
use Rattle.trdp_filter.specs.Telegrams.{TelegramModel, PdIs, MdIs}
use Rattle.trdp_pd.specs.declared.object.Taken.{Taken}
use Rattle.trdp_pd.specs.declared.object.Taken.TheVariants.{Replied, RepliedLast}
use Rattle.trdp_md.specs.declared.answers.RequestAnswer.{RequestAnswer}
use Rattle.trdp_md.specs.declared.caller.Caller.{Caller}
use Rattle.trdp_md.specs.declared.replier.Replier.{Replier}
use Rattle.trdp_md.specs.declared.replier.Stage.TheVariants.{AwaitConfirm}
use Rattle.trdp_md.specs.Answers.{is_place, awaits_any}
use Rattle.trdp_md.specs.Callers.{is_accepted_answer, answer_of}

-- an answer was accepted
abbrev pub IsAnswerTaken : Taken → Type 0
IsAnswerTaken taken = (taken ≡ Replied) ⊎ (taken ≡ RepliedLast)

-- the telegram is a message that the caller accepts
abbrev pub IsAccepted : Caller → TelegramModel → Type 0
IsAccepted c (PdIs src dst telegram) = ⊥
IsAccepted c (MdIs src dst telegram) = is_accepted_answer c src telegram.head ≡ true

-- the caller has one more answer, which is the telegram
abbrev pub HasAdded : Caller → TelegramModel → Caller → Type 0
HasAdded c (PdIs src dst telegram) after = ⊥
HasAdded c (MdIs src dst telegram) after =
    after.answers ≡ c.answers ++ answer_of src telegram.head ∷ []

-- only queries await a confirmation
abbrev pub AwaitsQueriesOnly : List RequestAnswer → Type 0
AwaitsQueriesOnly answers = All (λ answer. answer.confirm_owed ≡ true → answer.kind ≡ Query) answers

-- one of the answers came from the place and awaits a confirmation
abbrev pub HasAwaiting : List RequestAnswer → Place → Type 0
HasAwaiting answers place =
    Any (λ answer. (answer.place ≡ place) × (answer.confirm_owed ≡ true)) answers

-- none of the answers is from the place
abbrev pub IsApart : Place → List RequestAnswer → Type 0
IsApart place [] = Unit {0}
IsApart place (answer ∷ answers) =
    (is_place answer.place place ≡ false) × IsApart place answers

-- no two of the answers are from one place
abbrev pub AreApart : List RequestAnswer → Type 0
AreApart [] = Unit {0}
AreApart (answer ∷ answers) = IsApart answer.place answers × AreApart answers

-- the message types that answer a request
abbrev pub IsAnswerKind : MdKind → Type 0
IsAnswerKind kind = (kind ≡ Reply) ⊎ ((kind ≡ Query) ⊎ (kind ≡ Error))

-- one by one the same answers, but that those of the place await no confirmation any more
abbrev pub SettlesAt : Place → List RequestAnswer → List RequestAnswer → Type 0
SettlesAt place [] [] = Unit {0}
SettlesAt place (answer ∷ before) (then_answer ∷ after) =
    (then_answer.place ≡ answer.place) × (then_answer.kind ≡ answer.kind)
    × (then_answer.confirm_owed ≡ (answer.confirm_owed && not (is_place answer.place place)))
    × SettlesAt place before after
SettlesAt place before after = ⊥

-- nothing is expected any more: there is an answer, there are no fewer than expected, and none
-- awaits a confirmation
pub record IsDone (c : Caller) : Type 0 where
  pub some : 0 < length c.answers
  pub enough : c.terms.expected ≤ length c.answers
  pub none_owed : awaits_any c.answers ≡ false

-- the replier belongs to the same request
pub record IsOfSameRequest (r after : Replier) : Type 0 where
  pub peer : after.peer ≡ r.peer
  pub session : after.session ≡ r.session
  pub topo : after.topo ≡ r.topo
  pub source_uri : after.source_uri ≡ r.source_uri
  pub dest_uri : after.dest_uri ≡ r.dest_uri

-- the replier awaits a confirmation, and the telegram is one of its session with this status, from
-- the peer's address, with topology counters that match the request's
abbrev pub IsItsConfirmation : Replier → TelegramModel → ℤ → Type 0
IsItsConfirmation r (PdIs src dst telegram) status = ⊥
IsItsConfirmation r (MdIs src dst telegram) status =
    (r.stage ≡ AwaitConfirm) × (telegram.head.kind ≡ Confirm)
    × (telegram.head.session.0 ≡ r.session.0) × (src.ip.0 ≡ r.peer.ip.0)
    × (topo_valid telegram.head.topo r.topo ≡ true) × (telegram.head.status ≡ status)
