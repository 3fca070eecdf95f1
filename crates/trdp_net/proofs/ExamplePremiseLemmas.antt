-- The premises of the promises hold in the example.
-- For `the_promises_are_not_empty`, its clause `premises`.
-- Row by row for the types; a run with one request at most has no two of one identifier.
use Rattle.std.proofs.Common.{◌≡◌, ℕ, zero, suc, List, [], ◌∷◌, ◌++◌, Option, None, Some, Bool}
use Rattle.std.proofs.Common.{true, false, ◌&&◌, refl, ap, sym, ◌∙◌, subst, inl, inr, arith, lit<}
use Rattle.std.proofs.Common.{lit≤}
use Rattle.std.specs.Prelude.{◌==◌, ◌≢◌, not, All, ◌||◌}
use Rattle.std.specs.List.{list_any}
use Rattle.trdp_base.specs.Uris.{IsUri}
use Rattle.trdp_base.specs.declared.session.SessionId.{SessionId}
use Rattle.trdp_dataset.specs.Configs.{ConfigModel}
use Rattle.trdp_model.specs.Events.{EventModel, RequestCall, CallIs}
use Rattle.trdp_net.specs.Networks.{Move}
use Rattle.trdp_net.specs.Provenance.{Ever, Always}
use Rattle.trdp_net.specs.Typed.{IsTopo, IsPublisherTerms, IsNotifyTerms, IsCallerTerms}
use Rattle.trdp_net.specs.Typed.{IsTypedStep, AreTypedSteps}
use Rattle.trdp_net.specs.Promises.{AreSingle, Requests, IsFresh}
use Rattle.trdp_net.specs.Ties.{HaveOwnPlaces}
use Rattle.trdp_net.specs.ExampleTerms.{example_configs, any_topo, publisher_terms}
use Rattle.trdp_net.specs.ExampleTerms.{door, brake, notify_terms, caller_terms}
use Rattle.trdp_net.specs.Example.{value_rows, notice_rows, request_rows, query_rows}
use Rattle.trdp_net.specs.Example.{confirm_rows, example_steps, steps_of}
use Rattle.trdp_net.proofs.PartLemmas.{each_append}

-- no node's address is a group address
pub single : AreSingle example_configs
single = (refl, (refl, tt))

-- the address of a node that is there
address_in : Option ConfigModel → ℕ
address_in None = 0
address_in (Some config) = config.address

other_address : ◌≡◌ {A = ℕ} 0x0a000001 0x0a000002 → ⊥
other_address same = omega arith

-- the nodes have other places
pub own_places : HaveOwnPlaces example_configs
unfolding address_in
own_places zero zero a b a_is b_is same = refl
own_places zero (suc zero) a b a_is b_is same =
    absurd (other_address
    (ap address_in a_is ∙ (ap (λ place. place.ip.0) same ∙ sym (ap address_in b_is))))
own_places zero (suc (suc k)) a b a_is b_is same = absurd (cc b_is)
own_places (suc zero) zero a b a_is b_is same =
    absurd (other_address
    (ap address_in b_is ∙ (ap (λ place. place.ip.0) (sym same) ∙ sym (ap address_in a_is))))
own_places (suc zero) (suc zero) a b a_is b_is same = refl
own_places (suc zero) (suc (suc k)) a b a_is b_is same = absurd (cc b_is)
own_places (suc (suc j)) k a b a_is b_is same = absurd (cc a_is)

-- bytes none of which is found to be 0
none_zero : (bytes : List ℕ) → list_any (λ byte. byte == 0) bytes ≡ false
    → All (λ byte. byte ≢ 0) bytes
none_zero [] none k d below = absurd (omega arith)
none_zero (byte ∷ bytes) none zero d below = λ is.
    cc (subst (λ b. (b == 0 || list_any (λ byte. byte == 0) bytes) ≡ false) is none)
none_zero (byte ∷ bytes) none (suc k) d below =
    none_zero bytes (either (byte == 0) none) k d (omega arith)
  where
    either : (b : Bool) → (b || list_any (λ byte. byte == 0) bytes) ≡ false
        → list_any (λ byte. byte == 0) bytes ≡ false
    either true is = absurd (cc is)
    either false is = is

door_is : IsUri door
door_is = record { within = lit≤ tt; sound = none_zero door refl }

brake_is : IsUri brake
brake_is = record { within = lit≤ tt; sound = none_zero brake refl }

topo_is : IsTopo any_topo
topo_is = record { etb = lit< tt; op_trn = lit< tt }

publisher_is : IsPublisherTerms publisher_terms
publisher_is = record { com_id = lit< tt; topo = topo_is }

notify_is : IsNotifyTerms notify_terms
notify_is = record {
  com_id = lit< tt;
  topo = topo_is;
  source_uri = door_is;
  dest_uri = brake_is;
}

caller_is : IsCallerTerms caller_terms
caller_is = record {
  com_id = lit< tt;
  topo = topo_is;
  session = lit< tt;
  timeout = lit< tt;
  source_uri = door_is;
  dest_uri = brake_is;
}

-- each number, URI and identifier in the calls is one that its field holds: from the query on,
-- from the request on, from the notification on, and all
typed_last : AreTypedSteps (steps_of (query_rows ++ confirm_rows))
typed_last =
    each_append IsTypedStep (steps_of query_rows) (steps_of confirm_rows)
    ((lit< tt, record { sfits = lit< tt }, lit< tt), (tt, (tt, tt)))
    (record { sfits = lit< tt }, (tt, tt))

typed_requests : AreTypedSteps (steps_of (request_rows ++ query_rows ++ confirm_rows))
typed_requests =
    each_append IsTypedStep (steps_of request_rows) (steps_of (query_rows ++ confirm_rows))
    (caller_is, (tt, (tt, tt))) typed_last

typed_notices :
    AreTypedSteps (steps_of (notice_rows ++ request_rows ++ query_rows ++ confirm_rows))
typed_notices =
    each_append IsTypedStep (steps_of notice_rows)
    (steps_of (request_rows ++ query_rows ++ confirm_rows)) (tt, (notify_is, (tt, tt)))
    typed_requests

pub typed_steps : AreTypedSteps example_steps
typed_steps =
    each_append IsTypedStep (steps_of value_rows)
    (steps_of (notice_rows ++ request_rows ++ query_rows ++ confirm_rows))
    (publisher_is, (tt, (tt, (tt, (tt, (tt, tt)))))) typed_notices

-- the event is a request
abbrev pub is_request : EventModel → Bool
is_request (CallIs slot (RequestCall terms payload)) = true
is_request event = false

-- one of the moves is a request
abbrev pub any_request : List Move → Bool
any_request moves = list_any (λ m. is_request m.event) moves

-- there is one request at most
abbrev pub once_requested : List Move → Bool
once_requested [] = true
once_requested (m ∷ past) = (not (is_request m.event && any_request past)) && once_requested past

requested : (session : SessionId) (m : Move) (past : List Move)
    → Requests session m past → is_request m.event ≡ true
requested session m past (at, (said, is)) = ap is_request is.makes.event_is

some_requested : (session : SessionId) (past : List Move)
    → Ever (Requests session) past → any_request past ≡ true
some_requested session [] ever = absurd ever
some_requested session (m ∷ past) (inl is) = rw (requested session m past is) refl
some_requested session (m ∷ past) (inr ever) =
    either (is_request m.event) (some_requested session past ever)
  where
    either : (b : Bool) → any_request past ≡ true → (b || any_request past) ≡ true
    either true is = refl
    either false is = is

-- then no two requests carry the same identifier
pub fresh : (past : List Move) → once_requested past ≡ true → Always IsFresh past
fresh [] once = tt
fresh (m ∷ past) once = (
  (λ session is ever. no_two (is_request m.event) (any_request past) (once_requested past)
      (requested session m past is) (some_requested session past ever) once),
  fresh past (rest (is_request m.event) (any_request past) (once_requested past) once),
)
  where
    no_two : (a b c : Bool) → a ≡ true → b ≡ true → (not (a && b) && c) ≡ true → ⊥
    no_two true true c is ever once = cc once
    no_two true false c is ever once = cc ever
    no_two false b c is ever once = cc is

    rest : (a b c : Bool) → (not (a && b) && c) ≡ true → c ≡ true
    rest true true c once = absurd (cc once)
    rest true false c once = once
    rest false b c once = once
