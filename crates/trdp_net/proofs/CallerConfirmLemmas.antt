-- A caller at a Confirm of its application.
-- For `no_invented_confirm` and `no_early_done`, through `ObjectLemmas`.
-- A refusal changes nothing; else what awaits is a query, and what is sent is this move's.
use Rattle.std.proofs.Common.{◌≡◌, ℕ, ℤ, List, [], ◌∷◌, Option}
use Rattle.std.proofs.Common.{Some, None, Bool, true, false, refl, sym, subst, arith, inl}
use Rattle.std.proofs.Common.{inr}
use Rattle.std.specs.Prelude.{not, if◌then◌else◌, FitsSigned, int_lt, pos}
use Rattle.std.specs.Int.{w32}
use Rattle.trdp_base.specs.declared.place.Place.{Place}
use Rattle.trdp_head.specs.MdBytes.{md_bytes}
use Rattle.trdp_pd.specs.declared.object.Reason.{Reason}
use Rattle.trdp_md.specs.declared.caller.Caller.{Caller as AnyCaller}
use Rattle.trdp_md.specs.Answers.{has_answered, awaits, confirmed}
use Rattle.trdp_md.specs.Callers.{confirming, closed_of}
use Rattle.trdp_md.specs.Callers.{confirm_of}
use Rattle.trdp_md.proofs.ConfirmLemmas.{closed-done, terms-confirming}
use Rattle.trdp_model.specs.declared.any_object.AnyObject.TheVariants.{Caller}
use Rattle.trdp_model.specs.declared.record.Protocol.TheVariants.{Md}
use Rattle.trdp_model.specs.declared.fault.Refusal.{Refusal}
use Rattle.trdp_model.specs.declared.fault.Refusal.TheVariants.{State, Status}
use Rattle.trdp_model.specs.Records.{Content, DoneIs, Answers}
use Rattle.trdp_model.specs.Records.{Sends}
use Rattle.trdp_model.specs.Replies.{closing, concluded, confirms_unless}
use Rattle.trdp_model.specs.Replies.{confirm_refusal}
use Rattle.trdp_model.specs.Events.{EventModel, ConfirmCall, CallIs}
use Rattle.trdp_net.specs.Networks.{Move, place_of}
use Rattle.trdp_net.specs.Provenance.{In, Spot, Gives, Held}
use Rattle.trdp_net.specs.Provenance.{IsConfirmed, IsConfirmedAs}
use Rattle.trdp_net.proofs.PartLemmas.{each_append, in_left}
use Rattle.trdp_net.proofs.Kept.{CallerKept}
use Rattle.trdp_net.proofs.Kept.{object_later, ActKept}
use Rattle.trdp_net.proofs.HeadLemmas.{confirm_head}
use Rattle.trdp_net.proofs.SendingLemmas.{sends_md}
use Rattle.trdp_net.proofs.CallerLemmas.{asked_there, answers_confirmed, answered_before, done_by}
use Rattle.trdp_net.proofs.Explained.{MessageBy, IsFrom, ClosedBy, ToldBy}
use Rattle.trdp_net.specs.Provenance.{Each}
use Rattle.trdp_net.proofs.TypedMoveLemmas.{IsCaller}
use Rattle.trdp_md.proofs.AnswerLemmas.{all_apart_map}

-- a confirmation that is sent
concluded_in : (reason : Option Reason) (handle : ℕ) (c : AnyCaller) (content : Content)
    (records : List Content) → In content records
    → In content (concluded reason handle c records).records
concluded_in None handle c content records is = is
concluded_in (Some reason) handle c content records is =
    in_left content records (closing handle reason ∷ []) is

-- a confirmation makes this of the caller
confirming_is : (c : AnyCaller) (place : Place) → awaits c.answers place ≡ true
    → confirming c place ≡ record c { answers = confirmed c.answers place }
unfolding confirming
confirming_is c place is = rw is refl

caller_confirmed : (past : List Move) (m : Move) (at : Spot) (place : Place) (c : AnyCaller)
    → awaits c.answers place ≡ true
    → IsConfirmedAs at c.terms.session (place_of Md m.before.setup) place m past
    → CallerKept past m.before.setup at c
    → CallerKept (m ∷ past) m.before.setup at (confirming c place)
unfolding confirmed
caller_confirmed past m at place c is made kept =
    subst (λ (x : AnyCaller). CallerKept (m ∷ past) m.before.setup at x)
    (sym (confirming_is c place is))
    (record {
      requested = inr kept.requested;
      limit = kept.limit;
      answers =
          answers_confirmed past m at c.terms.session (place_of Md m.before.setup) place c.answers
          made kept.answers;
      apart = all_apart_map place c.answers kept.apart;
    })

-- a caller that confirms has the answers of the same places
confirming_keeps : (c : AnyCaller) (place p : Place) → awaits c.answers place ≡ true
    → has_answered (confirming c place).answers p ≡ false → has_answered c.answers p ≡ false
unfolding confirmed
confirming_keeps c place p is none =
    answered_before place p c.answers
    (subst (λ (x : AnyCaller). has_answered x.answers p ≡ false) (confirming_is c place is) none)

-- it goes on, or closes where all has come
concluded_kept : (past : List Move) (m : Move) (at : Spot) (c after : AnyCaller)
    (records : List Content) (reason : Option Reason) → closed_of after ≡ reason
    → Held at (Caller c) m → after.terms ≡ c.terms
    → ((place : Place) → has_answered after.answers place ≡ false
    → has_answered c.answers place ≡ false)
    → ((place : Place) → IsFrom place m.event → ⊥)
    → CallerKept (m ∷ past) m.before.setup at after
    → Each (ToldBy past m at.node at.slot) records
    → ActKept past m at (concluded reason at.handle after records)
concluded_kept past m at c after records None closed held terms keeps no_source kept tells =
    record { stays = kept; tells = tells }
concluded_kept past m at c after records (Some reason) closed held terms keeps no_source kept
    tells = record {
      stays = tt;
      tells =
          each_append (ToldBy past m at.node at.slot) records (closing at.handle reason ∷ [])
          tells (
            subst (λ (r : Reason). ClosedBy past m at r) (sym (closed-done after reason closed).0)
                (done_by past m at c after held terms (closed-done after reason closed).1 keeps
                (λ place from. absurd (no_source place from)) kept),
            tt,
          );
    }

refusal_awaits : (c : AnyCaller) (place : Place) (status : ℤ)
    → confirm_refusal c place status ≡ None → awaits c.answers place ≡ true
refusal_awaits c place status none = either (awaits c.answers place) refl none
  where
    either : (b : Bool) → awaits c.answers place ≡ b
        → (if not b then Some State else
        if int_lt status (pos 0) then Some Status else None) ≡ None
        → awaits c.answers place ≡ true
    either true is none = is
    either false is none = absurd (cc none)

confirm_origin : (past : List Move) (m : Move) (at : Spot) (home place : Place) (status : ℤ)
    (c : AnyCaller) → IsConfirmed at c.terms.session home place status m past
    → MessageBy (confirm_of c.terms status).kind (m ∷ past) home place
    (record { head = confirm_of c.terms status; payload = [] })
unfolding confirm_of
confirm_origin past m at home place status c made = inl (at, made)

-- a caller at a Confirm
pub confirms_kept : (past : List Move) (m : Move) (at : Spot) (refusal : Option Refusal)
    (place : Place) (status : ℤ) (c : AnyCaller)
    → confirm_refusal c place status ≡ refusal
    → m.event ≡ CallIs at.slot (ConfirmCall at.handle place status)
    → IsCaller c → FitsSigned w32 status
    → CallerKept past m.before.setup at c → Held at (Caller c) m
    → ((content : Content)
    → In content (confirms_unless refusal at.handle place status c).records
    → Gives at.node at.slot content m)
    → ActKept past m at (confirms_unless refusal at.handle place status c)
confirms_kept past m at (Some refusal) place status c is event fits status_fits kept held given =
    record { stays = object_later past m m.before.setup at (Caller c) kept; tells = (tt, tt) }
confirms_kept past m at None place status c is event fits status_fits kept held given =
    let owed : awaits c.answers place ≡ true = refusal_awaits c place status is in
    let home : Place = place_of Md m.before.setup in
    let made : IsConfirmed at c.terms.session home place status m past = record {
      c = c;
      makes = record {
        event_is = event;
        gives =
            given (Answers DoneIs)
            (concluded_in (closed_of (confirming c place)) at.handle (confirming c place)
            (Answers DoneIs)
            (Answers DoneIs ∷ Sends Md place (md_bytes (confirm_of c.terms status) []) ∷ [])
            (inl refl));
      };
      held = held;
      session_is = refl;
      home_is = refl;
      queried = asked_there past at c.terms.session home place c.answers kept.answers owed;
    } in
    concluded_kept past m at c (confirming c place)
    (Answers DoneIs ∷ Sends Md place (md_bytes (confirm_of c.terms status) []) ∷ [])
    (closed_of (confirming c place)) refl held (terms-confirming c place)
    (λ p none. confirming_keeps c place p owed none)
    (λ p from. subst (λ (v : EventModel). IsFrom p v) event from)
    (caller_confirmed past m at place c owed (status, made) kept) (
      tt,
      (
        sends_md (m ∷ past) home place (confirm_of c.terms status) []
            (confirm_head c.terms status fits.terms status_fits) (omega arith)
            (confirm_origin past m at home place status c made),
        tt,
      ),
    )
