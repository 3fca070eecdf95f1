-- What was offered for records, one after another.
-- For `tell_records`, `tell_record` and `tell_text`.
-- By: what is offered for two things one after another is both, and silence adds nothing.
use Rattle.std.proofs.Common.{◌≡◌, ◌+◌, ℕ, true, false, Bool, List, [], ◌∷◌}
use Rattle.std.proofs.Common.{◌++◌, length, Option, Some, None, refl, sym}
use Rattle.std.proofs.Common.{◌∙◌, ap, arith, append-nil, length-append, subst}
use Rattle.trdp_base.specs.declared.place.Place.{Place}
use Rattle.trdp_model.specs.declared.record.Protocol.{Protocol}
use Rattle.trdp_model.specs.Records.{RecordModel, Content, Answers, Indicates}
use Rattle.trdp_model.specs.Records.{Sends, AnswerModel, IndicationModel}
use Rattle.trdp_text.specs.RecordText.{text_of_record}
use Rattle.trdp_wire.specs.declared.port.Port.TheVariants.{Control}
use Rattle.trdp_daemon.specs.declared.contact.Contact.{Contact}
use Rattle.trdp_daemon.specs.declared.link.Link.{Link}
use Rattle.trdp_wire.specs.Told.{Taking, Give}
use Rattle.trdp_daemon.specs.Effects.{Telling, silence, both, missing, offering}
use Rattle.trdp_daemon.specs.Effects.{text_telling, content_telling, port_of}
use Rattle.trdp_daemon.specs.Effects.{contact_place, record_telling, records_telling}
use Rattle.trdp_daemon.specs.Links.{Carries}
use Rattle.trdp_daemon.specs.Tellings.{Tells, TellsRecord, TellsText}
use Rattle.trdp_daemon.proofs.LinkLemmas.{carries_none, carries_both}
use Rattle.std.proofs.Common.{append_assoc}

pub both_silence : (x : Telling) → both x silence ≡ x
both_silence x =
    let missed : x.missed + 0 ≡ x.missed = omega arith in
    ap (λ l. let t : Telling = record { offers = l; missed = x.missed + 0 } in
    t) (append-nil x.offers)
    ∙ ap (λ n. let t : Telling = record { offers = x.offers; missed = n } in t) missed

pub silence_both : (x : Telling) → both silence x ≡ x
silence_both x =
    let missed : 0 + x.missed ≡ x.missed = omega arith in
    ap (λ n. let t : Telling = record { offers = x.offers; missed = n } in t) missed

pub both_assoc : (x y z : Telling) → both (both x y) z ≡ both x (both y z)
both_assoc x y z =
    let missed : (x.missed + y.missed) + z.missed
    ≡ x.missed + (y.missed + z.missed) = omega arith in
    ap (λ l. let t : Telling = record { offers = l; missed = (x.missed + y.missed) + z.missed } in
    t) (append_assoc x.offers y.offers z.offers)
    ∙ ap (λ n. let t : Telling =
    record { offers = x.offers ++ (y.offers ++ z.offers); missed = n } in t) missed

telling_append : (contacts : List (Option Contact)) (ms ns : List Bool) (rs ss : List RecordModel)
    → length ms ≡ length rs → records_telling contacts (ms ++ ns) (rs ++ ss)
    ≡ both (records_telling contacts ms rs) (records_telling contacts ns ss)
telling_append contacts [] ns [] ss len = sym (silence_both (records_telling contacts ns ss))
telling_append contacts [] ns (r ∷ rs) ss len = absurd (omega (arith, len))
telling_append contacts (m ∷ ms) ns [] ss len = absurd (omega (arith, len))
telling_append contacts (m ∷ ms) ns (r ∷ rs) ss len =
    let same : length ms ≡ length rs = omega (arith, len) in
    ap (λ t. both (record_telling contacts m r) t) (telling_append contacts ms ns rs ss same)
    ∙ sym (both_assoc (record_telling contacts m r)
    (records_telling contacts ms rs) (records_telling contacts ns ss))

pub tells_none : {W : Type 0} (takings_in : W → Option (List Taking))
    (gives_in : W → Option (List Give)) (contacts : List (Option Contact)) (l : Link W)
    → Tells takings_in gives_in contacts l l []
tells_none takings_in gives_in contacts l =
    record { marks = []; each = refl; carried = carries_none takings_in gives_in l }

pub tells_both : {W : Type 0} {takings_in : W → Option (List Taking)}
    {gives_in : W → Option (List Give)} {contacts : List (Option Contact)}
    {a b c : Link W} {rs ss : List RecordModel} → Tells takings_in gives_in contacts a b rs
    → Tells takings_in gives_in contacts b c ss → Tells takings_in gives_in contacts a c (rs ++ ss)
tells_both {W} {takings_in} {gives_in} {contacts} {a} {b} {c} {rs} {ss} p q = record {
  marks = p.marks ++ q.marks;
  each = length-append p.marks q.marks ∙ ap (λ n. n + length q.marks) p.each
      ∙ ap (λ n. length rs + n) q.each ∙ sym (length-append rs ss);
  carried = subst (λ (t : Telling). Carries takings_in gives_in a c [] t)
      (sym (telling_append contacts p.marks q.marks rs ss p.each)) (carries_both p.carried q.carried);
}

pub tells_one :
    {W : Type 0} {takings_in : W → Option (List Taking)} {gives_in : W → Option (List Give)}
    {contacts : List (Option Contact)} {a b : Link W} {r : RecordModel}
    → TellsRecord takings_in gives_in contacts a b r
    → Tells takings_in gives_in contacts a b (r ∷ [])
tells_one {W} {takings_in} {gives_in} {contacts} {a} {b} {r} p = record {
  marks = p.lost ∷ [];
  each = refl;
  carried = subst (λ (t : Telling). Carries takings_in gives_in a b [] t)
      (sym (both_silence (record_telling contacts p.lost r))) p.carried;
}

pub text_dropped : {W : Type 0} (takings_in : W → Option (List Taking))
    (gives_in : W → Option (List Give)) (l : Link W) (slot : ℕ) (to : Option Place) (text : List ℕ)
    → to ≡ None → TellsText takings_in gives_in l l slot to text
unfolding text_telling
text_dropped takings_in gives_in l slot None text none =
    record { lost = false; carried = carries_none takings_in gives_in l }
text_dropped takings_in gives_in l slot (Some place) text none = absurd (cc)

pub text_given :
    {W : Type 0} {takings_in : W → Option (List Taking)} {gives_in : W → Option (List Give)}
    {a b : Link W} (slot : ℕ) (place : Place) (to : Option Place) (text : List ℕ)
    → to ≡ Some place → Carries takings_in gives_in a b [] (offering (Control slot) place text)
    → TellsText takings_in gives_in a b slot to text
unfolding text_telling
text_given {W} {takings_in} {gives_in} {a} {b} slot place to text some carried =
    rw some (record { lost = false; carried = carried })

pub text_lost :
    {W : Type 0} {takings_in : W → Option (List Taking)} {gives_in : W → Option (List Give)}
    {a b : Link W} (slot : ℕ) (place : Place) (to : Option Place) (text : List ℕ) → to ≡ Some place
    → Carries takings_in gives_in a b [] missing → TellsText takings_in gives_in a b slot to text
unfolding text_telling
text_lost {W} {takings_in} {gives_in} {a} {b} slot place to text some carried =
    rw some (record { lost = true; carried = carried })

pub record_sent : {W : Type 0} {takings_in : W → Option (List Taking)}
    {gives_in : W → Option (List Give)} {a b : Link W} (contacts : List (Option Contact))
    (r : RecordModel) (protocol : Protocol) (to : Place) (telegram : List ℕ)
    → r.content ≡ Sends protocol to telegram
    → Carries takings_in gives_in a b [] (offering (port_of protocol) to telegram)
    → TellsRecord takings_in gives_in contacts a b r
unfolding content_telling
record_sent {W} {takings_in} {gives_in} {a} {b} contacts r protocol to telegram is carried =
    record {
      lost = false;
      carried = subst (λ (x : Content).
          Carries takings_in gives_in a b [] (content_telling contacts false r x)) (sym is) carried;
    }

pub record_answered : {W : Type 0} {takings_in : W → Option (List Taking)}
    {gives_in : W → Option (List Give)} {a b : Link W} (contacts : List (Option Contact))
    (r : RecordModel) (answer : AnswerModel) → r.content ≡ Answers answer
    → TellsText takings_in gives_in a b r.slot (contact_place contacts r.slot) (text_of_record r)
    → TellsRecord takings_in gives_in contacts a b r
unfolding content_telling
record_answered {W} {takings_in} {gives_in} {a} {b} contacts r answer is told =
    record {
      lost = told.lost;
      carried = subst (λ (x : Content). Carries
          takings_in gives_in a b [] (content_telling contacts told.lost r x)) (sym is) told.carried;
    }

pub record_indicated : {W : Type 0} {takings_in : W → Option (List Taking)}
    {gives_in : W → Option (List Give)} {a b : Link W} (contacts : List (Option Contact))
    (r : RecordModel) (indication : IndicationModel) → r.content ≡ Indicates indication
    → TellsText takings_in gives_in a b r.slot (contact_place contacts r.slot) (text_of_record r)
    → TellsRecord takings_in gives_in contacts a b r
unfolding content_telling
record_indicated {W} {takings_in} {gives_in} {a} {b} contacts r indication is told =
    record {
      lost = told.lost;
      carried = subst (λ (x : Content). Carries
          takings_in gives_in a b [] (content_telling contacts told.lost r x)) (sym is) told.carried;
    }

-- one more record is offered
pub tells_more : {W : Type 0} {takings_in : W → Option (List Taking)}
    {gives_in : W → Option (List Give)} {contacts : List (Option Contact)}
    {a b c : Link W} {rs : List RecordModel} {r : RecordModel}
    → Tells takings_in gives_in contacts a b rs → TellsRecord takings_in gives_in contacts b c r
    → Tells takings_in gives_in contacts a c (rs ++ r ∷ [])
tells_more p q = tells_both p (tells_one q)
