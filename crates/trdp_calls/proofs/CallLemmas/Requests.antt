-- A request that a slot sends.
-- For `request`.
-- By: where the request isn't refused there is room for its caller, whose handle is the answer.
use Rattle.std.proofs.Common.{◌≡◌, ℕ, List, [], ◌∷◌, ◌++◌, length}
use Rattle.std.proofs.Common.{Option, Some, None, Bool, true, false}
use Rattle.std.proofs.Common.{refl, ◌∙◌, sym, ap, append_assoc}
use Rattle.std.specs.Prelude.{slice_set, not, nat_lt, if◌then◌else◌}
use Rattle.std.specs.Option.{option_or}
use Rattle.trdp_head.specs.declared.md.MdHead.{MdHead}
use Rattle.trdp_head.specs.MdBytes.{md_bytes}
use Rattle.trdp_filter.specs.declared.globals.Globals.{Globals}
use Rattle.trdp_filter.specs.Counts.{topo_valid}
use Rattle.trdp_md.specs.declared.terms.CallerTerms.{CallerTerms}
use Rattle.trdp_md.specs.declared.caller.Caller.{Caller as AnyCaller}
use Rattle.trdp_md.specs.Callers.{new_caller, request_of}
use Rattle.trdp_model.specs.declared.any_object.AnyObject.{AnyObject}
use Rattle.trdp_model.specs.declared.any_object.AnyObject.TheVariants.{Caller}
use Rattle.trdp_model.specs.declared.kind.Kind.TheVariants as kind
use Rattle.trdp_table.specs.Tables.{TableState}
use Rattle.trdp_model.specs.declared.fault.Refusal.{Refusal}
use Rattle.trdp_model.specs.declared.fault.Refusal.TheVariants.{State, Timeout, Expected}
use Rattle.trdp_model.specs.declared.fault.Refusal.TheVariants.{TooLong, SessionOpen}
use Rattle.trdp_model.specs.declared.record.Protocol.TheVariants.{Md}
use Rattle.trdp_model.specs.Records.{RecordModel, AnswerModel, HandleIs, Answers, Sends, labelled}
use Rattle.trdp_model.specs.Slots.{SlotState, Outcome, with_new_object}
use Rattle.trdp_store.specs.TableSlots.{slots_of}
use Rattle.trdp_model.specs.Openings.{answered, opening_refusal, opened_unless, opened_with}
use Rattle.trdp_model.specs.Requests.{has_session, request_refusal, request_sent}
use Rattle.trdp_model.specs.Requests.{retries_refusal}
use Rattle.trdp_outbox.specs.Outboxes.{OutboxState}
use Rattle.trdp_store.specs.Acting.{slot_at, Becomes}

-- A new object and its answer.

-- where nothing refuses the object, its answer is the handle
pub opened_none : (slot slot_then : SlotState)
    (object : AnyObject) (answer : AnswerModel) (refusal : Option Refusal)
    → refusal ≡ None → opened_unless refusal slot object ≡ answered slot_then answer
    → (slot_then ≡ with_new_object slot object) × (answer ≡ HandleIs slot.next)
opened_none slot slot_then object answer refusal none is =
    let opened : opened_unless None slot object ≡ answered slot_then answer = rw none at is in
    let told = ap (λ (o : Outcome). o.records) opened in
    (sym (ap (λ (o : Outcome). o.slot) opened), cc)

-- A request that is sent.

later : (b : Bool) (refusal : Refusal) (rest : Option Refusal)
    → (if b then Some refusal else rest) ≡ None → rest ≡ None
later true refusal rest is = absurd (cc)
later false refusal rest is = is

-- where neither of two refuses, the first doesn't
first_none : (first second : Option Refusal) → option_or first second ≡ None → first ≡ None
first_none (Some refusal) second is = absurd (cc)
first_none None second is = refl

-- for a request that isn't refused there is room for its caller
pub request_opens : (slot : SlotState) (globals : Globals) (terms : CallerTerms) (payload : List ℕ)
    → request_refusal slot globals terms payload ≡ None → opening_refusal slot kind.Caller ≡ None
request_opens slot globals terms payload is =
    first_none (opening_refusal slot kind.Caller) (retries_refusal terms)
    (later (has_session kind.Caller terms.session slot.objects) SessionOpen _
    (later (nat_lt 65388 (length payload)) TooLong _
    (later (nat_lt 8 terms.expected) Expected _
    (later (nat_lt terms.timeout 1000) Timeout _
    (later (not (topo_valid terms.topo globals.topo)) State _ is)))))

pub sends_request : (table table_then : TableState)
    (s : ℕ) (globals : Globals) (terms : CallerTerms) (payload : List ℕ) (caller : AnyCaller)
    (answer : AnswerModel) (head : MdHead) (out out_between out_then : OutboxState)
    → request_refusal (slot_at s table) globals terms payload ≡ None
    → caller ≡ new_caller terms payload globals.now → head ≡ request_of terms 0
    → opened_unless (opening_refusal (slot_at s table) kind.Caller)
    (slot_at s table) (Caller caller) ≡ answered (slot_at s table_then) answer
    → slots_of table_then ≡ slice_set (slots_of table) s (slot_at s table_then)
    → out_between.records ≡ out.records ++ labelled s (Answers answer ∷ []) → out_then.records
    ≡ out_between.records ++ labelled s (Sends Md terms.to (md_bytes head payload) ∷ [])
    → Becomes s (opened_with (request_refusal (slot_at s table) globals terms payload)
    (slot_at s table) (Caller (new_caller terms payload globals.now))
    (request_sent terms payload ∷ []))
    table table_then out out_then
sends_request table table_then s globals terms
    payload caller answer head out out_between out_then none made same is others told sent =
    let opened = opened_none (slot_at s table) (slot_at s table_then)
    (Caller caller) answer (opening_refusal (slot_at s table) kind.Caller)
    (request_opens (slot_at s table) globals terms payload none) is in
    rw none
    (record {
      slots = others ∙ ap (slice_set (slots_of table) s)
          (opened.0 ∙ ap (λ (c : AnyCaller). with_new_object (slot_at s table) (Caller c)) made);
      records =
          sent
          ∙ (ap (λ (rs : List RecordModel). rs
          ++ labelled s (Sends Md terms.to (md_bytes head payload) ∷ [])) told
          ∙ (append_assoc out.records (labelled s (Answers answer ∷ []))
          (labelled s (Sends Md terms.to (md_bytes head payload) ∷ []))
          ∙ (ap (λ (a : AnswerModel). out.records
          ++ labelled s (Answers a ∷ Sends Md terms.to (md_bytes head payload) ∷ [])) opened.1
          ∙ ap (λ (h : MdHead). out.records ++ labelled s (Answers (HandleIs (slot_at s table).next)
          ∷ Sends Md terms.to (md_bytes h payload) ∷ [])) same)));
    })
