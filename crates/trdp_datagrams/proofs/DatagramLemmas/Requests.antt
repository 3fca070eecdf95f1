-- What a slot does with a request that its listener hears.
-- For `ask`.
-- By cases: the session is open already, a replier is opened for it, or there is no room for one.
use Rattle.std.proofs.Common.{◌≡◌, ℕ, ◌<◌, [], ◌∷◌, ◌++◌, length}
use Rattle.std.proofs.Common.{Option, Some, None, true, false}
use Rattle.std.proofs.Common.{◌∙◌, sym, ap}
use Rattle.std.proofs.lemmas.List.{append-nil}
use Rattle.trdp_base.specs.declared.place.Place.{Place}
use Rattle.trdp_head.specs.MdTelegrams.{MdTelegram}
use Rattle.trdp_filter.specs.declared.globals.Globals.{Globals}
use Rattle.trdp_head.specs.PdTelegrams.{PdTelegram}
use Rattle.trdp_filter.specs.Telegrams.{TelegramModel, PdIs, MdIs}
use Rattle.trdp_md.specs.declared.replier.Replier.{Replier as AnyReplier}
use Rattle.trdp_md.specs.Repliers.{asked_by}
use Rattle.trdp_model.specs.declared.any_object.AnyObject.TheVariants.{Replier}
use Rattle.trdp_model.specs.declared.kind.Kind.TheVariants as kind
use Rattle.trdp_table.specs.Tables.{TableState, slot_in, Adds}
use Rattle.trdp_model.specs.declared.fault.Refusal.{Refusal}
use Rattle.trdp_model.specs.Records.{labelled}
use Rattle.trdp_model.specs.Records.{Indicates, AskedIs, OverrunIs}
use Rattle.trdp_model.specs.Notices.{message_of}
use Rattle.trdp_model.specs.Slots.{SlotState, unchanged}
use Rattle.trdp_store.specs.TableSlots.{slots_of}
use Rattle.trdp_model.specs.Openings.{opening_refusal}
use Rattle.trdp_model.specs.Requests.{has_session, asked}
use Rattle.trdp_model.specs.Requests.{asked_by_hearing}
use Rattle.trdp_model.specs.Datagrams.{hearing}
use Rattle.trdp_model.specs.Datagrams.{requested}
use Rattle.trdp_outbox.specs.Outboxes.{OutboxState}
use Rattle.trdp_store.specs.Acting.{slot_at, Becomes}
use Rattle.trdp_store.proofs.StoreLemmas.Slots.{slots_kept, added}

-- where a listener of the slot hears it the slot is asked
pub hearing_asked : (slot : SlotState) (globals : Globals) (telegram : TelegramModel)
    (src dst : Place) (message : MdTelegram) (listener : ℕ) → telegram ≡ MdIs src dst message
    → hearing telegram globals slot.objects ≡ Some listener
    → requested slot globals telegram ≡ asked slot listener globals src message
hearing_asked slot globals telegram src dst message listener is heard =
    ap (requested slot globals) is
    ∙ ap (λ (l : Option ℕ). asked_by_hearing l slot globals src message)
    (ap (λ (t : TelegramModel). hearing t globals slot.objects) (sym is) ∙ heard)

-- nothing happens to a slot
stays : (table : TableState) (s : ℕ) (out : OutboxState)
    → s < length table → Becomes s (unchanged (slot_at s table)) table table out out
stays table s out lt =
    record { slots = sym (slots_kept table s lt); records = sym (append-nil out.records) }

-- no request is process data
pub unasked : (table : TableState) (s : ℕ) (src dst : Place)
    (telegram : PdTelegram) (globals : Globals) (out : OutboxState) → s < length table
    → Becomes s (requested (slot_at s table) globals (PdIs src dst telegram)) table table out out
unasked table s src dst telegram globals out lt = stays table s out lt

-- it is asked again
pub asked_again : (table : TableState) (s listener : ℕ)
    (globals : Globals) (src : Place) (telegram : MdTelegram) (out : OutboxState) → s < length table
    → has_session kind.Replier telegram.head.session (slot_at s table).objects ≡ true
    → Becomes s (asked (slot_at s table) listener globals src telegram) table table out out
asked_again table s listener globals src telegram out lt is = rw is (stays table s out lt)

-- the slot takes a replier for it
pub asked_opens : (table table_then : TableState) (s listener handle : ℕ) (globals : Globals)
    (src : Place) (telegram : MdTelegram) (replier : AnyReplier) (out out_then : OutboxState)
    → has_session kind.Replier telegram.head.session (slot_at s table).objects ≡ false
    → opening_refusal (slot_at s table) kind.Replier ≡ None
    → replier ≡ asked_by src telegram.head globals.now → handle ≡ (slot_in s table).next
    → Adds s (Replier replier) table table_then → out_then.records ≡ out.records ++ labelled s
    (Indicates (AskedIs listener handle telegram.head.session (message_of src telegram)) ∷ [])
    → Becomes s (asked (slot_at s table) listener globals src telegram) table table_then
    out out_then
asked_opens table table_then s listener handle globals src telegram replier out out_then new takes
    made numbered adds told =
    rw (new, takes, ← made)
    (record {
      slots = added table table_then s (Replier replier) adds;
      records = rw numbered at told;
    })

-- it takes none
pub asked_overruns : (table table_then : TableState) (s listener : ℕ) (globals : Globals)
    (src : Place) (telegram : MdTelegram) (refusal : Refusal) (out out_then : OutboxState)
    → s < length table
    → has_session kind.Replier telegram.head.session (slot_at s table).objects ≡ false
    → opening_refusal (slot_at s table) kind.Replier ≡ Some refusal → table_then ≡ table
    → out_then.records ≡ out.records ++ labelled s (Indicates (OverrunIs listener) ∷ [])
    → Becomes s (asked (slot_at s table) listener globals src telegram) table table_then
    out out_then
asked_overruns table table_then s listener globals src telegram refusal out out_then lt new
    refuses kept told =
    rw (new, refuses)
    (record { slots = ap slots_of kept ∙ sym (slots_kept table s lt); records = told })
