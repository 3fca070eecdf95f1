use Rattle.std.proofs.Common.{◌≡◌, Some, sym, ap, ◌∙◌, rules}
use Rattle.std.proofs.lemmas.Option.{none-some}
use Rattle.trdp_head.specs.declared.prefix.Prefix.{Prefix}
use Rattle.trdp_head.specs.declared.fault.HeadFault.TheVariants.{Kind, Length}
use Rattle.trdp_head.specs.PdKinds.{pd_kind_of}
use Rattle.trdp_head.specs.PdFaults.{pd_fault_of}
use Rattle.trdp_head.proofs.TelegramLemmas.{err_answers}
use Rattle.trdp_head.proofs.TelegramLemmas.{payload_past, payload_within, payload_is}
use Rattle.trdp_head.proofs.PdTelegramLemmas.{pd-no_fault, pd-telegram, pd_fault-prefix}
use Rattle.trdp_head.proofs.PdTelegramLemmas.{pd_fault-kind, pd_fault-payload}
use Rattle.trdp_head.proofs.PdTelegramLemmas.{pd_telegram_of-fault, telegram-is}
use Rattle.trdp_head.proofs.pd.reading.read_pd.Goals as goal
use Rattle.trdp_head.proofs.pd.reading.read_pd.Goals.{After-from_residual}
use Rattle.trdp_head.proofs.pd.reading.read_pd.Goals.{In_default, In_default-get}

bad_prefix : (c : After-from_residual)
    → pd_fault_of c.args.bytes.now ≡ Some c.in_err-prefix.field-0.0
bad_prefix c = pd_fault-prefix c.args.bytes.now _ c.in_err-prefix.ensures.fault

pub returns-in_err-prefix-clause-fault : goal.returns-in_err-prefix-clause-fault
returns-in_err-prefix-clause-fault c =
    err_answers c.from_residual.result _ _ c.from_residual.ensures.1 (bad_prefix c)

pub returns-in_err-prefix-clause-none_found : goal.returns-in_err-prefix-clause-none_found
returns-in_err-prefix-clause-none_found c =
    err_answers c.from_residual.result _ _ c.from_residual.ensures.1
    (pd_telegram_of-fault c.args.bytes.now _ (bad_prefix c))

pub returns-in_err-prefix-clause-exact : goal.returns-in_err-prefix-clause-exact
returns-in_err-prefix-clause-exact c = λ head payload telegram.
    absurd (none-some _ (sym (pd-no_fault telegram) ∙ bad_prefix c))

unknown : (c : In_default) → pd_fault_of c.args.bytes.now ≡ Some Kind
unknown c =
    pd_fault-kind c.args.bytes.now c.in_ok-prefix.ensures.none
    (ap (λ (p : Prefix). pd_kind_of p.code) (sym c.in_ok-prefix.ensures.value)
    ∙ sym c.kind_of_code.ensures ∙ c.in_default.is)

pub returns-in_default-clause-fault : goal.returns-in_default-clause-fault
returns-in_default-clause-fault c = unknown c

pub returns-in_default-clause-none_found : goal.returns-in_default-clause-none_found
returns-in_default-clause-none_found c = pd_telegram_of-fault c.args.bytes.now _ (unknown c)

bad_payload : (c : In_default-get) → pd_fault_of c.args.bytes.now ≡ Some Length
bad_payload c =
    pd_fault-payload c.args.bytes.now c.in-Some.kind c.in_ok-prefix.ensures.none
    (ap (λ (p : Prefix). pd_kind_of p.code) (sym c.in_ok-prefix.ensures.value)
    ∙ sym c.kind_of_code.ensures ∙ c.in-Some.is)
    ∙ payload_past 40 _ c.args.bytes.now _ c.split_at.ensures.back c.u32_at.ensures
    c.in_default-get.ensures.lookup.0

pub returns-in_default-get-clause-fault : goal.returns-in_default-get-clause-fault
returns-in_default-get-clause-fault c = bad_payload c

pub returns-in_default-get-clause-none_found : goal.returns-in_default-get-clause-none_found
returns-in_default-get-clause-none_found c =
    pd_telegram_of-fault c.args.bytes.now _ (bad_payload c)

pub returns-clause-telegram : goal.returns-clause-telegram
returns-clause-telegram c =
    pd-telegram c.args.bytes.now c.in-Some.kind
    _ c.in-Some-get.payload.now c.in_ok-prefix.ensures.none
    (payload_within 40 _ c.args.bytes.now _ c.split_at.ensures.back c.u32_at.ensures
    c.in-Some-get.ensures.lookup.0.1)
    (ap (λ (p : Prefix). pd_kind_of p.code) (sym c.in_ok-prefix.ensures.value)
    ∙ sym c.kind_of_code.ensures ∙ c.in-Some.is)
    (search rules)
    (payload_is 40 _ c.args.bytes.now _ _ c.split_at.ensures.back c.u32_at.ensures
    c.in-Some-get.ensures.lookup.0.2)

pub returns-clause-no_fault : goal.returns-clause-no_fault
returns-clause-no_fault c = pd-no_fault (returns-clause-telegram c)

pub returns-clause-found : goal.returns-clause-found
returns-clause-found c = telegram-is (returns-clause-telegram c)
