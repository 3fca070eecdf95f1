use Rattle.std.proofs.Common.{◌≡◌, Some, sym, ap, ◌∙◌, rules}
use Rattle.std.proofs.lemmas.Option.{none-some}
use Rattle.trdp_head.specs.declared.prefix.Prefix.{Prefix}
use Rattle.trdp_head.specs.declared.fault.HeadFault.TheVariants.{Kind, Length}
use Rattle.trdp_head.specs.MdKinds.{md_kind_of}
use Rattle.trdp_head.specs.MdFaults.{md_fault_of}
use Rattle.trdp_head.proofs.TelegramLemmas.{err_answers}
use Rattle.trdp_head.proofs.TelegramLemmas.{payload_past, payload_within, payload_is}
use Rattle.trdp_head.proofs.MdTelegramLemmas.{md-no_fault, md-telegram, md_fault-prefix}
use Rattle.trdp_head.proofs.MdTelegramLemmas.{md_fault-kind, md_fault-payload}
use Rattle.trdp_head.proofs.MdTelegramLemmas.{md_telegram_of-fault, md_telegram-is}
use Rattle.trdp_head.proofs.md.reading.read_md.Goals as goal
use Rattle.trdp_head.proofs.md.reading.read_md.Goals.{After-from_residual}
use Rattle.trdp_head.proofs.md.reading.read_md.Goals.{In_default, In_default-get}

bad_prefix : (c : After-from_residual)
    → md_fault_of c.args.bytes.now ≡ Some c.in_err-prefix.field-0.0
bad_prefix c = md_fault-prefix c.args.bytes.now _ c.in_err-prefix.ensures.fault

pub returns-in_err-prefix-clause-fault : goal.returns-in_err-prefix-clause-fault
returns-in_err-prefix-clause-fault c =
    err_answers c.from_residual.result _ _ c.from_residual.ensures.1 (bad_prefix c)

pub returns-in_err-prefix-clause-none_found : goal.returns-in_err-prefix-clause-none_found
returns-in_err-prefix-clause-none_found c =
    err_answers c.from_residual.result _ _ c.from_residual.ensures.1
    (md_telegram_of-fault c.args.bytes.now _ (bad_prefix c))

pub returns-in_err-prefix-clause-exact : goal.returns-in_err-prefix-clause-exact
returns-in_err-prefix-clause-exact c = λ head payload telegram.
    absurd (none-some _ (sym (md-no_fault telegram) ∙ bad_prefix c))

unknown : (c : In_default) → md_fault_of c.args.bytes.now ≡ Some Kind
unknown c =
    md_fault-kind c.args.bytes.now c.in_ok-prefix.ensures.none
    (ap (λ (p : Prefix). md_kind_of p.code) (sym c.in_ok-prefix.ensures.value)
    ∙ sym c.kind_of_code.ensures ∙ c.in_default.is)

pub returns-in_default-clause-fault : goal.returns-in_default-clause-fault
returns-in_default-clause-fault c = unknown c

pub returns-in_default-clause-none_found : goal.returns-in_default-clause-none_found
returns-in_default-clause-none_found c = md_telegram_of-fault c.args.bytes.now _ (unknown c)

bad_payload : (c : In_default-get) → md_fault_of c.args.bytes.now ≡ Some Length
bad_payload c =
    md_fault-payload c.args.bytes.now c.in-Some.kind c.in_ok-prefix.ensures.none
    (ap (λ (p : Prefix). md_kind_of p.code) (sym c.in_ok-prefix.ensures.value)
    ∙ sym c.kind_of_code.ensures ∙ c.in-Some.is)
    ∙ payload_past 116 _ c.args.bytes.now _ c.split_at.ensures.back c.u32_at.ensures
    c.in_default-get.ensures.lookup.0

pub returns-in_default-get-clause-fault : goal.returns-in_default-get-clause-fault
returns-in_default-get-clause-fault c = bad_payload c

pub returns-in_default-get-clause-none_found : goal.returns-in_default-get-clause-none_found
returns-in_default-get-clause-none_found c =
    md_telegram_of-fault c.args.bytes.now _ (bad_payload c)

pub returns-clause-telegram : goal.returns-clause-telegram
returns-clause-telegram c =
    md-telegram c.args.bytes.now c.in-Some.kind
    _ c.in-Some-get.payload.now c.in_ok-prefix.ensures.none
    (payload_within 116 _ c.args.bytes.now _ c.split_at.ensures.back c.u32_at.ensures
    c.in-Some-get.ensures.lookup.0.1)
    (ap (λ (p : Prefix). md_kind_of p.code) (sym c.in_ok-prefix.ensures.value)
    ∙ sym c.kind_of_code.ensures ∙ c.in-Some.is)
    (search rules)
    (payload_is 116 _ c.args.bytes.now _ _ c.split_at.ensures.back c.u32_at.ensures
    c.in-Some-get.ensures.lookup.0.2)

pub returns-clause-no_fault : goal.returns-clause-no_fault
returns-clause-no_fault c = md-no_fault (returns-clause-telegram c)

pub returns-clause-found : goal.returns-clause-found
returns-clause-found c = md_telegram-is (returns-clause-telegram c)
