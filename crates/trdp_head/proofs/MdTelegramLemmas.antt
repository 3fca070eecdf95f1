-- A message data telegram is determined by its bytes, and has no fault.
-- For `read_md`: a lemma for each way in which it ends.
-- By `TelegramLemmas` at the size and the limit of messages.
use Rattle.std.proofs.Common.{◌≡◌, ℕ, cond, eqb, List, take, drop, Option}
use Rattle.std.proofs.Common.{Some, None, refl, sym, ap, subst, ◌∙◌, inl, inr}
use Rattle.std.specs.Prelude.{is_some}
use Rattle.std.proofs.lemmas.Bool.{eqb-true}
use Rattle.trdp_head.specs.declared.md.MdKind.{MdKind}
use Rattle.trdp_head.specs.declared.md.MdKind.TheVariants.{Notify, Request, Reply}
use Rattle.trdp_head.specs.declared.md.MdKind.TheVariants.{Query, Confirm, Error}
use Rattle.trdp_head.specs.declared.md.MdHead.{MdHead}
use Rattle.trdp_head.specs.declared.fault.HeadFault.{HeadFault}
use Rattle.trdp_head.specs.declared.fault.HeadFault.TheVariants.{Kind}
use Rattle.trdp_head.specs.Fields.{field}
use Rattle.trdp_head.specs.Faults.{prefix_fault_of, payload_fault_of}
use Rattle.trdp_head.specs.MdKinds.{md_code_of, md_kind_of}
use Rattle.trdp_head.specs.MdHeads.{md_prefix, md_head_in}
use Rattle.trdp_head.specs.IsMdTelegram.{IsMdTelegram}
use Rattle.trdp_head.specs.MdFaults.{md_fault_of}
use Rattle.trdp_head.specs.MdTelegrams.{MdTelegram, md_telegram_where, md_telegram_of}
use Rattle.trdp_head.proofs.TelegramLemmas.{Begins, cond-some, fault-prefix, fault-kind}
use Rattle.trdp_head.proofs.TelegramLemmas.{fault-payload, telegram-from, telegram-no_fault}

md_kind_of-code_of : (kind : MdKind) → md_kind_of (md_code_of kind) ≡ Some kind
md_kind_of-code_of Notify = refl
md_kind_of-code_of Request = refl
md_kind_of-code_of Reply = refl
md_kind_of-code_of Query = refl
md_kind_of-code_of Confirm = refl
md_kind_of-code_of Error = refl

kind_at : (code place : ℕ) (kind found : MdKind) (rest : Option MdKind)
    → md_code_of kind ≡ place → (rest ≡ Some found → code ≡ md_code_of found)
    → cond (eqb code place) (Some kind) rest ≡ Some found → code ≡ md_code_of found
kind_at code place kind found rest e more h =
    elim (cond-some (eqb code place) kind found rest h)
    [ inl w ↦ eqb-true code place w.0 ∙ sym e ∙ ap md_code_of w.1 | inr w ↦ more w ]

pub md_kind_of-some : (code : ℕ) (kind : MdKind)
    → md_kind_of code ≡ Some kind → code ≡ md_code_of kind
md_kind_of-some code kind h =
    kind_at code 0x4d6e Notify
    kind _ refl (kind_at code 0x4d72 Request kind _ refl (kind_at code 0x4d70 Reply kind _ refl
    (kind_at code 0x4d71 Query kind _ refl (kind_at code
    0x4d63 Confirm kind _ refl (kind_at code 0x4d65 Error kind None refl (λ e. absurd cc)))))) h

kind_known : {bytes : List ℕ} {head : MdHead} {payload : List ℕ}
    → IsMdTelegram bytes head payload → md_kind_of (field 6 2 bytes) ≡ Some head.kind
kind_known {head} t = ap md_kind_of t.telegram.code ∙ md_kind_of-code_of head.kind

pub md-no_fault : {bytes : List ℕ} {head : MdHead} {payload : List ℕ}
    → IsMdTelegram bytes head payload → md_fault_of bytes ≡ None
unfolding md_fault_of
md-no_fault {bytes} t = telegram-no_fault t.telegram
    (is_some (md_kind_of (field 6 2 bytes))) (ap is_some (kind_known t))

pub md_fault-prefix : (bytes : List ℕ) (fault : HeadFault)
    → prefix_fault_of 116 65504 bytes ≡ Some fault → md_fault_of bytes ≡ Some fault
unfolding md_fault_of
md_fault-prefix bytes fault e =
    fault-prefix 116 65504 (is_some (md_kind_of (field 6 2 bytes))) bytes fault e

pub md_fault-kind : (bytes : List ℕ) → prefix_fault_of 116 65504 bytes ≡ None
    → md_kind_of (field 6 2 bytes) ≡ None → md_fault_of bytes ≡ Some Kind
unfolding md_fault_of
md_fault-kind bytes none e =
    fault-kind 116 65504 (is_some (md_kind_of (field 6 2 bytes))) bytes none (ap is_some e)

pub md_fault-payload : (bytes : List ℕ) (kind : MdKind)
    → prefix_fault_of 116 65504 bytes ≡ None → md_kind_of (field 6 2 bytes) ≡ Some kind
    → md_fault_of bytes ≡ payload_fault_of 116 bytes
unfolding md_fault_of
md_fault-payload bytes kind none e =
    fault-payload 116 65504 (is_some (md_kind_of (field 6 2 bytes))) bytes none (ap is_some e)

-- the fields of a telegram's bytes are its header
md_head_in-telegram : {bytes : List ℕ} {head : MdHead} {payload : List ℕ}
    → IsMdTelegram bytes head payload → md_head_in bytes head.kind ≡ head
md_head_in-telegram t = rw (
  t.telegram.counter,
  t.telegram.com_id,
  t.telegram.etb,
  t.telegram.op_trn,
  t.status,
  t.session,
  t.timeout,
  t.source_uri,
  t.dest_uri,
) refl

-- the value of the model function where there is no fault
pub md_telegram_of-no_fault : (bytes : List ℕ) (kind : MdKind) (head : MdHead) (payload : List ℕ)
    → md_fault_of bytes ≡ None → md_kind_of (field 6 2 bytes) ≡ Some kind
    → head ≡ md_head_in bytes kind → payload ≡ take (field 20 4 bytes) (drop 116 bytes)
    → md_telegram_of bytes ≡ Some (record { head = head; payload = payload })
unfolding md_telegram_of
md_telegram_of-no_fault bytes kind head payload none known fields content =
    ap (λ (f : Option HeadFault). md_telegram_where f (md_kind_of (field 6 2 bytes)) bytes) none
    ∙ ap (λ (k : Option MdKind). md_telegram_where None k bytes) known
    ∙ ap (λ (h : MdHead). Some (let found : MdTelegram = record {
      head = h;
      payload = take (field 20 4 bytes) (drop 116 bytes);
    } in found)) (sym fields)
    ∙ ap (λ (p : List ℕ).
    Some (let found : MdTelegram = record { head = head; payload = p } in found)) (sym content)

-- the value of the model function at a telegram
pub md_telegram-is : {bytes : List ℕ} {head : MdHead} {payload : List ℕ}
    → IsMdTelegram bytes head payload
    → md_telegram_of bytes ≡ Some (record { head = head; payload = payload })
md_telegram-is {bytes} {head} {payload} t =
    md_telegram_of-no_fault bytes head.kind head
    payload (md-no_fault t) (kind_known t) (sym (md_head_in-telegram t)) t.telegram.content

-- where there is a fault, there is no telegram
pub md_telegram_of-fault : (bytes : List ℕ) (fault : HeadFault)
    → md_fault_of bytes ≡ Some fault → md_telegram_of bytes ≡ None
unfolding md_telegram_of
md_telegram_of-fault bytes fault e =
    ap (λ (f : Option HeadFault). md_telegram_where f (md_kind_of (field 6 2 bytes)) bytes) e

-- bytes without fault are a telegram with the fields in them
pub md-telegram : (bytes : List ℕ) (kind : MdKind) (head : MdHead) (payload : List ℕ)
    → prefix_fault_of 116 65504 bytes ≡ None → payload_fault_of 116 bytes ≡ None
    → md_kind_of (field 6 2 bytes) ≡ Some kind → head ≡ md_head_in bytes kind
    → payload ≡ take (field 20 4 bytes) (drop 116 bytes) → IsMdTelegram bytes head payload
md-telegram bytes kind head payload none none_behind known fields content =
    let begins : Begins bytes (md_prefix (md_head_in bytes kind)) =
    record {
      code = md_kind_of-some (field 6 2 bytes) kind known;
      counter = refl;
      com_id = refl;
      etb = refl;
      op_trn = refl;
    } in
    subst (λ (h : MdHead). IsMdTelegram bytes h payload) (sym fields) (record {
      telegram = telegram-from 116 65504 bytes
          (md_prefix (md_head_in bytes kind)) payload none none_behind begins content;
      status = refl;
      session = refl;
      timeout = refl;
      source_uri = refl;
      dest_uri = refl;
    })
