-- A process data telegram is determined by its bytes, and has no fault.
-- For `read_pd`: a lemma for each way in which it ends.
-- By `TelegramLemmas` at the size and the limit of process data.
use Rattle.std.proofs.Common.{◌≡◌, ℕ, cond, eqb, List, take, drop, Option}
use Rattle.std.proofs.Common.{Some, None, refl, sym, ap, subst, ◌∙◌, inl, inr}
use Rattle.std.specs.Prelude.{is_some}
use Rattle.std.proofs.lemmas.Bool.{eqb-true}
use Rattle.trdp_head.specs.declared.pd.PdKind.{PdKind}
use Rattle.trdp_head.specs.declared.pd.PdKind.TheVariants.{Data, PullReply, PullRequest, Error}
use Rattle.trdp_head.specs.declared.pd.PdHead.{PdHead}
use Rattle.trdp_head.specs.declared.fault.HeadFault.{HeadFault}
use Rattle.trdp_head.specs.declared.fault.HeadFault.TheVariants.{Kind}
use Rattle.trdp_head.specs.Fields.{field}
use Rattle.trdp_head.specs.Faults.{prefix_fault_of, payload_fault_of}
use Rattle.trdp_head.specs.PdKinds.{pd_code_of, pd_kind_of}
use Rattle.trdp_head.specs.PdHeads.{pd_prefix, head_in}
use Rattle.trdp_head.specs.IsPdTelegram.{IsPdTelegram}
use Rattle.trdp_head.specs.PdFaults.{pd_fault_of}
use Rattle.trdp_head.specs.PdTelegrams.{PdTelegram, telegram_where, pd_telegram_of}
use Rattle.trdp_head.proofs.TelegramLemmas.{Begins, cond-some, fault-prefix, fault-kind}
use Rattle.trdp_head.proofs.TelegramLemmas.{fault-payload, telegram-from, telegram-no_fault}

pd_kind_of-pd_code_of : (kind : PdKind) → pd_kind_of (pd_code_of kind) ≡ Some kind
pd_kind_of-pd_code_of Data = refl
pd_kind_of-pd_code_of PullReply = refl
pd_kind_of-pd_code_of PullRequest = refl
pd_kind_of-pd_code_of Error = refl

kind_at : (code place : ℕ) (kind found : PdKind) (rest : Option PdKind)
    → pd_code_of kind ≡ place → (rest ≡ Some found → code ≡ pd_code_of found)
    → cond (eqb code place) (Some kind) rest ≡ Some found → code ≡ pd_code_of found
kind_at code place kind found rest e more h =
    elim (cond-some (eqb code place) kind found rest h)
    [ inl w ↦ eqb-true code place w.0 ∙ sym e ∙ ap pd_code_of w.1 | inr w ↦ more w ]

pub pd_kind_of-some : (code : ℕ) (kind : PdKind)
    → pd_kind_of code ≡ Some kind → code ≡ pd_code_of kind
pd_kind_of-some code kind h =
    kind_at code 0x5064 Data kind _
    refl (kind_at code 0x5070 PullReply kind _ refl (kind_at code 0x5072 PullRequest kind _ refl
    (kind_at code 0x5065 Error kind None refl (λ e. absurd cc)))) h

kind_known : {bytes : List ℕ} {head : PdHead} {payload : List ℕ}
    → IsPdTelegram bytes head payload → pd_kind_of (field 6 2 bytes) ≡ Some head.kind
kind_known {head} t = ap pd_kind_of t.telegram.code ∙ pd_kind_of-pd_code_of head.kind

pub pd-no_fault : {bytes : List ℕ} {head : PdHead} {payload : List ℕ}
    → IsPdTelegram bytes head payload → pd_fault_of bytes ≡ None
unfolding pd_fault_of
pd-no_fault {bytes} t =
    telegram-no_fault t.telegram
    (is_some (pd_kind_of (field 6 2 bytes))) (ap is_some (kind_known t))

pub pd_fault-prefix : (bytes : List ℕ) (fault : HeadFault)
    → prefix_fault_of 40 1472 bytes ≡ Some fault → pd_fault_of bytes ≡ Some fault
unfolding pd_fault_of
pd_fault-prefix bytes fault e =
    fault-prefix 40 1472 (is_some (pd_kind_of (field 6 2 bytes))) bytes fault e

pub pd_fault-kind : (bytes : List ℕ) → prefix_fault_of 40 1472 bytes ≡ None
    → pd_kind_of (field 6 2 bytes) ≡ None → pd_fault_of bytes ≡ Some Kind
unfolding pd_fault_of
pd_fault-kind bytes none e =
    fault-kind 40 1472 (is_some (pd_kind_of (field 6 2 bytes))) bytes none (ap is_some e)

pub pd_fault-payload : (bytes : List ℕ) (kind : PdKind)
    → prefix_fault_of 40 1472 bytes ≡ None → pd_kind_of (field 6 2 bytes) ≡ Some kind
    → pd_fault_of bytes ≡ payload_fault_of 40 bytes
unfolding pd_fault_of
pd_fault-payload bytes kind none e =
    fault-payload 40 1472 (is_some (pd_kind_of (field 6 2 bytes))) bytes none (ap is_some e)

-- the fields of a telegram's bytes are its header
head_in-telegram : {bytes : List ℕ} {head : PdHead} {payload : List ℕ}
    → IsPdTelegram bytes head payload → head_in bytes head.kind ≡ head
head_in-telegram t = rw (
  t.telegram.counter,
  t.telegram.com_id,
  t.telegram.etb,
  t.telegram.op_trn,
  t.reply_com_id,
  t.reply_ip,
) refl

-- the value of the model function where there is no fault
pub pd_telegram_of-no_fault : (bytes : List ℕ) (kind : PdKind) (head : PdHead) (payload : List ℕ)
    → pd_fault_of bytes ≡ None → pd_kind_of (field 6 2 bytes) ≡ Some kind
    → head ≡ head_in bytes kind → payload ≡ take (field 20 4 bytes) (drop 40 bytes)
    → pd_telegram_of bytes ≡ Some (record { head = head; payload = payload })
unfolding pd_telegram_of
pd_telegram_of-no_fault bytes kind head payload none known fields content =
    ap (λ (f : Option HeadFault). telegram_where f (pd_kind_of (field 6 2 bytes)) bytes) none
    ∙ ap (λ (k : Option PdKind). telegram_where None k bytes) known
    ∙ ap (λ (h : PdHead). Some (let found : PdTelegram = record {
      head = h;
      payload = take (field 20 4 bytes) (drop 40 bytes);
    } in found)) (sym fields)
    ∙ ap (λ (p : List ℕ).
    Some (let found : PdTelegram = record { head = head; payload = p } in found)) (sym content)

-- the value of the model function at a telegram
pub telegram-is : {bytes : List ℕ} {head : PdHead} {payload : List ℕ}
    → IsPdTelegram bytes head payload
    → pd_telegram_of bytes ≡ Some (record { head = head; payload = payload })
telegram-is {bytes} {head} {payload} t =
    pd_telegram_of-no_fault bytes head.kind head
    payload (pd-no_fault t) (kind_known t) (sym (head_in-telegram t)) t.telegram.content

-- where there is a fault, there is no telegram
pub pd_telegram_of-fault : (bytes : List ℕ) (fault : HeadFault)
    → pd_fault_of bytes ≡ Some fault → pd_telegram_of bytes ≡ None
unfolding pd_telegram_of
pd_telegram_of-fault bytes fault e =
    ap (λ (f : Option HeadFault). telegram_where f (pd_kind_of (field 6 2 bytes)) bytes) e

-- bytes without fault are a telegram with the fields in them
pub pd-telegram : (bytes : List ℕ) (kind : PdKind) (head : PdHead) (payload : List ℕ)
    → prefix_fault_of 40 1472 bytes ≡ None → payload_fault_of 40 bytes ≡ None
    → pd_kind_of (field 6 2 bytes) ≡ Some kind → head ≡ head_in bytes kind
    → payload ≡ take (field 20 4 bytes) (drop 40 bytes) → IsPdTelegram bytes head payload
pd-telegram bytes kind head payload none none_behind known fields content =
    let begins : Begins bytes (pd_prefix (head_in bytes kind)) =
    record {
      code = pd_kind_of-some (field 6 2 bytes) kind known;
      counter = refl;
      com_id = refl;
      etb = refl;
      op_trn = refl;
    } in
    subst (λ (h : PdHead). IsPdTelegram bytes h payload) (sym fields) (record {
      telegram = telegram-from 40 1472 bytes (pd_prefix (head_in bytes kind))
          payload none none_behind begins content;
      reply_com_id = refl;
      reply_ip = refl;
    })
