-- What is written under a header is read as it was meant.
-- For the modules of objects and calls, whose records send telegrams.
-- The reader's law of `trdp_head`: what was written under fields that fit is read back.
use Rattle.std.proofs.Common.{◌≡◌, ℕ, ◌≤◌, List, length, Some, sym, ◌∙◌}
use Rattle.std.proofs.Common.{subst}
use Rattle.trdp_base.specs.declared.place.Place.{Place}
use Rattle.trdp_head.specs.declared.pd.PdHead.{PdHead}
use Rattle.trdp_head.specs.declared.md.MdHead.{MdHead}
use Rattle.trdp_head.specs.PdHeads.{IsPdHead}
use Rattle.trdp_head.specs.PdTelegrams.{PdTelegram, pd_telegram_of}
use Rattle.trdp_head.specs.PdBytes.{pd_bytes}
use Rattle.trdp_head.specs.MdHeads.{IsMdHead}
use Rattle.trdp_head.specs.MdTelegrams.{MdTelegram, md_telegram_of}
use Rattle.trdp_head.specs.MdBytes.{md_bytes}
use Rattle.trdp_head.proofs.PdBytesLemmas.{IsPdTelegram-pd_bytes}
use Rattle.trdp_head.proofs.PdTelegramLemmas.{telegram-is}
use Rattle.trdp_head.proofs.MdBytesLemmas.{IsMdTelegram-md_bytes}
use Rattle.trdp_head.proofs.MdTelegramLemmas.{md_telegram-is}
use Rattle.trdp_model.specs.declared.record.Protocol.TheVariants.{Pd, Md}
use Rattle.trdp_net.specs.Networks.{Move}
use Rattle.trdp_net.proofs.Explained.{DataBy, MessageBy, SentBy}

-- process data under a header whose fields fit
pub sends_pd : (past : List Move) (from to : Place) (head : PdHead) (payload : List ℕ)
    → IsPdHead head → length payload ≤ 1432
    → DataBy head.kind past (record { head = head; payload = payload })
    → SentBy Pd past from to (pd_bytes head payload)
sends_pd past from to head payload fits limit origin t is =
    let read : pd_telegram_of (pd_bytes head payload)
    ≡ Some (let w : PdTelegram = record { head = head; payload = payload } in w) =
    telegram-is (IsPdTelegram-pd_bytes head payload fits limit) in
    let one : Some (let w : PdTelegram = record { head = head; payload = payload } in w) ≡ Some t =
    sym read ∙ is in
    subst (λ (u : PdTelegram). DataBy u.head.kind past u) (cc one) origin

-- a message under a header whose fields fit
pub sends_md : (past : List Move) (from to : Place) (head : MdHead) (payload : List ℕ)
    → IsMdHead head → length payload ≤ 65388
    → MessageBy head.kind past from to (record { head = head; payload = payload })
    → SentBy Md past from to (md_bytes head payload)
sends_md past from to head payload fits limit origin t is =
    let read : md_telegram_of (md_bytes head payload)
    ≡ Some (let w : MdTelegram = record { head = head; payload = payload } in w) =
    md_telegram-is (IsMdTelegram-md_bytes head payload fits limit) in
    let one : Some (let w : MdTelegram = record { head = head; payload = payload } in w) ≡ Some t =
    sym read ∙ is in
    subst (λ (u : MdTelegram). MessageBy u.head.kind past from to u) (cc one) origin
