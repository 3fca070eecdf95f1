use Rattle.std.proofs.Common.{List, ℕ, length, drop, ◌++◌, ap, ◌∙◌, arith}
use Rattle.trdp_head.specs.MdBytes.{md_bytes, md_length_of}
use Rattle.trdp_head.specs.TelegramBytes.{telegram_bytes}
use Rattle.trdp_head.proofs.MdBytesLemmas.{IsMdTelegram-md_bytes}
use Rattle.trdp_head.proofs.md.writing.write_md.Goals as goal

pub returns-clause-written : goal.returns-clause-written
unfolding md_bytes
returns-clause-written c =
    let payload : List ℕ = c.args.payload.now in
    let end : ℕ = md_length_of (length payload) in
    c.complete.ensures.written
    ∙ ap (λ (header : List ℕ). telegram_bytes header payload ++ drop end c.put_head.new.room)
    c.put_head.ensures.front
    ∙ ap (λ (rest : List ℕ). md_bytes c.args.head.now payload ++ rest)
    (c.put_head.ensures.rest end (omega arith))

pub returns-clause-read_back : goal.returns-clause-read_back
returns-clause-read_back c = IsMdTelegram-md_bytes c.args.head.now
    c.args.payload.now c.put_head.ensures.ranges c.requires.payload
