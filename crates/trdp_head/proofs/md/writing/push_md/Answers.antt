use Rattle.std.proofs.Common.{ℕ, List, ◌++◌, length, ap, ◌∙◌}
use Rattle.trdp_head.specs.MdBytes.{md_bytes}
use Rattle.trdp_head.specs.TelegramBytes.{padding_of, telegram_bytes}
use Rattle.trdp_head.proofs.md.writing.push_md.Goals as goal

pub returns-clause-items : goal.returns-clause-items
unfolding md_bytes telegram_bytes
returns-clause-items c =
    let payload : List ℕ = c.args.payload.now in
    c.append_telegram.ensures.items
    ∙ ap (λ (header : List ℕ). c.args.list.now.items
    ++ (header ++ payload ++ padding_of (length payload))) c.header.ensures
