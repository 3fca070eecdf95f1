use Rattle.std.proofs.Common.{length, ap, arith, length-append}
use Rattle.trdp_base.specs.HexText.{text_of_hex}
use Rattle.trdp_text.proofs.TextLemmas.TextLengths.{hex_length}
use Rattle.trdp_text.proofs.print_words.put_hex.Goals as goal

pub returns-clause-len : goal.returns-clause-len
returns-clause-len c =
    let told = rw c.unwrap.ensures at c.push_hex.ensures.ok in
    let digits = text_of_hex c.args.bytes.now in
    omega (
      arith,
      ap length told,
      length-append c.args.text.now.items digits,
      hex_length c.args.bytes.now,
      c.push_hex.new.out.ok,
      c.args.text.now.ok,
    )
