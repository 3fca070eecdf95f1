use Rattle.std.proofs.Common.{refl, rules}
use Rattle.trdp_text.proofs.ReadLemmas.Fields.{bytes_read, word_is_bad, memory_ran_out}
use Rattle.trdp_text.proofs.field.read_bytes.Goals as goal

pub returns-in-Ok-clause-value : goal.returns-in-Ok-clause-value
returns-in-Ok-clause-value c =
    bytes_read c.args.word.now c.read_hex_into.new.bytes.items
    c.in-Ok.ensures.found (λ bad. let e = c.in-Ok.ensures.bad.1 bad in search rules)

pub returns-in-Err-BadText-clause-fault : goal.returns-in-Err-BadText-clause-fault
returns-in-Err-BadText-clause-fault c =
    word_is_bad c.args.word.now _ (c.in-Err-BadText.ensures.bad.0 (search rules)) refl

pub returns-in-Err-OutOfMemory-clause-fault : goal.returns-in-Err-OutOfMemory-clause-fault
returns-in-Err-OutOfMemory-clause-fault c =
    memory_ran_out c.args.word.now
    _ (λ bad. let e = c.in-Err-OutOfMemory.ensures.bad.1 bad in search rules) refl
