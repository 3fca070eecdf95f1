use Rattle.std.proofs.Common.{ℕ, List, length, ap, sym, ◌∙◌}
use denote.RawPtr.{Ptr}
use Rattle.trdp_model.specs.Records.{content_model}
use Rattle.trdp_text.specs.RecordText.{bytes_of}
use Rattle.trdp_node.specs.declared.record.RecordNumbers.{RecordNumbers}
use Rattle.trdp_node.specs.RecordOf.{no_numbers, record_numbers, with_content}
use Rattle.trdp_node.proofs.RecordLemmas.{bytes_stay}
use Rattle.trdp_node.proofs.record.RecordNumbers.put.Goals as goal

pub returns : goal.returns
unfolding record_numbers
returns c =
    let content = content_model c.args.record.now.what in
    let slot = c.args.record.now.slot in let shown = c.bytes_in-bytes.result.now in
    let at = c.start_of-self.result in
    c.put_content.ensures
    ∙ ap (λ (n : RecordNumbers).
    with_content content (record n { bytes = at; len = length shown; slot = slot }))
    c.clear.ensures
    ∙ ap (λ (bs : List ℕ).
    with_content content (record (no_numbers at) { len = length bs; slot = slot }))
    c.bytes_in-bytes.ensures
    ∙ ap (λ (q : Ptr). with_content content
    (record (no_numbers q) { len = length (bytes_of content); slot = slot }))
    (sym (ap (λ (n : RecordNumbers). n.bytes) c.put_content.ensures ∙ bytes_stay content _))
