use Rattle.std.proofs.Common.{rules, ◌≡◌, ap, ◌∙◌, ℕ, List, take, sym, ◌++◌, ◌+◌}
use Rattle.std.specs.Prelude.{ℤ}
use Rattle.std.specs.Int.{w32, cast_unsigned}
use Rattle.std.proofs.lemmas.Int.{to_z-of_z}
use Rattle.trdp_base.specs.Uris.{uri_field}
use Rattle.trdp_head.specs.declared.prefix.Prefix.{Prefix}
use Rattle.trdp_head.specs.Fields.{be_bytes}
use Rattle.trdp_head.specs.Prefixes.{prefix_bytes}
use Rattle.trdp_head.specs.MdBytes.{md_head_bytes}
use Rattle.trdp_head.proofs.MdBytesLemmas.{uri_held}
use Rattle.trdp_head.proofs.PartWriteLemmas.{more}
use Rattle.trdp_head.proofs.md.writing.put_head.Goals as goal

pub returns-clause-ranges : goal.returns-clause-ranges
returns-clause-ranges c =
    record {
      prefix = search rules;
      status = search rules;
      session = search rules;
      timeout = search rules;
      source_uri = uri_held c.args.head.source_uri
          c.field.result.now c.field.ensures.back c.field.ensures.length;
      dest_uri = uri_held c.args.head.dest_uri
          c.field-2.result.now c.field-2.ensures.back c.field-2.ensures.length;
    }

pub returns-clause-front : goal.returns-clause-front
unfolding md_head_bytes
returns-clause-front c =
    let head = c.args.head in
    let prefix : ℕ → Prefix = λ code.
    record { counter = head.counter; code = code; com_id = head.com_id; topo = head.topo } in
    let front = c.put_prefix.ensures.front
    ∙ ap (λ (code : ℕ). prefix_bytes (prefix code) c.args.payload) c.code_of_kind.ensures in
    let status = c.put_i32.ensures.front
    ∙ ap (λ (z : ℤ). take 24 c.put_prefix.new.room ++ be_bytes 4 (cast_unsigned w32 z))
    (to_z-of_z w32 head.status (returns-clause-ranges c).status) in
    let numbers =
    more _ c.put_u32.ensures.front (more _ c.put_u128.ensures.front (more _ status front)) in
    let source : take 80 c.put_bytes.new.room
    ≡ take 48 c.put_u32.new.room ++ uri_field head.source_uri =
    ap (λ (n : ℕ). take (48 + n) c.put_bytes.new.room) (sym c.field.ensures.length)
    ∙ c.put_bytes.ensures.front
    ∙ ap (λ (r : List ℕ). take 48 c.put_u32.new.room ++ r) c.field.ensures.value in
    let dest : take 112 c.put_bytes-2.new.room
    ≡ take 80 c.put_bytes.new.room ++ uri_field head.dest_uri =
    ap (λ (n : ℕ). take (80 + n) c.put_bytes-2.new.room) (sym c.field-2.ensures.length)
    ∙ c.put_bytes-2.ensures.front
    ∙ ap (λ (r : List ℕ). take 80 c.put_bytes.new.room ++ r) c.field-2.ensures.value in
    more _ dest (more _ source numbers)
