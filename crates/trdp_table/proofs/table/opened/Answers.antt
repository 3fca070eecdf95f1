use Rattle.std.proofs.Common.{rules, ◌<◌, ℕ, List, get_or, subst, length}
use Rattle.std.proofs.lemmas.List.Elements.{All-more}
use Rattle.trdp_table.specs.TableLaws.{AreLimited}
use Rattle.trdp_table.proofs.TableLemmas.Known.{opened_more}
use Rattle.trdp_table.proofs.table.opened.Goals as goal

pub loop-slot_quotas-preserved : goal.loop-slot_quotas-preserved
loop-slot_quotas-preserved c =
    let i = c.loop-slot_quotas.slot_quotas-index in
    let quotas : List (List ℕ) = c.args.quotas.now in
    let lt : i < length quotas = search rules in
    let here : AreLimited (get_or quotas i c.slot_quotas-item.result) =
    subst (λ (q : List ℕ). AreLimited q) c.slot_quotas-item.is c.in_ok-new.ensures.limited in
    record {
      items = rw (
        c.push_reserved.ensures.items,
        c.loop-slot_quotas.invariant.items,
        c.in_ok-new.ensures.slot,
      )
          (opened_more quotas i c.slot_quotas-item.result lt c.slot_quotas-item.is);
      limited = All-more AreLimited quotas i c.slot_quotas-item.result
          lt c.loop-slot_quotas.invariant.limited here;
      room = search rules;
    }
