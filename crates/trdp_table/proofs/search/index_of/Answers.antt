use Rattle.std.proofs.Common.{rules}
use Rattle.std.proofs.lemmas.List.Sorted.{answers_always}
use Rattle.trdp_table.proofs.SlotLemmas.Search.{searched}
use Rattle.trdp_table.proofs.search.index_of.Goals as goal

pub returns-clause-found : goal.returns-clause-found
returns-clause-found c =
    let facts = c.binary_search_by_key.ensures in
    let by_key = facts.position (λ entry. entry.handle)
    (answers_always _ _ _ (λ f a r g called. search rules)) in
    rw c.ok.ensures.value
    (searched c.args.entries.now c.args.handle c.requires _ facts.bound by_key).found

pub returns-clause-absent : goal.returns-clause-absent
returns-clause-absent c = λ none.
    let facts = c.binary_search_by_key.ensures in
    let by_key = facts.position (λ entry. entry.handle)
    (answers_always _ _ _ (λ f a r g called. search rules)) in
    (searched c.args.entries.now c.args.handle c.requires _ facts.bound by_key).absent
    (rw c.ok.ensures.value at none)
