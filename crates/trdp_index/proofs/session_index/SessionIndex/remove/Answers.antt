use Rattle.std.proofs.Common.{List, None, refl, ◌∙◌, sym, ap}
use Rattle.std.specs.Prelude.{option_map}
use Rattle.trdp_index.specs.declared.session_row.SessionRow.{SessionRow}
use Rattle.trdp_index.specs.Ranks.{is_same}
use Rattle.trdp_index.specs.Rows.{row_of}
use Rattle.trdp_index.specs.SessionRows.{session_rank, session_row_rank}
use Rattle.trdp_index.proofs.RowLemmas.{row_of-without, option_map-if}
use Rattle.trdp_index.proofs.RowLemmas.{IsKept-without, is_some-option_map}
use Rattle.trdp_index.proofs.SearchLemmas.{has_found}
use Rattle.trdp_index.proofs.session_index.SessionIndex.remove.Goals as goal

pub invariant_of-self : goal.invariant_of-self
invariant_of-self c =
    let found = rw (c.deref.ensures.value, c.session_rank.ensures) at c.in-Some.ensures.found in
    rw (c.remove.ensures.items, c.remove.ensures.capacity, found.others)
    (IsKept-without session_row_rank (session_rank c.args.session c.args.slot c.args.role)
    c.self.inside.rows.items c.self.inside.room _ c.self.invariant)

pub returns-in-Some-clause-there : goal.returns-in-Some-clause-there
returns-in-Some-clause-there c =
    let rows = c.self.inside.rows.items in
    let rank = session_rank c.args.session c.args.slot c.args.role in
    let found = rw (c.deref.ensures.value, c.session_rank.ensures) at c.in-Some.ensures.found in
    rw (← c.self.view_is)
    (sym (is_some-option_map (λ (r : SessionRow). r.key) (row_of session_row_rank rank rows)
    ∙ has_found session_row_rank rank rows c.in-Some.index found))

pub returns-in-Some-clause-keys : goal.returns-in-Some-clause-keys
returns-in-Some-clause-keys c = λ other t its.
    let rows = c.self.inside.rows.items in
    let gone = session_rank c.args.session c.args.slot c.args.role in
    let rank = session_rank other t its in
    let found = rw (c.deref.ensures.value, c.session_rank.ensures) at c.in-Some.ensures.found in
    let key_of = λ (r : SessionRow). r.key in
    rw (c.remove.ensures.items, found.others, ← c.self.view_is)
    (ap (option_map key_of) (row_of-without session_row_rank rank gone rows)
    ∙ option_map-if key_of (is_same gone rank) None (row_of session_row_rank rank rows))

pub returns-in-None-clause-keys : goal.returns-in-None-clause-keys
returns-in-None-clause-keys c = λ other t its.
    let rows = c.self.inside.rows.items in
    let gone = session_rank c.args.session c.args.slot c.args.role in
    let rank = session_rank other t its in
    let absent = rw (c.deref.ensures.value, c.session_rank.ensures) at c.in-None.ensures.absent in
    let key_of = λ (r : SessionRow). r.key in
    rw (← c.self.view_is)
    (ap (λ (l : List SessionRow). option_map key_of (row_of session_row_rank rank l))
    (sym (absent refl).others)
    ∙ (ap (option_map key_of) (row_of-without session_row_rank rank gone rows)
    ∙ option_map-if key_of (is_same gone rank) None (row_of session_row_rank rank rows)))
