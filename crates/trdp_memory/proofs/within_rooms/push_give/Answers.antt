use Rattle.std.proofs.Common.{◌++◌, length, sym, ◌∙◌, ap}
use Rattle.trdp_memory.specs.Rows.{gives_of, bytes_in}
use Rattle.trdp_memory.proofs.GiveRowLemmas.{gives_append, bytes_append}
use Rattle.trdp_memory.proofs.within_rooms.push_give.Goals as goal

pub returns-clause-gives : goal.returns-clause-gives
returns-clause-gives c =
    ap (λ l. gives_of l c.push_reserved.new.self.items) c.append.ensures.items ∙ ap (λ l.
    gives_of (c.args.held.now.items ++ c.args.bytes.now) l) c.push_reserved.ensures.items
    ∙ gives_append c.args.given.now.items c.args.row
    c.args.held.now.items c.args.bytes.now c.requires.whole c.requires.len

pub returns-clause-whole : goal.returns-clause-whole
returns-clause-whole c =
    ap bytes_in c.push_reserved.ensures.items
    ∙ bytes_append c.args.given.now.items c.args.row c.args.held.now.items
    c.args.bytes.now c.requires.whole c.requires.len ∙ ap length (sym c.append.ensures.items)
