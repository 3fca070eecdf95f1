use Rattle.std.proofs.Common.{arith}
use Rattle.trdp_filter.specs.Telegrams.{telegram_model}
use Rattle.trdp_datagrams.proofs.NoteLemmas.HeardByRuns.{heard_row}
use Rattle.trdp_datagrams.proofs.first_listeners.hear_row.Goals as goal

pub returns-clause-heard : goal.returns-clause-heard
returns-clause-heard c = λ s.
    rw (c.note.ensures, c.handle_hit-found.ensures.found)
    (heard_row (telegram_model c.args.telegram.now)
    c.args.globals.now c.args.store.now c.args.heard.now c.args.row.now s
    (omega (arith, c.requires.slot, c.requires.length)))
