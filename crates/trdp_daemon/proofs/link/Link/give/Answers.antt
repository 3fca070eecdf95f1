use Rattle.std.proofs.Common.{[], ◌∷◌, refl, sym}
use Rattle.trdp_wire.specs.Told.{give_of}
use Rattle.trdp_daemon.proofs.link.Link.give.Goals as goal

pub returns-clause-carried : goal.returns-clause-carried
returns-clause-carried g c =
    let given = give_of c.args.port c.args.to c.args.bytes.now c.give-given.result in
    record {
      gives = given ∷ [];
      offers = refl;
      takes = c.give-given.ensures.takes_nothing;
      given = c.give-given.ensures.offers;
      totals = c.count_give.ensures given (sym c.is_err.ensures.value);
    }
