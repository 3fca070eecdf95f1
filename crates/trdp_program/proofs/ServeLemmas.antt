-- The totals of a service's turns.
-- For `serve_turns`, `serve_service`, `serve_program` and `serve_with`.
-- By cases: a fault before the first turn, or the totals of that many turns.
use Rattle.std.proofs.Common.{◌≡◌, ℕ, ◌+◌, List, ◌++◌, Option, None, Some, Result, Ok, Err}
use Rattle.std.proofs.Common.{◌∙◌, ap}
use Rattle.std.proofs.Common.{subst, arith, inl, inr}
use Rattle.std.proofs.KnownBytes.{Keeps-refl, Keeps-trans}
use Rattle.std.specs.Io.KnownBytes.{Appends, Keeps}
use Rattle.trdp_dataset.specs.Configs.{ConfigModel, ReadsToml, config_of}
use Rattle.trdp_daemon.specs.declared.totals.Totals.{Totals}
use Rattle.trdp_daemon.specs.Daemons.{DaemonState, HasServed}
use Rattle.trdp_wire.specs.Told.{Taking, Give}
use Rattle.trdp_wire.specs.declared.bind_fault.BindFault.{BindFault}
use Rattle.trdp_wire.specs.declared.bind_fault.BindFault.TheVariants as bind
use Rattle.trdp_program.specs.declared.faults.ServeFault.{ServeFault}
use Rattle.trdp_program.specs.declared.faults.ServeFault.TheVariants.{Bind, Write, OutOfMemory}
use Rattle.trdp_program.specs.Faults.{EndsService, serve_fault}
use Rattle.trdp_program.specs.Serving.{CountsTurns, CountsTurnsOver, EndsTurns, WritesNoTotals}
use Rattle.trdp_program.specs.Serving.{ServesProgram}

-- totals of turns over a wire and a clock are those of that many turns
counts_turns : {W C : Type 0} {takings_in : W → Option (List Taking)}
    {gives_in : W → Option (List Give)} {readings_in : C → Option (List ℕ)}
    {config : ConfigModel} {lease : Option ℕ} {wire : W} {clock : C} {n : ℕ} (totals : Totals)
    → CountsTurnsOver takings_in gives_in readings_in config lease wire clock n totals
    → CountsTurns config lease n totals
counts_turns totals p = record {
  turns = p.served.turns;
  gives = p.served.gives;
  count = p.served.count;
  are = record {
    ports = p.served.ports;
    offers = p.served.offers;
    totals_are = p.totals_are ∙ p.served.totals;
    counted = p.served.counted;
  };
}

-- totals that were read after turns, of which the first was the daemon's first
pub counted_over : {W C : Type 0} {takings_in : W → Option (List Taking)}
    {gives_in : W → Option (List Give)} {readings_in : C → Option (List ℕ)}
    {config : ConfigModel} {lease : Option ℕ} {wire : W} {clock : C} {daemon : DaemonState W C}
    (n : ℕ) (totals : Totals)
    → HasServed takings_in gives_in readings_in config lease wire clock (0 + n) daemon
    → totals ≡ daemon.totals
    → CountsTurnsOver takings_in gives_in readings_in config lease wire clock n totals
counted_over {takings_in = takings_in} {gives_in} {readings_in} {config} {lease} {wire} {clock}
    {daemon = daemon} n totals p is =
    let sum : 0 + n ≡ n = omega arith in
    record {
      daemon = daemon;
      served = subst (λ (k : ℕ). HasServed takings_in gives_in readings_in config lease wire clock
          k daemon) sum p;
      totals_are = is;
    }

-- what is known of totals whose line wasn't written, if less is asked
unwritten_less : (P Q : Totals → Type 0) (fault : ServeFault) (old new : Option (List ℕ))
    → ((totals : Totals) → P totals → Q totals) → WritesNoTotals fault P old new
    → WritesNoTotals fault Q old new
unwritten_less P Q Bind old new less p = p
unwritten_less P Q OutOfMemory old new less p = p
unwritten_less P Q Write old new less p = (p.0, less p.0 p.1, p.2)

-- bytes that come after a stream was kept as it was
behind_kept : (a b c : Option (List ℕ)) (bytes : List ℕ) → Keeps a b → Appends b c bytes
    → Appends a c bytes
behind_kept None b c bytes kept grown = tt
behind_kept (Some x) None c bytes kept grown = absurd kept
behind_kept (Some x) (Some y) None bytes kept grown = absurd grown
behind_kept (Some x) (Some y) (Some z) bytes kept grown = grown ∙ ap (λ l. l ++ bytes) kept

-- what a service has written, if less is asked of the totals
ends_less : (P Q : Totals → Type 0) (end : Result (Unit {0}) ServeFault) (old new : Option (List ℕ))
    → ((totals : Totals) → P totals → Q totals) → EndsTurns P end old new
    → EndsTurns Q end old new
ends_less P Q (Ok done) old new less p = (p.0, less p.0 p.1, p.2)
ends_less P Q (Err fault) old new less p = unwritten_less P Q fault old new less p

-- the same of a daemon's turns
pub ends_over : (W C : Type 0) (takings_in : W → Option (List Taking))
    (gives_in : W → Option (List Give)) (readings_in : C → Option (List ℕ)) (config : ConfigModel)
    (lease : Option ℕ) (wire : W) (clock : C) (n : ℕ) (end : Result (Unit {0}) ServeFault)
    (old new : Option (List ℕ))
    → EndsTurns (CountsTurnsOver takings_in gives_in readings_in config lease wire clock n) end old
    new
    → EndsTurns (CountsTurns config lease n) end old new
ends_over W C takings_in gives_in readings_in config lease wire clock n end old new p =
    ends_less (CountsTurnsOver takings_in gives_in readings_in config lease wire clock n)
    (CountsTurns config lease n) end old new (λ totals q. counts_turns totals q) p

-- a node of a configuration that was read was served, with this lease
pub serves_config : {bytes : List ℕ} {config : ConfigModel} {own lease : Option ℕ} {n status : ℕ}
    (end : Result (Unit {0}) ServeFault) (old new errors before behind : Option (List ℕ))
    → ReadsToml config_of bytes (Ok config) → own ≡ lease → Keeps errors before
    → EndsTurns (CountsTurns config own n) end old new → EndsService end before behind status
    → ServesProgram bytes lease n old new errors behind status
serves_config {config = config} {own} {lease} {n} (Ok done) old new errors before behind reads same
    kept ends tells = inr (record {
      config = config;
      is = reads;
      serves = inl (record {
        totals = ends.0;
        counted = subst (λ (l : Option ℕ). CountsTurns config l n ends.0) same ends.1;
        status_is = tells.0;
        written = ends.2;
        faultless = Keeps-trans errors before behind kept tells.1;
      });
    })
serves_config {config = config} {own} {lease} {n} (Err fault) old new errors before behind reads
    same kept ends tells = inr (record {
      config = config;
      is = reads;
      serves = inr (record {
        fault = fault;
        status_is = tells.0;
        written = subst (λ (l : Option ℕ). WritesNoTotals fault (CountsTurns config l n) old new)
            same ends;
        told = (tells.1.0, behind_kept errors before behind _ kept tells.1.1);
      });
    })

-- nothing is written if a port or a path is refused
pub early_fault : (counts : Totals → Type 0) (fault : BindFault) (told : Option (List ℕ))
    → WritesNoTotals (serve_fault fault) counts told told
early_fault counts bind.Bind told = Keeps-refl told
early_fault counts bind.OutOfMemory told = Keeps-refl told
