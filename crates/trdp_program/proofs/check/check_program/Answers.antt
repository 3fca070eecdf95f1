use Rattle.std.proofs.Common.{◌≢◌, ℕ, List, Option, Result, Ok, Err, IfErr, refl, inl, inr}
use Rattle.std.proofs.KnownBytes.{Keeps-refl}
use Rattle.trdp_dataset.specs.Configs.{ConfigModel, ReadsToml, config_of}
use Rattle.trdp_program.specs.declared.faults.ServeFault.{ServeFault}
use Rattle.trdp_program.specs.declared.faults.ServeFault.TheVariants.{Bind}
use Rattle.trdp_program.specs.Checking.{ChecksProgram}
use Rattle.trdp_program.specs.Faults.{AppendsText, EndsService}
use Rattle.trdp_program.proofs.check.check_program.Goals as goal

-- a check of bytes that are a configuration, by its end
checked : {bytes : List ℕ} {config : ConfigModel} {status : ℕ}
    (end : Result (Unit {0}) ServeFault) (old new errors behind : Option (List ℕ))
    → ReadsToml config_of bytes (Ok config) → AppendsText old new
    → IfErr end (λ fault. fault ≢ Bind) → EndsService end errors behind status
    → ChecksProgram bytes old new errors behind status
checked {config = config} (Ok done) old new errors behind reads written none ends =
    inr (inl (record {
      config = config;
      is = reads;
      status_is = ends.0;
      written = written;
      faultless = ends.1;
    }))
checked {config = config} (Err fault) old new errors behind reads written none ends =
    inr (inr (record {
      config = config;
      is = reads;
      fault = fault;
      not_bind = none;
      status_is = ends.0;
      written = written;
      told = ends.1;
    }))

pub returns-in-Ok-clause-checks : goal.returns-in-Ok-clause-checks
returns-in-Ok-clause-checks g c =
    checked c.write_report.result (g.W.Write.contents c.args.writer.now)
    (g.W.Write.contents c.write_report.new.writer) (g.E.Write.contents c.args.errors.now)
    (g.E.Write.contents c.end_status.new.errors) c.in-Ok.ensures.reads
    c.write_report.ensures.written c.write_report.ensures.err c.end_status.ensures.ends

pub returns-in-Err-clause-checks : goal.returns-in-Err-clause-checks
returns-in-Err-clause-checks g c = inl (
  record {
    fault = c.in-Err.fault;
    is = c.in-Err.ensures.reads;
    status_is = refl;
    told = c.tell_config_fault.ensures;
  },
  Keeps-refl (g.W.Write.contents c.args.writer.now),
)
