use Rattle.std.proofs.Common.{◌≡◌, ◌≤◌, ℕ, List, length, take, drop, arith, sym, subst, rules}
use Rattle.std.proofs.Math.Seq.{take-add}
use Rattle.std.proofs.lemmas.List.{length-drop}
use Rattle.std.proofs.KnownBytes.{Appends-trans}
use Rattle.std.specs.Io.KnownBytes.{Appends}
use Rattle.trdp_script.proofs.output.write_whole.Goals as goal

pub loop-done-preserved : goal.loop-done-preserved
loop-done-preserved g c =
    let held = g.W.Write.contents in
    let rest : c.split_at.result.1.now ≡ drop c.loop-done.done c.args.bytes.now =
    c.split_at.ensures.back in
    let some : c.in-Ok.count ≤ length (drop c.loop-done.done c.args.bytes.now) =
    subst (λ (bs : List ℕ). c.in-Ok.count ≤ length bs) rest c.in-Ok.ensures.within in
    let more : Appends (held c.loop-done.writer) (held c.write_some.new.writer)
    (take c.in-Ok.count (drop c.loop-done.done c.args.bytes.now)) =
    subst (λ (bs : List ℕ). Appends (held c.loop-done.writer)
    (held c.write_some.new.writer) (take c.in-Ok.count bs)) rest c.in-Ok.ensures.written in
    record {
      within =
          omega (
            arith,
            some,
            length-drop c.loop-done.done c.args.bytes.now,
            c.loop-done.invariant.within,
          );
      so_far =
          subst (λ (bs : List ℕ). Appends (held c.args.writer.now) (held c.write_some.new.writer)
          bs) (sym (take-add c.loop-done.done c.in-Ok.count c.args.bytes.now))
          (Appends-trans (held c.args.writer.now) (held c.loop-done.writer)
          (held c.write_some.new.writer) (take c.loop-done.done c.args.bytes.now)
          (take c.in-Ok.count (drop c.loop-done.done c.args.bytes.now))
          c.loop-done.invariant.so_far more);
    }

pub returns-in-Err-clause-ok : goal.returns-in-Err-clause-ok
returns-in-Err-clause-ok g c = search rules
