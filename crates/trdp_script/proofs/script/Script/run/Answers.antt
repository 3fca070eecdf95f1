use Rattle.std.proofs.Common.{◌<◌, List, ℕ, length, arith, refl, sym, subst}
use Rattle.std.specs.Io.KnownBytes.{Consumes}
use Rattle.std.proofs.KnownBytes.{Keeps-refl}
use Rattle.trdp_script.specs.declared.fault.ScriptFault.TheVariants.{Read}
use Rattle.trdp_script.proofs.ScriptLemmas.Readings.{comes_stopped, piece_stops, read_none}
use Rattle.trdp_script.proofs.ScriptLemmas.Readings.{reader_stops}
use Rattle.trdp_script.proofs.ScriptLemmas.Readings.{reading_ends, reading_more, reading_starts}
use Rattle.trdp_script.proofs.ScriptLemmas.Readings.{reading_stops, reading_written}
use Rattle.trdp_script.proofs.script.Script.run.Goals as goal

pub loop-read-init : goal.loop-read-init
loop-read-init g c = record {
  reading = reading_starts c.args.self.now _ _ c.requires.sound;
  number = omega (arith, c.requires.number);
  room = c.requires.room.1;
  some = c.requires.room.0;
}

pub returns-in-Err : goal.returns-in-Err
returns-in-Err g c = record {
  run = λ input is. comes_stopped _ _ _ _ input _ c.in-Err.fault
      (reading_stops c.write_out.new.self _ c.in-Err.fault
      c.loop-read.invariant.reading (λ rest there. c.in-Err.ensures.err rest) input is);
}

pub returns-in-Ok-eq0 : goal.returns-in-Ok-eq0
returns-in-Ok-eq0 g c =
    let written = reading_written c.write_out.new.self _ c.loop-read.invariant.reading
    c.in_default.ensures.ok (c.write_out.ensures.sound c.loop-read.invariant.reading.sound) in
    let room : 0 < length c.read_piece.new.piece =
    omega (arith, c.in-Ok-eq0.ensures.length, c.loop-read.invariant.some) in
    let none = read_none _ _ c.in-Ok-eq0.field-0
    _ c.in-Ok-eq0.field-0-test room c.in-Ok-eq0.ensures.bytes in
    record {
      run = reading_ends c.end.new.self
          _ _ c.end.result written none.0 none.1 c.end.ensures.ok c.end.ensures.err;
    }

pub take_piece-requires-clause-number : goal.take_piece-requires-clause-number
take_piece-requires-clause-number g c =
    omega (
      arith,
      c.write_out.ensures.number,
      c.loop-read.invariant.number,
      c.loop-read.invariant.room,
      c.loop-read-test.true,
      c.in-Ok.ensures.within,
      c.in-Ok.ensures.length,
      c.split_at.ensures.front_len,
    )

pub returns-in-Err-take_piece : goal.returns-in-Err-take_piece
returns-in-Err-take_piece g c =
    let written = reading_written c.write_out.new.self _ c.loop-read.invariant.reading
    c.in_default.ensures.ok (c.write_out.ensures.sound c.loop-read.invariant.reading.sound) in
    let read = subst (λ (l : List ℕ). Consumes
    (g.R.Read.remaining c.loop-read.reader) (g.R.Read.remaining c.read_piece.new.reader) l)
    (sym c.split_at.ensures.front) c.in-Ok.ensures.bytes.0 in
    record {
      run = λ input is. comes_stopped _ _ _ _ input _ c.in-Err-take_piece.fault
          (reading_stops c.take_piece.new.self _ c.in-Err-take_piece.fault written
          (piece_stops _ _ _ _ _ c.in-Err-take_piece.fault
          c.split_at.result.0.now read c.in-Err-take_piece.ensures.err) input is);
    }

pub returns-in-Err-read_piece : goal.returns-in-Err-read_piece
returns-in-Err-read_piece g c =
    let written = reading_written c.write_out.new.self _ c.loop-read.invariant.reading
    c.in_default.ensures.ok (c.write_out.ensures.sound c.loop-read.invariant.reading.sound) in
    record {
      run = reader_stops _ c.in-Err-read_piece.fault written
          c.in-Err-read_piece.ensures.bytes c.in-Err-read_piece.ensures.fault;
    }

pub returns : goal.returns
returns g c = record {
  run = reader_stops _ Read c.loop-read.invariant.reading (Keeps-refl _) refl;
}

pub loop-read-preserved : goal.loop-read-preserved
loop-read-preserved g c =
    let written = reading_written c.write_out.new.self _ c.loop-read.invariant.reading
    c.in_default.ensures.ok (c.write_out.ensures.sound c.loop-read.invariant.reading.sound) in
    let read = subst (λ (l : List ℕ). Consumes
    (g.R.Read.remaining c.loop-read.reader) (g.R.Read.remaining c.read_piece.new.reader) l)
    (sym c.split_at.ensures.front) c.in-Ok.ensures.bytes.0 in
    record {
      reading = reading_more c.take_piece.new.self _ _ c.split_at.result.0.now
          written read c.in_default-take_piece.ensures.ok c.in_default-take_piece.ensures.sound;
      number = omega (
        arith,
        c.write_out.ensures.number,
        c.loop-read.invariant.number,
        c.loop-read.invariant.room,
        c.in-Ok.ensures.within,
        c.in-Ok.ensures.length,
        c.split_at.ensures.front_len,
        c.in_default-take_piece.ensures.number,
      );
      room = omega (arith, c.in-Ok.ensures.length, c.loop-read.invariant.room);
      some = omega (arith, c.in-Ok.ensures.length, c.loop-read.invariant.some);
    }
