use Rattle.std.proofs.Common.{◌-◌, ◌≤◌, length, take}
use Rattle.tk_io.specs.Sink.{Takes}
use Rattle.tk_io.proofs.writing.write_all.Given as goal

abbrev pub invariant-loop-done : goal.invariant-loop-done
invariant-loop-done g l =
    let then = g.O.Sink.meaning l.fn.out in
    let now = g.O.Sink.meaning l.out in
    record {
      within : l.done ≤ length l.piece;
      no_fall : then.faults ≤ now.faults;
      told : Takes then now (take l.done l.piece);
    }

abbrev pub decreases-loop-done : goal.decreases-loop-done
decreases-loop-done g l = length l.piece - l.done
