use Rattle.std.proofs.Common.{ℕ, ◌-◌, List, length, drop, Ok, subst, arith, length-drop}
use Rattle.std.proofs.lemmas.List.{take_all}
use Rattle.tk_io.specs.Sink.{Writes}
use Rattle.tk_io.proofs.WriteSteps.{Takes-more}
use Rattle.tk_io.proofs.writing.write_all.Goals as goal

pub loop-done-preserved : goal.loop-done-preserved
loop-done-preserved g c =
    let mid = g.O.Sink.meaning c.loop-done.out in
    let new = g.O.Sink.meaning c.write.new.self in
    let rest = drop c.loop-done.done c.args.piece.now in
    let written = subst (λ (w : List ℕ). Writes w mid new (Ok c.in_ok-done.field-0)) (take_all (length c.args.piece.now - c.loop-done.done) rest
    (omega (arith, length-drop c.loop-done.done c.args.piece.now))) c.in_ok-done.ensures in
    record {
      within = omega (arith, written.bound, length-drop c.loop-done.done c.args.piece.now);
      no_fall = omega (arith, c.loop-done.invariant.no_fall, written.no_fall);
      told = Takes-more (g.O.Sink.meaning c.args.out.now) mid new c.args.piece.now c.loop-done.done c.in_ok-done.field-0 c.loop-done.invariant.told
          written.bytes;
    }
