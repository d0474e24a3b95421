use Rattle.std.proofs.Common.{◌≡◌, length}
use Rattle.tk_expr.specs.Machine as machine
use Rattle.tk_expr.specs.Pieces.{pieces_of}
use Rattle.tk_expr.proofs.machine.ExprState.run.Given as goal

abbrev pub invariant-loop-piece : goal.invariant-loop-piece
invariant-loop-piece l = machine.run l.font l.fn.self (pieces_of l.list) ≡ machine.run l.font l.self (pieces_of l.rest)

abbrev pub decreases-loop-piece : goal.decreases-loop-piece
decreases-loop-piece l = length l.rest
