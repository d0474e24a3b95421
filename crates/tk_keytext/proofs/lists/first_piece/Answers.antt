use Rattle.std.proofs.Common.{sym}
use Rattle.tk_keytext.proofs.Pieces.{found_shorter}
use Rattle.tk_keytext.proofs.lists.first_piece.Goals as goal

pub returns-in-Some-clause-shorter : goal.returns-in-Some-clause-shorter
returns-in-Some-clause-shorter c = λ some. found_shorter 44 c.args.list.now c.in-Some.found.0.now c.in-Some.found.1.now (sym c.in-Some.ensures)
