use Rattle.std.proofs.Common.{append_assoc}
use Rattle.tk_program.specs.Lines as text
use Rattle.tk_program.proofs.lines.fault_line.Goals as goal

pub returns : goal.returns
unfolding text.placed_line
returns c = rw (← c.code_name-name.ensures) (simp append_assoc (c.format.ensures.ok))
