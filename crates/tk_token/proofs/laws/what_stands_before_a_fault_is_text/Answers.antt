use Rattle.std.proofs.Common.{Err}
use Rattle.tk_token.proofs.Faulty.{before_fault}
use Rattle.tk_token.proofs.laws.what_stands_before_a_fault_is_text.Goals as goal

pub returns : goal.returns
returns c = λ source fault l. before_fault source (Err fault) l
