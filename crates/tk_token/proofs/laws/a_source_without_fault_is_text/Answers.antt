use Rattle.std.proofs.Common.{Ok}
use Rattle.tk_token.proofs.Faulty.{before_tokens}
use Rattle.tk_token.proofs.laws.a_source_without_fault_is_text.Goals as goal

pub returns : goal.returns
returns c = λ source toks l. before_tokens source (Ok toks) l
