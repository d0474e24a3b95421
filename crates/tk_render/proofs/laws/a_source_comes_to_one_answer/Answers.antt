use Rattle.tk_render.proofs.Rendering.{one_answer}
use Rattle.tk_render.proofs.laws.a_source_comes_to_one_answer.Goals as goal

pub returns : goal.returns
returns c = one_answer
