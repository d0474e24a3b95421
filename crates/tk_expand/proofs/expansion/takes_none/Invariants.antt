use Rattle.std.proofs.Common.{◌≡◌, take}
use Rattle.tk_expand.specs.Arguments.{with_arguments}
use Rattle.tk_expand.specs.Texts.{texts_of}
use Rattle.tk_expand.proofs.expansion.takes_none.Given as goal

abbrev pub invariant-loop-tok : goal.invariant-loop-tok
invariant-loop-tok l = with_arguments (texts_of l.arguments) (take l.tok-index l.body) ≡ take l.tok-index l.body
