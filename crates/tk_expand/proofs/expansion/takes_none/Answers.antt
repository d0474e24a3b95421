use Rattle.std.proofs.Common.{◌≡◌, length, arith}
use Rattle.tk_expand.proofs.Calls.{no_arguments_share_the_body}
use Rattle.tk_expand.proofs.expansion.takes_none.Goals as goal

pub returns-then-is_empty : goal.returns-then-is_empty
returns-then-is_empty c =
    let none : length c.args.arguments.now ≡ 0 = grind (arith, c.is_empty.ensures, c.if-is_empty.true) in
    λ _. no_arguments_share_the_body c.args.arguments.now c.args.body.now none
