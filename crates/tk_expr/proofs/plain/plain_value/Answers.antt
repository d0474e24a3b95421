use Rattle.tk_expr.proofs.ShortWay.{plain_is}
use Rattle.tk_expr.proofs.plain.plain_value.Goals as goal

pub returns : goal.returns
returns c =
    plain_is c.args.font.now c.args.list.now c.after_sign-negative.result.1.now c.after_sign-negative.result.0 (
      c.in_ok-found.found,
      c.in_ok-found.unit,
    ) c.signed.result
    c.after_sign-negative.ensures c.in_ok-found.ensures c.signed.ensures
