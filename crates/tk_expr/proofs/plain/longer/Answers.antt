use Rattle.std.proofs.Common.{Bool}
use Rattle.tk_expr.specs.Plain.{counting}
use Rattle.tk_expr.proofs.ShortWay.{ends_from}
use Rattle.tk_expr.proofs.plain.longer.Goals as goal

pub returns : goal.returns
returns c =
    ends_from c.args.font.now (counting c.args.first) (counting c.all_digits-decimal.result.0) c.args.list.now c.all_digits-decimal.result.1.now
    (λ (negative : Bool). c.all_digits-decimal.ensures negative c.args.font.now) c.measured.result c.measured.ensures
