use Rattle.std.proofs.Common.{◌∙◌, ap}
use Rattle.tk_num.specs.Number.{scaled, product}
use Rattle.tk_num.proofs.Wrap.{wrapped_product_fits, wrapped_product}
use Rattle.tk_num.proofs.arithmetic.mul.Goals as goal

pub overflow_mul-sp : goal.overflow_mul-sp
overflow_mul-sp c = wrapped_product_fits c.sp.result c.sp-2.result c.sp.ensures.range c.sp-2.ensures.range

pub returns : goal.returns
returns c =
    c.in_range.ensures
    ∙ ap scaled (wrapped_product c.sp.result c.sp-2.result c.sp.ensures.range c.sp-2.ensures.range)
    ∙ ap (λ z. scaled (product z c.sp-2.result)) c.sp.ensures.value
    ∙ ap (λ z. scaled (product c.args.x z)) c.sp-2.ensures.value
