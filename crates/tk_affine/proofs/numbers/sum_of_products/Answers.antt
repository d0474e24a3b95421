use Rattle.std.proofs.Common.{◌∙◌, ap, ◌+ℤ◌, ◌*ℤ◌, arith}
use Rattle.tk_num.proofs.Wrap.{wrapped_mul, wrapped_add, product_small, sum_fits}
use Rattle.tk_affine.proofs.Wide.{sum_bound, scaled_product_fits}
use Rattle.tk_affine.proofs.numbers.sum_of_products.Goals as goal

pub overflow_add-result : goal.overflow_add-result
overflow_add-result c =
    rw (
      wrapped_mul c.sp.result c.sp-2.result c.sp.ensures.range c.sp-2.ensures.range,
      wrapped_mul c.sp-3.result c.sp-4.result c.sp-3.ensures.range
          c.sp-4.ensures.range,
    )
    (sum_fits (c.sp.result *ℤ c.sp-2.result) (c.sp-3.result *ℤ c.sp-4.result) (product_small c.sp.result c.sp-2.result c.sp.ensures.range
    c.sp-2.ensures.range) (product_small c.sp-3.result c.sp-4.result c.sp-3.ensures.range c.sp-4.ensures.range))

pub returns-clause-value : goal.returns-clause-value
returns-clause-value c =
    let p = product_small c.sp.result c.sp-2.result c.sp.ensures.range c.sp-2.ensures.range in
    let q = product_small c.sp-3.result c.sp-4.result c.sp-3.ensures.range c.sp-4.ensures.range in
    wrapped_add _ _ (c.sp.result *ℤ c.sp-2.result) (c.sp-3.result *ℤ c.sp-4.result) (wrapped_mul c.sp.result c.sp-2.result c.sp.ensures.range
    c.sp-2.ensures.range) (wrapped_mul c.sp-3.result c.sp-4.result c.sp-3.ensures.range c.sp-4.ensures.range) p q
    ∙ ap (λ z. z *ℤ c.sp-2.result +ℤ c.sp-3.result *ℤ c.sp-4.result) c.sp.ensures.value
    ∙ ap (λ z. c.args.a *ℤ z +ℤ c.sp-3.result *ℤ c.sp-4.result) c.sp-2.ensures.value
    ∙ ap (λ z. c.args.a *ℤ c.args.x +ℤ z *ℤ c.sp-4.result) c.sp-3.ensures.value
    ∙ ap (λ z. c.args.a *ℤ c.args.x +ℤ c.args.b *ℤ z) c.sp-4.ensures.value

pub returns-clause-within : goal.returns-clause-within
returns-clause-within c =
    let p = product_small c.sp.result c.sp-2.result c.sp.ensures.range c.sp-2.ensures.range in
    let q = product_small c.sp-3.result c.sp-4.result c.sp-3.ensures.range c.sp-4.ensures.range in
    let value = wrapped_add _ _ (c.sp.result *ℤ c.sp-2.result) (c.sp-3.result *ℤ c.sp-4.result) (wrapped_mul c.sp.result c.sp-2.result
    c.sp.ensures.range c.sp-2.ensures.range) (wrapped_mul c.sp-3.result c.sp-4.result c.sp-3.ensures.range c.sp-4.ensures.range) p q in
    rw value (omega (arith, p, q, sum_bound (c.sp.result *ℤ c.sp-2.result) (c.sp-3.result *ℤ c.sp-4.result)))

pub overflow_mul-result : goal.overflow_mul-result
overflow_mul-result c = scaled_product_fits c.sp.result c.sp-2.result c.sp.ensures.range c.sp-2.ensures.range

pub overflow_mul-result-2 : goal.overflow_mul-result-2
overflow_mul-result-2 c = scaled_product_fits c.sp-3.result c.sp-4.result c.sp-3.ensures.range c.sp-4.ensures.range
