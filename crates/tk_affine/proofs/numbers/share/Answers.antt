use Rattle.std.proofs.Common.{◌≡◌, ◌∙◌, ℤ, ◌*ℤ◌, int_div, unsigned_abs, ◌≤◌, ◌^◌, to_z, of_z}
use Rattle.std.specs.Int.{w64, w128}
use Rattle.std.proofs.lemmas.Int.{to_z-of_z}
use Rattle.tk_affine.proofs.Wide.{abs_fits, wide_product_fits, wide_share_fits, wide_share, share_within}
use Rattle.tk_affine.proofs.numbers.share.Goals as goal

share_is : (x y z a b d : ℤ) → x ≡ a → y ≡ b → z ≡ d → unsigned_abs a ≤ 1073741823 → unsigned_abs b ≤ 4611686009837453316 → unsigned_abs d ≤ 2 ^ 63
    → to_z w128 (of_z w128 (int_div (to_z w128 (of_z w128 (to_z w128 (of_z w128 x) *ℤ to_z w128 (of_z w128 y)))) (to_z w128 (of_z w128 z))))
    ≡ int_div (a *ℤ b) d
share_is x y z a b d ex ey ez la lb ld = rw (ex, ey, ez) (wide_share a b d la lb ld)

pub returns-clause-value : goal.returns-clause-value
returns-clause-value c =
    share_is _ _ _ c.args.r c.args.n c.args.d
    (c.from.ensures ∙ to_z-of_z w64 c.args.r c.ranges.r)
    (c.from-2.ensures ∙ to_z-of_z w64 c.args.n c.ranges.n)
    (c.from-3.ensures ∙ to_z-of_z w64 c.args.d c.ranges.d)
    c.requires.r c.requires.n (abs_fits c.args.d c.ranges.d)

pub returns-clause-within : goal.returns-clause-within
returns-clause-within c = share_within c.args.r c.args.n c.args.d _ c.requires.r c.requires.n (returns-clause-value c)

pub overflow_mul-result : goal.overflow_mul-result
overflow_mul-result c =
    wide_product_fits c.from.result c.from-2.result c.args.r c.args.n (c.from.ensures ∙ to_z-of_z w64 c.args.r c.ranges.r)
    (c.from-2.ensures ∙ to_z-of_z w64 c.args.n c.ranges.n)
    c.requires.r c.requires.n

pub nonzero_div-result : goal.nonzero_div-result
nonzero_div-result c =
    wide_share_fits c.from.result c.from-2.result c.from-3.result c.args.r c.args.n c.args.d (c.from.ensures ∙ to_z-of_z w64 c.args.r c.ranges.r)
    (c.from-2.ensures ∙ to_z-of_z w64 c.args.n c.ranges.n)
    (c.from-3.ensures ∙ to_z-of_z w64 c.args.d c.ranges.d) c.requires.r c.requires.n c.requires.d (abs_fits c.args.d c.ranges.d)
