use Rattle.std.proofs.Common.{◌≡◌, ◌∙◌, ap, ℕ, ℤ, pos, ◌+ℤ◌, ◌-ℤ◌, int_div}
use Rattle.tk_affine.proofs.Wide.{fits_scaled}
use Rattle.tk_geom.specs.GridLines.{multiples_between, ceiling_of, floor_of, count_between, rising, lines_at}
use Rattle.tk_geom.specs.GridViews.{line_at}
use Rattle.tk_geom.proofs.Edges.{edge_fits, still_a_step, below_fits, below_is, below_is_near, above_fits, above_is, above_is_near}
use Rattle.tk_geom.proofs.Edges.{quotient_is, quotient_is_near}
use Rattle.tk_geom.proofs.Wrapped.{in64}
use Rattle.tk_geom.proofs.grids.lines_about.Goals as goal

pub nonzero_div-edge : goal.nonzero_div-edge
nonzero_div-edge c = edge_fits c.sp-edge.result c.sp-edge.ensures.range

pub overflow_sub-sp : goal.overflow_sub-sp
overflow_sub-sp c = below_fits c.sp-edge.result c.sp-edge.ensures.range c.sp.result c.sp.ensures.range

pub ceiling_of-first-requires-clause-step : goal.ceiling_of-first-requires-clause-step
ceiling_of-first-requires-clause-step c = still_a_step c.sp-2.result c.sp-2.ensures.range c.args.step c.sp-2.ensures.value c.requires

pub ceiling_of-first-requires-clause-z : goal.ceiling_of-first-requires-clause-z
ceiling_of-first-requires-clause-z c = below_is_near c.sp-edge.result c.sp-edge.ensures.range c.sp.result c.sp.ensures.range

pub overflow_add-sp : goal.overflow_add-sp
overflow_add-sp c = above_fits c.sp-edge.result c.sp-edge.ensures.range c.sp-3.result c.sp-3.ensures.range

pub floor_of-last-requires-clause-step : goal.floor_of-last-requires-clause-step
floor_of-last-requires-clause-step c = still_a_step c.sp-4.result c.sp-4.ensures.range c.args.step c.sp-4.ensures.value c.requires

pub floor_of-last-requires-clause-z : goal.floor_of-last-requires-clause-z
floor_of-last-requires-clause-z c = above_is_near c.sp-edge.result c.sp-edge.ensures.range c.sp-3.result c.sp-3.ensures.range

pub count_between-requires-clause-a : goal.count_between-requires-clause-a
count_between-requires-clause-a c = quotient_is_near c.ceiling_of-first.result c.ceiling_of-first.ensures.within

pub count_between-requires-clause-b : goal.count_between-requires-clause-b
count_between-requires-clause-b c = quotient_is_near c.floor_of-last.result c.floor_of-last.ensures.within

pub returns-clause-first : goal.returns-clause-first
returns-clause-first c = quotient_is_near c.ceiling_of-first.result c.ceiling_of-first.ensures.within

pub returns-clause-count : goal.returns-clause-count
returns-clause-count c = c.count_between.ensures.within

pub returns-clause-value : goal.returns-clause-value
unfolding multiples_between
returns-clause-value c =
    let first : in64 c.ceiling_of-first.result ≡ ceiling_of (c.args.about.now.low -ℤ int_div c.args.step (pos 100)) c.args.step =
    quotient_is c.ceiling_of-first.result c.ceiling_of-first.ensures.within
    ∙ c.ceiling_of-first.ensures.value
    ∙ ap (λ z. ceiling_of z (in64 c.sp-2.result)) (below_is c.sp-edge.result c.sp-edge.ensures.range c.sp.result c.sp.ensures.range)
    ∙ ap (λ z. ceiling_of (z -ℤ int_div c.sp-edge.result (pos 100)) (in64 c.sp-2.result)) c.sp.ensures.value
    ∙ ap (λ z. ceiling_of (c.args.about.now.low -ℤ int_div z (pos 100)) (in64 c.sp-2.result)) c.sp-edge.ensures.value
    ∙ ap (λ z. ceiling_of (c.args.about.now.low -ℤ int_div c.args.step (pos 100)) z) (fits_scaled c.sp-2.result c.sp-2.ensures.range
    ∙ c.sp-2.ensures.value) in
    let last : in64 c.floor_of-last.result ≡ floor_of (c.args.about.now.high +ℤ int_div c.args.step (pos 100)) c.args.step =
    quotient_is c.floor_of-last.result c.floor_of-last.ensures.within
    ∙ c.floor_of-last.ensures.value
    ∙ ap (λ z. floor_of z (in64 c.sp-4.result)) (above_is c.sp-edge.result c.sp-edge.ensures.range c.sp-3.result c.sp-3.ensures.range)
    ∙ ap (λ z. floor_of (z +ℤ int_div c.sp-edge.result (pos 100)) (in64 c.sp-4.result)) c.sp-3.ensures.value
    ∙ ap (λ z. floor_of (c.args.about.now.high +ℤ int_div z (pos 100)) (in64 c.sp-4.result)) c.sp-edge.ensures.value
    ∙ ap (λ z. floor_of (c.args.about.now.high +ℤ int_div c.args.step (pos 100)) z) (fits_scaled c.sp-4.result c.sp-4.ensures.range
    ∙ c.sp-4.ensures.value) in
    let lines : ℤ → ℕ → _ = λ k n. lines_at (line_at c.args.direction c.args.ends.now.low c.args.ends.now.high) c.args.step (rising k n) in
    ap (lines (in64 c.ceiling_of-first.result)) c.count_between.ensures.value
    ∙ ap (λ z. lines z (count_between z (in64 c.floor_of-last.result))) first
    ∙ ap (λ z. lines (ceiling_of (c.args.about.now.low -ℤ int_div c.args.step (pos 100)) c.args.step)
    (count_between (ceiling_of (c.args.about.now.low -ℤ int_div c.args.step (pos 100)) c.args.step) z)) last
