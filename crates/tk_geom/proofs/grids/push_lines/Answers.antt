use Rattle.std.proofs.Common.{◌≡◌, ◌∙◌, refl, ap, subst, ℤ, pos, ◌+ℤ◌, ◌*ℤ◌, Ok}
use Rattle.std.specs.Int.{w64}
use Rattle.std.proofs.lemmas.Int.{to_z-of_z}
use Rattle.std.proofs.lemmas.Result.{err_from_is_err_and}
use Rattle.tk_token.specs.Refusals.{Fails}
use Rattle.tk_geom.specs.GridLines.{GridLine}
use Rattle.tk_geom.specs.Grids.{grid_appended, grid_of, line_drawn}
use Rattle.tk_geom.specs.GridViews.{line_at}
use Rattle.tk_geom.proofs.Appending.{nothing_more, goes_further}
use Rattle.tk_geom.proofs.LinesDrawn.{index_within, all_left, line_more, line_fails, lines_end}
use Rattle.tk_geom.proofs.grids.push_lines.Goals as goal

pub returns-in_err-push_line-clause-gives : goal.returns-in_err-push_line-clause-gives
returns-in_err-push_line-clause-gives c =
    let p = err_from_is_err_and c.from_residual.result c.from_residual.ensures.1 in
    let lines = c.args.lines.now in
    let line : ℤ → GridLine = line_at lines.direction lines.ends.low lines.ends.high in
    let is : c.line_at-line.result ≡ line ((lines.first +ℤ pos c.loop-i.i) *ℤ lines.step) =
    c.line_at-line.ensures ∙ ap line (to_z-of_z w64 c.multiple_at.result (record { sfits = c.multiple_at.type_inv }) ∙ c.multiple_at.ensures) in
    rw (p.1, p.2) (
    line_fails c.args.m.now c.args.units.now.budget c.args.at c.in_err-push_line.field-0.0 line lines.step lines.first lines.count c.loop-i.i
    c.loop-i.units.used c.line_at-line.result c.loop-i.segs _ c.loop-i-test.true is c.loop-i.invariant.told
    (subst (λ b. Fails c.in_err-push_line.field-0.0 (grid_appended c.loop-i.segs
    (line_drawn c.args.m.now b c.args.at c.loop-i.units.used c.line_at-line.result))) c.loop-i.invariant.budget c.in_err-push_line.ensures.gives))

pub loop-i-preserved : goal.loop-i-preserved
loop-i-preserved c =
    let lines = c.args.lines.now in
    let line : ℤ → GridLine = line_at lines.direction lines.ends.low lines.ends.high in
    let is : c.line_at-line.result ≡ line ((lines.first +ℤ pos c.loop-i.i) *ℤ lines.step) =
    c.line_at-line.ensures ∙ ap line (to_z-of_z w64 c.multiple_at.result (record { sfits = c.multiple_at.type_inv }) ∙ c.multiple_at.ensures) in
    let kept = c.in_ok-push_line.ensures.kept in
    record {
      told =
          c.loop-i.invariant.told
          ∙ line_more c.args.m.now c.args.units.now.budget c.args.at line lines.step lines.first lines.count c.loop-i.i c.loop-i.units.used
          c.push_line.new.units.used c.line_at-line.result c.loop-i.segs c.push_line.new.segs c.loop-i-test.true is
          (subst (λ b. grid_appended c.loop-i.segs (line_drawn c.args.m.now b c.args.at c.loop-i.units.used c.line_at-line.result) ≡ Ok
          (grid_of c.push_line.new.segs c.push_line.new.units.used)) c.loop-i.invariant.budget c.in_ok-push_line.ensures.gives);
      budget = c.in_ok-push_line.ensures.budget ∙ c.loop-i.invariant.budget;
      kept = goes_further _ _ _ c.loop-i.invariant.kept kept;
    }

pub loop-i-init : goal.loop-i-init
loop-i-init c =
    let lines = c.args.lines.now in
    let line : ℤ → GridLine = line_at lines.direction lines.ends.low lines.ends.high in
    record {
      told =
          ap (grid_appended c.args.segs.now)
          (all_left c.args.m.now c.args.units.now.budget c.args.at line lines.step lines.first lines.count c.args.units.now.used);
      budget = refl;
      kept = nothing_more c.args.segs.now;
    }

pub multiple_at-requires-clause-first : goal.multiple_at-requires-clause-first
multiple_at-requires-clause-first c = c.requires.first

pub multiple_at-requires-clause-within : goal.multiple_at-requires-clause-within
multiple_at-requires-clause-within c = index_within c.loop-i.i c.args.lines.now.count 2168958485 c.loop-i-test.true c.requires.count

pub returns-in_err-push_line-clause-budget : goal.returns-in_err-push_line-clause-budget
returns-in_err-push_line-clause-budget c = c.in_err-push_line.ensures.budget ∙ c.loop-i.invariant.budget

pub returns-in_err-push_line-clause-kept : goal.returns-in_err-push_line-clause-kept
returns-in_err-push_line-clause-kept c = goes_further _ _ _ c.loop-i.invariant.kept c.in_err-push_line.ensures.kept

pub returns-clause-gives : goal.returns-clause-gives
returns-clause-gives c =
    let lines = c.args.lines.now in
    let line : ℤ → GridLine = line_at lines.direction lines.ends.low lines.ends.high in
    c.loop-i.invariant.told
    ∙ lines_end c.args.m.now c.args.units.now.budget c.args.at line lines.step lines.first lines.count c.loop-i.i c.loop-i.units.used c.loop-i.segs
    c.loop-i-test.false

pub returns-clause-budget : goal.returns-clause-budget
returns-clause-budget c = c.loop-i.invariant.budget

pub returns-clause-kept : goal.returns-clause-kept
returns-clause-kept c = c.loop-i.invariant.kept
