use Rattle.std.proofs.Common.{◌≡◌, ◌∙◌, subst, Ok}
use Rattle.std.proofs.lemmas.Result.{err_from_is_err_and}
use Rattle.tk_token.specs.Refusals.{Fails}
use Rattle.tk_token.proofs.Answering.{fails_as}
use Rattle.tk_geom.specs.Grids.{grid_appended, grid_of, lines_drawn}
use Rattle.tk_geom.specs.GridViews.{lines_of}
use Rattle.tk_geom.proofs.Appending.{goes_further}
use Rattle.tk_geom.proofs.LinesDrawn.{first_fails, both_drawn}
use Rattle.tk_geom.proofs.grids.push_between.Goals as goal

pub returns-in_err-push_lines-clause-gives : goal.returns-in_err-push_lines-clause-gives
returns-in_err-push_lines-clause-gives c =
    let p = err_from_is_err_and c.from_residual.result c.from_residual.ensures.1 in
    rw (p.1, p.2) (first_fails c.args.m.now c.args.units.now.budget c.args.at c.in_err-push_lines.field-0.0 c.args.units.now.used
    (lines_of c.lines_about-uprights.result) _ _ c.args.segs.now c.lines_about-uprights.ensures.value c.in_err-push_lines.ensures.gives)

pub returns-in_err-push_lines-2-clause-gives : goal.returns-in_err-push_lines-2-clause-gives
returns-in_err-push_lines-2-clause-gives c =
    let p = err_from_is_err_and c.from_residual-in_err-push_lines-2.result c.from_residual-in_err-push_lines-2.ensures.1 in
    rw (p.1, p.2) (
    fails_as c.in_err-push_lines-2.field-0.0 _ _
    (both_drawn c.args.m.now c.args.units.now.budget c.args.at c.args.units.now.used c.push_lines.new.units.used
    (lines_of c.lines_about-uprights.result) _
    (lines_of c.lines_about-levels.result) _ c.args.segs.now c.push_lines.new.segs c.lines_about-uprights.ensures.value
    c.lines_about-levels.ensures.value c.in_ok-push_lines.ensures.gives)
    (subst (λ b. Fails c.in_err-push_lines-2.field-0.0
    (grid_appended c.push_lines.new.segs (lines_drawn c.args.m.now b c.args.at c.push_lines.new.units.used (lines_of c.lines_about-levels.result))))
    c.in_ok-push_lines.ensures.budget c.in_err-push_lines-2.ensures.gives))

pub returns-clause-gives : goal.returns-clause-gives
returns-clause-gives c =
    both_drawn c.args.m.now c.args.units.now.budget c.args.at c.args.units.now.used c.push_lines.new.units.used
    (lines_of c.lines_about-uprights.result) _
    (lines_of c.lines_about-levels.result) _ c.args.segs.now c.push_lines.new.segs c.lines_about-uprights.ensures.value
    c.lines_about-levels.ensures.value c.in_ok-push_lines.ensures.gives
    ∙ subst (λ b. grid_appended c.push_lines.new.segs
    (lines_drawn c.args.m.now b c.args.at c.push_lines.new.units.used (lines_of c.lines_about-levels.result)) ≡ Ok
    (grid_of c.push_lines-2.new.segs c.push_lines-2.new.units.used)) c.in_ok-push_lines.ensures.budget c.in_ok-push_lines-2.ensures.gives

pub push_lines-requires-clause-first : goal.push_lines-requires-clause-first
push_lines-requires-clause-first c = c.lines_about-uprights.ensures.first

pub push_lines-requires-clause-count : goal.push_lines-requires-clause-count
push_lines-requires-clause-count c = c.lines_about-uprights.ensures.count

pub push_lines-requires-2-clause-first : goal.push_lines-requires-2-clause-first
push_lines-requires-2-clause-first c = c.lines_about-levels.ensures.first

pub push_lines-requires-2-clause-count : goal.push_lines-requires-2-clause-count
push_lines-requires-2-clause-count c = c.lines_about-levels.ensures.count

pub returns-in_err-push_lines-clause-budget : goal.returns-in_err-push_lines-clause-budget
returns-in_err-push_lines-clause-budget c = c.in_err-push_lines.ensures.budget

pub returns-in_err-push_lines-clause-kept : goal.returns-in_err-push_lines-clause-kept
returns-in_err-push_lines-clause-kept c = c.in_err-push_lines.ensures.kept

pub returns-in_err-push_lines-2-clause-budget : goal.returns-in_err-push_lines-2-clause-budget
returns-in_err-push_lines-2-clause-budget c = c.in_err-push_lines-2.ensures.budget ∙ c.in_ok-push_lines.ensures.budget

pub returns-in_err-push_lines-2-clause-kept : goal.returns-in_err-push_lines-2-clause-kept
returns-in_err-push_lines-2-clause-kept c = goes_further _ _ _ c.in_ok-push_lines.ensures.kept c.in_err-push_lines-2.ensures.kept

pub returns-clause-budget : goal.returns-clause-budget
returns-clause-budget c = c.in_ok-push_lines-2.ensures.budget ∙ c.in_ok-push_lines.ensures.budget

pub returns-clause-kept : goal.returns-clause-kept
returns-clause-kept c = goes_further _ _ _ c.in_ok-push_lines.ensures.kept c.in_ok-push_lines-2.ensures.kept
