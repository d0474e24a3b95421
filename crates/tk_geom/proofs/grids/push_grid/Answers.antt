use Rattle.std.proofs.Common.{◌≡◌, ◌∙◌, ap, sym, Ok, Err}
use Rattle.std.proofs.lemmas.Result.{err_from_is_err_and}
use Rattle.tk_token.proofs.Answering.{fails_as}
use Rattle.tk_affine.specs.Faults.{answer_at}
use Rattle.tk_geom.specs.GridLines.{corners}
use Rattle.tk_geom.specs.Grids.{grid_appended}
use Rattle.tk_geom.proofs.GridPieces.{positive_steps, no_grid_without_steps, no_grid_without_corners, grid_between_corners}
use Rattle.tk_geom.proofs.grids.push_grid.Goals as goal

pub returns-then-not-are_positive-clause-gives : goal.returns-then-not-are_positive-clause-gives
returns-then-not-are_positive-clause-gives c =
    rw c.new.ensures (ap (grid_appended c.args.segs.now)
    (no_grid_without_steps c.args.m c.args.p c.args.q c.args.sx c.args.sy c.args.units.now.budget c.args.at c.args.units.now.used
    (sym c.are_positive.ensures ∙ c.if-not-are_positive.true)))

pub returns-in_err-low-clause-gives : goal.returns-in_err-low-clause-gives
returns-in_err-low-clause-gives c =
    let e = err_from_is_err_and c.from_residual.result c.from_residual.ensures.1 in
    let missing : answer_at c.args.at (corners c.args.m c.args.p c.args.q) ≡ Err c.in_err-low.field-0.0 =
    ap (answer_at c.args.at) (sym c.corners.ensures) ∙ sym c.answer_at.ensures ∙ c.in_err-low.was in
    rw (e.1, e.2) (ap (grid_appended c.args.segs.now)
    (no_grid_without_corners c.args.m c.args.p c.args.q c.args.sx c.args.sy c.args.units.now.budget c.args.at c.args.units.now.used
    c.in_err-low.field-0.0 (sym c.are_positive.ensures ∙ c.if-not-are_positive.false) missing))

pub push_between-requires-clause-sx : goal.push_between-requires-clause-sx
push_between-requires-clause-sx c = (positive_steps c.args.sx c.args.sy (sym c.are_positive.ensures ∙ c.if-not-are_positive.false)).0

pub push_between-requires-clause-sy : goal.push_between-requires-clause-sy
push_between-requires-clause-sy c = (positive_steps c.args.sx c.args.sy (sym c.are_positive.ensures ∙ c.if-not-are_positive.false)).1

pub returns-in_err-push_between-clause-gives : goal.returns-in_err-push_between-clause-gives
returns-in_err-push_between-clause-gives c =
    let e = err_from_is_err_and c.from_residual-in_err-push_between.result c.from_residual-in_err-push_between.ensures.1 in
    let found : answer_at c.args.at (corners c.args.m c.args.p c.args.q) ≡ Ok (c.in_ok-low.low, c.in_ok-low.high) =
    ap (answer_at c.args.at) (sym c.corners.ensures) ∙ sym c.answer_at.ensures ∙ c.in_ok-low.was in
    rw (e.1, e.2) (fails_as c.in_err-push_between.field-0.0 _ _ (ap (grid_appended c.args.segs.now)
    (grid_between_corners c.args.m c.args.p c.args.q c.args.sx c.args.sy c.args.units.now.budget c.args.at c.args.units.now.used c.in_ok-low.low
    c.in_ok-low.high (sym c.are_positive.ensures ∙ c.if-not-are_positive.false) found)) c.in_err-push_between.ensures.gives)

pub returns-clause-gives : goal.returns-clause-gives
returns-clause-gives c =
    let found : answer_at c.args.at (corners c.args.m c.args.p c.args.q) ≡ Ok (c.in_ok-low.low, c.in_ok-low.high) =
    ap (answer_at c.args.at) (sym c.corners.ensures) ∙ sym c.answer_at.ensures ∙ c.in_ok-low.was in
    ap (grid_appended c.args.segs.now)
    (grid_between_corners c.args.m c.args.p c.args.q c.args.sx c.args.sy c.args.units.now.budget c.args.at c.args.units.now.used c.in_ok-low.low
    c.in_ok-low.high (sym c.are_positive.ensures ∙ c.if-not-are_positive.false) found)
    ∙ c.in_ok-push_between.ensures.gives
