use Rattle.std.proofs.Common.{◌≡◌, List, [], None, Ok, subst, sym, ap, ◌∙◌}
use Rattle.std.proofs.lemmas.Result.{err_from_is_err_and}
use Rattle.tk_item.specs.declared.Point.{Point}
use Rattle.tk_item.specs.declared.Seg.{Seg}
use Rattle.tk_token.specs.Answers.{Answer}
use Rattle.tk_token.specs.Refusals.{Fails}
use Rattle.tk_geom.specs.Grids.{grid_of, grid_appended, grid_pieces}
use Rattle.tk_outline.specs.CurrentPaths.{CurrentPath}
use Rattle.tk_outline.specs.Meshes.{Meshed, meshed}
use Rattle.tk_outline.specs.Tracing.{IsTraced}
use Rattle.tk_outline.proofs.Meshing.{grid_added, mesh_is, mesh_fails}
use Rattle.tk_outline.proofs.current_path.CurrentPath.grid.Goals as goal

pub returns-in_err-push_grid-clause-gives : goal.returns-in_err-push_grid-clause-gives
returns-in_err-push_grid-clause-gives c =
    let e = c.in_err-push_grid.field-0.0 in
    let m = c.args.mesh.now in
    let u = c.args.units.now in
    let same = c.take_segs-segs.ensures.segs ∙ ap (λ (p : CurrentPath). p.segs) c.move_to.ensures in
    let p = err_from_is_err_and c.from_residual.result c.from_residual.ensures.1 in
    rw (p.1, p.2) (mesh_fails c.args.origin.now m c.args.to.now u.budget c.args.at u.used c.args.self.now e
    (subst (λ (here : Point). Fails e (grid_appended c.args.self.now.segs (grid_pieces m.matrix here c.args.to.now.point m.xstep m.ystep u.budget
    c.args.at u.used))) c.current_point-corner.ensures
    (subst (λ (old : List Seg). Fails e (grid_appended old (grid_pieces m.matrix c.current_point-corner.result c.args.to.now.point m.xstep m.ystep
    u.budget c.args.at u.used))) same c.in_err-push_grid.ensures.gives)))

pub invariant_of-self : goal.invariant_of-self
invariant_of-self c =
    let none = ap (λ (p : CurrentPath). p.start) (c.self.view_is ∙ c.take_segs-segs.ensures.path) in
    subst (IsTraced c.push_grid.new.segs) (sym none)
    (grid_added c.take_segs-segs.result c.push_grid.new.segs c.push_grid.new.units.used _ _ _ _ _ _ _ _ c.take_segs-segs.ensures.first
    c.in_ok-push_grid.ensures.gives)

pub returns-clause-gives : goal.returns-clause-gives
returns-clause-gives c =
    let m = c.args.mesh.now in
    let u = c.args.units.now in
    let new = c.push_grid.new.segs in
    let used = c.push_grid.new.units.used in
    let same = c.take_segs-segs.ensures.segs ∙ ap (λ (p : CurrentPath). p.segs) c.move_to.ensures in
    let left = c.self.view_is ∙ c.take_segs-segs.ensures.path
    ∙ ap (λ (p : CurrentPath). (let q : CurrentPath = record p { segs = []; start = None } in q)) c.move_to.ensures in
    mesh_is c.args.origin.now m c.args.to.now u.budget c.args.at u.used c.args.self.now new used
    (subst (λ (here : Point). grid_appended c.args.self.now.segs (grid_pieces m.matrix here c.args.to.now.point m.xstep m.ystep u.budget c.args.at
    u.used) ≡ Ok (grid_of new used)) c.current_point-corner.ensures
    (subst (λ (old : List Seg). grid_appended old (grid_pieces m.matrix c.current_point-corner.result c.args.to.now.point m.xstep m.ystep u.budget
    c.args.at u.used) ≡ Ok (grid_of new used)) same c.in_ok-push_grid.ensures.gives))
    ∙ ap (λ (p : CurrentPath). (let r : Answer Meshed = Ok (meshed (record p { segs = new }) used) in r)) (sym left)
