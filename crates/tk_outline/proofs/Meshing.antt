-- Grids on paths, as the code draws them: their pieces begin with a Move, and stand behind those of the path.
use Rattle.std.specs.Prelude.{◌≡◌, ℕ, ◌+◌, ◌≤◌, ◌&&◌, int_lt, if◌then◌else◌, Bool, true, false, List, [], ◌∷◌, ◌++◌, None, Result, Ok, Err, ℤ, pos}
use Rattle.std.specs.Prelude.{IfOk}
use Rattle.std.proofs.Common.{refl, subst, sym, ap, ◌∙◌}
use Rattle.tk_item.specs.declared.Point.{Point}
use Rattle.tk_item.specs.declared.Seg.{Seg}
use Rattle.tk_token.specs.declared.Code.TheVariants.{Domain}
use Rattle.tk_token.specs.declared.Refusal.{Refusal}
use Rattle.tk_token.specs.declared.Refusal.TheVariants.{OutOfMemory, Fault as Refused}
use Rattle.tk_token.specs.Answers.{Answer, ◌>>=◌, fault}
use Rattle.tk_token.specs.Refusals.{Fails}
use Rattle.tk_token.proofs.Answering.{then_holds}
use Rattle.tk_expand.specs.Expand.{pay}
use Rattle.tk_affine.specs.declared.AffFault.{AffFault}
use Rattle.tk_affine.specs.declared.Matrix.{Matrix}
use Rattle.tk_affine.specs.Faults.{answer_at}
use Rattle.tk_geom.specs.GridLines.{GridLine, line_pieces, corners, grid_lines}
use Rattle.tk_geom.specs.Grids.{Grid, grid_of, grid_behind, grid_appended, line_drawn, lines_drawn, grid_pieces}
use Rattle.tk_outline.specs.declared.current_path.Goal.{Goal}
use Rattle.tk_outline.specs.declared.current_path.Mesh.{Mesh}
use Rattle.tk_outline.specs.CurrentPaths.{CurrentPath, current_point, moved_to, with_pieces}
use Rattle.tk_outline.specs.Meshes.{Meshed, meshed, mesh_drawn}
use Rattle.tk_outline.specs.Tracing.{BeginsOrNone, IsTraced}
use Rattle.tk_outline.proofs.Tracing.{joined_pieces_begin, line_begins}

-- nothing is known of a value
any_value : {A : Type 0} (m : Answer A) → IfOk m (λ _. Unit {0})
any_value (Ok a) = tt
any_value (Err e) = tt

-- ---- the pieces begin with a Move

-- a grid begins so
abbrev GridBegins : Grid → Type 0
GridBegins g = BeginsOrNone g.pieces

found_begins : (at : ℕ) (found : Result (List Seg) AffFault) → IfOk found BeginsOrNone → IfOk (answer_at at found) BeginsOrNone
found_begins at (Ok segs) h = h
found_begins at (Err e) h = tt

module _ (m : Matrix) (budget at : ℕ) where
  line_grid : (units : ℕ) (line : GridLine) → IfOk (line_drawn m budget at units line) GridBegins
  line_grid units line =
      then_holds (λ (n : ℕ). Unit {0}) GridBegins (pay budget units 1 at) _ (any_value (pay budget units 1 at)) (λ paid _.
      then_holds BeginsOrNone GridBegins (answer_at at (line_pieces m line)) _ (found_begins at (line_pieces m line) (line_begins m line))
      (λ segs h. h))

  lines_grid : (units : ℕ) (lines : List GridLine) → IfOk (lines_drawn m budget at units lines) GridBegins
  lines_grid units [] = tt
  lines_grid units (line ∷ lines) =
      then_holds GridBegins GridBegins (line_drawn m budget at units line) _ (line_grid units line) (λ first h.
      then_holds GridBegins GridBegins (lines_drawn m budget at first.units lines) _ (lines_grid first.units lines) (λ others k.
      joined_pieces_begin first.pieces others.pieces h k))

  grid_begins : (p q : Point) (sx sy : ℤ) (units : ℕ) → IfOk (grid_pieces m p q sx sy budget at units) GridBegins
  unfolding grid_pieces
  grid_begins p q sx sy units = by (int_lt (pos 0) sx && int_lt (pos 0) sy)
    where
      inside : IfOk (answer_at at (corners m p q) >>= λ between. lines_drawn m budget at units (grid_lines between.0 between.1 sx sy)) GridBegins
      inside = then_holds (λ (b : Point × Point). Unit {0}) GridBegins (answer_at at (corners m p q)) _ (any_value (answer_at at (corners m p q)))
          (λ between _. lines_grid units (grid_lines between.0 between.1 sx sy))

      by : (b : Bool)
          → IfOk (let r : Answer Grid = if b then (answer_at at (corners m p q) >>= λ between. lines_drawn m budget at units (grid_lines between.0 between.1 sx sy)) else fault Domain at in r) GridBegins
      by true = inside
      by false = tt

-- a path to which a grid was added
traced_by : (old new : List Seg) (used : ℕ) (answer : Answer Grid) → BeginsOrNone old → IfOk answer GridBegins
    → grid_appended old answer ≡ Ok (grid_of new used) → IsTraced new None
traced_by old new used (Ok g) h k e =
    let whole : grid_behind old g ≡ grid_of new used = cc e in
    record { first = subst BeginsOrNone (ap (λ (grid : Grid). grid.pieces) whole) (joined_pieces_begin old g.pieces h k); begun = tt }
traced_by old new used (Err f) h k e = absurd (let bad : ⊥ = cc e in bad)

pub grid_added : (old new : List Seg) (used : ℕ) (m : Matrix) (p q : Point) (sx sy : ℤ) (budget at units : ℕ) → BeginsOrNone old
    → grid_appended old (grid_pieces m p q sx sy budget at units) ≡ Ok (grid_of new used) → IsTraced new None
grid_added old new used m p q sx sy budget at units h e =
    traced_by old new used (grid_pieces m p q sx sy budget at units) h (grid_begins m budget at p q sx sy units) e

-- ---- what is drawn

module _ (origin : Point) (mesh : Mesh) (to : Goal) (budget at units : ℕ) (path : CurrentPath) where
  -- the pieces of the grid
  abbrev drawing : Answer Grid
  drawing = grid_pieces mesh.matrix (current_point origin path) to.point mesh.xstep mesh.ystep budget at units

  abbrev meshes : Answer Grid → Answer Meshed
  meshes answer = answer >>= λ grid. Ok (meshed (moved_to origin to (with_pieces grid.pieces path)) grid.units)

  by_grid : (answer : Answer Grid) (new : List Seg) (used : ℕ) → grid_appended path.segs answer ≡ Ok (grid_of new used)
      → meshes answer ≡ Ok (meshed (record (moved_to origin to path) { segs = new }) used)
  by_grid (Ok g) new used e =
      let whole : grid_behind path.segs g ≡ grid_of new used = cc e in
      ap (λ (grid : Grid). let r : Answer Meshed = Ok (meshed (record (moved_to origin to path) { segs = grid.pieces }) grid.units) in r) whole
  by_grid (Err f) new used e = absurd (let bad : ⊥ = cc e in bad)

  pub mesh_is : (new : List Seg) (used : ℕ) → grid_appended path.segs drawing ≡ Ok (grid_of new used)
      → mesh_drawn origin mesh to budget at units path ≡ Ok (meshed (record (moved_to origin to path) { segs = new }) used)
  unfolding mesh_drawn
  mesh_is new used e = by_grid drawing new used e

  fails_by : (e : Refusal) (answer : Answer Grid) → Fails e (grid_appended path.segs answer) → Fails e (meshes answer)
  fails_by OutOfMemory answer h = tt
  fails_by (Refused x) (Ok g) h = absurd (let bad : ⊥ = cc h in bad)
  fails_by (Refused x) (Err f) h = ap meshes h

  pub mesh_fails : (e : Refusal) → Fails e (grid_appended path.segs drawing) → Fails e (mesh_drawn origin mesh to budget at units path)
  unfolding mesh_drawn
  mesh_fails e h = fails_by e drawing h
