-- Which states of graphics a drawing can be made with.
use Rattle.std.specs.Prelude.{ℤ, pos, ◌≤ℤ◌}
use Rattle.tk_num.specs.Number.{one, IsScaled}
use Rattle.tk_affine.specs.Steps.{IsMatrix}
use Rattle.tk_look.specs.declared.GraphicsState.{GraphicsState}

-- a line width in range that is not negative, and a miter limit of at least one
pub record IsPen (line_width miter_limit : ℤ) : Type 0 where
  pub range : IsScaled line_width
  pub width : pos 0 ≤ℤ line_width
  pub miter : pos one ≤ℤ miter_limit

-- a matrix in range, and a look that has such a pen
abbrev pub IsInRange : GraphicsState → Type 0
IsInRange g = IsMatrix g.matrix × IsPen g.look.line_width g.look.miter_limit
