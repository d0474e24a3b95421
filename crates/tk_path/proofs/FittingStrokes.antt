-- What a look draws fits an SVG document.
use Rattle.std.specs.Prelude.{Option, Some, None, IfSome, ℤ, pos, ◌≤ℤ◌}
use Rattle.tk_item.specs.declared.Stroke.{Stroke}
use Rattle.tk_svg.specs.Fitting.{FitsStroke}

pub stroke_fits : (stroke : Option Stroke)
    → IfSome stroke (λ (s : Stroke). pos 0 ≤ℤ s.width)
    → IfSome stroke (λ (s : Stroke). pos 65536 ≤ℤ s.miter)
    → FitsStroke stroke
stroke_fits None width miter = tt
stroke_fits (Some s) width miter = (width, miter)
