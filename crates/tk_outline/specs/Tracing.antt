-- Private: only private contracts use this. What the pieces of a path are as the code holds them, and what becomes of it.
use Rattle.std.specs.Prelude.{◌≡◌, List, [], ◌∷◌, Option, IfSome, Result, Ok, Err}
use Rattle.tk_item.specs.declared.Point.{Point}
use Rattle.tk_item.specs.declared.Seg.{Seg}
use Rattle.tk_affine.specs.declared.AffFault.{AffFault}
use Rattle.tk_svg.specs.Fitting.{BeginsWithMove}
use Rattle.tk_outline.specs.CurrentPaths.{CurrentPath}

-- the pieces of a path, if there are some
abbrev pub BeginsOrNone : List Seg → Type 0
BeginsOrNone [] = Unit {0}
BeginsOrNone (seg ∷ segs) = BeginsWithMove (seg ∷ segs)

-- the first piece of a path is a Move, and there is one where a subpath goes on
pub record IsTraced (segs : List Seg) (start : Option Point) : Type 0 where
  pub first : BeginsOrNone segs
  pub begun : IfSome start (λ _. BeginsWithMove segs)

-- what became of a path on which something was to be drawn
abbrev pub Draws : {X : Type 0} → CurrentPath → Result X AffFault → Result CurrentPath AffFault → Type 0
Draws new (Ok done) drawn = drawn ≡ Ok new
Draws new (Err fault) drawn = drawn ≡ Err fault
