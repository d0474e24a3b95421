-- The keys and styles below /tikz that are there from the beginning, by their names.
use Rattle.std.specs.Prelude.{ℕ, List, [], ◌∷◌, codes}
use Rattle.tk_native.specs.declared.Native.{Native}
use Rattle.tk_native.specs.declared.Native.TheVariants.{Look, Transform}
use Rattle.tk_native.specs.declared.LookKey.TheVariants.{Colour, Paint, Length, Angle, Measure, Flag, LineWidth}
use Rattle.tk_native.specs.declared.LookKey.TheVariants.{LineCap, LineJoin, MiterLimit, DashPattern, Shape, Anchor, Pos}
use Rattle.tk_native.specs.declared.LookKey.TheVariants.{Name, Unknown}
use Rattle.tk_native.specs.declared.TransformKey.TheVariants.{Step, Beside, Shift, RotateAround, Cm}
use Rattle.tk_native.specs.declared.ColourKey.TheVariants.{Color, Text}
use Rattle.tk_native.specs.declared.PaintKey.TheVariants.{Draw, Fill}
use Rattle.tk_native.specs.declared.LengthKey.TheVariants.{DashPhase, X, Y, InnerSep, InnerXSep, InnerYSep, OuterSep}
use Rattle.tk_native.specs.declared.LengthKey.TheVariants.{OuterXSep, OuterYSep, MinimumSize, MinimumWidth}
use Rattle.tk_native.specs.declared.LengthKey.TheVariants.{MinimumHeight}
use Rattle.tk_native.specs.declared.AngleKey.TheVariants.{Start, End, Delta}
use Rattle.tk_native.specs.declared.MeasureKey.TheVariants.{Radius, XRadius, YRadius, GridStep, XStep, YStep}
use Rattle.tk_native.specs.declared.StepKey.TheVariants.{XShift, YShift, Rotate, Scale, XScale, YScale, XSlant, YSlant}
use Rattle.tk_native.specs.declared.FlagKey.TheVariants.{Solid, Dotted, DenselyDotted, LooselyDotted, EvenOddRule}
use Rattle.tk_native.specs.declared.FlagKey.TheVariants.{NonZeroRule, Sloped, Baseline}
use Rattle.tk_native.specs.declared.Side.TheVariants.{Above, Below, Left, Right, AboveLeft, AboveRight, BelowLeft}
use Rattle.tk_native.specs.declared.Side.TheVariants.{BelowRight}

-- each key with its name
abbrev pub natives : List (List ℕ × Native)
natives =
    (codes "color", Look (Colour Color))
    ∷ (codes "text", Look (Colour Text))
    ∷ (codes "draw", Look (Paint Draw))
    ∷ (codes "fill", Look (Paint Fill))
    ∷ (codes "line width", Look LineWidth)
    ∷ (codes "line cap", Look LineCap)
    ∷ (codes "line join", Look LineJoin)
    ∷ (codes "miter limit", Look MiterLimit)
    ∷ (codes "dash pattern", Look DashPattern)
    ∷ (codes "dash phase", Look (Length DashPhase))
    ∷ (codes "solid", Look (Flag Solid))
    ∷ (codes "dotted", Look (Flag Dotted))
    ∷ (codes "densely dotted", Look (Flag DenselyDotted))
    ∷ (codes "loosely dotted", Look (Flag LooselyDotted))
    ∷ (codes "even odd rule", Look (Flag EvenOddRule))
    ∷ (codes "nonzero rule", Look (Flag NonZeroRule))
    ∷ (codes "x", Look (Length X))
    ∷ (codes "y", Look (Length Y))
    ∷ (codes "shift", Transform Shift)
    ∷ (codes "xshift", Transform (Step XShift))
    ∷ (codes "yshift", Transform (Step YShift))
    ∷ (codes "rotate", Transform (Step Rotate))
    ∷ (codes "scale", Transform (Step Scale))
    ∷ (codes "xscale", Transform (Step XScale))
    ∷ (codes "yscale", Transform (Step YScale))
    ∷ (codes "xslant", Transform (Step XSlant))
    ∷ (codes "yslant", Transform (Step YSlant))
    ∷ (codes "rotate around", Transform RotateAround)
    ∷ (codes "cm", Transform Cm)
    ∷ (codes "radius", Look (Measure Radius))
    ∷ (codes "x radius", Look (Measure XRadius))
    ∷ (codes "y radius", Look (Measure YRadius))
    ∷ (codes "start angle", Look (Angle Start))
    ∷ (codes "end angle", Look (Angle End))
    ∷ (codes "delta angle", Look (Angle Delta))
    ∷ (codes "step", Look (Measure GridStep))
    ∷ (codes "xstep", Look (Measure XStep))
    ∷ (codes "ystep", Look (Measure YStep))
    ∷ (codes "shape", Look Shape)
    ∷ (codes "inner sep", Look (Length InnerSep))
    ∷ (codes "inner xsep", Look (Length InnerXSep))
    ∷ (codes "inner ysep", Look (Length InnerYSep))
    ∷ (codes "outer sep", Look (Length OuterSep))
    ∷ (codes "outer xsep", Look (Length OuterXSep))
    ∷ (codes "outer ysep", Look (Length OuterYSep))
    ∷ (codes "minimum size", Look (Length MinimumSize))
    ∷ (codes "minimum width", Look (Length MinimumWidth))
    ∷ (codes "minimum height", Look (Length MinimumHeight))
    ∷ (codes "anchor", Look Anchor)
    ∷ (codes "above", Transform (Beside Above))
    ∷ (codes "below", Transform (Beside Below))
    ∷ (codes "left", Transform (Beside Left))
    ∷ (codes "right", Transform (Beside Right))
    ∷ (codes "above left", Transform (Beside AboveLeft))
    ∷ (codes "above right", Transform (Beside AboveRight))
    ∷ (codes "below left", Transform (Beside BelowLeft))
    ∷ (codes "below right", Transform (Beside BelowRight))
    ∷ (codes "pos", Look Pos)
    ∷ (codes "sloped", Look (Flag Sloped))
    ∷ (codes "name", Look Name)
    ∷ (codes "baseline", Look (Flag Baseline))
    ∷ (codes ".unknown", Look Unknown)
    ∷ []

-- each style with its name, and the key list for which it stands
abbrev pub styles : List (List ℕ × List ℕ)
styles =
    (codes "ultra thin", codes "line width=0.1pt")
    ∷ (codes "very thin", codes "line width=0.2pt")
    ∷ (codes "thin", codes "line width=0.4pt")
    ∷ (codes "semithick", codes "line width=0.6pt")
    ∷ (codes "thick", codes "line width=0.8pt")
    ∷ (codes "very thick", codes "line width=1.2pt")
    ∷ (codes "ultra thick", codes "line width=1.6pt")
    ∷ (codes "dashed", codes "dash pattern=on 3pt off 3pt")
    ∷ (codes "densely dashed", codes "dash pattern=on 3pt off 2pt")
    ∷ (codes "loosely dashed", codes "dash pattern=on 3pt off 6pt")
    ∷ (codes "at start", codes "pos=0")
    ∷ (codes "near start", codes "pos=.25")
    ∷ (codes "midway", codes "pos=.5")
    ∷ (codes "near end", codes "pos=.75")
    ∷ (codes "at end", codes "pos=1")
    ∷ (codes "help lines", codes "color=gray,line width=0.2pt")
    ∷ []
