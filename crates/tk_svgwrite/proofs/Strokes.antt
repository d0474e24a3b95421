-- Strokes whose parts are the same are the same.
use Rattle.std.proofs.Common.{◌≡◌, true, sym}
use Rattle.std.specs.Prelude.{ℤ}
use Rattle.std.specs.Ordering.{int_eq}
use Rattle.std.proofs.lemmas.Bool.Decides.{Decides-int_eq}
use Rattle.tk_item.specs.declared.Stroke.{Stroke}

pub same_number : (x y : ℤ) → true ≡ int_eq x y → x ≡ y
same_number x y e = (Decides-int_eq x y).0 (sym e)

pub same_stroke : (a b : Stroke) → a.rgb ≡ b.rgb → a.width ≡ b.width → a.cap ≡ b.cap → a.join ≡ b.join → a.miter ≡ b.miter → a.dash ≡ b.dash
    → a.phase ≡ b.phase → a ≡ b
same_stroke a b rgb width cap join miter dash phase =
    λ k. record { rgb = rgb k; width = width k; cap = cap k; join = join k; miter = miter k; dash = dash k; phase = phase k }
