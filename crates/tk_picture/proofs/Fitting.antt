-- What is drawn fits a document.
use Rattle.std.proofs.Common.{◌≡◌, ℕ, List, Option, Some, None, unwrap_or, refl, arith, lit<, codes, subst, sym, ◌∙◌}
use Rattle.std.proofs.lemmas.Int.{ints}
use Rattle.std.specs.List.{AllByRecursion}
use Rattle.std.specs.Prelude.{IfSome}
use Rattle.tk_item.specs.declared.Drawing.{Drawing}
use Rattle.tk_item.specs.declared.Frame.{Frame}
use Rattle.tk_item.specs.declared.Item.{Item}
use Rattle.tk_item.specs.Frame.{IsProperFrame}
use Rattle.tk_svg.specs.Document.{IsFamily}
use Rattle.tk_svg.specs.Fitting.{Fits, FitsItem}
use Rattle.tk_path.specs.declared.drawer.Drawer.{Drawer}
use Rattle.tk_path.specs.Pictures.{Picture}
use Rattle.tk_path.proofs.Ranges.{PictureIn}
use Rattle.tk_picture.specs.Documents.{no_frame, compiled}
use Rattle.tk_path.specs.Views.{IsSound, OnlyPays, KeepsDrawn}

is_family : IsFamily (codes "monospace")
is_family = record { some = lit< tt; each = refl }

-- a drawing of a proper frame and fitting items fits
pub drawing_fits : (d : Drawing) → IsProperFrame d.frame → d.family ≡ codes "monospace" → AllByRecursion FitsItem d.items → Fits d
drawing_fits d p f h = record {
  sides = p.across;
  heights = p.upward;
  left = (let k = p.left in omega (arith, ints));
  top = (let k = p.top in omega (arith, ints));
  width = (let a = p.left in let b = p.right in let c = p.across in omega (arith, ints));
  height = (let a = p.bottom in let b = p.top in let c = p.upward in omega (arith, ints));
  family = subst IsFamily (sym f) is_family;
  items = h;
}

no_frame_proper : IsProperFrame no_frame
no_frame_proper = record {
  across = omega (arith, ints);
  upward = omega (arith, ints);
  left = omega arith;
  bottom = omega arith;
  right = omega arith;
  top = omega arith;
}

frame_proper : (frame : Option Frame) → IfSome frame IsProperFrame → IsProperFrame (unwrap_or frame no_frame)
frame_proper None h = no_frame_proper
frame_proper (Some f) h = h

-- the drawing of a picture that is in range fits
pub compiled_fits : (pic : Picture) (units : ℕ) → PictureIn pic → Fits (compiled pic units).drawing
compiled_fits pic units h = drawing_fits (compiled pic units).drawing (frame_proper pic.frame h.0.frame) refl h.0.items

-- what is drawn fits as before where only units were paid
pub sound_paid : (old new : Drawer) → OnlyPays old new → IsSound old → IsSound new
sound_paid old new pays h = subst IsSound (sym pays) (record { items = h.items; proper = h.proper })

-- what is drawn fits as before where it stayed
pub sound_kept : (old new : Drawer) → KeepsDrawn old new → IsSound old → IsSound new
sound_kept old new kept h = record {
  items = subst (λ (items : List Item). AllByRecursion FitsItem items) (sym kept.items) h.items;
  proper = kept.proper h.proper;
}
