-- A picture as far as it is drawn.
use Rattle.std.specs.Prelude.{◌||◌, if◌then◌else◌, List, [], ◌∷◌, ◌++◌, Option, None}
use Rattle.tk_item.specs.declared.Frame.{Frame}
use Rattle.tk_item.specs.declared.Item.{Item}
use Rattle.tk_item.specs.declared.Item.TheVariants.{Path}
use Rattle.tk_item.specs.declared.Seg.{Seg}
use Rattle.tk_item.specs.Frame.{points_of_path, round_points}
use Rattle.tk_look.specs.declared.Look.{Look}
use Rattle.tk_look.specs.Strokes.{look_fill, look_stroke, look_reach}
use Rattle.tk_outline.specs.CurrentPaths.{CurrentPath, no_path}

-- a picture so far: its items, the frame round them, and the path that is being read
pub record Picture : Type 0 where
  pub items : List Item
  pub frame : Option Frame
  pub path : CurrentPath

-- nothing is drawn
abbrev pub first_picture : Picture
first_picture = record { items = []; frame = None; path = no_path }

-- another path is being read
abbrev pub with_path : CurrentPath → Picture → Picture
with_path path pic = record pic { path = path }

-- the item that a path is, if it is drawn or filled
abbrev pub path_items : Look → List Seg → List Item
path_items look segs = if look.fill_on || look.draw_on then Path segs (look_fill look) (look_stroke look) ∷ [] else []

-- a path with pieces is there, painted or not
abbrev pub drawn_by : Look → List Seg → Picture → Picture
drawn_by look [] pic = pic
drawn_by look (seg ∷ segs) pic = record pic {
  items = pic.items ++ path_items look (seg ∷ segs);
  frame = round_points (look_reach look) pic.frame (points_of_path (seg ∷ segs));
}

-- the path that was read is there, with a look
abbrev pub drawn : Look → Picture → Picture
drawn look pic = with_path no_path (drawn_by look pic.path.segs pic)
