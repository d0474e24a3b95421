-- The one document that the writer makes of a drawing: one element a line, and each attribute of a path or a label that
-- has an initial value exactly where its value is another.
use Rattle.std.specs.Prelude.{ℕ, Bool, ◌&&◌, if◌then◌else◌, List, [], ◌∷◌, ◌++◌, flat_map, codes, Option, Some, None, ℤ, pos, neg_ℤ}
use Rattle.std.specs.Prelude.{◌-ℤ◌}
use Rattle.std.specs.Ordering.{int_eq}
use Rattle.tk_num.specs.Text.{text_of}
use Rattle.tk_item.specs.declared.Seg.{Seg}
use Rattle.tk_item.specs.declared.Fill.{Fill}
use Rattle.tk_item.specs.declared.Stroke.{Stroke}
use Rattle.tk_item.specs.declared.Item.{Item}
use Rattle.tk_item.specs.declared.Item.TheVariants as item
use Rattle.tk_item.specs.declared.Label.{Label}
use Rattle.tk_item.specs.declared.Frame.{Frame}
use Rattle.tk_item.specs.declared.Drawing.{Drawing}
use Rattle.tk_svg.specs.Scan.{Attribute}
use Rattle.tk_svg.specs.Document.{declaration, size_of}
use Rattle.tk_svgwrite.specs.Values.{attributes_text, OptionalAttribute, optional, differing, numbers_text, numbers_of_point}
use Rattle.tk_svgwrite.specs.Values.{data_text, rgb_text, rule_text, cap_text, join_text, dash_text, matrix_text, content_text}

-- ---- a path

-- the rule stands only on a path that is filled
abbrev pub fill_attributes : Option Fill → List OptionalAttribute
fill_attributes None = optional (codes "fill") (codes "#000000") (codes "none") ∷ []
fill_attributes (Some fill) =
    optional (codes "fill") (codes "#000000") (rgb_text fill.rgb)
    ∷ optional (codes "fill-rule") (codes "nonzero") (rule_text fill.rule)
    ∷ []

-- what belongs to a stroke stands only on a path that is drawn
abbrev pub stroke_attributes : Option Stroke → List OptionalAttribute
stroke_attributes None = []
stroke_attributes (Some stroke) =
    optional (codes "stroke") (codes "none") (rgb_text stroke.rgb)
    ∷ optional (codes "stroke-width") (codes "1") (text_of stroke.width)
    ∷ optional (codes "stroke-linecap") (codes "butt") (cap_text stroke.cap)
    ∷ optional (codes "stroke-linejoin") (codes "miter") (join_text stroke.join)
    ∷ optional (codes "stroke-miterlimit") (codes "4") (text_of stroke.miter)
    ∷ optional (codes "stroke-dasharray") (codes "none") (dash_text stroke.dash)
    ∷ optional (codes "stroke-dashoffset") (codes "0") (text_of stroke.phase)
    ∷ []

-- the data, and then what differs of the fill and of the stroke
abbrev pub path_attributes : List Seg → Option Fill → Option Stroke → List Attribute
path_attributes segs fill stroke =
    (codes "d", data_text segs) ∷ differing (fill_attributes fill ++ stroke_attributes stroke)

-- ---- a label

-- the six numbers of its matrix, with y turned downward
abbrev pub matrix_numbers : Label → List ℤ
matrix_numbers label = label.a ∷ neg_ℤ label.b ∷ neg_ℤ label.c ∷ label.d ∷ numbers_of_point label.at

-- it is neither turned nor scaled
abbrev pub is_upright : Label → Bool
is_upright label =
    (int_eq label.a (pos 65536) && int_eq label.d (pos 65536)) && (int_eq label.b (pos 0) && int_eq label.c (pos 0))

-- where it stands: at a point where it is upright, else by its matrix
abbrev pub placing_attributes : Label → List Attribute
placing_attributes label =
    if is_upright label
    then (codes "x", text_of label.at.x) ∷ (codes "y", text_of (neg_ℤ label.at.y)) ∷ []
    else (codes "transform", matrix_text (matrix_numbers label)) ∷ []

-- where it stands, its colour where that is not black, and that its spaces count
abbrev pub label_attributes : Label → List Attribute
label_attributes label =
    placing_attributes label
    ++ differing (optional (codes "fill") (codes "#000000") (rgb_text label.rgb) ∷ [])
    ++ (codes "xml:space", codes "preserve") ∷ []

-- its line
unfoldable pub label_text : Label → List ℕ
label_text label =
    codes "<text" ++ attributes_text (label_attributes label) ++ codes ">" ++ content_text label.text ++ codes "</text>\n"

-- ---- items

-- the line of an item
unfoldable pub item_text : Item → List ℕ
item_text (item.Path segs fill stroke) =
    codes "<path" ++ attributes_text (path_attributes segs fill stroke) ++ codes "/>\n"
item_text (item.Label label) = label_text label

-- ---- the document

-- how wide a frame is
abbrev pub frame_width : Frame → ℤ
frame_width frame = frame.right -ℤ frame.left

-- how high a frame is
abbrev pub frame_height : Frame → ℤ
frame_height frame = frame.top -ℤ frame.bottom

-- a length in SVG's points
abbrev pub points_text : ℤ → List ℕ
points_text w = text_of (size_of w) ++ codes "pt"

-- left, top turned downward, width, height
abbrev pub box_text : Frame → List ℕ
box_text frame =
    numbers_text (frame.left ∷ neg_ℤ frame.top ∷ frame_width frame ∷ frame_height frame ∷ [])

-- the attributes of the outermost element, in order
abbrev pub svg_attributes : Drawing → List Attribute
svg_attributes d =
    (codes "xmlns", codes "http://www.w3.org/2000/svg")
    ∷ (codes "version", codes "1.1")
    ∷ (codes "width", points_text (frame_width d.frame))
    ∷ (codes "height", points_text (frame_height d.frame))
    ∷ (codes "viewBox", box_text d.frame)
    ∷ (codes "font-family", d.family)
    ∷ (codes "font-size", text_of d.size)
    ∷ []

-- the line of the outermost element
unfoldable pub svg_text : Drawing → List ℕ
svg_text d = codes "<svg" ++ attributes_text (svg_attributes d) ++ codes ">\n"

-- the document of a drawing
unfoldable pub document_text : Drawing → List ℕ
document_text d =
    declaration ++ codes "\n" ++ svg_text d ++ flat_map item_text d.items ++ codes "</svg>\n"
