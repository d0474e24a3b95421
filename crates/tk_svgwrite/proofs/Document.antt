-- The document that is written stands for the drawing.
use Rattle.std.proofs.Common.{◌≡◌, ℕ, ◌*◌, ◌/◌, ◌<◌, true, false, List, [], ◌∷◌, ◌++◌, Option, Some, None, refl, sym, ap}
use Rattle.std.proofs.Common.{◌∙◌, arith, append_assoc, lit<, inl, inr, suc}
use Rattle.std.specs.Prelude.{ℤ, pos, negsuc, neg_ℤ, ◌+ℤ◌, ◌*ℤ◌, int_div, unsigned_abs, codes, flat_map, bytes_eq}
use Rattle.std.specs.List.{list_all, list_any, AllByRecursion}
use Rattle.std.proofs.lemmas.Bool.Decides.{nat_tests}
use Rattle.std.proofs.lemmas.Int.{ints, unsigned_abs-mul}
use Rattle.std.proofs.lemmas.List.{append-nil}
use Rattle.tk_num.specs.Number.{IsScaled}
use Rattle.tk_num.specs.Text.{text_of}
use Rattle.tk_item.specs.declared.Seg.{Seg}
use Rattle.tk_item.specs.declared.Fill.{Fill}
use Rattle.tk_item.specs.declared.Stroke.{Stroke}
use Rattle.tk_item.specs.declared.Frame.{Frame}
use Rattle.tk_item.specs.declared.Item.{Item}
use Rattle.tk_item.specs.declared.Item.TheVariants as item
use Rattle.tk_item.specs.declared.Drawing.{Drawing}
use Rattle.tk_svg.specs.Scan.{attribute}
use Rattle.tk_svg.specs.Scan.{are_among, are_distinct}
use Rattle.tk_svg.specs.Paint.{paint_names, fill_of, stroke_of}
use Rattle.tk_svg.specs.Document.{IsPathElement, Content, IsSvg, IsDocument, is_family_char, size_of, points_value, declaration}
use Rattle.tk_svg.specs.Document as doc
use Rattle.tk_svg.specs.Fitting.{Fits, FitsItem, FitsBox}
use Rattle.tk_svg.proofs.Numbers.{number_back}
use Rattle.tk_svgwrite.proofs.Lines.{weaker_test, attributes_back, is_line, attributes_line, attribute_is_written, IsClean, clean_both, clean_line}
use Rattle.tk_svgwrite.proofs.Texts.{content_inside, label_is, label_written, label_clean}
use Rattle.tk_svgwrite.specs.Values.{content_text}
use Rattle.tk_svgwrite.specs.Plain.{label_attributes, label_text, fill_attributes, stroke_attributes, path_attributes}
use Rattle.tk_svgwrite.specs.Values.{attributes_text, OptionalAttribute, differing, data_text}
use Rattle.tk_svgwrite.specs.Plain.{item_text, frame_width, frame_height, points_text, box_text, svg_attributes, svg_text, document_text}
use Rattle.tk_svgwrite.specs.Ranges.{FillInRange, StrokeInRange, ItemInRange}
use Rattle.tk_svgwrite.proofs.Numbers.{is_plain, all_both, text_plain, numbers_plain, list_back}
use Rattle.tk_svgwrite.proofs.PathData.{unsigned_abs-neg, neg-neg, scaled_fits, data_means, data_plain}
use Rattle.tk_svgwrite.proofs.Paint.{rgb_plain, rule_plain, cap_plain, join_plain, dash_plain, scaled_back, fill_means, stroke_means}
use Rattle.tk_svgwrite.proofs.Optionals.{IsWritten, has_name, are_apart, absent_name_has_no_value, distinct_back, among_back, written_back}

-- ---- a path

abbrev AreWritten : List OptionalAttribute → Type 0
AreWritten optionals = AllByRecursion (λ s. IsWritten (s.name, s.value)) optionals

both_written : (a b : List OptionalAttribute) → AreWritten a → AreWritten b → AreWritten (a ++ b)
both_written [] b h i = i
both_written (s ∷ a) b h i = (h.0, both_written a b h.1 i)

fill_written : (fill : Option Fill) → FillInRange fill → AreWritten (fill_attributes fill)
fill_written None h = (attribute_is_written _ _ (lit< tt) refl refl, tt)
fill_written (Some f) h =
    (attribute_is_written _ _ (lit< tt) refl (rgb_plain f.rgb h), (attribute_is_written _ _ (lit< tt) refl (rule_plain f.rule), tt))

stroke_written : (stroke : Option Stroke) → StrokeInRange stroke → AreWritten (stroke_attributes stroke)
stroke_written None h = tt
stroke_written (Some s) h = (
  attribute_is_written _ _ (lit< tt) refl (rgb_plain s.rgb h.rgb),
  (
    attribute_is_written _ _ (lit< tt) refl (text_plain s.width (scaled_fits s.width h.width)),
    (
      attribute_is_written _ _ (lit< tt) refl (cap_plain s.cap),
      (
        attribute_is_written _ _ (lit< tt) refl (join_plain s.join),
        (
          attribute_is_written _ _ (lit< tt) refl (text_plain s.miter (scaled_fits s.miter h.miter)),
          (
            attribute_is_written _ _ (lit< tt) refl (dash_plain s.dash h.dash),
            (attribute_is_written _ _ (lit< tt) refl (text_plain s.phase (scaled_fits s.phase h.phase)), tt),
          ),
        ),
      ),
    ),
  ),
)

path_written : (segs : List Seg) (fill : Option Fill) (stroke : Option Stroke) → ItemInRange (item.Path segs fill stroke)
    → AllByRecursion IsWritten (path_attributes segs fill stroke)
path_written segs fill stroke h = (
  attribute_is_written _ _ (lit< tt) refl (data_plain segs h.0),
  written_back (fill_attributes fill ++ stroke_attributes stroke)
      (both_written (fill_attributes fill) (stroke_attributes stroke) (fill_written fill h.1) (stroke_written stroke h.2)),
)

-- which names the attributes have
record Named (optionals : List OptionalAttribute) : Type 0 where
  no_data : attribute (codes "d") (differing optionals) ≡ None
  apart : are_distinct (differing optionals) ≡ true
  among : are_among (codes "d" ∷ paint_names) (differing optionals) ≡ true

named_by : (optionals : List OptionalAttribute) → has_name (codes "d") optionals ≡ false → are_apart optionals ≡ true
    → list_all (λ s. list_any (bytes_eq s.name) (codes "d" ∷ paint_names)) optionals ≡ true → Named optionals
named_by optionals d a n = record {
  no_data = absent_name_has_no_value (codes "d") optionals d;
  apart = distinct_back optionals a;
  among = among_back (codes "d" ∷ paint_names) optionals n;
}

optionals_named : (fill : Option Fill) (stroke : Option Stroke) → Named (fill_attributes fill ++ stroke_attributes stroke)
optionals_named None None = named_by _ refl refl refl
optionals_named None (Some s) = named_by _ refl refl refl
optionals_named (Some f) None = named_by _ refl refl refl
optionals_named (Some f) (Some s) = named_by _ refl refl refl

path_is : (segs : List Seg) (fill : Option Fill) (stroke : Option Stroke) → ItemInRange (item.Path segs fill stroke) → FitsItem (item.Path segs fill stroke)
    → IsPathElement (path_attributes segs fill stroke) [] (item.Path segs fill stroke)
path_is segs fill stroke h f =
    let named = optionals_named fill stroke in
    record {
      path = data_text segs;
      segs = segs;
      fill = fill;
      stroke = stroke;
      known = named.among;
      distinct = rw (named.no_data, named.apart) refl;
      has_path = refl;
      segs_are = data_means segs f.0 h.0;
      fill_is = ap fill_of (append-nil (path_attributes segs fill stroke)) ∙ fill_means (data_text segs) fill stroke h.1;
      stroke_is = ap stroke_of (append-nil (path_attributes segs fill stroke)) ∙ stroke_means (data_text segs) fill stroke h.2 f.1;
      is = refl;
    }

-- ---- items

tag_parts : (attributes items close : List ℕ) → ((attributes ++ codes "/>\n") ++ items) ++ close ≡ attributes ++ 47 ∷ 62 ∷ 10 ∷ (items ++ close)
tag_parts attributes items close = simp append_assoc

label_parts : (attributes content items close : List ℕ)
    → (((((codes "<text" ++ attributes) ++ codes ">") ++ content) ++ codes "</text>\n") ++ items) ++ close
    ≡ codes "<text" ++ (attributes ++ 62 ∷ (content ++ (codes "</text>" ++ 10 ∷ (items ++ close))))
label_parts attributes content items close = simp append_assoc

pub items_mean : (items : List Item) → AllByRecursion FitsItem items → AllByRecursion ItemInRange items
    → Content 0 [] (10 ∷ (flat_map item_text items ++ codes "</svg>\n")) items (codes "svg>\n")
unfolding item_text label_text
items_mean [] f h = doc.ends refl
items_mean (item.Path segs fill stroke ∷ items) f h =
    let attributes = path_attributes segs fill stroke in
    let parts = tag_parts (attributes_text attributes) (flat_map item_text items) (codes "</svg>\n") in
    doc.path {tag = attributes_text attributes ++ 47 ∷ 62 ∷ 10 ∷ (flat_map item_text items ++ codes "</svg>\n")}
    (ap (λ (w : List ℕ). codes "<path" ++ w) parts)
    (attributes_back attributes _ (path_written segs fill stroke h.0) refl (_, inr refl))
    (path_is segs fill stroke h.0 f.0) (items_mean items f.1 h.1)
items_mean (item.Label label ∷ items) f h =
    let attributes = label_attributes label in
    let behind = 10 ∷ (flat_map item_text items ++ codes "</svg>\n") in
    let inside = content_text label.text ++ (codes "</text>" ++ behind) in
    let parts = label_parts (attributes_text attributes) (content_text label.text) (flat_map item_text items) (codes "</svg>\n") in
    doc.text {tag = attributes_text attributes ++ 62 ∷ inside} {inside = inside} {content = content_text label.text} {more = behind} parts
    (attributes_back attributes (62 ∷ inside) (label_written label h.0) refl (_, inl refl)) refl (content_inside label.text)
    (label_is label h.0 f.0) (items_mean items f.1 h.1)

items_clean : (items : List Item) → AllByRecursion FitsItem items → AllByRecursion ItemInRange items → IsClean (flat_map item_text items)
unfolding item_text
items_clean [] f h = clean_line [] refl
items_clean (item.Path segs fill stroke ∷ items) f h =
    let attributes = path_attributes segs fill stroke in
    clean_both (codes "<path" ++ attributes_text attributes ++ codes "/>\n") (flat_map item_text items)
    (clean_line (codes "<path" ++ attributes_text attributes ++ codes "/>\n") (all_both is_line (codes "<path" ++ attributes_text attributes)
    (codes "/>\n") (attributes_line attributes (path_written segs fill stroke h.0)) refl)) (items_clean items f.1 h.1)
items_clean (item.Label label ∷ items) f h =
    clean_both (label_text label) (flat_map item_text items) (label_clean label h.0 f.0) (items_clean items f.1 h.1)

-- ---- the outermost element

abs-quot : (z : ℤ) (d : ℕ) → 0 < d → unsigned_abs (int_div z (pos d)) ≡ unsigned_abs z / d
abs-quot (pos a) d lt = refl
abs-quot (negsuc a) d lt = unsigned_abs-neg (pos (suc a / d))

-- a length is shorter in SVG's points
size_fits : (w : ℤ) → FitsBox w → FitsBox (size_of w)
size_fits w le =
    let size : unsigned_abs (w *ℤ pos 800) ≡ unsigned_abs w * 800 = unsigned_abs-mul w (pos 800) in
    rw (abs-quot (w *ℤ pos 800) 803 (lit< tt), size) (omega arith)

points_plain : (w : ℤ) → FitsBox w → list_all is_plain (points_text w) ≡ true
points_plain w le = all_both is_plain (text_of (size_of w)) (codes "pt") (text_plain (size_of w) (size_fits w le)) refl

points_back : (w : ℤ) → FitsBox w → points_value (points_text w) ≡ Some (size_of w)
points_back w le = rw (number_back (size_of w) (codes "pt") (size_fits w le) (refl, refl)) refl

family_plain : (c : ℕ) → is_family_char c ≡ true → is_plain c ≡ true
family_plain c h = grind (arith, nat_tests)

box_fits : (d : Drawing) → Fits d → AllByRecursion FitsBox (d.frame.left ∷ neg_ℤ d.frame.top ∷ frame_width d.frame ∷ frame_height d.frame ∷ [])
box_fits d f = (f.left, (omega (arith, f.top, unsigned_abs-neg d.frame.top), (f.width, (f.height, tt))))

svg_written : (d : Drawing) → Fits d → IsScaled d.size → AllByRecursion IsWritten (svg_attributes d)
svg_written d f s = (
  attribute_is_written _ _ (lit< tt) refl refl,
  (
    attribute_is_written _ _ (lit< tt) refl refl,
    (
      attribute_is_written _ _ (lit< tt) refl (points_plain (frame_width d.frame) f.width),
      (
        attribute_is_written _ _ (lit< tt) refl (points_plain (frame_height d.frame) f.height),
        (
          attribute_is_written _ _ (lit< tt) refl (numbers_plain (d.frame.left ∷ neg_ℤ d.frame.top ∷ frame_width d.frame ∷ frame_height d.frame ∷ [])
              (box_fits d f)),
          (
            attribute_is_written _ _ (lit< tt) refl (weaker_test is_family_char is_plain family_plain d.family f.family.each),
            (attribute_is_written _ _ (lit< tt) refl (text_plain d.size (scaled_fits d.size s)), tt),
          ),
        ),
      ),
    ),
  ),
)

frame_back : (frame : Frame)
    → frame ≡ record {
      left = frame.left;
      bottom = neg_ℤ (neg_ℤ frame.top +ℤ frame_height frame);
      right = frame.left +ℤ frame_width frame;
      top = neg_ℤ (neg_ℤ frame.top);
    }
frame_back frame =
    let bottom : frame.bottom ≡ neg_ℤ (neg_ℤ frame.top +ℤ frame_height frame) = omega (arith, ints) in
    let right : frame.right ≡ frame.left +ℤ frame_width frame = omega (arith, ints) in
    let top = sym (neg-neg frame.top) in
    λ k. record { left = frame.left; bottom = bottom k; right = right k; top = top k }

svg_is : (d : Drawing) → Fits d → IsScaled d.size → IsSvg (svg_attributes d) d
svg_is d f s = record {
  x = d.frame.left;
  y = neg_ℤ d.frame.top;
  w = frame_width d.frame;
  h = frame_height d.frame;
  box_text = box_text d.frame;
  width_text = points_text (frame_width d.frame);
  height_text = points_text (frame_height d.frame);
  size_text = text_of d.size;
  known = refl;
  distinct = refl;
  namespace = refl;
  version = refl;
  has_box = refl;
  box_is = list_back 4 d.frame.left (neg_ℤ d.frame.top ∷ frame_width d.frame ∷ frame_height d.frame ∷ []) (lit< tt) (box_fits d f);
  w_sign = omega (arith, ints, f.sides);
  h_sign = omega (arith, ints, f.heights);
  frame_is = frame_back d.frame;
  has_width = refl;
  width_is = points_back (frame_width d.frame) f.width;
  has_height = refl;
  height_is = points_back (frame_height d.frame) f.height;
  has_family = refl;
  family_is = f.family;
  has_size = refl;
  size_is = scaled_back d.size s;
}

-- ---- the document

document_clean : (d : Drawing) → Fits d → IsScaled d.size → AllByRecursion ItemInRange d.items → IsClean (document_text d)
unfolding document_text svg_text
document_clean d f s h =
    let start = declaration ++ codes "\n" ++ (codes "<svg" ++ attributes_text (svg_attributes d) ++ codes ">\n") in
    let line : list_all is_line start ≡ true = all_both is_line (declaration ++ codes "\n") (codes "<svg" ++ attributes_text (svg_attributes d)
    ++ codes ">\n") refl (all_both is_line (codes "<svg" ++ attributes_text (svg_attributes d)) (codes ">\n")
    (attributes_line (svg_attributes d) (svg_written d f s)) refl) in
    clean_both (start ++ flat_map item_text d.items) (codes "</svg>\n")
    (clean_both start (flat_map item_text d.items) (clean_line start line) (items_clean d.items f.items h)) (clean_line (codes "</svg>\n") refl)

document_parts : (attributes items : List ℕ)
    → (((declaration ++ codes "\n") ++ (codes "<svg" ++ attributes ++ codes ">\n")) ++ items) ++ codes "</svg>\n" ≡ declaration ++ 10 ∷ 60 ∷ 115 ∷ 118
    ∷ 103 ∷ (attributes ++ 62 ∷ 10 ∷ (items ++ codes "</svg>\n"))
document_parts attributes items = simp append_assoc

pub document_means : (d : Drawing) → Fits d → IsScaled d.size → AllByRecursion ItemInRange d.items
    → IsDocument (document_text d) d
unfolding document_text svg_text
document_means d f s h =
    let clean = document_clean d f s h in
    record {
      start = 10 ∷ 60 ∷ 115 ∷ 118 ∷ 103 ∷ (attributes_text (svg_attributes d) ++ 62 ∷ 10 ∷ (flat_map item_text d.items ++ codes "</svg>\n"));
      tag = attributes_text (svg_attributes d) ++ 62 ∷ 10 ∷ (flat_map item_text d.items ++ codes "</svg>\n");
      content = 10 ∷ (flat_map item_text d.items ++ codes "</svg>\n");
      close = codes "svg>\n";
      last = codes "\n";
      attributes = svg_attributes d;
      text = clean.utf8;
      allowed = clean.allowed;
      declared = document_parts (attributes_text (svg_attributes d)) (flat_map item_text d.items);
      opens = refl;
      has = attributes_back (svg_attributes d) _ (svg_written d f s) refl (_, inl refl);
      items_are = items_mean d.items f.items h;
      closes = refl;
      nothing_more = refl;
      means = svg_is d f s;
    }
