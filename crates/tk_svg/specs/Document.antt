-- What an SVG document stands for.
use Rattle.std.specs.Prelude.{◌≡◌, ℕ, suc, ◌<◌, Bool, IsTrue, not, ◌||◌, ◌&&◌, ◌==◌, nat_le, if◌then◌else◌, List, [], ◌∷◌, ◌++◌}
use Rattle.std.specs.Prelude.{length, Option, Some, None, is_some, codes, ℤ, pos, neg_ℤ, ◌+ℤ◌, ◌*ℤ◌, ◌≤ℤ◌, int_div, bytes_eq}
use Rattle.std.specs.Prelude.{chars, IsUtf8}
use Rattle.std.specs.List.{list_all}
use Rattle.tk_item.specs.declared.Fill.{Fill}
use Rattle.tk_item.specs.declared.Stroke.{Stroke}
use Rattle.tk_item.specs.declared.Seg.{Seg}
use Rattle.tk_item.specs.declared.Item.{Item}
use Rattle.tk_item.specs.declared.Item.TheVariants.{Path}
use Rattle.tk_item.specs.declared.Frame.{Frame}
use Rattle.tk_item.specs.declared.Drawing.{Drawing}
use Rattle.tk_characters.specs.Characters.{space, dash, slash, less, greater}
use Rattle.tk_characters.specs.Options.{◌and_then◌}
use Rattle.tk_svg.specs.Scan.{is_xml_char, after_blanks, number_at, numbers_of, scaled_of, Attribute, Attributes}
use Rattle.tk_svg.specs.Scan.{attribute, are_distinct, are_among}
use Rattle.tk_svg.specs.PathData.{IsPathData}
use Rattle.tk_svg.specs.Labels.{FitsText, Spells, IsPlaced, label_of}
use Rattle.tk_svg.specs.Paint.{paint_names, fill_of, stroke_of}

-- ---- elements

-- An attribute is the element's own, else that of the nearest group that has it, else it has its initial value (SVG 1.1,
-- section 6.12, Property inheritance). So what an element inherits is the attributes of the groups round it, the nearest
-- group's first, and the first of a name in `own ++ inherited` holds.

-- these are the attributes of a path for the item (SVG 1.1, section 8.2, The `path` element)
pub record IsPathElement (own inherited : List Attribute) (item : Item) : Type 0 where
  pub path : List ℕ
  pub segs : List Seg
  pub fill : Option Fill
  pub stroke : Option Stroke
  pub known : IsTrue (are_among (codes "d" ∷ paint_names) own)
  pub distinct : IsTrue (are_distinct own)
  pub has_path : attribute (codes "d") own ≡ Some path
  pub segs_are : IsPathData path segs
  pub fill_is : fill_of (own ++ inherited) ≡ Some fill
  pub stroke_is : stroke_of (own ++ inherited) ≡ Some stroke
  pub is : item ≡ Path segs fill stroke

-- the names of a text's attributes
abbrev pub text_names : List (List ℕ)
text_names = codes "x" ∷ codes "y" ∷ codes "transform" ∷ codes "fill" ∷ codes "xml:space" ∷ []

-- these are the attributes and the content of a text for the item: it is filled and not drawn, and its white space
-- counts (SVG 1.1, sections 10.4, The `text` element, and 10.15, White space handling)
pub record IsTextElement (own inherited : List Attribute) (content : List ℕ) (item : Item) : Type 0 where
  pub numbers : List ℤ
  pub fill : Fill
  pub text : List ℕ
  pub known : IsTrue (are_among text_names own)
  pub distinct : IsTrue (are_distinct own)
  pub preserved : attribute (codes "xml:space") own ≡ Some (codes "preserve")
  pub placed : IsPlaced own numbers
  pub filled : fill_of (own ++ inherited) ≡ Some (Some fill)
  pub not_drawn : stroke_of (own ++ inherited) ≡ Some None
  pub utf8 : IsUtf8 content
  pub spelled : Spells (chars content) text
  pub fits : FitsText text
  pub is : label_of numbers fill.rgb text ≡ Some item

-- these are the attributes of a group: each value is of its attribute's form, also where no element of the group has
-- that value in the end (SVG 1.1, section 5.2, Grouping: the `g` element)
pub record IsGroup (own : List Attribute) : Type 0 where
  pub known : IsTrue (are_among paint_names own)
  pub distinct : IsTrue (are_distinct own)
  pub fill : IsTrue (is_some (fill_of own))
  pub stroke : IsTrue (is_some (stroke_of own))

-- how many groups may stand in one another
abbrev pub most_groups : ℕ
most_groups = 64

-- a byte of a text's content, which goes up to the next `<`
abbrev pub is_content_byte : ℕ → Bool
is_content_byte c = not (c == less)

-- the elements up to an end tag, with blanks around them, and what stands behind its `</`. They stand in `depth` groups,
-- and `inherited` are the attributes of these
pub data Content : ℕ → List Attribute → List ℕ → List Item → List ℕ → Type 0 where
  ends : {depth : ℕ} {inherited : List Attribute} {bytes rest : List ℕ}
      → after_blanks bytes ≡ less ∷ slash ∷ rest
      → Content depth inherited bytes [] rest
  path : {depth : ℕ} {inherited own : List Attribute} {bytes tag more rest : List ℕ} {item : Item} {items : List Item}
      → after_blanks bytes ≡ codes "<path" ++ tag
      → Attributes tag own (slash ∷ greater ∷ more)
      → IsPathElement own inherited item
      → Content depth inherited more items rest
      → Content depth inherited bytes (item ∷ items) rest
  text : {depth : ℕ} {inherited own : List Attribute} {bytes tag inside content more rest : List ℕ} {item : Item}
      {items : List Item}
      → after_blanks bytes ≡ codes "<text" ++ tag
      → Attributes tag own (greater ∷ inside)
      → inside ≡ content ++ (codes "</text>" ++ more)
      → IsTrue (list_all is_content_byte content)
      → IsTextElement own inherited content item
      → Content depth inherited more items rest
      → Content depth inherited bytes (item ∷ items) rest
  group : {depth : ℕ} {inherited own : List Attribute} {bytes tag inside behind more rest : List ℕ} {inner items : List Item}
      → after_blanks bytes ≡ codes "<g" ++ tag
      → Attributes tag own (greater ∷ inside)
      → IsGroup own
      → depth < most_groups
      → Content (suc depth) (own ++ inherited) inside inner behind
      → behind ≡ codes "g>" ++ more
      → Content depth inherited more items rest
      → Content depth inherited bytes (inner ++ items) rest

-- ---- the outermost element

-- the names of its attributes, each of which stands there
abbrev pub svg_names : List (List ℕ)
svg_names =
    codes "xmlns" ∷ codes "version" ∷ codes "width" ∷ codes "height" ∷ codes "viewBox"
    ∷ codes "font-family" ∷ codes "font-size" ∷ []

-- a length in points: a number, then `pt` (SVG 1.1, section 7.10, Units)
abbrev pub points_value : List ℕ → Option ℤ
points_value value = number_at value and_then λ x. if bytes_eq x.1 (codes "pt") then Some x.0 else None

-- a length in SVG's points, cut toward zero, of one in TeX's points: 800 of SVG's are as long as 803 of TeX's
abbrev pub size_of : ℤ → ℤ
size_of w = int_div (w *ℤ pos 800) (pos 803)

-- an ASCII letter, a digit, a space or `-`
abbrev pub is_family_char : ℕ → Bool
is_family_char c =
    (nat_le 97 c && nat_le c 122)
    || ((nat_le 65 c && nat_le c 90)
    || ((nat_le 48 c && nat_le c 57)
    || (c == space || c == dash)))

-- a name of a font: one or more of these
pub record IsFamily (family : List ℕ) : Type 0 where
  pub some : 0 < length family
  pub each : IsTrue (list_all is_family_char family)

-- the frame of a view box, with y turned upward: `0 -2 3 2` goes from (0,0) to (3,2)
abbrev pub box_frame : ℤ → ℤ → ℤ → ℤ → Frame
box_frame x y w h = record { left = x; bottom = neg_ℤ (y +ℤ h); right = x +ℤ w; top = neg_ℤ y }

-- these are the attributes of `svg` for the drawing's frame and font (SVG 1.1, sections 5.1.2, The `svg` element, and
-- 7.7, The `viewBox` attribute)
pub record IsSvg (attributes : List Attribute) (d : Drawing) : Type 0 where
  pub x : ℤ
  pub y : ℤ
  pub w : ℤ
  pub h : ℤ
  pub box_text : List ℕ
  pub width_text : List ℕ
  pub height_text : List ℕ
  pub size_text : List ℕ
  pub known : IsTrue (are_among svg_names attributes)
  pub distinct : IsTrue (are_distinct attributes)
  pub namespace : attribute (codes "xmlns") attributes ≡ Some (codes "http://www.w3.org/2000/svg")
  pub version : attribute (codes "version") attributes ≡ Some (codes "1.1")
  pub has_box : attribute (codes "viewBox") attributes ≡ Some box_text
  pub box_is : numbers_of 4 box_text ≡ Some (x ∷ y ∷ w ∷ h ∷ [])
  pub w_sign : pos 0 ≤ℤ w
  pub h_sign : pos 0 ≤ℤ h
  pub frame_is : d.frame ≡ box_frame x y w h
  pub has_width : attribute (codes "width") attributes ≡ Some width_text
  pub width_is : points_value width_text ≡ Some (size_of w)
  pub has_height : attribute (codes "height") attributes ≡ Some height_text
  pub height_is : points_value height_text ≡ Some (size_of h)
  pub has_family : attribute (codes "font-family") attributes ≡ Some d.family
  pub family_is : IsFamily d.family
  pub has_size : attribute (codes "font-size") attributes ≡ Some size_text
  pub size_is : scaled_of size_text ≡ Some d.size

-- ---- the document

-- what a document begins with (XML 1.0, section 2.8, XMLDecl)
abbrev pub declaration : List ℕ
declaration = codes "<?xml version=\"1.0\" encoding=\"UTF-8\"?>"

-- the bytes are an SVG document for the drawing
pub record IsDocument (bytes : List ℕ) (d : Drawing) : Type 0 where
  pub start : List ℕ
  pub tag : List ℕ
  pub content : List ℕ
  pub close : List ℕ
  pub last : List ℕ
  pub attributes : List Attribute
  pub text : IsUtf8 bytes
  pub allowed : IsTrue (list_all is_xml_char (chars bytes))
  pub declared : bytes ≡ declaration ++ start
  pub opens : after_blanks start ≡ codes "<svg" ++ tag
  pub has : Attributes tag attributes (greater ∷ content)
  pub items_are : Content 0 [] content d.items close
  pub closes : close ≡ codes "svg>" ++ last
  pub nothing_more : after_blanks last ≡ []
  pub means : IsSvg attributes d
