-- What is written part by part is the whole.
use Rattle.std.proofs.Common.{◌≤◌, arith, ◌≡◌, ℕ, ◌+◌, ◌<◌, Bool, cond, true, false, List, [], ◌∷◌, ◌++◌, length, get_or, take, refl, sym, ap, subst}
use Rattle.std.proofs.Common.{◌∙◌, append_assoc}
use Rattle.std.specs.Prelude.{ℤ, Option, Some, codes, flat_map, bytes_eq}
use Rattle.std.specs.List.{All, AllByRecursion}
use Rattle.std.proofs.lemmas.List.{append-nil, flat_map_more, take_more, take_all}
use Rattle.std.proofs.lemmas.List.Elements.{All-more}
use Rattle.std.proofs.lemmas.List.Concat.{flat_map-append}
use Rattle.tk_num.specs.Text.{text_of}
use Rattle.tk_svg.specs.Scan.{Attribute}
use Rattle.tk_num.specs.Number.{IsScaled}
use Rattle.tk_item.specs.Lengths.{AreDashes}
use Rattle.tk_item.specs.declared.Seg.{Seg}
use Rattle.tk_item.specs.declared.Fill.{Fill}
use Rattle.tk_item.specs.declared.Stroke.{Stroke}
use Rattle.tk_item.specs.declared.Item.{Item}
use Rattle.tk_item.specs.declared.Item.TheVariants.{Path}
use Rattle.tk_item.specs.declared.Label.{Label}
use Rattle.tk_item.specs.declared.Drawing.{Drawing}
use Rattle.tk_item.specs.declared.Frame.{Frame}
use Rattle.tk_svg.specs.Document.{declaration}
use Rattle.tk_svgwrite.specs.Values.{attribute_text, attributes_text, OptionalAttribute, optional, differing, numbers_text, rgb_text, rule_text, cap_text}
use Rattle.tk_svgwrite.specs.Plain.{fill_attributes, stroke_attributes, item_text, frame_width, frame_height}
use Rattle.tk_svgwrite.specs.Values.{join_text, dash_text, data_text}
use Rattle.tk_svgwrite.specs.Plain.{points_text, box_text, svg_text, document_text}
use Rattle.tk_svgwrite.specs.Values.{matrix_text, content_text}
use Rattle.tk_svgwrite.specs.Plain.{matrix_numbers, placing_attributes, label_attributes, label_text}
use Rattle.tk_svgwrite.specs.Presentations.{presentation_text}
use Rattle.tk_svgwrite.proofs.Paint.{all_fit, dash_no_none}

-- a number behind a space
abbrev pub spaced_text : ℤ → List ℕ
spaced_text y = codes " " ++ text_of y

pub numbers_text-cons : (x : ℤ) (xs : List ℤ) → numbers_text (x ∷ xs) ≡ text_of x ++ flat_map spaced_text xs
numbers_text-cons x [] = sym (append-nil (text_of x))
numbers_text-cons x (y ∷ ys) = rw (numbers_text-cons y ys) (append_assoc (text_of x) (codes " ") (text_of y ++ flat_map spaced_text ys))

pub differing-append : (a b : List OptionalAttribute) → differing (a ++ b) ≡ differing a ++ differing b
unfolding differing
differing-append [] b = refl
differing-append (s ∷ a) b = by_test (bytes_eq s.value s.initial) (differing-append a b)
  where
    by_test : (t : Bool) → differing (a ++ b) ≡ differing a ++ differing b
        → cond t (differing (a ++ b)) ((s.name, s.value) ∷ differing (a ++ b)) ≡ cond t (differing a) ((s.name, s.value) ∷ differing a) ++ differing b
    by_test true e = e
    by_test false e = ap (λ (w : List Attribute). (s.name, s.value) ∷ w) e

-- what is written of them
abbrev pub optionals_text : List OptionalAttribute → List ℕ
optionals_text optionals = attributes_text (differing optionals)

pub optionals_text-append : (a b : List OptionalAttribute) → optionals_text (a ++ b) ≡ optionals_text a ++ optionals_text b
optionals_text-append a b = ap attributes_text (differing-append a b) ∙ flat_map-append attribute_text (differing a) (differing b)

-- one more that may be left out, and one attribute more
pub optional_step : (done : List OptionalAttribute) (s : OptionalAttribute) (before now new : List ℕ) → now ≡ before ++ optionals_text done
    → new ≡ now ++ optionals_text (s ∷ []) → new ≡ before ++ optionals_text (done ++ s ∷ [])
optional_step done s before now new so_far more =
    more ∙ ap (λ (w : List ℕ). w ++ optionals_text (s ∷ [])) so_far ∙ append_assoc before (optionals_text done) (optionals_text (s ∷ []))
    ∙ ap (λ w. before ++ w) (sym (optionals_text-append done (s ∷ [])))

pub attribute_step : (done : List Attribute) (a : Attribute) (before now new : List ℕ) → now ≡ before ++ attributes_text done
    → new ≡ now ++ attribute_text a → new ≡ before ++ attributes_text (done ++ a ∷ [])
attribute_step done a before now new so_far more =
    more ∙ ap (λ (w : List ℕ). w ++ attribute_text a) so_far ∙ flat_map_more attribute_text before done a

-- a middle part that is written in three steps
joined_inside : (before a b c : List ℕ) → ((before ++ a) ++ b) ++ c ≡ before ++ (a ++ b ++ c)
joined_inside before a b c = simp append_assoc

-- ---- dashes

abbrev pub dash_attribute : List ℤ → OptionalAttribute
dash_attribute ds = optional (codes "stroke-dasharray") (codes "none") (dash_text ds)

pub no_dashes : (before : List ℕ) (ds : List ℤ) → length ds ≡ 0 → before ≡ before ++ optionals_text (dash_attribute ds ∷ [])
unfolding differing
no_dashes before [] e = sym (append-nil before)
no_dashes before (x ∷ xs) e = absurd (omega arith)

dashes_text : (x : ℤ) (xs : List ℤ) → AllByRecursion IsScaled (x ∷ xs) → length (x ∷ xs) ≤ 16
    → optionals_text (dash_attribute (x ∷ xs) ∷ []) ≡ codes " " ++ codes "stroke-dasharray" ++ codes "=\"" ++ numbers_text (x ∷ xs) ++ codes "\""
unfolding differing
dashes_text x xs h few = rw (dash_no_none x xs (all_fit (x ∷ xs) h) few _ refl) (append-nil _)

pub some_dashes : (before opened now : List ℕ) (x : ℤ) (xs ds : List ℤ) → ds ≡ x ∷ xs
    → opened ≡ before ++ (codes " " ++ codes "stroke-dasharray" ++ codes "=\"") → now ≡ opened ++ numbers_text (x ∷ xs)
    → AllByRecursion IsScaled (x ∷ xs) → AreDashes ds → now ++ codes "\"" ≡ before ++ optionals_text (dash_attribute ds ∷ [])
some_dashes before opened now x xs ds is o n h d =
    let few : length (x ∷ xs) ≤ 16 = subst (λ (w : List ℤ). length w ≤ 16) is d.few in
    let same : optionals_text (dash_attribute ds ∷ []) ≡ optionals_text (dash_attribute (x ∷ xs) ∷ []) = ap (λ (w : List ℤ). optionals_text
    (dash_attribute w ∷ [])) is in
    ap (λ (w : List ℕ). w ++ codes "\"") (n ∙ ap (λ (w : List ℕ). w ++ numbers_text (x ∷ xs)) o)
    ∙ joined_inside before (codes " " ++ codes "stroke-dasharray" ++ codes "=\"") (numbers_text (x ∷ xs)) (codes "\"")
    ∙ ap (λ w. before ++ w) (sym (same ∙ dashes_text x xs h few))

-- ---- elements

-- what stands behind the data of a path
pub presentation_parts : (before quoted filled drawn all : List ℕ) (fill : Option Fill) (stroke : Option Stroke)
    → before ≡ []
    → quoted ≡ before ++ codes "\""
    → filled ≡ quoted ++ optionals_text (fill_attributes fill)
    → drawn ≡ filled ++ optionals_text (stroke_attributes stroke)
    → all ≡ drawn ++ codes "/>\n"
    → all ≡ presentation_text fill stroke
presentation_parts before quoted filled drawn all fill stroke none q f d e =
    e
    ∙ ap (λ (w : List ℕ). w ++ codes "/>\n") (d ∙ ap (λ (w : List ℕ). w ++ optionals_text (stroke_attributes stroke)) (f
    ∙ ap (λ (w : List ℕ). w ++ optionals_text (fill_attributes fill)) (q ∙ ap (λ (w : List ℕ). w ++ codes "\"") none)))
    ∙ ap (λ (w : List ℕ). w ++ codes "/>\n") (append_assoc (codes "\"") (optionals_text (fill_attributes fill)) (optionals_text (stroke_attributes stroke)))
    ∙ ap (λ (w : List ℕ). codes "\"" ++ w ++ codes "/>\n") (sym (optionals_text-append (fill_attributes fill) (stroke_attributes stroke)))

path_shape : (before p o d q s t : List ℕ) → ((before ++ (p ++ o)) ++ d) ++ ((q ++ s) ++ t) ≡ before ++ ((p ++ (((o ++ d) ++ q) ++ s)) ++ t)
path_shape before p o d q s t = simp append_assoc

pub path_parts : (before opened described all : List ℕ) (segs : List Seg) (fill : Option Fill) (stroke : Option Stroke)
    → opened ≡ before ++ codes "<path d=\""
    → described ≡ opened ++ data_text segs
    → all ≡ described ++ presentation_text fill stroke
    → all ≡ before ++ item_text (Path segs fill stroke)
unfolding item_text
path_parts before opened described all segs fill stroke o d e =
    e
    ∙ ap (λ (w : List ℕ). w ++ presentation_text fill stroke) (d ∙ ap (λ (w : List ℕ). w ++ data_text segs) o)
    ∙ path_shape before (codes "<path") (codes " d=\"") (data_text segs) (codes "\"") (optionals_text (fill_attributes fill ++ stroke_attributes stroke))
    (codes "/>\n")

-- ---- steps of loops

pub flat_map_step : {X : Type 0} (f : X → List ℕ) (xs : List X) (i : ℕ) (x : X) (before now new : List ℕ) → i < length xs → x ≡ get_or xs i x
    → now ≡ before ++ flat_map f (take i xs) → new ≡ now ++ f x → new ≡ before ++ flat_map f (take (i + 1) xs)
flat_map_step f xs i x before now new lt here so_far more =
    more ∙ ap (λ (w : List ℕ). w ++ f x) so_far ∙ flat_map_more f before (take i xs) x
    ∙ ap (λ w. before ++ flat_map f w) (sym (take_more xs i x lt ∙ ap (λ y. take i xs ++ y ∷ []) (sym here)))

pub all_step : {X : Type 0} (P : X → Type 0) (xs : List X) (i : ℕ) (x : X) → i < length xs → x ≡ get_or xs i x → All P (take i xs) → P x
    → All P (take (i + 1) xs)
all_step P xs i x lt here so_far more = All-more P xs i x lt so_far (subst P here more)

-- ---- the letters of a family

pub family_parts : (before opened now family : List ℕ) (i : ℕ) → length family ≤ i
    → opened ≡ before ++ (codes " " ++ codes "font-family" ++ codes "=\"") → now ≡ opened ++ take i family
    → now ++ codes "\"" ≡ before ++ attribute_text (codes "font-family", family)
family_parts before opened now family i le o n =
    ap (λ (w : List ℕ). w ++ codes "\"") (n ∙ ap (λ (w : List ℕ). opened ++ w) (take_all i family le) ∙ ap (λ (w : List ℕ). w ++ family) o)
    ∙ joined_inside before (codes " " ++ codes "font-family" ++ codes "=\"") family (codes "\"")

-- ---- a fill and a stroke

pub fill_parts : (before first : List ℕ) (fill : Option Fill) (f : Fill) (colour rule : List ℕ) → fill ≡ Some f → colour ≡ rgb_text f.rgb
    → rule ≡ rule_text f.rule → first ≡ before ++ optionals_text (optional (codes "fill") (codes "#000000") colour ∷ []) →
    first ++ optionals_text (optional (codes "fill-rule") (codes "nonzero") rule ∷ []) ≡ before ++ optionals_text (fill_attributes fill)
fill_parts before first fill f colour rule e c r h =
    optional_step (optional (codes "fill") (codes "#000000") colour ∷ []) (optional (codes "fill-rule") (codes "nonzero") rule) before first _ h refl
    ∙ ap (λ (w : List ℕ). before ++ optionals_text (optional (codes "fill") (codes "#000000") w ∷ optional (codes "fill-rule") (codes "nonzero") rule
    ∷ [])) c
    ∙ ap (λ (w : List ℕ). before ++ optionals_text (optional (codes "fill") (codes "#000000") (rgb_text f.rgb) ∷ optional (codes "fill-rule")
    (codes "nonzero") w ∷ [])) r
    ∙ ap (λ (w : Option Fill). before ++ optionals_text (fill_attributes w)) (sym e)

-- seven of them, one behind another
pub seven_attributes : (before o1 o2 o3 o4 o5 o6 : List ℕ) (a b c d e f g : OptionalAttribute) → o1 ≡ before ++ optionals_text (a ∷ [])
    → o2 ≡ o1 ++ optionals_text (b ∷ []) → o3 ≡ o2 ++ optionals_text (c ∷ []) → o4 ≡ o3 ++ optionals_text (d ∷ []) → o5 ≡ o4 ++ optionals_text (e ∷ [])
    → o6 ≡ o5 ++ optionals_text (f ∷ []) →
    o6 ++ optionals_text (g ∷ []) ≡ before ++ optionals_text (a ∷ b ∷ c ∷ d ∷ e ∷ f ∷ g ∷ [])
seven_attributes before o1 o2 o3 o4 o5 o6 a b c d e f g h1 h2 h3 h4 h5 h6 =
    let h2 = optional_step (a ∷ []) b before o1 o2 h1 h2 in
    let h3 = optional_step (a ∷ b ∷ []) c before o2 o3 h2 h3 in
    let h4 = optional_step (a ∷ b ∷ c ∷ []) d before o3 o4 h3 h4 in
    let h5 = optional_step (a ∷ b ∷ c ∷ d ∷ []) e before o4 o5 h4 h5 in
    let h6 = optional_step (a ∷ b ∷ c ∷ d ∷ e ∷ []) f before o5 o6 h5 h6 in
    optional_step (a ∷ b ∷ c ∷ d ∷ e ∷ f ∷ []) g before o6 _ h6 refl

-- the attributes of a frame, one behind another
abbrev pub frame_attributes : Frame → List Attribute
frame_attributes frame =
    (codes "width", points_text (frame_width frame)) ∷ (codes "height", points_text (frame_height frame)) ∷ (codes "viewBox", box_text frame) ∷ []

pub frame_steps : (before o1 o2 : List ℕ) (frame : Frame) → o1 ≡ before ++ attribute_text (codes "width", points_text (frame_width frame))
    → o2 ≡ o1 ++ attribute_text (codes "height", points_text (frame_height frame)) →
    o2 ++ attribute_text (codes "viewBox", box_text frame) ≡ before ++ attributes_text (frame_attributes frame)
frame_steps before o1 o2 frame h1 h2 =
    let a : Attribute = (codes "width", points_text (frame_width frame)) in
    let b : Attribute = (codes "height", points_text (frame_height frame)) in
    let h1 = attribute_step [] a before before o1 (sym (append-nil before)) h1 in
    let h2 = attribute_step (a ∷ []) b before o1 o2 h1 h2 in
    attribute_step (a ∷ b ∷ []) (codes "viewBox", box_text frame) before o2 _ h2 refl

-- the line of the outermost element, part by part
pub svg_written : (before o1 o2 o3 o4 o5 : List ℕ) (d : Drawing)
    → o1 ≡ before ++ (codes "<svg" ++ attribute_text (codes "xmlns", codes "http://www.w3.org/2000/svg") ++ attribute_text (codes "version", codes "1.1"))
    → o2 ≡ o1 ++ attributes_text (frame_attributes d.frame) → o3 ≡ o2 ++ attribute_text (codes "font-family", d.family)
    → o4 ≡ o3 ++ attribute_text (codes "font-size", text_of d.size) → o5 ≡ o4 ++ codes ">\n" → o5 ≡ before ++ svg_text d
unfolding svg_text
svg_written before o1 o2 o3 o4 o5 d h1 h2 h3 h4 h5 =
    h5 ∙ ap (λ (w : List ℕ). w ++ codes ">\n") (h4
    ∙ ap (λ (w : List ℕ). w ++ attribute_text (codes "font-size", text_of d.size)) (h3
    ∙ ap (λ (w : List ℕ). w ++ attribute_text (codes "font-family", d.family)) (h2
    ∙ ap (λ (w : List ℕ). w ++ attributes_text (frame_attributes d.frame)) h1)))
    ∙ svg_shape before (codes "<svg" ++ attribute_text (codes "xmlns", codes "http://www.w3.org/2000/svg")
    ++ attribute_text (codes "version", codes "1.1")) (attribute_text (codes "width", points_text (frame_width d.frame)))
    (attribute_text (codes "height", points_text (frame_height d.frame))) (attribute_text (codes "viewBox", box_text d.frame))
    (attribute_text (codes "font-family", d.family)) (attribute_text (codes "font-size", text_of d.size)) (codes ">\n")
  where
    svg_shape : (before start w h v f s end : List ℕ)
        → ((((before ++ start) ++ (w ++ (h ++ (v ++ [])))) ++ f) ++ s) ++ end ≡ before ++ ((start ++ (w ++ (h ++ (v ++ (f ++ (s ++ [])))))) ++ end)
    svg_shape before start w h v f s end = simp (append_assoc, append-nil {A = ℕ})

pub pen_parts : (before o1 o2 o3 o4 o5 o6 : List ℕ) (s : Stroke) (colour ends joins : List ℕ) → colour ≡ rgb_text s.rgb → ends ≡ cap_text s.cap
    → joins ≡ join_text s.join →
    o1 ≡ before ++ optionals_text (optional (codes "stroke") (codes "none") colour ∷ [])
    → o2 ≡ o1 ++ optionals_text (optional (codes "stroke-width") (codes "1") (text_of s.width) ∷ [])
    → o3 ≡ o2 ++ optionals_text (optional (codes "stroke-linecap") (codes "butt") ends ∷ [])
    → o4 ≡ o3 ++ optionals_text (optional (codes "stroke-linejoin") (codes "miter") joins ∷ []) →
    o5 ≡ o4 ++ optionals_text (optional (codes "stroke-miterlimit") (codes "4") (text_of s.miter) ∷ [])
    → o6 ≡ o5 ++ optionals_text (dash_attribute s.dash ∷ []) →
    o6 ++ optionals_text (optional (codes "stroke-dashoffset") (codes "0") (text_of s.phase) ∷ []) ≡ before ++ optionals_text (stroke_attributes (Some s))
pen_parts before o1 o2 o3 o4 o5 o6 s colour ends joins e f g h1 h2 h3 h4 h5 h6 =
    let h1 = h1 ∙ ap (λ (w : List ℕ). before ++ optionals_text (optional (codes "stroke") (codes "none") w ∷ [])) e in
    let h3 = h3 ∙ ap (λ (w : List ℕ). o2 ++ optionals_text (optional (codes "stroke-linecap") (codes "butt") w ∷ [])) f in
    let h4 = h4 ∙ ap (λ (w : List ℕ). o3 ++ optionals_text (optional (codes "stroke-linejoin") (codes "miter") w ∷ [])) g in
    seven_attributes before o1 o2 o3 o4 o5 o6 _ _ _ _ _ _ _ h1 h2 h3 h4 h5 h6

-- ---- a label

pub label_parts : (before o1 o2 o3 o4 o5 all colour : List ℕ) (label : Label) → colour ≡ rgb_text label.rgb
    → o1 ≡ before ++ codes "<text"
    → o2 ≡ o1 ++ attributes_text (placing_attributes label)
    → o3 ≡ o2 ++ optionals_text (optional (codes "fill") (codes "#000000") colour ∷ [])
    → o4 ≡ o3 ++ codes " xml:space=\"preserve\">"
    → o5 ≡ o4 ++ content_text label.text
    → all ≡ o5 ++ codes "</text>\n"
    → all ≡ before ++ label_text label
unfolding label_text
label_parts before o1 o2 o3 o4 o5 all colour label c h1 h2 h3 h4 h5 h6 =
    let fill : OptionalAttribute = optional (codes "fill") (codes "#000000") (rgb_text label.rgb) in
    let space : Attribute = (codes "xml:space", codes "preserve") in
    let placed = attributes_text (placing_attributes label) in
    let filled = h3 ∙ ap (λ (w : List ℕ). o2 ++ optionals_text (optional (codes "fill") (codes "#000000") w ∷ [])) c in
    let attributes : attributes_text (label_attributes label) ≡ (placed ++ optionals_text (fill ∷ [])) ++ attributes_text (space ∷ []) =
    flat_map-append attribute_text (placing_attributes label ++ differing (fill ∷ [])) (space ∷ [])
    ∙ ap (λ (w : List ℕ). w ++ attributes_text (space ∷ [])) (flat_map-append attribute_text (placing_attributes label) (differing (fill ∷ []))) in
    h6 ∙ ap (λ (w : List ℕ). w ++ codes "</text>\n") (h5 ∙ ap (λ (w : List ℕ). w ++ content_text label.text) (h4
    ∙ ap (λ (w : List ℕ). w ++ codes " xml:space=\"preserve\">") (filled ∙ ap (λ (w : List ℕ). w ++ optionals_text (fill ∷ [])) (h2
    ∙ ap (λ (w : List ℕ). w ++ placed) h1))))
    ∙ label_shape before (codes "<text") placed (optionals_text (fill ∷ [])) (attribute_text space) (codes ">") (content_text label.text)
    (codes "</text>\n")
    ∙ ap (λ (w : List ℕ). before ++ (codes "<text" ++ w ++ codes ">" ++ content_text label.text ++ codes "</text>\n")) (sym attributes)
  where
    label_shape : (before t p f s g c e : List ℕ)
        → (((((before ++ t) ++ p) ++ f) ++ (s ++ g)) ++ c) ++ e ≡ before ++ ((((t ++ ((p ++ f) ++ (s ++ []))) ++ g) ++ c) ++ e)
    label_shape before t p f s g c e = simp (append_assoc, append-nil {A = ℕ})

pub matrix_parts : (before o1 o2 o3 o4 : List ℕ) (numbers : List ℤ) (label : Label)
    → o1 ≡ before ++ (codes " " ++ codes "transform" ++ codes "=\"") → o2 ≡ o1 ++ codes "matrix(" → o3 ≡ o2 ++ numbers_text numbers
    → o4 ≡ o3 ++ codes ")" → numbers ≡ matrix_numbers label → o4 ++ codes "\"" ≡ before ++ attributes_text ((codes "transform", matrix_text (matrix_numbers label)) ∷ [])
matrix_parts before o1 o2 o3 o4 numbers label h1 h2 h3 h4 e =
    ap (λ (w : List ℕ). w ++ codes "\"") (h4 ∙ ap (λ (w : List ℕ). w ++ codes ")") (h3
    ∙ ap (λ (w : List ℕ). w ++ numbers_text numbers) (h2 ∙ ap (λ (w : List ℕ). w ++ codes "matrix(") h1)))
    ∙ matrix_shape before (codes " " ++ codes "transform" ++ codes "=\"") (codes "matrix(") (numbers_text numbers) (codes ")") (codes "\"")
    ∙ ap (λ (w : List ℤ). before ++ attributes_text ((codes "transform", matrix_text w) ∷ [])) e
  where
    matrix_shape : (before s m n p q : List ℕ) → ((((before ++ s) ++ m) ++ n) ++ p) ++ q ≡ before ++ (((s ++ (m ++ (n ++ p))) ++ q) ++ [])
    matrix_shape before s m n p q = simp (append_assoc, append-nil {A = ℕ})

-- ---- the document

document_shape : (before start svg items end : List ℕ) → (((before ++ start) ++ svg) ++ items) ++ end ≡ before ++ (((start ++ svg) ++ items) ++ end)
document_shape before start svg items end = simp append_assoc

pub document_written : (before o1 o2 o3 o4 : List ℕ) (d : Drawing) → o1 ≡ before ++ (declaration ++ codes "\n") → o2 ≡ o1 ++ svg_text d
    → o3 ≡ o2 ++ flat_map item_text d.items → o4 ≡ o3 ++ codes "</svg>\n" → o4 ≡ before ++ document_text d
unfolding document_text
document_written before o1 o2 o3 o4 d e1 e2 e3 e4 =
    e4 ∙ ap (λ (w : List ℕ). w ++ codes "</svg>\n")
    (e3 ∙ ap (λ (w : List ℕ). w ++ flat_map item_text d.items) (e2 ∙ ap (λ (w : List ℕ). w ++ svg_text d) e1))
    ∙ document_shape before (declaration ++ codes "\n") (svg_text d) (flat_map item_text d.items) (codes "</svg>\n")

-- the elements of all items, once the loop is at their end
pub items_written : (before now : List ℕ) (items : List Item) (i : ℕ) → length items ≤ i → now ≡ before ++ flat_map item_text (take i items)
    → now ≡ before ++ flat_map item_text items
items_written before now items i le e = e ∙ ap (λ (w : List Item). before ++ flat_map item_text w) (take_all i items le)
