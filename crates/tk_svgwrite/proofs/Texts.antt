-- What is written of a label stands for it.
use Rattle.std.proofs.Common.{◌≡◌, ℕ, ◌+◌, ◌/◌, ◌%◌, ◌≤◌, Bool, true, false, cond, eqb, ltb, List, [], ◌∷◌, ◌++◌, Some}
use Rattle.std.proofs.Common.{refl, sym, ap, subst, ◌∙◌, arith, lit<}
use Rattle.std.specs.Prelude.{ℤ, pos, neg_ℤ, codes, chars, IsUtf8, bytes_eq}
use Rattle.std.specs.Char.{IsScalar, encode_utf8}
use Rattle.std.specs.List.{list_all, AllByRecursion}
use Rattle.std.proofs.lemmas.Bool.{eqb-true, le-leb}
use Rattle.std.proofs.lemmas.Bool.Decides.{nat_tests, Decides-int_eq}
use Rattle.std.proofs.lemmas.List.{append-nil}
use Rattle.std.proofs.lemmas.Slice.Eq.{bytes_eq-Decides}
use Rattle.std.proofs.lemmas.Str.{IsUtf8-append, IsUtf8-encode, IsUtf8-nil, chars-append, chars-nil, chars_past_char}
use Rattle.tk_num.specs.Number.{IsScaled, is_scaled}
use Rattle.tk_num.specs.Text.{text_of}
use Rattle.tk_item.specs.declared.Rule.TheVariants.{NonZero}
use Rattle.tk_item.specs.declared.Point.{Point}
use Rattle.tk_item.specs.declared.Label.{Label}
use Rattle.tk_item.specs.declared.Item.TheVariants as item
use Rattle.tk_svg.specs.Scan.{Attribute, attribute, are_among, are_distinct, is_xml_char}
use Rattle.tk_svg.specs.Labels.{is_label_char, FitsText, Spells, nothing, itself, by_name, IsPlaced, by_point, by_matrix, label_of}
use Rattle.tk_svg.specs.Paint.{value_or_initial, fill_of, stroke_of}
use Rattle.tk_svg.specs.Document.{text_names, IsTextElement, is_content_byte}
use Rattle.tk_svg.proofs.Unique.{and_true}
use Rattle.tk_svgwrite.specs.Values.{attributes_text, differing, numbers_text, matrix_text, rgb_text, escaped, content_text}
use Rattle.tk_svgwrite.specs.Plain.{is_upright, matrix_numbers, label_attributes, label_text}
use Rattle.tk_svgwrite.specs.Ranges.{PointInRange, LabelInRange}
use Rattle.tk_svgwrite.proofs.Numbers.{is_plain, all_both, text_plain, numbers_plain, list_back}
use Rattle.tk_svgwrite.proofs.PathData.{neg-neg, scaled_fits, neg_fits, unsigned_abs-neg}
use Rattle.tk_svgwrite.proofs.Paint.{rgb_plain, paint_back, rule_back, scaled_back, fill_from, nothing_drawn, all_fit}
use Rattle.tk_svgwrite.proofs.Optionals.{IsWritten}
use Rattle.tk_svgwrite.proofs.Lines.{attribute_is_written, attributes_line, line_utf8, IsClean, clean_both, clean_line}

-- ---- characters

-- how the document spells a character of a label
abbrev spelling : ℕ → List ℕ
spelling c = cond (eqb c 38) (codes "&amp;") (cond (eqb c 60) (codes "&lt;") (cond (eqb c 62) (codes "&gt;") (c ∷ [])))

escaped_back : (c : ℕ) → IsScalar c → IsUtf8 (escaped c) × (chars (escaped c) ≡ spelling c)
escaped_back c s = by_test (eqb c 38) (eqb c 60) (eqb c 62)
  where
    by_test : (x y z : Bool) → IsUtf8 (cond x (codes "&amp;") (cond y (codes "&lt;") (cond z (codes "&gt;") (encode_utf8 c))))
        × (chars (cond x (codes "&amp;") (cond y (codes "&lt;") (cond z (codes "&gt;") (encode_utf8 c))))
        ≡ cond x (codes "&amp;") (cond y (codes "&lt;") (cond z (codes "&gt;") (c ∷ []))))
    by_test true y z = line_utf8 (codes "&amp;") refl
    by_test false true z = line_utf8 (codes "&lt;") refl
    by_test false false true = line_utf8 (codes "&gt;") refl
    by_test false false false =
        let utf8 = IsUtf8-encode c s in
        (utf8, chars_past_char (encode_utf8 c) [] c utf8 (sym (append-nil (encode_utf8 c))) ∙ ap (λ (w : List ℕ). c ∷ w) chars-nil)

content_utf8 : (text : List ℕ) → AllByRecursion IsScalar text → IsUtf8 (content_text text)
content_utf8 [] h = IsUtf8-nil
content_utf8 (c ∷ text) h = IsUtf8-append (escaped c) (content_text text) (escaped_back c h.0).0 (content_utf8 text h.1)

content_chars : (c : ℕ) (text : List ℕ) → IsScalar c → chars (content_text (c ∷ text)) ≡ spelling c ++ chars (content_text text)
content_chars c text s =
    let back = escaped_back c s in
    chars-append (escaped c) (content_text text) back.0 ∙ ap (λ (w : List ℕ). w ++ chars (content_text text)) back.1

spelling_spells : (c : ℕ) (more text : List ℕ) → Spells more text → Spells (spelling c ++ more) (c ∷ text)
spelling_spells c more text s = by_test (eqb c 38) (eqb c 60) (eqb c 62) refl refl refl
  where
    by_test : (x y z : Bool) → eqb c 38 ≡ x → eqb c 60 ≡ y → eqb c 62 ≡ z
        → Spells (cond x (codes "&amp;") (cond y (codes "&lt;") (cond z (codes "&gt;") (c ∷ []))) ++ more) (c ∷ text)
    by_test true y z e f g =
        subst (λ (n : ℕ). Spells (codes "&amp;" ++ more) (n ∷ text)) (sym (eqb-true c 38 e)) (by_name (codes "amp") refl refl s)
    by_test false true z e f g =
        subst (λ (n : ℕ). Spells (codes "&lt;" ++ more) (n ∷ text)) (sym (eqb-true c 60 f)) (by_name (codes "lt") refl refl s)
    by_test false false true e f g =
        subst (λ (n : ℕ). Spells (codes "&gt;" ++ more) (n ∷ text)) (sym (eqb-true c 62 g)) (by_name (codes "gt") refl refl s)
    by_test false false false e f g = itself (rw (e, f, g) refl) s

content_spells : (text : List ℕ) → AllByRecursion IsScalar text → Spells (chars (content_text text)) text
content_spells [] h = subst (λ (w : List ℕ). Spells w []) (sym chars-nil) nothing
content_spells (c ∷ text) h =
    subst (λ (w : List ℕ). Spells w (c ∷ text)) (sym (content_chars c text h.0))
    (spelling_spells c (chars (content_text text)) text (content_spells text h.1))

-- ---- bytes

high_byte : (n : ℕ) → 128 ≤ n → is_content_byte n ≡ true
high_byte n h = grind (arith, nat_tests)

encoded_inside : (c : ℕ) → eqb c 60 ≡ false → list_all is_content_byte (encode_utf8 c) ≡ true
unfolding encode_utf8
encoded_inside c e = by_test (ltb c 128) (ltb c 2048) (ltb c 65536)
  where
    by_test : (x y z : Bool) → list_all is_content_byte (cond x (c ∷ []) (cond y ((192 + c / 64) ∷ (128 + c % 64) ∷ [])
        (cond z ((224 + c / 4096) ∷ (128 + (c / 64) % 64) ∷ (128 + c % 64) ∷ [])
        ((240 + c / 262144) ∷ (128 + (c / 4096) % 64) ∷ (128 + (c / 64) % 64) ∷ (128 + c % 64) ∷ [])))) ≡ true
    by_test true y z = rw e refl
    by_test false true z = rw (high_byte (192 + c / 64) (omega arith), high_byte (128 + c % 64) (omega arith)) refl
    by_test false false true =
        rw (high_byte (224 + c / 4096) (omega arith), high_byte (128 + (c / 64) % 64) (omega arith), high_byte (128 + c % 64) (omega arith)) refl
    by_test false false false =
        rw (
          high_byte (240 + c / 262144) (omega arith),
          high_byte (128 + (c / 4096) % 64) (omega arith),
          high_byte (128 + (c / 64) % 64) (omega arith),
          high_byte (128 + c % 64) (omega arith),
        ) refl

escaped_inside : (c : ℕ) → list_all is_content_byte (escaped c) ≡ true
escaped_inside c = by_test (eqb c 38) (eqb c 60) (eqb c 62) refl
  where
    by_test : (x y z : Bool) → eqb c 60 ≡ y
        → list_all is_content_byte (cond x (codes "&amp;") (cond y (codes "&lt;") (cond z (codes "&gt;") (encode_utf8 c)))) ≡ true
    by_test true y z e = refl
    by_test false true z e = refl
    by_test false false true e = refl
    by_test false false false e = encoded_inside c e

-- no `<` stands in what is written of the characters
pub content_inside : (text : List ℕ) → list_all is_content_byte (content_text text) ≡ true
content_inside [] = refl
content_inside (c ∷ text) = all_both is_content_byte (escaped c) (content_text text) (escaped_inside c) (content_inside text)

spelling_allowed : (c : ℕ) → is_label_char c ≡ true → list_all is_xml_char (spelling c) ≡ true
spelling_allowed c h = by_test (eqb c 38) (eqb c 60) (eqb c 62)
  where
    by_test : (x y z : Bool) → list_all is_xml_char (cond x (codes "&amp;") (cond y (codes "&lt;") (cond z (codes "&gt;") (c ∷ [])))) ≡ true
    by_test true y z = refl
    by_test false true z = refl
    by_test false false true = refl
    by_test false false false = rw ((and_true (is_xml_char c) _ h).0) refl

content_clean : (text : List ℕ) → AllByRecursion IsScalar text → list_all is_label_char text ≡ true → IsClean (content_text text)
content_clean [] h e = clean_line [] refl
content_clean (c ∷ text) h e =
    let both = and_true (is_label_char c) (list_all is_label_char text) e in
    let back = escaped_back c h.0 in
    clean_both (escaped c) (content_text text)
    (record { utf8 = back.0; allowed = ap (list_all is_xml_char) back.1 ∙ spelling_allowed c both.0 })
    (content_clean text h.1 both.1)

-- ---- attributes

-- the attributes of a label, where it is upright or not, and black or not
abbrev label_own : Bool → Bool → (x y matrix colour : List ℕ) → List Attribute
label_own upright black x y matrix colour =
    cond upright ((codes "x", x) ∷ (codes "y", y) ∷ []) ((codes "transform", matrix) ∷ [])
    ++ cond black [] ((codes "fill", colour) ∷ [])
    ++ (codes "xml:space", codes "preserve") ∷ []

-- what holds of these attributes, whatever their values are
record TextOwn (own : List Attribute) (colour : List ℕ) : Type 0 where
  known : are_among text_names own ≡ true
  distinct : are_distinct own ≡ true
  preserved : attribute (codes "xml:space") own ≡ Some (codes "preserve")
  colour_given : value_or_initial own (codes "fill") (codes "#000000") ≡ colour
  rule_given : value_or_initial own (codes "fill-rule") (codes "nonzero") ≡ codes "nonzero"
  not_drawn : stroke_of own ≡ stroke_of []

text_own : (upright black : Bool) (x y matrix colour : List ℕ) → bytes_eq colour (codes "#000000") ≡ black
    → TextOwn (label_own upright black x y matrix colour) colour
unfolding stroke_of
text_own true true x y matrix colour e = record {
  known = refl;
  distinct = refl;
  preserved = refl;
  colour_given = sym ((bytes_eq-Decides colour (codes "#000000")).0 e);
  rule_given = refl;
  not_drawn = refl;
}
text_own true false x y matrix colour e = record {
  known = refl;
  distinct = refl;
  preserved = refl;
  colour_given = refl;
  rule_given = refl;
  not_drawn = refl;
}
text_own false true x y matrix colour e = record {
  known = refl;
  distinct = refl;
  preserved = refl;
  colour_given = sym ((bytes_eq-Decides colour (codes "#000000")).0 e);
  rule_given = refl;
  not_drawn = refl;
}
text_own false false x y matrix colour e = record {
  known = refl;
  distinct = refl;
  preserved = refl;
  colour_given = refl;
  rule_given = refl;
  not_drawn = refl;
}

own_written : (upright black : Bool) (x y matrix colour : List ℕ) → list_all is_plain x ≡ true → list_all is_plain y ≡ true
    → list_all is_plain matrix ≡ true → list_all is_plain colour ≡ true → AllByRecursion IsWritten (label_own upright black x y matrix colour)
own_written upright black x y matrix colour h i j k = by_case upright black
  where
    space : IsWritten (codes "xml:space", codes "preserve")
    space = attribute_is_written _ _ (lit< tt) refl refl

    by_case : (u b : Bool) → AllByRecursion IsWritten (label_own u b x y matrix colour)
    by_case true true = (attribute_is_written _ _ (lit< tt) refl h, (attribute_is_written _ _ (lit< tt) refl i, (space, tt)))
    by_case true false = (
      attribute_is_written _ _ (lit< tt) refl h,
      (
        attribute_is_written _ _ (lit< tt) refl i,
        (attribute_is_written _ _ (lit< tt) refl k, (space, tt)),
      ),
    )
    by_case false true = (attribute_is_written _ _ (lit< tt) refl j, (space, tt))
    by_case false false = (attribute_is_written _ _ (lit< tt) refl j, (attribute_is_written _ _ (lit< tt) refl k, (space, tt)))

-- ---- places

negative_scaled : (z : ℤ) → IsScaled z → IsScaled (neg_ℤ z)
negative_scaled z h = omega (arith, h, unsigned_abs-neg z)

-- a point whose y is known with the other sign
pub point_back : (p : Point) (n : ℤ) → n ≡ neg_ℤ p.y → IsScaled p.x → IsScaled n → PointInRange p
point_back p n e h i = record { x = h; y = subst IsScaled (ap neg_ℤ e ∙ neg-neg p.y) (negative_scaled n i) }

matrix_scaled : (label : Label) → LabelInRange label → AllByRecursion IsScaled (matrix_numbers label)
matrix_scaled label h = (
  h.matrix.a,
  (
    negative_scaled label.b h.matrix.b,
    (
      negative_scaled label.c h.matrix.c,
      (
        h.matrix.d,
        (h.at.x, (negative_scaled label.at.y h.at.y, tt)),
      ),
    ),
  ),
)

scaled_list : (xs : List ℤ) → AllByRecursion IsScaled xs → list_all is_scaled xs ≡ true
scaled_list [] h = refl
scaled_list (x ∷ xs) h = let here : is_scaled x ≡ true = le-leb _ _ h.0 in rw (here, scaled_list xs h.1) refl

-- the numbers of a matrix that a text has, and that these are those of the label
record PlacedAs (own : List Attribute) (label : Label) : Type 0 where
  numbers : List ℤ
  placed : IsPlaced own numbers
  is : label_of numbers label.rgb label.text ≡ Some (item.Label label)

point_is : (label : Label) → label.a ≡ pos 65536 → label.b ≡ pos 0 → label.c ≡ pos 0 → label.d ≡ pos 65536
    → label_of (pos 65536 ∷ pos 0 ∷ pos 0 ∷ pos 65536 ∷ label.at.x ∷ neg_ℤ label.at.y ∷ []) label.rgb label.text ≡ Some (item.Label label)
point_is label a b c d = λ k. Some (item.Label (record {
  at = record { x = label.at.x; y = neg-neg label.at.y k };
  a = sym a k;
  b = sym b k;
  c = sym c k;
  d = sym d k;
  rgb = label.rgb;
  text = label.text;
}))

matrix_is : (label : Label) → label_of (matrix_numbers label) label.rgb label.text ≡ Some (item.Label label)
matrix_is label = λ k. Some (item.Label (record {
  at = record { x = label.at.x; y = neg-neg label.at.y k };
  a = label.a;
  b = neg-neg label.b k;
  c = neg-neg label.c k;
  d = label.d;
  rgb = label.rgb;
  text = label.text;
}))

placed_as : (label : Label) → LabelInRange label → (upright black : Bool) (colour : List ℕ) → is_upright label ≡ upright
    → PlacedAs (label_own upright black (text_of label.at.x) (text_of (neg_ℤ label.at.y)) (matrix_text (matrix_numbers label)) colour) label
placed_as label h true black colour e =
    let parts = and_true _ _ e in
    let size = and_true _ _ parts.0 in
    let straight = and_true _ _ parts.1 in
    record {
      numbers = pos 65536 ∷ pos 0 ∷ pos 0 ∷ pos 65536 ∷ label.at.x ∷ neg_ℤ label.at.y ∷ [];
      placed = at_point black;
      is = point_is label ((Decides-int_eq _ _).0 size.0) ((Decides-int_eq _ _).0 straight.0) ((Decides-int_eq _ _).0 straight.1)
          ((Decides-int_eq _ _).0 size.1);
    }
  where
    at_point : (b : Bool) → IsPlaced (label_own true b (text_of label.at.x) (text_of (neg_ℤ label.at.y)) (matrix_text (matrix_numbers label)) colour)
        (pos 65536 ∷ pos 0 ∷ pos 0 ∷ pos 65536 ∷ label.at.x ∷ neg_ℤ label.at.y ∷ [])
    at_point true =
        by_point refl refl refl (scaled_back label.at.x h.at.x) (scaled_back (neg_ℤ label.at.y) (negative_scaled label.at.y h.at.y))
    at_point false =
        by_point refl refl refl (scaled_back label.at.x h.at.x) (scaled_back (neg_ℤ label.at.y) (negative_scaled label.at.y h.at.y))
placed_as label h false black colour e = record {
  numbers = matrix_numbers label;
  placed = by_its_matrix black;
  is = matrix_is label;
}
  where
    by_its_matrix : (b : Bool)
        → IsPlaced (label_own false b (text_of label.at.x) (text_of (neg_ℤ label.at.y)) (matrix_text (matrix_numbers label)) colour) (matrix_numbers label)
    by_its_matrix true =
        by_matrix (numbers_text (matrix_numbers label)) refl refl refl (list_back 6 label.a _ (lit< tt) (all_fit (matrix_numbers label) (matrix_scaled label h)))
        (scaled_list (matrix_numbers label) (matrix_scaled label h))
    by_its_matrix false =
        by_matrix (numbers_text (matrix_numbers label)) refl refl refl (list_back 6 label.a _ (lit< tt) (all_fit (matrix_numbers label) (matrix_scaled label h)))
        (scaled_list (matrix_numbers label) (matrix_scaled label h))

-- ---- the element

pub label_written : (label : Label) → LabelInRange label → AllByRecursion IsWritten (label_attributes label)
unfolding differing
label_written label h =
    own_written (is_upright label) (bytes_eq (rgb_text label.rgb) (codes "#000000")) _ _ _ _ (text_plain label.at.x (scaled_fits label.at.x h.at.x))
    (text_plain (neg_ℤ label.at.y) (neg_fits label.at.y h.at.y))
    (all_both is_plain (codes "matrix(") (numbers_text (matrix_numbers label) ++ codes ")") refl
    (all_both is_plain (numbers_text (matrix_numbers label)) (codes ")") (numbers_plain (matrix_numbers label)
    (all_fit (matrix_numbers label) (matrix_scaled label h))) refl))
    (rgb_plain label.rgb h.colour)

pub label_is : (label : Label) → LabelInRange label → FitsText label.text
    → IsTextElement (label_attributes label) [] (content_text label.text) (item.Label label)
unfolding differing
label_is label h f =
    let own = label_attributes label in
    let holds = text_own (is_upright label) (bytes_eq (rgb_text label.rgb) (codes "#000000")) (text_of label.at.x) (text_of (neg_ℤ label.at.y))
    (matrix_text (matrix_numbers label)) (rgb_text label.rgb) refl in
    let stands = placed_as label h (is_upright label) (bytes_eq (rgb_text label.rgb) (codes "#000000")) (rgb_text label.rgb) refl in
    record {
      numbers = stands.numbers;
      fill = record { rgb = label.rgb; rule = NonZero };
      text = label.text;
      known = holds.known;
      distinct = holds.distinct;
      preserved = holds.preserved;
      placed = stands.placed;
      filled = ap fill_of (append-nil own) ∙ fill_from own (rgb_text label.rgb) (codes "nonzero") (Some label.rgb) NonZero holds.colour_given
          holds.rule_given (paint_back label.rgb h.colour) (rule_back NonZero);
      not_drawn = ap stroke_of (append-nil own) ∙ holds.not_drawn ∙ nothing_drawn;
      utf8 = content_utf8 label.text h.text;
      spelled = content_spells label.text h.text;
      fits = f;
      is = stands.is;
    }

pub label_clean : (label : Label) → LabelInRange label → FitsText label.text → IsClean (label_text label)
unfolding label_text
label_clean label h f =
    let attributes = attributes_text (label_attributes label) in
    let line = attributes_line (label_attributes label) (label_written label h) in
    clean_both (codes "<text" ++ attributes ++ codes ">" ++ content_text label.text) (codes "</text>\n")
    (clean_both (codes "<text" ++ attributes ++ codes ">") (content_text label.text)
    (clean_both (codes "<text" ++ attributes) (codes ">") (clean_both (codes "<text") attributes (clean_line (codes "<text") refl)
    (clean_line attributes line)) (clean_line (codes ">") refl))
    (content_clean label.text h.text f.each)) (clean_line (codes "</text>\n") refl)
