-- What is written of a fill and of a stroke stands for them.
use Rattle.std.proofs.Common.{◌≡◌, ℕ, ◌+◌, ◌*◌, ◌/◌, ◌%◌, ◌<◌, ◌≤◌, Bool, true, false, List, [], ◌∷◌, ◌++◌, length, Option, Some, None, refl, sym, ap}
use Rattle.std.proofs.Common.{◌∙◌, arith}
use Rattle.std.specs.Prelude.{ℤ, pos, codes, int_le, option_map, bytes_eq}
use Rattle.std.specs.List.{list_all, AllByRecursion}
use Rattle.std.proofs.lemmas.Bool.{le-leb}
use Rattle.std.proofs.lemmas.Bool.Decides.{nat_tests}
use Rattle.std.proofs.lemmas.Int.{ints}
use Rattle.std.proofs.lemmas.Slice.Eq.{bytes_eq-Decides}
use Rattle.tk_num.specs.Number.{IsScaled, is_scaled}
use Rattle.tk_num.specs.Text.{text_of}
use Rattle.tk_item.specs.Lengths.{AreDashes}
use Rattle.tk_item.specs.declared.Rgb.{Rgb}
use Rattle.tk_item.specs.declared.Rule.{Rule}
use Rattle.tk_item.specs.declared.Rule.TheVariants.{NonZero, EvenOdd}
use Rattle.tk_item.specs.declared.Cap.{Cap}
use Rattle.tk_item.specs.declared.Cap.TheVariants as cap
use Rattle.tk_item.specs.declared.Join.{Join}
use Rattle.tk_item.specs.declared.Join.TheVariants as join
use Rattle.tk_item.specs.declared.Fill.{Fill}
use Rattle.tk_item.specs.declared.Stroke.{Stroke}
use Rattle.tk_svg.specs.Scan.{Attribute, number_at, unsigned_at, unsigned_from, numbers_of, scaled_of}
use Rattle.tk_svg.specs.Paint.{value_or_initial, hex_digit, hex_byte, rgb_of, paint_of, rule_of, cap_of, join_of, is_length, length_value, miter_of}
use Rattle.tk_svg.specs.Paint.{dashes_of, fill_of, stroke_of}
use Rattle.tk_svg.specs.Fitting.{FitsBox, FitsStroke}
use Rattle.tk_svg.proofs.Unique.{and_true}
use Rattle.tk_svgwrite.specs.Plain.{fill_attributes}
use Rattle.tk_svgwrite.specs.Values.{numbers_text, hex_glyph, rgb_text, rule_text, cap_text, join_text, dash_text}
use Rattle.tk_svgwrite.specs.Plain.{stroke_attributes}
use Rattle.tk_svgwrite.specs.Values.{differing}
use Rattle.tk_svgwrite.specs.Ranges.{RgbInRange, FillInRange, StrokeInRange}
use Rattle.tk_svgwrite.proofs.Numbers.{is_plain, numbers_plain, number_of_back, list_back}
use Rattle.tk_svgwrite.proofs.PathData.{scaled_fits}
use Rattle.tk_svgwrite.proofs.Optionals.{given_back}

-- ---- colours

glyph_back : (d : ℕ) → d < 16 → hex_digit (hex_glyph d) ≡ Some d
glyph_back d lt = grind (arith, nat_tests)

byte_back : (n : ℕ) → n < 256 → hex_byte (hex_glyph (n / 16)) (hex_glyph (n % 16)) ≡ Some n
byte_back n lt =
    let high = glyph_back (n / 16) (omega arith) in
    let low = glyph_back (n % 16) (omega arith) in
    let back : 16 * (n / 16) + n % 16 ≡ n = omega arith in
    rw (high, low, back) refl

rgb_back : (c : Rgb) → RgbInRange c → rgb_of (rgb_text c) ≡ Some c
rgb_back c h = rw (byte_back c.r h.r, byte_back c.g h.g, byte_back c.b h.b) refl

pub paint_back : (c : Rgb) → RgbInRange c → paint_of (rgb_text c) ≡ Some (Some c)
unfolding paint_of
paint_back c h = rw (rgb_back c h) refl

glyph_plain : (d : ℕ) → d < 16 → is_plain (hex_glyph d) ≡ true
glyph_plain d lt = grind (arith, nat_tests)

pub rgb_plain : (c : Rgb) → RgbInRange c → list_all is_plain (rgb_text c) ≡ true
rgb_plain c h =
    rw (
      glyph_plain (c.r / 16) (omega (arith, h.r)),
      glyph_plain (c.r % 16) (omega arith),
      glyph_plain (c.g / 16) (omega (arith, h.g)),
      glyph_plain
          (c.g % 16) (omega arith),
      glyph_plain (c.b / 16) (omega (arith, h.b)),
      glyph_plain (c.b % 16) (omega arith),
    ) refl

-- ---- words

pub rule_back : (r : Rule) → rule_of (rule_text r) ≡ Some r
unfolding rule_of
rule_back NonZero = refl
rule_back EvenOdd = refl

cap_back : (c : Cap) → cap_of (cap_text c) ≡ Some c
unfolding cap_of
cap_back cap.Butt = refl
cap_back cap.Round = refl
cap_back cap.Square = refl

join_back : (j : Join) → join_of (join_text j) ≡ Some j
unfolding join_of
join_back join.Miter = refl
join_back join.Round = refl
join_back join.Bevel = refl

pub rule_plain : (r : Rule) → list_all is_plain (rule_text r) ≡ true
rule_plain NonZero = refl
rule_plain EvenOdd = refl

pub cap_plain : (c : Cap) → list_all is_plain (cap_text c) ≡ true
cap_plain cap.Butt = refl
cap_plain cap.Round = refl
cap_plain cap.Square = refl

pub join_plain : (j : Join) → list_all is_plain (join_text j) ≡ true
join_plain join.Miter = refl
join_plain join.Round = refl
join_plain join.Bevel = refl

-- ---- numbers

pub scaled_back : (z : ℤ) → IsScaled z → scaled_of (text_of z) ≡ Some z
scaled_back z h =
    let s : is_scaled z ≡ true = le-leb _ _ h in
    rw (number_of_back z (scaled_fits z h), s) refl

is_length_true : (z : ℤ) → IsScaled z → int_le (pos 0) z ≡ true → is_length z ≡ true
is_length_true z h e =
    let s : is_scaled z ≡ true = le-leb _ _ h in
    rw (s, e) refl

length_back : (z : ℤ) → IsScaled z → int_le (pos 0) z ≡ true → length_value (text_of z) ≡ Some z
unfolding length_value
length_back z h e = rw (number_of_back z (scaled_fits z h), is_length_true z h e) refl

miter_back : (z : ℤ) → IsScaled z → int_le (pos 65536) z ≡ true → miter_of (text_of z) ≡ Some z
unfolding miter_of
miter_back z h e = rw (scaled_back z h, e) refl

-- ---- dashes

pub all_fit : (xs : List ℤ) → AllByRecursion IsScaled xs → AllByRecursion FitsBox xs
all_fit [] h = tt
all_fit (x ∷ xs) h = (scaled_fits x h.0, all_fit xs h.1)

all_lengths : (xs : List ℤ) → AllByRecursion IsScaled xs → list_all (int_le (pos 0)) xs ≡ true → list_all is_length xs ≡ true
all_lengths [] h e = refl
all_lengths (x ∷ xs) h e =
    let both = and_true (int_le (pos 0) x) (list_all (int_le (pos 0)) xs) e in
    rw (is_length_true x h.0 both.0, all_lengths xs h.1 both.1) refl

none_is_no_list : numbers_of 16 (codes "none") ≡ None
unfolding numbers_of number_at unsigned_at unsigned_from
none_is_no_list = refl

-- numbers are not the word for none
pub dash_no_none : (x : ℤ) (xs : List ℤ) → AllByRecursion FitsBox (x ∷ xs) → length (x ∷ xs) ≤ 16 → (b : Bool)
    → bytes_eq (numbers_text (x ∷ xs)) (codes "none") ≡ b → b ≡ false
dash_no_none x xs h few true e =
    let same : numbers_text (x ∷ xs) ≡ codes "none" = (bytes_eq-Decides (numbers_text (x ∷ xs)) (codes "none")).0 e in
    let back = list_back 16 x xs (omega arith) h in
    let no : Some (x ∷ xs) ≡ None = sym back ∙ ap (numbers_of 16) same ∙ none_is_no_list in
    absurd cc
dash_no_none x xs h few false e = refl

dash_back : (ds : List ℤ) → AllByRecursion IsScaled ds → AreDashes ds → dashes_of (dash_text ds) ≡ Some ds
unfolding dashes_of
dash_back [] h d = refl
dash_back (x ∷ xs) h d =
    let no = dash_no_none x xs (all_fit (x ∷ xs) h) d.few _ refl in
    let few = d.few in
    rw (no, list_back 16 x xs (omega arith) (all_fit (x ∷ xs) h), all_lengths (x ∷ xs) h d.signs) refl

pub dash_plain : (ds : List ℤ) → AllByRecursion IsScaled ds → list_all is_plain (dash_text ds) ≡ true
dash_plain [] h = refl
dash_plain (x ∷ xs) h = numbers_plain (x ∷ xs) (all_fit (x ∷ xs) h)

-- ---- a fill

pub fill_from : (a : List Attribute) (paint rule : List ℕ) (p : Option Rgb) (r : Rule) → value_or_initial a (codes "fill") (codes "#000000") ≡ paint
    → value_or_initial a (codes "fill-rule") (codes "nonzero") ≡ rule → paint_of paint ≡ Some p → rule_of rule ≡ Some r
    → fill_of a ≡ Some (option_map (λ rgb. record { rgb = rgb; rule = r }) p)
unfolding fill_of
fill_from a paint rule p r e f g h = rw (e, f, g, h) refl

none_paint : paint_of (codes "none") ≡ Some None
unfolding paint_of
none_paint = refl

pub fill_means : (data_text : List ℕ) (fill : Option Fill) (stroke : Option Stroke) → FillInRange fill
    → fill_of ((codes "d", data_text) ∷ differing (fill_attributes fill ++ stroke_attributes stroke)) ≡ Some fill
fill_means data_text None None h = fill_from _ (codes "none") (codes "nonzero") None NonZero (given_back (codes "fill") (codes "#000000")
    (fill_attributes None ++ stroke_attributes None) refl) (given_back (codes "fill-rule") (codes "nonzero") (fill_attributes None ++ stroke_attributes None)
    refl) none_paint (rule_back NonZero)
fill_means data_text None (Some s) h =
    fill_from _ (codes "none") (codes "nonzero") None NonZero (given_back (codes "fill") (codes "#000000") (fill_attributes None ++ stroke_attributes
    (Some s)) refl) (given_back (codes "fill-rule") (codes "nonzero") (fill_attributes None ++ stroke_attributes (Some s)) refl) none_paint
    (rule_back NonZero)
fill_means data_text (Some f) None h =
    fill_from _ (rgb_text f.rgb) (rule_text f.rule) (Some f.rgb) f.rule (given_back (codes "fill") (codes "#000000") (fill_attributes (Some f)
    ++ stroke_attributes None) refl) (given_back (codes "fill-rule") (codes "nonzero") (fill_attributes (Some f) ++ stroke_attributes None) refl)
    (paint_back f.rgb h) (rule_back f.rule)
fill_means data_text (Some f) (Some s) h =
    fill_from _ (rgb_text f.rgb) (rule_text f.rule) (Some f.rgb) f.rule (given_back (codes "fill") (codes "#000000") (fill_attributes (Some f)
    ++ stroke_attributes (Some s)) refl) (given_back (codes "fill-rule") (codes "nonzero") (fill_attributes (Some f) ++ stroke_attributes (Some s)) refl)
    (paint_back f.rgb h) (rule_back f.rule)

-- ---- a stroke

-- the values of the attributes of a stroke
record StrokeTexts (a : List Attribute) (paint width cap join miter dash phase : List ℕ) : Type 0 where
  paint_given : value_or_initial a (codes "stroke") (codes "none") ≡ paint
  width_given : value_or_initial a (codes "stroke-width") (codes "1") ≡ width
  cap_given : value_or_initial a (codes "stroke-linecap") (codes "butt") ≡ cap
  join_given : value_or_initial a (codes "stroke-linejoin") (codes "miter") ≡ join
  miter_given : value_or_initial a (codes "stroke-miterlimit") (codes "4") ≡ miter
  dash_given : value_or_initial a (codes "stroke-dasharray") (codes "none") ≡ dash
  phase_given : value_or_initial a (codes "stroke-dashoffset") (codes "0") ≡ phase

stroke_from : {a : List Attribute} {paint width cap join miter dash phase : List ℕ} (p : Option Rgb) (w : ℤ) (c : Cap) (j : Join) (m : ℤ)
    (ds : List ℤ) (f : ℤ)
    → StrokeTexts a paint width cap join miter dash phase → paint_of paint ≡ Some p → length_value width ≡ Some w → cap_of cap ≡ Some c
    → join_of join ≡ Some j → miter_of miter ≡ Some m → dashes_of dash ≡ Some ds → scaled_of phase ≡ Some f
    → stroke_of a ≡ Some (option_map (λ rgb. record { rgb = rgb; width = w; cap = c; join = j; miter = m; dash = ds; phase = f }) p)
unfolding stroke_of
stroke_from p w c j m ds f t e1 e2 e3 e4 e5 e6 e7 =
    rw (t.paint_given, e1, t.width_given, e2, t.cap_given, e3, t.join_given, e4, t.miter_given, e5, t.dash_given, e6, t.phase_given, e7) refl

texts_of : (data_text : List ℕ) (fill : Option Fill) (s : Stroke)
    → StrokeTexts ((codes "d", data_text) ∷ differing (fill_attributes fill ++ stroke_attributes (Some s))) (rgb_text s.rgb) (text_of s.width)
    (cap_text s.cap) (join_text s.join) (text_of s.miter) (dash_text s.dash) (text_of s.phase)
texts_of data_text None s = record {
  paint_given = given_back (codes "stroke") (codes "none") (fill_attributes None ++ stroke_attributes (Some s)) refl;
  width_given = given_back (codes "stroke-width") (codes "1") (fill_attributes None ++ stroke_attributes (Some s)) refl;
  cap_given = given_back (codes "stroke-linecap") (codes "butt") (fill_attributes None ++ stroke_attributes (Some s)) refl;
  join_given = given_back (codes "stroke-linejoin") (codes "miter") (fill_attributes None ++ stroke_attributes (Some s)) refl;
  miter_given = given_back (codes "stroke-miterlimit") (codes "4") (fill_attributes None ++ stroke_attributes (Some s)) refl;
  dash_given = given_back (codes "stroke-dasharray") (codes "none") (fill_attributes None ++ stroke_attributes (Some s)) refl;
  phase_given = given_back (codes "stroke-dashoffset") (codes "0") (fill_attributes None ++ stroke_attributes (Some s)) refl;
}
texts_of data_text (Some f) s = record {
  paint_given = given_back (codes "stroke") (codes "none") (fill_attributes (Some f) ++ stroke_attributes (Some s)) refl;
  width_given = given_back (codes "stroke-width") (codes "1") (fill_attributes (Some f) ++ stroke_attributes (Some s)) refl;
  cap_given = given_back (codes "stroke-linecap") (codes "butt") (fill_attributes (Some f) ++ stroke_attributes (Some s)) refl;
  join_given = given_back (codes "stroke-linejoin") (codes "miter") (fill_attributes (Some f) ++ stroke_attributes (Some s)) refl;
  miter_given = given_back (codes "stroke-miterlimit") (codes "4") (fill_attributes (Some f) ++ stroke_attributes (Some s)) refl;
  dash_given = given_back (codes "stroke-dasharray") (codes "none") (fill_attributes (Some f) ++ stroke_attributes (Some s)) refl;
  phase_given = given_back (codes "stroke-dashoffset") (codes "0") (fill_attributes (Some f) ++ stroke_attributes (Some s)) refl;
}

no_texts : (data_text : List ℕ) (fill : Option Fill)
    → StrokeTexts ((codes "d", data_text) ∷ differing (fill_attributes fill ++ [])) (codes "none") (codes "1") (codes "butt") (codes "miter")
    (codes "4") (codes "none") (codes "0")
no_texts data_text None = record {
  paint_given = given_back (codes "stroke") (codes "none") (fill_attributes None) refl;
  width_given = given_back (codes "stroke-width") (codes "1") (fill_attributes None) refl;
  cap_given = given_back (codes "stroke-linecap") (codes "butt") (fill_attributes None) refl;
  join_given = given_back (codes "stroke-linejoin") (codes "miter") (fill_attributes None) refl;
  miter_given = given_back (codes "stroke-miterlimit") (codes "4") (fill_attributes None) refl;
  dash_given = given_back (codes "stroke-dasharray") (codes "none") (fill_attributes None) refl;
  phase_given = given_back (codes "stroke-dashoffset") (codes "0") (fill_attributes None) refl;
}
no_texts data_text (Some f) = record {
  paint_given = given_back (codes "stroke") (codes "none") (fill_attributes (Some f)) refl;
  width_given = given_back (codes "stroke-width") (codes "1") (fill_attributes (Some f)) refl;
  cap_given = given_back (codes "stroke-linecap") (codes "butt") (fill_attributes (Some f)) refl;
  join_given = given_back (codes "stroke-linejoin") (codes "miter") (fill_attributes (Some f)) refl;
  miter_given = given_back (codes "stroke-miterlimit") (codes "4") (fill_attributes (Some f)) refl;
  dash_given = given_back (codes "stroke-dasharray") (codes "none") (fill_attributes (Some f)) refl;
  phase_given = given_back (codes "stroke-dashoffset") (codes "0") (fill_attributes (Some f)) refl;
}

initial_width : length_value (codes "1") ≡ Some (pos 65536)
unfolding length_value number_at unsigned_at unsigned_from
initial_width = refl

initial_miter : miter_of (codes "4") ≡ Some (pos 262144)
unfolding miter_of number_at unsigned_at unsigned_from
initial_miter = refl

initial_phase : scaled_of (codes "0") ≡ Some (pos 0)
unfolding number_at unsigned_at unsigned_from
initial_phase = refl

initial_dash : dashes_of (codes "none") ≡ Some []
unfolding dashes_of
initial_dash = refl

pub stroke_means : (data_text : List ℕ) (fill : Option Fill) (stroke : Option Stroke) → StrokeInRange stroke → FitsStroke stroke
    → stroke_of ((codes "d", data_text) ∷ differing (fill_attributes fill ++ stroke_attributes stroke)) ≡ Some stroke
stroke_means data_text fill None h f =
    stroke_from None (pos 65536) cap.Butt join.Miter (pos 262144) [] (pos 0) (no_texts data_text fill) none_paint initial_width (cap_back cap.Butt)
    (join_back join.Miter) initial_miter initial_dash initial_phase
stroke_means data_text fill (Some s) h f =
    stroke_from (Some s.rgb) s.width s.cap s.join s.miter s.dash s.phase (texts_of data_text fill s) (paint_back s.rgb h.rgb)
    (length_back s.width h.width (signs.0)) (cap_back s.cap) (join_back s.join) (miter_back s.miter h.miter signs.1)
    (dash_back s.dash h.dash h.dashes) (scaled_back s.phase h.phase)
  where
    signs : (int_le (pos 0) s.width ≡ true) × (int_le (pos 65536) s.miter ≡ true)
    signs =
        let width : true ≡ int_le (pos 0) s.width = omega (arith, ints, f.0) in
        let miter : true ≡ int_le (pos 65536) s.miter = omega (arith, ints, f.1) in
        (sym width, sym miter)

-- without attributes nothing is drawn
pub nothing_drawn : stroke_of [] ≡ Some None
nothing_drawn =
    stroke_from None (pos 65536) cap.Butt join.Miter (pos 262144) [] (pos 0)
    (record {
      paint_given = refl;
      width_given = refl;
      cap_given = refl;
      join_given = refl;
      miter_given = refl;
      dash_given = refl;
      phase_given = refl;
    })
    none_paint initial_width (cap_back cap.Butt) (join_back join.Miter) initial_miter initial_dash initial_phase
