-- Whatever a document stands for fits the form.
use Rattle.std.proofs.Common.{◌≡◌, ℕ, zero, suc, ◌+◌, ◌≤◌, Bool, ◌&&◌, true, false, cond, eqb, ltb, leb, List, [], ◌∷◌, ◌++◌, length, Option, Some, None}
use Rattle.std.proofs.Common.{refl, sym, subst, arith}
use Rattle.std.specs.Prelude.{ℤ, pos, negsuc, neg_ℤ, ◌+ℤ◌, ◌-ℤ◌, ◌≤ℤ◌, int_le, unsigned_abs, codes, option_map}
use Rattle.std.specs.List.{AllByRecursion}
use Rattle.std.proofs.lemmas.Bool.{leb-true}
use Rattle.std.proofs.lemmas.Int.{ints}
use Rattle.tk_num.specs.Number.{is_scaled}
use Rattle.tk_item.specs.declared.Rgb.{Rgb}
use Rattle.tk_item.specs.declared.Seg.{Seg}
use Rattle.tk_item.specs.declared.Seg.TheVariants.{Move}
use Rattle.tk_item.specs.declared.Stroke.{Stroke}
use Rattle.tk_item.specs.declared.Item.{Item}
use Rattle.tk_item.specs.declared.Item.TheVariants.{Path}
use Rattle.tk_item.specs.declared.Frame.{Frame}
use Rattle.tk_item.specs.declared.Drawing.{Drawing}
use Rattle.tk_characters.specs.Options.{◌and_then◌}
use Rattle.tk_svg.specs.Scan.{Attribute, value_of, digits_of, after_digits, digits_behind_point, after_part, unsigned_from, unsigned_at, number_at}
use Rattle.tk_svg.specs.Scan.{numbers_of, lone_number, scaled_of, is_empty, behind_separator}
use Rattle.tk_svg.specs.PathData.{PathCommand, MoveTo, scaled_point, command_piece, command_pieces}
use Rattle.tk_svg.specs.Paint.{value_or_initial, paint_of, is_length, length_value, cap_of, join_of, miter_of, dashes_of, stroke_of}
use Rattle.tk_svg.specs.Document.{IsPathElement, Content, ends, path, text, group, IsDocument}
use Rattle.tk_svg.specs.Fitting.{BeginsWithMove, FitsStroke, FitsItem, FitsBox, Fits}
use Rattle.tk_svg.proofs.Unique.{and_true}
use Rattle.tk_svg.proofs.Labels.{label_fits}

-- ---- steps that did not fail

step_back : {A B : Type 0} (o : Option A) (f : A → Option B) (y : B) → (o and_then f) ≡ Some y → (x : A) × (o ≡ Some x) × (f x ≡ Some y)
step_back None f y e = absurd cc
step_back (Some x) f y e = (x, refl, e)

test_back : {A : Type 0} (b : Bool) (x y : A) → cond b (Some x) None ≡ Some y → (b ≡ true) × (x ≡ y)
test_back true x y e = (refl, cc)
test_back false x y e = absurd cc

-- ---- numbers

unsigned_fits : (bytes : List ℕ) (u : ℕ × List ℕ) → unsigned_at bytes ≡ Some u → u.0 ≤ 4294967295
unfolding unsigned_at unsigned_from
unsigned_fits bytes u e =
    let whole = digits_of bytes in
    let part = digits_behind_point (after_digits bytes) in
    let t = test_back (ltb 0 (length whole + length part) && leb (value_of whole part) 4294967295) (
      value_of whole part,
      after_part
          (after_digits bytes),
    ) u e in
    let le : value_of whole part ≤ 4294967295 = leb-true _ _ (and_true _ _ t.0).1 in
    subst (λ (w : ℕ × List ℕ). w.0 ≤ 4294967295) t.1 le

abs-neg : (n : ℕ) → unsigned_abs (neg_ℤ (pos n)) ≡ n
abs-neg zero = refl
abs-neg (suc n) = refl

signed_fits : (f : ℕ → ℤ) → ((n : ℕ) → unsigned_abs (f n) ≡ n) → (bytes : List ℕ) (x : ℤ × List ℕ)
    → (unsigned_at bytes and_then λ u. Some (f u.0, u.1)) ≡ Some x → FitsBox x.0
signed_fits f same bytes x e =
    let s = step_back (unsigned_at bytes) (λ u. Some (f u.0, u.1)) x e in
    let le = unsigned_fits bytes s.0 s.1 in
    let is : ◌≡◌ {A = ℤ × List ℕ} (f s.0.0, s.0.1) x = cc (s.2) in
    let here : FitsBox (f s.0.0) = omega (arith, same s.0.0) in
    subst (λ (w : ℤ × List ℕ). FitsBox w.0) is here

number_fits : (bytes : List ℕ) (x : ℤ × List ℕ) → number_at bytes ≡ Some x → FitsBox x.0
unfolding number_at
number_fits [] x e = absurd cc
number_fits (c ∷ cs) x e = by_sign (eqb c 45) (eqb c 43) e
  where
    by_sign : (minus plus : Bool)
        → cond minus (unsigned_at cs and_then λ u. Some (neg_ℤ (pos u.0), u.1)) (cond plus (unsigned_at cs and_then λ u. Some (pos u.0, u.1))
        (unsigned_at (c ∷ cs) and_then λ u. Some (pos u.0, u.1))) ≡ Some x
        → FitsBox x.0
    by_sign true plus f = signed_fits (λ n. neg_ℤ (pos n)) abs-neg cs x f
    by_sign false true f = signed_fits (λ n. pos n) (λ n. refl) cs x f
    by_sign false false f = signed_fits (λ n. pos n) (λ n. refl) (c ∷ cs) x f

numbers_fit : (n : ℕ) (value : List ℕ) (xs : List ℤ) → numbers_of n value ≡ Some xs → AllByRecursion FitsBox xs
unfolding numbers_of
numbers_fit zero value xs e = absurd cc
numbers_fit (suc n) value xs e =
    let s = step_back (number_at value) (λ x. cond (is_empty x.1) (Some (x.0 ∷ [])) (behind_separator x.1 and_then λ next. numbers_of n next and_then
    λ more. Some (x.0 ∷ more))) xs e in
    by_end s.0 (number_fits value s.0 s.1) (λ (next : List ℕ) (more : List ℤ). numbers_fit n next more) (is_empty s.0.1) s.2
  where
    by_end : (x : ℤ × List ℕ) → FitsBox x.0 → ((next : List ℕ) (more : List ℤ) → numbers_of n next ≡ Some more → AllByRecursion FitsBox more)
        → (b : Bool) → cond b (Some (x.0 ∷ [])) (behind_separator x.1 and_then λ next. numbers_of n next and_then λ more. Some (x.0 ∷ more)) ≡ Some xs
        → AllByRecursion FitsBox xs
    by_end x h fit true f = let is : x.0 ∷ [] ≡ xs = cc in subst (AllByRecursion FitsBox) is (h, tt)
    by_end x h fit false f =
        let s = step_back (behind_separator x.1) (λ next. numbers_of n next and_then λ more. Some (x.0 ∷ more)) xs f in
        let t = step_back (numbers_of n s.0) (λ more. Some (x.0 ∷ more)) xs s.2 in
        let is : x.0 ∷ t.0 ≡ xs = cc (t.2) in
        subst (AllByRecursion FitsBox) is (h, fit s.0 t.0 t.1)

-- ---- paths

first_command_begins : (segs : List Seg) (args : List ℤ) (others : List PathCommand) → command_pieces ((MoveTo, args) ∷ others) ≡ Some segs
    → BeginsWithMove segs
first_command_begins segs [] others e = absurd cc
first_command_begins segs (x ∷ []) others e = absurd cc
first_command_begins segs (x ∷ (y ∷ [])) others e =
    let s = step_back (command_piece (MoveTo, x ∷ y ∷ [])) (λ first. command_pieces others and_then λ more. Some (first ∷ more)) segs e in
    let t = step_back (scaled_point x y) (λ p. Some (Move p)) s.0 s.1 in
    let u = step_back (command_pieces others) (λ more. Some (s.0 ∷ more)) segs s.2 in
    let is : Move t.0 ∷ u.0 ≡ segs = cc (t.2, u.2) in
    subst BeginsWithMove is tt
first_command_begins segs (x ∷ (y ∷ (z ∷ args))) others e = absurd cc

length_sign : (value : List ℕ) (w : ℤ) → length_value value ≡ Some w → pos 0 ≤ℤ w
unfolding length_value
length_sign value w e =
    let s = step_back (lone_number value) (λ x. cond (is_length x) (Some x) None) w e in
    let t = test_back (is_length s.0) s.0 w s.2 in
    let sign : int_le (pos 0) s.0 ≡ true = (and_true (is_scaled s.0) (int_le (pos 0) s.0) t.0).1 in
    let here : pos 0 ≤ℤ s.0 = omega (arith, ints) in
    subst (λ (z : ℤ). pos 0 ≤ℤ z) t.1 here

miter_least : (value : List ℕ) (m : ℤ) → miter_of value ≡ Some m → pos 65536 ≤ℤ m
unfolding miter_of
miter_least value m e =
    let s = step_back (scaled_of value) (λ x. cond (int_le (pos 65536) x) (Some x) None) m e in
    let t = test_back (int_le (pos 65536) s.0) s.0 m s.2 in
    let least : int_le (pos 65536) s.0 ≡ true = t.0 in
    let here : pos 65536 ≤ℤ s.0 = omega (arith, ints) in
    subst (λ (z : ℤ). pos 65536 ≤ℤ z) t.1 here

pen_fits : (paint : Option Rgb) (pen : Rgb → Stroke) (stroke : Option Stroke) → ((rgb : Rgb) → FitsStroke (Some (pen rgb)))
    → option_map pen paint ≡ stroke → FitsStroke stroke
pen_fits None pen stroke h e = subst FitsStroke e tt
pen_fits (Some rgb) pen stroke h e = subst FitsStroke e (h rgb)

stroke_fits : (a : List Attribute) (stroke : Option Stroke) → stroke_of a ≡ Some stroke → FitsStroke stroke
unfolding stroke_of
stroke_fits a stroke e =
    let s1 = step_back (paint_of (value_or_initial a (codes "stroke") (codes "none"))) _ stroke e in
    let s2 = step_back (length_value (value_or_initial a (codes "stroke-width") (codes "1"))) _ stroke s1.2 in
    let s3 = step_back (cap_of (value_or_initial a (codes "stroke-linecap") (codes "butt"))) _ stroke s2.2 in
    let s4 = step_back (join_of (value_or_initial a (codes "stroke-linejoin") (codes "miter"))) _ stroke s3.2 in
    let s5 = step_back (miter_of (value_or_initial a (codes "stroke-miterlimit") (codes "4"))) _ stroke s4.2 in
    let s6 = step_back (dashes_of (value_or_initial a (codes "stroke-dasharray") (codes "none"))) _ stroke s5.2 in
    let s7 = step_back (scaled_of (value_or_initial a (codes "stroke-dashoffset") (codes "0"))) _ stroke s6.2 in
    let pen : Rgb → Stroke = λ rgb. record { rgb = rgb; width = s2.0; cap = s3.0; join = s4.0; miter = s5.0; dash = s6.0; phase = s7.0 } in
    let is : option_map pen s1.0 ≡ stroke = cc (s7.2) in
    pen_fits s1.0 pen stroke (λ rgb. (length_sign _ s2.0 s2.1, miter_least _ s5.0 s5.1)) is

path_fits : (own inherited : List Attribute) (item : Item) → IsPathElement own inherited item → FitsItem item
path_fits own inherited item p =
    let here : FitsItem (Path p.segs p.fill p.stroke) = (
      first_command_begins p.segs p.segs_are.args p.segs_are.others p.segs_are.meaning,
      stroke_fits (own ++ inherited) p.stroke p.stroke_is,
    ) in
    subst FitsItem (sym p.is) here

all_fit : (xs ys : List Item) → AllByRecursion FitsItem xs → AllByRecursion FitsItem ys → AllByRecursion FitsItem (xs ++ ys)
all_fit [] ys h i = i
all_fit (x ∷ xs) ys h i = (h.0, all_fit xs ys h.1 i)

items_fit : {depth : ℕ} {inherited : List Attribute} {bytes rest : List ℕ} {items : List Item} → Content depth inherited bytes items rest
    → AllByRecursion FitsItem items
items_fit (ends e) = tt
items_fit (path {inherited = inherited} {own = own} {item = item} e f g h) = (path_fits own inherited item g, items_fit h)
items_fit (text {item = item} e f g h i j) = (label_fits i.numbers i.fill.rgb i.text item i.fits i.is, items_fit j)
items_fit (group {inner = inner} {items = items} e f g h i j k) = all_fit inner items (items_fit i) (items_fit k)

-- ---- the frame

record FitsFrame (f : Frame) : Type 0 where
  sides : f.left ≤ℤ f.right
  heights : f.bottom ≤ℤ f.top
  left : FitsBox f.left
  top : FitsBox f.top
  width : FitsBox (f.right -ℤ f.left)
  height : FitsBox (f.top -ℤ f.bottom)

abs-minus : (z : ℤ) → unsigned_abs (neg_ℤ z) ≡ unsigned_abs z
abs-minus (pos zero) = refl
abs-minus (pos (suc n)) = refl
abs-minus (negsuc n) = refl

box_fits : (x y w h : ℤ) → FitsBox x → FitsBox y → FitsBox w → FitsBox h → pos 0 ≤ℤ w → pos 0 ≤ℤ h
    → FitsFrame (record { left = x; bottom = neg_ℤ (y +ℤ h); right = x +ℤ w; top = neg_ℤ y })
box_fits x y w h a b c d p q =
    let width : (x +ℤ w) -ℤ x ≡ w = omega (arith, ints) in
    let height : neg_ℤ y -ℤ neg_ℤ (y +ℤ h) ≡ h = omega (arith, ints) in
    record {
      sides = omega (arith, ints);
      heights = omega (arith, ints);
      left = a;
      top = omega (arith, b, abs-minus y);
      width = subst FitsBox (sym width) c;
      height = subst FitsBox (sym height) d;
    }

pub document_fits : (bytes : List ℕ) (d : Drawing) → IsDocument bytes d → Fits d
document_fits bytes d p =
    let s = p.means in
    let n = numbers_fit 4 s.box_text (s.x ∷ s.y ∷ s.w ∷ s.h ∷ []) s.box_is in
    let f = subst FitsFrame (sym s.frame_is) (box_fits s.x s.y s.w s.h n.0 n.1.0 n.1.1.0 n.1.1.1.0 s.w_sign s.h_sign) in
    record {
      sides = f.sides;
      heights = f.heights;
      left = f.left;
      top = f.top;
      width = f.width;
      height = f.height;
      family = s.family_is;
      items = items_fit p.items_are;
    }
