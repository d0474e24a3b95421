-- Products and sums of the forms of curves, which do not wrap.
use Rattle.std.proofs.Common.{◌≡◌, ℕ, ℤ, pos, ◌+ℤ◌, ◌-ℤ◌, ◌*ℤ◌, int_div, unsigned_abs, ◌*◌, ◌^◌, ◌<◌, ◌≤◌, refl, ap, ◌∙◌, arith, SFits}
use Rattle.std.specs.Int.{w64, w128}
use Rattle.std.proofs.lemmas.Int.{to_z-of_z, ints, fits_signed_from_abs}
use Rattle.tk_affine.proofs.Wide.{product_bound, sum_bound, quotient_bound, wrapped_product}
use Rattle.tk_geom.specs.Segments.{cubic, heading}
use Rattle.tk_geom.proofs.Quotients.{abs_quotient}
use Rattle.tk_geom.proofs.Wrapped.{in64, in128}

-- ---- in 64 bits

pub fits_64_bits : (z : ℤ) → unsigned_abs z ≤ 615585774066204672 → in64 z ≡ z
fits_64_bits z le = to_z-of_z w64 z (fits_signed_from_abs w64 z (omega arith))

-- a product of numbers that fit, and that fits
pub product_fits : (a b : ℤ) (m n : ℕ) → unsigned_abs a ≤ m → unsigned_abs b ≤ n → m < 2 ^ 63 → n < 2 ^ 63 → m * n < 2 ^ 63
    → SFits w64 (in64 a *ℤ in64 b)
product_fits a b m n la lb lm ln lmn =
    rw (to_z-of_z w64 a (fits_signed_from_abs w64 a (omega arith)), to_z-of_z w64 b (fits_signed_from_abs w64 b (omega arith)))
    (let small = product_bound a b m n la lb in fits_signed_from_abs w64 (a *ℤ b) (omega (arith, small)))

-- a product of the numbers x and y, as they are read
pub product_of_two_fits : (r s : ℤ) → unsigned_abs r ≤ 1073741823 → unsigned_abs s ≤ 1073741823 → SFits w64 (in64 r *ℤ in64 s)
product_of_two_fits r s lr ls = product_fits r s 1073741823 1073741823 lr ls (omega arith) (omega arith) (omega arith)

pub product_of_two_is : (r s x y : ℤ) → r ≡ x → s ≡ y → unsigned_abs x ≤ 589824 → unsigned_abs y ≤ 589824 → in64 (in64 r *ℤ in64 s) ≡ x *ℤ y
product_of_two_is r s x y e h lx ly = rw (e, h) (wrapped_product x y 589824 589824 lx ly (omega arith) (omega arith) (omega arith))

pub product_of_two_within : (r s x y : ℤ) → r ≡ x → s ≡ y → unsigned_abs x ≤ 589824 → unsigned_abs y ≤ 589824
    → unsigned_abs (in64 (in64 r *ℤ in64 s)) ≤ 347892350976
product_of_two_within r s x y e h lx ly = rw (product_of_two_is r s x y e h lx ly) (product_bound x y 589824 589824 lx ly)

-- a product p of two and a number z
pub product_of_three_is : (p s e z : ℤ) → p ≡ e → s ≡ z → unsigned_abs p ≤ 347892350976 → unsigned_abs z ≤ 589824 → in64 (in64 p *ℤ in64 s) ≡ e *ℤ z
product_of_three_is p s e z ep es lp lz =
    rw es (wrapped_product p z 347892350976 589824 lp lz (omega arith) (omega arith) (omega arith)) ∙ ap (λ q. q *ℤ z) ep

pub product_of_three_within : (p s z : ℤ) → s ≡ z → unsigned_abs p ≤ 347892350976 → unsigned_abs z ≤ 589824
    → unsigned_abs (in64 (in64 p *ℤ in64 s)) ≤ 205195258022068224
product_of_three_within p s z es lp lz = rw (product_of_three_is p s p z refl es lp lz) (product_bound p z 347892350976 589824 lp lz)

pub product_of_three_fits : (p s z : ℤ) → s ≡ z → unsigned_abs p ≤ 347892350976 → unsigned_abs z ≤ 589824 → SFits w64 (in64 p *ℤ in64 s)
product_of_three_fits p s z es lp lz = rw es (product_fits p z 347892350976 589824 lp lz (omega arith) (omega arith) (omega arith))

-- a small number of times
pub times_fits : (n p : ℤ) → unsigned_abs n ≤ 3 → unsigned_abs p ≤ 205195258022068224 → SFits w64 (in64 n *ℤ in64 p)
times_fits n p ln lp = product_fits n p 3 205195258022068224 ln lp (omega arith) (omega arith) (omega arith)

pub few_times_fits : (n p : ℤ) → unsigned_abs n ≤ 2 → unsigned_abs p ≤ 347892350976 → SFits w64 (in64 n *ℤ in64 p)
few_times_fits n p ln lp = times_fits n p (omega arith) (omega arith)

-- so far on the way from a coordinate, as it is computed of the coordinate x
module _ (x from way t : ℤ) (e : x ≡ from)
    (lx : unsigned_abs x ≤ 1073741823) (lw : unsigned_abs way ≤ 2147483646) (lt : unsigned_abs t ≤ 1114112) where
  way_is : in64 (in64 way *ℤ in64 t) ≡ way *ℤ t
  way_is = wrapped_product way t 2147483646 1114112 lw lt (omega arith) (omega arith) (omega arith)

  part_within : unsigned_abs (int_div (way *ℤ t) (pos 65536)) ≤ 2392537299812352
  part_within =
      let small = product_bound way t 2147483646 1114112 lw lt in
      omega (arith, small, quotient_bound (way *ℤ t) (pos 65536))

  part_is : in64 (int_div (in64 (in64 way *ℤ in64 t)) (pos 65536)) ≡ int_div (way *ℤ t) (pos 65536)
  part_is = rw way_is (fits_64_bits (int_div (way *ℤ t) (pos 65536)) (omega (arith, part_within)))

  sum_within : unsigned_abs (x +ℤ int_div (way *ℤ t) (pos 65536)) ≤ 2392538373554175
  sum_within = omega (arith, sum_bound x (int_div (way *ℤ t) (pos 65536)), part_within)

  pub way_fits : SFits w64 (in64 way *ℤ in64 t)
  way_fits = product_fits way t 2147483646 1114112 lw lt (omega arith) (omega arith) (omega arith)

  pub part_fits : (0 < 65536) × SFits w64 (int_div (in64 (in64 way *ℤ in64 t)) (pos 65536))
  part_fits =
      let positive : 0 < 65536 = omega arith in
      rw way_is (positive, fits_signed_from_abs w64 (int_div (way *ℤ t) (pos 65536)) (omega (arith, part_within)))

  pub advanced_fits : SFits w64 (in64 x +ℤ in64 (int_div (in64 (in64 way *ℤ in64 t)) (pos 65536)))
  advanced_fits =
      rw (part_is, fits_64_bits x (omega arith))
      (fits_signed_from_abs w64 (x +ℤ int_div (way *ℤ t) (pos 65536)) (omega (arith, sum_within)))

  pub advanced_is : in64 (in64 x +ℤ in64 (int_div (in64 (in64 way *ℤ in64 t)) (pos 65536))) ≡ from +ℤ int_div (way *ℤ t) (pos 65536)
  advanced_is =
      rw (part_is, fits_64_bits x (omega arith)) (fits_64_bits (x +ℤ int_div (way *ℤ t) (pos 65536)) (omega (arith, sum_within)))
      ∙ ap (λ z. z +ℤ int_div (way *ℤ t) (pos 65536)) e

-- ---- in 128 bits

pub fits_128_bits : (z : ℤ) → unsigned_abs z ≤ 2 ^ 100 → in128 z ≡ z
fits_128_bits z le = to_z-of_z w128 z (fits_signed_from_abs w128 z (omega arith))

sum_is : (a b : ℤ) → unsigned_abs a ≤ 2 ^ 98 → unsigned_abs b ≤ 2 ^ 98 → in128 (in128 a +ℤ in128 b) ≡ a +ℤ b
sum_is a b la lb =
    ap (λ z. in128 (z +ℤ in128 b)) (fits_128_bits a (omega arith))
    ∙ ap (λ z. in128 (a +ℤ z)) (fits_128_bits b (omega arith))
    ∙ fits_128_bits (a +ℤ b) (omega (arith, sum_bound a b))

-- ---- a weight n*p, which is n*e, and a coordinate x, which is a

weighted_is : (w x : ℤ) → unsigned_abs w ≤ 615585774066204672 → unsigned_abs x ≤ 2147483646 → in128 (in128 w *ℤ in128 x) ≡ w *ℤ x
weighted_is w x lw lx =
    let most = product_bound w x 615585774066204672 2147483646 lw lx in
    rw (fits_128_bits w (omega arith), fits_128_bits x (omega arith)) (fits_128_bits (w *ℤ x) (omega (arith, most)))

weighted_fits : (w x : ℤ) → unsigned_abs w ≤ 615585774066204672 → unsigned_abs x ≤ 2147483646 → SFits w128 (in128 w *ℤ in128 x)
weighted_fits w x lw lx =
    let most = product_bound w x 615585774066204672 2147483646 lw lx in
    rw (fits_128_bits w (omega arith), fits_128_bits x (omega arith)) (fits_signed_from_abs w128 (w *ℤ x) (omega (arith, most)))

module _ (f g n p x : ℤ) (weight : f ≡ in64 (in64 n *ℤ in64 p)) (coordinate : g ≡ in64 x)
    (ln : unsigned_abs n ≤ 3) (lp : unsigned_abs p ≤ 205195258022068224) (lx : unsigned_abs x ≤ 2147483646) where
  weight_is : f ≡ n *ℤ p
  weight_is = weight ∙ wrapped_product n p 3 205195258022068224 ln lp (omega arith) (omega arith) (omega arith)

  coordinate_is : g ≡ x
  coordinate_is = coordinate ∙ fits_64_bits x (omega arith)

  pub term_fits : SFits w128 (in128 f *ℤ in128 g)
  term_fits = rw (weight_is, coordinate_is) (weighted_fits (n *ℤ p) x (product_bound n p 3 205195258022068224 ln lp) lx)

  pub term_is : (e a : ℤ) → p ≡ e → x ≡ a → in128 (in128 f *ℤ in128 g) ≡ n *ℤ e *ℤ a
  term_is e a ep ex =
      rw (weight_is, coordinate_is) (weighted_is (n *ℤ p) x (product_bound n p 3 205195258022068224 ln lp) lx)
      ∙ ap (λ z. n *ℤ z *ℤ x) ep
      ∙ ap (λ z. n *ℤ e *ℤ z) ex

  pub term_within : (k q : ℕ) → unsigned_abs n ≤ k → unsigned_abs p ≤ q → unsigned_abs (in128 (in128 f *ℤ in128 g)) ≤ k * q * 2147483646
  term_within k q lk lq = rw (term_is p x refl refl) (product_bound (n *ℤ p) x (k * q) 2147483646 (product_bound n p k q lk lq) lx)

  pub cubic_term_within : unsigned_abs (in128 (in128 f *ℤ in128 g)) ≤ 2 ^ 92
  cubic_term_within = omega (arith, term_within 3 205195258022068224 ln lp)

module _ (f g n p x : ℤ) (weight : f ≡ in64 (in64 n *ℤ in64 p)) (coordinate : g ≡ in64 x)
    (ln : unsigned_abs n ≤ 2) (lp : unsigned_abs p ≤ 347892350976) (lx : unsigned_abs x ≤ 2147483646) where
  pub quadratic_term_fits : SFits w128 (in128 f *ℤ in128 g)
  quadratic_term_fits = term_fits f g n p x weight coordinate (omega arith) (omega arith) lx

  pub quadratic_term_is : (e a : ℤ) → p ≡ e → x ≡ a → in128 (in128 f *ℤ in128 g) ≡ n *ℤ e *ℤ a
  quadratic_term_is = term_is f g n p x weight coordinate (omega arith) (omega arith) lx

  pub quadratic_term_within : unsigned_abs (in128 (in128 f *ℤ in128 g)) ≤ 695784701952 * 2147483646
  quadratic_term_within = term_within f g n p x weight coordinate (omega arith) (omega arith) lx 2 347892350976 ln lp

-- a coordinate is no further than the way from one to another may be
pub far_enough : (x : ℤ) → unsigned_abs x ≤ 1073741823 → unsigned_abs x ≤ 2147483646
far_enough x le = omega arith

once : (z a : ℤ) → pos 1 *ℤ z *ℤ a ≡ z *ℤ a
once z a = let e : pos 1 *ℤ z ≡ z = omega (arith, ints) in ap (λ y. y *ℤ a) e

-- ---- sums of terms

pub two_fit : (a b : ℤ) → unsigned_abs a ≤ 2 ^ 92 → unsigned_abs b ≤ 2 ^ 92 → SFits w128 (in128 a +ℤ in128 b)
two_fit a b la lb =
    rw (fits_128_bits a (omega arith), fits_128_bits b (omega arith)) (fits_signed_from_abs w128 (a +ℤ b) (omega (arith, sum_bound a b)))

pub three_fit : (a b c : ℤ) → unsigned_abs a ≤ 2 ^ 92 → unsigned_abs b ≤ 2 ^ 92 → unsigned_abs c ≤ 2 ^ 92
    → SFits w128 (in128 (in128 a +ℤ in128 b) +ℤ in128 c)
three_fit a b c la lb lc =
    rw (sum_is a b (omega arith) (omega arith), fits_128_bits c (omega arith))
    (fits_signed_from_abs w128 (a +ℤ b +ℤ c) (omega (arith, sum_bound a b, sum_bound (a +ℤ b) c)))

three_is : (a b c : ℤ) → unsigned_abs a ≤ 2 ^ 92 → unsigned_abs b ≤ 2 ^ 92 → unsigned_abs c ≤ 2 ^ 92
    → in128 (in128 (in128 a +ℤ in128 b) +ℤ in128 c) ≡ a +ℤ b +ℤ c
three_is a b c la lb lc =
    ap (λ z. in128 (z +ℤ in128 c)) (sum_is a b (omega arith) (omega arith))
    ∙ ap (λ z. in128 (a +ℤ b +ℤ z)) (fits_128_bits c (omega arith))
    ∙ fits_128_bits (a +ℤ b +ℤ c) (omega (arith, sum_bound a b, sum_bound (a +ℤ b) c))

pub four_fit : (a b c d : ℤ) → unsigned_abs a ≤ 2 ^ 92 → unsigned_abs b ≤ 2 ^ 92 → unsigned_abs c ≤ 2 ^ 92 → unsigned_abs d ≤ 2 ^ 92
    → SFits w128 (in128 (in128 (in128 a +ℤ in128 b) +ℤ in128 c) +ℤ in128 d)
four_fit a b c d la lb lc ld =
    rw (three_is a b c la lb lc, fits_128_bits d (omega arith))
    (fits_signed_from_abs w128 (a +ℤ b +ℤ c +ℤ d) (omega (arith, sum_bound a b, sum_bound (a +ℤ b) c, sum_bound (a +ℤ b +ℤ c) d)))

four_over : (a b c d : ℤ) → unsigned_abs a ≤ 2 ^ 92 → unsigned_abs b ≤ 2 ^ 92 → unsigned_abs c ≤ 2 ^ 92 → unsigned_abs d ≤ 2 ^ 92
    → in128 (int_div (in128 (in128 (in128 (in128 a +ℤ in128 b) +ℤ in128 c) +ℤ in128 d)) (pos 281474976710656)) ≡ int_div (a +ℤ b +ℤ c +ℤ d)
    (pos 281474976710656)
four_over a b c d la lb lc ld =
    let bound : unsigned_abs (a +ℤ b +ℤ c +ℤ d) ≤ 2 ^ 94 = omega (arith, sum_bound a b, sum_bound (a +ℤ b) c, sum_bound (a +ℤ b +ℤ c) d) in
    ap (λ z. in128 (int_div (in128 (z +ℤ in128 d)) (pos 281474976710656))) (three_is a b c la lb lc)
    ∙ ap (λ z. in128 (int_div (in128 (a +ℤ b +ℤ c +ℤ z)) (pos 281474976710656))) (fits_128_bits d (omega arith))
    ∙ ap (λ z. in128 (int_div z (pos 281474976710656))) (fits_128_bits (a +ℤ b +ℤ c +ℤ d) (omega (arith, bound)))
    ∙ fits_128_bits (int_div (a +ℤ b +ℤ c +ℤ d) (pos 281474976710656)) (omega (arith, bound, quotient_bound (a +ℤ b +ℤ c +ℤ d) (pos 281474976710656)))

pub four_over_fits : (a b c d : ℤ) → unsigned_abs a ≤ 2 ^ 92 → unsigned_abs b ≤ 2 ^ 92 → unsigned_abs c ≤ 2 ^ 92 → unsigned_abs d ≤ 2 ^ 92
    → (0 < 281474976710656) × SFits w128 (int_div (in128 (in128 (in128 (in128 a +ℤ in128 b) +ℤ in128 c) +ℤ in128 d)) (pos 281474976710656))
four_over_fits a b c d la lb lc ld =
    let positive : 0 < 281474976710656 = omega arith in
    let bound : unsigned_abs (a +ℤ b +ℤ c +ℤ d) ≤ 2 ^ 94 = omega (arith, sum_bound a b, sum_bound (a +ℤ b) c, sum_bound (a +ℤ b +ℤ c) d) in
    rw (three_is a b c la lb lc, fits_128_bits d (omega arith), fits_128_bits (a +ℤ b +ℤ c +ℤ d) (omega (arith, bound))) (
      positive,
      fits_signed_from_abs w128 (int_div (a +ℤ b +ℤ c +ℤ d) (pos 281474976710656))
          (omega (arith, bound, quotient_bound (a +ℤ b +ℤ c +ℤ d) (pos 281474976710656))),
    )

-- the terms f, g, h and k of a coordinate
pub cubic_is : (f g h k u t a b c d : ℤ) → unsigned_abs f ≤ 2 ^ 92 → unsigned_abs g ≤ 2 ^ 92 → unsigned_abs h ≤ 2 ^ 92 → unsigned_abs k ≤ 2 ^ 92
    → f ≡ pos 1 *ℤ (u *ℤ u *ℤ u) *ℤ a → g ≡ pos 3 *ℤ (u *ℤ u *ℤ t) *ℤ b → h ≡ pos 3 *ℤ (u *ℤ t *ℤ t) *ℤ c → k ≡ pos 1 *ℤ (t *ℤ t *ℤ t) *ℤ d
    → in128 (int_div (in128 (in128 (in128 (in128 f +ℤ in128 g) +ℤ in128 h) +ℤ in128 k)) (pos 281474976710656)) ≡ cubic u t a b c d
cubic_is f g h k u t a b c d lf lg lh lk ef eg eh ek =
    four_over f g h k lf lg lh lk
    ∙ rw (ef, eg, eh, ek, once (u *ℤ u *ℤ u) a, once (t *ℤ t *ℤ t) d) refl

-- ---- the three terms of a heading

small_over : (z : ℤ) → unsigned_abs z ≤ 2 ^ 72 → unsigned_abs (int_div z (pos 4294967296)) ≤ 2 ^ 40
small_over z most = omega (arith, abs_quotient z 4294967296, most)

module _ (f g h : ℤ)
    (lf : unsigned_abs f ≤ 1494186268578904276992) (lg : unsigned_abs g ≤ 1494186268578904276992) (lh : unsigned_abs h ≤ 1494186268578904276992) where
  three_short : unsigned_abs (int_div (f +ℤ g +ℤ h) (pos 4294967296)) ≤ 2 ^ 40
  three_short = small_over (f +ℤ g +ℤ h) (omega (arith, sum_bound f g, sum_bound (f +ℤ g) h))

  three_over_wide : in128 (int_div (in128 (in128 (in128 f +ℤ in128 g) +ℤ in128 h)) (pos 4294967296)) ≡ int_div (f +ℤ g +ℤ h) (pos 4294967296)
  three_over_wide =
      ap (λ z. in128 (int_div z (pos 4294967296))) (three_is f g h (omega arith) (omega arith) (omega arith))
      ∙ fits_128_bits (int_div (f +ℤ g +ℤ h) (pos 4294967296)) (omega (arith, three_short))

  three_over : in64 (in128 (int_div (in128 (in128 (in128 f +ℤ in128 g) +ℤ in128 h)) (pos 4294967296))) ≡ int_div (f +ℤ g +ℤ h) (pos 4294967296)
  three_over = ap in64 three_over_wide ∙ fits_64_bits (int_div (f +ℤ g +ℤ h) (pos 4294967296)) (omega (arith, three_short))

  pub first_terms_fit : SFits w128 (in128 f +ℤ in128 g)
  first_terms_fit = two_fit f g (omega arith) (omega arith)

  pub all_terms_fit : SFits w128 (in128 (in128 f +ℤ in128 g) +ℤ in128 h)
  all_terms_fit = three_fit f g h (omega arith) (omega arith) (omega arith)

  pub heading_fits : SFits w64 (in128 (int_div (in128 (in128 (in128 f +ℤ in128 g) +ℤ in128 h)) (pos 4294967296)))
  heading_fits = rw three_over_wide (fits_signed_from_abs w64 (int_div (f +ℤ g +ℤ h) (pos 4294967296)) (omega (arith, three_short)))

  pub heading_short : unsigned_abs (in64 (in128 (int_div (in128 (in128 (in128 f +ℤ in128 g) +ℤ in128 h)) (pos 4294967296)))) ≤ 2 ^ 40
  heading_short = rw three_over three_short

  pub heading_is : (u t a b c d : ℤ) → f ≡ pos 1 *ℤ (u *ℤ u) *ℤ (b -ℤ a) → g ≡ pos 2 *ℤ (u *ℤ t) *ℤ (c -ℤ b) → h ≡ pos 1 *ℤ (t *ℤ t) *ℤ (d -ℤ c)
      → in64 (in128 (int_div (in128 (in128 (in128 f +ℤ in128 g) +ℤ in128 h)) (pos 4294967296))) ≡ heading u t a b c d
  heading_is u t a b c d ef eg eh =
      three_over ∙ rw (ef, eg, eh, once (u *ℤ u) (b -ℤ a), once (t *ℤ t) (d -ℤ c)) refl
