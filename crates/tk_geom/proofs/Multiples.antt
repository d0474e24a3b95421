-- The whole numbers whose products with a step lie between two bounds.
use Rattle.std.proofs.Common.{◌≡◌, ◌↔◌, ℕ, zero, suc, ◌*◌, ◌<◌, length, get_or, Contains, ℤ, pos, negsuc, neg_ℤ, ◌+ℤ◌, ◌-ℤ◌, ◌*ℤ◌, ◌≤ℤ◌, ◌<ℤ◌}
use Rattle.std.proofs.Common.{unsigned_abs, ◌≤◌, refl, sym, ap, subst, ◌∙◌, arith, SFits, to_z}
use Rattle.std.specs.Int.{w64, int_div_euclid}
use Rattle.std.proofs.lemmas.Int.{ints, to_z-of_z, to_z_pos, fits_signed_from_abs}
use Rattle.std.proofs.Math.IntN.{neg_ℤ-neg_ℤ}
use Rattle.std.proofs.Math.Nat.{le-div_iff_mul-le, div-lt_iff_lt-mul}
use Rattle.tk_affine.proofs.Wide.{sum_bound, wrapped_product}
use Rattle.tk_geom.specs.GridLines.{rising, ceiling_of, floor_of, count_between, multiples_between}
use Rattle.tk_geom.proofs.Forms.{fits_64_bits, product_fits}
use Rattle.tk_geom.proofs.Wrapped.{in64}

-- ---- the quotients, for a step of n + 1

suc_is_positive : (n : ℕ) → zero < suc n
suc_is_positive n = omega arith

under_floor : (z high : ℤ) (n : ℕ) → z ≤ℤ int_div_euclid high (pos (suc n)) → (z *ℤ pos (suc n)) ≤ℤ high
under_floor (pos m) (pos a) n le =
    let k = (le-div_iff_mul-le {k = suc n} {x = m} {y = a} (suc_is_positive n)).0 (omega (arith, ints)) in omega (arith, ints, k)
under_floor (pos m) (negsuc a) n le = absurd (omega (arith, ints))
under_floor (negsuc m) (pos a) n le = omega (arith, ints)
under_floor (negsuc m) (negsuc a) n le =
    let k = (div-lt_iff_lt-mul {k = suc n} {x = a} {y = suc m} (suc_is_positive n)).0 (omega (arith, ints)) in omega (arith, ints, k)

floor_above : (z high : ℤ) (n : ℕ) → (z *ℤ pos (suc n)) ≤ℤ high → z ≤ℤ int_div_euclid high (pos (suc n))
floor_above (pos m) (pos a) n le =
    let k = (le-div_iff_mul-le {k = suc n} {x = m} {y = a} (suc_is_positive n)).1 (omega (arith, ints)) in omega (arith, ints, k)
floor_above (pos m) (negsuc a) n le = absurd (omega (arith, ints))
floor_above (negsuc m) (pos a) n le = omega (arith, ints)
floor_above (negsuc m) (negsuc a) n le =
    let k = (div-lt_iff_lt-mul {k = suc n} {x = a} {y = suc m} (suc_is_positive n)).1 (omega (arith, ints)) in omega (arith, ints, k)

neg_times : (z : ℤ) (n : ℕ) → neg_ℤ z *ℤ pos n ≡ neg_ℤ (z *ℤ pos n)
neg_times (pos zero) n = let e : zero * n ≡ zero = omega arith in rw e refl
neg_times (pos (suc m)) n = refl
neg_times (negsuc m) n = sym (neg_ℤ-neg_ℤ (pos (suc m * n)))

over_ceiling : (z low : ℤ) (n : ℕ) → ceiling_of low (pos (suc n)) ≤ℤ z → low ≤ℤ (z *ℤ pos (suc n))
over_ceiling z low n le =
    let k = under_floor (neg_ℤ z) (neg_ℤ low) n (omega (arith, ints)) in
    omega (arith, ints, k, neg_times z (suc n))

ceiling_below : (z low : ℤ) (n : ℕ) → low ≤ℤ (z *ℤ pos (suc n)) → ceiling_of low (pos (suc n)) ≤ℤ z
ceiling_below z low n le =
    let k = floor_above (neg_ℤ z) (neg_ℤ low) n (omega (arith, ints, neg_times z (suc n))) in
    omega (arith, ints, k)

-- ---- numbers that rise

length-rising : (k : ℤ) (n : ℕ) → length (rising k n) ≡ n
length-rising k zero = refl
length-rising k (suc n) = ap suc (length-rising (k +ℤ pos 1) n)

get_or-rising : (k : ℤ) (n i : ℕ) (d : ℤ) → i < n → get_or (rising k n) i d ≡ k +ℤ pos i
get_or-rising k zero i d lt = absurd (omega arith)
get_or-rising k (suc n) zero d lt = omega (arith, ints)
get_or-rising k (suc n) (suc i) d lt = let e = get_or-rising (k +ℤ pos 1) n i d (omega arith) in omega (arith, ints, e)

count_fits : (a b : ℤ) (i : ℕ) → i < count_between a b → (a +ℤ pos i) ≤ℤ b
count_fits a b i lt = grind (arith, ints)

count_reaches : (a b k : ℤ) → a ≤ℤ k → k ≤ℤ b → unsigned_abs (k -ℤ a) < count_between a b
count_reaches a b k low high = grind (arith, ints)

back_from : (a k : ℤ) → a ≤ℤ k → a +ℤ pos (unsigned_abs (k -ℤ a)) ≡ k
back_from a k le = omega (arith, ints)

-- ---- the two together

among_rising : (first last k : ℤ) → Contains (rising first (count_between first last)) k ↔ ((first ≤ℤ k) × (k ≤ℤ last))
among_rising first last k = (
  λ found.
      let lt : found.0 < count_between first last = subst (λ n. found.0 < n) (length-rising first (count_between first last)) found.1 in
      let e : first +ℤ pos found.0 ≡ k = sym (get_or-rising first (count_between first last) found.0 k lt) ∙ found.2 in
      let most = count_fits first last found.0 lt in
      (omega (arith, ints, e), omega (arith, ints, e, most)),
  λ within.
      let i : ℕ = unsigned_abs (k -ℤ first) in
      let lt = count_reaches first last k within.0 within.1 in (
        i,
        subst (λ n. i < n) (sym (length-rising first (count_between first last))) lt,
        get_or-rising first (count_between first last) i k lt ∙ back_from
            first k within.0,
      ),
)

among_of : (low high k : ℤ) (n : ℕ)
    → Contains (multiples_between low high (pos (suc n))) k ↔ ((low ≤ℤ (k *ℤ pos (suc n))) × ((k *ℤ pos (suc n)) ≤ℤ high))
unfolding multiples_between
among_of low high k n =
    let multiples_are_among = among_rising (ceiling_of low (pos (suc n))) (floor_of high (pos (suc n))) k in (
      λ found. let within = multiples_are_among.0 found in (over_ceiling k low n within.0, under_floor k high n within.1),
      λ within. multiples_are_among.1 (ceiling_below k low n within.0, floor_above k high n within.1),
    )

pub multiples_are_among : (low high s k : ℤ) → pos 0 <ℤ s → Contains (multiples_between low high s) k ↔ ((low ≤ℤ (k *ℤ s)) × ((k *ℤ s) ≤ℤ high))
multiples_are_among low high (pos zero) k lt = absurd (omega (arith, ints))
multiples_are_among low high (pos (suc n)) k lt = among_of low high k n
multiples_are_among low high (negsuc n) k lt = absurd (omega (arith, ints))

rises_from : (k : ℤ) (n i j : ℕ) (d : ℤ) → i < j → j < n → get_or (rising k n) i d <ℤ get_or (rising k n) j d
rises_from k n i j d lt within =
    rw (get_or-rising k n i d (omega arith), get_or-rising k n j d within) (omega (arith, ints))

pub multiples_rise : (low high s : ℤ) (i j : ℕ) (d : ℤ) → i < j → j < length (multiples_between low high s)
    → get_or (multiples_between low high s) i d <ℤ get_or (multiples_between low high s) j d
unfolding multiples_between
multiples_rise low high s i j d lt within =
    let n : ℕ = count_between (ceiling_of low s) (floor_of high s) in
    rises_from (ceiling_of low s) n i j d lt (subst (λ m. j < m) (length-rising (ceiling_of low s) n) within)

-- ---- the least quotient, as it is computed of the greatest one

negated_is : (z : ℤ) → unsigned_abs z ≤ 1084479242 → pos 0 -ℤ in64 z ≡ neg_ℤ z
negated_is z le = rw (fits_64_bits z (omega arith)) (omega (arith, ints))

negated_within : (z : ℤ) (n : ℕ) → unsigned_abs z ≤ n → unsigned_abs (neg_ℤ z) ≤ n
negated_within z n le = omega (arith, ints)

pub negated_fits : (z : ℤ) → unsigned_abs z ≤ 1084479242 → SFits w64 (pos 0 -ℤ in64 z)
negated_fits z le =
    rw (negated_is z le) (fits_signed_from_abs w64 (neg_ℤ z) (let small = negated_within z 1084479242 le in omega (arith, small)))

pub negated_dividend_fits : (z : ℤ) → unsigned_abs z ≤ 1084479241 → SFits w64 (pos 0 -ℤ in64 z)
negated_dividend_fits z le = negated_fits z (omega arith)

wrapped_negated_is : (z : ℤ) → unsigned_abs z ≤ 1084479242 → in64 (pos 0 -ℤ in64 z) ≡ neg_ℤ z
wrapped_negated_is z le = rw (negated_is z le) (fits_64_bits (neg_ℤ z) (let small = negated_within z 1084479242 le in omega (arith, small)))

pub negated_dividend_within : (z : ℤ) → unsigned_abs z ≤ 1084479241 → unsigned_abs (in64 (pos 0 -ℤ in64 z)) ≤ 1084479241
negated_dividend_within z le = rw (wrapped_negated_is z (omega arith)) (negated_within z 1084479241 le)

pub negated_quotient_within : (z : ℤ) → unsigned_abs z ≤ 1084479242 → unsigned_abs (in64 (pos 0 -ℤ in64 z)) ≤ 1084479242
negated_quotient_within z le = rw (wrapped_negated_is z le) (negated_within z 1084479242 le)

pub still_positive : (s : ℤ) → SFits w64 s → pos 0 <ℤ s → pos 0 <ℤ in64 s
still_positive s fits lt = subst (λ z. pos 0 <ℤ z) (sym (to_z-of_z w64 s fits)) lt

-- the quotient q of the negated number is rounded down
pub ceiling_is : (q z s : ℤ) → SFits w64 s → unsigned_abs z ≤ 1084479241 → unsigned_abs q ≤ 1084479242 → q ≡ floor_of (in64 (pos 0 -ℤ in64 z)) (in64 s)
    → in64 (pos 0 -ℤ in64 q) ≡ ceiling_of z s
ceiling_is q z s fits lz lq e =
    wrapped_negated_is q lq ∙ ap neg_ℤ (e ∙ ap (λ y. floor_of y (in64 s)) (wrapped_negated_is z (omega arith)) ∙ ap (floor_of (neg_ℤ z)) (to_z-of_z w64 s fits))

-- ---- the multiple i steps after the first, as it is computed of the step r

module _ (first : ℤ) (i : ℕ) (lf : unsigned_abs first ≤ 1084479242) (li : i ≤ 2168958485) where
  pub index_fits : SFits w64 (pos i)
  index_fits = fits_signed_from_abs w64 (pos i) (omega arith)

  which_is : in64 first +ℤ to_z w64 i ≡ first +ℤ pos i
  which_is = ap (λ z. z +ℤ to_z w64 i) (fits_64_bits first (omega arith)) ∙ ap (λ z. first +ℤ z) (to_z_pos w64 i (omega arith))

  which_within : unsigned_abs (first +ℤ pos i) ≤ 3253437727
  which_within = omega (arith, sum_bound first (pos i))

  pub which_fits : SFits w64 (in64 first +ℤ to_z w64 i)
  which_fits = rw which_is (fits_signed_from_abs w64 (first +ℤ pos i) (omega (arith, which_within)))

  pub multiple_fits : (r : ℤ) → unsigned_abs r ≤ 1073741823 → SFits w64 (in64 (in64 first +ℤ to_z w64 i) *ℤ in64 r)
  multiple_fits r lr =
      rw which_is (product_fits (first +ℤ pos i) r 3253437727 1073741823 which_within lr (omega arith) (omega arith) (omega arith))

  pub multiple_is : (r s : ℤ) → r ≡ s → unsigned_abs r ≤ 1073741823
      → in64 (in64 (in64 first +ℤ to_z w64 i) *ℤ in64 r) ≡ (first +ℤ pos i) *ℤ s
  multiple_is r s e lr =
      rw which_is (wrapped_product (first +ℤ pos i) r 3253437727 1073741823 which_within lr (omega arith) (omega arith) (omega arith))
      ∙ ap (λ z. (first +ℤ pos i) *ℤ z) e
