-- The digits that are picked are the best of all.
use Rattle.std.proofs.Common.{◌≡◌, ℕ, zero, suc, ◌^◌, ◌<◌, ◌≤◌, Bool, true, false, cond, eqb, eq-eqb, refl, subst, arith, inl, inr}
use Rattle.std.proofs.lemmas.Bool.{cases_lt}
use Rattle.std.proofs.lemmas.Bool.Decides.{nat_tests}
use Rattle.tk_num.specs.Number.{nearest_65536th}
use Rattle.tk_num.specs.Text.{nearest_digits, reads_back, fewest_digits, distance, ReadsAs, IsBest}

-- whatever digits read as the fraction, the nearest do
nearest_digit_reads_back : (f m : ℕ) → nearest_65536th 1 m ≡ f → nearest_65536th 1 (nearest_digits 1 f) ≡ f
nearest_digit_reads_back f m e = omega arith

nearest_two_digits_read_back : (f m : ℕ) → nearest_65536th 2 m ≡ f → nearest_65536th 2 (nearest_digits 2 f) ≡ f
nearest_two_digits_read_back f m e = omega arith

nearest_three_digits_read_back : (f m : ℕ) → nearest_65536th 3 m ≡ f → nearest_65536th 3 (nearest_digits 3 f) ≡ f
nearest_three_digits_read_back f m e = omega arith

nearest_four_digits_read_back : (f m : ℕ) → nearest_65536th 4 m ≡ f → nearest_65536th 4 (nearest_digits 4 f) ≡ f
nearest_four_digits_read_back f m e = omega arith

-- five digits always read back
nearest_five_digits_read_back : (f : ℕ) → f < 65536 → nearest_65536th 5 (nearest_digits 5 f) ≡ f
nearest_five_digits_read_back f lt = omega arith

eq-from_eqb : (m n : ℕ) → eqb m n ≡ true → m ≡ n
eq-from_eqb m n e = grind (arith, nat_tests)

-- one to five
pub by_count : (P : ℕ → Type 0) → P 1 → P 2 → P 3 → P 4 → P 5 → (n : ℕ) → 1 ≤ n → n ≤ 5 → P n
by_count P p1 p2 p3 p4 p5 zero low high = absurd (omega arith)
by_count P p1 p2 p3 p4 p5 (suc zero) low high = p1
by_count P p1 p2 p3 p4 p5 (suc (suc zero)) low high = p2
by_count P p1 p2 p3 p4 p5 (suc (suc (suc zero))) low high = p3
by_count P p1 p2 p3 p4 p5 (suc (suc (suc (suc zero)))) low high = p4
by_count P p1 p2 p3 p4 p5 (suc (suc (suc (suc (suc zero))))) low high = p5
by_count P p1 p2 p3 p4 p5 (suc (suc (suc (suc (suc (suc n)))))) low high = absurd (omega arith)

-- whatever digits read as the fraction, the nearest do
digits_that_read_back : (f : ℕ) → f < 65536 → (n d : ℕ) → ReadsAs f n d → reads_back n f ≡ true
digits_that_read_back f lt n d r =
    by_count (λ k. nearest_65536th k d ≡ f → reads_back k f ≡ true)
    (λ e. eq-eqb _ _ (nearest_digit_reads_back f d e)) (λ e. eq-eqb _ _ (nearest_two_digits_read_back f d e))
    (λ e. eq-eqb _ _ (nearest_three_digits_read_back f d e)) (λ e. eq-eqb _ _ (nearest_four_digits_read_back f d e))
    (λ e. eq-eqb _ _ (nearest_five_digits_read_back f lt))
    n r.some r.most r.reads

-- the nearest are nearer than any others
nearest_digits_are_nearest : (f n d : ℕ) → 1 ≤ n → n ≤ 5 → distance n (nearest_digits n f) f ≤ distance n d f
nearest_digits_are_nearest f n d low high =
    by_count (λ k. distance k (nearest_digits k f) f ≤ distance k d f) (omega arith) (omega arith) (omega arith) (omega arith)
    (omega arith) n low high

nearest_digits_are_greatest : (f n d : ℕ) → 1 ≤ n → n ≤ 5 → distance n (nearest_digits n f) f ≡ distance n d f → d ≤ nearest_digits n f
nearest_digits_are_greatest f n d low high =
    by_count (λ k. distance k (nearest_digits k f) f ≡ distance k d f → d ≤ nearest_digits k f) (λ e. omega arith) (λ e. omega arith)
    (λ e. omega arith) (λ e. omega arith) (λ e. omega arith) n low high

-- digits that read back are no carry
nearest_digits_are_few : (f n : ℕ) → f < 65536 → 1 ≤ n → n ≤ 5 → nearest_65536th n (nearest_digits n f) ≡ f → nearest_digits n f < 10 ^ n
nearest_digits_are_few f n lt low high =
    by_count (λ k. nearest_65536th k (nearest_digits k f) ≡ f → nearest_digits k f < 10 ^ k) (λ e. omega arith) (λ e. omega arith) (λ e. omega arith)
    (λ e. omega arith) (λ e. omega arith) n low high

best_at : (f n : ℕ) → f < 65536 → 1 ≤ n → n ≤ 5 → reads_back n f ≡ true → ((k d : ℕ) → ReadsAs f k d → n ≤ k) → IsBest f n (nearest_digits n f)
best_at f n lt low high back least =
    let reads : nearest_65536th n (nearest_digits n f) ≡ f = eq-from_eqb (nearest_65536th n (nearest_digits n f)) f back in
    record {
      reads = record { some = low; most = high; digits = nearest_digits_are_few f n lt low high reads; reads = reads };
      fewest = least;
      nearest = λ d r. nearest_digits_are_nearest f n d low high;
      greatest = λ d r e. nearest_digits_are_greatest f n d low high e;
    }

-- one that reads back is at least n, where none below does
least_from : (f n : ℕ) → f < 65536 → ((k : ℕ) → 1 ≤ k → k < n → reads_back k f ≡ false) → (k d : ℕ) → ReadsAs f k d → n ≤ k
least_from f n lt below k d r =
    elim (cases_lt k n) [
      | inl less ↦ absurd (let yes = digits_that_read_back f lt k d r in let no = below k r.some less in cc)
      | inr more ↦ more
    ]

-- none below
below_more : (P : ℕ → Type 0) (n : ℕ) → ((k : ℕ) → 1 ≤ k → k < n → P k) → P n → (k : ℕ) → 1 ≤ k → k < suc n → P k
below_more P n all here k low less =
    elim (cases_lt k n) [
      | inl lt ↦ all k low lt
      | inr ge ↦ (let is : n ≡ k = omega arith in subst P is here)
    ]

none_below : (P : ℕ → Type 0) (k : ℕ) → 1 ≤ k → k < 1 → P k
none_below P k low less = absurd (omega arith)

fewest_digits_chosen : (f : ℕ) → f < 65536 → (b1 b2 b3 b4 : Bool) → reads_back 1 f ≡ b1 → reads_back 2 f ≡ b2 → reads_back 3 f ≡ b3
    → reads_back 4 f ≡ b4 →
    let n : ℕ = cond b1 1 (cond b2 2 (cond b3 3 (cond b4 4 5))) in IsBest f n (nearest_digits n f)
fewest_digits_chosen f lt true b2 b3 b4 e1 e2 e3 e4 = best_at f 1 lt (omega arith) (omega arith) e1 (λ k d r. r.some)
fewest_digits_chosen f lt false true b3 b4 e1 e2 e3 e4 =
    best_at f 2 lt (omega arith) (omega arith) e2 (least_from f 2 lt (below_more (λ k. reads_back k f ≡ false) 1 (none_below (λ k. reads_back k f
    ≡ false)) e1))
fewest_digits_chosen f lt false false true b4 e1 e2 e3 e4 =
    best_at f 3 lt (omega arith) (omega arith) e3 (least_from f 3 lt (below_more (λ k. reads_back k f ≡ false) 2 (below_more (λ k. reads_back k f
    ≡ false) 1 (none_below (λ k. reads_back k f ≡ false)) e1) e2))
fewest_digits_chosen f lt false false false true e1 e2 e3 e4 =
    best_at f 4 lt (omega arith) (omega arith) e4 (least_from f 4 lt (below_more (λ k. reads_back k f ≡ false) 3 (below_more (λ k. reads_back k f
    ≡ false) 2 (below_more (λ k. reads_back k f ≡ false) 1 (none_below (λ k. reads_back k f ≡ false)) e1) e2) e3))
fewest_digits_chosen f lt false false false false e1 e2 e3 e4 =
    best_at f 5 lt (omega arith) (omega arith) (eq-eqb _ _ (nearest_five_digits_read_back f lt)) (least_from f 5 lt (below_more (λ k. reads_back k f
    ≡ false) 4 (below_more (λ k. reads_back k f ≡ false) 3 (below_more (λ k. reads_back k f ≡ false) 2 (below_more (λ k. reads_back k f
    ≡ false) 1 (none_below (λ k. reads_back k f ≡ false)) e1) e2) e3) e4))

pub is_best : (f : ℕ) → f < 65536 → IsBest f (fewest_digits f) (nearest_digits (fewest_digits f) f)
is_best f lt = fewest_digits_chosen f lt (reads_back 1 f) (reads_back 2 f) (reads_back 3 f) (reads_back 4 f) refl refl refl refl
