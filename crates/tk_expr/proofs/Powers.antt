-- Powers, product by product.
use Rattle.std.proofs.Common.{◌≡◌, ℕ, zero, suc, ◌+◌, ◌-◌, ◌≤◌, ap, sym, ◌∙◌, arith, subst, Ok, Err, ℤ}
use Rattle.tk_num.specs.Number.{scaled, product}
use Rattle.tk_num.specs.declared.NumFault.{NumFault}
use Rattle.tk_expr.specs.Values.{power, times}

-- one more product
pub power_more : (x p : ℤ) (n : ℕ) → power x n ≡ Ok p → power x (n + 1) ≡ scaled (product p x)
unfolding power
power_more x p n e = let s : n + 1 ≡ suc n = omega arith in rw s (ap (times x) e)

-- a fault stays
pub power_stays : (x : ℤ) (n k : ℕ) (f : NumFault) → power x n ≡ Err f → power x (k + n) ≡ Err f
unfolding power
power_stays x n zero f e = let s : 0 + n ≡ n = omega arith in rw s e
power_stays x n (suc k) f e = let s : suc k + n ≡ suc (k + n) = omega arith in rw s (ap (times x) (power_stays x n k f e))

-- a fault below the exponent is that of the power
pub power_fails : (x p : ℤ) (n most : ℕ) (f : NumFault) → power x n ≡ Ok p → n + 1 ≤ most → scaled (product p x) ≡ Err f → power x most ≡ Err f
power_fails x p n most f before le fails =
    let s : most ≡ (most - (n + 1)) + (n + 1) = omega arith in
    let here : power x (n + 1) ≡ Err f = power_more x p n before ∙ fails in
    subst (λ m. power x m ≡ Err f) (sym s) (power_stays x (n + 1) (most - (n + 1)) f here)
