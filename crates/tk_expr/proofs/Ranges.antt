-- The values of expressions are in range, whatever the units of the font are.
use Rattle.std.proofs.Common.{◌≡◌, ℕ, zero, suc, ◌+◌, ◌-◌, ◌*◌, ◌%◌, ◌/◌, ◌==◌, ◌<◌, ◌≤◌, Bool, true, false, List, Option, Some, None, refl}
use Rattle.std.proofs.Common.{subst, arith, inl, inr, Result, Ok, Err, ℤ, pos, negsuc, neg_ℤ, ◌-ℤ◌, unsigned_abs, nat_lt, nat_le}
use Rattle.std.specs.Prelude.{IfOk, int_div, int_rem, int_lt, int_le, if◌then◌else◌, not, ◌&&◌, ◌||◌, ◌+ℤ◌, ◌*ℤ◌}
use Rattle.std.specs.Ordering.{int_eq}
use Rattle.std.specs.Int.{int_rem_euclid}
use Rattle.std.proofs.lemmas.Bool.{cases_lt, leb-true, leb-false}
use Rattle.std.proofs.lemmas.Int.{ints}
use Rattle.tk_num.specs.Number.{IsScaled, is_scaled, scaled, product, quotient, floor_root, square_root, decimal_value}
use Rattle.tk_num.specs.Angle.{sines, quarter_sine, half_sine, turn_sine, sine, cosine}
use Rattle.tk_num.specs.declared.NumFault.{NumFault}
use Rattle.tk_num.specs.declared.NumFault.TheVariants as faults
use Rattle.tk_num.specs.declared.unit.Unit.{Unit as AUnit}
use Rattle.tk_num.proofs.FloorRoot.{is_floor_root, root_is}
use Rattle.tk_num.proofs.Sines.{quarter_within}
use Rattle.tk_token.specs.declared.Tok.{Tok}
use Rattle.tk_token.specs.Answers.{Answer, ◌>>=◌}
use Rattle.tk_expr.specs.declared.FontUnits.{FontUnits}
use Rattle.tk_expr.specs.declared.Value.{Value}
use Rattle.tk_expr.specs.declared.operators.Operator.{Operator}
use Rattle.tk_expr.specs.declared.operators.Operator.TheVariants.{Raise, Multiply, Divide, Add, Subtract, Same, Differs, AtMost, AtLeast, Below}
use Rattle.tk_expr.specs.declared.operators.Operator.TheVariants.{Above, Both, Either}
use Rattle.tk_expr.specs.declared.operators.Prefix.{Prefix}
use Rattle.tk_expr.specs.declared.operators.Prefix.TheVariants.{Negate, Keep, Not}
use Rattle.tk_expr.specs.declared.pieces.One.{One}
use Rattle.tk_expr.specs.declared.pieces.One.TheVariants.{Sin, Cos, Tan, Sqrt, Abs, Sign, Floor, Ceil, Round, Int}
use Rattle.tk_expr.specs.declared.pieces.Two.{Two}
use Rattle.tk_expr.specs.declared.pieces.Two.TheVariants.{Mod, Pow, Veclen}
use Rattle.tk_expr.specs.declared.pieces.Most.{Most}
use Rattle.tk_expr.specs.declared.pieces.Most.TheVariants.{Min, Max}
use Rattle.tk_expr.specs.declared.pieces.Piece.{Piece}
use Rattle.tk_expr.specs.Tree.{Tree, A_number, A_pi, In_unit, In_degrees, Signed, Binary, Choice, Call_one, Call_two, Call_most, value}
use Rattle.tk_expr.specs.Values.{placed, truth, is_true, prefixed, times, power, inverse, whole_power, raised, operated, decimal_in, in_unit}
use Rattle.tk_expr.specs.Values.{in_degrees, unit_length, floored, ceiled, rounded, vector_length, called_one, called_two, called_most}
use Rattle.tk_expr.specs.Evaluates.{Evaluates, IsAnswer, evaluates, misfit, miscount, too_deep, ends, valued}

-- ---- chains

-- a number in range, or a fault
abbrev NumberWithin : Answer ℤ → Type 0
NumberWithin m = IfOk m IsScaled

then_within : (m : Answer ℤ) (f : ℤ → Answer ℤ) → NumberWithin m → ((x : ℤ) → IsScaled x → NumberWithin (f x)) → NumberWithin (m >>= f)
then_within (Ok x) f h k = k x h
then_within (Err e) f h k = tt

either_of : {A : Type 0} (Q : A → Type 0) (b : Bool) {x y : A} → Q x → Q y → Q (if b then x else y)
either_of Q true h k = h
either_of Q false h k = k

abbrev Within : Result ℤ NumFault → Type 0
Within r = IfOk r IsScaled

placed_within : (at : ℕ) (r : Result ℤ NumFault) → Within r → IfOk (placed at r) IsScaled
placed_within at (Ok z) h = h
placed_within at (Err e) h = tt

-- ---- numbers

scaled_within : (z : ℤ) → Within (scaled z)
scaled_within z = by (is_scaled z) refl
  where
    by : (b : Bool) → is_scaled z ≡ b → Within (let r : Result ℤ NumFault = if b then Ok z else Err faults.TooLarge in r)
    by true e = leb-true (unsigned_abs z) 1073741823 e
    by false e = tt

quotient_within : (x y : ℤ) → Within (quotient x y)
quotient_within x y = either_of Within (unsigned_abs y == 0) tt (scaled_within (int_div (x *ℤ pos 65536) y))

small : (n : ℕ) → n ≤ 65536 → IsScaled (pos n)
small n le = omega arith

opposite : (z : ℤ) → IsScaled z → IsScaled (neg_ℤ z)
opposite (pos zero) h = h
opposite (pos (suc n)) h = h
opposite (negsuc n) h = h

truth_within : (b : Bool) → IsScaled (truth b)
truth_within b = either_of IsScaled b (small 65536 (omega arith)) (small 0 (omega arith))

times_within : (x : ℤ) (r : Result ℤ NumFault) → Within (times x r)
times_within x (Ok p) = scaled_within (product p x)
times_within x (Err e) = tt

power_within : (x : ℤ) (n : ℕ) → Within (power x n)
unfolding power
power_within x zero = small 65536 (omega arith)
power_within x (suc n) = times_within x (power x n)

inverse_within : (r : Result ℤ NumFault) → Within (inverse r)
inverse_within (Ok p) = quotient_within (pos 65536) p
inverse_within (Err e) = tt

whole_power_within : (x y : ℤ) → Within (whole_power x y)
whole_power_within x (pos n) = power_within x (n / 65536)
whole_power_within x (negsuc n) = inverse_within (power x ((n + 1) / 65536))

raised_within : (x y : ℤ) → Within (raised x y)
raised_within x y = either_of Within (unsigned_abs y % 65536 == 0) (whole_power_within x y) tt

operated_within : (operator : Operator) (x y : ℤ) → Within (operated operator x y)
operated_within Raise x y = raised_within x y
operated_within Multiply x y = scaled_within (product x y)
operated_within Divide x y = quotient_within x y
operated_within Add x y = scaled_within (x +ℤ y)
operated_within Subtract x y = scaled_within (x -ℤ y)
operated_within Same x y = truth_within (int_eq x y)
operated_within Differs x y = truth_within (not (int_eq x y))
operated_within AtMost x y = truth_within (int_le x y)
operated_within AtLeast x y = truth_within (int_le y x)
operated_within Below x y = truth_within (int_lt x y)
operated_within Above x y = truth_within (int_lt y x)
operated_within Both x y = truth_within (is_true x && is_true y)
operated_within Either x y = truth_within (is_true x || is_true y)

prefixed_within : (sign : Prefix) (x : ℤ) → IsScaled x → IsScaled (prefixed sign x)
prefixed_within Negate x h = opposite x h
prefixed_within Keep x h = h
prefixed_within Not x h = truth_within (not (is_true x))

decimal_within : (font : FontUnits) (unit : Option AUnit) (n : ℕ) → Within (decimal_in font unit n)
decimal_within font None n = scaled_within (pos n)
decimal_within font (Some unit) n = either_of Within (nat_le (n / 65536) 1073741823) (scaled_within (unit_length font unit n)) tt

in_unit_within : (font : FontUnits) (unit : AUnit) (x : ℤ) → Within (in_unit font unit x)
in_unit_within font unit (pos n) = scaled_within (unit_length font unit n)
in_unit_within font unit (negsuc n) = scaled_within (neg_ℤ (unit_length font unit (n + 1)))

-- ---- sines

last_sine : quarter_sine 5898240 ≤ 65536
unfolding sines
last_sine = omega arith

quarter_at_most : (a : ℕ) → a ≤ 5898240 → quarter_sine a ≤ 65536
quarter_at_most a le =
    elim (cases_lt a 5898240) [
      | inl lt ↦ quarter_within a (omega arith)
      | inr ge ↦ (let e : 5898240 ≡ a = omega arith in subst (λ a. quarter_sine a ≤ 65536) e last_sine)
    ]

half_at_most : (a : ℕ) → a ≤ 11796480 → half_sine a ≤ 65536
half_at_most a le = by (nat_le a 5898240) refl
  where
    by : (b : Bool) → nat_le a 5898240 ≡ b → (if b then quarter_sine a else quarter_sine (11796480 - a)) ≤ 65536
    by true e = quarter_at_most a (leb-true a 5898240 e)
    by false e = quarter_at_most (11796480 - a) (let lt = leb-false a 5898240 e in omega (arith, lt))

turn_within : (a : ℕ) → a < 23592960 → IsScaled (turn_sine a)
turn_within a lt = by (nat_lt a 11796480) refl
  where
    by : (b : Bool) → nat_lt a 11796480 ≡ b → IsScaled (if b then pos (half_sine a) else neg_ℤ (pos (half_sine (a - 11796480))))
    by true e = small (half_sine a) (half_at_most a (let le = leb-true (suc a) 11796480 e in omega (arith, le)))
    by false e = opposite (pos (half_sine (a - 11796480)))
        (small (half_sine (a - 11796480)) (half_at_most (a - 11796480) (omega arith)))

reduced_below : (z : ℤ) → unsigned_abs (int_rem_euclid z (pos 23592960)) < 23592960
reduced_below (pos a) = omega arith
reduced_below (negsuc a) = omega arith

sine_within : (z : ℤ) → IsScaled (sine z)
sine_within z = turn_within (unsigned_abs (int_rem_euclid z (pos 23592960))) (reduced_below z)

-- ---- functions

not_below : (n : ℕ) → int_lt (pos n) (pos 0) ≡ false
not_below n = grind (arith, ints)

root_within : (x : ℤ) → IsScaled x → Within (square_root x)
root_within (pos n) h =
    subst Within (root_is (pos n) (floor_root (n * 65536)) h (not_below n) (is_floor_root (n * 65536))) (scaled_within (pos (floor_root (n * 65536))))
root_within (negsuc n) h = tt

cut_within : (x : ℤ) → IsScaled x → IsScaled (x -ℤ int_rem x (pos 65536))
cut_within (pos a) h = omega (arith, ints)
cut_within (negsuc a) h = omega (arith, ints)

left_within : (x y : ℤ) → IsScaled x → IsScaled (int_rem x y)
left_within (pos a) y h = omega arith
left_within (negsuc a) y h = opposite (pos (suc a % unsigned_abs y)) (omega arith)

one_within : (f : One) (x : ℤ) → IsScaled x → Within (called_one f x)
one_within Sin x h = sine_within x
one_within Cos x h = sine_within (x +ℤ pos 5898240)
one_within Tan x h = quotient_within (sine x) (cosine x)
one_within Sqrt x h = root_within x h
one_within Abs x h = h
one_within Sign x h = either_of IsScaled (unsigned_abs x == 0) (small 0 (omega arith))
    (either_of IsScaled (int_le (pos 0) x) (small 65536 (omega arith)) (opposite (pos 65536) (small 65536 (omega arith))))
one_within Floor x h = scaled_within (floored x)
one_within Ceil x h = scaled_within (ceiled x)
one_within Round x h = scaled_within (rounded x)
one_within Int x h = cut_within x h

two_within : (f : Two) (x y : ℤ) → IsScaled x → Within (called_two f x y)
two_within Mod x y h = either_of Within (unsigned_abs y == 0) tt (left_within x y h)
two_within Pow x y h = raised_within x y
two_within Veclen x y h = scaled_within (vector_length x y)

most_within : (f : Most) (x y : ℤ) → IsScaled x → IsScaled y → IsScaled (called_most f x y)
most_within Min x y h k = either_of IsScaled (int_lt y x) k h
most_within Max x y h k = either_of IsScaled (int_lt y x) h k

-- ---- trees

pi_within : IsScaled (pos 205887)
pi_within = omega arith

value_within : (font : FontUnits) (t : Tree) → IfOk (value font t) IsScaled
value_within font (A_number text unit at) = placed_within at (decimal_in font unit (decimal_value text)) (decimal_within font unit (decimal_value text))
value_within font A_pi = pi_within
value_within font (In_unit unit at t) = then_within (value font t) _ (value_within font t) (λ x h. placed_within at (in_unit font unit x) (in_unit_within font unit x))
value_within font (In_degrees at t) = then_within (value font t) _ (value_within font t) (λ x h. placed_within at (in_degrees x) (scaled_within (int_div (x *ℤ pos 11796480) (pos 205887))))
value_within font (Signed sign t) = then_within (value font t) _ (value_within font t) (λ x h. prefixed_within sign x h)
value_within font (Binary operator at t u) =
    then_within (value font t) _ (value_within font t) (λ x h.
    then_within (value font u) _ (value_within font u) (λ y k. placed_within at (operated operator x y) (operated_within operator x y)))
value_within font (Choice c t u) =
    then_within (value font c) _ (value_within font c) (λ b g.
    then_within (value font t) _ (value_within font t) (λ x h.
    then_within (value font u) _ (value_within font u) (λ y k. either_of IsScaled (is_true b) h k)))
value_within font (Call_one f at t) = then_within (value font t) _ (value_within font t) (λ x h. placed_within at (called_one f x) (one_within f x h))
value_within font (Call_two f at t u) =
    then_within (value font t) _ (value_within font t) (λ x h.
    then_within (value font u) _ (value_within font u) (λ y k. placed_within at (called_two f x y) (two_within f x y h)))
value_within font (Call_most f t u) =
    then_within (value font t) _ (value_within font t) (λ x h.
    then_within (value font u) _ (value_within font u) (λ y k. most_within f x y h k))

-- ---- answers

abbrev pub InRange : Answer Value → Type 0
InRange answer = IfOk answer (λ (v : Value). IsScaled v.number)

valued_within : (unit : Bool) (m : Answer ℤ) → IfOk m IsScaled → InRange (valued unit m)
valued_within unit (Ok n) h = h
valued_within unit (Err e) h = tt

answer_within : (font : FontUnits) (end : ℕ) (ps : List Piece) (answer : Answer Value) → IsAnswer font end ps answer → InRange answer
answer_within font end ps answer (evaluates {t = t} text shallow) = valued_within _ (value font t) (value_within font t)
answer_within font end ps answer (misfit m unfit) = tt
answer_within font end ps answer (miscount m is) = tt
answer_within font end ps answer (too_deep deep) = tt
answer_within font end ps answer (ends beginning shallow none) = tt

-- the value of an expression is in range
pub evaluates_within : (font : FontUnits) (at : ℕ) (toks : List Tok) (answer : Answer Value) → Evaluates font at toks answer → InRange answer
evaluates_within font at toks answer is = answer_within font _ _ answer is
