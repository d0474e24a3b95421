-- What operators, signs and functions make of numbers in 65536ths (the PGF manual, section Mathematical Expressions).
use Rattle.std.specs.Prelude.{ℕ, zero, suc, ◌*◌, ◌+◌, ◌/◌, ◌%◌, Bool, not, ◌&&◌, ◌||◌, ◌==◌, nat_le, if◌then◌else◌}
use Rattle.std.specs.Prelude.{Option, Some, None, Result, Ok, Err, ℤ, pos, negsuc, neg_ℤ, ◌+ℤ◌, ◌-ℤ◌, ◌*ℤ◌, int_lt}
use Rattle.std.specs.Prelude.{int_le, int_div, int_rem, unsigned_abs}
use Rattle.std.specs.Int.{int_rem_euclid, int_min, int_max}
use Rattle.std.specs.Ordering.{int_eq}
use Rattle.tk_num.specs.Number.{scaled, product, quotient, floor_root, square_root}
use Rattle.tk_num.specs.Angle.{sine, cosine, tangent}
use Rattle.tk_num.specs.Unit.{length_in}
use Rattle.tk_num.specs.declared.NumFault.{NumFault}
use Rattle.tk_num.specs.declared.NumFault.TheVariants as faults
use Rattle.tk_num.specs.declared.unit.Unit.{Unit}
use Rattle.tk_token.specs.declared.Code.{Code}
use Rattle.tk_token.specs.declared.Code.TheVariants.{TooLarge, DivZero, Domain}
use Rattle.tk_token.specs.Answers.{Answer, fault}
use Rattle.tk_expr.specs.declared.FontUnits.{FontUnits}
use Rattle.tk_expr.specs.declared.operators.Operator.{Operator}
use Rattle.tk_expr.specs.declared.operators.Operator.TheVariants.{Raise, Multiply, Divide, Add, Subtract, Same, Differs}
use Rattle.tk_expr.specs.declared.operators.Operator.TheVariants.{AtMost, AtLeast, Below, Above, Both, Either}
use Rattle.tk_expr.specs.declared.operators.Prefix.{Prefix}
use Rattle.tk_expr.specs.declared.operators.Prefix.TheVariants.{Negate, Keep, Not}
use Rattle.tk_expr.specs.declared.pieces.One.{One}
use Rattle.tk_expr.specs.declared.pieces.One.TheVariants.{Sin, Cos, Tan, Sqrt, Abs, Sign, Floor, Ceil, Round, Int}
use Rattle.tk_expr.specs.declared.pieces.Two.{Two}
use Rattle.tk_expr.specs.declared.pieces.Two.TheVariants.{Mod, Pow, Veclen}
use Rattle.tk_expr.specs.declared.pieces.Most.{Most}
use Rattle.tk_expr.specs.declared.pieces.Most.TheVariants.{Min, Max}

-- the code of a number's fault
abbrev pub code_of : NumFault → Code
code_of faults.TooLarge = TooLarge
code_of faults.DivZero = DivZero
code_of faults.Domain = Domain

-- a number that stands at a place, or its fault there
abbrev pub placed : ℕ → Result ℤ NumFault → Answer ℤ
placed at (Ok z) = Ok z
placed at (Err e) = fault (code_of e) at

-- ---- truth

-- true is one, false is 0
abbrev pub truth : Bool → ℤ
truth b = if b then pos 65536 else pos 0

-- a number is true where it isn't 0
abbrev pub is_true : ℤ → Bool
is_true x = not (unsigned_abs x == 0)

-- ---- signs and operators

-- what a sign makes of a number
abbrev pub prefixed : Prefix → ℤ → ℤ
prefixed Negate x = neg_ℤ x
prefixed Keep x = x
prefixed Not x = truth (not (is_true x))

-- one more product by x
abbrev pub times : ℤ → Result ℤ NumFault → Result ℤ NumFault
times x (Ok p) = scaled (product p x)
times x (Err e) = Err e

-- n products by x, from one on
unfoldable pub power : ℤ → ℕ → Result ℤ NumFault
power x zero = Ok (pos 65536)
power x (suc n) = times x (power x n)

-- one by a number, or its fault
abbrev pub inverse : Result ℤ NumFault → Result ℤ NumFault
inverse (Ok p) = quotient (pos 65536) p
inverse (Err e) = Err e

-- x to a whole exponent; a negative one gives one by the power
abbrev pub whole_power : ℤ → ℤ → Result ℤ NumFault
whole_power x (pos n) = power x (n / 65536)
whole_power x (negsuc n) = inverse (power x ((n + 1) / 65536))

-- x to the exponent y, which has to be whole
abbrev pub raised : ℤ → ℤ → Result ℤ NumFault
raised x y = if unsigned_abs y % 65536 == 0 then whole_power x y else Err faults.Domain

-- what an operator makes of two numbers
abbrev pub operated : Operator → ℤ → ℤ → Result ℤ NumFault
operated Raise x y = raised x y
operated Multiply x y = scaled (product x y)
operated Divide x y = quotient x y
operated Add x y = scaled (x +ℤ y)
operated Subtract x y = scaled (x -ℤ y)
operated Same x y = Ok (truth (int_eq x y))
operated Differs x y = Ok (truth (not (int_eq x y)))
operated AtMost x y = Ok (truth (int_le x y))
operated AtLeast x y = Ok (truth (int_le y x))
operated Below x y = Ok (truth (int_lt x y))
operated Above x y = Ok (truth (int_lt y x))
operated Both x y = Ok (truth (is_true x && is_true y))
operated Either x y = Ok (truth (is_true x || is_true y))

-- the second number where the first is true, else the third
abbrev pub chosen : ℤ → ℤ → ℤ → ℤ
chosen c x y = if is_true c then x else y

-- ---- units

-- the length of so many 65536ths of a unit
abbrev pub unit_length : FontUnits → Unit → ℕ → ℤ
unit_length font unit n = length_in unit n font.em font.ex

-- a decimal of n 65536ths without a unit, or in one; its whole part is at most 1073741823
abbrev pub decimal_in : FontUnits → Option Unit → ℕ → Result ℤ NumFault
decimal_in font None n = scaled (pos n)
decimal_in font (Some unit) n =
    if nat_le (n / 65536) 1073741823 then scaled (unit_length font unit n) else Err faults.TooLarge

-- any other number in a unit: its size in the unit, with its sign
abbrev pub in_unit : FontUnits → Unit → ℤ → Result ℤ NumFault
in_unit font unit (pos n) = scaled (unit_length font unit n)
in_unit font unit (negsuc n) = scaled (neg_ℤ (unit_length font unit (n + 1)))

-- radians in degrees: 11796480 is 180 and 205887 is pi, in 65536ths
abbrev pub in_degrees : ℤ → Result ℤ NumFault
in_degrees x = scaled (int_div (x *ℤ pos 11796480) (pos 205887))

-- pi
abbrev pub pi_value : ℤ
pi_value = pos 205887

-- ---- functions

-- the greatest whole number that isn't greater
abbrev pub floored : ℤ → ℤ
floored x = x -ℤ int_rem_euclid x (pos 65536)

-- the least whole number that isn't less
abbrev pub ceiled : ℤ → ℤ
ceiled x = neg_ℤ (floored (neg_ℤ x))

-- the nearest whole number, half away from zero
abbrev pub rounded : ℤ → ℤ
rounded (pos n) = floored (pos (n + 32768))
rounded (negsuc n) = neg_ℤ (floored (pos (n + 1 + 32768)))

-- one, 0 or minus one
abbrev pub signum : ℤ → ℤ
signum x = if unsigned_abs x == 0 then pos 0 else (if int_le (pos 0) x then pos 65536 else neg_ℤ (pos 65536))

-- a function of one argument
abbrev pub called_one : One → ℤ → Result ℤ NumFault
called_one Sin x = Ok (sine x)
called_one Cos x = Ok (cosine x)
called_one Tan x = tangent x
called_one Sqrt x = square_root x
called_one Abs x = Ok (pos (unsigned_abs x))
called_one Sign x = Ok (signum x)
called_one Floor x = scaled (floored x)
called_one Ceil x = scaled (ceiled x)
called_one Round x = scaled (rounded x)
called_one Int x = Ok (x -ℤ int_rem x (pos 65536))

-- what is left of x after whole multiples of y
abbrev pub remainder : ℤ → ℤ → Result ℤ NumFault
remainder x y = if unsigned_abs y == 0 then Err faults.DivZero else Ok (int_rem x y)

-- the length of the vector of x and y, cut downward
abbrev pub vector_length : ℤ → ℤ → ℤ
vector_length x y = pos (floor_root (unsigned_abs x * unsigned_abs x + unsigned_abs y * unsigned_abs y))

-- a function of two arguments
abbrev pub called_two : Two → ℤ → ℤ → Result ℤ NumFault
called_two Mod x y = remainder x y
called_two Pow x y = raised x y
called_two Veclen x y = scaled (vector_length x y)

-- the least or the greatest of two arguments
abbrev pub called_most : Most → ℤ → ℤ → ℤ
called_most Min x y = int_min x y
called_most Max x y = int_max x y
