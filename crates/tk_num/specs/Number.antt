-- Numbers in 65536ths of a point, by exact fractions (Knuth, TeX: The Program, sections 99 to 107).
use Rattle.std.specs.Prelude.{ℕ, zero, suc, ◌+◌, ◌*◌, ◌/◌, ◌%◌, ◌^◌, ◌<◌, ◌≤◌, Bool, ◌&&◌, ◌==◌, nat_lt, nat_le}
use Rattle.std.specs.Prelude.{if◌then◌else◌, List, length, take, Option, Some, None, Result, Ok, Err, ℤ, pos, negsuc}
use Rattle.std.specs.Prelude.{◌*ℤ◌, ◌≤ℤ◌, int_div, unsigned_abs}
use Rattle.std.specs.List.{list_all, before_first, after_first}
use Rattle.std.specs.Char.{is_ascii_digit}
use Rattle.std.specs.Str.Parse.{digits_value}
use Rattle.tk_characters.specs.Characters.{point}
use Rattle.tk_num.specs.declared.NumFault.{NumFault}
use Rattle.tk_num.specs.declared.NumFault.TheVariants.{TooLarge, DivZero, Domain}

-- one whole, in 65536ths
abbrev pub one : ℕ
one = 65536

-- a scaled number is at most this, either way
abbrev pub IsScaled : ℤ → Type 0
IsScaled z = unsigned_abs z ≤ 1073741823

-- the same, as a test
abbrev pub is_scaled : ℤ → Bool
is_scaled z = nat_le (unsigned_abs z) 1073741823

-- the number, where it is a scaled one
abbrev pub scaled : ℤ → Result ℤ NumFault
scaled z = if is_scaled z then Ok z else Err TooLarge

-- the product of two numbers in 65536ths, cut toward zero
abbrev pub product : ℤ → ℤ → ℤ
product x y = int_div (x *ℤ y) (pos one)

-- the quotient of two numbers in 65536ths, cut toward zero
abbrev pub quotient : ℤ → ℤ → Result ℤ NumFault
quotient x y = if unsigned_abs y == 0 then Err DivZero else scaled (int_div (x *ℤ pos one) y)

-- the greatest whole number whose square is at most n: it grows by one where the next square is reached
unfoldable pub floor_root : ℕ → ℕ
floor_root zero = 0
floor_root (suc n) =
    if nat_le ((floor_root n + 1) * (floor_root n + 1)) (suc n)
    then floor_root n + 1
    else floor_root n

-- r * r is at most n, and the next square is greater
pub record IsFloorRoot (n r : ℕ) : Type 0 where
  pub within : r * r ≤ n
  pub next : n < (r + 1) * (r + 1)

-- the square root of a number in 65536ths, cut to a whole 65536th
abbrev pub square_root : ℤ → Result ℤ NumFault
square_root (pos n) = Ok (pos (floor_root (n * one)))
square_root (negsuc n) = Err Domain

-- ---- decimals

-- the 65536ths nearest to the fraction whose n digits after the point are those of m, ties upward (Knuth, TeX: The
-- Program, section 102)
abbrev pub nearest_65536th : ℕ → ℕ → ℕ
nearest_65536th n m = (131072 * m + 10 ^ n) / (2 * 10 ^ n)

-- a point
abbrev pub is_point : ℕ → Bool
is_point c = c == point

-- what stands before the first point, or all where there is none
abbrev pub whole_digits : List ℕ → List ℕ
whole_digits text = before_first is_point text

-- what stands after the first point
abbrev pub part_digits : List ℕ → List ℕ
part_digits text = after_first is_point text

-- digits with at most one point, and at least one digit: `28.45274`, `7`, `1.` and `.5`, but not `.`
abbrev pub is_decimal : List ℕ → Bool
is_decimal text =
    list_all is_ascii_digit (whole_digits text)
    && (list_all is_ascii_digit (part_digits text)
    && nat_lt 0 (length (whole_digits text) + length (part_digits text)))

-- what digits after the point stand for; those after the 17th count for nothing
abbrev pub fraction_of : List ℕ → ℕ
fraction_of ds = nearest_65536th (length (take 17 ds)) (digits_value 10 (take 17 ds))

-- what a decimal stands for, in 65536ths: 32768 for `.5`
abbrev pub decimal_value : List ℕ → ℕ
decimal_value text = one * digits_value 10 (whole_digits text) + fraction_of (part_digits text)

-- a whole part from 0 up to the greatest
abbrev pub IsWhole : ℤ → Type 0
IsWhole z = (pos 0 ≤ℤ z) × (z ≤ℤ pos 1073741823)

-- 65536ths that come to no whole
abbrev pub IsFraction : ℤ → Type 0
IsFraction z = (pos 0 ≤ℤ z) × (z ≤ℤ pos 65535)

-- whole part and 65536ths of a decimal, where the whole part is at most 1073741823: 28 and 29671 for `28.45274`
abbrev pub decimal_parts : List ℕ → Option (ℤ × ℤ)
decimal_parts text =
    if is_decimal text && nat_le (decimal_value text / one) 1073741823
    then Some (pos (decimal_value text / one), pos (decimal_value text % one))
    else None
