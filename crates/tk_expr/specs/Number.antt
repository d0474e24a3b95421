-- Private: only the code's own contracts use this. Decimals, digit by digit.
use Rattle.std.specs.Prelude.{ℕ, ◌+◌, ◌*◌, min, nat_lt, if◌then◌else◌, Bool, true, None, Some, ℤ}
use Rattle.tk_num.specs.Number.{nearest_65536th}
use Rattle.tk_num.specs.declared.unit.Unit.{Unit}
use Rattle.tk_token.specs.Answers.{Answer}
use Rattle.tk_expr.specs.declared.FontUnits.{FontUnits}
use Rattle.tk_expr.specs.Values.{placed, decimal_in}

-- A decimal as far as it is read: its whole part, which stays at 1073741824 once it is there; whether its point was
-- read; the digits behind the point, at most 17, as one number, with their count; and the place of its first digit or
-- point.
pub record Decimal : Type 0 where
  pub whole : ℕ
  pub pointed : Bool
  pub count : ℕ
  pub part : ℕ
  pub at : ℕ

-- no digit yet
abbrev pub no_digits : Bool → ℕ → Decimal
no_digits pointed at = record { whole = 0; pointed = pointed; count = 0; part = 0; at = at }

-- one more digit of the whole part
abbrev pub with_whole_digit : ℕ → Decimal → Decimal
with_whole_digit d n = record n { whole = min (10 * n.whole + d) 1073741824 }

-- one more digit behind the point; those after the 17th count for nothing
abbrev pub with_part_digit : ℕ → Decimal → Decimal
with_part_digit d n = if nat_lt n.count 17 then record n { count = n.count + 1; part = 10 * n.part + d } else n

-- one more digit
abbrev pub with_digit : ℕ → Decimal → Decimal
with_digit d n = if n.pointed then with_part_digit d n else with_whole_digit d n

-- the point
abbrev pub with_point : Decimal → Decimal
with_point n = record n { pointed = true }

-- what the decimal stands for, in 65536ths
unfoldable pub total : Decimal → ℕ
total n = 65536 * n.whole + nearest_65536th n.count n.part

-- its value without a unit
abbrev pub plain_value : FontUnits → Decimal → Answer ℤ
plain_value font n = placed n.at (decimal_in font None (total n))

-- its value in a unit
abbrev pub unit_value : FontUnits → Unit → Decimal → Answer ℤ
unit_value font unit n = placed n.at (decimal_in font (Some unit) (total n))
