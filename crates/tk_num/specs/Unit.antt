-- Lengths in the units of TeX (Knuth, TeX: The Program, section 458).
use Rattle.std.specs.Prelude.{ℕ, ◌*◌, ◌/◌, ℤ, pos}
use Rattle.tk_num.specs.Number.{one, product}
use Rattle.tk_num.specs.declared.unit.Unit.{Unit}
use Rattle.tk_num.specs.declared.unit.Unit.TheVariants.{Pt, Pc, In, Bp, Cm, Mm, Dd, Cc, Sp, Em, Ex}

-- v 65536ths of a unit of numerator / denominator points, in 65536ths of a point, cut downward: 1in is 7227/100pt, so
-- that 65536 are 4736286
abbrev pub converted : ℕ → ℕ → ℕ → ℕ
converted numerator denominator v = v * numerator / denominator

-- v 65536ths of a unit, in 65536ths of a point; a scaled point has no parts
abbrev pub length_in : Unit → ℕ → ℤ → ℤ → ℤ
length_in Pt v em ex = pos (converted 1 1 v)
length_in Pc v em ex = pos (converted 12 1 v)
length_in In v em ex = pos (converted 7227 100 v)
length_in Bp v em ex = pos (converted 7227 7200 v)
length_in Cm v em ex = pos (converted 7227 254 v)
length_in Mm v em ex = pos (converted 7227 2540 v)
length_in Dd v em ex = pos (converted 1238 1157 v)
length_in Cc v em ex = pos (converted 14856 1157 v)
length_in Sp v em ex = pos (v / one)
length_in Em v em ex = product (pos v) em
length_in Ex v em ex = product (pos v) ex
