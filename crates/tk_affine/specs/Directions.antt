-- The turn into a direction.
use Rattle.std.specs.Prelude.{ℕ, ◌+◌, ◌*◌, ◌==◌, if◌then◌else◌, ℤ, pos, ◌*ℤ◌, int_div, unsigned_abs}
use Rattle.tk_num.specs.Number.{one, floor_root}
use Rattle.tk_affine.specs.declared.Matrix.{Matrix}
use Rattle.tk_affine.specs.Steps.{unmoved, turned}

-- the length of a vector, cut downward
abbrev pub whole_length : ℤ → ℤ → ℕ
whole_length x y = floor_root (unsigned_abs x * unsigned_abs x + unsigned_abs y * unsigned_abs y)

-- the part z of a length n, in 65536ths, cut toward zero
abbrev pub component_of : ℤ → ℕ → ℤ
component_of z n = int_div (pos one *ℤ z) (pos n)

-- the turn of a vector of the length n
abbrev pub turn_by : ℕ → ℤ → ℤ → Matrix
turn_by n x y = if n == 0 then unmoved else turned (component_of x n) (component_of y n)

-- the turn that takes (1,0) into the direction of (x,y); a vector of no length turns nothing
unfoldable pub turn_along : ℤ → ℤ → Matrix
turn_along x y = turn_by (whole_length x y) x y
