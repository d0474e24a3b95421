-- Numbers as they are passed on in so many bits.
use Rattle.std.proofs.Common.{ℤ, to_z, of_z}
use Rattle.std.specs.Int.{w64, w128}

-- in 64 bits
abbrev pub in64 : ℤ → ℤ
in64 z = to_z w64 (of_z w64 z)

-- in 128 bits
abbrev pub in128 : ℤ → ℤ
in128 z = to_z w128 (of_z w128 z)
