use Rattle.std.proofs.Common.{◌≡◌, ◌∙◌, ap, ℤ, ℕ, unsigned_abs, ◌+◌, ◌*◌, ◌<◌, ◌≤◌, subst, SFits, to_z, of_z}
use Rattle.std.specs.Int.{w64}
use Rattle.std.proofs.lemmas.Int.{to_z-of_z}
use Rattle.tk_num.specs.Number.{IsFloorRoot}
use Rattle.tk_num.proofs.FloorRoot.{only_root}
use Rattle.tk_affine.specs.Directions.{whole_length}
use Rattle.tk_affine.proofs.Lengths.{root_most, root_least, second_root_least, square_fits, squares_fit, root_fits}
use Rattle.tk_affine.proofs.directions.whole_length.Goals as goal

root_is : (x y : ℤ) (a b r : ℕ) → a ≡ unsigned_abs x → b ≡ unsigned_abs y → r * r ≤ a * a + b * b → a * a + b * b < (r + 1) * (r + 1)
    → r ≡ whole_length x y
root_is x y a b r ea eb low high =
    let floor : IsFloorRoot (a * a + b * b) r = record { within = low; next = high } in
    only_root (unsigned_abs x * unsigned_abs x + unsigned_abs y * unsigned_abs y) r (rw (ea, eb) at floor)

part_is : (r u : ℕ) (z : ℤ) → SFits w64 z → r ≡ u → u ≡ unsigned_abs (to_z w64 (of_z w64 z)) → r ≡ unsigned_abs z
part_is r u z fits e h = e ∙ h ∙ ap unsigned_abs (to_z-of_z w64 z fits)

part_within : (r u : ℕ) (z : ℤ) → SFits w64 z → r ≡ u → u ≡ unsigned_abs (to_z w64 (of_z w64 z)) → unsigned_abs z ≤ 4611686009837453316 → r ≤ 4611686009837453316
part_within r u z fits e h le = rw (part_is r u z fits e h) le

pub returns-clause-value : goal.returns-clause-value
returns-clause-value c =
    root_is c.args.x c.args.y c.from-x.result c.from-y.result c.isqrt.result
    (part_is c.from-x.result c.unsigned_abs.result c.args.x c.ranges.x c.from-x.ensures c.unsigned_abs.ensures.value)
    (part_is c.from-y.result c.unsigned_abs-2.result c.args.y c.ranges.y c.from-y.ensures c.unsigned_abs-2.ensures.value)
    c.isqrt.ensures.square_le c.isqrt.ensures.next_square_gt

most_is : (x y : ℤ) (a b r : ℕ) → a ≡ unsigned_abs x → b ≡ unsigned_abs y → r * r ≤ a * a + b * b → r ≤ unsigned_abs x + unsigned_abs y
most_is x y a b r ea eb low = rw (ea, eb) at (root_most a b r low)

pub returns-clause-most : goal.returns-clause-most
returns-clause-most c =
    most_is c.args.x c.args.y c.from-x.result c.from-y.result c.isqrt.result
    (part_is c.from-x.result c.unsigned_abs.result c.args.x c.ranges.x c.from-x.ensures c.unsigned_abs.ensures.value)
    (part_is c.from-y.result c.unsigned_abs-2.result c.args.y c.ranges.y c.from-y.ensures c.unsigned_abs-2.ensures.value)
    c.isqrt.ensures.square_le

pub overflow_mul-x : goal.overflow_mul-x
overflow_mul-x c =
    square_fits c.from-x.result
    (part_within c.from-x.result c.unsigned_abs.result c.args.x c.ranges.x c.from-x.ensures c.unsigned_abs.ensures.value c.requires.x)

pub overflow_mul-y : goal.overflow_mul-y
overflow_mul-y c =
    square_fits c.from-y.result
    (part_within c.from-y.result c.unsigned_abs-2.result c.args.y c.ranges.y c.from-y.ensures c.unsigned_abs-2.ensures.value c.requires.y)

pub overflow_add-x : goal.overflow_add-x
overflow_add-x c =
    squares_fit c.from-x.result c.from-y.result
    (part_within c.from-x.result c.unsigned_abs.result c.args.x c.ranges.x c.from-x.ensures c.unsigned_abs.ensures.value c.requires.x)
    (part_within c.from-y.result c.unsigned_abs-2.result c.args.y c.ranges.y c.from-y.ensures c.unsigned_abs-2.ensures.value c.requires.y)

pub overflow_cast-result : goal.overflow_cast-result
overflow_cast-result c =
    root_fits c.from-x.result c.from-y.result c.isqrt.result
    (part_within c.from-x.result c.unsigned_abs.result c.args.x c.ranges.x c.from-x.ensures c.unsigned_abs.ensures.value c.requires.x)
    (part_within c.from-y.result c.unsigned_abs-2.result c.args.y c.ranges.y c.from-y.ensures c.unsigned_abs-2.ensures.value c.requires.y)
    c.isqrt.ensures.square_le

pub returns-clause-x : goal.returns-clause-x
returns-clause-x c =
    subst (λ n. n ≤ c.isqrt.result)
    (part_is c.from-x.result c.unsigned_abs.result c.args.x c.ranges.x c.from-x.ensures c.unsigned_abs.ensures.value)
    (root_least c.from-x.result c.from-y.result c.isqrt.result c.isqrt.ensures.next_square_gt)

pub returns-clause-y : goal.returns-clause-y
returns-clause-y c =
    subst (λ n. n ≤ c.isqrt.result)
    (part_is c.from-y.result c.unsigned_abs-2.result c.args.y c.ranges.y c.from-y.ensures c.unsigned_abs-2.ensures.value)
    (second_root_least c.from-x.result c.from-y.result c.isqrt.result c.isqrt.ensures.next_square_gt)
