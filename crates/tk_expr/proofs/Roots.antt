-- The root that a machine word gives.
use Rattle.std.proofs.Common.{◌≡◌, ℕ, ◌+◌, ◌*◌, ◌<◌, ◌≤◌}
use Rattle.tk_num.specs.Number.{floor_root}
use Rattle.tk_num.proofs.FloorRoot.{only_root}

pub root_of : (n r : ℕ) → r * r ≤ n → n < (r + 1) * (r + 1) → r ≡ floor_root n
root_of n r within next = only_root n r (record { within = within; next = next })
