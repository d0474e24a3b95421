use Rattle.std.proofs.Common.{◌≤◌, ◌/◌, arith, length}
use Rattle.std.specs.Fmt.{decimal}
use Rattle.tk_num.proofs.Printed.{length-whole}
use Rattle.tk_num.proofs.text.push_front.Goals as goal

short : (c : goal.After-unsigned_abs) → length (decimal (c.unsigned_abs.result / 65536)) ≤ 15
short c = length-whole (c.unsigned_abs.result / 65536) (omega (arith, c.unsigned_abs.ensures.bound))

pub push_whole-requires : goal.push_whole-requires
push_whole-requires c = let most = short c in record { room = omega (arith, most, c.push_sign.ensures.short, c.requires.room) }

pub returns-clause-short : goal.returns-clause-short
returns-clause-short c =
    let most = length-whole (c.unsigned_abs.result / 65536) (omega (arith, c.unsigned_abs.ensures.bound)) in
    omega (arith, most, c.push_sign.ensures.short, c.push_whole.ensures.length)
