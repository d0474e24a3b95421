use Rattle.std.proofs.Common.{arith, ◌∙◌, subst, sym, ◌*◌, ◌%◌}
use Rattle.tk_num.proofs.Knuth.{AtDigit, first_digit, next_digit, last_digit, digits_room}
use Rattle.tk_num.proofs.text.push_part.Goals as goal

pub digits-init : goal.digits-init
digits-init c = first_digit c.args.fraction c.args.out.now.items c.requires.fraction

pub push-requires : goal.push-requires
push-requires c =
    let room = digits_room _ _ _ _ _ c.digits.invariant in
    omega (arith, room, c.requires.room)

pub returns-then-rest-delta-clause-text : goal.returns-then-rest-delta-clause-text
returns-then-rest-delta-clause-text c =
    c.push.ensures.items
    ∙ last_digit c.args.fraction c.digits.rest c.digits.delta c.rounded-rest.result c.args.out.now.items c.digits.out.items c.digits.invariant
    c.rounded-rest.ensures c.if-rest-delta.true

pub returns-then-rest-delta-clause-short : goal.returns-then-rest-delta-clause-short
returns-then-rest-delta-clause-short c =
    let room = digits_room _ _ _ _ _ c.digits.invariant in
    omega (arith, room, c.push.ensures.len)

pub digits-preserved : goal.digits-preserved
digits-preserved c =
    subst (λ now. AtDigit c.args.fraction c.args.out.now.items now (10 * (c.rounded-rest.result % 65536)) (c.digits.delta * 10))
    (sym c.push.ensures.items)
    (next_digit c.args.fraction c.digits.rest c.digits.delta c.rounded-rest.result c.args.out.now.items c.digits.out.items c.digits.invariant
    c.rounded-rest.ensures c.if-rest-delta.false)
