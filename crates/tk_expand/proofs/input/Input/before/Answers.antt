use Rattle.std.proofs.Common.{ap}
use Rattle.tk_expand.specs.Unread.{Unread}
use Rattle.tk_expand.proofs.Stopping.{known_shorter, found_shorter}
use Rattle.tk_expand.proofs.input.Input.before.Goals as goal

pub returns-then-found-clause-shorter : goal.returns-then-found-clause-shorter
returns-then-found-clause-shorter c =
    found_shorter c.args.stop c.before_in_first.new.self.rest c.args.self.now.rest c.in_ok-front-2.front.items c.before_by_one.new.self.rest
    c.in_ok-front-2.found c.in_ok-front-2.ensures.gives c.if-found.true (ap (λ (u : Unread). u.rest)
    (rw c.in_default.is at c.in_ok-front.ensures.none))

pub returns-in-Some-clause-shorter : goal.returns-in-Some-clause-shorter
returns-in-Some-clause-shorter c =
    known_shorter c.args.stop c.args.self.now.rest c.in-Some.front.items c.before_in_first.new.self.rest
    (rw c.in-Some.is at c.in_ok-front.ensures.gives)
