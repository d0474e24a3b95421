use Rattle.std.proofs.Common.{◌-◌, length, take, drop, min, sym, ap, subst, ◌∙◌, arith}
use Rattle.tk_io.specs.Desk.{IsDesk, file_at, moved_on}
use Rattle.tk_io.specs.SureShelf.{Sure, IsSure}
use Rattle.tk_io.proofs.SureSteps.{Sure-read}
use Rattle.tk_io.proofs.sure.SureShelfShelf.read.Goals as goal

pub returns-in-Some-clause-reads : goal.returns-in-Some-clause-reads
returns-in-Some-clause-reads c name is_open =
    let place = c.in-Some.place in
    let n = c.hand_out.result in
    Sure-read name c.args.self.now c.hand_out.new.self _ place n c.args.buf.now c.hand_out.new.buf
    (subst IsSure c.self.view_is c.self.invariant)
    (subst (λ (s : Sure). IsDesk s.desk) c.self.view_is c.in-Some.ensures.desk)
    (ap (λ (s : Sure). s.desk.current) (sym c.self.view_is) ∙ sym c.in-Some.ensures.place)
    is_open
    c.hand_out.auto.buf
    (omega (arith, c.hand_out.ensures.count) ∙ ap (λ (s : Sure). min (length c.args.buf.now) (length (file_at s.desk place).1 - s.desk.at))
    c.self.view_is)
    (c.hand_out.ensures.front ∙ ap (λ (s : Sure). take n (drop s.desk.at (file_at s.desk place).1)) c.self.view_is)
    (c.hand_out.ensures.moved ∙ ap (λ (s : Sure). moved_on s.desk place n) c.self.view_is)
    (ap (λ (s : Sure). s.absent) c.self.view_is)
