use Rattle.std.proofs.Common.{length, ap, arith}
use Rattle.tk_expand.specs.Unread.{Unread}
use Rattle.tk_expand.proofs.Written.{spaces_no_longer}
use Rattle.tk_picture.proofs.picture.document.Goals as goal

pub returns-clause-work : goal.returns-clause-work
returns-clause-work g c =
    omega (
      arith,
      c.picture.ensures.work,
      c.in_ok-begin.ensures.shorter,
      ap (λ (list : Unread). length list.rest) c.skip_spaces.ensures,
      spaces_no_longer c.args.input.now.rest,
    )
