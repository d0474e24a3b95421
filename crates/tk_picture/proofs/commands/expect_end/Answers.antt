use Rattle.tk_picture.proofs.commands.expect_end.Goals as goal

pub returns-in-Picture-clause-gives : goal.returns-in-Picture-clause-gives
returns-in-Picture-clause-gives c = rw c.in-Picture.is c.expect_named.ensures.gives
