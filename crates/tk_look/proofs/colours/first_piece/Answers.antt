use Rattle.std.proofs.Common.{lit<}
use Rattle.std.proofs.lemmas.Str.Pattern.{split_once_first}
use Rattle.tk_look.proofs.Splitting.{one_piece, more_pieces}
use Rattle.tk_look.proofs.colours.first_piece.Goals as goal

pub returns-in-Some-clause-pieces : goal.returns-in-Some-clause-pieces
returns-in-Some-clause-pieces c =
    let (inside, front, rest) = rw c.in-Some.is at (split_once_first 33 c.args.text.now c.split_once.result c.split_once.ensures.cases (lit< tt)) in
    more_pieces c.args.text.now c.in-Some.front.now c.in-Some.rest.now inside front rest

pub returns-in-None-clause-pieces : goal.returns-in-None-clause-pieces
returns-in-None-clause-pieces c =
    let none = rw c.in-None.is at (split_once_first 33 c.args.text.now c.split_once.result c.split_once.ensures.cases (lit< tt)) in
    one_piece c.args.text.now none
