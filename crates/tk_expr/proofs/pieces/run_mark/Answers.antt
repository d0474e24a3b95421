use Rattle.std.proofs.Common.{map, sym}
use Rattle.std.proofs.lemmas.List.{length-map}
use Rattle.tk_expr.specs.Letters.{letter_of}
use Rattle.tk_expr.proofs.Letters.{long_word}
use Rattle.tk_expr.proofs.pieces.run_mark.Goals as goal

pub returns-in-None : goal.returns-in-None
returns-in-None c = sym (long_word (map letter_of c.args.letters.now) (rw length-map c.in-None.ensures.long))
