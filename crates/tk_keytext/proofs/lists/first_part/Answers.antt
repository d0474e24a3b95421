use Rattle.std.proofs.Common.{◌≡◌, ◌<◌, length, ◌∙◌, ap, arith}
use Rattle.std.proofs.lemmas.Bool.Decides.{nat_tests}
use Rattle.tk_keytext.specs.KeyParts.{key_part}
use Rattle.tk_keytext.specs.Parts.{part_of}
use Rattle.tk_keytext.proofs.Pieces.{no_parts, goes_on, gives_part}
use Rattle.tk_keytext.proofs.lists.first_part.Goals as goal

pub returns-in-Some : goal.returns-in-Some
returns-in-Some c =
    let some : 0 < length c.loop-rest.rest.now = grind (arith, nat_tests, c.loop-rest-test.ensures) in
    c.loop-rest.invariant.told
    ∙ gives_part c.loop-rest.rest.now c.first_piece.result.0.now c.first_piece.result.1.now some c.first_piece.ensures.piece
    (key_part c.in-Some.part) (c.in-Some.ensures ∙ ap part_of c.after_spaces.ensures)

pub loop-rest-preserved : goal.loop-rest-preserved
loop-rest-preserved c =
    let some : 0 < length c.loop-rest.rest.now = grind (arith, nat_tests, c.loop-rest-test.ensures) in
    record {
      told = c.loop-rest.invariant.told
          ∙ goes_on c.loop-rest.rest.now c.first_piece.result.0.now c.first_piece.result.1.now some c.first_piece.ensures.piece
          (c.in_default.ensures ∙ ap part_of c.after_spaces.ensures);
    }

pub returns : goal.returns
returns c =
    let empty : length c.loop-rest.rest.now ≡ 0 = grind (arith, nat_tests, c.loop-rest-test.ensures) in
    let none = no_parts c.loop-rest.rest.now empty in
    (c.loop-rest.invariant.told ∙ none, none)
