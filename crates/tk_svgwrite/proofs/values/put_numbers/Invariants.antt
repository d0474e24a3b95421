use Rattle.std.proofs.Common.{◌≡◌, ◌++◌, take}
use Rattle.std.specs.Prelude.{flat_map}
use Rattle.std.specs.List.{All}
use Rattle.tk_num.specs.Number.{IsScaled}
use Rattle.tk_svgwrite.proofs.Writing.{spaced_text}
use Rattle.tk_svgwrite.proofs.values.put_numbers.Given as goal

-- the numbers so far are written, each behind a space, and are scaled ones
abbrev pub invariant-loop-number : goal.invariant-loop-number
invariant-loop-number l = record {
  text : l.out.items ≡ l.initial.out.items ++ flat_map spaced_text (take l.number-index l.rest);
  range : All IsScaled (take l.number-index l.rest);
}
