use Rattle.std.proofs.Common.{◌≡◌, ◌++◌, take}
use Rattle.std.specs.Prelude.{flat_map}
use Rattle.std.specs.List.{All}
use Rattle.tk_svgwrite.specs.Plain.{item_text}
use Rattle.tk_svgwrite.specs.Presentations.{IsKept}
use Rattle.tk_svgwrite.specs.Ranges.{ItemInRange}
use Rattle.tk_svgwrite.proofs.elements.put_items.Given as goal

-- the items so far are written, and are in range; the presentation is that of the bytes that are kept
abbrev pub invariant-loop-item : goal.invariant-loop-item
invariant-loop-item l = record {
  text : l.out.items ≡ l.initial.out.items ++ flat_map item_text (take l.item-index l.items);
  range : All ItemInRange (take l.item-index l.items);
  kept : IsKept l.presentation;
}
