use Rattle.std.proofs.Common.{◌≡◌, ◌≤◌, ◌+◌, [], ◌∷◌, length, ap, sym, ◌∙◌, arith}
use Rattle.std.specs.Prelude.{reverse}
use Rattle.std.proofs.lemmas.List.{length-reverse, reverse-append}
use Rattle.tk_store.proofs.Undoing.{one_undone, one_dropped, none_undone, none_dropped}
use Rattle.tk_store.proofs.store.undo.Goals as goal
use Rattle.tk_store.proofs.store.undo.Given.{Over}
use Rattle.tk_store.proofs.store.undo.Goals.{After-loop-saved}

pub loop-saved-preserved-in-Some : goal.loop-saved-preserved-in-Some
loop-saved-preserved-in-Some g c =
    let are : reverse c.loop-saved.saved.items ≡ c.in-Some.newest ∷ reverse c.pop.new.self.items =
    ap reverse c.in-Some.ensures.items ∙ reverse-append c.pop.new.self.items (c.in-Some.newest ∷ []) in
    let count : length (reverse c.loop-saved.saved.items) ≡ length (reverse c.pop.new.self.items) + 1 = omega (arith, ap length are) in
    let enough : c.args.mark ≤ length (reverse c.pop.new.self.items) =
    omega (arith, count, c.loop-saved-test.true, c.len.ensures, c.loop-saved.saved.ok.0, length-reverse c.loop-saved.saved.items) in
    record {
      enough = enough;
      back = one_undone (reverse c.loop-saved.saved.items) (reverse c.pop.new.self.items) c.in-Some.newest c.args.mark are enough
          c.loop-saved.tables c.restore.new.self c.restore.ensures.tables
          ∙ c.loop-saved.invariant.back;
      left = one_dropped (reverse c.loop-saved.saved.items) (reverse c.pop.new.self.items) c.in-Some.newest c.args.mark are enough
          ∙ c.loop-saved.invariant.left;
      cost = omega (arith, count, c.loop-saved.invariant.cost, c.restore.ensures.cost);
    }

few : (g : Over) (c : After-loop-saved g) → length (reverse c.loop-saved.saved.items) ≤ c.args.mark
few g c = omega (arith, c.loop-saved-test.false, c.len.ensures, c.loop-saved.saved.ok.0, length-reverse c.loop-saved.saved.items)

pub returns-clause-tables : goal.returns-clause-tables
returns-clause-tables g c =
    sym (none_undone (reverse c.loop-saved.saved.items) c.args.mark (few g c) c.loop-saved.tables)
    ∙ c.loop-saved.invariant.back

pub returns-clause-saved : goal.returns-clause-saved
returns-clause-saved g c = sym (none_dropped (reverse c.loop-saved.saved.items) c.args.mark (few g c)) ∙ c.loop-saved.invariant.left

pub returns-clause-cost : goal.returns-clause-cost
returns-clause-cost g c = omega (arith, few g c, c.loop-saved.invariant.enough, c.loop-saved.invariant.cost)
