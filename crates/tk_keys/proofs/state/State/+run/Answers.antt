use Rattle.std.proofs.Common.{List, length, Ok, ap, sym, ◌∙◌, arith}
use Rattle.tk_token.specs.declared.Tok.{Tok}
use Rattle.std.proofs.lemmas.Result.{err_from_is_err_and, on_ok_weaker}
use Rattle.tk_token.proofs.Answering.{fails_as}
use Rattle.tk_expand.specs.Unread.{Unread}
use Rattle.tk_keytext.specs.KeyParts.{key_part}
use Rattle.tk_keytext.specs.Parts.{KeyPart, parts_of}
use Rattle.tk_keytext.proofs.PartCounts.{parts_within}
use Rattle.tk_keys.specs.State.{State, standing_of}
use Rattle.tk_keys.proofs.Loops.{keeps_then, pays_keeps, next_fails, text_ends, text_goes_on, set_fails, parts_go_on, part_fails, parts_end}
use Rattle.tk_keys.proofs.Loops.{given_at, keys_taken, group_taken}
use Rattle.tk_keys.proofs.Loops.{text_paid, text_covered, inside_most, closed_high, closed_most}
use Rattle.tk_keys.proofs.state.State.+run.Goals as goal

pub run_part-run_text-requires : goal.run_part-run_text-requires
run_part-run_text-requires g t c =
    let paid = text_paid c.args.self.now c.part.new.self (key_part c.args.part.now) c.args.dir.now c.part.new.dir c.in_ok-deed.deed c.in-Some.text
    c.in_ok-deed.ensures.gives c.in-Some.is in
    λ κs b. (omega (arith, paid.0, paid.1, c.in_ok-deed.ensures.kept.budget, ap (λ (ts : List Tok). length ts) c.in-Some.text-is), b)

pub run_parts-loop-part-preserved : goal.run_parts-loop-part-preserved
run_parts-loop-part-preserved g t c =
    let k = c.loop-part.invariant in
    let n = c.in_ok-run_part.ensures in
    record {
      told = k.told ∙ parts_go_on c.args.self.now c.loop-part.self k.kept c.loop-part.dir c.loop-part.parts c.next.new.self (key_part c.in-Some.part)
          c.in-Some.ensures.steps c.run_part.new.self c.run_part.new.dir n.gives;
      kept = keeps_then c.args.self.now c.loop-part.self c.run_part.new.self k.kept n.kept;
      used = omega (arith, k.used, n.used);
      low = omega (arith, k.low, n.low);
      most = omega (arith, k.most, n.most, ap (λ (ps : List KeyPart). length ps) c.in-Some.ensures.steps);
    }

pub run_parts-returns-in_err-run_part-clause-gives :
    goal.run_parts-returns-in_err-run_part-clause-gives
run_parts-returns-in_err-run_part-clause-gives g t c =
    let k = c.loop-part.invariant in
    let p = err_from_is_err_and c.from_residual.result c.from_residual.ensures.1 in
    rw (p.1, p.2) (fails_as c.in_err-run_part.field-0.0 _ _ k.told (part_fails c.args.self.now c.loop-part.self k.kept c.loop-part.dir
    c.loop-part.parts c.next.new.self (key_part c.in-Some.part) c.in-Some.ensures.steps c.in_err-run_part.field-0.0
    c.in_err-run_part.ensures.gives))

pub run_parts-returns-clause-gives : goal.run_parts-returns-clause-gives
run_parts-returns-clause-gives g t c =
    c.loop-part.invariant.told ∙ parts_end c.args.self.now c.loop-part.self c.loop-part.dir c.loop-part.parts c.in_default.ensures.steps.0

pub run_text-returns-in_err-first-clause-gives : goal.run_text-returns-in_err-first-clause-gives
run_text-returns-in_err-first-clause-gives g t c =
    let k = c.loop-input.invariant in
    let p = err_from_is_err_and c.from_residual-in_err-first.result c.from_residual-in_err-first.ensures.1 in
    rw (p.1, p.2) (fails_as c.in_err-first.field-0.0 _ _ k.told (next_fails c.args.self.now c.loop-input.self k.kept c.loop-input.dir
    c.loop-input.input c.in_err-first.field-0.0 c.in_err-first.ensures.gives))

pub run_text-loop-input-preserved : goal.run_text-loop-input-preserved
run_text-loop-input-preserved g t c =
    let k = c.loop-input.invariant in
    let m = c.in_ok-first.ensures in
    let n = c.in_ok-set_or_group.ensures in
    let paid = pays_keeps c.loop-input.self c.next.new.self m.pays in
    let kept = keeps_then c.args.self.now c.loop-input.self c.set_or_group.new.self k.kept (keeps_then c.loop-input.self c.next.new.self
    c.set_or_group.new.self paid n.kept) in
    record {
      told = k.told ∙ text_goes_on c.args.self.now c.loop-input.self k.kept c.loop-input.dir c.loop-input.input c.next.new.self m.pays
          c.next.new.input c.in-Some.first (rw c.in-Some.is at m.gives) c.set_or_group.new.self c.set_or_group.new.dir
          c.set_or_group.new.input n.gives;
      kept = kept;
      used = omega (arith, k.used, m.used, n.used);
      work = omega (arith, k.work, rw c.in-Some.is at m.work, n.work);
      low = omega (arith, k.low, n.low);
      most = omega (arith, k.most, rw c.in-Some.is at m.work, n.most, ap (λ (s : State). s.levels.top.settings) m.pays);
    }

pub run_text-returns-in_err-set_or_group-clause-gives :
    goal.run_text-returns-in_err-set_or_group-clause-gives
run_text-returns-in_err-set_or_group-clause-gives g t c =
    let k = c.loop-input.invariant in
    let m = c.in_ok-first.ensures in
    let p = err_from_is_err_and c.from_residual-in_err-set_or_group.result c.from_residual-in_err-set_or_group.ensures.1 in
    rw (p.1, p.2) (fails_as c.in_err-set_or_group.field-0.0 _ _ k.told (set_fails c.args.self.now c.loop-input.self k.kept c.loop-input.dir
    c.loop-input.input c.next.new.self m.pays c.next.new.input c.in-Some.first (rw c.in-Some.is at m.gives) c.in_err-set_or_group.field-0.0
    c.in_err-set_or_group.ensures.gives))

pub run_text-returns-clause-gives : goal.run_text-returns-clause-gives
run_text-returns-clause-gives g t c =
    let k = c.loop-input.invariant in
    let m = c.in_ok-first.ensures in
    k.told ∙ text_ends c.args.self.now c.loop-input.self k.kept c.loop-input.dir c.loop-input.input c.next.new.self m.pays c.next.new.input
    (rw c.in_default.is at m.gives)

pub set_keys-returns-in_err-run_keys_from-clause-gives : goal.set_keys-returns-in_err-run_keys_from-clause-gives
set_keys-returns-in_err-run_keys_from-clause-gives g t c =
    let p = err_from_is_err_and c.from_residual-in_err-run_keys_from.result c.from_residual-in_err-run_keys_from.ensures.1 in
    let a = c.args in
    let behind = c.argument.new.self in
    rw (p.1, p.2) (fails_as c.in_err-run_keys_from.field-0.0 _ _ (keys_taken (given_at a.self.now) a.at (standing_of a.self.now a.dir.now a.input.now)
    c.in_ok-list.list.items behind c.in_ok-list.ensures.end a.origin c.in_ok-list.ensures.gives)
    (rw c.deref.ensures.value at (c.in_err-run_keys_from.ensures.gives behind)))

pub set_keys-returns-clause-gives : goal.set_keys-returns-clause-gives
set_keys-returns-clause-gives g t c =
    let a = c.args in
    let behind = c.argument.new.self in
    keys_taken (given_at a.self.now) a.at (standing_of a.self.now a.dir.now a.input.now) c.in_ok-list.list.items behind c.in_ok-list.ensures.end
    a.origin c.in_ok-list.ensures.gives
    ∙ rw c.deref.ensures.value at (c.in_ok-run_keys_from.ensures.gives behind)
    ∙ ap (λ (list : Unread). Ok (standing_of c.run_keys_from.new.self c.run_keys_from.new.dir list)) (sym c.keep.ensures)

pub group-returns-clause-gives : goal.group-returns-clause-gives
group-returns-clause-gives g t c =
    let a = c.args in
    let behind = c.group.new.self in
    rw (group_taken (given_at a.self.now) a.at (standing_of a.self.now a.dir.now a.input.now) c.in-Some.contents.items behind c.in_ok-contents.ensures.end
    (rw c.in-Some.is at c.in_ok-contents.ensures.gives)) (c.run_inside.ensures.gives behind)

pub run_part-returns-in-Some-clause-high : goal.run_part-returns-in-Some-clause-high
run_part-returns-in-Some-clause-high g t c =
    let paid = text_paid c.args.self.now c.part.new.self (key_part c.args.part.now) c.args.dir.now c.part.new.dir c.in_ok-deed.deed c.in-Some.text
    c.in_ok-deed.ensures.gives c.in-Some.is in
    let covered = text_covered c.args.steps.now c.args.self.now c.part.new.self c.in-Some.text c.in_ok-deed.ensures.kept c.in_ok-deed.ensures.made paid in
    omega (arith, covered, c.run_text.ensures.high, ap (λ (ts : List Tok). length ts) c.in-Some.text-is)

pub run_part-returns-in-Some-clause-most : goal.run_part-returns-in-Some-clause-most
run_part-returns-in-Some-clause-most g t c =
    let paid = text_paid c.args.self.now c.part.new.self (key_part c.args.part.now) c.args.dir.now c.part.new.dir c.in_ok-deed.deed c.in-Some.text
    c.in_ok-deed.ensures.gives c.in-Some.is in
    let covered = text_covered c.args.steps.now c.args.self.now c.part.new.self c.in-Some.text c.in_ok-deed.ensures.kept c.in_ok-deed.ensures.made paid in
    on_ok_weaker c.run_text.result (λ h. omega (arith, covered, h, ap (λ (ts : List Tok). length ts) c.in-Some.text-is)) c.run_text.ensures.most

pub run_parts-returns-in_err-run_part-clause-high : goal.run_parts-returns-in_err-run_part-clause-high
run_parts-returns-in_err-run_part-clause-high g t c =
    omega (arith, c.loop-part.invariant.most, c.in_err-run_part.ensures.high, ap (λ (ps : List KeyPart). length ps) c.in-Some.ensures.steps)

pub run_text-returns-in_err-set_or_group-clause-high : goal.run_text-returns-in_err-set_or_group-clause-high
run_text-returns-in_err-set_or_group-clause-high g t c =
    let m = c.in_ok-first.ensures in
    omega (
      arith,
      c.loop-input.invariant.most,
      rw c.in-Some.is at m.work,
      c.in_err-set_or_group.ensures.high,
      ap (λ (s : State). s.levels.top.settings) m.pays,
    )

pub run_text-returns-clause-most : goal.run_text-returns-clause-most
run_text-returns-clause-most g t c =
    let m = c.in_ok-first.ensures in
    omega (arith, c.loop-input.invariant.most, rw c.in_default.is at m.work, ap (λ (s : State). s.levels.top.settings) m.pays)

pub set_keys-returns-in_err-run_keys_from-clause-high : goal.set_keys-returns-in_err-run_keys_from-clause-high
set_keys-returns-in_err-run_keys_from-clause-high g t c =
    omega (
      arith,
      c.in_err-run_keys_from.ensures.high,
      parts_within c.in_ok-list.list.items,
      c.in_ok-list.ensures.shorter,
      ap (λ (ts : List Tok). length (parts_of ts)) c.deref.ensures.value,
    )

pub set_keys-returns-clause-high : goal.set_keys-returns-clause-high
set_keys-returns-clause-high g t c =
    omega (
      arith,
      c.in_ok-run_keys_from.ensures.high,
      parts_within c.in_ok-list.list.items,
      c.in_ok-list.ensures.shorter,
      ap (λ (ts : List Tok). length (parts_of ts)) c.deref.ensures.value,
    )

pub set_keys-returns-clause-most : goal.set_keys-returns-clause-most
set_keys-returns-clause-most g t c =
    omega (
      arith,
      c.in_ok-run_keys_from.ensures.most,
      parts_within c.in_ok-list.list.items,
      c.in_ok-list.ensures.shorter,
      ap (λ (ts : List Tok). length (parts_of ts)) c.deref.ensures.value,
      ap (λ (list : Unread). length list.rest) c.keep.ensures,
    )

pub group-returns-clause-high : goal.group-returns-clause-high
group-returns-clause-high g t c = omega (arith, c.run_inside.ensures.high, rw c.in-Some.is at c.in_ok-contents.ensures.shorter)

pub group-returns-clause-most : goal.group-returns-clause-most
group-returns-clause-most g t c =
    let shorter = rw c.in-Some.is at c.in_ok-contents.ensures.shorter in
    on_ok_weaker c.run_inside.result (λ h. omega (arith, h, shorter)) c.run_inside.ensures.most

pub run_inside-returns-in_err-run_text-clause-high : goal.run_inside-returns-in_err-run_text-clause-high
run_inside-returns-in_err-run_text-clause-high g t c =
    inside_most c.args.steps.now c.run_text.new.steps 0 c.args.self.now c.open.new.self c.open.new.self c.open.new.self (length c.args.contents.items)
    c.in_ok-open.ensures.opened (rw c.in_ok-from_vec.ensures at c.in_err-run_text.ensures.high)

pub run_inside-returns-clause-high : goal.run_inside-returns-clause-high
run_inside-returns-clause-high g t c =
    closed_high c.args.steps.now c.run_text.new.steps c.close.new.steps c.args.self.now c.open.new.self c.run_text.new.self c.close.new.self
    (length c.args.contents.items) c.in_ok-open.ensures.opened c.in_ok-run_text.ensures.kept (rw c.in_ok-from_vec.ensures at c.in_ok-run_text.ensures.most)
    c.close.ensures.high

pub run_inside-returns-clause-most : goal.run_inside-returns-clause-most
run_inside-returns-clause-most g t c =
    closed_most c.args.steps.now c.run_text.new.steps c.close.new.steps c.args.self.now c.open.new.self c.run_text.new.self c.close.new.self
    (length c.args.contents.items) c.in_ok-open.ensures.opened c.in_ok-run_text.ensures.kept (rw c.in_ok-from_vec.ensures at c.in_ok-run_text.ensures.most)
    c.close.ensures.high c.close.ensures.levels c.close.ensures.kept
