use Rattle.std.proofs.Common.{◌≡◌, sym, subst, w64}
use Rattle.std.specs.Prelude.{IfSome, IsNone, ◌↔◌, None, [], map}
use Rattle.std.proofs.lemmas.Int.{to_z-of_z}
use Rattle.tk_item.specs.Frame.{IsLeastRound, boxes_of, box_round, points_of_path}
use Rattle.tk_item.proofs.Frames.{all_pieces, none_round_points, least_round}
use Rattle.tk_item.proofs.bounds.widen.Goals as goal

pub returns-clause-value : goal.returns-clause-value
returns-clause-value c = all_pieces c.args.half c.args.frame c.loop-seg.widened c.args.segs.now c.loop-seg.seg-index c.loop-seg-test.false
    (rw (to_z-of_z w64 c.args.half c.ranges.half) at c.loop-seg.invariant.value)

pub returns-clause-none : goal.returns-clause-none
returns-clause-none c = subst (λ r. IsNone r ↔ ((c.args.frame ≡ None) × (points_of_path c.args.segs.now ≡ []))) (sym (returns-clause-value c))
    (none_round_points c.args.half c.args.frame (points_of_path c.args.segs.now))

pub returns-clause-least : goal.returns-clause-least
returns-clause-least c = subst (λ r. IfSome r (IsLeastRound (boxes_of c.args.half c.args.frame (points_of_path c.args.segs.now))))
    (sym (returns-clause-value c)) (least_round c.args.frame (map (box_round c.args.half) (points_of_path c.args.segs.now)))
