use Rattle.std.proofs.Common.{◌∷◌, [], ◌++◌, List, ◌∙◌, sym, ap, arith, append_assoc}
use Rattle.tk_token.specs.declared.Tok.{Tok}
use Rattle.tk_expand.proofs.Stopping.{stop_ends, stop_found, stop_closed, stop_goes}
use Rattle.tk_expand.proofs.input.Input.before_by_one.Goals as goal

pub returns-then-is-clause-gives : goal.returns-then-is-clause-gives
returns-then-is-clause-gives c =
    stop_found c.args.stop c.loop-tok.depth c.loop-tok.front.items c.loop-tok.self.rest c.args.self.now.rest c.loop-tok.invariant.told c.in-Some.tok
    c.raw.new.self.rest c.in-Some.ensures.rest (sym c.is.ensures ∙ c.if-is.true)

pub returns-then-is-2-clause-gives : goal.returns-then-is-2-clause-gives
returns-then-is-2-clause-gives c =
    stop_closed c.args.stop c.loop-tok.depth c.loop-tok.front.items c.loop-tok.self.rest c.args.self.now.rest c.loop-tok.invariant.told c.in-Some.tok
    c.raw.new.self.rest c.in-Some.ensures.rest (sym c.is.ensures ∙ c.if-is.false) (sym c.is-in-Some.ensures ∙ c.if-is-2.true)

pub loop-tok-preserved : goal.loop-tok-preserved
loop-tok-preserved c = record {
  told =
      stop_goes c.args.stop c.loop-tok.depth c.loop-tok.front.items c.loop-tok.self.rest c.args.self.now.rest c.loop-tok.invariant.told c.in-Some.tok
      c.raw.new.self.rest c.in-Some.ensures.rest (sym c.is.ensures ∙ c.if-is.false) (sym c.is-in-Some.ensures ∙ c.if-is-2.false)
      c.push.new.self.items c.depth_after-depth.result c.in_ok-push.ensures.items c.depth_after-depth.ensures.depth;
  kept =
      ap (λ (ts : List Tok). ts ++ c.raw.new.self.rest) c.in_ok-push.ensures.items ∙ append_assoc c.loop-tok.front.items (c.in-Some.tok ∷ [])
      c.raw.new.self.rest
      ∙ ap (λ (ts : List Tok). c.loop-tok.front.items ++ ts) (sym c.in-Some.ensures.rest) ∙ c.loop-tok.invariant.kept;
  end = c.in-Some.ensures.end ∙ c.loop-tok.invariant.end;
  deep = omega (arith, c.depth_after-depth.ensures.within, c.loop-tok.invariant.deep, c.in_ok-push.ensures.len);
}

pub returns-clause-gives : goal.returns-clause-gives
returns-clause-gives c =
    stop_ends c.args.stop c.loop-tok.depth c.loop-tok.front.items c.loop-tok.self.rest c.args.self.now.rest c.loop-tok.invariant.told
    c.in_default.ensures.none
