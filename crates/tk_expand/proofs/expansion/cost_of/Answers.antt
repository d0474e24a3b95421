use Rattle.std.proofs.Common.{length, ap, arith}
use Rattle.std.proofs.lemmas.List.Folds.{length-flat_map-take}
use Rattle.tk_token.specs.declared.Kind.TheVariants.{Char}
use Rattle.tk_token.specs.declared.Tok.{Tok}
use Rattle.tk_expand.specs.Arguments.{put_in}
use Rattle.tk_expand.specs.Texts.{texts_of}
use Rattle.tk_expand.proofs.expansion.cost_of.Goals as goal

pub returns-in_err-cost : goal.returns-in_err-cost
returns-in_err-cost c =
    let unread : Tok = record { kind = Char 0; at = 0 } in
    let within = length-flat_map-take (λ (t : Tok). put_in (texts_of c.args.arguments.now) t.kind t) c.args.body.now c.loop-tok.tok-index unread
    c.loop-tok-test.true in
    rw c.from_residual.ensures (omega (arith, within, ap length c.put_in.ensures, c.loop-tok.invariant, c.in_err-cost.ensures))
