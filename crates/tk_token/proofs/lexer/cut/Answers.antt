use Rattle.std.proofs.Common.{◌≡◌, ◌++◌, List, length, map, refl, sym, subst, arith}
use Rattle.std.specs.List.{AllByRecursion}
use Rattle.std.specs.Str.{chars}
use Rattle.tk_token.specs.declared.Tok.{Tok}
use Rattle.tk_token.specs.Cutting.{Tokens}
use Rattle.tk_token.specs.Faults.{after_mark}
use Rattle.tk_token.specs.Pieces.{CutsOne}
use Rattle.tk_token.specs.Token.{sign_of, token_of, IsWordIn}
use Rattle.tk_token.specs.Words.{words_of}
use Rattle.tk_token.proofs.Loop.{words_more, listed_more, goes_on_more, goes_on_past, ends_here}
use Rattle.tk_token.proofs.lexer.cut.Goals as goal

pub loop-first-preserved-then-first-eq37 : goal.loop-first-preserved-then-first-eq37
loop-first-preserved-then-first-eq37 c =
    let so = c.loop-first.invariant in
    record {
      text = c.after_comment-rest.utf8;
      few = omega (arith, so.few, c.in-Some.ensures.within, c.after_comment-rest.ensures.within);
      once = so.once;
      listed = so.listed;
      words = so.words;
      goes_on = goes_on_past (length c.args.text.now) (after_mark (chars c.args.text.now)) (chars c.loop-first.rest.now) c.in-Some.first
          (chars c.in-Some.tail.now) (chars c.after_comment-rest.result.now) (map (token_of c.loop-first.names) c.loop-first.toks.items) so.goes_on
          c.in-Some.ensures.value c.if-first-eq37.true c.after_comment-rest.ensures.value;
    }

pub loop-first-preserved : goal.loop-first-preserved
loop-first-preserved c =
    let so = c.loop-first.invariant in
    let n = length c.args.text.now in
    let rest = c.loop-first.rest.now in
    let new = c.next_kind.new.names in
    let piece : CutsOne (chars rest) (sign_of new c.in_ok-kind.kind) (chars c.in_ok-kind.behind.now) = subst (λ (cs : List _).
    CutsOne cs (sign_of new c.in_ok-kind.kind) (chars c.in_ok-kind.behind.now)) (sym c.in-Some.ensures.value) c.in_ok-kind.ensures.cuts in
    record {
      text = c.in_ok-kind.ensures.text;
      few = omega (arith, so.few, c.in-Some.ensures.within, c.in_ok-kind.ensures.within, c.in_ok-kind.ensures.few);
      once = c.in_ok-kind.ensures.once so.once;
      listed = subst (λ (toks : List Tok). new ≡ words_of (map (token_of new) toks)) (sym c.in_ok-push.ensures.items) (listed_more c.loop-first.names
          new c.loop-first.toks.items _ so.listed c.in_ok-kind.ensures.names so.words c.in_ok-kind.ensures.listed);
      words = subst (λ (toks : List Tok). AllByRecursion (λ t. IsWordIn new t.kind) toks) (sym c.in_ok-push.ensures.items)
          (words_more c.loop-first.names new c.loop-first.toks.items _ c.in_ok-kind.ensures.names so.words c.in_ok-kind.ensures.word);
      goes_on = λ ts t.
          subst (λ (toks : List Tok). Tokens n (after_mark (chars c.args.text.now)) (map (token_of new) toks ++ ts)) (sym c.in_ok-push.ensures.items)
          (goes_on_more n (after_mark (chars c.args.text.now)) rest (chars c.in_ok-kind.behind.now) c.loop-first.names new c.loop-first.toks.items
          c.in_ok-kind.kind _ so.goes_on so.words c.in_ok-kind.ensures.names piece so.text refl ts t);
    }

pub returns-clause-tokens : goal.returns-clause-tokens
returns-clause-tokens c = ends_here (length c.args.text.now) (after_mark (chars c.args.text.now)) (chars c.loop-first.rest.now)
    (map (token_of c.loop-first.names) c.loop-first.toks.items) c.in_default.ensures.value c.loop-first.invariant.goes_on
