use Rattle.std.proofs.Common.{◌≡◌, ◌++◌, ◌∷◌, [], true, false, List, length, refl, sym, ap, ◌∙◌, arith, append_assoc}
use Rattle.std.proofs.lemmas.List.{nil_from_length}
use Rattle.tk_token.specs.declared.Tok.{Tok}
use Rattle.tk_token.specs.Groups.{first_outside}
use Rattle.tk_token.specs.Sought.{begins_sought}
use Rattle.tk_token.proofs.Outside.{prefixed_nothing, ends, tested, finds, closes, goes, front_of, rest_of}
use Rattle.tk_token.proofs.groups.search.Goals as goal

pub loop-first-init : goal.loop-first-init
loop-first-init c = record {
  told = ([], refl, prefixed_nothing (first_outside (begins_sought c.args.sought) c.args.list.now));
  within = omega arith;
}

pub returns-then-is_found : goal.returns-then-is_found
returns-then-is_found c =
    let (front, is, told) = c.loop-first.invariant.told in
    let list = c.args.list.now in
    let rest = c.loop-first.rest.now in
    let cons = c.in-Some.ensures.cases.0 in
    let sought = begins_sought c.args.sought in
    let here = tested sought c.loop-first.depth front rest _ told c.in-Some.first.now c.in-Some.tail.now cons true (sym c.if-is_found.ensures) in
    let one : c.split_at.result.0.now ≡ front = c.split_at.ensures.front ∙ front_of list front rest is in
    let other : c.split_at.result.1.now ≡ rest = c.split_at.ensures.back ∙ rest_of list front rest is in
    let found = finds sought c.loop-first.depth front rest _ told c.in-Some.first.now c.in-Some.tail.now cons here in
    cc

pub returns-then-closes_nothing : goal.returns-then-closes_nothing
returns-then-closes_nothing c =
    let (front, is, told) = c.loop-first.invariant.told in
    let rest = c.loop-first.rest.now in
    let cons = c.in-Some.ensures.cases.0 in
    let sought = begins_sought c.args.sought in
    let here = tested sought c.loop-first.depth front rest _ told c.in-Some.first.now c.in-Some.tail.now cons false (sym c.if-is_found.ensures) in
    sym (closes sought c.loop-first.depth front rest _ told c.in-Some.first.now c.in-Some.tail.now cons here (sym c.if-closes_nothing.ensures))

pub loop-first-preserved : goal.loop-first-preserved
loop-first-preserved c =
    let (front, is, told) = c.loop-first.invariant.told in
    let rest = c.loop-first.rest.now in
    let first = c.in-Some.first.now in
    let tail = c.in-Some.tail.now in
    let cons = c.in-Some.ensures.cases.0 in
    let sought = begins_sought c.args.sought in
    let here = tested sought c.loop-first.depth front rest _ told first tail cons false (sym c.if-is_found.ensures) in
    record {
      told = (
        front ++ first ∷ [],
        is ∙ ap (λ (ts : List Tok). front ++ ts) cons ∙ sym (append_assoc front (first ∷ []) tail),
        goes sought
            c.loop-first.depth front rest _ told first tail cons here (sym c.if-closes_nothing.ensures) (front ++ first ∷ []) c.depth_after-depth.result
            refl c.depth_after-depth.ensures.depth,
      );
      within = let one = ap length cons in omega (arith, c.loop-first.invariant.within, c.depth_after-depth.ensures.within);
    }

pub returns : goal.returns
returns c =
    let (front, is, told) = c.loop-first.invariant.told in
    sym (ends (begins_sought c.args.sought) c.loop-first.depth front c.loop-first.rest.now _ told (nil_from_length c.loop-first.rest.now
    c.in_default.ensures.cases))
