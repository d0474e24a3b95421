-- The search for one token outside braces.
use Rattle.std.proofs.Common.{◌≡◌, ℕ, suc, ◌+◌, ◌-◌, ◌<◌, ◌≤◌, Bool, true, false, List, [], ◌∷◌, ◌++◌, length, take, drop, get_or, Option, Some, None}
use Rattle.std.proofs.Common.{refl, sym, ap, subst, ◌∙◌, arith, length-append, length-drop}
use Rattle.std.proofs.Math.Seq.{drop-append_seam}
use Rattle.std.proofs.lemmas.List.{drop-drop}
use Rattle.std.specs.Prelude.{◌&&◌, ◌==◌, if◌then◌else◌, IfSome}
use Rattle.tk_token.specs.declared.Kind.{Kind}
use Rattle.tk_token.specs.declared.Sought.{Sought}
use Rattle.tk_token.specs.declared.Tok.{Tok}
use Rattle.tk_token.specs.Groups.{Cut, cut, with_first, depth_after, first_outside_in, first_outside, past_first}
use Rattle.tk_token.specs.Kinds.{is_close, begins}
use Rattle.tk_token.specs.Sought.{begins_sought}
use Rattle.tk_token.proofs.Outside.{Parts, parts, before_char_shorter, group_shorter, prefixed, ends, finds, closes, goes}
use Rattle.tk_expand.specs.declared.rest.Stop.{Stop}
use Rattle.tk_expand.specs.declared.rest.Stop.TheVariants.{Char, Close}
use Rattle.tk_expand.specs.Stack.{stacked}
use Rattle.tk_expand.proofs.Stacks.{last_first}
use Rattle.tk_expand.specs.Stops.{is_stop, sought_of, before_stop}

-- a stop is sought as such a token
pub stop_sought : (stop : Stop) (ts : List Tok) → first_outside (begins_sought (sought_of stop)) ts ≡ first_outside (begins (is_stop stop)) ts
stop_sought (Char c) ts = refl
stop_sought Close ts = refl

module _ (wanted : Kind → Bool) where
  -- ---- more tokens behind those in which it is found

  -- what is found there is found in front of more tokens
  abbrev FoundBefore : List Tok → Option Cut → Cut → Type 0
  FoundBefore us found c = found ≡ Some (cut c.front (c.rest ++ us))

  by_tests : (t : Tok) (ts us : List Tok) (a b : Bool) (o p : Option Cut) → IfSome o (FoundBefore us p)
      → IfSome (if a then Some (cut [] (t ∷ ts)) else (if b then None else with_first t o)) (FoundBefore us (if a then Some (cut [] (t ∷ (ts ++ us)))
      else (if b then None else with_first t p)))
  by_tests t ts us true b o p h = refl
  by_tests t ts us false true o p h = tt
  by_tests t ts us false false None p h = tt
  by_tests t ts us false false (Some c) p h = ap (with_first t) h

  found_before : (depth : ℕ) (ts us : List Tok)
      → IfSome (first_outside_in (begins wanted) depth ts) (FoundBefore us (first_outside_in (begins wanted) depth (ts ++ us)))
  unfolding first_outside_in
  found_before depth [] us = tt
  found_before depth (t ∷ ts) us =
      by_tests t ts us (depth == 0 && wanted t.kind) (depth == 0 && is_close t.kind) (first_outside_in (begins wanted) (depth_after depth t.kind) ts)
      (first_outside_in (begins wanted) (depth_after depth t.kind) (ts ++ us)) (found_before (depth_after depth t.kind) ts us)

  past_before : (ts us : List Tok) (o p : Option Cut) → IfSome o (Parts (begins wanted) ts) → IfSome o (FoundBefore us p)
      → IfSome (past_first o) (FoundBefore us (past_first p))
  past_before ts us None p h k = tt
  past_before ts us (Some c) p h k = ap past_first k ∙ at_rest c.rest h.1
    where
      at_rest : (rest : List Tok) → begins wanted rest ≡ true
          → ◌≡◌ {A = Option Cut} (Some (cut c.front (drop 1 (rest ++ us)))) (Some (cut c.front (drop 1 rest ++ us)))
      at_rest [] e = absurd cc
      at_rest (t ∷ rest) e = refl

  known_before : (us : List Tok) (o p : Option Cut) (front rest : List Tok) → IfSome o (FoundBefore us p) → o ≡ Some (cut front rest)
      → p ≡ Some (cut front (rest ++ us))
  known_before us None p front rest h e = absurd cc
  known_before us (Some c) p front rest h e = h ∙ cc

  -- what stands before the token there stands before it in front of more tokens
  pub before_more : (ts us front rest : List Tok) → past_first (first_outside (begins wanted) ts) ≡ Some (cut front rest)
      → past_first (first_outside (begins wanted) (ts ++ us)) ≡ Some (cut front (rest ++ us))
  before_more ts us front rest e =
      known_before us (past_first (first_outside (begins wanted) ts)) (past_first (first_outside (begins wanted) (ts ++ us))) front rest
      (past_before ts us (first_outside (begins wanted) ts) (first_outside (begins wanted) (ts ++ us)) (parts (begins wanted) ts)
      (found_before 0 ts us)) e

-- ---- token by token

-- A search so far: what is found is what is found in the tokens that are left, with a front before it.
module _ (stop : Stop) (depth : ℕ) (front rest all : List Tok) (told : first_outside (begins (is_stop stop)) all
    ≡ prefixed front (first_outside_in (begins (is_stop stop)) depth rest)) where
  pub stop_ends : rest ≡ [] → before_stop stop all ≡ None
  stop_ends none = ap past_first (ends (begins (is_stop stop)) depth front rest (first_outside (begins (is_stop stop)) all) told none)

  module _ (t : Tok) (ts : List Tok) (is : rest ≡ t ∷ ts) where
    pub stop_found : (depth == 0 && is_stop stop t.kind) ≡ true → before_stop stop all ≡ Some (cut front ts)
    stop_found h = ap past_first (finds (begins (is_stop stop)) depth front rest (first_outside (begins (is_stop stop)) all) told t ts is h)

    pub stop_closed : (depth == 0 && is_stop stop t.kind) ≡ false → (depth == 0 && is_close t.kind) ≡ true → before_stop stop all ≡ None
    stop_closed h k = ap past_first (closes (begins (is_stop stop)) depth front rest (first_outside (begins (is_stop stop)) all) told t ts is h k)

    pub stop_goes : (depth == 0 && is_stop stop t.kind) ≡ false → (depth == 0 && is_close t.kind) ≡ false → (new : List Tok) (deeper : ℕ)
        → new ≡ front ++ t ∷ [] → deeper ≡ depth_after depth t.kind
        → first_outside (begins (is_stop stop)) all ≡ prefixed new (first_outside_in (begins (is_stop stop)) deeper ts)
    stop_goes h k new deeper pushed deep =
        goes (begins (is_stop stop)) depth front rest (first_outside (begins (is_stop stop)) all) told t ts is h k new deeper pushed deep

-- ---- over slices

-- before a stop stand fewer tokens than there are
pub stop_shorter : (stop : Stop) (ts : List Tok) → IfSome (before_stop stop ts) (λ c. length c.front + length c.rest < length ts)
stop_shorter (Char c) ts = before_char_shorter c ts
stop_shorter Close ts = group_shorter ts

known_if : (P : Cut → Type 0) (o : Option Cut) (c : Cut) → IfSome o P → o ≡ Some c → P c
known_if P o c h e = subst (λ (o : Option Cut). IfSome o P) e h

pub known_shorter : (stop : Stop) (ts front rest : List Tok) → before_stop stop ts ≡ Some (cut front rest) → length front + length rest < length ts
known_shorter stop ts front rest e =
    known_if (λ c. length c.front + length c.rest < length ts) (before_stop stop ts) (cut front rest) (stop_shorter stop ts) e

-- what the search finds in a list from a place on, and where the list goes on
pub taken_there : (stop : Stop) (list : List Tok) (from : ℕ) (sought : Sought) (left front rest : List Tok) → from ≤ length list
    → left ≡ drop from list → sought ≡ sought_of stop → Some (cut front rest) ≡ first_outside (begins_sought sought) left
    → (length rest ≤ length list) × ((length list - length rest) + 1 ≤ length list)
    × (before_stop stop left ≡ Some (cut front (drop ((length list - length rest) + 1) list)))
taken_there stop list from sought left front rest le view is found = at_rest rest refl p.1 p.0
  where
    known : first_outside (begins (is_stop stop)) left ≡ Some (cut front rest)
    known = sym (stop_sought stop left) ∙ ap (λ (s : Sought). first_outside (begins_sought s) left) (sym is) ∙ sym found

    p : Parts (begins (is_stop stop)) left (cut front rest)
    p = known_if (Parts (begins (is_stop stop)) left) (first_outside (begins (is_stop stop)) left) (cut front rest)
        (parts (begins (is_stop stop)) left) known

    at_rest : (ts : List Tok) → ts ≡ rest → begins (is_stop stop) ts ≡ true → front ++ ts ≡ left
        → (length rest ≤ length list) × ((length list - length rest) + 1 ≤ length list)
        × (before_stop stop left ≡ Some (cut front (drop ((length list - length rest) + 1) list)))
    at_rest [] same b e = absurd cc
    at_rest (t ∷ us) same b e = (
      omega (arith, ap length same, ap length e, ap length view, length-append front (t ∷ us), length-drop from list),
      omega (arith, ap length same, ap length e, ap length view, length-append front (t ∷ us), length-drop from list),
      ap past_first known ∙ ap (λ (ts : List Tok). (let o : Option Cut = Some (cut front ts) in o)) (
          ap (drop 1) (sym (drop-append_seam front rest)) ∙ ap (λ (ts : List Tok). drop 1 (drop (length front) ts)) (p.0 ∙ view)
          ∙ ap (drop 1) (drop-drop (length front) from list) ∙ drop-drop 1 (from + length front) list
          ∙ ap (λ (n : ℕ).
          drop n list) (let n : (from + length front) + 1 ≡ (length list - length rest) + 1 = omega (arith, ap length same, ap length e, ap length view, length-append front (t ∷ us), length-drop from list) in n)),
    )

pub found_shorter : (stop : Stop) (ts us front rest : List Tok) (found : Bool) → before_stop stop ts ≡ (if found then Some (cut front rest) else None)
    → found ≡ true → ts ≡ us → length front + length rest < length us
found_shorter stop ts us front rest found e h same =
    known_shorter stop us front rest (ap (before_stop stop) (sym same) ∙ e
    ∙ ap (λ (b : Bool). (let o : Option Cut = if b then Some (cut front rest) else None in o)) h)

-- ---- in the list that is read first

-- a stop in the last list is found, and the lists behind it stay
pub before_last : (stop : Stop) (lists lists' : List (List Tok)) (i : ℕ) (old new front : List Tok) → suc i ≡ length lists → old ≡ get_or lists i old
    → Some (cut front new) ≡ before_stop stop old → stacked lists' ≡ new ++ stacked (take i lists)
    → before_stop stop (stacked lists) ≡ Some (cut front (stacked lists'))
before_last stop lists lists' i old new front is there known rest =
    ap (before_stop stop) (last_first lists i old old is there)
    ∙ before_more (is_stop stop) old (stacked (take i lists)) front new (sym known)
    ∙ ap (λ (ts : List Tok). (let o : Option Cut = Some (cut front ts) in o)) (sym rest)
