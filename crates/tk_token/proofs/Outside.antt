-- The search outside braces, token by token.
use Rattle.std.proofs.Common.{◌≡◌, ℕ, ◌+◌, ◌-◌, ◌<◌, Bool, true, false, List, [], ◌∷◌, ◌++◌, length, take, drop, Option, Some, None, refl, sym, ap}
use Rattle.std.proofs.Common.{subst, ◌∙◌, arith, append_assoc, length-append}
use Rattle.std.proofs.lemmas.List.{append-nil}
use Rattle.std.proofs.Math.Seq.{take-append_seam, drop-append_seam}
use Rattle.std.specs.List.{AllByRecursion}
use Rattle.std.specs.Prelude.{◌&&◌, ◌==◌, if◌then◌else◌, option_map, IfSome}
use Rattle.tk_token.specs.declared.Kind.{Kind}
use Rattle.tk_token.specs.declared.Tok.{Tok}
use Rattle.tk_token.specs.Kinds.{is_char, is_close, begins}
use Rattle.tk_token.specs.Groups.{Cut, cut, with_first, depth_after, first_outside_in, first_outside, past_first, before_char, group_of}

-- ---- one step

-- nothing is found in no tokens
pub none_in : (sought : List Tok → Bool) (depth : ℕ) → first_outside_in sought depth [] ≡ None
unfolding first_outside_in
none_in sought depth = refl

module _ (sought : List Tok → Bool) (depth : ℕ) (t : Tok) (ts : List Tok) where
  -- the search at a token
  pub search_step : first_outside_in sought depth (t ∷ ts) ≡ (if depth == 0 && sought (t ∷ ts) then Some (cut [] (t ∷ ts))
      else (if depth == 0 && is_close t.kind then None else with_first t (first_outside_in sought (depth_after depth t.kind) ts)))
  unfolding first_outside_in
  search_step = refl

  -- what is sought is in front
  pub found_here : (depth == 0 && sought (t ∷ ts)) ≡ true → first_outside_in sought depth (t ∷ ts) ≡ Some (cut [] (t ∷ ts))
  found_here h = search_step ∙ ap (λ (b : Bool). if b then Some (cut [] (t ∷ ts)) else (if depth == 0 && is_close t.kind then None else with_first t
      (first_outside_in sought (depth_after depth t.kind) ts))) h

  passed : (depth == 0 && sought (t ∷ ts)) ≡ false
      → first_outside_in sought depth (t ∷ ts)
      ≡ (if depth == 0 && is_close t.kind then None else with_first t (first_outside_in sought (depth_after depth t.kind) ts))
  passed h = search_step ∙ ap (λ (b : Bool). if b then Some (cut [] (t ∷ ts)) else (if depth == 0 && is_close t.kind then None else with_first t
      (first_outside_in sought (depth_after depth t.kind) ts))) h

  -- a `}` that closes nothing ends it
  pub closed_here : (depth == 0 && sought (t ∷ ts)) ≡ false → (depth == 0 && is_close t.kind) ≡ true → first_outside_in sought depth (t ∷ ts) ≡ None
  closed_here h k = passed h ∙ ap (λ (b : Bool). if b then None else with_first t (first_outside_in sought (depth_after depth t.kind) ts)) k

  -- it goes on behind any other token
  pub goes_past : (depth == 0 && sought (t ∷ ts)) ≡ false → (depth == 0 && is_close t.kind) ≡ false
      → first_outside_in sought depth (t ∷ ts) ≡ with_first t (first_outside_in sought (depth_after depth t.kind) ts)
  goes_past h k = passed h ∙ ap (λ (b : Bool). if b then None else with_first t (first_outside_in sought (depth_after depth t.kind) ts)) k

-- ---- a search so far

-- tokens stand before the front
abbrev pub prefixed : List Tok → Option Cut → Option Cut
prefixed ts c = option_map (λ (c : Cut). cut (ts ++ c.front) c.rest) c

-- no tokens stand before it
pub prefixed_nothing : (c : Option Cut) → c ≡ prefixed [] c
prefixed_nothing None = refl
prefixed_nothing (Some c) = refl

-- one more token stands before it
pub prefixed_more : (ts : List Tok) (t : Tok) (c : Option Cut) → prefixed ts (with_first t c) ≡ prefixed (ts ++ t ∷ []) c
prefixed_more ts t None = refl
prefixed_more ts t (Some c) = ap (λ (front : List Tok). (let o : Option Cut = Some (cut front c.rest) in o)) (sym (append_assoc ts (t ∷ []) c.front))

-- The answer is that of the tokens that are left, with a front before it.
module _ (sought : List Tok → Bool) (depth : ℕ) (front rest : List Tok) (answer : Option Cut) (told : answer
    ≡ prefixed front (first_outside_in sought depth rest)) where
  -- no token is left
  pub ends : rest ≡ [] → answer ≡ None
  ends none = told ∙ ap (λ (ts : List Tok). prefixed front (first_outside_in sought depth ts)) none ∙ ap (prefixed front) (none_in sought depth)

  module _ (t : Tok) (ts : List Tok) (is : rest ≡ t ∷ ts) where
    here : answer ≡ prefixed front (first_outside_in sought depth (t ∷ ts))
    here = told ∙ ap (λ (ts : List Tok). prefixed front (first_outside_in sought depth ts)) is

    -- a test of the tokens that are left is one of these
    pub tested : (b : Bool) → (depth == 0 && sought rest) ≡ b → (depth == 0 && sought (t ∷ ts)) ≡ b
    tested b h = sym (ap (λ (us : List Tok). depth == 0 && sought us) is) ∙ h

    -- what is sought is in front
    pub finds : (depth == 0 && sought (t ∷ ts)) ≡ true → answer ≡ Some (cut front (t ∷ ts))
    finds h = here ∙ ap (prefixed front) (found_here sought depth t ts h) ∙ ap (λ (f : List Tok). (let o : Option Cut = Some (cut f (t ∷ ts)) in o))
        (append-nil front)

    -- the next token is a `}` that closes nothing
    pub closes : (depth == 0 && sought (t ∷ ts)) ≡ false → (depth == 0 && is_close t.kind) ≡ true → answer ≡ None
    closes h k = here ∙ ap (prefixed front) (closed_here sought depth t ts h k)

    -- the next token is any other one
    pub goes : (depth == 0 && sought (t ∷ ts)) ≡ false → (depth == 0 && is_close t.kind) ≡ false → (new : List Tok) (deeper : ℕ)
        → new ≡ front ++ t ∷ [] → deeper ≡ depth_after depth t.kind → answer ≡ prefixed new (first_outside_in sought deeper ts)
    goes h k new deeper pushed deep =
        here ∙ ap (prefixed front) (goes_past sought depth t ts h k)
        ∙ prefixed_more front t (first_outside_in sought (depth_after depth t.kind) ts)
        ∙ ap (λ (fs : List Tok). prefixed fs (first_outside_in sought (depth_after depth t.kind) ts)) (sym pushed)
        ∙ ap (λ (n : ℕ). prefixed new (first_outside_in sought n ts)) (sym deep)

-- ---- what is found

-- the front and the rest are the whole, and what is sought is in front of the rest
abbrev pub Parts : (List Tok → Bool) → List Tok → Cut → Type 0
Parts sought ts c = (c.front ++ c.rest ≡ ts) × (sought c.rest ≡ true)

and_right : (a b : Bool) → (a && b) ≡ true → b ≡ true
and_right true b h = h
and_right false b h = absurd cc

module _ (sought : List Tok → Bool) where
  with_first_parts : (t : Tok) (ts : List Tok) (o : Option Cut) → IfSome o (Parts sought ts) → IfSome (with_first t o) (Parts sought (t ∷ ts))
  with_first_parts t ts None h = tt
  with_first_parts t ts (Some c) h = (ap (λ (us : List Tok). t ∷ us) h.0, h.1)

  parts_in : (depth : ℕ) (ts : List Tok) → IfSome (first_outside_in sought depth ts) (Parts sought ts)
  unfolding first_outside_in
  parts_in depth [] = tt
  parts_in depth (t ∷ ts) = by_tests (depth == 0 && sought (t ∷ ts)) (depth == 0 && is_close t.kind) refl
      (with_first_parts t ts (first_outside_in sought (depth_after depth t.kind) ts) (parts_in (depth_after depth t.kind) ts))
    where
      by_tests : (a b : Bool) → (depth == 0 && sought (t ∷ ts)) ≡ a
          → IfSome (with_first t (first_outside_in sought (depth_after depth t.kind) ts)) (Parts sought (t ∷ ts))
          → IfSome (if a then Some (cut [] (t ∷ ts)) else (if b then None else with_first t (first_outside_in sought (depth_after depth t.kind) ts)))
          (Parts sought (t ∷ ts))
      by_tests true b e h = (refl, and_right (depth == 0) (sought (t ∷ ts)) e)
      by_tests false true e h = tt
      by_tests false false e h = h

  pub parts : (ts : List Tok) → IfSome (first_outside sought ts) (Parts sought ts)
  parts ts = parts_in 0 ts

-- such a token stands between the front and the rest
abbrev pub PartsAt : (Kind → Bool) → List Tok → Cut → Type 0
PartsAt wanted ts c = (t : Tok) × (wanted t.kind ≡ true) × (c.front ++ t ∷ c.rest ≡ ts)

past_parts : (wanted : Kind → Bool) (ts : List Tok) (o : Option Cut) → IfSome o (Parts (begins wanted) ts) → IfSome (past_first o) (PartsAt wanted ts)
past_parts wanted ts None h = tt
past_parts wanted ts (Some c) h = at_rest c.rest h.1 h.0
  where
    at_rest : (rest : List Tok) → begins wanted rest ≡ true → c.front ++ rest ≡ ts → PartsAt wanted ts (cut c.front (drop 1 rest))
    at_rest [] e f = absurd cc
    at_rest (t ∷ us) e f = (t, e, f)

pub before_char_parts : (c : ℕ) (ts : List Tok) → IfSome (before_char c ts) (PartsAt (is_char c) ts)
before_char_parts c ts = past_parts (is_char c) ts (first_outside (begins (is_char c)) ts) (parts (begins (is_char c)) ts)

pub group_parts : (ts : List Tok) → IfSome (group_of ts) (PartsAt is_close ts)
group_parts ts = past_parts is_close ts (first_outside (begins is_close) ts) (parts (begins is_close) ts)

-- front and rest together are shorter than the whole
shorter_of : (wanted : Kind → Bool) (ts : List Tok) (o : Option Cut) → IfSome o (PartsAt wanted ts)
    → IfSome o (λ c. length c.front + length c.rest < length ts)
shorter_of wanted ts None h = tt
shorter_of wanted ts (Some c) h = let e = ap length h.2 in let f = length-append c.front (h.0 ∷ c.rest) in omega arith

pub before_char_shorter : (c : ℕ) (ts : List Tok) → IfSome (before_char c ts) (λ c. length c.front + length c.rest < length ts)
before_char_shorter c ts = shorter_of (is_char c) ts (before_char c ts) (before_char_parts c ts)

pub group_shorter : (ts : List Tok) → IfSome (group_of ts) (λ c. length c.front + length c.rest < length ts)
group_shorter ts = shorter_of is_close ts (group_of ts) (group_parts ts)

-- ---- what holds of all tokens

module _ (P : Tok → Type 0) where
  pub all_split : (front rest : List Tok) → AllByRecursion P (front ++ rest) → AllByRecursion P front × AllByRecursion P rest
  all_split [] rest h = (tt, h)
  all_split (t ∷ ts) rest h = let k = all_split ts rest h.1 in ((h.0, k.0), k.1)

  parts_keep : (wanted : Kind → Bool) (ts : List Tok) (o : Option Cut) → AllByRecursion P ts → IfSome o (PartsAt wanted ts)
      → IfSome o (λ c. AllByRecursion P c.front × AllByRecursion P c.rest)
  parts_keep wanted ts None all h = tt
  parts_keep wanted ts (Some c) all h = let k = all_split c.front (h.0 ∷ c.rest) (subst (AllByRecursion P) (sym h.2) all) in (k.0, k.1.1)

  outside_keep : (sought : List Tok → Bool) (ts : List Tok) (o : Option Cut) → AllByRecursion P ts → IfSome o (Parts sought ts)
      → IfSome o (λ c. AllByRecursion P c.front × AllByRecursion P c.rest)
  outside_keep sought ts None all h = tt
  outside_keep sought ts (Some c) all h = all_split c.front c.rest (subst (AllByRecursion P) (sym h.0) all)

  -- it holds of the front and the rest
  pub first_outside_keeps : (sought : List Tok → Bool) (ts : List Tok) → AllByRecursion P ts
      → IfSome (first_outside sought ts) (λ c. AllByRecursion P c.front × AllByRecursion P c.rest)
  first_outside_keeps sought ts all = outside_keep sought ts (first_outside sought ts) all (parts sought ts)

  pub before_char_keeps : (c : ℕ) (ts : List Tok) → AllByRecursion P ts
      → IfSome (before_char c ts) (λ c. AllByRecursion P c.front × AllByRecursion P c.rest)
  before_char_keeps c ts all = parts_keep (is_char c) ts (before_char c ts) all (before_char_parts c ts)

  pub group_keeps : (ts : List Tok) → AllByRecursion P ts → IfSome (group_of ts) (λ c. AllByRecursion P c.front × AllByRecursion P c.rest)
  group_keeps ts all = parts_keep is_close ts (group_of ts) all (group_parts ts)

-- ---- over slices

-- the front of a list before its rest
pub front_of : (list front rest : List Tok) → list ≡ front ++ rest → take (length list - length rest) list ≡ front
front_of list front rest is =
    let n : length list - length rest ≡ length front = let e = ap length is in let f = length-append front rest in omega arith in
    ap (λ (k : ℕ). take k list) n ∙ ap (take (length front)) is ∙ take-append_seam front rest

pub rest_of : (list front rest : List Tok) → list ≡ front ++ rest → drop (length list - length rest) list ≡ rest
rest_of list front rest is =
    let n : length list - length rest ≡ length front = let e = ap length is in let f = length-append front rest in omega arith in
    ap (λ (k : ℕ). drop k list) n ∙ ap (drop (length front)) is ∙ drop-append_seam front rest
