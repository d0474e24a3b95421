-- Dashes, counted down.
use Rattle.std.specs.Prelude.{◌≡◌, ℕ, ◌<◌, ◌≤◌, suc, ◌-◌, ◌+◌, ◌==◌, Bool, true, false, if◌then◌else◌, List, [], ◌∷◌, ◌++◌, length, Option, Some}
use Rattle.std.specs.Prelude.{None, is_some, Ok, Err, ℤ}
use Rattle.std.proofs.Common.{refl, ap, sym, arith, ◌∙◌, append_assoc}
use Rattle.std.proofs.lemmas.Bool.{true≢false}
use Rattle.tk_characters.specs.Options.{◌and_then◌}
use Rattle.tk_token.specs.declared.Code.TheVariants.{Domain}
use Rattle.tk_token.specs.declared.Fault.{Fault}
use Rattle.tk_token.specs.declared.Tok.{Tok}
use Rattle.tk_token.specs.Answers.{Answer, ◌>>=◌, or_fault}
use Rattle.tk_expr.specs.declared.FontUnits.{FontUnits}
use Rattle.tk_expr.specs.Evaluates.{Evaluation}
use Rattle.tk_look.specs.Dashes.{Dash, dash_of, all_dashes, dash_length, dash_lengths}

-- a dash before those that are found
abbrev behind : Dash → Option (List Dash) → Option (List Dash)
behind d found = found and_then λ ds. Some (d ∷ ds)

-- how dashes go on behind a first one
abbrev going_on : ℕ → Option Dash → Option (List Dash)
going_on n found = found and_then λ d. if length d.rest == 0 then Some (d ∷ []) else behind d (all_dashes n d.rest)

-- one more stands before as many
behind_some : (d : Dash) (found : Option (List Dash)) → is_some (behind d found) ≡ is_some found
behind_some d None = refl
behind_some d (Some ds) = refl

-- one less is left after each
pub dashes_left_counted : (k : ℕ) → k < 8 → 8 - k ≡ suc (8 - (k + 1))
dashes_left_counted k l = omega arith

-- none is left after eight
pub none_left : (k : ℕ) (ts : List Tok) → 8 ≤ k → is_some (all_dashes (8 - k) ts) ≡ false
unfolding all_dashes
none_left k ts l = let none : 8 - k ≡ 0 = omega (arith, l) in ap (λ (n : ℕ). is_some (all_dashes n ts)) none

module _ (ts : List Tok) (n : ℕ) where
  steps : (o : Option Dash) → o ≡ dash_of ts → all_dashes (suc n) ts ≡ going_on n o
  unfolding all_dashes
  steps o is = ap (going_on n) (sym is)

  -- no dash
  pub none_here : None ≡ dash_of ts → all_dashes (suc n) ts ≡ None
  none_here is = steps None is

  module _ (d : Dash) (is : Some d ≡ dash_of ts) where
    -- the last one
    pub last_here : (length d.rest == 0) ≡ true → all_dashes (suc n) ts ≡ Some (d ∷ [])
    last_here empty = steps (Some d) is ∙ ap (λ (b : Bool). if b then Some (d ∷ []) else behind d (all_dashes n d.rest)) empty

    -- one with others behind it
    pub more_here : (length d.rest == 0) ≡ false → all_dashes (suc n) ts ≡ behind d (all_dashes n d.rest)
    more_here some = steps (Some d) is ∙ ap (λ (b : Bool). if b then Some (d ∷ []) else behind d (all_dashes n d.rest)) some

    pub more_are_there : (length d.rest == 0) ≡ false → is_some (all_dashes (suc n) ts) ≡ is_some (all_dashes n d.rest)
    more_are_there some = ap is_some (more_here some) ∙ behind_some d (all_dashes n d.rest)

    -- the dashes that are there begin with it
    pub begin_with : is_some (all_dashes (suc n) ts) ≡ true → (ds : List Dash) × (all_dashes (suc n) ts ≡ Some (d ∷ ds))
    begin_with there = by (length d.rest == 0) refl
      where
        found : (o : Option (List Dash)) → all_dashes (suc n) ts ≡ behind d o → (ds : List Dash) × (all_dashes (suc n) ts ≡ Some (d ∷ ds))
        found None e = absurd (true≢false (sym there ∙ ap is_some e))
        found (Some ds) e = (ds, e)

        by : (b : Bool) → (length d.rest == 0) ≡ b → (ds : List Dash) × (all_dashes (suc n) ts ≡ Some (d ∷ ds))
        by true e = ([], last_here e)
        by false e = found (all_dashes n d.rest) (more_here e)

-- ---- lengths

-- lengths before those of an answer
abbrev pub before : List ℤ → Answer (List ℤ) → Answer (List ℤ)
before xs answer = answer >>= λ ys. Ok (xs ++ ys)

pub before_before : (xs ys : List ℤ) (answer : Answer (List ℤ)) → before xs (before ys answer) ≡ before (xs ++ ys) answer
before_before xs ys (Ok zs) = ap (λ (ws : List ℤ). (let answer : Answer (List ℤ) = Ok ws in answer)) (sym (append_assoc xs ys zs))
before_before xs ys (Err f) = refl

module _ (at : ℕ) (ev : Evaluation) (font : FontUnits) where
  -- the lengths of the dashes that are found
  abbrev pub lengths_of : Option (List Dash) → Answer (List ℤ)
  lengths_of found = or_fault found Domain at >>= dash_lengths at ev font

  -- the lengths behind the first of a dash
  abbrev behind_on : Dash → List Dash → ℤ → Answer (List ℤ)
  behind_on d ds on = dash_length at ev font d.off >>= λ off. dash_lengths at ev font ds >>= λ others. Ok (on ∷ (off ∷ others))

  -- the lengths behind both
  abbrev behind_off : List Dash → ℤ → ℤ → Answer (List ℤ)
  behind_off ds on off = dash_lengths at ev font ds >>= λ others. Ok (on ∷ (off ∷ others))

  starts : (d : Dash) (ds : List Dash) (on : Answer ℤ) → dash_length at ev font d.on ≡ on → dash_lengths at ev font (d ∷ ds) ≡ (on >>= behind_on d ds)
  unfolding dash_lengths
  starts d ds on is = ap (λ (a : Answer ℤ). a >>= behind_on d ds) is

  continues : (d : Dash) (ds : List Dash) (on : ℤ) (off : Answer ℤ) → dash_length at ev font d.on ≡ Ok on → dash_length at ev font d.off ≡ off
      → dash_lengths at ev font (d ∷ ds) ≡ (off >>= behind_off ds on)
  continues d ds on off first second = starts d ds (Ok on) first ∙ ap (λ (a : Answer ℤ). a >>= behind_off ds on) second

  module _ (ts : List Tok) (n : ℕ) (d : Dash) (is : Some d ≡ dash_of ts) where
    -- a length that isn't there is the fault of all
    pub on_fails : is_some (all_dashes (suc n) ts) ≡ true → (f : Fault) → dash_length at ev font d.on ≡ Err f
        → lengths_of (all_dashes (suc n) ts) ≡ Err f
    on_fails there f e =
        let (ds, found) = begin_with ts n d is there in
        ap lengths_of found ∙ starts d ds (Err f) e

    pub off_fails : is_some (all_dashes (suc n) ts) ≡ true → (on : ℤ) (f : Fault) → dash_length at ev font d.on ≡ Ok on
        → dash_length at ev font d.off ≡ Err f → lengths_of (all_dashes (suc n) ts) ≡ Err f
    off_fails there on f first e =
        let (ds, found) = begin_with ts n d is there in
        ap lengths_of found ∙ continues d ds on (Err f) first e

    module _ (on off : ℤ) (first : dash_length at ev font d.on ≡ Ok on) (second : dash_length at ev font d.off ≡ Ok off) where
      -- the last two
      pub ends_here : (length d.rest == 0) ≡ true → lengths_of (all_dashes (suc n) ts) ≡ Ok (on ∷ (off ∷ []))
      unfolding dash_lengths
      ends_here empty = ap lengths_of (last_here ts n d is empty) ∙ continues d [] on (Ok off) first second

      -- two before others
      pub goes_on : (length d.rest == 0) ≡ false → lengths_of (all_dashes (suc n) ts) ≡ before (on ∷ (off ∷ [])) (lengths_of (all_dashes n d.rest))
      goes_on some = ap lengths_of (more_here ts n d is some) ∙ by (all_dashes n d.rest)
        where
          by : (o : Option (List Dash)) → lengths_of (behind d o) ≡ before (on ∷ (off ∷ [])) (lengths_of o)
          by None = refl
          by (Some ds) = continues d ds on (Ok off) first second
