-- One parameter of a `\def`.
use Rattle.std.proofs.Common.{◌≡◌, ℕ, suc, ◌+◌, ◌-◌, ◌<◌, ◌≤◌, Bool, true, false, Ok, Err, refl, ap, sym, ◌∙◌, arith}
use Rattle.std.specs.Prelude.{if◌then◌else◌}
use Rattle.tk_token.specs.declared.Code.TheVariants.{MacroSyntax}
use Rattle.tk_token.specs.declared.Fault.{Fault}
use Rattle.tk_token.specs.declared.Kind.{Kind}
use Rattle.tk_token.specs.declared.Kind.TheVariants.{Char, Word, Symbol, Open, Close, Param, Arg, Space}
use Rattle.tk_token.specs.declared.Tok.{Tok}
use Rattle.tk_token.specs.Answers.{Answer, ◌>>=◌, fault}
use Rattle.tk_characters.specs.Characters.{right_bracket}
use Rattle.tk_token.specs.Kinds.{is_char, is_open, is_param}
use Rattle.tk_token.proofs.Answering.{then_is}
use Rattle.tk_store.specs.Bodies.{digit_of}
use Rattle.tk_expand.specs.Unread.{Unread, past_spaces}
use Rattle.tk_expand.specs.Reading.{Read, read, next_token, after_token, token_value}
use Rattle.tk_define.specs.Heads.{digit, parameters, bracketed_count}

-- a fault is passed on
pub then_fault : {A B : Type 0} (answer : Answer A) (f : A → Answer B) (e : Fault) → answer ≡ Err e → (answer >>= f) ≡ Err e
then_fault answer f e h = ap (λ (x : Answer _). x >>= f) h

module _ (count more : ℕ) (list : Unread) where
  -- the next token is `#`, or else it has to be `{`
  abbrev by_kind : Bool → Unread → Answer (Read ℕ)
  by_kind is_parameter behind =
      if is_parameter
      then (after_token MacroSyntax (is_char (digit (count + 1))) behind >>= λ rest. parameters (suc count) more rest)
      else (after_token MacroSyntax is_open list >>= λ inside. Ok (read count inside))

  abbrev turn : Answer (Read ℕ)
  turn = next_token MacroSyntax list >>= λ next. by_kind (is_param next.value.kind) next.list

  turn_is : (n : ℕ) → n ≡ suc more → parameters count n list ≡ turn
  unfolding parameters
  turn_is n is = ap (λ (n : ℕ). parameters count n list) is

-- a token that is neither `#` nor `{`
other_kinds_are_neither : (k : Kind) → (k ≡ Param → ⊥) → (k ≡ Open → ⊥) → (is_param k ≡ false) × (is_open k ≡ false)
other_kinds_are_neither Param not_param not_open = absurd (not_param refl)
other_kinds_are_neither Open not_param not_open = absurd (not_open refl)
other_kinds_are_neither Close not_param not_open = (refl, refl)
other_kinds_are_neither (Char c) not_param not_open = (refl, refl)
other_kinds_are_neither (Word w) not_param not_open = (refl, refl)
other_kinds_are_neither (Symbol c) not_param not_open = (refl, refl)
other_kinds_are_neither (Arg n) not_param not_open = (refl, refl)
other_kinds_are_neither Space not_param not_open = (refl, refl)

-- The parameters so far: the answer is that of the list that is left.
module _ (count : ℕ) (list : Unread) (answer : Answer (Read ℕ)) (told : answer ≡ parameters count (9 - count) list) (lt : count < 9) where
  next_turn : answer ≡ turn count (8 - count) list
  next_turn = told ∙ turn_is count (8 - count) list (9 - count) (omega arith)

  -- no token is left
  pub fails_next : (e : Fault) → next_token MacroSyntax list ≡ Err e → answer ≡ Err e
  fails_next e h =
      next_turn ∙ then_fault (next_token MacroSyntax list) (λ next. by_kind count (8 - count) list (is_param next.value.kind) next.list) e h

  module _ (tok : Tok) (behind : Unread) (taken : next_token MacroSyntax list ≡ Ok (read tok behind)) where
    chosen : (b : Bool) → is_param tok.kind ≡ b → answer ≡ by_kind count (8 - count) list b behind
    chosen b is =
        next_turn ∙ then_is (next_token MacroSyntax list) (λ next. by_kind count (8 - count) list (is_param next.value.kind) next.list)
        (read tok behind) taken
        ∙ ap (λ (b : Bool). by_kind count (8 - count) list b behind) is

    module _ (param : tok.kind ≡ Param) where
      -- its digit isn't there
      pub fails_digit : (e : Fault) → after_token MacroSyntax (is_char (digit (count + 1))) behind ≡ Err e → answer ≡ Err e
      fails_digit e h = chosen true (ap is_param param) ∙ then_fault (after_token MacroSyntax (is_char (digit (count + 1))) behind)
          (λ rest. parameters (suc count) (8 - count) rest) e h

      -- one more parameter
      pub goes : (rest : Unread) → after_token MacroSyntax (is_char (digit (count + 1))) behind ≡ Ok rest
          → answer ≡ parameters (count + 1) (9 - (count + 1)) rest
      goes rest is =
          let one : suc count ≡ count + 1 = omega arith in
          let fewer : 8 - count ≡ 9 - (count + 1) = omega arith in
          chosen true (ap is_param param) ∙ then_is (after_token MacroSyntax (is_char (digit (count + 1))) behind) (λ rest. parameters (suc count)
          (8 - count) rest) rest is
          ∙ ap (λ (n : ℕ). parameters n (8 - count) rest) one ∙ ap (λ (n : ℕ). parameters (count + 1) n rest) fewer

    opened : (b : Bool) → is_open tok.kind ≡ b → after_token MacroSyntax is_open list ≡ (if b then Ok behind else fault MacroSyntax tok.at)
    unfolding after_token
    opened b is =
        ap (λ (m : Answer (Read Tok)). m >>= λ next. if is_open next.value.kind then Ok next.list else fault MacroSyntax next.value.at) taken
        ∙ ap (λ (b : Bool). (let a : Answer Unread = if b then Ok behind else fault MacroSyntax tok.at in a)) is

    -- the `{` of the body
    pub opens : tok.kind ≡ Open → answer ≡ Ok (read count behind)
    opens is = chosen false (ap is_param is) ∙ ap (λ (m : Answer Unread). m >>= λ inside. Ok (read count inside)) (opened true (ap is_open is))

    -- a token that doesn't fit
    pub misfits : (tok.kind ≡ Param → ⊥) → (tok.kind ≡ Open → ⊥) → answer ≡ fault MacroSyntax tok.at
    misfits not_param not_open =
        chosen false (other_kinds_are_neither tok.kind not_param not_open).0 ∙ ap (λ (m : Answer Unread). m >>= λ inside. Ok (read count inside))
        (opened false (other_kinds_are_neither tok.kind not_param not_open).1)

-- nine parameters: the `{` of the body has to follow
pub at_nine : (count : ℕ) (list : Unread) (answer : Answer (Read ℕ)) → answer ≡ parameters count (9 - count) list → 9 ≤ count → count ≤ 9
    → answer ≡ (after_token MacroSyntax is_open list >>= λ inside. Ok (read 9 inside))
unfolding parameters
at_nine count list answer told most least =
    let nine : count ≡ 9 = omega arith in
    told ∙ ap (λ (n : ℕ). parameters n (9 - n) list) nine

-- ---- the number of arguments in brackets

-- the list behind the `{`, or the want of it, decides once the number and the `]` were read
pub parameters_counted : (list count_at behind_count bracket_at behind : Unread) (count : ℕ) (answer : Answer Unread) → count_at ≡ past_spaces list
    → token_value MacroSyntax digit_of count_at ≡ Ok (read count behind_count) → bracket_at ≡ past_spaces behind_count
    → after_token MacroSyntax (is_char right_bracket) bracket_at ≡ Ok behind → after_token MacroSyntax is_open (past_spaces behind) ≡ answer
    → bracketed_count list ≡ (answer >>= λ inside. Ok (read count inside))
unfolding bracketed_count
parameters_counted list count_at behind_count bracket_at behind count answer e known f closed is =
    ap (λ (l : Unread). token_value MacroSyntax digit_of l >>= of_count) (sym e) ∙ then_is (token_value MacroSyntax digit_of count_at) of_count
    (read count behind_count) known
    ∙ ap (λ (l : Unread). after_token MacroSyntax (is_char right_bracket) l >>= of_bracket count) (sym f)
    ∙ then_is (after_token MacroSyntax (is_char right_bracket) bracket_at) (of_bracket count) behind closed
    ∙ ap (λ (m : Answer Unread). m >>= λ inside. Ok (read count inside)) is
  where
    of_bracket : ℕ → Unread → Answer (Read ℕ)
    of_bracket count behind = after_token MacroSyntax is_open (past_spaces behind) >>= λ inside. Ok (read count inside)

    of_count : Read ℕ → Answer (Read ℕ)
    of_count count = after_token MacroSyntax (is_char right_bracket) (past_spaces count.list) >>= of_bracket count.value
