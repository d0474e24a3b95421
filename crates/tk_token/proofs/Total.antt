-- All characters have tokens, and each source lexes.
use Rattle.std.proofs.Common.{◌≡◌, ◌≢◌, ℕ, zero, suc, ◌≤◌, Bool, true, false, ◌==◌, List, [], ◌∷◌, length, Option, Some, None, Err, refl, sym, subst}
use Rattle.std.proofs.Common.{ap, arith}
use Rattle.std.specs.List.{prefix_len}
use Rattle.std.specs.Str.{chars}
use Rattle.std.proofs.lemmas.Bool.Decides.{nat_tests}
use Rattle.std.proofs.lemmas.List.{length-append}
use Rattle.tk_token.specs.declared.Fault.{Fault}
use Rattle.tk_token.specs.Answers.{Answer}
use Rattle.tk_token.specs.Token.{Token}
use Rattle.tk_token.specs.Cutting.{is_blank, is_letter, makes_space, after_gap, after_word, after_comment, Tokens, ends, comment, gap, word}
use Rattle.tk_token.specs.Cutting.{control_space, symbol, other}
use Rattle.tk_token.specs.Faults.{after_mark, text_fault, balanced, Lexes, refused, cut}
use Rattle.tk_token.proofs.Starts.{Ends, ends_all, ends_drop, ends_gap, ends_comment}

-- some tokens
abbrev pub Some_tokens : ℕ → List ℕ → Type 0
Some_tokens n cs = (toks : List Token) × Tokens n cs toks

no_longer : (all rest : List ℕ) → Ends all rest → length rest ≤ length all
no_longer all rest (front, is) = omega (arith, ap length is, length-append front rest)

module _ (n : ℕ) where
  -- after a `\`
  control : (cs : List ℕ) → ((rest : List ℕ) → length rest ≤ length cs → Some_tokens n rest) → Some_tokens n (92 ∷ cs)
  control cs rest = by_space (makes_space cs) refl
    where
      a_gap : length (after_gap cs) ≤ length cs
      a_gap = no_longer cs (after_gap cs) (ends_gap cs false cs (ends_all cs))

      by_letter : (more : List ℕ) (b : Bool) → makes_space more ≡ false → ((rest : List ℕ) → length rest ≤ length more → Some_tokens n rest)
          → Some_tokens n (92 ∷ more)
      by_letter [] b e go = absurd cc
      by_letter (c ∷ more) b e go = by_test (is_letter c) refl
        where
          behind : List ℕ
          behind = after_gap (after_word (c ∷ more))

          by_test : (l : Bool) → is_letter c ≡ l → Some_tokens n (92 ∷ c ∷ more)
          by_test true f =
              let t = go (after_gap (after_word (c ∷ more))) (no_longer (c ∷ more) (after_gap (after_word (c ∷ more)))
              (ends_gap (c ∷ more) false (after_word (c ∷ more)) (ends_drop (c ∷ more) (c ∷ more) (prefix_len is_letter (c ∷ more))
              (ends_all (c ∷ more))))) in
              (_, word f t.1)
          by_test false f = let t = go more (omega arith) in (_, symbol f e t.1)

      by_space : (b : Bool) → makes_space cs ≡ b → Some_tokens n (92 ∷ cs)
      by_space true e = let t = rest (after_gap cs) a_gap in (_, control_space e t.1)
      by_space false e = by_letter cs false e rest

  one : (c : ℕ) (cs : List ℕ) → ((rest : List ℕ) → length rest ≤ length cs → Some_tokens n rest) → Some_tokens n (c ∷ cs)
  one c cs rest = by_test (is_blank c) (c == 37) (c == 92) refl refl refl
    where
      by_test : (b p s : Bool) → is_blank c ≡ b → (c == 37) ≡ p → (c == 92) ≡ s → Some_tokens n (c ∷ cs)
      by_test true p s e f g = let t = rest (after_gap cs) (no_longer cs (after_gap cs) (ends_gap cs false cs (ends_all cs))) in (_, gap e t.1)
      by_test false true s e f g =
          let same : c ≡ 37 = grind (arith, nat_tests) in
          let t = rest (after_comment cs) (no_longer cs (after_comment cs) (ends_comment cs cs (ends_all cs))) in
          subst (λ (d : ℕ). Some_tokens n (d ∷ cs)) (sym same) (_, comment t.1)
      by_test false false true e f g =
          let same : c ≡ 92 = grind (arith, nat_tests) in subst (λ (d : ℕ). Some_tokens n (d ∷ cs)) (sym same) (control cs rest)
      by_test false false false e f g =
          let t = rest cs (omega arith) in
          let no_comment : c ≢ 37 = grind (arith, nat_tests) in
          let no_control : c ≢ 92 = grind (arith, nat_tests) in
          (_, other e no_comment no_control t.1)

  up_to : (most : ℕ) (cs : List ℕ) → length cs ≤ most → Some_tokens n cs
  up_to most [] le = ([], ends)
  up_to zero (c ∷ cs) le = absurd (omega arith)
  up_to (suc most) (c ∷ cs) le = one c cs (λ rest within. up_to most rest (omega arith))

  pub total : (cs : List ℕ) → Some_tokens n cs
  total cs = up_to (length cs) cs (omega arith)

pub each_source_lexes : (source : List ℕ) → (answer : Answer (List Token)) × Lexes source answer
each_source_lexes source = by_fault (text_fault source) refl
  where
    by_fault : (o : Option Fault) → text_fault source ≡ o → (answer : Answer (List Token)) × Lexes source answer
    by_fault (Some f) e = (Err f, refused e)
    by_fault None e = let t = total (length source) (after_mark (chars source)) in (balanced t.0, cut e t.1)
