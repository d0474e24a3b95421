-- The last part of a path, by what a search for its last `/` finds.
use Rattle.std.proofs.Common.{◌≡◌, ◌≢◌, ℕ, ◌+◌, ◌-◌, ◌<◌, ◌≤◌, ◌==◌, true, false, not, List, length, get_or, take, drop, Some, None, sym, ap, ◌∙◌}
use Rattle.std.proofs.Common.{arith, length-drop}
use Rattle.std.proofs.Math.Seq.{get_or-drop}
use Rattle.std.specs.Str.Pattern.{RFindsChar}
use Rattle.std.proofs.lemmas.Bool.Decides.{nat_tests}
use Rattle.std.proofs.lemmas.List.Sums.{suffix_len_is}
use Rattle.std.proofs.lemmas.Str.Pattern.{NoCharPasses-char, drop_at_char}
use Rattle.tk_keytext.specs.Paths.{last_part}

no_slash : (c : ℕ) → c ≢ 47 → not (c == 47) ≡ true
no_slash c h = grind (arith, nat_tests)

a_slash : (c : ℕ) → c ≡ 47 → not (c == 47) ≡ false
a_slash c h = grind (arith, nat_tests)

module _ (path : List ℕ) where
  part_from : (start : ℕ) → start ≤ length path → ((k : ℕ) → start ≤ k → k < length path → get_or path k 0 ≢ 47)
      → (0 < start → get_or path (start - 1) 0 ≡ 47) → last_part path ≡ start
  unfolding last_part
  part_from start within since before =
      let n = suffix_len_is (λ c. not (c == 47)) path start 0 within (λ k a b. no_slash (get_or path k 0) (since k a b))
      (λ p. a_slash (get_or path (start - 1) 0) (before p)) in
      rw n (omega arith)

  -- without a `/` a path is its last part
  pub one_part : RFindsChar 47 path None → last_part path ≡ 0
  one_part none = part_from 0 (omega arith) (λ k a b. NoCharPasses-char 47 path k none (omega arith) b) (λ p. absurd (omega arith))

  -- the last part is what stands behind the last `/`
  module _ (i j : ℕ) (found : RFindsChar 47 path (Some (i, j))) where
    pub behind : j ≡ i + 1
    behind = found.1.ends

    pub within : i < length path
    within = omega (arith, ap length (drop_at_char 47 path i j found.1 (omega arith)), length-drop i path)

    none_since : (k : ℕ) → i + 1 ≤ k → k < length path → get_or path k 0 ≢ 47
    none_since k a b e =
        let back : j + (k - j) ≡ k = omega (arith, behind) in
        NoCharPasses-char 47 (drop j path) (k - j) found.0 (omega arith) (omega (arith, length-drop j path, behind)) (get_or-drop j path (k - j) 0
        ∙ ap (λ n. get_or path n 0) back ∙ e)

    pub part_behind : last_part path ≡ i + 1
    part_behind =
        let here : i + 1 - 1 ≡ i = omega arith in
        part_from (i + 1) (let h = within in omega arith) none_since (λ p. ap (λ n. get_or path n 0) here ∙ found.1.byte (omega arith))

    pub name_behind : drop j path ≡ drop (last_part path) path
    name_behind = ap (λ n. drop n path) (behind ∙ sym part_behind)

    pub dir_before : take i path ≡ take (last_part path - 1) path
    dir_before = let here : i ≡ last_part path - 1 = omega (arith, part_behind) in ap (λ n. take n path) here
