-- The last element of a list as the first of the list turned round.
use Rattle.std.proofs.Common.{◌≡◌, ℕ, ◌+◌, ◌-◌, ◌<◌, ◌≤◌, List, [], ◌∷◌, ◌++◌, length, take, drop, reverse, get_or, refl, ap, ◌∙◌, arith}
use Rattle.std.proofs.lemmas.List.{take_more, reverse-append}

reversed_behind_last : {X : Type 0} (xs ys : List X) (x : X) → ys ≡ xs ++ x ∷ [] → reverse ys ≡ x ∷ reverse xs
reversed_behind_last xs ys x e = ap reverse e ∙ reverse-append xs (x ∷ [])

first_and_dropped : {X : Type 0} (x : X) (xs ys : List X) → ys ≡ x ∷ xs → ys ≡ x ∷ drop 1 ys
first_and_dropped x xs ys e = rw e refl

-- the last of the first n, where it is known
pub top_is : {X : Type 0} (xs : List X) (n : ℕ) (d x : X) → 0 < n → n ≤ length xs → get_or xs (n - 1) d ≡ x
    → reverse (take n xs) ≡ x ∷ drop 1 (reverse (take n xs))
top_is xs n d x some within here =
    let one : n ≡ (n - 1) + 1 = omega arith in
    let more : take n xs ≡ take (n - 1) xs ++ x ∷ [] = ap (λ k. take k xs) one ∙ take_more xs (n - 1) d (omega arith)
    ∙ ap (λ y. take (n - 1) xs ++ y ∷ []) here in
    first_and_dropped x (reverse (take (n - 1) xs)) (reverse (take n xs)) (reversed_behind_last (take (n - 1) xs) (take n xs) x more)
