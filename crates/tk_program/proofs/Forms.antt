-- Which words ask for what.
use Rattle.std.proofs.Common.{◌≡◌, ◌≢◌, ℕ, true, false, List, [], ◌∷◌, length, get_or, Some, None, refl, map, arith}
use Rattle.std.specs.Prelude.{codes, ◌&&◌}
use Rattle.std.specs.Str.{bytes_eq}
use Rattle.tk_program.specs.Words.{Render, is_file_name, command_of}

-- any number of words but two asks for nothing
pub not_two : {A : Type 0} (view : A → List ℕ) (xs : List A) → length xs ≢ 2 → None ≡ command_of (map view xs)
unfolding command_of
not_two view [] h = refl
not_two view (x ∷ []) h = refl
not_two view (x ∷ y ∷ []) h = absurd (h refl)
not_two view (x ∷ y ∷ z ∷ xs) h = refl

two_words : {A : Type 0} (view : A → List ℕ) (xs : List A) (a b : A) → length xs ≡ 2 → a ≡ get_or xs 0 a → b ≡ get_or xs 1 b
    → map view xs ≡ view a ∷ view b ∷ []
two_words view [] a b len p q = absurd (omega arith)
two_words view (x ∷ []) a b len p q = absurd (omega arith)
two_words view (x ∷ y ∷ []) a b len p q = rw (p, q) refl
two_words view (x ∷ y ∷ z ∷ xs) a b len p q = absurd (omega arith)

-- `render` and the name of a file
pub two_words_ask : {A : Type 0} (view : A → List ℕ) (xs : List A) (a b : A) (w f : List ℕ) → length xs ≡ 2 → a ≡ get_or xs 0 a → b ≡ get_or xs 1 b
    → w ≡ view a → f ≡ view b → (bytes_eq w (codes "render") && is_file_name f) ≡ true → Some (Render (record { file = f; asked = record { budget = 10000000 } })) ≡ command_of (map view xs)
unfolding command_of
two_words_ask view xs a b w f len p q v u h = rw (two_words view xs a b len p q, ← v, ← u, h) refl

-- any two other words
pub asks_nothing : {A : Type 0} (view : A → List ℕ) (xs : List A) (a b : A) (w f : List ℕ) → length xs ≡ 2 → a ≡ get_or xs 0 a → b ≡ get_or xs 1 b
    → w ≡ view a → f ≡ view b → (bytes_eq w (codes "render") && is_file_name f) ≡ false → None ≡ command_of (map view xs)
unfolding command_of
asks_nothing view xs a b w f len p q v u h = rw (two_words view xs a b len p q, ← v, ← u, h) refl
