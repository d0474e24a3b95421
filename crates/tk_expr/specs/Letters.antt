-- Private: only the code's own contracts use this. Letters among tokens, as the code looks for them.
use Rattle.std.specs.Prelude.{ℕ, Bool, false}
use Rattle.tk_characters.specs.Characters.{space}
use Rattle.tk_token.specs.Cutting.{is_letter}
use Rattle.tk_token.specs.declared.Kind.{Kind}
use Rattle.tk_token.specs.declared.Kind.TheVariants.{Char}
use Rattle.tk_token.specs.declared.Tok.{Tok}

-- an ASCII letter
abbrev pub is_letter_kind : Kind → Bool
is_letter_kind (Char c) = is_letter c
is_letter_kind _ = false

-- the same for a token
abbrev pub is_letter_tok : Tok → Bool
is_letter_tok tok = is_letter_kind tok.kind

-- its letter
abbrev pub letter_of_kind : Kind → ℕ
letter_of_kind (Char c) = c
letter_of_kind _ = space

-- the same for a token
abbrev pub letter_of : Tok → ℕ
letter_of tok = letter_of_kind tok.kind
