-- Tests of tokens.
use Rattle.std.specs.Prelude.{ℕ, Bool, true, false, ◌&&◌, ◌||◌, ◌==◌, List, [], ◌∷◌, Option, Some, None, codes}
use Rattle.tk_token.specs.declared.Kind.{Kind}
use Rattle.tk_token.specs.declared.Kind.TheVariants.{Char, Word, Open, Close, Param, Space}
use Rattle.tk_token.specs.declared.Tok.{Tok}

-- that character
abbrev pub is_char : ℕ → Kind → Bool
is_char c (Char d) = d == c
is_char c _ = false

-- a Space
abbrev pub is_space : Kind → Bool
is_space Space = true
is_space _ = false

-- `{`
abbrev pub is_open : Kind → Bool
is_open Open = true
is_open _ = false

-- `}`
abbrev pub is_close : Kind → Bool
is_close Close = true
is_close _ = false

-- `#`
abbrev pub is_param : Kind → Bool
is_param Param = true
is_param _ = false

-- ---- control words

-- the number of a control word
abbrev pub word_of : Kind → Option ℕ
word_of (Word w) = Some w
word_of _ = None

-- the number of the one control word that tokens are
abbrev pub one_word : List Tok → Option ℕ
one_word (t ∷ []) = word_of t.kind
one_word _ = None

-- ---- what is in front

-- such a token
abbrev pub begins : (Kind → Bool) → List Tok → Bool
begins wanted [] = false
begins wanted (t ∷ ts) = wanted t.kind

-- characters that spell that text
abbrev pub begins_text : List ℕ → List Tok → Bool
begins_text [] ts = true
begins_text (c ∷ cs) [] = false
begins_text (c ∷ cs) (t ∷ ts) = is_char c t.kind && begins_text cs ts

-- `-|` or `|-`
abbrev pub begins_corner : List Tok → Bool
begins_corner ts = begins_text (codes "-|") ts || begins_text (codes "|-") ts

-- `and`
abbrev pub begins_and : List Tok → Bool
begins_and ts = begins_text (codes "and") ts

-- `on` or `off`
abbrev pub begins_dash : List Tok → Bool
begins_dash ts = begins_text (codes "on") ts || begins_text (codes "off") ts
