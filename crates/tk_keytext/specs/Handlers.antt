-- The handlers of keys, by the last parts of their paths (the PGF manual, section "Key Management", "Key Handlers").
use Rattle.std.specs.Prelude.{ℕ, List, [], ◌∷◌, Option, codes}
use Rattle.tk_characters.specs.Words.{word_meaning}
use Rattle.tk_keytext.specs.declared.Handler.{Handler}
use Rattle.tk_keytext.specs.declared.Handler.TheVariants.{Cd, Code, CodeTwo, Style, StyleTwo, AppendStyle, PrefixStyle}
use Rattle.tk_keytext.specs.declared.Handler.TheVariants.{Default, ValueRequired, ValueForbidden, Initial, IsChoice}
use Rattle.tk_keytext.specs.declared.Handler.TheVariants.{StoreIn, Try}

-- each name with its handler
abbrev pub handlers : List (List ℕ × Handler)
handlers =
    (codes ".cd", Cd)
    ∷ (codes ".code", Code)
    ∷ (codes ".code 2 args", CodeTwo)
    ∷ (codes ".style", Style)
    ∷ (codes ".style 2 args", StyleTwo)
    ∷ (codes ".append style", AppendStyle)
    ∷ (codes ".prefix style", PrefixStyle)
    ∷ (codes ".default", Default)
    ∷ (codes ".value required", ValueRequired)
    ∷ (codes ".value forbidden", ValueForbidden)
    ∷ (codes ".initial", Initial)
    ∷ (codes ".is choice", IsChoice)
    ∷ (codes ".store in", StoreIn)
    ∷ (codes ".try", Try)
    ∷ []

-- the handler of that name, if there is one
abbrev pub handler_of : List ℕ → Option Handler
handler_of = word_meaning handlers
