-- What was lexed, as its definition sees it.
use Rattle.std.specs.Prelude.{List, map}
use Rattle.tk_token.specs.declared.lexer.Lexed.{Lexed}
use Rattle.tk_token.specs.Token.{Token, token_of}

-- the tokens, with their words as texts
abbrev pub tokens_in : Lexed → List Token
tokens_in lexed = map (token_of lexed.names) lexed.toks.items
