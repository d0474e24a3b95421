use Rattle.tk_token.proofs.lexer.next_kind.Goals as goal

pub returns-clause-word : goal.returns-clause-word
returns-clause-word c = c.single_kind.ensures.no_word c.args.names.now
