-- What definitions leave: no more tokens, units that don't fall, and tokens and faults at places of the list and of the bodies.
use Rattle.std.specs.Prelude.{◌≡◌, ℕ, zero, suc, ◌+◌, ◌<◌, ◌≤◌, nat_le, ◌&&◌, ◌==◌, List, [], ◌∷◌, length, Option, Some, None, Ok, IfSome}
use Rattle.std.proofs.Common.{subst, arith}
use Rattle.tk_token.specs.declared.Code.TheVariants.{MacroSyntax}
use Rattle.tk_token.specs.declared.Kind.{Kind}
use Rattle.tk_token.specs.declared.Kind.TheVariants.{Char, Word, Symbol, Open, Close, Param, Arg, Space}
use Rattle.tk_token.specs.declared.Tok.{Tok}
use Rattle.tk_token.specs.Answers.{Answer, ◌>>=◌, or_fault}
use Rattle.tk_characters.specs.Characters.{star, left_bracket, right_bracket}
use Rattle.tk_token.specs.Groups.{Cut, group_of}
use Rattle.tk_token.specs.Kinds.{word_of, is_char, is_open, is_close, is_param}
use Rattle.tk_store.specs.Bodies.{digit_of, itself, argument_at, hash_before, body_of}
use Rattle.tk_store.specs.Levels.{Macros}
use Rattle.tk_expand.specs.Unread.{Unread, unread, past_spaces}
use Rattle.tk_expand.specs.Expand.{Stream, stream, full}
use Rattle.tk_expand.specs.Reading.{Read, read, next_token, after_token, token_value}
use Rattle.tk_expand.proofs.Places.{StandAt, Stands, StreamAt, CutAt, BodiesAt, full_at}
use Rattle.tk_define.specs.declared.DefinitionWord.{DefinitionWord}
use Rattle.tk_define.specs.declared.DefinitionWord.TheVariants.{Def, Edef, NewCommand}
use Rattle.tk_define.specs.declared.Definition.{Definition}
use Rattle.tk_define.specs.Heads.{digit, parameters, name_start, braced_name, name_from, name_of, bracketed_count, count_from, count_of}
use Rattle.tk_define.specs.Definitions.{body_in, def, new_command, Defined, for_nothing, edef, defined}
use Rattle.tk_keys.proofs.Reading.{Within, TokenWithin, spaces_within, token_within, after_token_within, value_within}
use Rattle.tk_keys.proofs.Standing.{then_at, if_at, both_at}
use Rattle.tk_token.proofs.Outside.{group_keeps, group_shorter}
use Rattle.tk_keys.proofs.Spending.{full_spends}

module _ (P : ℕ → Type 0) (n end : ℕ) where
  abbrev Counted : Read ℕ → Type 0
  Counted r = Within P n end r.list

  opened_within : (count : ℕ) (list : Unread) → Within P n end list
      → Stands P Counted (after_token MacroSyntax is_open list >>= λ inside. Ok (read count inside))
  opened_within count list h = then_at P (Within P n end) Counted (after_token MacroSyntax is_open list) _ (after_token_within P n end MacroSyntax
      is_open list h) (λ inside k. k)

  parameters_within : (more count : ℕ) (list : Unread) → Within P n end list → Stands P Counted (parameters count more list)
  unfolding parameters
  parameters_within zero count list h = opened_within count list h
  parameters_within (suc more) count list h =
      then_at P (TokenWithin P n end) Counted (next_token MacroSyntax list) _ (token_within P n end MacroSyntax list h) (λ next k.
      if_at P Counted (is_param next.value.kind) _ _
      (then_at P (Within P n end) Counted (after_token MacroSyntax (is_char (digit (count + 1))) next.list) _ (after_token_within P n end MacroSyntax
      (is_char (digit (count + 1))) next.list k.list) (λ behind m. parameters_within more (suc count) behind m))
      (opened_within count list h))

  start_within : (list : Unread) → Within P n end list → Stands P (TokenWithin P n end) (name_start list)
  unfolding name_start
  start_within list h =
      then_at P (TokenWithin P n end) (TokenWithin P n end) (next_token MacroSyntax (past_spaces list)) _ (token_within P n end MacroSyntax
      (past_spaces list) (spaces_within P n end list h)) (λ first k.
      if_at P (TokenWithin P n end) (is_char star first.value.kind) _ _ (token_within P n end MacroSyntax (past_spaces first.list)
      (spaces_within P n end first.list k.list)) k)

  braced_within : (list : Unread) → Within P n end list → Stands P Counted (braced_name list)
  unfolding braced_name
  braced_within list h =
      then_at P Counted Counted (token_value MacroSyntax word_of (past_spaces list)) _ (value_within P n end MacroSyntax word_of (past_spaces list)
      (spaces_within P n end list h)) (λ word k.
      then_at P (Within P n end) Counted (after_token MacroSyntax is_close (past_spaces word.list)) _ (after_token_within P n end MacroSyntax is_close
      (past_spaces word.list) (spaces_within P n end word.list k)) (λ behind m. m))

  name_from_within : (k : Kind) (at : ℕ) (list : Unread) → P at → Within P n end list → Stands P Counted (name_from k at list)
  name_from_within (Word w) at list p h = h
  name_from_within Open at list p h = braced_within list h
  name_from_within (Char c) at list p h = p
  name_from_within (Symbol c) at list p h = p
  name_from_within Close at list p h = p
  name_from_within Param at list p h = p
  name_from_within (Arg i) at list p h = p
  name_from_within Space at list p h = p

  name_within : (list : Unread) → Within P n end list → Stands P Counted (name_of list)
  unfolding name_of
  name_within list h = then_at P (TokenWithin P n end) Counted (name_start list) _ (start_within list h) (λ first k. name_from_within first.value.kind
      first.value.at first.list k.token k.list)

  bracketed_within : (list : Unread) → Within P n end list → Stands P Counted (bracketed_count list)
  unfolding bracketed_count
  bracketed_within list h =
      then_at P Counted Counted (token_value MacroSyntax digit_of (past_spaces list)) _ (value_within P n end MacroSyntax digit_of (past_spaces list)
      (spaces_within P n end list h)) (λ count k.
      then_at P (Within P n end) Counted (after_token MacroSyntax (is_char right_bracket) (past_spaces count.list)) _ (after_token_within P n end
      MacroSyntax (is_char right_bracket) (past_spaces count.list) (spaces_within P n end count.list k)) (λ behind l.
      then_at P (Within P n end) Counted (after_token MacroSyntax is_open (past_spaces behind)) _ (after_token_within P n end MacroSyntax is_open
      (past_spaces behind) (spaces_within P n end behind l)) (λ inside m. m)))

  count_from_within : (k : Kind) (at : ℕ) (list : Unread) → P at → Within P n end list → Stands P Counted (count_from k at list)
  count_from_within Open at list p h = h
  count_from_within (Char c) at list p h = if_at P Counted (c == left_bracket) _ _ (bracketed_within list h) p
  count_from_within (Word w) at list p h = p
  count_from_within (Symbol c) at list p h = p
  count_from_within Close at list p h = p
  count_from_within Param at list p h = p
  count_from_within (Arg i) at list p h = p
  count_from_within Space at list p h = p

  count_within : (list : Unread) → Within P n end list → Stands P Counted (count_of list)
  unfolding count_of
  count_within list h = then_at P (TokenWithin P n end) Counted (next_token MacroSyntax (past_spaces list)) _ (token_within P n end MacroSyntax
      (past_spaces list) (spaces_within P n end list h)) (λ first k. count_from_within first.value.kind first.value.at first.list k.token k.list)

  -- ---- bodies

  abbrev TokenAt : Tok → Type 0
  TokenAt t = P t.at

  itself_at : (k : Kind) (t : Tok) → P t.at → Stands P TokenAt (itself k t)
  itself_at Param t p = p
  itself_at (Arg i) t p = p
  itself_at (Char c) t p = p
  itself_at (Word w) t p = p
  itself_at (Symbol c) t p = p
  itself_at Open t p = p
  itself_at Close t p = p
  itself_at Space t p = p

  argument_stands : (args : ℕ) (i : Option ℕ) (at : ℕ) → P at → Stands P TokenAt (argument_at args i at)
  argument_stands args None at p = p
  argument_stands args (Some i) at p = if_at P TokenAt (nat_le 1 i && nat_le i args) _ _ p p

  hash_at : (args : ℕ) (k : Kind) (at : ℕ) → P at → Stands P TokenAt (hash_before args k at)
  hash_at args Param at p = p
  hash_at args (Char c) at p = argument_stands args (digit_of (Char c)) at p
  hash_at args (Arg i) at p = p
  hash_at args (Word w) at p = p
  hash_at args (Symbol c) at p = p
  hash_at args Open at p = p
  hash_at args Close at p = p
  hash_at args Space at p = p

  first_and : (m : Answer Tok) (more : Answer (List Tok)) → Stands P TokenAt m → Stands P (StandAt P) more
      → Stands P (StandAt P) (m >>= λ first. more >>= λ rest. Ok (first ∷ rest))
  first_and m more h k = then_at P TokenAt (StandAt P) m _ h (λ first p. then_at P (StandAt P) (StandAt P) more _ k (λ rest q. (p, q)))

  pub body_of_at : (args : ℕ) (ts : List Tok) → StandAt P ts → Stands P (StandAt P) (body_of args ts)
  unfolding body_of
  body_of_at args [] h = tt
  body_of_at args (t ∷ []) h = then_at P TokenAt (StandAt P) (itself t.kind t) _ (itself_at t.kind t h.0) (λ first p. (p, tt))
  body_of_at args (t ∷ u ∷ ts) h =
      if_at P (StandAt P) (is_param t.kind) _ _
      (first_and (hash_before args u.kind t.at) (body_of args ts) (hash_at args u.kind t.at h.0) (body_of_at args ts h.1.1))
      (first_and (itself t.kind t) (body_of args (u ∷ ts)) (itself_at t.kind t h.0) (body_of_at args (u ∷ ts) h.1))

  -- a body that was read, and the list behind it
  pub record BodyWithin (r : Read (List Tok)) : Type 0 where
    pub body : StandAt P r.value
    pub list : Within P n end r.list

  abbrev GroupWithin : Cut → Type 0
  GroupWithin c = StandAt P c.front × Within P n end (unread c.rest end)

  group_within : (ts : List Tok) (last : ℕ) (c : Option Cut) → last ≡ end → P last → length ts ≤ n → IfSome c (CutAt P)
      → IfSome c (λ c. length c.front + length c.rest < length ts) → Stands P GroupWithin (or_fault c MacroSyntax last)
  group_within ts last None e p le h k = p
  group_within ts last (Some c) e p le h k = (h.0, record { short = omega arith; rest = h.1; same = (λ _. end); last = subst P e p })

  body_within : (args : ℕ) (list : Unread) → Within P n end list → Stands P BodyWithin (body_in args list)
  unfolding body_in
  body_within args list h =
      then_at P GroupWithin BodyWithin (or_fault (group_of list.rest) MacroSyntax list.end) _ (group_within list.rest list.end (group_of list.rest)
      h.same h.last h.short (group_keeps (λ (t : Tok). P t.at) list.rest h.rest) (group_shorter list.rest)) (λ c k.
      then_at P (StandAt P) BodyWithin (body_of args c.front) _ (body_of_at args c.front k.0) (λ body p.
      record { body = p; list = record { short = k.1.short; rest = k.1.rest; same = h.same; last = h.last } }))

  -- ---- definitions

  -- a definition that was read, and the list behind it
  pub record DefinitionWithin (r : Read Definition) : Type 0 where
    pub body : StandAt P r.value.value.body
    pub list : Within P n end r.list

  def_within : (list : Unread) → Within P n end list → Stands P DefinitionWithin (def list)
  unfolding def
  def_within list h =
      then_at P Counted DefinitionWithin (token_value MacroSyntax word_of list) _ (value_within P n end MacroSyntax word_of list h) (λ name a.
      then_at P Counted DefinitionWithin (parameters 0 9 name.list) _ (parameters_within 9 0 name.list a) (λ params b.
      then_at P BodyWithin DefinitionWithin (body_in params.value params.list) _ (body_within params.value params.list b)
      (λ body c. record { body = c.body; list = c.list })))

  command_within : (list : Unread) → Within P n end list → Stands P DefinitionWithin (new_command list)
  unfolding new_command
  command_within list h =
      then_at P Counted DefinitionWithin (name_of list) _ (name_within list h) (λ name a.
      then_at P Counted DefinitionWithin (count_of name.list) _ (count_within name.list a) (λ count b.
      then_at P BodyWithin DefinitionWithin (body_in count.value count.list) _ (body_within count.value count.list b)
      (λ body c. record { body = c.body; list = c.list })))

  -- what a definition leaves
  pub record DefinedWithin (units : ℕ) (d : Defined) : Type 0 where
    pub spent : units ≤ d.stream.units
    pub list : Within P n end d.stream.list
    pub body : StandAt P d.definition.value.body

  nothing_spent : (units : ℕ) (m : Answer (Read Definition)) → Stands P DefinitionWithin m → Stands P (DefinedWithin units) (for_nothing units m)
  nothing_spent units m h =
      then_at P DefinitionWithin (DefinedWithin units) m _ h (λ d k. record { spent = omega arith; list = k.list; body = k.body })

  edef_within : (budget : ℕ) (macros : Macros) (s : Stream) → BodiesAt P macros → Within P n end s.list
      → Stands P (DefinedWithin s.units) (edef budget macros s)
  unfolding edef
  edef_within budget macros s bodies h =
      then_at P Counted (DefinedWithin s.units) (token_value MacroSyntax word_of s.list) _ (value_within P n end MacroSyntax word_of s.list h)
      (λ name a.
      then_at P (Within P n end) (DefinedWithin s.units) (after_token MacroSyntax is_open name.list) _ (after_token_within P n end MacroSyntax is_open
      name.list a) (λ inside b.
      then_at P BodyWithin (DefinedWithin s.units) (body_in 0 inside) _ (body_within 0 inside b) (λ written c.
      let text = stream s.units (unread written.value s.list.end) in
      then_at P (λ (r : Stream). StreamAt P r × (s.units ≤ r.units)) (DefinedWithin s.units) (full budget macros text) _
      (both_at P (StreamAt P) (λ (r : Stream). s.units ≤ r.units) (full budget macros text) (full_at P budget macros bodies text c.body)
      (full_spends budget macros text)) (λ r d.
      record { spent = d.1; list = c.list; body = d.0 }))))

  pub defined_within : (kind : DefinitionWord) (budget : ℕ) (macros : Macros) (s : Stream) → BodiesAt P macros → Within P n end s.list
      → Stands P (DefinedWithin s.units) (defined kind budget macros s)
  defined_within Def budget macros s bodies h = nothing_spent s.units (def s.list) (def_within s.list h)
  defined_within NewCommand budget macros s bodies h = nothing_spent s.units (new_command s.list) (command_within s.list h)
  defined_within Edef budget macros s bodies h = edef_within budget macros s bodies h
