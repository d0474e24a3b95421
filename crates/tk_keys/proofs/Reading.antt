-- Where tokens stand that are read as they are written, and where the faults of reading stand.
use Rattle.std.specs.Prelude.{◌≡◌, ℕ, ◌≤◌, length, Bool, List, [], ◌∷◌, Option, Ok}
use Rattle.std.specs.List.{prefix_len}
use Rattle.std.proofs.Common.{subst, arith, length-drop}
use Rattle.tk_token.specs.declared.Code.{Code}
use Rattle.tk_token.specs.declared.Kind.{Kind}
use Rattle.tk_token.specs.declared.Tok.{Tok}
use Rattle.tk_token.specs.Answers.{fault, or_fault}
use Rattle.tk_token.specs.Kinds.{is_char, is_open, is_close}
use Rattle.tk_token.specs.Spaces.{is_space_token, after_spaces}
use Rattle.tk_expand.specs.Unread.{Unread, unread, past_spaces}
use Rattle.tk_expand.specs.Reading.{Read, token_in, next_token, after_token, after_text, after_name, token_value}
use Rattle.tk_expand.proofs.Places.{StandAt, Stands, dropped_at}
use Rattle.tk_keys.proofs.Standing.{then_at, if_at, some_at}

module _ (P : ℕ → Type 0) where
  -- ---- as they are written

  pub spaces_at : (ts : List Tok) → StandAt P ts → StandAt P (after_spaces ts)
  spaces_at ts h = dropped_at P (prefix_len is_space_token ts) ts h

  -- at most so many tokens are left, they stand at such places, and the list ends at one
  pub record Within (n end : ℕ) (list : Unread) : Type 0 where
    pub short : length list.rest ≤ n
    pub rest : StandAt P list.rest
    pub same : list.end ≡ end
    pub last : P list.end

  pub spaces_within : (n end : ℕ) (list : Unread) → Within n end list → Within n end (past_spaces list)
  spaces_within n end list h =
      let k : ℕ = prefix_len is_space_token list.rest in
      record { short = (let a = h.short in omega (arith, length-drop k list.rest)); rest = spaces_at list.rest h.rest; same = h.same; last = h.last }

  -- what was read, and the list behind it
  pub record TokenWithin (n end : ℕ) (r : Read Tok) : Type 0 where
    pub token : P r.value.at
    pub list : Within n end r.list

  token_in_within : (n : ℕ) (code : Code) (end : ℕ) (ts : List Tok) → Within n end (unread ts end)
      → Stands P (TokenWithin n end) (token_in code end ts)
  token_in_within n code end [] h = h.last
  token_in_within n code end (t ∷ ts) h = record {
    token = h.rest.0;
    list = record {
      short = (let a = h.short in omega arith);
      rest = h.rest.1;
      same = h.same;
      last = h.last;
    };
  }

  next_same : (n end : ℕ) (code : Code) (list : Unread) → list.end ≡ end → Within n end list
      → Stands P (TokenWithin n end) (token_in code list.end list.rest)
  next_same n end code list e h = subst (λ (x : ℕ). Stands P (TokenWithin n x) (token_in code list.end list.rest)) e (token_in_within n code list.end
      list.rest (record { short = h.short; rest = h.rest; same = (λ _. list.end); last = h.last }))

  pub token_within : (n end : ℕ) (code : Code) (list : Unread) → Within n end list → Stands P (TokenWithin n end) (next_token code list)
  unfolding next_token
  token_within n end code list h = next_same n end code list h.same h

  pub after_token_within : (n end : ℕ) (code : Code) (wanted : Kind → Bool) (list : Unread) → Within n end list
      → Stands P (Within n end) (after_token code wanted list)
  unfolding after_token
  after_token_within n end code wanted list h =
      then_at P (TokenWithin n end) (Within n end) (next_token code list) _ (token_within n end code list h) (λ r k. if_at P (Within n end)
      (wanted r.value.kind) (Ok r.list) (fault code r.value.at) k.list k.token)

  after_text_within : (n end : ℕ) (code : Code) (text : List ℕ) (list : Unread) → Within n end list
      → Stands P (Within n end) (after_text code text list)
  unfolding after_text
  after_text_within n end code [] list h = h
  after_text_within n end code (c ∷ cs) list h =
      then_at P (Within n end) (Within n end) (after_token code (is_char c) list) _ (after_token_within n end code (is_char c) list h)
      (λ more k. after_text_within n end code cs more k)

  pub after_name_within : (n end : ℕ) (code : Code) (name : List ℕ) (list : Unread) → Within n end list
      → Stands P (Within n end) (after_name code name list)
  unfolding after_name
  after_name_within n end code name list h =
      then_at P (Within n end) (Within n end) (after_token code is_open (past_spaces list)) _ (after_token_within n end code is_open
      (past_spaces list) (spaces_within n end list h)) (λ inside k.
      then_at P (Within n end) (Within n end) (after_text code name inside) _ (after_text_within n end code name inside k)
      (λ behind m. after_token_within n end code is_close behind m))

  pub value_within : {A : Type 0} (n end : ℕ) (code : Code) (meaning : Kind → Option A) (list : Unread) → Within n end list
      → Stands P (λ (r : Read A). Within n end r.list) (token_value code meaning list)
  unfolding token_value
  value_within {A = A} n end code meaning list h =
      then_at P (TokenWithin n end) (λ (r : Read A). Within n end r.list) (next_token code list) _ (token_within n end code list h) (λ next k.
      then_at P (λ _. Unit {0}) (λ (r : Read A). Within n end r.list) (or_fault (meaning next.value.kind) code next.value.at) _
      (some_at P (meaning next.value.kind) code next.value.at k.token) (λ value _. k.list))
