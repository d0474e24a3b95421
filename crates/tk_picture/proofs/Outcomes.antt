-- What a reading tells of a source.
use Rattle.std.proofs.Common.{◌≡◌, ℕ, suc, ◌≤◌, arith, List, [], ◌∷◌, length, map, take, Ok, Err, refl, ap, sym, subst, ◌∙◌}
use Rattle.std.specs.List.{All, AllByRecursion}
use Rattle.std.specs.Str.{IsUtf8}
use Rattle.tk_token.specs.declared.Fault.{Fault}
use Rattle.tk_token.specs.declared.Refusal.{Refusal}
use Rattle.tk_token.specs.declared.Refusal.TheVariants as refusals
use Rattle.tk_token.specs.declared.Tok.{Tok}
use Rattle.tk_token.specs.Answers.{Answer, ◌>>=◌}
use Rattle.tk_token.specs.Faults.{Lexes}
use Rattle.tk_token.specs.Refusals.{OnFault, Fails}
use Rattle.tk_token.specs.Token.{Token, token_of, IsWordIn}
use Rattle.tk_token.specs.Words.{EachOnce, words_of, tok_of}
use Rattle.tk_expand.specs.Unread.{Unread, unread}
use Rattle.tk_expand.proofs.Places.{StandAt, Stands}
use Rattle.tk_expr.specs.Evaluated.{evaluated}
use Rattle.tk_expr.specs.Evaluates.{Evaluation, IsEvaluation}
use Rattle.tk_expr.proofs.Evaluations.{is_evaluated}
use Rattle.tk_expr.proofs.Runs.{evaluated_is_the_answer}
use Rattle.tk_expr.specs.declared.FontUnits.{FontUnits}
use Rattle.tk_keys.specs.Given.{Given, known_words}
use Rattle.tk_keys.specs.State.{State, IsFirst, given_of}
use Rattle.tk_picture.specs.declared.Asked.{Asked}
use Rattle.tk_picture.specs.declared.Compiled.{Compiled}
use Rattle.tk_picture.specs.Documents.{document}
use Rattle.tk_picture.specs.Outcome.{font_units, given_for, document_of, IsOutcome, IsPlace, of_tokens}
use Rattle.tk_picture.proofs.Evaluating.{evaluates_at}
use Rattle.tk_picture.proofs.Numbered.{numbers_back}
use Rattle.tk_picture.proofs.Sources.{some_tokens, one_answer, refused_place, token_places, end_place, first_place}
use Rattle.tk_keys.proofs.Narrow.{IfNarrow}
use Rattle.tk_svg.specs.Fitting.{Fits}
use Rattle.tk_picture.proofs.CommandMoves.{document_at}

-- what is drawn fits an SVG document, where some place is none of the source
abbrev FitsIn : List ℕ → Compiled → Type 0
FitsIn source c = IfNarrow (IsPlace source) (Fits c.drawing)

-- what is given where the words are those
abbrev pub given_words : List (List ℕ) → ℕ → Given
given_words names budget = record { names = known_words names; evaluate = evaluated; font = font_units; budget = budget }

-- what a first state gives
given_first : (names : List (List ℕ)) (budget : ℕ) (font : FontUnits) (state : State) → IsFirst names font budget state
    → given_of evaluated state ≡ record { names = known_words names; evaluate = evaluated; font = font; budget = budget }
given_first names budget font state begun =
    ap (λ (ns : List (List ℕ)). (let g : Given = record { names = ns; evaluate = evaluated; font = state.font; budget = state.budget } in g))
    begun.names
    ∙ ap (λ (f : FontUnits). (let g : Given = record { names = known_words names; evaluate = evaluated; font = f; budget = state.budget } in g))
    begun.font
    ∙ ap (λ (b : ℕ). (let g : Given = record { names = known_words names; evaluate = evaluated; font = font; budget = b } in g)) begun.budget

-- the code's run is over what is given
pub ran_over : (names : List (List ℕ)) (budget : ℕ) (font : FontUnits) (state : State) (list : Unread) (toks : List Tok) (end : ℕ)
    → IsFirst names font budget state → font ≡ font_units → list ≡ unread toks end
    → document (given_of evaluated state) list ≡ document (given_words names budget) (unread toks end)
ran_over names budget font state list toks end begun units told =
    ap (λ (g : Given). document g list) (given_first names budget font state begun)
    ∙ ap (λ (f : FontUnits). document (record { names = known_words names; evaluate = evaluated; font = f; budget = budget }) list) units
    ∙ ap (document (given_words names budget)) told

module _ (asked : Asked) (source : List ℕ) where
  -- a fault of cutting the source is its outcome, and has a line and a column
  pub byte_outcome : (e : Refusal) → OnFault e (λ f. Lexes source (Err f)) → OnFault e (λ f. IsOutcome asked source (Err f))
  byte_outcome (refusals.Fault f) h = of_tokens h evaluated_is_the_answer
  byte_outcome refusals.OutOfMemory h = tt

  pub byte_place : (e : Refusal) → OnFault e (λ f. Lexes source (Err f)) → OnFault e (λ f. f.at ≤ length source)
  byte_place (refusals.Fault f) h = (refused_place source f h).within
  byte_place refusals.OutOfMemory h = tt

  pub byte_text : (e : Refusal) → OnFault e (λ f. Lexes source (Err f)) → OnFault e (λ f. IsUtf8 (take f.at source))
  byte_text (refusals.Fault f) h = (refused_place source f h).text
  byte_text refusals.OutOfMemory h = tt

  module _ (names : List (List ℕ)) (toks : List Tok) (lexed : Lexes source (Ok (map (token_of names) toks))) (numbers : names
      ≡ words_of (map (token_of names) toks)) (words : All (λ (t : Tok). IsWordIn names t.kind) toks) (once : EachOnce names) where
    -- what the tokens come to
    pub comes_to : Answer Compiled
    comes_to = document (given_words names asked.budget) (unread toks (length source))

    same_toks : map (tok_of names) (map (token_of names) toks) ≡ toks
    same_toks = numbers_back names once toks words

    -- the tokens by their numbers draw what the tokens draw
    drawn_is : document_of evaluated asked (length source) (map (token_of names) toks)
        ≡ document (given_words names asked.budget) (unread toks (length source))
    drawn_is = by (words_of (map (token_of names) toks)) numbers
      where
        by : (ws : List (List ℕ)) → names ≡ ws
            → document (given_words ws asked.budget) (unread (map (tok_of ws) (map (token_of names) toks)) (length source))
            ≡ document (given_words names asked.budget) (unread toks (length source))
        by ws e =
            ap (λ (vs : List (List ℕ)). document (given_words vs asked.budget) (unread (map (tok_of vs) (map (token_of names) toks)) (length source)))
            (sym e)
            ∙ ap (λ (ts : List Tok). document (given_words names asked.budget) (unread ts (length source))) same_toks

    outcome : IsOutcome asked source (document (given_words names asked.budget) (unread toks (length source)))
    outcome = subst (IsOutcome asked source) drawn_is (of_tokens lexed evaluated_is_the_answer)

    pub drawing_outcome : (c : Compiled) → document (given_words names asked.budget) (unread toks (length source)) ≡ Ok c → IsOutcome asked source (Ok c)
    drawing_outcome c h = subst (IsOutcome asked source) h outcome

    pub fault_outcome : (e : Refusal) → (r : Answer Compiled) → r ≡ document (given_words names asked.budget) (unread toks (length source)) → Fails e r
        → OnFault e (λ f. IsOutcome asked source (Err f))
    fault_outcome (refusals.Fault f) r is h = subst (IsOutcome asked source) (sym is ∙ h) outcome
    fault_outcome refusals.OutOfMemory r is h = tt

    tok_places : (ts : List Tok) → AllByRecursion (λ (t : Token). IsPlace source t.at) (map (token_of names) ts) → StandAt (IsPlace source) ts
    tok_places [] k = tt
    tok_places (t ∷ ts) k = (k.0, tok_places ts k.1)

    fault_at : (f : Fault) → document (given_words names asked.budget) (unread toks (length source)) ≡ Err f → IsPlace source f.at
    fault_at f h = told (document (given_words names asked.budget) (unread toks (length source))) h
        (document_at (IsPlace source) (given_words names asked.budget) (first_place source (map (token_of names) toks) lexed) (evaluates_at (IsPlace source)
        (known_words names) asked.budget) (unread toks (length source)) (tok_places toks (token_places source (map (token_of names) toks) lexed))
        (end_place source (map (token_of names) toks) lexed)).stands
      where
        told : (m : Answer Compiled) → m ≡ Err f → Stands (IsPlace source) (FitsIn source) m → IsPlace source f.at
        told (Ok c) e k = absurd cc
        told (Err g) e k = (let same : g ≡ f = cc in subst (λ (g : Fault). IsPlace source g.at) same k)

    pub fault_place : (e : Refusal) → (r : Answer Compiled) → r ≡ document (given_words names asked.budget) (unread toks (length source)) → Fails e r
        → OnFault e (λ f. f.at ≤ length source)
    fault_place (refusals.Fault f) r is h = (fault_at f (sym is ∙ h)).within
    fault_place refusals.OutOfMemory r is h = tt

    pub fault_text : (e : Refusal) → (r : Answer Compiled) → r ≡ document (given_words names asked.budget) (unread toks (length source)) → Fails e r
        → OnFault e (λ f. IsUtf8 (take f.at source))
    fault_text (refusals.Fault f) r is h = (fault_at f (sym is ∙ h)).text
    fault_text refusals.OutOfMemory r is h = tt

-- ---- laws

-- each source has an outcome
pub some_outcome : (asked : Asked) (source : List ℕ) → (outcome : Answer Compiled) × IsOutcome asked source outcome
some_outcome asked source =
    (let some = some_tokens source in (some.0 >>= document_of evaluated asked (length source), of_tokens some.1 evaluated_is_the_answer))

-- and only one
pub one_outcome : (asked : Asked) (source : List ℕ) (a b : Answer Compiled) → IsOutcome asked source a → IsOutcome asked source b → a ≡ b
one_outcome asked source a b (of_tokens {tokens = s} {ev = e} t i) (of_tokens {tokens = r} {ev = f} u j) =
    ap (λ (ts : Answer (List Token)). ts >>= document_of e asked (length source)) (one_answer source s r t u)
    ∙ ap (λ (ev : Evaluation). r >>= document_of ev asked (length source)) (sym (is_evaluated e i) ∙ is_evaluated f j)

-- its tokens are drawn at its places, and what is drawn fits
module _ (asked : Asked) (source : List ℕ) where
  -- the tokens by numbers stand where the tokens stand
  by_numbers_places : (words : List (List ℕ)) (ts : List Token) → AllByRecursion (λ (t : Token). IsPlace source t.at) ts
      → StandAt (IsPlace source) (map (tok_of words) ts)
  by_numbers_places words [] k = tt
  by_numbers_places words (t ∷ ts) k = (k.0, by_numbers_places words ts k.1)

  drawn_at : (ts : List Token) → Lexes source (Ok ts)
      → Stands (IsPlace source) (FitsIn source) (document_of evaluated asked (length source) ts)
  drawn_at ts l =
      (document_at (IsPlace source) (given_for evaluated asked ts) (first_place source ts l)
      (evaluates_at (IsPlace source) (known_words (words_of ts)) asked.budget) (unread (map (tok_of (words_of ts)) ts) (length source))
      (by_numbers_places (words_of ts) ts (token_places source ts l)) (end_place source ts l)).stands

-- and its fault stands in it
module _ (asked : Asked) (source : List ℕ) (f : Fault) where
  met_place : (m : Answer Compiled) → m ≡ Err f → Stands (IsPlace source) (FitsIn source) m → IsPlace source f.at
  met_place (Ok c) e k = absurd cc
  met_place (Err g) e k = (let same : g ≡ f = cc in subst (λ (g : Fault). IsPlace source g.at) same k)

  drawn_place : (ev : Evaluation) → IsEvaluation ev → (ts : List Token) → Lexes source (Ok ts) → document_of ev asked (length source) ts ≡ Err f
      → IsPlace source f.at
  drawn_place ev i ts l e =
      met_place (document_of evaluated asked (length source) ts)
      (ap (λ (ev : Evaluation). document_of ev asked (length source) ts) (is_evaluated ev i) ∙ e)
      (drawn_at asked source ts l)

  answer_place : (ev : Evaluation) → IsEvaluation ev → (tokens : Answer (List Token)) → Lexes source tokens
      → (tokens >>= document_of ev asked (length source)) ≡ Err f → IsPlace source f.at
  answer_place ev i (Ok ts) l e = drawn_place ev i ts l e
  answer_place ev i (Err g) l e = (let same : g ≡ f = cc in subst (λ (g : Fault). IsPlace source g.at) same (refused_place source g l))

  outcome_place : (r : Answer Compiled) → IsOutcome asked source r → r ≡ Err f → IsPlace source f.at
  outcome_place r (of_tokens {tokens = s} {ev = ev} l i) e = answer_place ev i s l e

  pub fault_in_source : IsOutcome asked source (Err f) → IsPlace source f.at
  fault_in_source is = outcome_place (Err f) is refl

-- and its drawing fits an SVG document
module _ (asked : Asked) (source : List ℕ) (c : Compiled) where
  -- behind its end there is no place of it
  behind_end : IsPlace source (suc (length source)) → ⊥
  behind_end place = let within = place.within in omega arith

  met_fit : (m : Answer Compiled) → m ≡ Ok c → Stands (IsPlace source) (FitsIn source) m → Fits c.drawing
  met_fit (Ok d) e k = (let same : d ≡ c = cc in subst (λ (d : Compiled). Fits d.drawing) same (k (suc (length source)) behind_end))
  met_fit (Err g) e k = absurd cc

  drawn_fit : (ev : Evaluation) → IsEvaluation ev → (ts : List Token) → Lexes source (Ok ts) → document_of ev asked (length source) ts ≡ Ok c
      → Fits c.drawing
  drawn_fit ev i ts l e =
      met_fit (document_of evaluated asked (length source) ts)
      (ap (λ (ev : Evaluation). document_of ev asked (length source) ts) (is_evaluated ev i) ∙ e) (drawn_at asked source ts l)

  answer_fit : (ev : Evaluation) → IsEvaluation ev → (tokens : Answer (List Token)) → Lexes source tokens
      → (tokens >>= document_of ev asked (length source)) ≡ Ok c → Fits c.drawing
  answer_fit ev i (Ok ts) l e = drawn_fit ev i ts l e
  answer_fit ev i (Err g) l e = absurd cc

  outcome_fit : (r : Answer Compiled) → IsOutcome asked source r → r ≡ Ok c → Fits c.drawing
  outcome_fit r (of_tokens {tokens = s} {ev = ev} l i) e = answer_fit ev i s l e

  pub drawing_in_range : IsOutcome asked source (Ok c) → Fits c.drawing
  drawing_in_range is = outcome_fit (Ok c) is refl
