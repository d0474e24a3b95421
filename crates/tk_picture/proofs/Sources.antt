-- What is known of the tokens of a source, and of its fault.
use Rattle.std.proofs.Common.{◌≡◌, ℕ, ◌<◌, ◌≤◌, List, [], ◌∷◌, length, take, Ok, Err, subst, sym, arith}
use Rattle.std.specs.List.{AllByRecursion}
use Rattle.std.specs.Str.{IsUtf8}
use Rattle.std.proofs.lemmas.List.{take_all}
use Rattle.std.proofs.lemmas.Str.{IsUtf8-nil}
use Rattle.tk_token.specs.declared.Fault.{Fault}
use Rattle.tk_token.specs.Answers.{Answer}
use Rattle.tk_token.specs.Faults.{Lexes}
use Rattle.tk_token.specs.Token.{Token}
use Rattle.tk_token.proofs.Faulty.{before_fault, before_tokens}
use Rattle.tk_token.proofs.Total.{each_source_lexes}
use Rattle.tk_token.proofs.Unique.{lexes_same}
use Rattle.tk_picture.specs.Outcome.{IsPlace}

-- each source is cut or refused
pub some_tokens : (source : List ℕ) → (answer : Answer (List Token)) × Lexes source answer
some_tokens = each_source_lexes

-- in one way
pub one_answer : (source : List ℕ) (a b : Answer (List Token)) → Lexes source a → Lexes source b → a ≡ b
one_answer = lexes_same

-- its fault has a place
pub refused_place : (source : List ℕ) (f : Fault) → Lexes source (Err f) → IsPlace source f.at
refused_place source f l = let at = before_fault source (Err f) l in record { within = at.0; text = at.1 }

all_places : (source : List ℕ) (ts : List Token) → AllByRecursion (λ (t : Token). (t.at < length source) × IsUtf8 (take t.at source)) ts
    → AllByRecursion (λ (t : Token). IsPlace source t.at) ts
all_places source [] h = tt
all_places source (t ∷ ts) h = (record { within = (let k = h.0.0 in omega (arith, k)); text = h.0.1 }, all_places source ts h.1)

-- so have its tokens
pub token_places : (source : List ℕ) (ts : List Token) → Lexes source (Ok ts) → AllByRecursion (λ (t : Token). IsPlace source t.at) ts
token_places source ts l = all_places source ts (before_tokens source (Ok ts) l).1

-- and its end
pub end_place : (source : List ℕ) (ts : List Token) → Lexes source (Ok ts) → IsPlace source (length source)
end_place source ts l = record {
  within = omega arith;
  text = subst IsUtf8 (sym (take_all (length source) source (omega arith)))
      (before_tokens source (Ok ts) l).0;
}

-- and its beginning
pub first_place : (source : List ℕ) (ts : List Token) → Lexes source (Ok ts) → IsPlace source 0
first_place source ts l = record { within = omega arith; text = IsUtf8-nil }
