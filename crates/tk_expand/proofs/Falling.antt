-- Expansion spends units or takes tokens: the work that is left never rises, so that no step is cut short.
use Rattle.std.specs.Prelude.{◌≡◌, ℕ, ◌+◌, ◌<◌, ◌≤◌, Bool, true, false, nat_lt, if◌then◌else◌, List, [], ◌∷◌, length, Option, Some, None, Ok, Err}
use Rattle.std.specs.Prelude.{IfOk}
use Rattle.std.specs.Option.{option_to_list}
use Rattle.std.proofs.Common.{refl, ◌∙◌, ap, arith, length-append}
use Rattle.std.proofs.lemmas.Bool.{ltb-false}
use Rattle.tk_token.specs.declared.Kind.{Kind}
use Rattle.tk_token.specs.declared.Tok.{Tok}
use Rattle.tk_token.specs.declared.Code.TheVariants.{Budget}
use Rattle.tk_token.specs.Answers.{Answer, ◌>>=◌, fault}
use Rattle.tk_token.specs.Groups.{Cut}
use Rattle.tk_token.specs.Kinds.{is_space}
use Rattle.tk_token.specs.Recursion.{by_size, AsksSmaller}
use Rattle.tk_token.proofs.Answering.{then_holds, then_alike}
use Rattle.tk_token.proofs.Fixpoint.{kept, independent, unbounded}
use Rattle.tk_store.specs.declared.Macro.{Macro}
use Rattle.tk_store.specs.Levels.{Macros}
use Rattle.tk_expand.specs.Arguments.{call_text}
use Rattle.tk_expand.specs.Expand.{pay, Stream, with_rest, work, called_by, replaced, front_token, front_list, front_step, front, full_list}
use Rattle.tk_expand.specs.Expand.{full_step, full}
use Rattle.tk_expand.specs.Reading.{Next, first_taken, is_there, next, next_solid_step, next_solid}
use Rattle.tk_expand.proofs.Lengths.{text_rest}

-- a payment that was made is within the budget
pub paid_units_are_within : (budget units cost at : ℕ) → IfOk (pay budget units cost at) (λ now. (now ≡ units + cost) × (now ≤ budget))
paid_units_are_within budget units cost at = go (nat_lt budget (units + cost)) refl
  where
    go : (b : Bool) → nat_lt budget (units + cost) ≡ b
        → IfOk (if b then fault Budget at else Ok (units + cost)) (λ now. (now ≡ units + cost) × (now ≤ budget))
    go true e = tt
    go false e = (refl, ltb-false _ _ e)

-- a token that is there is one token
pub one_there : (wanted : Kind → Bool) (token : Option Tok) → is_there wanted token ≡ true → length (option_to_list token) ≡ 1
one_there wanted None h = absurd cc
one_there wanted (Some t) h = omega arith

-- ---- from one stream to a later one

module _ (budget : ℕ) where
  -- the list ends at the same place, units don't fall, and the work that is left doesn't rise
  pub record Falls (s r : Stream) : Type 0 where
    pub end : r.list.end ≡ s.list.end
    pub units : s.units ≤ r.units
    pub work_falls : work budget r ≤ work budget s

  -- and the work that is left is less
  pub record LessLeft (s r : Stream) : Type 0 where
    pub end : r.list.end ≡ s.list.end
    pub units : s.units ≤ r.units
    pub less : work budget r < work budget s

  -- and a token that was taken is work that is gone
  pub record Takes (s : Stream) (n : Next) : Type 0 where
    pub end : n.stream.list.end ≡ s.list.end
    pub units : s.units ≤ n.stream.units
    pub work_falls : work budget n.stream + length (option_to_list n.token) ≤ work budget s

  pub same_falls : (s : Stream) → Falls s s
  same_falls s = record { end = refl; units = omega arith; work_falls = omega arith }

  pub falls_then : (s r q : Stream) → Falls s r → Falls r q → Falls s q
  falls_then s r q f g = record {
    end = g.end ∙ f.end;
    units = (let a = f.units in let b = g.units in omega arith);
    work_falls = (let a = f.work_falls in let b = g.work_falls in omega arith);
  }

  pub less_falls : (s r : Stream) → LessLeft s r → Falls s r
  less_falls s r f = record { end = f.end; units = f.units; work_falls = (let a = f.less in omega arith) }

  pub takes_falls : (s : Stream) (n : Next) → Takes s n → Falls s n.stream
  takes_falls s n f = record { end = f.end; units = f.units; work_falls = (let a = f.work_falls in omega arith) }

  pub falls_takes : (s r : Stream) (n : Next) → Falls s r → Takes r n → Takes s n
  falls_takes s r n f g = record {
    end = g.end ∙ f.end;
    units = (let a = f.units in let b = g.units in omega arith);
    work_falls = (let a = f.work_falls in let b = g.work_falls in omega arith);
  }

  -- each value that holds so holds from an earlier stream on
  pub further : (s r : Stream) (answer : Answer Stream) → Falls s r → IfOk answer (Falls r) → IfOk answer (Falls s)
  further s r (Ok q) f g = falls_then s r q f g
  further s r (Err e) f g = tt

  pub takes_further : (s r : Stream) (answer : Answer Next) → Falls s r → IfOk answer (Takes r) → IfOk answer (Takes s)
  takes_further s r (Ok n) f g = falls_takes s r n f g
  takes_further s r (Err e) f g = tt

  -- ---- calls

  -- a call, behind whose word the stream is s, is replaced: more units are spent than tokens come
  pub record Spends (s r : Stream) : Type 0 where
    pub end : r.list.end ≡ s.list.end
    pub units : s.units < r.units
    pub work_falls : work budget r ≤ work budget s

  pub replaced_spends : (called : Macro) (at : ℕ) (s : Stream) → IfOk (replaced budget called at s) (Spends s)
  unfolding replaced
  replaced_spends called at s =
      then_holds (λ (c : Cut). length c.rest ≤ length s.list.rest) (Spends s) (call_text called at s.list.rest) _
      (text_rest called at s.list.rest) (λ c short.
      then_holds (λ now. (now ≡ s.units + (1 + length c.front)) × (now ≤ budget)) (Spends s) (pay budget s.units (1 + length c.front) at) _
      (paid_units_are_within budget s.units (1 + length c.front) at) (λ now p.
      record { end = refl; units = omega arith; work_falls = omega (arith, length-append c.front c.rest) }))

  -- the word of the call was work too
  pub call_less : (s r : Stream) (t : Tok) (ts : List Tok) → s.list.rest ≡ t ∷ ts → Spends (with_rest s ts) r → LessLeft s r
  call_less s r t ts e p = record {
    end = p.end;
    units = (let a = p.units in omega arith);
    less = (let a = p.work_falls in omega (arith, ap length e));
  }

module _ (budget : ℕ) (macros : Macros) where
  -- ---- the front of a list

  front_token_falls : (rec : Stream → Answer Stream) → ((s : Stream) → IfOk (rec s) (Falls budget s)) → (s : Stream) (t : Tok) (ts : List Tok)
      → s.list.rest ≡ t ∷ ts → (called : Option Macro) → IfOk (front_token budget macros rec s t ts called) (Falls budget s)
  front_token_falls rec h s t ts e None = same_falls budget s
  front_token_falls rec h s t ts e (Some called) =
      then_holds (Spends budget (with_rest s ts)) (Falls budget s) (replaced budget called t.at (with_rest s ts)) _ (replaced_spends budget called
      t.at (with_rest s ts)) (λ r p.
      further budget s r (rec r) (less_falls budget s r (call_less budget s r t ts e p)) (h r))

  front_list_falls : (rec : Stream → Answer Stream) → ((s : Stream) → IfOk (rec s) (Falls budget s)) → (s : Stream) (ts : List Tok) → s.list.rest ≡ ts
      → IfOk (front_list budget macros rec s ts) (Falls budget s)
  front_list_falls rec h s [] e = same_falls budget s
  front_list_falls rec h s (t ∷ ts) e = front_token_falls rec h s t ts e (called_by macros t.kind)

  pub front_falls : (s : Stream) → IfOk (front budget macros s) (Falls budget s)
  unfolding front
  front_falls = kept (work budget) (fault Budget 0) (front_step budget macros) (λ s r. IfOk r (Falls budget s)) (λ s. tt) (λ f h s. front_list_falls f
      h s s.list.rest refl)

  module _ (f g : Stream → Answer Stream) (s : Stream) (alike : (r : Stream) → work budget r < work budget s → f r ≡ g r) where
    front_token_alike : (t : Tok) (ts : List Tok) → s.list.rest ≡ t ∷ ts → (called : Option Macro)
        → front_token budget macros f s t ts called ≡ front_token budget macros g s t ts called
    front_token_alike t ts e None = refl
    front_token_alike t ts e (Some called) =
        then_alike (Spends budget (with_rest s ts)) (replaced budget called t.at (with_rest s ts)) f g (replaced_spends budget called t.at
        (with_rest s ts)) (λ r p. alike r (call_less budget s r t ts e p).less)

    front_list_alike : (ts : List Tok) → s.list.rest ≡ ts → front_list budget macros f s ts ≡ front_list budget macros g s ts
    front_list_alike [] e = refl
    front_list_alike (t ∷ ts) e = front_token_alike t ts e (called_by macros t.kind)

  front_asks : AsksSmaller (work budget) (front_step budget macros)
  front_asks f g s alike = front_list_alike f g s alike s.list.rest refl

  pub front_is : (s : Stream) → front budget macros s ≡ front_step budget macros (front budget macros) s
  unfolding front
  front_is s = unbounded (work budget) (fault Budget 0) (front_step budget macros) front_asks s

  pub front_stuck : (stuck : Answer Stream) (s : Stream) → front budget macros s ≡ by_size (work budget) stuck (front_step budget macros) s
  unfolding front
  front_stuck stuck s = independent (work budget) (front_step budget macros) front_asks (fault Budget 0) stuck s

  -- ---- a full expansion

  module _ (f g : Stream → Answer Stream) (s : Stream) (alike : (r : Stream) → work budget r < work budget s → f r ≡ g r) where
    full_list_alike : (m : Stream) → Falls budget s m → (ts : List Tok) → m.list.rest ≡ ts
        → full_list budget macros f m ts ≡ full_list budget macros g m ts
    full_list_alike m fell [] e = refl
    full_list_alike m fell (t ∷ ts) e =
        ap (λ (r : Answer Stream). r >>= λ more. Ok (with_rest more (t ∷ more.list.rest))) (alike (with_rest m ts) (let a = fell.work_falls in omega
        (arith, ap length e)))

  full_asks : AsksSmaller (work budget) (full_step budget macros)
  full_asks f g s alike =
      then_alike (Falls budget s) (front budget macros s) _ _ (front_falls s) (λ m fell. full_list_alike f g s alike m fell m.list.rest refl)

  pub full_is : (s : Stream) → full budget macros s ≡ full_step budget macros (full budget macros) s
  unfolding full
  full_is s = unbounded (work budget) (fault Budget 0) (full_step budget macros) full_asks s

  pub full_stuck : (stuck : Answer Stream) (s : Stream) → full budget macros s ≡ by_size (work budget) stuck (full_step budget macros) s
  unfolding full
  full_stuck stuck s = independent (work budget) (full_step budget macros) full_asks (fault Budget 0) stuck s

  -- ---- the next token

  taken_from : (s m : Stream) → Falls budget s m → (ts : List Tok) → m.list.rest ≡ ts → Takes budget s (first_taken m ts)
  taken_from s m f [] e = record { end = f.end; units = f.units; work_falls = (let a = f.work_falls in omega arith) }
  taken_from s m f (t ∷ ts) e = record { end = f.end; units = f.units; work_falls = (let a = f.work_falls in omega (arith, ap length e)) }

  pub next_takes : (s : Stream) → IfOk (next budget macros s) (Takes budget s)
  unfolding next
  next_takes s = then_holds (Falls budget s) (Takes budget s) (front budget macros s) _ (front_falls s) (λ m f. taken_from s m f m.list.rest refl)

  solid_from : (rec : Stream → Answer Next) → ((s : Stream) → IfOk (rec s) (Takes budget s)) → (s : Stream) (n : Next) → Takes budget s n → (b : Bool)
      → IfOk (if b then rec n.stream else Ok n) (Takes budget s)
  solid_from rec h s n f true = takes_further budget s n.stream (rec n.stream) (takes_falls budget s n f) (h n.stream)
  solid_from rec h s n f false = f

  pub next_solid_takes : (s : Stream) → IfOk (next_solid budget macros s) (Takes budget s)
  unfolding next_solid
  next_solid_takes = kept (work budget) (fault Budget 0) (next_solid_step budget macros) (λ s r. IfOk r (Takes budget s)) (λ s. tt) (λ rec h s.
      then_holds (Takes budget s) (Takes budget s) (next budget macros s) _ (next_takes s) (λ n f. solid_from rec h s n f
      (is_there is_space n.token)))

  chosen_alike : (f g : Stream → Answer Next) (n : Next) (b : Bool) → (b ≡ true → f n.stream ≡ g n.stream)
      → ◌≡◌ {A = Answer Next} (if b then f n.stream else Ok n) (if b then g n.stream else Ok n)
  chosen_alike f g n true h = h refl
  chosen_alike f g n false h = refl

  solid_asks : AsksSmaller (work budget) (next_solid_step budget macros)
  solid_asks f g s alike = then_alike (Takes budget s) (next budget macros s) _ _ (next_takes s) (λ n fell.
      chosen_alike f g n (is_there is_space n.token) (λ h. alike n.stream (let a = fell.work_falls in omega (arith, one_there is_space n.token h))))

  pub solid_is : (s : Stream) → next_solid budget macros s ≡ next_solid_step budget macros (next_solid budget macros) s
  unfolding next_solid
  solid_is s = unbounded (work budget) (fault Budget 0) (next_solid_step budget macros) solid_asks s

  pub solid_stuck : (stuck : Answer Next) (s : Stream) → next_solid budget macros s ≡ by_size (work budget) stuck (next_solid_step budget macros) s
  unfolding next_solid
  solid_stuck stuck s = independent (work budget) (next_solid_step budget macros) solid_asks (fault Budget 0) stuck s
