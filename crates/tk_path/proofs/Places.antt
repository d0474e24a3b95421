-- Where a run stands in a picture. Since it began so much of its work is gone, and bodies, tokens and the end of the list
-- stand at certain places, as its faults do. At first P is any set of places: the laws of recursion take all places, and the
-- law that faults stand within the source those within it.
use Rattle.std.specs.Prelude.{ℕ, suc, ◌+◌, Bool, length, Option, Some, None, Ok}
use Rattle.std.specs.Option.{option_to_list}
use Rattle.std.proofs.Common.{sym, subst, ◌∙◌, arith}
use Rattle.tk_token.specs.declared.Code.TheVariants.{PathSyntax}
use Rattle.tk_token.specs.declared.Kind.{Kind}
use Rattle.tk_token.specs.declared.Tok.{Tok}
use Rattle.tk_token.specs.Answers.{Answer}
use Rattle.tk_expand.specs.Reading.{Next, taken, is_there, next, next_solid}
use Rattle.tk_expand.proofs.Falling.{Takes, next_takes, next_solid_takes}
use Rattle.tk_expand.proofs.Going.{Standing, Going, then_going, if_going, gives, refused, less_gone}
use Rattle.tk_expand.proofs.NextPlaces.{TokenAt, NextAt, next_at, next_solid_at, place_at}
use Rattle.tk_expand.proofs.Places.{StandAt}
use Rattle.tk_keys.specs.Given.{Given}
use Rattle.tk_keys.proofs.Entries.{EnvAt}
use Rattle.tk_keys.proofs.Narrow.{IfNarrow}
use Rattle.tk_keys.proofs.Standing.{both_at}
use Rattle.tk_path.specs.Configurations.{Configuration, Reached, stream_at, with_stream, Lookahead, lookahead, place_ahead, must_be, token_ahead}
use Rattle.tk_path.specs.Configurations.{ahead_of}
use Rattle.tk_path.specs.Targets.{origin_of}
use Rattle.tk_path.proofs.Ranges.{PathIn, PictureIn}
use Rattle.tk_affine.specs.Images.{IsPoint}

-- nothing is known of a value
abbrev pub AnyValue : {A : Type 0} → A → Type 0
AnyValue a = Unit {0}

module _ (P : ℕ → Type 0) where
  -- bodies, tokens and the end of the list stand at such places, and what is drawn is in range
  pub record At (c : Configuration) : Type 0 where
    pub env : EnvAt P c.env
    pub drawn : IfNarrow P (PictureIn c.picture)
    pub rest : StandAt P c.list.rest
    pub end : P c.list.end

  -- so are the point to which the matrix takes the origin, and the path that is read
  pub origin_at : (c : Configuration) → At c → IfNarrow P (IsPoint (origin_of c.env))
  origin_at c h out beyond = let m = (h.env.graphics out beyond).0 in record { x = m.tx; y = m.ty }

  pub path_at : (c : Configuration) → At c → IfNarrow P (PathIn c.picture.path)
  path_at c h out beyond = (h.drawn out beyond).1

module _ (P : ℕ → Type 0) (given : Given) (from : Configuration) where
  -- the run from there stands here, and so much of its work is gone
  abbrev pub Here : ℕ → Configuration → Type 0
  Here gone c = Standing given.budget stream_at (At P) from gone c

  -- the same behind a value of that kind
  abbrev pub HereWith : {A : Type 0} → (A → Type 0) → ℕ → Reached A → Type 0
  HereWith Q gone r = Q r.value × Here gone r.behind

  -- the same behind a token that was taken, if there was one
  pub record Taken (gone : ℕ) (ahead : Lookahead) : Type 0 where
    pub token : TokenAt P ahead.token
    pub here : Here (gone + length (option_to_list ahead.token)) ahead.behind

  -- that a token is gone may be forgotten
  pub less : (gone : ℕ) (c : Configuration) → Here (gone + 1) c → Here gone c
  less gone c h = less_gone given.budget stream_at (At P) from gone 1 c h

  -- a token is passed over
  pub passed : (gone : ℕ) (ahead : Lookahead) → Taken gone ahead → Here gone ahead.behind
  passed gone ahead k = record {
    end = k.here.end;
    units = k.here.units;
    work = (let a = k.here.work in omega arith);
    good = k.here.good;
  }

  -- the place of that token, or of the list's end
  pub place_taken : (gone : ℕ) (ahead : Lookahead) → Taken gone ahead → P (place_ahead ahead)
  place_taken gone ahead k = place_at P ahead.behind.list.end ahead.token k.here.good.end k.token

  taken_here : (gone : ℕ) (c : Configuration) (n : Next) → Here gone c → NextAt P n × Takes given.budget (stream_at c) n
      → Taken gone (lookahead n.token (with_stream c n.stream))
  taken_here gone c n h k = record {
    token = k.0.0;
    here = record {
      end = k.1.end ∙ h.end;
      units = (let a = h.units in let b = k.1.units in omega arith);
      work = (let a = h.work in let b = k.1.work_falls in omega arith);
      good = record { env = h.good.env; drawn = h.good.drawn; rest = k.0.1; end = subst P (sym k.1.end) h.good.end };
    };
  }

  -- the next token
  pub token_here : (gone : ℕ) (c : Configuration) → Here gone c → Going P (Taken gone) (token_ahead given c)
  unfolding token_ahead
  token_here gone c h =
      then_going P {m = next given.budget c.env.macros (stream_at c)}
      (record {
        stands = both_at P (NextAt P) (Takes given.budget (stream_at c)) (next given.budget c.env.macros (stream_at c))
            (next_at P given.budget c.env.macros h.good.env.bodies (stream_at c) h.good.rest) (next_takes given.budget c.env.macros (stream_at c));
      })
      (λ n k. gives P _ (taken_here gone c n h k))

  -- the next token that is no Space
  pub solid_here : (gone : ℕ) (c : Configuration) → Here gone c → Going P (Taken gone) (ahead_of given c)
  unfolding ahead_of
  solid_here gone c h =
      then_going P {m = next_solid given.budget c.env.macros (stream_at c)}
      (record {
        stands = both_at P (NextAt P) (Takes given.budget (stream_at c)) (next_solid given.budget c.env.macros (stream_at c))
            (next_solid_at P given.budget c.env.macros h.good.env.bodies (stream_at c) h.good.rest)
            (next_solid_takes given.budget c.env.macros (stream_at c));
      })
      (λ n k. gives P _ (taken_here gone c n h k))

  must_here : (gone : ℕ) (wanted : Kind → Bool) (token : Option Tok) (d : Configuration) → Taken gone (lookahead token d)
      → Going P (Here (gone + 1)) (must_be wanted (lookahead token d))
  unfolding must_be
  must_here gone wanted None d k = refused P PathSyntax d.list.end k.here.good.end
  must_here gone wanted (Some t) d k = if_going P (wanted t.kind) (gives P d k.here) (refused P PathSyntax t.at k.token)

  -- a token that has to be such a one
  pub wanted_here : (gone : ℕ) (wanted : Kind → Bool) (first : Lookahead) → Taken gone first → Going P (Here (gone + 1)) (must_be wanted first)
  wanted_here gone wanted first k = must_here gone wanted first.token first.behind k
