-- How a run goes on along commands and documents.
use Rattle.std.specs.Prelude.{ℕ, ◌+◌, nat_lt, List, [], ◌∷◌, length, Option, Some, None, Ok, Err, IfSome, codes}
use Rattle.std.proofs.Common.{refl, sym, subst, ◌∙◌, arith}
use Rattle.tk_token.specs.declared.Code.{Code}
use Rattle.tk_token.specs.declared.Code.TheVariants.{Budget, Levels, Unbuilt, UnknownCommand, EndMismatch}
use Rattle.tk_token.specs.declared.Tok.{Tok}
use Rattle.tk_token.specs.Answers.{Answer, ◌>>=◌, fault}
use Rattle.tk_token.specs.Texts.{tokens_of}
use Rattle.tk_token.specs.Spaces.{after_spaces}
use Rattle.tk_token.proofs.Fixpoint.{kept}
use Rattle.tk_expand.specs.Unread.{Unread, past_spaces}
use Rattle.tk_expand.specs.Reading.{next_token, after_name}
use Rattle.tk_expand.proofs.Going.{Going, then_going, if_going, weaker_going, gives, refused, begins}
use Rattle.tk_expand.proofs.NextPlaces.{TokenAt}
use Rattle.tk_expand.proofs.Places.{StandAt, Stands}
use Rattle.tk_keys.specs.Environment.{Env, first_env, level}
use Rattle.tk_keys.specs.Given.{Given}
use Rattle.tk_keys.specs.Settings.{Set, one_setting}
use Rattle.tk_keys.proofs.Reading.{Within, TokenWithin, spaces_at, spaces_within, token_within, after_name_within}
use Rattle.tk_keys.proofs.Entries.{EnvAt, text_stands}
use Rattle.tk_keys.proofs.Ran.{one_setting_at}
use Rattle.tk_keys.proofs.DeedPlaces.{EvaluatesAt}
use Rattle.tk_keys.proofs.Beginning.{first_env_at}
use Rattle.tk_keys.proofs.Sets.{SetAt}
use Rattle.tk_picture.specs.declared.Compiled.{Compiled}
use Rattle.tk_picture.specs.Commands.{BlockOpener, A_picture, A_scope, A_group, place_of_opener, Beginning, Begins_path, Opens_group, Closes_group}
use Rattle.tk_picture.specs.Commands.{Begins_environment, Ends_environment, Begins_later, Begins_other, beginning_of, Block, block, CommandFlow}
use Rattle.tk_picture.specs.Commands.{named_or, end_behind, styled_commands, set_or_unknown, command, command_at, commands_step, block_work, commands}
use Rattle.tk_path.specs.Keys.{with_env, with_list}
use Rattle.tk_path.specs.Configurations.{Configuration, stream_at, situation_at}
use Rattle.tk_picture.specs.Beginnings.{plain, path_begun, whole_path}
use Rattle.tk_picture.specs.Progress.{Progress, progress_at, with_progress}
use Rattle.tk_picture.specs.Documents.{is_word, compiled, first_configuration, nothing_after, picture_behind, document}
use Rattle.tk_path.specs.Flow.{Goes_on, Finishes, go_on}
use Rattle.tk_keys.proofs.Narrow.{IfNarrow}
use Rattle.tk_svg.specs.Fitting.{Fits}
use Rattle.tk_path.proofs.Places.{At, Here, passed, solid_here}
use Rattle.tk_path.proofs.Ranges.{first_in}
use Rattle.tk_picture.proofs.Fitting.{compiled_fits}
use Rattle.tk_picture.proofs.Returning.{Back, comes_back, goes_on_with}
use Rattle.tk_path.proofs.KeyMoves.{keys_here, style_here, styled_here}
use Rattle.tk_path.proofs.PathMoves.{path_here}

module _ (P : ℕ → Type 0) (given : Given) (begin : P 0) (values : EvaluatesAt P given) where
  level_at : (at : ℕ) (env : Env) → P at → EnvAt P env → Going P (EnvAt P) (level at env)
  level_at at env p h = if_going P (nat_lt env.levels 128) (gives P _ (record { bodies = h.bodies; entries = h.entries; graphics = h.graphics })) (refused P Levels at p)

  -- a name in braces, or its fault at a place
  pub named_at : (code : Code) (at : ℕ) (name : List ℕ) (list : Unread) → P at → StandAt P list.rest → P list.end
      → Going P (Within P (length list.rest) list.end) (named_or code at (after_name code name list))
  named_at code at name list p h last =
      by (after_name code name list) (after_name_within P (length list.rest) list.end code name list (record {
        short = omega arith;
        rest = h;
        same = refl;
        last = last;
      }))
    where
      by : (m : Answer Unread) → Stands P (Within P (length list.rest) list.end) m
          → Going P (Within P (length list.rest) list.end) (named_or code at m)
      by (Ok r) k = record { stands = k }
      by (Err f) k = record { stands = p }

  end_behind_at : (at : ℕ) (opener : BlockOpener) (list : Unread) → P at → StandAt P list.rest → P list.end
      → Going P (Within P (length list.rest) list.end) (end_behind at opener list)
  end_behind_at at (A_picture place) list p h last = named_at EndMismatch at (codes "tikzpicture") list p h last
  end_behind_at at (A_scope place) list p h last = named_at EndMismatch at (codes "scope") list p h last
  end_behind_at at (A_group place) list p h last = record { stands = p }

  module _ (from : Configuration) where
    -- what a command leaves
    abbrev pub PartAt : ℕ → CommandFlow → Type 0
    PartAt gone (Goes_on d) = Here P given from gone d
    PartAt gone (Finishes p) = Back P given from gone p

    -- in another environment
    in_env : (gone : ℕ) (c : Configuration) (inside : Env) → Here P given from gone c → EnvAt P inside → Here P given from gone (with_env inside c)
    in_env gone c inside h m = record {
      end = h.end;
      units = h.units;
      work = h.work;
      good = record { env = m; drawn = h.good.drawn; rest = h.good.rest; end = h.good.end };
    }

    -- over another list, which has no more tokens and the same end
    over_list : (gone : ℕ) (c : Configuration) (inside : Env) (list : Unread) → Here P given from gone c → EnvAt P inside
        → Within P (length c.list.rest) c.list.end list → Here P given from gone (with_env inside (with_list c list))
    over_list gone c inside list h m w = record {
      end = w.same ∙ h.end;
      units = h.units;
      work = (let a = h.work in let s = w.short in omega arith);
      good = record { env = m; drawn = h.good.drawn; rest = w.rest; end = w.last };
    }

    -- what a path begins with
    begun_here : (gone : ℕ) (keys : List ℕ) (at : ℕ) (c : Configuration) → P at → Here P given from gone c
        → Going P (Here P given from gone) (path_begun given keys at c)
    unfolding path_begun
    begun_here gone keys at c p h =
        then_going P (style_here P given begin values from gone at (codes "every path") (plain c) p (record {
          end = h.end;
          units = h.units;
          work = h.work;
          good = record {
            env = record { bodies = h.good.env.bodies; entries = h.good.env.entries; graphics = h.good.env.graphics };
            drawn = h.good.drawn;
            rest = h.good.rest;
            end = h.good.end;
          };
        })) (λ e a. keys_here P given begin values from gone at (tokens_of at keys) e p (text_stands P at keys p) a)

    whole_here : (gone : ℕ) (keys : List ℕ) (at : ℕ) (c : Configuration) → P at → Here P given from gone c
        → Going P (Here P given from gone) (whole_path given keys at c)
    unfolding whole_path
    whole_here gone keys at c p h =
        then_going P (begun_here gone keys at c p h) (λ begun a. path_here P given begin values from gone begun a)

    set_here : (gone at : ℕ) (c : Configuration) (set : Option Set) → P at → Here P given from gone c
        → IfSome set (SetAt P (situation_at c) c.list) → Going P (PartAt gone) (set_or_unknown at c set)
    set_here gone at c None p h k = record { stands = p }
    set_here gone at c (Some set) p h k = gives P _ (record {
      end = k.list.end ∙ h.end;
      units = (let a = k.now.units in let b = h.units in omega arith);
      work = (let a = k.now.units in let s = k.list.short in let b = h.work in omega arith);
      good = record { env = k.now.env; drawn = h.good.drawn; rest = k.list.rest; end = subst P (sym k.list.end) h.good.end };
    })

    -- what commands stand in has its place, and so has what they begin with
    pub record BlockAt (gone : ℕ) (b : Block) : Type 0 where
      pub opener : P (place_of_opener b.opener)
      pub start : Here P given from gone b.start

    module _ (rec : Block → Answer Progress) (moves : (gone : ℕ) (b : Block) → BlockAt gone b → Going P (Back P given from gone) (rec b)) where
      -- a style, options and commands
      pub styled_commands_here : (gone : ℕ) (name : List ℕ) (opener : BlockOpener) (c : Configuration) → P (place_of_opener opener)
          → Here P given from gone c → Going P (Back P given from gone) (styled_commands given rec name opener c)
      styled_commands_here gone name opener c o h =
          then_going P (styled_here P given begin values from gone (place_of_opener opener) name c o h) (λ e k.
          moves gone (block opener e) (record { opener = o; start = k }))

      command_here : (gone : ℕ) (b : Beginning) (t : Tok) (opener : BlockOpener) (c : Configuration) → P t.at → Here P given from gone c
          → Going P (PartAt gone) (command given rec b t opener c)
      command_here gone (Begins_path keys) t opener c p h =
          then_going P (level_at t.at c.env p h.good.env) (λ inside m.
          then_going P (whole_here gone keys t.at (with_env inside c) p (in_env gone c inside h m)) (λ end r.
          gives P _ (goes_on_with P given from gone gone c (progress_at end) h (comes_back P given from gone end r))))
      command_here gone Opens_group t opener c p h =
          then_going P (level_at t.at c.env p h.good.env) (λ inside m.
          then_going P (moves gone (block (A_group t.at) (with_env inside c)) (record { opener = p; start = in_env gone c inside h m })) (λ q r.
          gives P _ (goes_on_with P given from gone gone c q h r)))
      command_here gone Closes_group t (A_picture at) c p h = record { stands = p }
      command_here gone Closes_group t (A_scope at) c p h = record { stands = p }
      command_here gone Closes_group t (A_group at) c p h = gives P _ (comes_back P given from gone c h)
      command_here gone Begins_environment t opener c p h =
          then_going P (named_at UnknownCommand t.at (codes "scope") c.list p h.good.rest h.good.end) (λ list w.
          then_going P (level_at t.at c.env p h.good.env) (λ inside m.
          then_going P (styled_commands_here gone (codes "every scope") (A_scope t.at) (with_env inside (with_list c list)) p
          (over_list gone c inside list h m w)) (λ q r. gives P _ (goes_on_with P given from gone gone c q h r))))
      command_here gone Ends_environment t opener c p h =
          then_going P (end_behind_at t.at opener c.list p h.good.rest h.good.end) (λ list w.
          gives P _ (comes_back P given from gone (with_list c list) (over_list gone c c.env list h h.good.env w)))
      command_here gone Begins_later t opener c p h = record { stands = p }
      command_here gone Begins_other t opener c p h =
          then_going P {m = one_setting given t (situation_at c) c.list} (record {
            stands = one_setting_at P given values begin t (situation_at c)
                c.list p h.good.env (record { rest = h.good.rest; end = h.good.end });
          }) (λ set m. set_here gone t.at c set p h m)

      pub command_at_here : (gone : ℕ) (opener : BlockOpener) (token : Option Tok) (c : Configuration) → P (place_of_opener opener)
          → TokenAt P token → Here P given from gone c → Going P (PartAt gone) (command_at given rec opener token c)
      command_at_here gone opener None c o p h = record { stands = o }
      command_at_here gone opener (Some t) c o p h = command_here gone (beginning_of given.names t.kind) t opener c p h

      follows : (gone : ℕ) (opener : BlockOpener) (part : CommandFlow) → P (place_of_opener opener) → PartAt gone part
          → Going P (Back P given from gone) (go_on (λ next. rec (block opener next)) part)
      follows gone opener (Goes_on d) o a = moves gone (block opener d) (record { opener = o; start = a })
      follows gone opener (Finishes p) o a = gives P p a

      step_here : (gone : ℕ) (b : Block) → BlockAt gone b → Going P (Back P given from gone) (commands_step given rec b)
      step_here gone b k =
          then_going P (solid_here P given from gone b.start k.start) (λ first a.
          then_going P (command_at_here gone b.opener first.token first.behind k.opener a.token (passed P given from gone first a)) (λ part m.
          follows gone b.opener part k.opener m))

    pub commands_here : (gone : ℕ) (b : Block) → BlockAt gone b → Going P (Back P given from gone) (commands given b)
    unfolding commands
    commands_here gone b k = kept (block_work given) (fault Budget 0) (commands_step given)
        (λ b r. (gone : ℕ) → BlockAt gone b → Going P (Back P given from gone) r) (λ b gone k. record { stands = begin })
        (λ rec moves b gone k. step_here rec (λ gone b k. moves b gone k) gone b k) b gone k

  -- ---- documents

  -- what is drawn fits an SVG document
  abbrev pub FitsAt : Compiled → Type 0
  FitsAt c = IfNarrow P (Fits c.drawing)

  nothing_at : (c : Compiled) (ts : List Tok) → StandAt P ts → FitsAt c → Going P FitsAt (nothing_after c ts)
  nothing_at c [] h k = record { stands = k }
  nothing_at c (t ∷ ts) h k = record { stands = h.0 }

  picture_at : (at : ℕ) (list : Unread) → P at → StandAt P list.rest → P list.end
      → Going P FitsAt (picture_behind given at list)
  unfolding picture_behind
  picture_at at list p h last =
      then_going P {m = after_name Unbuilt (codes "tikzpicture") list} (record {
        stands = after_name_within P (length list.rest) list.end Unbuilt
            (codes "tikzpicture") list (record { short = omega arith; rest = h; same = refl; last = last });
      }) (λ inside w.
      then_going P (level_at at (first_env given) p (first_env_at P given begin)) (λ env b.
      let start = first_configuration env inside in
      then_going P (styled_commands_here start (commands given) (commands_here start) 0 (codes "every picture") (A_picture at) start p
      (begins given.budget stream_at (At P) start (record { env = b; drawn = (λ out beyond. first_in); rest = w.rest; end = w.last }))) (λ q r.
      nothing_at (compiled q.picture q.units) (after_spaces q.list.rest) (spaces_at P q.list.rest r.rest) (λ out beyond.
      compiled_fits q.picture q.units (r.drawn out beyond)))))

  pub document_at : (list : Unread) → StandAt P list.rest → P list.end → Going P FitsAt (document given list)
  unfolding document
  document_at list h last =
      then_going P {m = next_token Unbuilt (past_spaces list)} (record {
        stands = token_within P (length list.rest) list.end Unbuilt
            (past_spaces list) (spaces_within P (length list.rest) list.end list (record { short = omega arith; rest = h; same = refl; last = last }));
      })
      (λ first w.
      if_going P (is_word given.names (codes "begin") first.value.kind)
      (picture_at first.value.at first.list w.token w.list.rest w.list.last) (record { stands = w.token }))
