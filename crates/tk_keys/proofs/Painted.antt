-- What the key lists `draw` and `fill` come to, while these keys are those that are there from the beginning.
use Rattle.std.specs.Prelude.{◌≡◌, ◌<◌, ℕ, suc, Bool, true, nat_lt, if◌then◌else◌, List, [], ◌∷◌, Option, Some, None, Ok, refl, codes}
use Rattle.std.proofs.Common.{ap, sym, ◌∙◌}
use Rattle.std.proofs.lemmas.Bool.{lt-ltb}
use Rattle.std.specs.Str.{chars}
use lib.Utf8.{encode}
use Rattle.tk_token.specs.declared.Code.TheVariants.{UnknownKey, KeyDepth}
use Rattle.tk_token.specs.declared.Tok.{Tok}
use Rattle.tk_token.specs.Answers.{Answer, ◌>>=◌, fault, or_fault}
use Rattle.tk_token.specs.Groups.{first_outside_in}
use Rattle.tk_token.specs.Recursion.{by_size, within}
use Rattle.tk_token.specs.Spaces.{before_spaces}
use Rattle.tk_token.specs.Texts.{characters_of, text_in, tokens_of}
use Rattle.tk_token.proofs.Answering.{then_is}
use Rattle.tk_native.specs.declared.PaintKey.{PaintKey}
use Rattle.tk_native.specs.declared.PaintKey.TheVariants.{Draw, Fill}
use Rattle.tk_store.specs.declared.Entry.{Entry}
use Rattle.tk_expand.specs.Expand.{Stream, stream, full, is_expanded}
use Rattle.tk_expand.specs.Unread.{unread}
use Rattle.tk_expand.proofs.Finished.{full_own}
use Rattle.tk_expr.specs.Evaluates.{Evaluation}
use Rattle.tk_keytext.specs.Parts.{KeyPart, parts_of}
use Rattle.tk_keytext.specs.Paths.{full_path}
use Rattle.tk_look.specs.Applied.{set_look}
use Rattle.tk_look.specs.Graphics.{graphics_by}
use Rattle.tk_keys.specs.Environment.{Env, Situation, with_paid}
use Rattle.tk_keys.specs.Given.{Given}
use Rattle.tk_keys.specs.Keys.{Effect, Named, done, expanded_name, use_entry, used_or, key as used_key, part}
use Rattle.tk_keys.specs.Settings.{Ending, with_lists, A_key_list, text_run, parts, runs}
use Rattle.tk_keys.specs.State.{State, env_of, given_of, situation_of, ending_of}
use Rattle.tk_keys.proofs.Ran.{list_is}
use Rattle.tk_keys.specs.Painting.{paint_name, PaintsAlone, painting}

-- the default path of these lists
abbrev tikz : List ℕ
tikz = codes "/tikz"

-- the full path of a key
abbrev path_of : PaintKey → List ℕ
path_of key = full_path tikz (paint_name key)

-- the part that is a key alone
abbrev pub part_alone : ℕ → PaintKey → KeyPart
part_alone at key = record { name = tokens_of at (paint_name key); value = None; at = at }

-- what it leaves, which is nothing to run
abbrev painted : PaintKey → Situation → Effect
painted key s = record { deed = done (painting key s); dir = tikz }

-- where a list ends
abbrev ended : Situation → Answer Ending
ended s = Ok (record { now = s; dir = tikz })

module _ (given : Given) (at : ℕ) (s : Situation) where
  -- nothing in the name calls
  calls_nothing : (key : PaintKey) → is_expanded s.env.macros (tokens_of at (paint_name key)) ≡ true
  unfolding chars
  calls_nothing Draw = refl
  calls_nothing Fill = refl

  -- its tokens have its text
  spelled : (key : PaintKey) → text_in (tokens_of at (paint_name key)) ≡ Some (paint_name key)
  unfolding chars characters_of encode
  spelled Draw = refl
  spelled Fill = refl

  -- a name behind which so many units are paid
  abbrev named : ℕ → Option (List ℕ) → Answer Named
  named units o = or_fault o UnknownKey at >>= λ name. Ok (record { name = name; now = with_paid s units })

  -- the name of the part
  abbrev name_here : PaintKey → Answer Named
  name_here key = expanded_name given UnknownKey at (tokens_of at (paint_name key)) s

  name_is : (key : PaintKey) → name_here key ≡ Ok (record { name = paint_name key; now = s })
  name_is key =
      let from : Stream = stream s.units (unread (tokens_of at (paint_name key)) at) in
      let own = full_own given.budget s.env.macros from (calls_nothing key) in
      then_is (full given.budget s.env.macros from) (λ (r : Stream). named r.units (text_in r.list.rest)) from own
      ∙ ap (named s.units) (spelled key)

  -- what is done with a key, by what stands at its path
  abbrev key_by : PaintKey → Option Entry → Answer Effect
  key_by key o = use_entry given at (path_of key) o None s >>= λ used. used_or given at used (path_of key) None tikz s

  -- what the key at its path leaves
  key_is : (key : PaintKey) → PaintsAlone s.env key → used_key given at (path_of key) None tikz s ≡ Ok (painted key s)
  unfolding graphics_by set_look
  key_is Draw (stored, is) = ap (key_by Draw) is
  key_is Fill (stored, is) = ap (key_by Fill) is

  -- what a part leaves that has that name
  abbrev part_named : Named → Answer Effect
  part_named n = used_key given at (full_path tikz n.name) None tikz n.now

  -- what the part leaves
  pub part_is : (key : PaintKey) → PaintsAlone s.env key → part given (part_alone at key) tikz s ≡ Ok (painted key s)
  unfolding part
  part_is key alone = then_is (name_here key) part_named (record { name = paint_name key; now = s }) (name_is key) ∙ key_is key alone

-- ---- lists

module _ (given : Given) (at : ℕ) where
  abbrev parts_here : List KeyPart → Situation → Answer Ending
  parts_here ps s = parts given (runs given) ps tikz s

  -- a key alone, and the parts behind it
  parts_alone : (key : PaintKey) (ps : List KeyPart) (s : Situation) → PaintsAlone s.env key
      → parts_here (part_alone at key ∷ ps) s ≡ parts_here ps (painting key s)
  unfolding parts
  parts_alone key ps s alone =
      ap (λ (a : Answer Effect). a >>= (λ e. text_run given (runs given) at e.deed.text e.dir e.deed.now)
      >>= λ after. parts given (runs given) ps after.dir after.now) (part_is given at s key alone)

  no_parts : (s : Situation) → parts_here [] s ≡ ended s
  unfolding parts
  no_parts s = refl

  -- the parts of the lists
  one_part : (key : PaintKey) → parts_of (tokens_of at (paint_name key)) ≡ part_alone at key ∷ []
  unfolding chars parts_of by_size within first_outside_in before_spaces
  one_part Draw = refl
  one_part Fill = refl

  two_parts : parts_of (tokens_of at (codes "draw,fill")) ≡ part_alone at Draw ∷ (part_alone at Fill ∷ [])
  unfolding chars parts_of by_size within first_outside_in before_spaces
  two_parts = refl

  module _ (s : Situation) (few : nat_lt s.env.lists 256 ≡ true) where
    -- one more key list runs
    abbrev inside : Situation
    inside = record s { env = record s.env { lists = suc s.env.lists } }

    -- that list has ended
    abbrev left : Answer Ending → Answer Ending
    left answer = answer >>= λ after. Ok (with_lists after s.env.lists)

    -- where the list ends that is written so
    abbrev run_of : List ℕ → Answer Ending
    run_of text = runs given (A_key_list s tikz (tokens_of at text) at)

    -- the parts of a list, once it runs
    abbrev run_in : List Tok → Answer Env → Answer Ending
    run_in list opened = opened >>= λ env. left (parts_here (parts_of list) (record s { env = env }))

    list_starts : (text : List ℕ) (ps : List KeyPart) → parts_of (tokens_of at text) ≡ ps → run_of text ≡ left (parts_here ps inside)
    list_starts text ps is =
        list_is given s tikz (tokens_of at text) at
        ∙ ap (λ (b : Bool). run_in (tokens_of at text) (if b then Ok inside.env else fault KeyDepth at)) few
        ∙ ap (λ (ps : List KeyPart). left (parts_here ps inside)) is

    -- `draw` or `fill`
    pub list_paints : (key : PaintKey) → PaintsAlone s.env key → run_of (paint_name key) ≡ ended (painting key s)
    list_paints key alone =
        list_starts (paint_name key) (part_alone at key ∷ []) (one_part key)
        ∙ ap left (parts_alone key [] inside alone ∙ no_parts (painting key inside))

    -- `draw,fill`
    pub both_paint : PaintsAlone s.env Draw → PaintsAlone s.env Fill → run_of (codes "draw,fill") ≡ ended (painting Fill (painting Draw s))
    both_paint draws fills =
        list_starts (codes "draw,fill") (part_alone at Draw ∷ (part_alone at Fill ∷ [])) two_parts
        ∙ ap left (parts_alone Draw (part_alone at Fill ∷ []) inside draws
        ∙ parts_alone Fill [] (painting Draw inside) fills
        ∙ no_parts (painting Fill (painting Draw inside)))

-- ---- the same of the code's state

module _ (ev : Evaluation) (at : ℕ) (old : State) (few : old.lists < 256) (text : List ℕ) where
  abbrev run_here : List ℕ → Answer Ending
  run_here text = runs (given_of ev old) (A_key_list (situation_of old) tikz (tokens_of at text) at)

  pub paints : (key : PaintKey) → text ≡ paint_name key → PaintsAlone (env_of old) key
      → (new : State) → situation_of new ≡ painting key (situation_of old)
      → run_here text ≡ Ok (ending_of new tikz)
  paints key is alone new set =
      ap run_here is ∙ list_paints (given_of ev old) at (situation_of old) (lt-ltb old.lists 256 few) key alone ∙ ap ended (sym set)

  pub both : text ≡ codes "draw,fill" → PaintsAlone (env_of old) Draw → PaintsAlone (env_of old) Fill
      → (mid : State) → situation_of mid ≡ painting Draw (situation_of old)
      → (new : State) → situation_of new ≡ painting Fill (situation_of mid)
      → run_here text ≡ Ok (ending_of new tikz)
  both is draws fills mid first new second =
      ap run_here is
      ∙ both_paint (given_of ev old) at (situation_of old) (lt-ltb old.lists 256 few) draws fills
      ∙ ap (λ (s : Situation). ended (painting Fill s)) (sym first)
      ∙ ap ended (sym second)
