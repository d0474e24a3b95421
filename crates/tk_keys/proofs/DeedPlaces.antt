-- What a part of a key list leaves: units that don't fall, the same counts of levels and key lists, a text that is paid for,
-- and tokens and faults at places of the list and of the bodies.
use Rattle.std.specs.Prelude.{◌≡◌, ℕ, ◌+◌, ◌<◌, ◌≤◌, ◌==◌, nat_lt, List, [], ◌∷◌, ◌++◌, length, unwrap_or, Option, Some, None, Ok, Err, IfOk, IfErr}
use Rattle.std.specs.Prelude.{IfSome, option_map, option_and_then, codes}
use Rattle.std.proofs.Common.{◌∙◌, arith}
use Rattle.std.specs.FinMap as map
use Rattle.std.specs.List.{AllByRecursion}
use Rattle.tk_characters.specs.Characters.{slash}
use Rattle.tk_token.specs.declared.Code.{Code}
use Rattle.tk_token.specs.declared.Code.TheVariants.{UnknownKey, UnknownChoice, ValueRequired}
use Rattle.tk_token.specs.declared.Fault.{Fault}
use Rattle.tk_token.specs.declared.Tok.{Tok}
use Rattle.tk_token.specs.Answers.{Answer, ◌>>=◌, or_fault}
use Rattle.tk_token.specs.Spaces.{after_spaces}
use Rattle.tk_token.specs.Texts.{text_in, tokens_of}
use Rattle.tk_store.specs.declared.Entry.{Entry}
use Rattle.tk_store.specs.declared.Need.{Need}
use Rattle.tk_store.specs.declared.Need.TheVariants.{Free, Default, Required, Forbidden}
use Rattle.tk_store.specs.declared.Run.{Run}
use Rattle.tk_store.specs.declared.Run.TheVariants as runs
use Rattle.tk_expand.specs.Arguments.{arguments_of, with_arguments}
use Rattle.tk_expand.specs.Expand.{Stream, stream, full, cost_of, pay}
use Rattle.tk_expand.specs.Unread.{unread}
use Rattle.tk_expand.proofs.Falling.{paid_units_are_within}
use Rattle.tk_expand.proofs.Places.{StandAt, Stands, StreamAt, ArgumentsAt, arguments_at, with_arguments_at, full_at}
use Rattle.tk_keytext.specs.declared.Handler.{Handler}
use Rattle.tk_keytext.specs.declared.Handler.TheVariants.{Cd, Code as CodeHandler, CodeTwo, Style, StyleTwo, AppendStyle, PrefixStyle}
use Rattle.tk_keytext.specs.declared.Handler.TheVariants.{Default as DefaultHandler, ValueRequired as RequiredHandler}
use Rattle.tk_keytext.specs.declared.Handler.TheVariants.{ValueForbidden as ForbiddenHandler, Initial, IsChoice, StoreIn, Try}
use Rattle.tk_keytext.specs.Entries.{edited}
use Rattle.tk_keytext.specs.Handlers.{handler_of}
use Rattle.tk_keytext.specs.Parts.{KeyPart}
use Rattle.tk_keytext.specs.Paths.{full_path, name_in, parent_of}
use Rattle.tk_keys.specs.Environment.{Env, Situation, with_paid, with_text, with_graphics, with_key}
use Rattle.tk_keys.specs.Given.{Given, also_word, current_key, current_name}
use Rattle.tk_keys.specs.Keys as keys
use Rattle.tk_keys.specs.Keys.{Deed, Effect, Named, ExpandedValue, expanded_value, set_native, done, run_at, value_by, all_taken, two_arguments}
use Rattle.tk_keys.specs.Keys.{code_arguments, PaidText, code_text, runner, first_of, stand_in, unknown_below, staying, done_or_not, expanded_name}
use Rattle.tk_keys.specs.Keys.{choose, run_key, use_by, use_entry, use_key, code_paid, edit_paid, edit, handle, announced, unknown, handle_or_unknown}
use Rattle.tk_keys.specs.Keys.{used_or, key, part}
use Rattle.tk_keys.proofs.Entries.{RunAt, NeedAt, EntryAt, EnvAt, with_macro_at, with_entry_at, known_entry, text_stands, edited_at}
use Rattle.tk_keys.proofs.PartPlaces.{PartAt}
use Rattle.tk_keys.proofs.Spending.{full_spends}
use Rattle.tk_native.specs.declared.Native.{Native}
use Rattle.tk_look.specs.declared.GraphicsState.{GraphicsState}
use Rattle.tk_look.specs.Graphics.{graphics_by}
use Rattle.tk_look.specs.Ranges.{IsInRange}
use Rattle.tk_look.proofs.Places.{graphics_fine}
use Rattle.tk_look.proofs.Ranges.{graphics_in}
use Rattle.tk_expr.specs.declared.Value.{Value}
use Rattle.tk_num.specs.Number.{IsScaled}
use Rattle.tk_keys.proofs.Narrow.{IfNarrow, narrow_value, stands_with}
use Rattle.tk_keys.proofs.Standing.{then_at, if_at, both_at, only_fault}

module _ (P : ℕ → Type 0) where
  -- from one situation to a later one
  pub record Later (s r : Situation) : Type 0 where
    pub units : s.units ≤ r.units
    pub levels : r.env.levels ≡ s.env.levels
    pub lists : r.env.lists ≡ s.env.lists
    pub env : EnvAt P r.env

  pub same_later : (s : Situation) → EnvAt P s.env → Later s s
  same_later s h = record { units = omega arith; levels = (λ _. s.env.levels); lists = (λ _. s.env.lists); env = h }

  pub later_then : (s r q : Situation) → Later s r → Later r q → Later s q
  later_then s r q f g = record {
    units = (let a = f.units in let b = g.units in omega arith);
    levels = g.levels ∙ f.levels;
    lists = g.lists
        ∙ f.lists;
    env = g.env;
  }

  paid_at : (budget units cost at : ℕ) → P at → Stands P (λ _. Unit {0}) (pay budget units cost at)
  paid_at budget units cost at p = if_at P (λ _. Unit {0}) (nat_lt budget (units + cost)) _ _ p tt

  -- a text that is to be run was paid for, from so many units to so many
  abbrev pub TextAt : ℕ → ℕ → ℕ → Option (List Tok) → Type 0
  TextAt budget before after None = Unit {0}
  TextAt budget before after (Some ts) = StandAt P ts × ((before + length ts < after) × (after ≤ budget))

  -- what a key leaves
  pub record DeedAt (budget : ℕ) (s : Situation) (d : Deed) : Type 0 where
    pub now : Later s d.now
    pub text : TextAt budget s.units d.now.units d.text

  pub done_at : (budget : ℕ) (s r : Situation) → Later s r → DeedAt budget s (done r)
  done_at budget s r h = record { now = h; text = tt }

  sooner_text : (budget a b c : ℕ) (text : Option (List Tok)) → a ≤ b → TextAt budget b c text → TextAt budget a c text
  sooner_text budget a b c None le h = tt
  sooner_text budget a b c (Some ts) le h = (h.0, ((let k = h.1.0 in omega arith), h.1.1))

  deed_later : (budget : ℕ) (s r : Situation) (d : Deed) → Later s r → DeedAt budget r d → DeedAt budget s d
  deed_later budget s r d f g = record {
    now = later_then s r d.now f g.now;
    text = sooner_text budget s.units r.units d.now.units d.text
        f.units g.text;
  }

  deed_at : (budget : ℕ) (s r : Situation) (m : Answer Deed) → Later s r → Stands P (DeedAt budget r) m → Stands P (DeedAt budget s) m
  deed_at budget s r (Ok d) f g = deed_later budget s r d f g
  deed_at budget s r (Err e) f g = g

  pub text_set_at : (s : Situation) (word : ℕ) (text : List Tok) → EnvAt P s.env → StandAt P text → Later s (with_text s word text)
  text_set_at s word text h k =
      record {
        units = omega arith;
        levels = (λ _. s.env.levels);
        lists = (λ _. s.env.lists);
        env = with_macro_at P s.env word
            (record { args = 0; body = text }) h k;
      }

  pub key_set_at : (s : Situation) (path : List ℕ) (entry : Entry) → EnvAt P s.env → EntryAt P entry → Later s (with_key s path entry)
  key_set_at s path entry h k =
      record { units = omega arith; levels = (λ _. s.env.levels); lists = (λ _. s.env.lists); env = with_entry_at P s.env path entry h k }

  pub paid_later : (s : Situation) (units : ℕ) → s.units ≤ units → EnvAt P s.env → Later s (with_paid s units)
  paid_later s units le h = record { units = le; levels = (λ _. s.env.levels); lists = (λ _. s.env.lists); env = h }

  -- what a part leaves
  abbrev pub EffectAt : Given → Situation → Effect → Type 0
  EffectAt given s e = DeedAt given.budget s e.deed

  -- the faults of expressions stand at such places, and their values are in range
  pub record EvaluatesAt (given : Given) : Type 0 where
    pub faults : (at : ℕ) (list : List Tok) → P at → StandAt P list → IfErr (given.evaluate given.font at list) (λ (f : Fault). P f.at)
    pub values : IfNarrow P ((at : ℕ) (list : List Tok) → IfOk (given.evaluate given.font at list) (λ (v : Value). IsScaled v.number))

  module _ (given : Given) (evaluates : EvaluatesAt given) where
    -- ---- names

    pub expanded_name_at : (code : Code) (at : ℕ) (list : List Tok) (s : Situation) → P at → StandAt P list → EnvAt P s.env
        → Stands P (λ (n : Named). Later s n.now) (expanded_name given code at list s)
    expanded_name_at code at list s p h env =
        let from = stream s.units (unread list at) in
        then_at P (λ (r : Stream). StreamAt P r × (s.units ≤ r.units)) (λ (n : Named). Later s n.now) (full given.budget s.env.macros from) _
        (both_at P (StreamAt P) (λ (r : Stream). s.units ≤ r.units) (full given.budget s.env.macros from) (full_at P given.budget s.env.macros
        env.bodies from h) (full_spends given.budget s.env.macros from)) (λ r k.
        by r k.1 (text_in r.list.rest))
      where
        by : (r : Stream) → s.units ≤ r.units → (o : Option (List ℕ))
            → Stands P (λ (n : Named). Later s n.now) (or_fault o code at >>= λ name. Ok (record { name = name; now = with_paid s r.units }))
        by r le None = p
        by r le (Some name) = paid_later s r.units le env

    -- ---- runs

    nothing_left : (at : ℕ) (texts : List (List Tok)) (ts : List Tok) → P at → AllByRecursion (StandAt P) texts
        → Stands P (AllByRecursion (StandAt P)) (all_taken at texts ts)
    nothing_left at texts [] p h = h
    nothing_left at texts (t ∷ ts) p h = p

    two_at : (at : ℕ) (value : Option (List Tok)) → P at → IfSome value (StandAt P)
        → Stands P (AllByRecursion (StandAt P)) (or_fault value ValueRequired at >>= two_arguments at)
    two_at at None p h = p
    two_at at (Some v) p h =
        then_at P (ArgumentsAt P) (AllByRecursion (StandAt P)) (arguments_of at 2 v) _ (arguments_at P at 2 v p h) (λ found k. nothing_left at
        found.texts (after_spaces found.rest) p k.0)

    or_empty_at : (value : Option (List Tok)) → IfSome value (StandAt P) → StandAt P (unwrap_or value [])
    or_empty_at None h = tt
    or_empty_at (Some v) h = h

    code_arguments_at : (at args : ℕ) (value : Option (List Tok)) → P at → IfSome value (StandAt P)
        → Stands P (AllByRecursion (StandAt P)) (code_arguments at args value)
    code_arguments_at at args value p h = if_at P (AllByRecursion (StandAt P)) (args == 2) _ _ (two_at at value p h) (or_empty_at value h, tt)

    pub record CodeAt (before : ℕ) (t : PaidText) : Type 0 where
      pub text : StandAt P t.text
      pub spent : before + length t.text < t.units
      pub within : t.units ≤ given.budget

    code_text_at : (at args : ℕ) (body : List Tok) (value : Option (List Tok)) (units : ℕ) → P at → StandAt P body → IfSome value (StandAt P)
        → Stands P (CodeAt units) (code_text given.budget at args body value units)
    code_text_at at args body value units p h k =
        then_at P (AllByRecursion (StandAt P)) (CodeAt units) (code_arguments at args value) _ (code_arguments_at at args value p k) (λ arguments l.
        let text = with_arguments arguments body in
        then_at P (λ now. Unit {0} × ((now ≡ units + cost_of text) × (now ≤ given.budget))) (CodeAt units) (pay given.budget units (cost_of text) at)
        _ (both_at P (λ _. Unit {0}) (λ now. (now ≡ units + cost_of text) × (now ≤ given.budget)) (pay given.budget units (cost_of text) at)
        (paid_at given.budget units (cost_of text) at p) (paid_units_are_within given.budget units (cost_of text) at)) (λ now m.
        let spent = m.1.0 in
        record { text = with_arguments_at P arguments body l h; spent = omega arith; within = m.1.1 }))

    -- a value that is expanded, from so many units on
    pub record ExpandedAt (before : ℕ) (e : ExpandedValue) : Type 0 where
      pub value : IfSome e.value (StandAt P)
      pub spent : before ≤ e.units

    expanded_at : (at : ℕ) (value : Option (List Tok)) (s : Situation) → P at → IfSome value (StandAt P) → EnvAt P s.env
        → Stands P (ExpandedAt s.units) (expanded_value given at value s)
    expanded_at at None s p h env = record { value = tt; spent = omega arith }
    expanded_at at (Some list) s p h env =
        let from = stream s.units (unread list at) in
        then_at P (λ (r : Stream). StreamAt P r × (s.units ≤ r.units)) (ExpandedAt s.units) (full given.budget s.env.macros from) _
        (both_at P (StreamAt P) (λ (r : Stream). s.units ≤ r.units) (full given.budget s.env.macros from) (full_at P given.budget s.env.macros
        env.bodies from h) (full_spends given.budget s.env.macros from)) (λ r k.
        record { value = k.0; spent = k.1 })

    graphics_later : (s : Situation) (units : ℕ) (graphics : GraphicsState) → s.units ≤ units → EnvAt P s.env
        → IfNarrow P (IsInRange graphics) → Later s (with_graphics (with_paid s units) graphics)
    graphics_later s units graphics le h range = record {
      units = le;
      levels = (λ _. s.env.levels);
      lists = (λ _. s.env.lists);
      env = record { bodies = h.bodies; entries = h.entries; graphics = range };
    }

    native_at : (at : ℕ) (name : List ℕ) (key : Native) (value : Option (List Tok)) (s : Situation) → P at → IfSome value (StandAt P) → EnvAt P s.env
        → Stands P (DeedAt given.budget s) (set_native given at name key value s)
    native_at at name key value s p h env =
        then_at P (ExpandedAt s.units) (DeedAt given.budget s) (expanded_value given at value s) _ (expanded_at at value s p h env) (λ e k.
        let found = graphics_by at given.evaluate given.font key name e.value s.env.graphics in
        then_at P (λ (graphics : GraphicsState). IfNarrow P (IsInRange graphics)) (DeedAt given.budget s) found _
        (stands_with P (λ (graphics : GraphicsState). IfNarrow P (IsInRange graphics)) found (graphics_fine P at p given.evaluate given.font
        (λ ts m. evaluates.faults at ts p m) key name e.value s.env.graphics k.value) (narrow_value P IsInRange found (λ out beyond.
        graphics_in at given.evaluate given.font (evaluates.values out beyond at) key name e.value s.env.graphics (env.graphics out beyond))))
        (λ graphics range.
        done_at given.budget s (with_graphics (with_paid s e.units) graphics) (graphics_later s e.units graphics k.spent env range)))

    pub run_stands : (at : ℕ) (name : List ℕ) (run : Run) (value : Option (List Tok)) (s : Situation) → P at → RunAt P run → IfSome value (StandAt P)
        → EnvAt P s.env → Stands P (DeedAt given.budget s) (keys.plain_run given at name run value s)
    run_stands at name (runs.Native key) value s p h k env = native_at at name key value s p k env
    run_stands at name runs.Choice value s p h k env = p
    run_stands at name (runs.StoreIn word) value s p h k env = done_at given.budget s (with_text s word (unwrap_or value []))
        (text_set_at s word (unwrap_or value []) env (or_empty_at value k))
    run_stands at name (runs.Code args body) value s p h k env =
        then_at P (CodeAt s.units) (DeedAt given.budget s) (code_text given.budget at args body value s.units) _ (code_text_at at args body value
        s.units p h k) (λ paid_units_are_within m.
        record { now = paid_later s paid_units_are_within.units (let l = m.spent in omega arith) env; text = (m.text, (m.spent, m.within)) })

    run_at_stands : (env : Env) (path : List ℕ) → EnvAt P env → IfSome (run_at env path) (RunAt P)
    run_at_stands env path h = by (map.get env.keys path) (known_entry P env.keys path h.entries)
      where
        by : (o : Option Entry) → IfSome o (EntryAt P) → IfSome (option_and_then (λ (e : Entry). e.run) o) (RunAt P)
        by None k = tt
        by (Some e) k = k.run

    choose_at : (at : ℕ) (path : List ℕ) (value : List Tok) (s : Situation) → P at → StandAt P value → EnvAt P s.env
        → Stands P (DeedAt given.budget s) (choose given at path value s)
    choose_at at path value s p h env =
        then_at P (λ (n : Named). Later s n.now) (DeedAt given.budget s) (expanded_name given UnknownChoice at value s) _
        (expanded_name_at UnknownChoice at value s p h env) (λ chosen k.
        by chosen k (run_at chosen.now.env (path ++ slash ∷ chosen.name)) (run_at_stands chosen.now.env (path ++ slash ∷ chosen.name) k.env))
      where
        by : (chosen : Named) → Later s chosen.now → (o : Option Run) → IfSome o (RunAt P)
            → Stands P (DeedAt given.budget s) (or_fault o UnknownChoice at >>= λ run. keys.plain_run given at (name_in (path ++ slash ∷ chosen.name))
            run None chosen.now)
        by chosen k None l = p
        by chosen k (Some run) l = deed_at given.budget s chosen.now (keys.plain_run given at (name_in (path ++ slash ∷ chosen.name)) run None
            chosen.now) k (run_stands at (name_in (path ++ slash ∷ chosen.name)) run None chosen.now p l tt k.env)

    pub run_key_at : (at : ℕ) (path name : List ℕ) (run : Run) (value : Option (List Tok)) (s : Situation) → P at → RunAt P run
        → IfSome value (StandAt P) → EnvAt P s.env → Stands P (DeedAt given.budget s) (run_key given at path name run value s)
    run_key_at at path name runs.Choice (Some v) s p h k env = choose_at at path v s p k env
    run_key_at at path name runs.Choice None s p h k env = p
    run_key_at at path name (runs.Native n) value s p h k env = run_stands at name (runs.Native n) value s p h k env
    run_key_at at path name (runs.StoreIn w) value s p h k env = run_stands at name (runs.StoreIn w) value s p h k env
    run_key_at at path name (runs.Code args body) value s p h k env = run_stands at name (runs.Code args body) value s p h k env

    -- ---- entries

    value_at : (at : ℕ) (need : Need) (value : Option (List Tok)) → P at → NeedAt P need → IfSome value (StandAt P)
        → Stands P (λ taken. IfSome taken (StandAt P)) (value_by at need value)
    value_at at (Default v) None p h k = h
    value_at at (Default v) (Some w) p h k = k
    value_at at Required None p h k = p
    value_at at Required (Some w) p h k = k
    value_at at Forbidden None p h k = k
    value_at at Forbidden (Some w) p h k = p
    value_at at Free value p h k = k

    abbrev pub UsedAt : Situation → Option Deed → Type 0
    UsedAt s used = IfSome used (DeedAt given.budget s)

    use_by_at : (at : ℕ) (path : List ℕ) (entry : Entry) (run : Option Run) (stored value : Option (List Tok)) (s : Situation) → P at
        → EntryAt P entry → IfSome run (RunAt P) → IfSome value (StandAt P) → EnvAt P s.env
        → Stands P (UsedAt s) (use_by given at path entry run stored value s)
    use_by_at at path entry (Some run) stored value s p h l k env =
        then_at P (λ taken. IfSome taken (StandAt P)) (UsedAt s) (value_by at entry.need value) _ (value_at at entry.need value p h.need
        k) (λ taken m.
        then_at P (DeedAt given.budget s) (UsedAt s) (run_key given at path (name_in path) run taken s) _ (run_key_at at path (name_in path) run taken
        s p l m env) (λ deed d. d))
    use_by_at at path entry None (Some old) value s p h l k env =
        then_at P (λ taken. IfSome taken (StandAt P)) (UsedAt s) (value_by at entry.need value) _ (value_at at entry.need value p h.need k)
        (λ taken m. by taken m)
      where
        by : (o : Option (List Tok)) → IfSome o (StandAt P)
            → Stands P (UsedAt s) (or_fault o ValueRequired at >>= λ new. Ok (Some (done (with_key s path (record entry { value = Some new })))))
        by None m = p
        by (Some new) m = done_at given.budget s (with_key s path (record entry { value = Some new }))
            (key_set_at s path (record entry { value = Some new }) env (record { run = h.run; value = m; need = h.need }))
    use_by_at at path entry None None value s p h l k env = tt

    pub use_key_at : (at : ℕ) (path : List ℕ) (value : Option (List Tok)) (s : Situation) → P at → IfSome value (StandAt P) → EnvAt P s.env
        → Stands P (UsedAt s) (use_key given at path value s)
    use_key_at at path value s p k env = by (map.get s.env.keys path) (known_entry P s.env.keys path env.entries)
      where
        by : (o : Option Entry) → IfSome o (EntryAt P) → Stands P (UsedAt s) (use_entry given at path o value s)
        by None h = tt
        by (Some entry) h = use_by_at at path entry entry.run entry.value value s p h h.run k env

    -- ---- handlers

    abbrev PaidFrom : ℕ → ℕ → Type 0
    PaidFrom before now = before ≤ now

    code_paid_at : (at : ℕ) (run : Option Run) (units : ℕ) → P at → Stands P (PaidFrom units) (code_paid given at run units)
    code_paid_at at (Some (runs.Code args body)) units p =
        by (pay given.budget units (cost_of body) at) (paid_at given.budget units (cost_of body) at p) (paid_units_are_within given.budget units
        (cost_of body) at)
      where
        by : (m : Answer ℕ) → Stands P (λ _. Unit {0}) m → IfOk m (λ now. (now ≡ units + cost_of body) × (now ≤ given.budget))
            → Stands P (PaidFrom units) m
        by (Ok now) h k = (let e = k.0 in omega arith)
        by (Err e) h k = h
    code_paid_at at (Some (runs.Native n)) units p = omega arith
    code_paid_at at (Some runs.Choice) units p = omega arith
    code_paid_at at (Some (runs.StoreIn w)) units p = omega arith
    code_paid_at at None units p = omega arith

    edit_paid_at : (at : ℕ) (handler : Handler) (run : Option Run) (units : ℕ) → P at
        → Stands P (PaidFrom units) (edit_paid given at handler run units)
    edit_paid_at at AppendStyle run units p = code_paid_at at run units p
    edit_paid_at at PrefixStyle run units p = code_paid_at at run units p
    edit_paid_at at Cd run units p = omega arith
    edit_paid_at at CodeHandler run units p = omega arith
    edit_paid_at at CodeTwo run units p = omega arith
    edit_paid_at at Style run units p = omega arith
    edit_paid_at at StyleTwo run units p = omega arith
    edit_paid_at at DefaultHandler run units p = omega arith
    edit_paid_at at RequiredHandler run units p = omega arith
    edit_paid_at at ForbiddenHandler run units p = omega arith
    edit_paid_at at Initial run units p = omega arith
    edit_paid_at at IsChoice run units p = omega arith
    edit_paid_at at StoreIn run units p = omega arith
    edit_paid_at at Try run units p = omega arith

    edit_at : (at : ℕ) (handler : Handler) (path : List ℕ) (value : Option (List Tok)) (s : Situation) → P at → IfSome value (StandAt P)
        → EnvAt P s.env → Stands P (DeedAt given.budget s) (edit given at handler path value s)
    edit_at at handler path value s p k env =
        then_at P (EntryAt P) (DeedAt given.budget s) (edited (also_word given) at handler (map.get s.env.keys path) value) _
        (edited_at P (also_word given) at p handler (map.get s.env.keys path) value (known_entry P s.env.keys path env.entries) k) (λ entry h.
        then_at P (PaidFrom s.units) (DeedAt given.budget s) (edit_paid given at handler entry.run s.units) _ (edit_paid_at at handler entry.run
        s.units p) (λ now le.
        done_at given.budget s (with_key (with_paid s now) path entry) (later_then s (with_paid s now) (with_key (with_paid s now) path entry)
        (paid_later s now le env) (key_set_at (with_paid s now) path entry env h))))

    staying_at : (dir : List ℕ) (m : Answer Deed) (s : Situation) → Stands P (DeedAt given.budget s) m → Stands P (EffectAt given s) (staying dir m)
    staying_at dir m s h = then_at P (DeedAt given.budget s) (EffectAt given s) m _ h (λ deed k. k)

    or_not_at : (s : Situation) (used : Option Deed) → EnvAt P s.env → UsedAt s used → DeedAt given.budget s (done_or_not s used)
    or_not_at s None env h = done_at given.budget s s (same_later s env)
    or_not_at s (Some deed) env h = h

    handle_at : (at : ℕ) (handler : Handler) (path : List ℕ) (value : Option (List Tok)) (dir : List ℕ) (s : Situation) → P at
        → IfSome value (StandAt P) → EnvAt P s.env → Stands P (EffectAt given s) (handle given at handler path value dir s)
    handle_at at Cd path value dir s p k env = done_at given.budget s s (same_later s env)
    handle_at at Try path value dir s p k env =
        staying_at dir _ s (then_at P (UsedAt s) (DeedAt given.budget s) (use_key given at path value s) _ (use_key_at at path value s p k env)
        (λ used h. or_not_at s used env h))
    handle_at at CodeHandler path value dir s p k env = staying_at dir _ s (edit_at at CodeHandler path value s p k env)
    handle_at at CodeTwo path value dir s p k env = staying_at dir _ s (edit_at at CodeTwo path value s p k env)
    handle_at at Style path value dir s p k env = staying_at dir _ s (edit_at at Style path value s p k env)
    handle_at at StyleTwo path value dir s p k env = staying_at dir _ s (edit_at at StyleTwo path value s p k env)
    handle_at at AppendStyle path value dir s p k env = staying_at dir _ s (edit_at at AppendStyle path value s p k env)
    handle_at at PrefixStyle path value dir s p k env = staying_at dir _ s (edit_at at PrefixStyle path value s p k env)
    handle_at at DefaultHandler path value dir s p k env = staying_at dir _ s (edit_at at DefaultHandler path value s p k env)
    handle_at at RequiredHandler path value dir s p k env = staying_at dir _ s (edit_at at RequiredHandler path value s p k env)
    handle_at at ForbiddenHandler path value dir s p k env = staying_at dir _ s (edit_at at ForbiddenHandler path value s p k env)
    handle_at at Initial path value dir s p k env = staying_at dir _ s (edit_at at Initial path value s p k env)
    handle_at at IsChoice path value dir s p k env = staying_at dir _ s (edit_at at IsChoice path value s p k env)
    handle_at at StoreIn path value dir s p k env = staying_at dir _ s (edit_at at StoreIn path value s p k env)

    -- ---- parts

    announced_at : (at : ℕ) (path : List ℕ) (s : Situation) → P at → EnvAt P s.env → Later s (announced given at path s)
    announced_at at path s p env =
        let r = with_text s (current_key given) (tokens_of at path) in
        let f = text_set_at s (current_key given) (tokens_of at path) env (text_stands P at path p) in
        later_then s r (announced given at path s) f (text_set_at r (current_name given) (tokens_of at (name_in path)) f.env
        (text_stands P at (name_in path) p))

    runner_at : (env : Env) (path : List ℕ) → EnvAt P env → IfSome (runner env path) (λ r. RunAt P r.1)
    runner_at env path h = by (run_at env path) (run_at_stands env path h)
      where
        by : (o : Option Run) → IfSome o (RunAt P) → IfSome {T = List ℕ × Run} (option_map (λ run. (path, run)) o) (λ r. RunAt P r.1)
        by None k = tt
        by (Some run) k = k

    first_stands : (a b : Option (List ℕ × Run)) → IfSome a (λ r. RunAt P r.1) → IfSome b (λ r. RunAt P r.1)
        → IfSome (first_of a b) (λ r. RunAt P r.1)
    first_stands None b h k = k
    first_stands (Some a) b h k = h

    unknown_at : (at : ℕ) (path : List ℕ) (value : Option (List Tok)) (s : Situation) → P at → IfSome value (StandAt P) → EnvAt P s.env
        → Stands P (DeedAt given.budget s) (unknown given at path value s)
    unknown_at at path value s p k env =
        by (stand_in s.env path) (first_stands (runner s.env (unknown_below (parent_of path))) (runner s.env (unknown_below (codes "/handlers")))
        (runner_at s.env (unknown_below (parent_of path)) env) (runner_at s.env (unknown_below (codes "/handlers")) env))
      where
        by : (o : Option (List ℕ × Run)) → IfSome o (λ r. RunAt P r.1)
            → Stands P (DeedAt given.budget s) (or_fault o UnknownKey at >>= λ other. run_key given at other.0 (name_in path) other.1 value
            (announced given at path s))
        by None h = p
        by (Some other) h =
            let f = announced_at at path s p env in
            deed_at given.budget s (announced given at path s) (run_key given at other.0 (name_in path) other.1 value (announced given at path s)) f
            (run_key_at at other.0 (name_in path) other.1 value (announced given at path s) p h k f.env)

    handled_or_at : (at : ℕ) (handler : Option Handler) (path : List ℕ) (value : Option (List Tok)) (dir : List ℕ) (s : Situation) → P at
        → IfSome value (StandAt P) → EnvAt P s.env → Stands P (EffectAt given s) (handle_or_unknown given at handler path value dir s)
    handled_or_at at (Some handler) path value dir s p k env = handle_at at handler (parent_of path) value dir s p k env
    handled_or_at at None path value dir s p k env = staying_at dir _ s (unknown_at at path value s p k env)

    used_or_at : (at : ℕ) (used : Option Deed) (path : List ℕ) (value : Option (List Tok)) (dir : List ℕ) (s : Situation) → P at
        → IfSome value (StandAt P) → EnvAt P s.env → UsedAt s used → Stands P (EffectAt given s) (used_or given at used path value dir s)
    used_or_at at (Some deed) path value dir s p k env h = h
    used_or_at at None path value dir s p k env h = handled_or_at at (handler_of (name_in path)) path value dir s p k env

    key_at : (at : ℕ) (path : List ℕ) (value : Option (List Tok)) (dir : List ℕ) (s : Situation) → P at → IfSome value (StandAt P) → EnvAt P s.env
        → Stands P (EffectAt given s) (key given at path value dir s)
    key_at at path value dir s p k env =
        then_at P (UsedAt s) (EffectAt given s) (use_key given at path value s) _ (use_key_at at path value s p k env) (λ used h. used_or_at at used
        path value dir s p k env h)

    effect_later : (s r : Situation) (m : Answer Effect) → Later s r → Stands P (EffectAt given r) m → Stands P (EffectAt given s) m
    effect_later s r (Ok e) f g = deed_later given.budget s r e.deed f g
    effect_later s r (Err e) f g = g

    pub part_at : (p : KeyPart) (dir : List ℕ) (s : Situation) → PartAt P p → EnvAt P s.env → Stands P (EffectAt given s) (part given p dir s)
    unfolding part
    part_at p dir s h env =
        then_at P (λ (n : Named). Later s n.now) (EffectAt given s) (expanded_name given UnknownKey p.at p.name s) _ (expanded_name_at UnknownKey p.at
        p.name s h.at h.name env) (λ name k.
        effect_later s name.now (key given p.at (full_path dir name.name) p.value dir name.now) k (key_at p.at (full_path dir name.name) p.value dir
        name.now h.at h.value k.env))
