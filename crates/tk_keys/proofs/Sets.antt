-- What settings and key lists leave, over runs of which the same is known: units that don't fall, no more tokens, the same
-- counts of levels and key lists, and tokens and faults at places of the list and of the bodies.
use Rattle.std.specs.Prelude.{◌≡◌, ℕ, suc, ◌+◌, ◌<◌, ◌≤◌, nat_lt, Bool, true, false, if◌then◌else◌, List, [], ◌∷◌, length, unwrap_or, Option, Some}
use Rattle.std.specs.Prelude.{None, Ok, IfSome, ℤ, option_and_then}
use Rattle.std.proofs.Common.{sym, subst, ◌∙◌, arith}
use Rattle.std.specs.FinMap as map
use Rattle.tk_num.specs.Text.{pointed_text}
use Rattle.tk_token.specs.declared.Code.TheVariants.{MacroArg, MacroSyntax, UnknownKey, NotASetting, KeyDepth}
use Rattle.tk_token.specs.declared.Tok.{Tok}
use Rattle.tk_token.specs.Answers.{Answer, ◌>>=◌, fault, or_fault}
use Rattle.tk_token.specs.Groups.{Cut, group_of}
use Rattle.tk_token.specs.Kinds.{one_word, is_open}
use Rattle.tk_token.specs.Places.{end_of}
use Rattle.tk_token.specs.Texts.{tokens_of}
use Rattle.tk_token.proofs.Answering.{or_fault_holds}
use Rattle.tk_token.proofs.Outside.{group_keeps, group_shorter}
use Rattle.tk_store.specs.declared.Entry.{Entry}
use Rattle.tk_expand.specs.Arguments.{argument_of}
use Rattle.tk_expand.specs.Expand.{Stream, stream, full}
use Rattle.tk_expand.specs.Reading.{Read, read, Next, next}
use Rattle.tk_expand.specs.Unread.{Unread, unread}
use Rattle.tk_expand.proofs.Falling.{Takes, next_takes}
use Rattle.tk_expand.proofs.Lengths.{IsNoLonger, argument_no_longer}
use Rattle.tk_expand.proofs.NextPlaces.{TokenAt, NextAt, next_at}
use Rattle.tk_expand.proofs.Places.{StandAt, Stands, StreamAt, CutAt, argument_at, full_at}
use Rattle.tk_define.specs.declared.DefinitionWord.{DefinitionWord}
use Rattle.tk_define.specs.Definitions.{defined}
use Rattle.tk_keytext.specs.Entries.{no_entry}
use Rattle.tk_keytext.specs.Parts.{KeyPart, parts_of}
use Rattle.tk_keys.specs.declared.setting.Origin.{Origin}
use Rattle.tk_keys.specs.declared.setting.Setting.{Setting}
use Rattle.tk_keys.specs.declared.setting.Setting.TheVariants.{Nothing, Define, Keys, SetValue, GetValue, SetNumber, SetWhole}
use Rattle.tk_keys.specs.Environment.{Env, level, Situation, with_paid, with_text}
use Rattle.tk_keys.specs.Given.{Given}
use Rattle.tk_keys.specs.Keys.{Named, expanded_name, part}
use Rattle.tk_keys.specs.Settings.{Ending, with_lists, Standing, standing, stream_here, standing_behind, Set, with_dir, argument, word_argument}
use Rattle.tk_keys.specs.Settings.{begins_at, stored_at, with_value, whole_text, KeyRead, ExpressionValue, expression_value, Runnable, A_key_list}
use Rattle.tk_keys.specs.Settings.{Some_settings, define, key_argument, set_value, get_value, set_number, set_keys, set, group, set_or_group}
use Rattle.tk_keys.specs.Settings.{setting_of, settings_from, all_settings, text_run, part_run, parts, key_list, run_step}
use Rattle.tk_keys.proofs.Defining.{DefinedWithin, defined_within}
use Rattle.tk_keys.proofs.DeedPlaces.{Later, same_later, later_then, TextAt, text_set_at, key_set_at, paid_later, expanded_name_at, EffectAt}
use Rattle.tk_keys.proofs.DeedPlaces.{EvaluatesAt, part_at}
use Rattle.tk_keys.proofs.Entries.{EntryAt, EnvAt, with_macro_at, known_entry, or_nothing_at, text_stands}
use Rattle.tk_keys.proofs.PartPlaces.{PartAt, AllParts, parts_at}
use Rattle.tk_keys.proofs.Spending.{full_spends}
use Rattle.tk_keys.proofs.Standing.{then_at, if_at, both_at, only_fault, or_at, weaker_at}

module _ (P : ℕ → Type 0) where
  -- from one place of a list to a later one
  pub record Behind (list behind : Unread) : Type 0 where
    pub short : length behind.rest ≤ length list.rest
    pub rest : StandAt P behind.rest
    pub end : behind.end ≡ list.end

  -- what a setting leaves
  pub record SetAt (s : Situation) (from : Unread) (set : Set) : Type 0 where
    pub now : Later P s set.now
    pub list : Behind from set.list

  -- the same among settings
  pub record StandingAt (st new : Standing) : Type 0 where
    pub now : Later P st.now new.now
    pub list : Behind st.list new.list

  -- what is known of a list that is read
  pub record ListAt (list : Unread) : Type 0 where
    pub rest : StandAt P list.rest
    pub end : P list.end

  pub list_behind : (list behind : Unread) → ListAt list → Behind list behind → ListAt behind
  list_behind list behind h k = record { rest = k.rest; end = subst P (sym k.end) h.end }

  behind_then : (a b c : Unread) → Behind a b → Behind b c → Behind a c
  behind_then a b c f g = record { short = (let x = f.short in let y = g.short in omega arith); rest = g.rest; end = g.end ∙ f.end }

  -- ---- arguments

  pub record ArgumentAt (from : Unread) (r : Read (List Tok)) : Type 0 where
    pub value : StandAt P r.value
    pub short : length r.value + length r.list.rest ≤ length from.rest
    pub list : Behind from r.list

  pub argument_stands : (at : ℕ) (list : Unread) → P at → StandAt P list.rest → Stands P (ArgumentAt list) (argument at list)
  argument_stands at list p h =
      then_at P (λ (c : Cut). CutAt P c × IsNoLonger list.rest c) (ArgumentAt list) (or_fault (argument_of list.rest) MacroArg at) _
      (both_at P (CutAt P) (IsNoLonger list.rest) (or_fault (argument_of list.rest) MacroArg at) (argument_at P at list.rest p h)
      (or_fault_holds (IsNoLonger list.rest) (argument_of list.rest) MacroArg at (argument_no_longer list.rest))) (λ c k.
      let short = k.1 in
      record { value = k.0.0; short = short; list = record { short = omega arith; rest = k.0.1; end = (λ _. list.end) } })

  pub word_stands : (at : ℕ) (list : Unread) → P at → StandAt P list.rest → Stands P (λ (r : Read ℕ). Behind list r.list) (word_argument at list)
  word_stands at list p h =
      then_at P (ArgumentAt list) (λ (r : Read ℕ). Behind list r.list) (argument at list) _ (argument_stands at list p h)
      (λ text k. by (one_word text.value) text k)
    where
      by : (o : Option ℕ) (text : Read (List Tok)) → ArgumentAt list text
          → Stands P (λ (r : Read ℕ). Behind list r.list) (or_fault o MacroSyntax at >>= λ word. Ok (read word text.list))
      by None text k = p
      by (Some word) text k = k.list

  module _ (given : Given) (evaluates : EvaluatesAt P given) where
    define_at : (kind : DefinitionWord) (s : Situation) (list : Unread) → EnvAt P s.env → ListAt list → Stands P (SetAt s list) (define given kind s list)
    define_at kind s list env h =
        then_at P (DefinedWithin P (length list.rest) list.end s.units) (SetAt s list) (defined kind given.budget s.env.macros (stream s.units list))
        _ (defined_within P (length list.rest) list.end kind given.budget s.env.macros (stream s.units list) env.bodies
        (record { short = omega arith; rest = h.rest; same = (λ _. list.end); last = h.end })) (λ d k.
        record {
          now = record {
            units = k.spent;
            levels = (λ _. s.env.levels);
            lists = (λ _. s.env.lists);
            env = with_macro_at P s.env d.definition.word
                d.definition.value env k.body;
          };
          list = record { short = k.list.short; rest = k.list.rest; end = k.list.same };
        })

    pub record KeyReadAt (s : Situation) (from : Unread) (k : KeyRead) : Type 0 where
      pub now : Later P s k.now
      pub list : Behind from k.list

    key_read_at : (at : ℕ) (dir : List ℕ) (s : Situation) (list : Unread) → P at → EnvAt P s.env → StandAt P list.rest
        → Stands P (KeyReadAt s list) (key_argument given at dir s list)
    key_read_at at dir s list p env h =
        then_at P (ArgumentAt list) (KeyReadAt s list) (argument at list) _ (argument_stands at list p h) (λ text k.
        then_at P (λ (n : Named). Later P s n.now) (KeyReadAt s list) (expanded_name given UnknownKey at text.value s) _
        (expanded_name_at P given evaluates UnknownKey at text.value s p k.value env) (λ name m.
        record { now = m; list = k.list }))

    set_value_at : (at : ℕ) (dir : List ℕ) (s : Situation) (list : Unread) → P at → EnvAt P s.env → StandAt P list.rest
        → Stands P (SetAt s list) (set_value given at dir s list)
    set_value_at at dir s list p env h =
        then_at P (KeyReadAt s list) (SetAt s list) (key_argument given at dir s list) _ (key_read_at at dir s list p env h) (λ key k.
        then_at P (ArgumentAt key.list) (SetAt s list) (argument at key.list) _ (argument_stands at key.list p k.list.rest) (λ text m.
        let old = unwrap_or (map.get key.now.env.keys key.path) no_entry in
        let fine = or_nothing_at P 0 at p (map.get key.now.env.keys key.path) (known_entry P key.now.env.keys key.path k.now.env.entries) in
        record {
          now = later_then P s key.now (with_value key.now key.path text.value) k.now (key_set_at P key.now key.path
              (record old { value = Some text.value }) k.now.env (record { run = fine.run; value = m.value; need = fine.need }));
          list = behind_then list key.list text.list k.list m.list;
        }))

    stored_stands : (env : Env) (path : List ℕ) → EnvAt P env → IfSome (stored_at env path) (StandAt P)
    stored_stands env path h = by (map.get env.keys path) (known_entry P env.keys path h.entries)
      where
        by : (o : Option Entry) → IfSome o (EntryAt P) → IfSome (option_and_then (λ (e : Entry). e.value) o) (StandAt P)
        by None k = tt
        by (Some e) k = k.value

    get_value_at : (at : ℕ) (dir : List ℕ) (s : Situation) (list : Unread) → P at → EnvAt P s.env → StandAt P list.rest
        → Stands P (SetAt s list) (get_value given at dir s list)
    get_value_at at dir s list p env h =
        then_at P (KeyReadAt s list) (SetAt s list) (key_argument given at dir s list) _ (key_read_at at dir s list p env h) (λ key k.
        then_at P (StandAt P) (SetAt s list) (or_fault (stored_at key.now.env key.path) UnknownKey at) _
        (or_at P (StandAt P) (stored_at key.now.env key.path) UnknownKey at p (stored_stands key.now.env key.path k.now.env)) (λ value v.
        then_at P (λ (r : Read ℕ). Behind key.list r.list) (SetAt s list) (word_argument at key.list) _ (word_stands at key.list p k.list.rest)
        (λ word m.
        record {
          now = later_then P s key.now (with_text key.now word.value value) k.now (text_set_at P key.now word.value value k.now.env v);
          list = behind_then list key.list word.list k.list m;
        })))

    pub record NumberAt (before : ℕ) (n : ExpressionValue) : Type 0 where
      pub spent : before ≤ n.units

    expression_value_at : (at : ℕ) (list : List Tok) (s : Situation) → P at → EnvAt P s.env → StandAt P list
        → Stands P (NumberAt s.units) (expression_value given at list s)
    expression_value_at at list s p env h =
        let from = stream s.units (unread list at) in
        then_at P (λ (r : Stream). StreamAt P r × (s.units ≤ r.units)) (NumberAt s.units) (full given.budget s.env.macros from) _
        (both_at P (StreamAt P) (λ (r : Stream). s.units ≤ r.units) (full given.budget s.env.macros from) (full_at P given.budget s.env.macros
        env.bodies from h) (full_spends given.budget s.env.macros from)) (λ r d.
        then_at P (λ _. Unit {0}) (NumberAt s.units) (given.evaluate given.font at r.list.rest) _
        (only_fault P (given.evaluate given.font at r.list.rest) (evaluates.faults at r.list.rest p d.0)) (λ found _.
        record { spent = d.1 }))

    set_number_at : (written : ℤ → List ℕ) (at : ℕ) (s : Situation) (list : Unread) → P at → EnvAt P s.env → StandAt P list.rest
        → Stands P (SetAt s list) (set_number given written at s list)
    set_number_at written at s list p env h =
        then_at P (λ (r : Read ℕ). Behind list r.list) (SetAt s list) (word_argument at list) _ (word_stands at list p h) (λ word k.
        then_at P (ArgumentAt word.list) (SetAt s list) (argument at word.list) _ (argument_stands at word.list p k.rest) (λ text m.
        then_at P (NumberAt s.units) (SetAt s list) (expression_value given at text.value s) _ (expression_value_at at text.value s p env m.value)
        (λ found d.
        let now = with_paid s found.units in
        record {
          now = later_then P s now (with_text now word.value (tokens_of at (written found.value))) (paid_later P s found.units d.spent env)
              (text_set_at P now word.value (tokens_of at (written found.value)) env (text_stands P at (written found.value) p));
          list = behind_then list word.list text.list k m.list;
        })))

    dir_at : (dir : List ℕ) (st : Standing) (m : Answer Set) → Stands P (SetAt st.now st.list) m → Stands P (StandingAt st) (with_dir dir m)
    dir_at dir st m h = then_at P (SetAt st.now st.list) (StandingAt st) m _ h (λ set k. record { now = k.now; list = k.list })

    -- ---- over runs

    abbrev pub situation_in : Runnable → Situation
    situation_in (A_key_list s dir list at) = s
    situation_in (Some_settings st) = st.now

    abbrev pub RunnableAt : Runnable → Type 0
    RunnableAt (A_key_list s dir list at) = EnvAt P s.env × (StandAt P list × P at)
    RunnableAt (Some_settings st) = EnvAt P st.now.env × ListAt st.list

    abbrev pub EndingAt : Runnable → Ending → Type 0
    EndingAt job e = Later P (situation_in job) e.now

    pub end_stands : (at : ℕ) (ts : List Tok) → P at → StandAt P ts → P (end_of at ts)
    end_stands at [] p h = p
    end_stands at (t ∷ ts) p h = end_stands t.at ts h.0 h.1

    module _ (runs : Runnable → Answer Ending) (stand : (job : Runnable) → RunnableAt job → Stands P (EndingAt job) (runs job)) where
      set_keys_at : (origin : Origin) (at : ℕ) (st : Standing) → P at → EnvAt P st.now.env → StandAt P st.list.rest
          → Stands P (StandingAt st) (set_keys given runs origin at st)
      set_keys_at origin at st p env h =
          then_at P (ArgumentAt st.list) (StandingAt st) (argument at st.list) _ (argument_stands at st.list p h) (λ list k.
          let job = A_key_list st.now (begins_at origin st.dir) list.value at in
          then_at P (EndingAt job) (StandingAt st) (runs job) _ (stand job (env, (k.value, p))) (λ after m.
          record { now = m; list = k.list }))

      pub set_at : (setting : Setting) (at : ℕ) (st : Standing) → P at → EnvAt P st.now.env → ListAt st.list
          → Stands P (StandingAt st) (set given runs setting at st)
      set_at Nothing at st p env h = record {
        now = same_later P st.now env;
        list = record {
          short = omega arith;
          rest = h.rest;
          end = (λ _. st.list.end);
        };
      }
      set_at (Define kind) at st p env h = dir_at st.dir st (define given kind st.now st.list) (define_at kind st.now st.list env h)
      set_at (Keys origin) at st p env h = set_keys_at origin at st p env h.rest
      set_at SetValue at st p env h = dir_at st.dir st (set_value given at st.dir st.now st.list) (set_value_at at st.dir st.now st.list p env h.rest)
      set_at GetValue at st p env h = dir_at st.dir st (get_value given at st.dir st.now st.list) (get_value_at at st.dir st.now st.list p env h.rest)
      set_at SetNumber at st p env h =
          dir_at st.dir st (set_number given pointed_text at st.now st.list) (set_number_at pointed_text at st.now st.list p env h.rest)
      set_at SetWhole at st p env h =
          dir_at st.dir st (set_number given whole_text at st.now st.list) (set_number_at whole_text at st.now st.list p env h.rest)

      leveled : (at : ℕ) (env : Env) → P at → EnvAt P env → Stands P (λ inside. EnvAt P inside) (level at env)
      leveled at env p h = if_at P (λ inside. EnvAt P inside) (nat_lt env.levels 128) _ _ (record { bodies = h.bodies; entries = h.entries; graphics = h.graphics }) p

      group_at : (at : ℕ) (st : Standing) → P at → EnvAt P st.now.env → StandAt P st.list.rest → Stands P (StandingAt st) (group given runs at st)
      group_at at st p env h =
          then_at P (λ (c : Cut). CutAt P c × (length c.front + length c.rest < length st.list.rest)) (StandingAt st)
          (or_fault (group_of st.list.rest) NotASetting at) _ (both_at P (CutAt P) (λ (c : Cut). length c.front + length c.rest
          < length st.list.rest) (or_fault (group_of st.list.rest) NotASetting at) (or_at P (CutAt P) (group_of st.list.rest) NotASetting at p
          (group_keeps (λ (t : Tok). P t.at) st.list.rest h)) (or_fault_holds (λ (c : Cut). length c.front + length c.rest < length st.list.rest)
          (group_of st.list.rest) NotASetting at (group_shorter st.list.rest))) (λ c k.
          then_at P (λ inside. EnvAt P inside) (StandingAt st) (level at st.now.env) _ (leveled at st.now.env p env) (λ inside e.
          let job = Some_settings (standing (record st.now { env = inside }) st.dir (unread c.front (end_of at c.front))) in
          then_at P (EndingAt job) (StandingAt st) (runs job) _ (stand job (e, record { rest = k.0.0; end = end_stands at c.front p k.0.0 }))
          (λ after m.
          let shorter = k.1 in
          record {
            now = paid_later P st.now after.now.units m.units env;
            list = record {
              short = omega arith;
              rest = k.0.1;
              end = (λ _. st.list.end);
            };
          })))

      pub set_or_group_at : (setting : Option Setting) (t : Tok) (st : Standing) → P t.at → EnvAt P st.now.env → ListAt st.list
          → Stands P (StandingAt st) (set_or_group given runs setting t st)
      set_or_group_at (Some setting) t st p env h = set_at setting t.at st p env h
      set_or_group_at None t st p env h = if_at P (StandingAt st) (is_open t.kind) _ _ (group_at t.at st p env h.rest) p

      settings_from_at : (token : Option Tok) (st : Standing) → TokenAt P token → EnvAt P st.now.env → ListAt st.list
          → Stands P (λ (e : Ending). Later P st.now e.now) (settings_from given runs token st)
      settings_from_at None st p env h = same_later P st.now env
      settings_from_at (Some t) st p env h =
          then_at P (StandingAt st) (λ (e : Ending). Later P st.now e.now) (set_or_group given runs (setting_of given.names t.kind) t st) _
          (set_or_group_at (setting_of given.names t.kind) t st p env h) (λ behind k.
          weaker_at P (λ (e : Ending). Later P behind.now e.now) (λ (e : Ending). Later P st.now e.now) (runs (Some_settings behind))
          (λ e m. later_then P st.now behind.now e.now k.now m) (stand (Some_settings behind) (
            k.now.env,
            list_behind st.list
                behind.list h k.list,
          )))

      all_settings_at : (st : Standing) → EnvAt P st.now.env → ListAt st.list
          → Stands P (λ (e : Ending). Later P st.now e.now) (all_settings given runs st)
      all_settings_at st env h =
          then_at P (λ (n : Next). NextAt P n × Takes given.budget (stream_here st) n) (λ (e : Ending). Later P st.now e.now)
          (next given.budget st.now.env.macros (stream_here st)) _ (both_at P (NextAt P) (Takes given.budget (stream_here st))
          (next given.budget st.now.env.macros (stream_here st)) (next_at P given.budget st.now.env.macros env.bodies (stream_here st) h.rest)
          (next_takes given.budget st.now.env.macros (stream_here st))) (λ n k.
          let now = standing_behind st n.stream in
          let paid = paid_later P st.now n.stream.units k.1.units env in
          weaker_at P (λ (e : Ending). Later P now.now e.now) (λ (e : Ending). Later P st.now e.now) (settings_from given runs n.token now)
          (λ e m. later_then P st.now now.now e.now paid m) (settings_from_at n.token now k.0.0 env
          (record { rest = k.0.1; end = subst P (sym k.1.end) h.end })))

      -- ---- key lists

      pub text_run_at : (at : ℕ) (text : Option (List Tok)) (dir : List ℕ) (s : Situation) (before : ℕ) → P at → EnvAt P s.env
          → TextAt P given.budget before s.units text → Stands P (λ (e : Ending). Later P s e.now) (text_run given runs at text dir s)
      text_run_at at None dir s before p env h = same_later P s env
      text_run_at at (Some ts) dir s before p env h =
          stand (Some_settings (standing s dir (unread ts (end_of at ts)))) (env, record { rest = h.0; end = end_stands at ts p h.0 })

      pub part_run_at : (p : KeyPart) (dir : List ℕ) (s : Situation) → PartAt P p → EnvAt P s.env
          → Stands P (λ (e : Ending). Later P s e.now) (part_run given runs p dir s)
      part_run_at p dir s h env =
          then_at P (EffectAt P given s) (λ (e : Ending). Later P s e.now) (part given p dir s) _ (part_at P given evaluates p dir s h
          env) (λ effect k.
          weaker_at P (λ (e : Ending). Later P effect.deed.now e.now) (λ (e : Ending). Later P s e.now) (text_run given runs p.at effect.deed.text
          effect.dir effect.deed.now) (λ e m. later_then P s effect.deed.now e.now k.now m) (text_run_at p.at effect.deed.text effect.dir
          effect.deed.now s.units h.at k.now.env k.text))

      pub parts_stand : (ps : List KeyPart) (dir : List ℕ) (s : Situation) → AllParts P ps → EnvAt P s.env
          → Stands P (λ (e : Ending). Later P s e.now) (parts given runs ps dir s)
      unfolding parts
      parts_stand [] dir s h env = same_later P s env
      parts_stand (p ∷ ps) dir s h env =
          then_at P (λ (e : Ending). Later P s e.now) (λ (e : Ending). Later P s e.now) (part_run given runs p dir s) _
          (part_run_at p dir s h.0 env) (λ after f.
          weaker_at P (λ (e : Ending). Later P after.now e.now) (λ (e : Ending). Later P s e.now) (parts given runs ps after.dir after.now)
          (λ e g. later_then P s after.now e.now f g) (parts_stand ps after.dir after.now h.1 f.env))

      key_list_at : (s : Situation) (dir : List ℕ) (list : List Tok) (at : ℕ) → EnvAt P s.env → StandAt P list → P at
          → Stands P (λ (e : Ending). Later P s e.now) (key_list given runs s dir list at)
      key_list_at s dir list at env h p = by (nat_lt s.env.lists 256)
        where
          by : (b : Bool)
              → Stands P (λ (e : Ending).
              Later P s
              e.now) (let r : Answer Ending = (if b then Ok (record s.env { lists = suc s.env.lists }) else fault KeyDepth at) >>= λ inside. parts given runs (parts_of list) dir (record s { env = inside }) >>= λ after. Ok (with_lists after s.env.lists) in r)
          by false = p
          by true =
              let inside : Situation = record s { env = record s.env { lists = suc s.env.lists } } in
              then_at P (λ (e : Ending). Later P inside e.now) (λ (e : Ending). Later P s e.now) (parts given runs (parts_of list) dir inside) _
              (parts_stand (parts_of list) dir inside (parts_at P list h) (record { bodies = env.bodies; entries = env.entries; graphics = env.graphics })) (λ after m.
              record {
                units = m.units;
                levels = m.levels;
                lists = (λ _. s.env.lists);
                env = record {
                  bodies = m.env.bodies;
                  entries = m.env.entries;
                  graphics = m.env.graphics;
                };
              })

      pub step_at : (job : Runnable) → RunnableAt job → Stands P (EndingAt job) (run_step given runs job)
      step_at (A_key_list s dir list at) h = key_list_at s dir list at h.0 h.1.0 h.1.1
      step_at (Some_settings st) h = all_settings_at st h.0 h.1
