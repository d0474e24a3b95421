-- Where runs end: units that don't fall, the same counts of levels and key lists, and tokens and faults at places of the
-- list and of the bodies. And each run is its step.
use Rattle.std.specs.Prelude.{◌≡◌, ℕ, ◌+◌, ◌-◌, ◌<◌, ◌≤◌, if◌then◌else◌, List, [], ◌∷◌, length, Option, Some, None, Ok, Err, IfErr, IfSome}
use Rattle.std.specs.Prelude.{option_to_list}
use Rattle.std.proofs.Common.{refl, ap, ◌∙◌, arith}
use Rattle.tk_token.specs.declared.Code.TheVariants.{Budget, NotASetting}
use Rattle.tk_token.specs.declared.Fault.{Fault}
use Rattle.tk_token.specs.declared.Tok.{Tok}
use Rattle.tk_token.specs.Answers.{Answer, ◌>>=◌, fault, or_fault}
use Rattle.tk_token.specs.Groups.{Cut, group_of}
use Rattle.tk_token.specs.Kinds.{is_open}
use Rattle.tk_token.specs.Places.{end_of}
use Rattle.tk_token.specs.Recursion.{by_size}
use Rattle.tk_token.proofs.Answering.{then_alike, or_fault_holds}
use Rattle.tk_token.proofs.Fixpoint.{kept}
use Rattle.tk_token.proofs.Outside.{group_shorter}
use Rattle.tk_store.specs.declared.Entry.{Entry}
use Rattle.tk_store.specs.declared.Need.{Need}
use Rattle.tk_store.specs.declared.Need.TheVariants as needs
use Rattle.tk_store.specs.declared.Run.{Run}
use Rattle.tk_store.specs.declared.Run.TheVariants as code_runs
use Rattle.tk_expand.specs.Reading.{next}
use Rattle.tk_expand.specs.Unread.{Unread, unread}
use Rattle.tk_expand.proofs.Falling.{Takes, next_takes}
use Rattle.tk_expand.proofs.Places.{StandAt, Stands}
use Rattle.tk_keytext.specs.Parts.{KeyPart, parts_of}
use Rattle.tk_keys.specs.declared.setting.Origin.{Origin}
use Rattle.tk_keys.specs.declared.setting.Setting.{Setting}
use Rattle.tk_keys.specs.declared.setting.Setting.TheVariants.{Nothing, Define, Keys, SetValue, GetValue, SetNumber, SetWhole}
use Rattle.tk_keys.specs.Environment.{Env, level, inner_list, Situation, with_paid}
use Rattle.tk_keys.specs.Given.{Given}
use Rattle.tk_keys.specs.Keys.{part}
use Rattle.tk_keys.specs.Settings.{Ending, with_lists, Standing, standing, stream_here, standing_behind, argument, begins_at, dir_behind, Runnable}
use Rattle.tk_keys.specs.Settings.{A_key_list, Some_settings, set_keys, set, group, set_or_group, setting_of, settings_from, all_settings, text_run}
use Rattle.tk_keys.specs.Settings.{part_run, parts, key_list, run_step, work_of, runs, set_alone, one_setting}
use Rattle.tk_keys.proofs.DeedPlaces.{EvaluatesAt, Later, TextAt, EffectAt, part_at}
use Rattle.tk_keys.proofs.Entries.{RunAt, NeedAt, EntryAt, EnvAt}
use Rattle.tk_keys.proofs.PartPlaces.{PartAt}
use Rattle.tk_keys.proofs.Pinned.{IsPinned, is_its_step, is_never_stuck}
use Rattle.tk_keys.proofs.Sets.{ListAt, SetAt, set_at, ArgumentAt, StandingAt, argument_stands, RunnableAt, EndingAt, set_or_group_at, part_run_at}
use Rattle.tk_keys.proofs.Sets.{step_at}
use Rattle.tk_keys.proofs.Standing.{then_at, ok_at, any_value}

-- ---- at any place

-- any place
abbrev pub Any : ℕ → Type 0
Any n = Unit {0}

pub any_list : (ts : List Tok) → StandAt Any ts
any_list [] = tt
any_list (t ∷ ts) = (tt, any_list ts)

any_run : (run : Run) → RunAt Any run
any_run (code_runs.Native n) = tt
any_run code_runs.Choice = tt
any_run (code_runs.StoreIn w) = tt
any_run (code_runs.Code args body) = any_list body

any_need : (need : Need) → NeedAt Any need
any_need needs.Free = tt
any_need needs.Required = tt
any_need needs.Forbidden = tt
any_need (needs.Default v) = any_list v

any_some : {A : Type 0} (Q : A → Type 0) → ((a : A) → Q a) → (o : Option A) → IfSome o Q
any_some Q h None = tt
any_some Q h (Some a) = h a

pub any_entry : (e : Entry) → EntryAt Any e
any_entry e = record { run = any_some (RunAt Any) any_run e.run; value = any_some (StandAt Any) any_list e.value; need = any_need e.need }

pub any_env : (env : Env) → EnvAt Any env
any_env env = record { bodies = (λ w m is. any_list m.body); entries = (λ path e is. any_entry e); graphics = (λ out beyond. elim (beyond tt) [ ]) }

pub any_read : (list : Unread) → ListAt Any list
any_read list = record { rest = any_list list.rest; end = tt }

pub any_part : (p : KeyPart) → PartAt Any p
any_part p = record { name = any_list p.name; value = any_some (StandAt Any) any_list p.value; at = tt }

any_fault : {A : Type 0} (m : Answer A) → IfErr m (λ (f : Fault). Any f.at)
any_fault (Ok a) = tt
any_fault (Err f) = tt

pub any_evaluates : (given : Given) → EvaluatesAt Any given
any_evaluates given = record { faults = (λ at list p h. any_fault (given.evaluate given.font at list)); values = (λ out beyond. elim (beyond tt) [ ]) }

pub any_runnable : (given : Given) (evaluates : EvaluatesAt Any given) (job : Runnable) → RunnableAt Any given evaluates job
any_runnable given evaluates (A_key_list s dir list at) = (any_env s.env, (any_list list, tt))
any_runnable given evaluates (Some_settings st) = (any_env st.now.env, any_read st.list)

-- ---- at certain places

pub runs_at : (P : ℕ → Type 0) (given : Given) (evaluates : EvaluatesAt P given) → P 0 → (job : Runnable) → RunnableAt P given evaluates job
    → Stands P (EndingAt P given evaluates job) (runs given job)
unfolding runs
runs_at P given evaluates p =
    kept (work_of given) (fault Budget 0) (run_step given) (λ job r. RunnableAt P given evaluates job → Stands P (EndingAt P given evaluates job) r)
    (λ job h. p) (λ f h job. step_at P given evaluates f h job)

-- at any place
pub runs_stay : (given : Given) (job : Runnable) → RunnableAt Any given (any_evaluates given) job
    → Stands Any (EndingAt Any given (any_evaluates given) job) (runs given job)
runs_stay given = runs_at Any given (any_evaluates given) tt

-- ---- a step asks for what has less work left

module _ (given : Given) (f : Runnable → Answer Ending) (n : ℕ) (same : (job : Runnable) → work_of given job < n → f job ≡ runs given job) where
  abbrev Left : Standing → ℕ
  Left st = (given.budget - st.now.units) + length st.list.rest

  set_keys_alike : (origin : Origin) (at : ℕ) (st : Standing) → Left st < n → set_keys given f origin at st ≡ set_keys given (runs given) origin at st
  set_keys_alike origin at st lt =
      then_alike (ArgumentAt Any st.list) (argument at st.list) _ _ (ok_at Any (ArgumentAt Any st.list) (argument at st.list)
      (argument_stands Any at st.list tt (any_list st.list.rest))) (λ list k.
      let short = k.short in
      ap (λ (m : Answer Ending). m >>= λ after. Ok (standing after.now (dir_behind origin st.dir after.dir) list.list))
      (same (A_key_list st.now (begins_at origin st.dir) list.value at) (omega arith)))

  set_alike : (setting : Setting) (at : ℕ) (st : Standing) → Left st < n → set given f setting at st ≡ set given (runs given) setting at st
  set_alike Nothing at st lt = refl
  set_alike (Define kind) at st lt = refl
  set_alike (Keys origin) at st lt = set_keys_alike origin at st lt
  set_alike SetValue at st lt = refl
  set_alike GetValue at st lt = refl
  set_alike SetNumber at st lt = refl
  set_alike SetWhole at st lt = refl

  group_alike : (at : ℕ) (st : Standing) → Left st < n → group given f at st ≡ group given (runs given) at st
  group_alike at st lt =
      then_alike (λ (c : Cut). length c.front + length c.rest < length st.list.rest) (or_fault (group_of st.list.rest) NotASetting at) _ _
      (or_fault_holds (λ (c : Cut). length c.front + length c.rest < length st.list.rest) (group_of st.list.rest) NotASetting at
      (group_shorter st.list.rest)) (λ c short.
      then_alike (λ _. Unit {0}) (level at st.now.env) _ _ (any_value (level at st.now.env)) (λ inside _.
      ap (λ (m : Answer Ending). m >>= λ after. Ok (standing (with_paid st.now after.now.units) st.dir (unread c.rest st.list.end)))
      (same (Some_settings (standing (record st.now { env = inside }) st.dir (unread c.front (end_of at c.front)))) (omega arith))))

  set_or_group_alike : (setting : Option Setting) (t : Tok) (st : Standing) → Left st < n
      → set_or_group given f setting t st ≡ set_or_group given (runs given) setting t st
  set_or_group_alike (Some setting) t st lt = set_alike setting t.at st lt
  set_or_group_alike None t st lt = ap (λ (m : Answer Standing). if is_open t.kind then m else fault NotASetting t.at) (group_alike t.at st lt)

  settings_from_alike : (token : Option Tok) (st : Standing) → Left st + length (option_to_list token) ≤ n
      → settings_from given f token st ≡ settings_from given (runs given) token st
  settings_from_alike None st le = refl
  settings_from_alike (Some t) st le =
      let setting = setting_of given.names t.kind in
      ap (λ (m : Answer Standing). m >>= λ behind. f (Some_settings behind)) (set_or_group_alike setting t st (omega arith))
      ∙ then_alike (StandingAt Any st) (set_or_group given (runs given) setting t st) _ _ (ok_at Any (StandingAt Any st)
      (set_or_group given (runs given) setting t st) (set_or_group_at Any given (any_evaluates given) (runs given) (runs_stay given) setting t st
      tt (any_env st.now.env) (any_read st.list))) (λ behind k.
      let short = k.list.short in
      let spent = k.now.units in
      same (Some_settings behind) (omega arith))

  all_settings_alike : (st : Standing) → Left st ≤ n → all_settings given f st ≡ all_settings given (runs given) st
  all_settings_alike st le =
      then_alike (Takes given.budget (stream_here st)) (next given.budget st.now.env.macros (stream_here st)) _ _
      (next_takes given.budget st.now.env.macros (stream_here st)) (λ ahead k.
      let fell = k.work_falls in
      settings_from_alike ahead.token (standing_behind st ahead.stream) (omega arith))

  text_run_alike : (at : ℕ) (text : Option (List Tok)) (dir : List ℕ) (s : Situation) (before : ℕ) → given.budget - before ≤ n
      → TextAt Any given.budget before s.units text → text_run given f at text dir s ≡ text_run given (runs given) at text dir s
  text_run_alike at None dir s before le h = refl
  text_run_alike at (Some ts) dir s before le h =
      let paid = h.1.0 in
      let fits = h.1.1 in
      same (Some_settings (standing s dir (unread ts (end_of at ts)))) (omega arith)

  part_run_alike : (p : KeyPart) (dir : List ℕ) (s : Situation) → given.budget - s.units ≤ n
      → part_run given f p dir s ≡ part_run given (runs given) p dir s
  part_run_alike p dir s le =
      then_alike (EffectAt Any given s) (part given p dir s) _ _ (ok_at Any (EffectAt Any given s) (part given p dir s)
      (part_at Any given (any_evaluates given) p dir s (any_part p) (any_env s.env))) (λ effect k.
      text_run_alike p.at effect.deed.text effect.dir effect.deed.now s.units le k.text)

  parts_alike : (ps : List KeyPart) (dir : List ℕ) (s : Situation) → given.budget - s.units ≤ n
      → parts given f ps dir s ≡ parts given (runs given) ps dir s
  unfolding parts
  parts_alike [] dir s le = refl
  parts_alike (p ∷ ps) dir s le =
      ap (λ (m : Answer Ending). m >>= λ after. parts given f ps after.dir after.now) (part_run_alike p dir s le)
      ∙ then_alike (λ (e : Ending). Later Any s e.now) (part_run given (runs given) p dir s) _ _ (ok_at Any (λ (e : Ending). Later Any s e.now)
      (part_run given (runs given) p dir s) (part_run_at Any given (any_evaluates given) (runs given) (runs_stay given) p dir s (any_part p)
      (any_env s.env))) (λ after m.
      let more = m.units in
      parts_alike ps after.dir after.now (omega arith))

  key_list_alike : (s : Situation) (dir : List ℕ) (list : List Tok) (at : ℕ) → given.budget - s.units ≤ n
      → key_list given f s dir list at ≡ key_list given (runs given) s dir list at
  key_list_alike s dir list at le =
      then_alike (λ _. Unit {0}) (inner_list at s.env) _ _ (any_value (inner_list at s.env)) (λ inside _.
      ap (λ (m : Answer Ending). m >>= λ after. Ok (with_lists after s.env.lists)) (parts_alike (parts_of list) dir (record s { env = inside }) le))

step_pinned : (given : Given) → IsPinned (work_of given) (fault Budget 0) (run_step given)
unfolding runs
step_pinned given f (A_key_list s dir list at) same =
    key_list_alike given f (work_of given (A_key_list s dir list at)) same s dir list at (omega arith)
step_pinned given f (Some_settings st) same = all_settings_alike given f (work_of given (Some_settings st)) same st (omega arith)

pub run_is : (given : Given) (job : Runnable) → runs given job ≡ run_step given (runs given) job
unfolding runs
run_is given job = is_its_step (work_of given) (fault Budget 0) (run_step given) (step_pinned given) job

pub run_stuck : (given : Given) (stuck : Answer Ending) (job : Runnable) → runs given job ≡ by_size (work_of given) stuck (run_step given) job
unfolding runs
run_stuck given stuck job = is_never_stuck (work_of given) (fault Budget 0) (run_step given) (step_pinned given) stuck job

-- a key list is its parts, and settings are the first of them and the rest
pub list_is : (given : Given) (s : Situation) (dir : List ℕ) (list : List Tok) (at : ℕ)
    → runs given (A_key_list s dir list at) ≡ key_list given (runs given) s dir list at
list_is given s dir list at = run_is given (A_key_list s dir list at)

-- ---- one setting

pub one_setting_at : (P : ℕ → Type 0) (given : Given) (evaluates : EvaluatesAt P given) → P 0 → (t : Tok) (s : Situation) (list : Unread) → P t.at
    → EnvAt P s.env → ListAt P list → Stands P (λ made. IfSome made (SetAt P s list)) (one_setting given t s list)
unfolding one_setting
one_setting_at P given evaluates first t s list p env h = by (setting_of given.names t.kind)
  where
    by : (setting : Option Setting) → Stands P (λ made. IfSome made (SetAt P s list)) (set_alone given setting t.at s list)
    by None = tt
    by (Some setting) =
        then_at P (StandingAt P (standing s [] list)) (λ made. IfSome made (SetAt P s list)) (set given (runs given) setting t.at
        (standing s [] list)) _ (set_at P given evaluates (runs given) (runs_at P given evaluates first) setting t.at (standing s [] list) p
        env h) (λ st k.
        record { now = k.now; list = k.list })
