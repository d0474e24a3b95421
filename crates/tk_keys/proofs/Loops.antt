-- One turn of a run, as the loops of the code make it.
use Rattle.std.specs.Prelude.{ℕ, ◌+◌, ◌-◌, ◌*◌, ◌<◌, ◌≤◌, List, [], ◌∷◌, length, Option, Some, None, Ok}
use Rattle.std.proofs.Common.{◌≡◌, sym, ap, subst, ◌∙◌, arith}
use Rattle.tk_token.specs.declared.Refusal.{Refusal}
use Rattle.tk_token.specs.declared.Tok.{Tok}
use Rattle.tk_token.specs.declared.Code.TheVariants.{MacroArg, NotASetting}
use Rattle.tk_token.specs.Answers.{Answer, ◌>>=◌, or_fault}
use Rattle.tk_token.specs.Groups.{Cut, cut, group_of}
use Rattle.tk_token.specs.Refusals.{Fails}
use Rattle.tk_token.proofs.Answering.{fails_then, fails_as, then_is, known_of}
use Rattle.tk_expand.specs.Arguments.{argument_of}
use Rattle.tk_expand.specs.Reading.{Next, taken, next, read}
use Rattle.tk_expand.specs.Unread.{Unread, unread}
use Rattle.tk_store.specs.Levels.{Level, opened}
use Rattle.tk_look.specs.Graphics.{graphics_below}
use Rattle.tk_expr.specs.Evaluated.{evaluated}
use Rattle.tk_expr.specs.Evaluates.{Evaluation, IsEvaluation}
use Rattle.tk_expr.proofs.Evaluations.{is_evaluated}
use Rattle.tk_keys.specs.declared.setting.Origin.{Origin}
use Rattle.tk_keys.specs.declared.setting.Setting.{Setting}
use Rattle.tk_keytext.specs.Parts.{KeyPart}
use Rattle.tk_keys.specs.declared.deeds.Deed as code
use Rattle.tk_keys.specs.Given.{Given}
use Rattle.tk_keys.specs.Keys.{part}
use Rattle.tk_keys.specs.Settings.{Ending, Standing, standing, Set, set_behind, Runnable, set, set_alone, one_setting, standing_behind, Some_settings}
use Rattle.tk_keys.specs.Settings.{set_or_group, setting_of, settings_from, set_keys, group, part_run, parts, runs}
use Rattle.tk_keys.specs.State.{State, env_of, given_of, stream_of, situation_of, standing_of, ending_of, Pays, Keeps, behind_set}
use Rattle.tk_keys.specs.State.{Makes, most_undone}
use Rattle.tk_keys.specs.Views.{effect_of, keys_from, contents_run}
use Rattle.tk_keys.proofs.DeedPlaces.{TextAt, EffectAt, part_at}
use Rattle.tk_keys.proofs.Ran.{Any, any_part, any_env, any_evaluates, run_is}
use Rattle.tk_keys.proofs.Standing.{ok_at}

pub keeps_then : (a b c : State) → Keeps a b → Keeps b c → Keeps a c
keeps_then a b c f g = record {
  names = g.names ∙ f.names;
  font = g.font ∙ f.font;
  budget = g.budget ∙ f.budget;
  outer = g.outer ∙ f.outer;
  saved = g.saved ∙ f.saved;
  lists = g.lists ∙ f.lists;
}

pub pays_keeps : (a b : State) → Pays a b → Keeps a b
pays_keeps a b p = record {
  names = ap (λ (s : State). s.names) p;
  font = ap (λ (s : State). s.font) p;
  budget = ap (λ (s : State). s.budget) p;
  outer = ap (λ (s : State). s.levels.outer) p;
  saved = ap (λ (s : State). s.saved) p;
  lists = ap (λ (s : State). s.lists) p;
}

abbrev pub given_at : State → Given
given_at s = given_of evaluated s

given_same : (old new : State) → Keeps old new → given_at new ≡ given_at old
given_same old new k i = record { names = k.names i; evaluate = evaluated; font = k.font i; budget = k.budget i }

-- ---- settings

module _ (old now : State) (kept : Keeps old now) (dir : List ℕ) (list : Unread) where
  abbrev run_here : Answer Ending
  run_here = runs (given_at old) (Some_settings (standing_of now dir list))

  abbrev ahead : Answer Next
  ahead = next now.budget (env_of now).macros (stream_of now list)

  starts : run_here ≡ (ahead >>= λ n. settings_from (given_at now) (runs (given_at now)) n.token
      (standing_behind (standing_of now dir list) n.stream))
  starts = ap (λ (g : Given). runs g (Some_settings (standing_of now dir list))) (sym (given_same old now kept))
      ∙ run_is (given_at now) (Some_settings (standing_of now dir list))

  pub next_fails : (e : Refusal) → Fails e ahead → Fails e run_here
  next_fails e h = fails_as e _ _ starts (fails_then e ahead _ h)

  module _ (paid : State) (pays : Pays now paid) (behind : Unread) where
    abbrev ended : State → Answer Ending
    ended s = Ok (record { now = record { env = env_of s; units = paid.units }; dir = dir })

    pub text_ends : ahead ≡ Ok (taken None (stream_of paid behind)) → run_here ≡ Ok (ending_of paid dir)
    text_ends h =
        starts
        ∙ then_is ahead (λ n. settings_from (given_at now) (runs (given_at now)) n.token (standing_behind (standing_of now dir list) n.stream))
        (taken None (stream_of paid behind)) h
        ∙ ap ended (sym pays)

    module _ (t : Tok) (h : ahead ≡ Ok (taken (Some t) (stream_of paid behind))) where
      abbrev set_from : State → Answer Standing
      set_from s = set_or_group (given_at s) (runs (given_at s)) (setting_of s.names t.kind) t
          (standing (record { env = env_of s; units = paid.units }) dir behind)

      first_set : run_here ≡ (set_from paid >>= λ st. runs (given_at now) (Some_settings st))
      first_set =
          starts
          ∙ then_is ahead (λ n. settings_from (given_at now) (runs (given_at now)) n.token (standing_behind (standing_of now dir list) n.stream))
          (taken (Some t) (stream_of paid behind)) h
          ∙ ap (λ (s : State). set_from s >>= λ st. runs (given_at now) (Some_settings st)) (sym pays)

      pub text_goes_on : (new : State) (last : List ℕ) (rest : Unread)
          → set_or_group (given_at paid) (runs (given_at paid)) (setting_of paid.names t.kind) t (standing_of paid dir behind)
          ≡ Ok (standing_of new last rest)
          → run_here ≡ runs (given_at old) (Some_settings (standing_of new last rest))
      text_goes_on new last rest is =
          first_set
          ∙ then_is (set_from paid) (λ st. runs (given_at now) (Some_settings st)) (standing_of new last rest) is
          ∙ ap (λ (g : Given). runs g (Some_settings (standing_of new last rest))) (given_same old now kept)

      pub set_fails : (e : Refusal)
          → Fails e (set_or_group (given_at paid) (runs (given_at paid)) (setting_of paid.names t.kind) t (standing_of paid dir behind))
          → Fails e run_here
      set_fails e k = fails_as e _ _ first_set (fails_then e (set_from paid) _ k)

-- ---- a key list, or the contents of a group, which were taken

module _ (given : Given) (at : ℕ) (st : Standing) (text : List Tok) (behind : Unread) (end : behind.end ≡ st.list.end) where
  pub keys_taken : (origin : Origin) → or_fault (argument_of st.list.rest) MacroArg at ≡ Ok (cut text behind.rest)
      → set_keys given (runs given) origin at st ≡ keys_from given origin at text (standing st.now st.dir behind)
  keys_taken origin h =
      ap (λ (found : Answer Cut). (found >>= λ f. Ok (read f.front (unread f.rest st.list.end)))
      >>= λ list. keys_from given origin at list.value (standing st.now st.dir list.list)) h
      ∙ ap (λ (end : ℕ). keys_from given origin at text (standing st.now st.dir (unread behind.rest end))) (sym end)

  pub group_taken : Some (cut text behind.rest) ≡ group_of st.list.rest
      → group given (runs given) at st ≡ contents_run given at text (standing st.now st.dir behind)
  group_taken h =
      ap (λ (found : Option Cut). or_fault found NotASetting at
      >>= λ f. contents_run given at f.front (standing st.now st.dir (unread f.rest st.list.end))) (sym h)
      ∙ ap (λ (end : ℕ). contents_run given at text (standing st.now st.dir (unread behind.rest end))) (sym end)

-- ---- parts

module _ (old now : State) (kept : Keeps old now) (dir : List ℕ) (ps qs : List KeyPart) (p : KeyPart) (first : ps ≡ p ∷ qs) where
  abbrev parts_here : Answer Ending
  parts_here = parts (given_at old) (runs (given_at old)) ps dir (situation_of now)

  abbrev first_part : Answer Ending
  first_part = part_run (given_at now) (runs (given_at now)) p dir (situation_of now)

  parts_start : parts_here ≡ (first_part >>= λ after. parts (given_at now) (runs (given_at now)) qs after.dir after.now)
  unfolding parts
  parts_start =
      ap (λ (g : Given). parts g (runs g) ps dir (situation_of now)) (sym (given_same old now kept))
      ∙ ap (λ (ps : List KeyPart). parts (given_at now) (runs (given_at now)) ps dir (situation_of now)) first

  pub parts_go_on : (new : State) (last : List ℕ) → first_part ≡ Ok (ending_of new last)
      → parts_here ≡ parts (given_at old) (runs (given_at old)) qs last (situation_of new)
  parts_go_on new last is =
      parts_start
      ∙ then_is first_part (λ after. parts (given_at now) (runs (given_at now)) qs after.dir after.now) (ending_of new last) is
      ∙ ap (λ (g : Given). parts g (runs g) qs last (situation_of new)) (given_same old now kept)

  pub part_fails : (e : Refusal) → Fails e first_part → Fails e parts_here
  part_fails e h = fails_as e _ _ parts_start (fails_then e first_part _ h)

pub parts_end : (old now : State) (dir : List ℕ) (ps : List KeyPart) → ps ≡ []
    → parts (given_at old) (runs (given_at old)) ps dir (situation_of now) ≡ Ok (ending_of now dir)
unfolding parts
parts_end old now dir ps none = ap (λ (ps : List KeyPart). parts (given_at old) (runs (given_at old)) ps dir (situation_of now)) none

-- the text that a part leaves was paid for
pub text_paid : (old new : State) (p : KeyPart) (dir last : List ℕ) (deed : code.Deed) (text : List Tok)
    → part (given_at old) p dir (situation_of old) ≡ Ok (effect_of deed new last) → deed.text ≡ Some text
    → (old.units + length text < new.units) × (new.units ≤ old.budget)
text_paid old new p dir last deed text is some =
    let k : EffectAt Any (given_at old) (situation_of old) (effect_of deed new last) = known_of (EffectAt Any (given_at old) (situation_of old))
    (part (given_at old) p dir (situation_of old)) (effect_of deed new last) is (ok_at Any (EffectAt Any (given_at old) (situation_of old))
    (part (given_at old) p dir (situation_of old)) (part_at Any (given_at old) (any_evaluates (given_at old)) p dir (situation_of old)
    (any_part p) (any_env (env_of old)))) in
    let t : TextAt Any old.budget old.units new.units (Some text) = subst (λ (o : Option (List Tok)). TextAt Any old.budget old.units new.units o)
    some k.text in
    t.1

-- ---- what is undone in the end

-- the text that a part leaves and the settings that the part made are paid for by its units, or by the part itself
pub text_covered : (steps : ℕ) (old new : State) (text : List Tok) → Keeps old new → Makes 3 old new
    → (old.units + length text < new.units) × (new.units ≤ old.budget) → most_undone steps new (length text) ≤ most_undone steps old 1
text_covered steps old new text kept made paid = omega (arith, kept.budget, made, paid.0, paid.1)

-- how many settings were made at the nearest of some levels
first_settings : List Level → ℕ
first_settings [] = 0
first_settings (l ∷ ls) = l.settings

-- what is set in a group is undone at its end, and the level round it counts what it counted before
module _ (steps ran closed : ℕ) (old inside behind new : State) (tokens : ℕ) (begun : inside ≡ record old {
  levels = opened old.levels;
  graphics = graphics_below old.graphics;
  saved = old.graphics ∷ old.saved;
}) where
  none_yet : inside.levels.top.settings ≡ 0
  none_yet = ap (λ (s : State). s.levels.top.settings) begun

  same_left : inside.budget - inside.units ≡ old.budget - old.units
  same_left = ap (λ (s : State). s.budget - s.units) begun

  pub inside_most : ran ≤ most_undone steps inside tokens → ran ≤ most_undone steps old tokens
  inside_most h = omega (arith, h, none_yet, same_left)

  module _ (kept : Keeps inside behind) (most : most_undone ran behind 0 ≤ most_undone steps inside tokens)
      (high : closed ≤ ran + behind.levels.top.settings) where
    pub closed_high : closed ≤ most_undone steps old tokens
    closed_high = omega (arith, none_yet, same_left, most, high)

    pub closed_most : behind.levels.outer ≡ new.levels.top ∷ new.levels.outer
        → new ≡ record behind { levels = new.levels; graphics = new.graphics; saved = new.saved }
        → most_undone closed new 0 ≤ most_undone steps old tokens
    unfolding first_settings
    closed_most levels rest =
        let top : new.levels.top.settings ≡ old.levels.top.settings =
        ap first_settings (sym levels ∙ kept.outer ∙ ap (λ (s : State). s.levels.outer) begun) in
        let left : new.budget - new.units ≡ behind.budget - behind.units = ap (λ (s : State). s.budget - s.units) rest in
        omega (arith, none_yet, same_left, most, high, top, left)

-- ---- for each evaluation

pub runs_by : (ev : Evaluation) → IsEvaluation ev → (s : State) (job : Runnable) → runs (given_of ev s) job ≡ runs (given_at s) job
runs_by ev is s job = ap (λ (ev : Evaluation). runs (given_of ev s) job) (sym (is_evaluated ev is))

module _ (ev : Evaluation) (is : IsEvaluation ev) (s : State) (t : Tok) (list : Unread) where
  abbrev alone : Option Setting → Answer (Option Set)
  alone setting = set_alone (given_at s) setting t.at (situation_of s) list

  one_is : (setting : Option Setting) → setting ≡ setting_of s.names t.kind → one_setting (given_of ev s) t (situation_of s) list ≡ alone setting
  unfolding one_setting
  one_is setting e =
      ap (λ (ev : Evaluation). set_alone (given_of ev s) (setting_of s.names t.kind) t.at (situation_of s) list) (sym (is_evaluated ev is))
      ∙ ap alone (sym e)

  pub none_begins : None ≡ setting_of s.names t.kind → one_setting (given_of ev s) t (situation_of s) list ≡ Ok None
  none_begins e = one_is None e

  module _ (setting : Setting) (begins : Some setting ≡ setting_of s.names t.kind) where
    abbrev set_here : Answer Standing
    set_here = set (given_at s) (runs (given_at s)) setting t.at (standing_of s [] list)

    pub one_set : (new : State) (last : List ℕ) (rest : Unread) → set_here ≡ Ok (standing_of new last rest)
        → one_setting (given_of ev s) t (situation_of s) list ≡ Ok (Some (behind_set new rest))
    one_set new last rest h =
        one_is (Some setting) begins ∙ then_is set_here (λ st. Ok (Some (set_behind st.now st.list))) (standing_of new last rest) h

    pub one_fails : (e : Refusal) → Fails e set_here → Fails e (one_setting (given_of ev s) t (situation_of s) list)
    one_fails e h = fails_as e _ _ (one_is (Some setting) begins) (fails_then e set_here _ h)
