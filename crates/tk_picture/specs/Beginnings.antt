-- What paths begin with.
use Rattle.std.specs.Prelude.{ℕ, false, List, codes}
use Rattle.tk_token.specs.Answers.{Answer, ◌>>=◌}
use Rattle.tk_token.specs.Texts.{tokens_of}
use Rattle.tk_keys.specs.Environment.{Env}
use Rattle.tk_keys.specs.Given.{Given}
use Rattle.tk_path.specs.Configurations.{Configuration}
use Rattle.tk_path.specs.Keys.{with_env, with_keys, with_style}
use Rattle.tk_path.specs.Paths.{path}

-- nothing is drawn or filled
abbrev pub unpainted : Env → Env
unpainted env = record env {
  graphics = record env.graphics {
    look = record env.graphics.look {
      draw_on = false;
      fill_on = false;
    };
  };
}

-- the same, where nothing is drawn or filled
abbrev pub plain : Configuration → Configuration
plain c = with_env (unpainted c.env) c

-- what a path begins with, whose command stands at that place and has those keys: nothing is drawn or filled, the style
-- `every path` runs, and then the keys of the command
unfoldable pub path_begun : Given → List ℕ → ℕ → Configuration → Answer Configuration
path_begun given keys at c = do
  painted ← with_style given at (codes "every path") (plain c)
  with_keys given at (tokens_of at keys) painted

-- a path from behind its command, which stands at that place and has those keys
unfoldable pub whole_path : Given → List ℕ → ℕ → Configuration → Answer Configuration
whole_path given keys at c = do
  begun ← path_begun given keys at c
  path given begun
