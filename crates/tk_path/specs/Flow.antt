-- Parts that follow one another up to an end.
use Rattle.std.specs.Prelude.{Ok}
use Rattle.tk_token.specs.Answers.{Answer}

-- what one part leaves: more is to come, or the end was met
pub data Flow (A B : Type 0) : Type 0 where
  Goes_on : A → Flow A B
  Finishes : B → Flow A B

-- what follows a part
abbrev pub go_on : {A B : Type 0} → (A → Answer B) → Flow A B → Answer B
go_on follow (Goes_on a) = follow a
go_on follow (Finishes b) = Ok b
