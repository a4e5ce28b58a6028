-- What a command writes, where no call of the outside fails.
use Rattle.std.specs.Prelude.{ℕ, List, Option}

-- the name and the text of a file
pub record Output : Type 0 where
  pub name : List ℕ
  pub text : List ℕ

-- a file, if any, and a text for `out`
pub record Done : Type 0 where
  pub output : Option Output
  pub out : List ℕ
