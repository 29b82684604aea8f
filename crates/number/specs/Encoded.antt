-- What a contract sees of an encoding.
use Rattle.std.specs.Prelude.{ℕ, List}

-- its bytes, and those of the unused room, of which no clause says anything
pub record Encoded : Type 0 where
  pub items : List ℕ
  pub spare : List ℕ
