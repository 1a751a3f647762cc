-- What a contract sees of a `ShortList`.
use Rattle.std.specs.Prelude.{List}

-- its items, and what lies in the unused places, of which no clause says anything
pub record ShortList (T : Type 0) : Type 0 where
  pub items : List T
  pub spare : List T
