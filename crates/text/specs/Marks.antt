-- A list cut at a mark.
use Rattle.std.specs.Prelude.{ℕ, List, [], ◌∷◌, eqb}
use Rattle.wire.specs.Table.{pick}

-- before the first mark, or all where there is none
unfoldable pub before : ℕ → List ℕ → List ℕ
before mark [] = []
before mark (b ∷ l) = pick (eqb b mark) [] (b ∷ before mark l)

-- past the first mark, or nothing where there is none
unfoldable pub past : ℕ → List ℕ → List ℕ
past mark [] = []
past mark (b ∷ l) = pick (eqb b mark) l (past mark l)
