-- The line that `drill` prints.
use Rattle.std.specs.Prelude.{ℕ, List, [], ◌∷◌, ◌++◌, codes, decimal}

-- five counts, each behind its word: of entities and links, of rows, of changes, and of changes of rows
unfoldable pub drill_line : ℕ → ℕ → ℕ → ℕ → ℕ → List ℕ
drill_line entities links rows changes row_changes = codes "drill entities=" ++ (decimal entities ++ (codes " links=" ++ (decimal links ++ (codes " rows=" ++ (decimal rows
    ++ (codes " changes=" ++ (decimal changes ++ (codes " rowchanges=" ++ (decimal row_changes ++ 10 ∷ [])))))))))
