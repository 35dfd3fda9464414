-- What follows a text at the front of another.
use Rattle.std.specs.Prelude.{ℕ, List, [], ◌∷◌, ◌++◌, length, drop, Option, Some, None, if◌then◌else◌, ◌==◌}
use Rattle.std.specs.List.{starts_with}

-- what follows a text at the front of another
abbrev pub rest_after : List ℕ → List ℕ → Option (List ℕ)
rest_after front text = if starts_with (λ one other. one == other) text front then Some (drop (length front) text) else None

-- what follows the name of a schema and a dot
abbrev pub rest_of : List ℕ → List ℕ → Option (List ℕ)
rest_of schema text = rest_after (schema ++ 46 ∷ []) text
