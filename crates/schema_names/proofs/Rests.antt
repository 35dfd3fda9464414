-- What follows two texts at the front of another: what follows the second, behind what follows the first.
use Rattle.std.proofs.Common.{◌≡◌, ℕ, List, [], ◌∷◌, ◌++◌, length, drop, Bool, true, false, Some, None, refl}
use Rattle.std.specs.Prelude.{◌==◌, ◌&&◌, if◌then◌else◌}
use Rattle.std.specs.List.{starts_with}
use Rattle.std.specs.Option.{option_and_then}
use Rattle.groupings.specs.name_places.Fronts.{rest_after}

pub rest_append : (front next text : List ℕ) → rest_after (front ++ next) text ≡ option_and_then (rest_after next) (rest_after front text)
rest_append [] next text = refl
rest_append (x ∷ front) next [] = refl
rest_append (x ∷ front) next (y ∷ text) = by (x == y) (rest_append front next text)
  where
    by : (same : Bool) → rest_after (front ++ next) text ≡ option_and_then (rest_after next) (rest_after front text)
        → (if same && starts_with (λ one other. one == other) text (front ++ next) then Some (drop (length (front ++ next)) text) else None)
        ≡ option_and_then (rest_after next) (if same && starts_with (λ one other. one == other) text front then Some (drop (length front) text) else None)
    by true rest = rest
    by false rest = refl
