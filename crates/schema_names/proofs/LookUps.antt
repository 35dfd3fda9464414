-- What a list of tables says at a place, where its tables are those of another list.
use Rattle.std.proofs.Common.{◌≡◌, ℕ, List, map, Option, Some, None, slice_get, refl, sym, ap, ◌∙◌}
use Rattle.std.specs.Option.{option_and_then, option_map}
use Rattle.std.proofs.lemmas.Option.{slice_get-map}

mapped_then : {X Y Z : Type 0} (f : X → Y) (use_it : Y → Option Z) (found : Option X) → option_and_then use_it (option_map f found) ≡ option_and_then (λ x. use_it (f x)) found
mapped_then f use_it None = refl
mapped_then f use_it (Some x) = refl

pub look_up : {X Y A Z : Type 0} (f : X → A) (g : Y → A) (use_it : A → Option Z) (xs : List X) (ys : List Y) (i : ℕ) → map f xs ≡ map g ys
    → option_and_then (λ x. use_it (f x)) (slice_get xs i) ≡ option_and_then (λ y. use_it (g y)) (slice_get ys i)
look_up {A = A} f g use_it xs ys i same =
    sym (mapped_then f use_it (slice_get xs i))
    ∙ ap (option_and_then use_it) (sym (slice_get-map f xs i) ∙ ap (λ (made : List A). slice_get made i) same ∙ slice_get-map g ys i)
    ∙ mapped_then g use_it (slice_get ys i)
