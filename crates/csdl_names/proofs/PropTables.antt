-- What a table of types says at a place: where the type declares its properties.
use Rattle.std.proofs.Common.{◌≡◌, ℕ, List, map, Option, Some, None, slice_get, refl, sym, ap, ◌∙◌}
use Rattle.std.specs.Option.{option_and_then, option_map}
use Rattle.std.proofs.lemmas.Option.{none-some, same_Some, slice_get-map}
use Rattle.emc_base.specs.Lists.{At}
use Rattle.groupings.specs.declared.name_places.places.Places.{Places}
use Rattle.groupings.specs.name_places.PlacesIn.{place_in}
use Rattle.csdl_names.specs.declared.csdl_lists.raw.RawType.{RawType}
use Rattle.csdl_names.specs.declared.csdl_lists.raw.RawModel.{RawModel}
use Rattle.csdl_names.specs.csdl_lists.References.{names_in}
use Rattle.csdl_names.specs.PropPlaces.{own_prop, place_of_prop}

module _ (props : List Places) (types : List RawType) (same : map place_in props ≡ map place_of_prop types) (i : ℕ) (type : RawType) (here : At types i type) where
  declared_at : option_map place_in (slice_get props i) ≡ Some (place_of_prop type)
  declared_at = sym (slice_get-map place_in props i) ∙ ap (λ (places : List (List ℕ → Option ℕ)). slice_get places i) same ∙ slice_get-map place_of_prop types i ∙ ap (option_map place_of_prop) here

  -- the places at a type's place are those of its properties
  pub places_at : (places : Places) → At props i places → place_in places ≡ place_of_prop type
  places_at places at = same_Some (place_in places) (place_of_prop type) (sym (ap (option_map place_in) at) ∙ declared_at)

  -- and there are some
  pub some_places : ¬ (slice_get props i ≡ None)
  some_places none = none-some (place_of_prop type) (sym (ap (option_map place_in) none) ∙ declared_at)

and_then_mapped : {X Y Z : Type 0} (f : X → Y) (g : Y → Option Z) (o : Option X) → option_and_then g (option_map f o) ≡ option_and_then (λ x. g (f x)) o
and_then_mapped f g None = refl
and_then_mapped f g (Some x) = refl

module _ (model : RawModel) (props : List Places) (same : map place_in props ≡ map place_of_prop model.types) (i : ℕ) (name : List ℕ) where
  -- what the table says of a name in any type
  table_tells : option_and_then (λ places. place_in places name) (slice_get props i) ≡ option_and_then (λ type. place_of_prop type name) (slice_get model.types i)
  table_tells =
      let one : option_map place_in (slice_get props i) ≡ option_map place_of_prop (slice_get model.types i) =
      sym (slice_get-map place_in props i) ∙ ap (λ (places : List (List ℕ → Option ℕ)). slice_get places i) same ∙ slice_get-map place_of_prop model.types i in
      sym (and_then_mapped place_in (λ places. places name) (slice_get props i))
      ∙ ap (option_and_then (λ (places : List ℕ → Option ℕ). places name)) one
      ∙ and_then_mapped place_of_prop (λ places. places name) (slice_get model.types i)

  -- the property that the type declares stands where the table says
  pub own_is : (places : Places) (found : Option ℕ) → Some places ≡ slice_get props i → found ≡ place_in places name
      → option_map (λ k. record { owner = i; place = k }) found ≡ own_prop (names_in model) model i name
  own_is places found here is =
      ap (option_map (λ (k : ℕ). record { owner = i; place = k }))
      (is ∙ ap (option_and_then (λ (other : Places). place_in other name)) here ∙ table_tells)

  -- and a type that isn't in the table declares none
  pub own_none : slice_get props i ≡ None → None ≡ own_prop (names_in model) model i name
  own_none none = ap (option_map (λ (k : ℕ). record { owner = i; place = k })) (ap (option_and_then (λ (other : Places). place_in other name)) (sym none) ∙ table_tells)
