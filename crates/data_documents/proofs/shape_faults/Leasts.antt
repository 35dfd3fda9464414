-- The first place behind a step, and the first in a list that was mapped.
use Rattle.std.proofs.Common.{◌≡◌, ◌≢◌, ℕ, List, [], ◌∷◌, map, slice_get, Option, Some, None, false, refl, sym, ap, subst, ◌∙◌}
use Rattle.std.specs.declared.cmp.Ordering.{Ordering}
use Rattle.std.specs.declared.cmp.Ordering.TheVariants.{Greater}
use Rattle.std.specs.Cmp.{tied_itself}
use Rattle.std.specs.Option.{is_some, option_map}
use Rattle.std.specs.Ordering.{ordering_then}
use Rattle.std.proofs.lemmas.Option.{slice_get-map}
use Rattle.groupings.specs.least_fault.Least.{Among, IsLeast}
use Rattle.groupings.proofs.least_fault.Leasts.{least_only, least_same}
use Rattle.data_documents.specs.declared.shape_faults.place.ShapeStep.{ShapeStep}
use Rattle.data_documents.specs.shape_faults.Nodes.{Behind}
use Rattle.data_documents.specs.shape_faults.PlaceOrder.{place_cmp_total, step_cmp_total}
use Rattle.data_documents.specs.shape_faults.Places.{place_cmp}

-- a step before both places changes nothing of their order
behind_cmp : (step : ShapeStep) (one other : List ShapeStep) → place_cmp (step ∷ one) (step ∷ other) ≡ place_cmp one other
behind_cmp step one other = ap (λ order. ordering_then order (place_cmp one other)) (tied_itself step_cmp_total step)

-- the first place behind a step is the first that is seen from there
pub least_behind : (step : ShapeStep) (P : List ShapeStep → Type 0) (found : Option (List ShapeStep)) → IsLeast place_cmp P found
    → IsLeast place_cmp (Behind step P) (option_map (λ place. step ∷ place) found)
least_behind step P None none = λ place some. none some.rest some.holds
least_behind step P (Some found) is = (record { rest = found; reached = refl; holds = is.0 }, before)
  where
    before : (place : List ShapeStep) → Behind step P place → place_cmp (step ∷ found) place ≢ Greater
    before place some =
        subst (λ (other : List ShapeStep). place_cmp (step ∷ found) other ≢ Greater) (sym some.reached)
        (subst (λ (order : Ordering). order ≢ Greater) (sym (behind_cmp step found some.rest)) (is.1 some.rest some.holds))

-- the same of a place that was told
pub least_behind_told : (step : ShapeStep) (P : List ShapeStep → Type 0) (inside seen : List ShapeStep) → seen ≡ step ∷ inside
    → IsLeast place_cmp P (Some inside) → IsLeast place_cmp (Behind step P) (Some seen)
least_behind_told step P inside seen is least =
    subst (λ (place : List ShapeStep). IsLeast place_cmp (Behind step P) (Some place)) (sym is) (least_behind step P (Some inside) least)

-- no place comes before that of the node itself
pub here_first : (place : List ShapeStep) → place_cmp [] place ≢ Greater
here_first [] = λ same. absurd cc
here_first (step ∷ place) = λ same. absurd cc

-- the only place
pub least_alone : (P : List ShapeStep → Type 0) (found : List ShapeStep) → P found → ((place : List ShapeStep) → P place → place ≡ found)
    → IsLeast place_cmp P (Some found)
least_alone P found is only = least_only place_cmp place_cmp_total P found is only

-- what is first among items is so among what they are mapped to
module _ {X Y : Type 0} (f : X → Y) (Q : ℕ → Y → List ShapeStep → Type 0) (xs : List X) where
  pub least_mapped : (found : Option (List ShapeStep)) → IsLeast place_cmp (Among (λ i x. Q i (f x)) xs) found
      → IsLeast place_cmp (Among Q (map f xs)) found
  least_mapped found is = least_same place_cmp (Among (λ i x. Q i (f x)) xs) (Among Q (map f xs)) found to back is
    where
      to : (place : List ShapeStep) → Among (λ i x. Q i (f x)) xs place → Among Q (map f xs) place
      to place some = record { i = some.i; item = f some.item; here = slice_get-map f xs some.i ∙ ap (option_map f) some.here; holds = some.holds }

      seen : (x : Option X) (y : Y) → option_map f x ≡ Some y → (found : X) × (x ≡ Some found) × (f found ≡ y)
      seen None y is = absurd cc
      seen (Some found) y is = (found, refl, let same : f found ≡ y = cc in same)

      back : (place : List ShapeStep) → Among Q (map f xs) place → Among (λ i x. Q i (f x)) xs place
      back place some =
          let item = seen (slice_get xs some.i) some.item (sym (slice_get-map f xs some.i) ∙ some.here) in
          let P : Y → Type 0 = λ y. Q some.i y place in
          record { i = some.i; item = item.0; here = item.1; holds = subst P (sym item.2) some.holds }

-- where no member was found, there is none
pub not_got : {X Y : Type 0} (f : X → Y) (found : Option X) (got : Option Y) → is_some found ≡ false → option_map f found ≡ got → got ≡ None
not_got f None got none is = sym is
not_got f (Some x) got none is = absurd cc
