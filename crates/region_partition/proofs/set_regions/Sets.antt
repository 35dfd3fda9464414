-- The sets one after another, and what is made of each.
use Rattle.std.proofs.Common.{◌≡◌, ◌<◌, ◌+◌, inl, inr, ℕ, List, [], ◌∷◌, ◌++◌, length, refl, sym, ap, subst, ◌∙◌, arith}
use Rattle.std.proofs.lemmas.List.{length_push}
use Rattle.std.proofs.lemmas.Option.{slice_get_within}
use Rattle.round_trip.specs.Words.{At, SetId}
use Rattle.table_owners.proofs.lists.Items.{at_push}
use Rattle.regions.specs.declared.region.Region.{Region}
use Rattle.regions.specs.Basis.{Basis}
use Rattle.regions.specs.Regions.{regions_of}
use Rattle.region_partition.specs.set_regions.Regions.{AreRegions}

-- these are of the first so many sets, each of its own
abbrev pub AreOfFirst : {X : Type 0} → (SetId → X → Type 0) → ℕ → List X → Type 0
AreOfFirst {X} IsOf i items = (length items ≡ i) × ((s : SetId) (item : X) → At items s.index item → IsOf s item)

module _ {X : Type 0} (IsOf : SetId → X → Type 0) where
  pub none_yet : AreOfFirst IsOf 0 []
  none_yet = (refl, λ s item at. absurd (let within : s.index < 0 = slice_get_within [] s.index item at in omega arith))

  pub one_more : (i : ℕ) (items : List X) (item : X) → AreOfFirst IsOf i items → IsOf (record { index = i }) item → AreOfFirst IsOf (i + 1) (items ++ item ∷ [])
  one_more i items item first is = (
    length_push items item ∙ ap (λ n. n + 1) first.0,
    λ s other at. elim (at_push items item s.index other at) [
      | inl before ↦ first.1 s other before
      | inr last ↦
          let place : i ≡ s.index = sym first.0 ∙ sym last.0 in
          let P : ℕ → Type 0 = λ n. IsOf (record { index = n }) item in
          subst (IsOf s) last.1 (subst P place is)
    ],
  )

-- the regions of a set
abbrev pub AreRegionsOf : Basis → SetId → List Region → Type 0
AreRegionsOf basis s of_set = of_set ≡ regions_of basis s

pub all_made : (basis : Basis) (i : ℕ) (regions : List (List Region)) → AreOfFirst (AreRegionsOf basis) i regions → i ≡ length basis.schema.model.sets → AreRegions basis regions
all_made basis i regions first all = record { count = first.0 ∙ all; each = first.1 }
