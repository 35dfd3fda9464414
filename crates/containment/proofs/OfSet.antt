-- The conflicts of a set are those of its regions, for each kind by which regions are looked at one by one.
use Rattle.std.proofs.Common.{◌≡◌, ◌≢◌, ◌≤◌, ℕ, List, length, take, All, Contains, None, Option, Some, refl, sym, subst, ◌∙◌}
use Rattle.std.proofs.lemmas.List.{take_all}
use Rattle.std.proofs.lemmas.List.Elements.{All-contains, All-same}
use Rattle.std.proofs.lemmas.Option.{none-some}
use Rattle.emc_base.proofs.Mapped.{contains_at}
use Rattle.round_trip.specs.Words.{At, SetId}
use Rattle.round_trip.specs.declared.FailKind.{FailKind}
use Rattle.round_trip.specs.declared.FailKind.TheVariants as kind
use Rattle.regions.specs.Basis.{Basis}
use Rattle.regions.specs.Regions.{regions_of}
use Rattle.regions.specs.declared.pattern.Focus.{Focus}
use Rattle.regions.specs.declared.pattern.Focus.TheVariants as focus
use Rattle.regions.specs.declared.region.Region.{Region}
use Rattle.region_states.specs.conflicts.Conflicts.{IsConflictAt, IsRegionOf, TellsOfSet, kind_of}
use Rattle.region_states.specs.declared.conflicts.conflict.Conflict.{Conflict}
use Rattle.region_states.specs.declared.conflicts.conflict.Conflict.TheVariants as conflict
use Rattle.containment.specs.Found.{FindsOne, IsOneOf, focus_of}

module _ (basis : Basis) (s : SetId) (asked : FailKind) where
  abbrev regions : List Region
  regions = regions_of basis s

  of_region : (region : Region) → Contains regions region → (of : Focus) → Some of ≡ Some (focus.Entity region) → IsRegionOf basis s of
  of_region region has of is = let same : of ≡ focus.Entity region = cc in subst (IsRegionOf basis s) (sym same) has

  tells : (region : Region) → Contains regions region → (made : Conflict) → focus_of made ≡ Some (focus.Entity region) → TellsOfSet basis s made
  tells region has (conflict.Clash of t col one two) is = of_region region has of is
  tells region has (conflict.NullIn of t col one) is = of_region region has of is
  tells region has (conflict.Disagree of place) is = of_region region has of is
  tells region has (conflict.Absent one) is = absurd (none-some (focus.Entity region) is)
  tells region has (conflict.Rival one two) is = absurd (none-some (focus.Entity region) is)
  tells region has (conflict.Lost one p) is = absurd (none-some (focus.Entity region) is)
  tells region has (conflict.ManyLinks a) is = absurd (none-some (focus.Entity region) is)
  tells region has (conflict.Unmapped a) is = absurd (none-some (focus.Entity region) is)

  -- one of a region is one of the set
  region_conflict : (region : Region) → Contains regions region → (made : Conflict) → IsOneOf basis (focus.Entity region) asked made → IsConflictAt basis s asked made
  region_conflict region has made is = record { of_kind = is.of_kind; of_set = tells region has made is.of_focus; holds = is.holds }

  -- and where no region has one, the set has none
  no_conflict : asked ≢ kind.Same → All (λ region. FindsOne basis (focus.Entity region) asked None) regions → (made : Conflict) → ¬ IsConflictAt basis s asked made
  no_conflict other none made is = by made is.of_set (λ region has at. All-contains (λ (one : Region). FindsOne basis (focus.Entity one) asked None) regions region none has made
      (record { of_kind = is.of_kind; of_focus = at; holds = is.holds })) is.of_kind
    where
      by_focus : (of : Focus) → IsRegionOf basis s of → ((region : Region) → Contains regions region → Some of ≡ Some (focus.Entity region) → ⊥) → ⊥
      by_focus (focus.Entity region) has not = not region has refl
      by_focus (focus.Link a) has not = has

      by : (one : Conflict) → TellsOfSet basis s one → ((region : Region) → Contains regions region → focus_of one ≡ Some (focus.Entity region) → ⊥) → kind_of one ≡ asked → ⊥
      by (conflict.Clash of t col one two) of_set not is = by_focus of of_set not
      by (conflict.NullIn of t col one) of_set not is = by_focus of of_set not
      by (conflict.Disagree of place) of_set not is = by_focus of of_set not
      by (conflict.Absent one) of_set not is = other (sym is)
      by (conflict.Rival one two) of_set not is = other (sym is)
      by (conflict.Lost one p) of_set not is = other (sym is)
      by (conflict.ManyLinks a) of_set not is = of_set
      by (conflict.Unmapped a) of_set not is = of_set

  -- the same of what a loop over the regions finds at one of them, and of what it doesn't find at any
  pub found_at : (items : List Region) → items ≡ regions → (i : ℕ) (region : Region) → At items i region → (found : Option Conflict) (made : Conflict) → found ≡ Some made
      → FindsOne basis (focus.Entity region) asked found → IsConflictAt basis s asked made
  found_at items are i region at found made is finds =
      region_conflict region (subst (λ list. Contains list region) are (contains_at items i region at)) made (subst (FindsOne basis (focus.Entity region) asked) is finds)

  pub none_at : (items : List Region) → items ≡ regions → (i : ℕ) → length items ≤ i → All (λ region. FindsOne basis (focus.Entity region) asked None) (take i items)
      → asked ≢ kind.Same → (made : Conflict) → ¬ IsConflictAt basis s asked made
  none_at items are i end none other =
      no_conflict other (All-same (λ (region : Region). FindsOne basis (focus.Entity region) asked None) regions (take i items) (sym (take_all i items end ∙ are)) none)

-- no conflict of a set is one by which a foreign key dangles
pub no_dangling_of_set : (basis : Basis) (s : SetId) (made : Conflict) → ¬ IsConflictAt basis s kind.Dangling made
no_dangling_of_set basis s made is = by made is.of_kind
  where
    by : (one : Conflict) → kind_of one ≡ kind.Dangling → ⊥
    by (conflict.Clash of t col one two) told = cc
    by (conflict.NullIn of t col one) told = cc
    by (conflict.Disagree of place) told = cc
    by (conflict.Absent one) told = cc
    by (conflict.Rival one two) told = cc
    by (conflict.Lost one p) told = cc
    by (conflict.ManyLinks a) told = cc
    by (conflict.Unmapped a) told = cc
