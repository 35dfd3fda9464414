-- Of whom a conflict tells.
use Rattle.std.proofs.Common.{◌⊎◌, inl, inr, Contains, sym, subst}
use Rattle.round_trip.specs.Words.{AssocId, SetId, TableId}
use Rattle.regions.specs.Basis.{Basis}
use Rattle.regions.specs.Regions.{regions_of}
use Rattle.regions.specs.declared.pattern.Focus.{Focus}
use Rattle.regions.specs.declared.pattern.Focus.TheVariants as focus
use Rattle.regions.specs.declared.region.Region.{Region}
use Rattle.region_states.specs.conflicts.Conflicts.{IsLinkOf, IsRegionOf, IsTableOf}

module _ (basis : Basis) where
  -- a focus of some set, or of some association
  abbrev pub IsOfOne : Focus → Type 0
  IsOfOne of = ((s : SetId) × IsRegionOf basis s of) ⊎ ((a : AssocId) × IsLinkOf basis a of)

  -- a region is one of some set
  pub region_listed : (region : Region) → IsOfOne (focus.Entity region) → (s : SetId) × Contains (regions_of basis s) region
  region_listed region (inl (s, has)) = (s, has)
  region_listed region (inr (a, never)) = absurd never

  -- a link is that of an association with a table of its own
  pub link_joined : (a : AssocId) → IsOfOne (focus.Link a) → (t : TableId) × IsTableOf basis a t
  link_joined a (inl (s, never)) = absurd never
  link_joined a (inr (b, (is, t, of_table))) = (t, subst (λ c. IsTableOf basis c t) (sym is) of_table)
