-- What the answers on a fragment's place and on hosted links tell.
use Rattle.std.proofs.Common.{◌≡◌, ◌⊎◌, ℕ, ◌==◌, ◌&&◌, List, Bool, Contains, Decides, IsTrue, sym}
use Rattle.std.specs.List.{list_any}
use Rattle.std.specs.Str.{bytes_eq}
use Rattle.std.proofs.lemmas.Bool.Decides.{Decides-and, Decides-like, Decides-or}
use Rattle.std.proofs.lemmas.Slice.Eq.{bytes_eq-Decides}
use Rattle.round_trip.specs.Words.{AssocId, Fragment, LinkFragment}
use Rattle.schema_laws.proofs.state_demand.lists.Lists.{Decides-any, any_of, of_any}
use Rattle.regions.specs.declared.region.Region.{Region}
use Rattle.regions.specs.declared.pattern.Focus.TheVariants as focus
use Rattle.regions.specs.Basis.{Basis, Host}
use Rattle.schema_laws.proofs.state_demand.lists.Ids.{Decides-assoc}
use Rattle.region_states.specs.conflicts.Facts.{differs_at, differs_at_links, disagrees_at, is_hosted}

-- a test of some item, with the item
pub Decides-some : {X : Type 0} (p : X → Bool) (P : X → Type 0) → ((x : X) → Decides (p x) (P x)) → (xs : List X)
    → Decides (list_any p xs) ((x : X) × Contains xs x × P x)
Decides-some p P each xs = Decides-like (list_any p xs) (λ any. of_any P xs any) (λ found. any_of P xs found.0 found.1 found.2) (Decides-any p P each xs)

module _ (basis : Basis) (region : Region) where
  -- the links of an association are hosted at the region's set
  pub Decides-hosted : (a : AssocId) → Decides (is_hosted basis region a) ((host : Host) × Contains (basis.hosts region.set) host × (a ≡ host.assoc))
  Decides-hosted a = Decides-some (λ (host : Host). host.assoc.index == a.index) (λ (host : Host). a ≡ host.assoc)
      (λ host. Decides-like (host.assoc.index == a.index) sym sym (Decides-assoc host.assoc a)) (basis.hosts region.set)

  module _ (place : List ℕ) where
    -- a fragment with this place differs from the region
    abbrev pub SomeDiffers : Type 0
    SomeDiffers = (fragment : Fragment) × Contains basis.schema.mapping.fragments fragment × ((fragment.place ≡ place) × IsTrue (differs_at basis region fragment))

    -- a fragment of links does
    abbrev pub SomeLinksDiffer : Type 0
    SomeLinksDiffer = (fragment : LinkFragment) × Contains basis.schema.mapping.links fragment × ((fragment.place ≡ place) × IsTrue (differs_at_links basis region fragment))

    pub Decides-disagrees : Decides (disagrees_at basis (focus.Entity region) place) (SomeDiffers ⊎ SomeLinksDiffer)
    Decides-disagrees = Decides-or
        (list_any (λ fragment. bytes_eq fragment.place place && differs_at basis region fragment) basis.schema.mapping.fragments)
        (list_any (λ fragment. bytes_eq fragment.place place && differs_at_links basis region fragment) basis.schema.mapping.links)
        (Decides-some (λ (fragment : Fragment). bytes_eq fragment.place place && differs_at basis region fragment)
        (λ (fragment : Fragment). (fragment.place ≡ place) × IsTrue (differs_at basis region fragment))
        (λ fragment. Decides-and (bytes_eq fragment.place place) (differs_at basis region fragment) (bytes_eq-Decides fragment.place place) ((λ so. so), λ so. so))
        basis.schema.mapping.fragments)
        (Decides-some (λ (fragment : LinkFragment). bytes_eq fragment.place place && differs_at_links basis region fragment)
        (λ (fragment : LinkFragment). (fragment.place ≡ place) × IsTrue (differs_at_links basis region fragment))
        (λ fragment. Decides-and (bytes_eq fragment.place place) (differs_at_links basis region fragment) (bytes_eq-Decides fragment.place place) ((λ so. so), λ so. so))
        basis.schema.mapping.links)
