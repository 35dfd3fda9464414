use Rattle.std.proofs.Common.{List, Contains, sym, subst}
use Rattle.round_trip.specs.Words.{SetId, Entity, Hosted}
use Rattle.emc_base.specs.Lists.{At}
use Rattle.emc_base.proofs.Mapped.{contains_at}
use Rattle.regions.specs.declared.region.Region.{Region}
use Rattle.regions.specs.Basis.{Basis}
use Rattle.regions.specs.Regions.{Holds, regions_of}
use Rattle.regions.specs.region_laws.IsBasis.{IsBasis}
use Rattle.regions.specs.region_laws.RegionAt.{region_at}
use Rattle.regions.proofs.region_laws.entities.Regions.{region_held, region_only}
use Rattle.region_states.specs.region_basis.BasisOf.{basis_of}
use Rattle.region_states.proofs.region_basis.Bases.{basis_is}
use Rattle.region_partition.specs.region_search.StandsIn.{StandsIn}
use Rattle.region_partition.proofs.region_search.search.region_of.Goals as goal

-- the region of an entity that stands in a set is listed, and holds it
held_at : (basis : Basis) → IsBasis basis → (s : SetId) (entity : Entity) (links : List Hosted) → StandsIn basis s entity links
    → Contains (regions_of basis s) (region_at basis s entity links) × Holds basis (region_at basis s entity links) entity links
held_at basis is s entity links at =
    region_held basis is (record { state = at.state; legal = at.legal; s = s; entity = entity; stands = at.stands }) links at.hosted

pub unreachable-requires : goal.unreachable-requires
unreachable-requires c =
    let basis = basis_of c.args.parts.now in
    let is = basis_is c.args.parts.now c.requires.parts in
    let region = region_at basis c.args.set c.args.entity.now c.args.links.now in
    let held = held_at basis is c.args.set c.args.entity.now c.args.links.now c.requires.legal in
    c.in-None.ensures.none region (subst (λ (list : List Region). Contains list region) (sym c.requires.are) held.0) held.1

pub returns-clause-place : goal.returns-clause-place
returns-clause-place c =
    let basis = basis_of c.args.parts.now in
    let is = basis_is c.args.parts.now c.requires.parts in
    let found = c.in-Some.ensures.found in
    let listed = subst (λ (list : List Region). Contains list found.0) c.requires.are (contains_at c.args.regions.now c.in-Some.place found.0 found.1) in
    let P : Region → Type 0 = λ region. At c.args.regions.now c.in-Some.place region in
    subst P (region_only basis is (record {
      s = c.args.set;
      region = found.0;
      entity = c.args.entity.now;
      links = c.args.links.now;
      listed = listed;
      holds = found.2;
    })) found.1

pub returns-clause-holds : goal.returns-clause-holds
returns-clause-holds c =
    let basis = basis_of c.args.parts.now in
    let is = basis_is c.args.parts.now c.requires.parts in
    (held_at basis is c.args.set c.args.entity.now c.args.links.now c.requires.legal).1
