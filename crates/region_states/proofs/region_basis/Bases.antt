-- The answers by a mapping's cells are those of the definitions.
use Rattle.round_trip.specs.soundness.mappings.Mappings.{IsSoundSchema}
use Rattle.schema_laws.proofs.sound_demand.Deriving.{decides_types}
use Rattle.regions.specs.region_laws.IsBasis.{IsBasis}
use Rattle.regions.proofs.region_laws.values.Domains.{decides_domains}
use Rattle.cells.specs.Cells.{TellsCells}
use Rattle.cells.specs.Parts.{AreParts, schema_in}
use Rattle.cells.specs.declared.parts.Parts.{Parts}
use Rattle.region_states.specs.region_basis.BasisOf.{basis_of}
use Rattle.region_states.proofs.region_basis.Groups.{constants_told, tested_told}
use Rattle.region_states.proofs.region_basis.Hosts.{hosted_is, hosts_in_order, is_hosted}

-- the limits aren't needed for it
pub basis_told : (parts : Parts) → IsSoundSchema (schema_in parts) → TellsCells (schema_in parts) parts.cells.now → IsBasis (basis_of parts)
basis_told parts sound told =
    let schema = schema_in parts in
    let groups = parts.cells.now.groups in
    let places = parts.cells.now.places in
    record {
      sound = sound;
      types = decides_types schema.model sound.model;
      domains = decides_domains;
      groups = told.groups.same;
      constants = constants_told schema groups told.groups;
      tested = tested_told schema groups told.groups;
      hosts = λ s host. (hosted_is schema sound places told.places s host, is_hosted schema sound places told.places s host);
      order = hosts_in_order schema sound places told.places;
    }

-- the same of parts
pub basis_is : (parts : Parts) → AreParts parts → IsBasis (basis_of parts)
basis_is parts are = basis_told parts are.sound are.cells
