-- An accepted mapping meets what storing a legal state asks.
use Rattle.round_trip.specs.Words.{IsLegal, Schema, SetId, State}
use Rattle.round_trip.specs.TablesAre.{HasNoClash}
use Rattle.round_trip.specs.declared.FailKind.TheVariants as kind
use Rattle.cells.specs.Parts.{AreParts, schema_in}
use Rattle.cells.specs.declared.parts.Parts.{Parts}
use Rattle.regions.specs.region_laws.Partners.{HasFewPartners}
use Rattle.region_states.specs.region_basis.BasisOf.{basis_of}
use Rattle.region_states.proofs.region_basis.Bases.{basis_is}
use Rattle.host_states.proofs.FewPartners.{few_by_clear}
use Rattle.mapping_core.specs.Accepted.{IsAccepted}

-- partners are few
pub few_partners : (parts : Parts) → AreParts parts → IsAccepted (schema_in parts) → (s : SetId) → HasFewPartners (basis_of parts) s
few_partners parts are accepted = few_by_clear (basis_of parts) (basis_is parts are) are.limits (accepted.round_trips kind.Clash)

-- each legal state has tables, and so no clash
pub clear : (schema : Schema) → IsAccepted schema → (state : State) → IsLegal schema.model state → HasNoClash schema state
clear schema accepted state legal = (accepted.keeps.every_state.stored state legal).defined.no_clash
