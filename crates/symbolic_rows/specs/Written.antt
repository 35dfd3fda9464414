-- Writings of the program as those of the definitions, and the hosted links of one association.
-- Source: MSL version 3, MappingFragment and AssociationSetMapping.
use Rattle.std.specs.Prelude.{ℕ, List, filter, flat_map}
use Rattle.round_trip.specs.Words.{AssocId, Assoc}
use Rattle.table_owners.specs.declared.places.LinkPlace.{LinkPlace}
use Rattle.regions.specs.declared.region.Region.{Region}
use Rattle.regions.specs.Basis.{Basis, Host}
use Rattle.regions.specs.Symbols.{SymbolWriting, host_writings, is_linked}
use Rattle.region_states.specs.region_basis.BasisOf.{host_at, host_by}
use Rattle.symbolic_rows.specs.declared.writing.Writing.{Writing}

-- a writing as it stands in the definitions
abbrev pub in_symbols : Writing → SymbolWriting
in_symbols writing = record { table = writing.table; cells = writing.cells }

-- what the links of these associations write, if they host the region's entities
abbrev pub linked_writings : Basis → Region → List Host → List SymbolWriting
linked_writings basis region hosts = flat_map (host_writings basis) (filter (λ host. is_linked basis region.linked host.assoc) hosts)

-- what the links of an association write that stand at this place
abbrev pub writings_at : Basis → Region → AssocId → Assoc → LinkPlace → List SymbolWriting
writings_at basis region a assoc place = linked_writings basis region (host_by region.set a assoc place)

-- the same of a numbered association
abbrev pub writings_by : Basis → List LinkPlace → Region → ℕ × Assoc → List SymbolWriting
writings_by basis places region entry = linked_writings basis region (host_at places region.set entry)
