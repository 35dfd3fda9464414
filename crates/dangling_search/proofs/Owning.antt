-- The set that owns a table, by what the cells tell.
use Rattle.std.proofs.Common.{◌≡◌, ◌∙◌, inl, inr, List, Option, Some, None, sym, ap, subst}
use Rattle.cells.specs.Parts.{AreParts, schema_in}
use Rattle.cells.specs.declared.parts.Parts.{Parts}
use Rattle.round_trip.specs.Words.{AssocId, ColId, Fragment, IsWritten, LinkFragment, Pair, PropId, Schema, SetId, TableId, key_columns}
use Rattle.round_trip.specs.soundness.mappings.Owners.{Owns}
use Rattle.schema_laws.specs.state_demand.Owners.{props_in}
use Rattle.schema_laws.specs.state_demand.WellWritten.{cols_of}
use Rattle.schema_laws.proofs.state_demand.lists.Lists.{any_of}
use Rattle.schema_laws.proofs.sound_demand.owners.OneOwner.{owned_or_joined}
use Rattle.schema_laws.proofs.sound_demand.owners.Owned.{joined_to, owned}
use Rattle.table_owners.specs.Pairings.{TellsPairing}
use Rattle.table_owners.specs.Owners.{TellsOwner}
use Rattle.table_owners.specs.declared.table_writers.writer.Owner.{Owner}
use Rattle.table_owners.specs.declared.table_writers.writer.Owner.TheVariants as told
use Rattle.region_states.specs.region_basis.BasisOf.{basis_of}
use Rattle.dangling_keys.specs.Dangling.{OwnsTable}
use Rattle.dangling_search.specs.Found.{IsOwnedBy, OwnedHere, pairs_by}
use Rattle.dangling_search.proofs.Lists.{pairs_are}
use Rattle.dangling_search.proofs.Pairing.{props_are}

is_written : (schema : Schema) (t : TableId) (s : SetId) (pairs : List Pair) → Owns schema t s pairs → IsWritten schema.mapping t
is_written schema t s pairs (inl writes) = inl (any_of (λ (f : Fragment). f.table ≡ t) schema.mapping.fragments writes.fragment writes.is_fragment writes.to_table)
is_written schema t s pairs (inr (fragment, assoc, maps, hosts)) = inr (any_of (λ (f : LinkFragment). f.table ≡ t) schema.mapping.links fragment maps.is_fragment maps.to_table)

module _ (parts : Parts) (are : AreParts parts) (t : TableId) where
  pub owns_by : (s : SetId) → IsOwnedBy (schema_in parts) t s → (props : List PropId) → TellsPairing (schema_in parts) t props
      → OwnsTable (basis_of parts) t s (pairs_by (key_columns (schema_in parts).store t) props)
  owns_by s is props tells =
      let own = owned (schema_in parts) are.sound t s is.0 is.1 in
      let told_props : props ≡ props_in own.0 = props_are (schema_in parts) are.sound t s own.0 own.1 props tells is in
      let pairs : pairs_by (key_columns (schema_in parts).store t) props ≡ own.0 =
      ap (λ (cols : List ColId). pairs_by cols props) (sym own.1.cols) ∙ ap (pairs_by (cols_of own.0)) told_props ∙ pairs_are own.0 in
      subst (OwnsTable (basis_of parts) t s) (sym pairs) (record { owned = own.1; written = is_written (schema_in parts) t s is.0 is.1 })

  pub none_owns : (found : Option Owner) → TellsOwner (schema_in parts) t found → found ≡ None → OwnedHere (basis_of parts) t None
  none_owns None tells same_none u pairing owns = absurd (tells owns.written)
  none_owns (Some owner) tells same_none u pairing owns = absurd (let never : Some owner ≡ None = same_none in cc)

  pub joined_owns : (a : AssocId) → TellsOwner (schema_in parts) t (Some (told.Assoc a)) → OwnedHere (basis_of parts) t None
  joined_owns a (fragment, joined, maps, is, same_assoc) u pairing owns =
      owned_or_joined (schema_in parts) are.sound t u pairing fragment joined owns.owned (joined_to (schema_in parts) are.sound t fragment joined maps is)
