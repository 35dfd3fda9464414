-- The rows of a focus are those of who owns their table: only the set or the association that owns the table from which a key points has rows that refer by it.
use Rattle.std.proofs.Common.{◌≡◌, ◌<◌, inl, inr, length, Contains, Some, None, refl, sym, ap, subst, ◌∙◌}
use Rattle.std.proofs.lemmas.Option.{slice_get_within}
use Rattle.round_trip.specs.Words.{AssocId, Fragment, IsWritten, LinkFragment, SetId, TableId}
use Rattle.schema_laws.specs.state_demand.Owners.{IsJoinedTo, IsOwned}
use Rattle.schema_laws.proofs.state_demand.lists.Lists.{any_of}
use Rattle.schema_laws.proofs.sound_demand.owners.OneOwner.{one_joined, one_owner, owned_or_joined}
use Rattle.schema_laws.proofs.sound_demand.owners.Owned.{joined_to, owned}
use Rattle.table_owners.specs.Owners.{TellsOwner}
use Rattle.table_owners.specs.declared.table_writers.writer.Owner.TheVariants as told
use Rattle.regions.specs.Basis.{Basis}
use Rattle.regions.specs.Patterns.{pattern_of}
use Rattle.regions.specs.Regions.{regions_of}
use Rattle.regions.specs.Symbols.{SymbolWriting, region_writings}
use Rattle.regions.specs.declared.pattern.Focus.{Focus}
use Rattle.regions.specs.declared.pattern.Focus.TheVariants as focus
use Rattle.regions.specs.declared.pattern.PatternRow.{PatternRow}
use Rattle.regions.specs.declared.region.Region.{Region}
use Rattle.regions.specs.region_laws.IsBasis.{IsBasis}
use Rattle.regions.proofs.region_laws.pattern.Cells.{row_of, writing_to}
use Rattle.regions.proofs.region_laws.pattern.symbols.Origins.{IsRegionWriter, chosen_of, link_of, region_writer}
use Rattle.region_states.specs.conflicts.Conflicts.{IsTableOf}
use Rattle.region_states.specs.focus.Held.{HasRow}
use Rattle.region_states.proofs.focus.Listed.{row_joined, row_owned}
use Rattle.dangling_keys.specs.Dangling.{IsRowFocus}

-- the focus is an entity of a region of the set
abbrev pub IsOfSet : Basis → SetId → Focus → Type 0
IsOfSet basis s of = (region : Region) × Contains (regions_of basis s) region × (of ≡ focus.Entity region)

module _ (basis : Basis) (is : IsBasis basis) (t : TableId) where
  -- what has a row of a table is written to it
  entity_written : (region : Region) → HasRow (pattern_of basis (focus.Entity region)) t → IsWritten basis.schema.mapping t
  entity_written region (row, here, to) =
      let of = row_of basis.schema.store (region_writings basis region) row here in
      let writing = writing_to basis.schema.store (region_writings basis region) of.t of.written in
      by writing.0 (writing.2 ∙ sym (ap (λ (r : PatternRow). r.table) of.is) ∙ to) (region_writer basis region writing.0 writing.1)
    where
      by : (writing : SymbolWriting) → writing.table ≡ t → IsRegionWriter basis region writing → IsWritten basis.schema.mapping t
      by writing to_table (inl (fragment, among, is_writing)) =
          inl (any_of (λ (f : Fragment). f.table ≡ t) basis.schema.mapping.fragments fragment (chosen_of basis region fragment among).0 (ap (λ (w : SymbolWriting). w.table) is_writing ∙ to_table))
      by writing to_table (inr (host, fragment, is_host, linked, among, is_writing)) =
          inr (any_of (λ (f : LinkFragment). f.table ≡ t) basis.schema.mapping.links fragment (link_of basis host.assoc fragment among).0 (ap (λ (w : SymbolWriting). w.table) is_writing ∙ to_table))

  entity_owned : (s : SetId) (region : Region) → Contains (regions_of basis s) region → HasRow (pattern_of basis (focus.Entity region)) t → (pairing : _) × IsOwned basis.schema t s pairing
  entity_owned s region listed of_row =
      let found = row_owned basis is s region listed of_row.0 of_row.1 in (found.1, subst (λ (u : TableId). IsOwned basis.schema u s found.1) of_row.2 found.3)

  -- a link's row is that of its association's table
  link_joined : (a : AssocId) → IsRowFocus basis (focus.Link a) → HasRow (pattern_of basis (focus.Link a)) t → IsTableOf basis a t
  link_joined a (u, its) = subst P its.of_assoc by
    where
      P : AssocId → Type 0
      P b = HasRow (pattern_of basis (focus.Link b)) t → IsTableOf basis b t

      by : P its.fragment.assoc
      by of_row =
          let here : t ≡ u = sym of_row.2 ∙ row_joined basis is u its.fragment its.assoc its.joined of_row.0 of_row.1 in
          record { fragment = its.fragment; assoc = its.assoc; joined = subst (λ (table : TableId). IsJoinedTo basis.schema table its.fragment its.assoc) (sym here) its.joined; of_assoc = refl }

  -- where a set owns the table, the focus is an entity of it
  pub of_owner : (s : SetId) → TellsOwner basis.schema t (Some (told.Set s)) → (of : Focus) → IsRowFocus basis of → HasRow (pattern_of basis of) t → IsOfSet basis s of
  of_owner s tells (focus.Entity region) (u, listed) of_row =
      let own = entity_owned u region listed of_row in
      let also = owned basis.schema is.sound t s tells.0 tells.1 in
      let same : u ≡ s = (one_owner basis.schema is.sound t u s own.0 also.0 own.1 also.1 (entity_written region of_row)).0 in
      (region, subst (λ (v : SetId). Contains (regions_of basis v) region) same listed, refl)
  of_owner s tells (focus.Link a) rows of_row =
      let its = link_joined a rows of_row in
      let also = owned basis.schema is.sound t s tells.0 tells.1 in
      absurd (owned_or_joined basis.schema is.sound t s also.0 its.fragment its.assoc also.1 its.joined)

  -- where an association does, it is a link of it
  pub of_joined : (a : AssocId) → TellsOwner basis.schema t (Some (told.Assoc a)) → (of : Focus) → IsRowFocus basis of → HasRow (pattern_of basis of) t → of ≡ focus.Link a
  of_joined a (fragment, joined, maps, is_joined, same_assoc) (focus.Entity region) (u, listed) of_row =
      let own = entity_owned u region listed of_row in
      absurd (owned_or_joined basis.schema is.sound t u own.0 fragment joined own.1 (joined_to basis.schema is.sound t fragment joined maps is_joined))
  of_joined a (fragment, joined, maps, is_joined, same_assoc) (focus.Link b) rows of_row =
      let its = link_joined b rows of_row in
      let same : its.fragment ≡ fragment = (one_joined basis.schema is.sound t its.fragment fragment its.assoc joined its.joined (joined_to basis.schema is.sound t fragment joined maps is_joined)).0 in
      ap focus.Link (sym its.of_assoc ∙ ap (λ (f : LinkFragment). f.assoc) same ∙ same_assoc)

  -- where nothing writes it, there is none
  pub of_nothing : TellsOwner basis.schema t None → (of : Focus) → IsRowFocus basis of → ¬ HasRow (pattern_of basis of) t
  of_nothing none (focus.Entity region) (u, listed) of_row = none (entity_written region of_row)
  of_nothing none (focus.Link a) rows of_row =
      let its = link_joined a rows of_row in
      none (inr (any_of (λ (f : LinkFragment). f.table ≡ t) basis.schema.mapping.links its.fragment its.joined.is_fragment its.joined.to_table))

  -- the association that owns a table is one of the model's
  pub assoc_within : (a : AssocId) → TellsOwner basis.schema t (Some (told.Assoc a)) → a.index < length basis.schema.model.assocs
  assoc_within a (fragment, joined, maps, is_joined, same_assoc) =
      subst (λ (b : AssocId). b.index < length basis.schema.model.assocs) same_assoc (slice_get_within basis.schema.model.assocs fragment.assoc.index joined maps.is_assoc)
