-- A region's set owns the table of each row of its pattern: a fragment of entities writes it, or one of links that are hosted at the set.
use Rattle.std.proofs.Common.{◌≡◌, ◌≢◌, ◌==◌, inl, inr, Contains, Bool, true, false, if◌then◌else◌, refl, sym, ap, subst, ◌∙◌}
use Rattle.round_trip.specs.Words.{AssocId, TableId, At, LinkFragment}
use Rattle.round_trip.specs.FailsAt.{IsHostedAt}
use Rattle.round_trip.specs.soundness.mappings.Owners.{LinkMaps}
use Rattle.emc_base.proofs.Numbered.{filter_contains}
use Rattle.schema_laws.proofs.state_demand.lists.Ids.{Decides-assoc}
use Rattle.schema_laws.proofs.state_demand.lists.Lists.{same_by_key}
use Rattle.schema_laws.proofs.state_demand.owners.Owners.{pairs_from_map}
use Rattle.regions.specs.declared.region.Region.{Region}
use Rattle.regions.specs.declared.pattern.Focus.TheVariants as focus
use Rattle.regions.specs.declared.pattern.PatternRow.{PatternRow}
use Rattle.regions.specs.Basis.{Basis, Host, host_end}
use Rattle.regions.specs.Patterns.{pattern_of}
use Rattle.regions.specs.Symbols.{SymbolWriting, region_writings}
use Rattle.regions.specs.region_laws.IsBasis.{IsBasis, IsHostOf}
use Rattle.regions.proofs.region_laws.pattern.Cells.{row_of, writing_to}
use Rattle.regions.proofs.region_laws.pattern.symbols.Origins.{IsRegionWriter, chosen_of, region_writer}
use Rattle.region_states.specs.focus.Held.{HasRow}
use Rattle.witness_state.proofs.Pairing.{IsOwnedBy}

module _ (basis : Basis) (is : IsBasis basis) (region : Region) where
  -- an association set is mapped by one link fragment
  one_fragment : (one other : LinkFragment) → Contains basis.schema.mapping.links one → Contains basis.schema.mapping.links other → one.assoc ≡ other.assoc → one ≡ other
  one_fragment one other has too same =
      let mapped : LinkFragment → AssocId = λ fragment. fragment.assoc in
      same_by_key mapped basis.schema.mapping.links one other (pairs_from_map (λ (a b : AssocId). a ≢ b) mapped basis.schema.mapping.links is.sound.mapping.assocs) has too same

  -- the set hosts the links of the fragment
  by_host : (t : TableId) (host : Host) (fragment : LinkFragment) → IsHostOf basis.schema region.set host → Contains basis.schema.mapping.links fragment
      → fragment.assoc ≡ host.assoc → fragment.table ≡ t → IsOwnedBy basis.schema t region.set
  by_host t host fragment of mapped of_assoc to = side host.first_hosts refl
    where
      same : of.fragment ≡ fragment
      same = one_fragment of.fragment fragment of.is_fragment mapped (of.of_assoc ∙ sym of_assoc)

      maps : LinkMaps basis.schema t fragment of.assoc
      maps = record { is_fragment = mapped; is_assoc = subst (λ (a : AssocId). At basis.schema.model.assocs a.index of.assoc) (sym of_assoc) of.is_assoc; to_table = to }

      hosted : IsHostedAt basis.schema t (if host.first_hosts then fragment.first else fragment.second)
      hosted =
          let P : LinkFragment → Type 0 = λ f. IsHostedAt basis.schema f.table (if host.first_hosts then f.first else f.second) in
          subst (λ u. IsHostedAt basis.schema u (if host.first_hosts then fragment.first else fragment.second)) to (subst P same of.hosted)

      side : (first_hosts : Bool) → host.first_hosts ≡ first_hosts → IsOwnedBy basis.schema t region.set
      side true at = (
        fragment.first,
        inr (
          fragment,
          of.assoc,
          maps,
          inl (
            subst (λ b. IsHostedAt basis.schema t (if b then fragment.first else fragment.second)) at hosted,
            subst (λ b. (host_end b of.assoc).set ≡ region.set) at of.at_set,
            refl,
          ),
        ),
      )
      side false at = (
        fragment.second,
        inr (
          fragment,
          of.assoc,
          maps,
          inr (
            subst (λ b. IsHostedAt basis.schema t (if b then fragment.first else fragment.second)) at hosted,
            subst (λ b. (host_end b of.assoc).set ≡ region.set) at of.at_set,
            refl,
          ),
        ),
      )

  -- what writes the table is a fragment of the set, or of links that are hosted at it
  by_writer : (t : TableId) (writing : SymbolWriting) → writing.table ≡ t → IsRegionWriter basis region writing → IsOwnedBy basis.schema t region.set
  by_writer t writing to (inl (fragment, among, is_writing)) =
      let chosen = chosen_of basis region fragment among in (
        fragment.pairs,
        inl (record {
          fragment = fragment;
          is_fragment = chosen.0;
          to_table = ap (λ (w : SymbolWriting). w.table) is_writing ∙ to;
          of_set = chosen.1.0;
          pairs_are = refl;
        }),
      )
  by_writer t writing to (inr (host, fragment, is_host, linked, among, is_writing)) =
      let test : LinkFragment → Bool = λ f. f.assoc.index == host.assoc.index in
      let kept = filter_contains test basis.schema.mapping.links fragment among in
      by_host t host fragment ((is.hosts region.set host).0 is_host) kept.0 ((Decides-assoc fragment.assoc host.assoc).0 kept.1)
      (ap (λ (w : SymbolWriting). w.table) is_writing ∙ to)

  -- so it is with each row
  pub row_owned : (t : TableId) → HasRow (pattern_of basis (focus.Entity region)) t → IsOwnedBy basis.schema t region.set
  row_owned t (row, here, to) =
      let of = row_of basis.schema.store (region_writings basis region) row here in
      let writing = writing_to basis.schema.store (region_writings basis region) of.t of.written in
      by_writer t writing.0 (writing.2 ∙ sym (ap (λ (r : PatternRow). r.table) of.is) ∙ to) (region_writer basis region writing.0 writing.1)
