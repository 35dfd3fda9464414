-- The keys that are gathered are those of the links of the association that are given, by where its links stand.
use Rattle.std.proofs.Common.{◌≡◌, ◌⊎◌, inl, inr, List, [], ◌++◌, map, Bool, true, false, Contains, refl, sym, ap, subst, ◌∙◌}
use Rattle.emc_base.proofs.Lists.{at_once}
use Rattle.emc_base.proofs.Mapped.{contains_at}
use Rattle.emc_base.proofs.Numbered.{map_contains}
use Rattle.round_trip.specs.Words.{Assoc, AssocId, At, ColId, EntitySet, Link, LinkFragId, LinkFragment, Row, SetId, TableId, Tables, Value, cells_of, rows_in}
use Rattle.schema_laws.specs.state_demand.Owners.{IsJoinedTo}
use Rattle.round_trip.specs.soundness.models.Constraints.{IsSoundAssoc}
use Rattle.schema_laws.proofs.sound_demand.owners.Owned.{joined_to}
use Rattle.schema_laws.proofs.sound_demand.owners.Pairing.{sound_assoc}
use Rattle.cells.specs.Cells.{is_free_in}
use Rattle.cells.specs.Parts.{AreParts, schema_in}
use Rattle.cells.specs.declared.parts.Parts.{Parts}
use Rattle.table_owners.specs.declared.places.LinkPlace.{LinkPlace}
use Rattle.table_owners.specs.declared.places.LinkPlace.TheVariants as place
use Rattle.table_owners.specs.Places.{TellsPlace}
use Rattle.schema_laws.proofs.state_demand.lists.Lists.{none_in_nil}
use Rattle.regions.specs.Basis.{Basis, Host, host_end}
use Rattle.regions.specs.region_laws.IsBasis.{IsBasis, IsHostOf}
use Rattle.region_states.specs.region_basis.BasisOf.{basis_of}
use Rattle.region_states.proofs.joined_laws.Told.{joined_told}
use Rattle.case_laws.specs.Reading.{DecidesFree}
use Rattle.case_laws.specs.candidates.ViewedLinks.{IsHostedView, IsJoinedView}
use Rattle.query_cases.specs.case_reading.Links.{IsHosted}
use Rattle.query_cases.proofs.case_reading.Parts.{hosted_ends, is_told}
use Rattle.query_views.specs.Answers.{AreLent}
use Rattle.query_views.specs.LinkKeys.{AreKeyColumns, AreLinkKeys, IsJoinedAt, ShowJoinedKeys, hosted_keys}
use Rattle.query_views.specs.declared.lending.LentEntity.{LentEntity}
use Rattle.query_views.proofs.links.HostedKeys.{all_given, gathered}
use Rattle.query_views.proofs.links.JoinedKeys.{held_of, row_given}

module _ (parts : Parts) (are : AreParts parts) (is : IsBasis (basis_of parts)) (decides : DecidesFree (schema_in parts) (is_free_in parts.cells.now)) (tables : Tables) (a : AssocId)
    (assoc : Assoc) (here : At (schema_in parts).model.assocs a.index assoc) (told : LinkPlace) (at : At parts.cells.now.places a.index told) where
  abbrev basis : Basis
  basis = basis_of parts

  abbrev is_free : TableId → ColId → Bool
  is_free = is_free_in parts.cells.now

  -- where entities of a set host the links, that is told
  hosted_told : (s : SetId) → (host : Host) → Contains (basis.hosts s) host → host.assoc ≡ a → (number : LinkFragId) × (told ≡ place.Hosted host.first_hosts number)
  hosted_told s host has same =
      let hosted : IsHosted basis s a = (host, has, same) in
      (_, is_told parts are is s a hosted told at)

  -- and where they stand in a table of their own, that is
  joined_there : (link : Link) → IsJoinedView basis is_free tables a link → (number : LinkFragId) × (told ≡ place.Joined number)
  joined_there link view =
      let found = joined_told (schema_in parts) are.sound parts.cells.now.places are.cells.places view.case.table view.own.fragment view.own.assoc view.own.joined in
      let There : AssocId → Type 0 = λ b. At parts.cells.now.places b.index (place.Joined found.0) in
      (found.0, at_once parts.cells.now.places a.index told (place.Joined found.0) at (subst There view.own.of_assoc found.1))

  -- where neither is told none is given
  pub none_given : ((first_hosts : Bool) (number : LinkFragId) → ¬ (told ≡ place.Hosted first_hosts number)) → ((number : LinkFragId) → ¬ (told ≡ place.Joined number))
      → AreLinkKeys basis is_free tables a []
  none_given not_hosted not_joined = record {
    are = λ both. (
      (λ has. absurd (none_in_nil both has)),
      λ given. absurd (by given.0 given.1),
    );
  }
    where
      by : (link : Link) → IsHostedView basis is_free tables a link ⊎ IsJoinedView basis is_free tables a link → ⊥
      by link (inl view) = let it = hosted_told view.s view.host view.is_host view.of_assoc in not_hosted view.host.first_hosts it.0 it.1
      by link (inr view) = let it = joined_there link view in not_joined it.0 it.1

  -- the set that hosts the links
  module _ (first_hosts : Bool) (number : LinkFragId) (is_hosted : told ≡ place.Hosted first_hosts number) where
    abbrev s : SetId
    s = (host_end first_hosts assoc).set

    abbrev host : Host
    host = record { assoc = a; first_hosts = first_hosts }

    tells_hosted : TellsPlace basis.schema a assoc (place.Hosted first_hosts number)
    tells_hosted = subst (TellsPlace basis.schema a assoc) is_hosted (are.cells.places.each a assoc told here at)

    -- is one of the model's
    pub set_there : (set : EntitySet) × At basis.schema.model.sets s.index set
    set_there = by first_hosts
      where
        ends : IsSoundAssoc basis.schema.model assoc
        ends =
            let Here : AssocId → Type 0 = λ b. At basis.schema.model.assocs b.index assoc in
            sound_assoc basis.schema are.sound tells_hosted.0 assoc (subst Here (sym tells_hosted.1.of_assoc) here)

        by : (b : Bool) → (set : EntitySet) × At basis.schema.model.sets (host_end b assoc).set.index set
        by true = (ends.first.under.0, ends.first.under.1)
        by false = (ends.second.under.0, ends.second.under.1)

    -- and the only one
    only : (u : SetId) (other : Host) → Contains (basis.hosts u) other → other.assoc ≡ a → (u ≡ s) × (other ≡ host)
    only u other has same =
        let by : IsHostOf basis.schema u other = (is.hosts u other).0 has in
        let it = hosted_told u other has same in
        let ends : other.first_hosts ≡ first_hosts = hosted_ends other.first_hosts first_hosts it.0 number (sym it.1 ∙ is_hosted) in
        let Here : AssocId → Type 0 = λ b. At basis.schema.model.assocs b.index by.assoc in
        let one : by.assoc ≡ assoc = at_once basis.schema.model.assocs a.index by.assoc assoc (subst Here same by.is_assoc) here in (
          sym by.at_set ∙ (λ i. (host_end (ends i) (one i)).set),
          λ i. record { assoc = same i; first_hosts = ends i },
        )

    -- its tables tell so
    hosts : Contains (basis.hosts s) host
    hosts =
        (is.hosts s host).1 (record {
          assoc = assoc;
          fragment = tells_hosted.0;
          is_assoc = here;
          is_fragment = contains_at basis.schema.mapping.links number.index tells_hosted.0 tells_hosted.1.is_fragment;
          of_assoc = tells_hosted.1.of_assoc;
          hosted = tells_hosted.2;
          at_set = refl;
        })

    pub hosted_given : (lent : List LentEntity) → AreLent basis is_free tables s lent → (keys : List (List Value)) → keys ≡ hosted_keys a first_hosts lent
        → AreLinkKeys basis is_free tables a keys
    hosted_given lent are_lent keys keys_are = record {
      are = λ both. (
        (λ has. let found = all_given basis is_free tables a s host hosts refl lent are_lent both (subst (λ list. Contains list both) keys_are has) in
            (found.0, inl found.1, found.2)),
        λ given. subst (λ list. Contains list both) (sym keys_are) (subst (Contains (hosted_keys a first_hosts lent)) (sym given.2) (by given.0 given.1)),
      );
    }
      where
        by : (link : Link) → IsHostedView basis is_free tables a link ⊎ IsJoinedView basis is_free tables a link → Contains (hosted_keys a first_hosts lent) (link.first ++ link.second)
        by link (inl view) = gathered basis is_free tables a s host hosts refl lent are_lent only link view
        by link (inr view) = absurd (let it = joined_there link view in let never : place.Joined it.0 ≡ place.Hosted first_hosts number = sym it.1 ∙ is_hosted in cc)

  module _ (number : LinkFragId) (is_joined : told ≡ place.Joined number) where
    abbrev tells : TellsPlace basis.schema a assoc (place.Joined number)
    tells = subst (TellsPlace basis.schema a assoc) is_joined (are.cells.places.each a assoc told here at)

    abbrev fragment : LinkFragment
    fragment = tells.0

    -- the table of the fragment of this number is the association's own
    joined : IsJoinedTo basis.schema fragment.table fragment assoc
    joined =
        let Here : AssocId → Type 0 = λ b. At basis.schema.model.assocs b.index assoc in
        joined_to basis.schema are.sound fragment.table fragment assoc (record {
          is_fragment = contains_at basis.schema.mapping.links number.index fragment tells.1.is_fragment;
          is_assoc = subst Here (sym tells.1.of_assoc) here;
          to_table = refl;
        }) tells.2.joined

    pub joined_at : IsJoinedAt basis.schema assoc number
    joined_at = record { fragment = fragment; is_fragment = tells.1.is_fragment; joined = joined }

    module _ (cols : List ColId) (are_columns : AreKeyColumns basis.schema.model assoc fragment cols) where
      abbrev of_rows : List (List Value)
      of_rows = map (λ row. cells_of row cols) (rows_in tables fragment.table)

      rows_given : AreLinkKeys basis is_free tables a of_rows
      rows_given = record {
        are = λ both. (
          (λ has.
              let found = map_contains (λ (row : Row). cells_of row cols) (rows_in tables fragment.table) both has in
              let given = row_given basis is is_free decides tables fragment assoc joined cols are_columns found.0 found.1 in
              let View : AssocId → Type 0 = λ b. IsJoinedView basis is_free tables b given.0 in
              (given.0, inr (subst View tells.1.of_assoc given.1), sym found.2 ∙ given.2)),
          λ given. subst (Contains of_rows) (sym given.2) (by given.0 given.1),
        );
      }
        where
          by : (link : Link) → IsHostedView basis is_free tables a link ⊎ IsJoinedView basis is_free tables a link → Contains of_rows (link.first ++ link.second)
          by link (inl view) = absurd (let it = hosted_told view.s view.host view.is_host view.of_assoc in
              let never : place.Hosted view.host.first_hosts it.0 ≡ place.Joined number = sym it.1 ∙ is_joined in cc)
          by link (inr view) =
              let View : AssocId → Type 0 = λ b. IsJoinedView basis is_free tables b link in
              held_of basis is is_free decides tables fragment assoc joined cols are_columns link (subst View (sym tells.1.of_assoc) view)

    pub joined_given : (keys : List (List Value)) → ShowJoinedKeys basis.schema assoc number tables keys → AreLinkKeys basis is_free tables a keys
    joined_given keys shows =
        let same : shows.fragment ≡ fragment = at_once basis.schema.mapping.links number.index shows.fragment fragment shows.is_fragment tells.1.is_fragment in
        let Columns : LinkFragment → Type 0 = λ one. AreKeyColumns basis.schema.model assoc one shows.cols in
        let keys_are : keys ≡ map (λ row. cells_of row shows.cols) (rows_in tables fragment.table) =
        shows.are ∙ ap (λ (one : LinkFragment). map (λ row. cells_of row shows.cols) (rows_in tables one.table)) same in
        subst (AreLinkKeys basis is_free tables a) (sym keys_are) (rows_given shows.cols (subst Columns same shows.are_columns))
