-- The writers of a fragment, or of an association's mapping, where what it names is found, and where the table isn't; and whether links are
-- hosted or joined.
use Rattle.std.proofs.Common.{◌≡◌, ◌++◌, ◌&&◌, ℕ, List, [], ◌∷◌, map, Bool, not, Option, Some, None, slice_get, if◌then◌else◌, ap, ◌∙◌}
use Rattle.std.specs.Option.{option_and_then, option_map, option_map_or}
use Rattle.std.proofs.lemmas.List.{map-append}
use Rattle.emc_base.specs.Lists.{At}
use Rattle.json_form.specs.Pointers.{pointer_of}
use Rattle.json_form.specs.declared.pointer.Step.{Step}
use Rattle.round_trip.specs.Words.{EntityModel, StoreModel, Assoc, End, Fragment, LinkFragment, Pair, key_columns}
use Rattle.table_owners.specs.declared.table_writers.writer.Owner.TheVariants as owner
use Rattle.table_owners.specs.declared.table_writers.writer.Writer.{Writer}
use Rattle.schema_names.specs.SchemaNames.{association_set_named, set_named, table_named}
use Rattle.msl_rules.specs.MappingMeaning.{fragment_with, link_at, link_with}
use Rattle.msl_rules.specs.OwnerRules.{PlacedWriter, are_exactly, is_one, placed, with_assoc, writer_of_fragment, writers_at_link, writers_at_site, writers_of_both, writers_of_end, writers_of_link}
use Rattle.msl_rules.specs.Sites.{Site, LinkSite}
use Rattle.msl_fragments.specs.msl_owners.SetWriters.{writer_of_set}

module _ (model : EntityModel) (store : StoreModel) where
  -- the fragment of a set and a table that are found is written by its set
  pub site_found : (site : Site) (s t : ℕ) → set_named model site.set.name ≡ Some s → table_named store site.fragment.table ≡ Some t
      → writers_at_site model store site
      ≡ placed model store site.place (writer_of_fragment model store (fragment_with model store (pointer_of site.place) site.types site.fragment s t) ∷ [])
  site_found site s t set table =
      let Of : ℕ → ℕ → Fragment = fragment_with model store (pointer_of site.place) site.types site.fragment in
      λ k. option_map_or (λ fragment. placed model store site.place (writer_of_fragment model store fragment ∷ [])) (option_and_then (λ s. option_map (Of s) (table k)) (set k)) []

  -- of a table that isn't found there is none
  pub site_lacks : (site : Site) (s : ℕ) → set_named model site.set.name ≡ Some s → table_named store site.fragment.table ≡ None → writers_at_site model store site ≡ []
  site_lacks site s set table =
      let Of : ℕ → ℕ → Fragment = fragment_with model store (pointer_of site.place) site.types site.fragment in
      λ k. option_map_or (λ fragment. placed model store site.place (writer_of_fragment model store fragment ∷ [])) (option_and_then (λ s. option_map (Of s) (table k)) (set k)) []

  module _ (site : LinkSite) (a : ℕ) (assoc : Assoc) (set : association_set_named model site.link.name ≡ Some a) (here : At model.assocs a assoc) where
    -- what is known of the mapping of an association set that is found
    link_of : (found : Option ℕ) → table_named store site.link.table ≡ found
        → link_at model store site ≡ option_map (link_with model store (pointer_of site.place) site.link a assoc) found
    link_of found table =
        let Of : ℕ → Assoc → ℕ → LinkFragment = link_with model store (pointer_of site.place) site.link in
        (λ k. option_and_then (λ b. option_and_then (λ other. option_map (Of b other) (table k)) (slice_get model.assocs b)) (set k))
        ∙ ap (option_and_then (λ other. option_map (Of a other) found)) here

    -- in a table that is found
    pub link_found : (t : ℕ) → table_named store site.link.table ≡ Some t
        → writers_at_link model store site ≡ placed model store site.place (writers_of_link model store (link_with model store (pointer_of site.place) site.link a assoc t) assoc)
    link_found t table =
        let fragment = link_with model store (pointer_of site.place) site.link a assoc t in
        ap (λ (found : Option LinkFragment). option_map_or (λ one. placed model store site.place (with_assoc model store one)) found []) (link_of (Some t) table)
        ∙ ap (λ (found : Option Assoc). placed model store site.place (option_map_or (writers_of_link model store fragment) found [])) here

    -- and in one that isn't
    pub link_lacks : table_named store site.link.table ≡ None → writers_at_link model store site ≡ []
    link_lacks table =
        ap (λ (found : Option LinkFragment). option_map_or (λ one. placed model store site.place (with_assoc model store one)) found []) (link_of None table)

  -- the writers of a link fragment are those of its ends and of both
  pub placed_each : (place : List Step) (fragment : LinkFragment) (assoc : Assoc)
      → placed model store place (writers_of_link model store fragment assoc)
      ≡ placed model store place (writers_of_end model store fragment assoc.first fragment.first)
      ++ placed model store place (writers_of_end model store fragment assoc.second fragment.second)
      ++ placed model store place (writers_of_both model store fragment assoc)
  placed_each place fragment assoc =
      let f : Writer → PlacedWriter = λ writer. record { place = place; writer = writer } in
      let first = writers_of_end model store fragment assoc.first fragment.first in
      let second = writers_of_end model store fragment assoc.second fragment.second in
      let both = writers_of_both model store fragment assoc in
      map-append f (first ++ second) both ∙ ap (λ (ws : List PlacedWriter). ws ++ map f both) (map-append f first second)

  -- what an end writes, by the answer whether the links are hosted there
  abbrev pub written_if : Bool → Writer → List Writer
  written_if is writer = if is then writer ∷ [] else []

  pub end_by : (fragment : LinkFragment) (end : End) (pairs : List Pair) (is : Bool) → are_exactly (key_columns store fragment.table) pairs ≡ is
      → writers_of_end model store fragment end pairs ≡ written_if is (writer_of_set model store end.set fragment.table pairs)
  end_by fragment end pairs is same = ap (λ b. written_if b (writer_of_set model store end.set fragment.table pairs)) same

  -- what both write, by the answer whether they are joined
  pub both_by : (fragment : LinkFragment) (assoc : Assoc) (is : Bool)
      → (are_exactly (key_columns store fragment.table) (fragment.first ++ fragment.second) && not (is_one assoc.first.mult) && not (is_one assoc.second.mult)) ≡ is
      → writers_of_both model store fragment assoc ≡ written_if is (record { table = fragment.table; owner = owner.Assoc fragment.assoc; key = [] })
  both_by fragment assoc is same = ap (λ b. written_if b (record { table = fragment.table; owner = owner.Assoc fragment.assoc; key = [] })) same
