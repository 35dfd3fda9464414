-- The rows of what is marked are those of what is touched.
use Rattle.std.proofs.Common.{◌≡◌, ◌<◌, ◌≤◌, ◌∙◌, ℕ, List, [], ◌∷◌, ◌++◌, All, Bool, Contains, Option, filter, map, length, flat_map, ap, refl, subst, sym, arith}
use Rattle.std.specs.List.{enumerate_from}
use Rattle.std.proofs.lemmas.List.{length-map}
use Rattle.std.proofs.lemmas.List.Concat.{flat_map-append, flat_map-cons}
use Rattle.std.proofs.lemmas.List.Elements.{All-contains, All-head, All-tail, filter-append}
use Rattle.std.proofs.lemmas.Option.{slice_get_within}
use Rattle.emc_base.proofs.Joined.{in_flat_map}
use Rattle.emc_base.proofs.Lists.{all_from_members}
use Rattle.emc_base.proofs.Mapped.{contains_map}
use Rattle.emc_base.proofs.Numbered.{enumerated_at, filter_contains, map_contains}
use Rattle.round_trip.specs.Words.{AssocId, Entity, EntityModel, Hosted, IsState, Link, SetId, State, Value, key_of}
use Rattle.table_files.specs.declared.tables.TableRow.{TableRow}
use Rattle.cells.specs.declared.cells.Cells.{Cells}
use Rattle.cells.specs.declared.host_links.links.HostLinks.{HostLinks}
use Rattle.cells.specs.host_links.Grouped.{GroupsLinks, links_in}
use Rattle.cells.specs.Parts.{CoverModel}
use Rattle.entity_changes.specs.declared.touched.Touched.{Touched}
use Rattle.delta_plan.specs.Asking.{local_rows, rows_by_place}
use Rattle.delta_plan.specs.Marked.{HasOwnKey, is_marked, unit_of, unit_of_link}
use Rattle.delta_plan.specs.Marks.{AreMarks}
use Rattle.delta_plan.specs.RowsOf.{giving, touched_rows, unit_rows}
use Rattle.delta_plan.specs.Units.{Unit, assoc_units, count_at, entity_units, is_touched, link_units, of_entity, of_link, units_of}
use Rattle.delta_plan.specs.declared.marked.MarkedEntity.{MarkedEntity}
use Rattle.delta_plan.specs.declared.marked.MarkedLink.{MarkedLink}
use Rattle.delta_plan.specs.declared.marks.Marks.{Marks}

-- lists that are given by images
flat_map_image : {X Y Z : Type 0} (f : X → List Z) (g : Y → List Z) (h : X → Y) (xs : List X) → All (λ x. f x ≡ g (h x)) xs → flat_map f xs ≡ flat_map g (map h xs)
flat_map_image f g h [] each = refl
flat_map_image f g h (x ∷ xs) each =
    flat_map-cons f x xs
    ∙ (λ i. All-head (λ one. f one ≡ g (h one)) x xs each i ++ flat_map_image f g h xs (All-tail (λ one. f one ≡ g (h one)) x xs each) i)
    ∙ sym (flat_map-cons g (h x) (map h xs))

-- what is marked is touched
marked_is : (model : EntityModel) (touched : Touched) (marks : Marks) → AreMarks touched marks → is_marked model marks ≡ is_touched model touched
marked_is model touched marks are = λ i u. by u i
  where
    by : (u : Unit) → is_marked model marks u ≡ is_touched model touched u
    by (of_entity s entity) = are.keys s (key_of model entity)
    by (of_link a link) = are.links a link

module _ (local : SetId → Entity → List Hosted → List TableRow) (joined : AssocId → Option (Link → TableRow)) (model : EntityModel) (cells : Cells) (state : State)
    (touched : Touched) (marks : Marks) (are : AreMarks touched marks) where
  abbrev rows : Unit → List TableRow
  rows = unit_rows (giving local joined) model cells state

  -- the rows of marked entities, and of marked links
  entity_rows : (hosts : HostLinks) → GroupsLinks model cells state hosts → (marked : List MarkedEntity) → All (HasOwnKey model) marked
      → flat_map (local_rows local (links_in hosts)) marked ≡ flat_map rows (map unit_of marked)
  entity_rows hosts groups marked own = flat_map_image (local_rows local (links_in hosts)) rows unit_of marked
      (all_from_members (λ (one : MarkedEntity). local_rows local (links_in hosts) one ≡ rows (unit_of one)) marked
      (λ one has. (let key = All-contains (HasOwnKey model) marked one own has in
      ap (λ (k : List Value). local one.set one.entity.now (links_in hosts one.set k)) key
      ∙ ap (local one.set one.entity.now) (groups one.set (key_of model one.entity.now)))))

  link_rows : (marked : List MarkedLink) → flat_map (rows_by_place joined cells) marked ≡ flat_map rows (map unit_of_link marked)
  link_rows marked = flat_map_image (rows_by_place joined cells) rows unit_of_link marked (all_from_members (λ (one : MarkedLink). rows_by_place joined cells one ≡ rows (unit_of_link one)) marked (λ one has. refl))

  pub all_rows : (hosts : HostLinks) → GroupsLinks model cells state hosts → (entities : List MarkedEntity) (links : List MarkedLink) → All (HasOwnKey model) entities
      → map unit_of entities ≡ filter (is_marked model marks) (entity_units state) → map unit_of_link links ≡ filter (is_marked model marks) (link_units state)
      → flat_map (local_rows local (links_in hosts)) entities ++ flat_map (rows_by_place joined cells) links ≡ touched_rows (giving local joined) model cells state touched
  all_rows hosts groups entities links own are_entities are_links =
      (λ i. (entity_rows hosts groups entities own ∙ ap (flat_map rows) are_entities) i ++ (link_rows links ∙ ap (flat_map rows) are_links) i)
      ∙ sym (flat_map-append rows (filter (is_marked model marks) (entity_units state)) (filter (is_marked model marks) (link_units state)))
      ∙ ap (flat_map rows) (sym (filter-append (is_marked model marks) (entity_units state) (link_units state)))
      ∙ ap (λ (p : Unit → Bool). flat_map rows (filter p (units_of state))) (marked_is model touched marks are)

  -- how many entities are marked
  pub all_counted : (entities : List MarkedEntity) → map unit_of entities ≡ filter (is_marked model marks) (entity_units state)
      → length entities ≡ count_at model touched state
  all_counted entities are_entities =
      sym (length-map entities unit_of) ∙ ap length are_entities ∙ ap (λ (p : Unit → Bool). length (filter p (entity_units state))) (marked_is model touched marks are)

-- which association set a unit is of
abbrev assoc_of : Unit → ℕ
assoc_of (of_entity s entity) = 0
assoc_of (of_link a link) = a.index

-- marked links are of association sets of which the cells tell
pub links_within : (model : EntityModel) (cells : Cells) (marks : Marks) (state : State) → CoverModel model cells → IsState model state → (links : List MarkedLink)
    → map unit_of_link links ≡ filter (is_marked model marks) (link_units state) → All (λ one. one.assoc.index < length cells.places) links
links_within model cells marks state cover shape links are = all_from_members (λ (one : MarkedLink). one.assoc.index < length cells.places) links (λ one has.
    (let there : Contains (filter (is_marked model marks) (link_units state)) (unit_of_link one) =
    subst (λ (units : List Unit). Contains units (unit_of_link one)) are (contains_map unit_of_link links one has) in
    let found = in_flat_map assoc_units (enumerate_from 0 state.links) (unit_of_link one) (filter_contains (is_marked model marks) (link_units state) (unit_of_link one) there).0 in
    let from = map_contains (of_link (record { index = found.0.0 })) found.0.1 (unit_of_link one) found.2 in
    let number : found.0.0 ≡ one.assoc.index = ap assoc_of from.2 in
    let within : found.0.0 < length state.links = slice_get_within state.links found.0.0 found.0.1 (enumerated_at state.links found.0 found.1) in
    let size : length state.links ≡ length model.assocs = shape.assocs in
    let most : length model.assocs ≤ length cells.places = cover.places in
    let here : one.assoc.index < length state.links = subst (λ (n : ℕ). n < length state.links) number within in
    omega (arith, here, size, most)))
