-- The rows of a state unit by unit are those set by set, where just joined association sets give a row of a link.
use Rattle.std.proofs.Common.{◌≡◌, ◌∙◌, ℕ, List, [], ◌∷◌, ◌++◌, Option, Some, None, map, flat_map, slice_get, unwrap_or, ap, refl, subst, sym}
use Rattle.std.specs.List.{enumerate_from}
use Rattle.std.specs.Option.{option_map_or}
use Rattle.std.proofs.lemmas.List.Concat.{flat_map-append, flat_map-cons, flat_map_single}
use Rattle.emc_base.specs.Lists.{At}
use Rattle.round_trip.specs.Words.{AssocId, Entity, Hosted, Link, LinkFragId, SetId, State, Value}
use Rattle.table_files.specs.declared.tables.TableRow.{TableRow}
use Rattle.table_owners.specs.declared.places.LinkPlace.{LinkPlace}
use Rattle.table_owners.specs.declared.places.LinkPlace.TheVariants as place
use Rattle.cells.specs.declared.cells.Cells.{Cells}
use Rattle.cells.specs.Cells.{TellsCells}
use Rattle.cells.specs.HostedLinks.{hosted_links}
use Rattle.regions.specs.Basis.{Basis}
use Rattle.regions.specs.region_laws.IsBasis.{IsBasis}
use Rattle.region_states.proofs.joined_laws.Told.{joined_told}
use Rattle.case_laws.specs.filled_rows.Filled.{FillsRows}
use Rattle.case_laws.specs.filled_rows.Gathered as by_set
use Rattle.delta_plan.specs.RowsOf.{giving, link_rows, rows_of, unit_rows}
use Rattle.delta_plan.specs.Units.{Unit, assoc_units, entity_units, link_units, of_entity, of_link, set_units}

-- what is given of mapped items
of_mapped : {X Y Z : Type 0} (f : Y → List Z) (h : X → Y) (xs : List X) → flat_map f (map h xs) ≡ flat_map (λ x. f (h x)) xs
of_mapped f h [] = refl
of_mapped f h (x ∷ xs) =
    flat_map-cons f (h x) (map h xs) ∙ ap (λ more. f (h x) ++ more) (of_mapped f h xs) ∙ sym (flat_map-cons (λ one. f (h one)) x xs)

-- what is given of the items of all lists is given list by list
list_by_list : {X Y Z : Type 0} (f : Y → List Z) (g : X → List Y) (h : X → List Z) → ((x : X) → flat_map f (g x) ≡ h x) → (xs : List X)
    → flat_map f (flat_map g xs) ≡ flat_map h xs
list_by_list f g h same [] = refl
list_by_list f g h same (x ∷ xs) =
    ap (flat_map f) (flat_map-cons g x xs)
    ∙ flat_map-append f (g x) (flat_map g xs)
    ∙ (λ i. same x i ++ list_by_list f g h same xs i)
    ∙ sym (flat_map-cons h x xs)

-- nothing is given of items where each gives nothing
none_given : {X Y : Type 0} (xs : List X) → flat_map (λ (x : X). let none : List Y = [] in none) xs ≡ []
none_given [] = refl
none_given (x ∷ xs) = none_given xs

-- the rows of some links of one association set, where each that is given a row gives it
of_joined : (told : Option (Link → TableRow)) (links : List Link)
    → flat_map (λ link. option_map_or (λ (of : Link → TableRow). of link ∷ []) told []) links ≡ option_map_or (λ (of : Link → TableRow). map of links) told []
of_joined None links = none_given links
of_joined (Some of) links = flat_map_single of links

module _ (basis : Basis) (is : IsBasis basis) (local : SetId → Entity → List Hosted → List TableRow) (joined : AssocId → Option (Link → TableRow))
    (fills : FillsRows basis local joined) (cells : Cells) (tells : TellsCells basis.schema cells) (state : State) where
  abbrev hosted : SetId → List Value → List Hosted
  hosted = hosted_links basis.schema.model cells state

  abbrev rows : Unit → List TableRow
  rows = unit_rows (giving local joined) basis.schema.model cells state

  module _ (a : AssocId) where
    abbrev spot : LinkPlace
    spot = unwrap_or (slice_get cells.places a.index) place.Unmapped

    -- an association set that isn't told as joined gives no row
    none_elsewhere : (told : LinkPlace) → spot ≡ told → ((number : LinkFragId) → ¬ (told ≡ place.Joined number)) → joined a ≡ None
    none_elsewhere told is_told apart = fills.others a (λ t fragment assoc to same.
        (let found = joined_told basis.schema is.sound cells.places tells.places t fragment assoc to in
        let here : At cells.places a.index (place.Joined found.0) = subst (λ (b : AssocId). At cells.places b.index (place.Joined found.0)) same found.1 in
        apart found.0 (sym is_told ∙ ap (λ (one : Option LinkPlace). unwrap_or one place.Unmapped) here)))

    -- no row of a link, where none is given
    without : (links : List Link) → joined a ≡ None → [] ≡ option_map_or (λ (of : Link → TableRow). map of links) (joined a) []
    without links none = sym (ap (λ (told : Option (Link → TableRow)). option_map_or (λ (of : Link → TableRow). map of links) told []) none)

    of_links : (links : List Link) (told : LinkPlace) → spot ≡ told
        → flat_map (link_rows told (joined a)) links ≡ option_map_or (λ (of : Link → TableRow). map of links) (joined a) []
    of_links links (place.Joined number) is_told = of_joined (joined a) links
    of_links links (place.Hosted first_hosts number) is_told =
        none_given links ∙ without links (none_elsewhere (place.Hosted first_hosts number) is_told (λ other never. cc))
    of_links links place.Unmapped is_told = none_given links ∙ without links (none_elsewhere place.Unmapped is_told (λ other never. cc))
    of_links links place.Constraint is_told = none_given links ∙ without links (none_elsewhere place.Constraint is_told (λ other never. cc))

  of_set : (entry : ℕ × List Entity) → flat_map rows (set_units entry) ≡ by_set.rows_of_set basis.schema.model local joined hosted entry
  of_set entry = of_mapped rows (of_entity (record { index = entry.0 })) entry.1

  of_assoc : (entry : ℕ × List Link) → flat_map rows (assoc_units entry) ≡ by_set.rows_of_links basis.schema.model local joined hosted entry
  of_assoc entry = let a : AssocId = record { index = entry.0 } in of_mapped rows (of_link a) entry.1 ∙ of_links a entry.1 (spot a) refl

  pub one_list : rows_of (giving local joined) basis.schema.model cells state ≡ by_set.rows_of basis.schema.model local joined hosted state
  one_list =
      flat_map-append rows (entity_units state) (link_units state)
      ∙ (λ i. list_by_list rows set_units (by_set.rows_of_set basis.schema.model local joined hosted) of_set (enumerate_from 0 state.entities) i
      ++ list_by_list rows assoc_units (by_set.rows_of_links basis.schema.model local joined hosted) of_assoc (enumerate_from 0 state.links) i)
