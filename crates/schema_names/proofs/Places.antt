-- The place of a base type, and the place of a column by its name.
use Rattle.std.proofs.Common.{◌≡◌, ℕ, List, Option, Some, option_map, slice_get, sym, ap, subst, ◌∙◌}
use Rattle.std.specs.Option.{option_and_then}
use Rattle.std.proofs.lemmas.Option.{same_Some}
use Rattle.emc_base.proofs.FoundItems.{and_then_some}
use Rattle.emc_base.proofs.Lists.{at_once}
use Rattle.groupings.specs.name_places.GivenNames.{first_place}
use Rattle.groupings.proofs.name_places.FirstPlaces.{first_has}
use Rattle.round_trip.specs.Words.{EntityModel, EntityType, StoreModel, Table, TypeId, HasBase}
use Rattle.schema_names.specs.Inherited.{base_place}
use Rattle.schema_names.specs.SchemaNames.{column_named}

-- a base type has its place
pub base_here : (model : EntityModel) (t u : TypeId) → HasBase model t u → base_place model t.index ≡ Some u.index
base_here model t u has =
    ap (λ (found : Option EntityType). option_map (λ (v : TypeId). v.index) (option_and_then (λ type. type.base) found)) has.1
    ∙ ap (λ (found : Option TypeId). option_map (λ (v : TypeId). v.index) found) has.2

-- names that stand for one column are one name
pub same_column_name : (store : StoreModel) (t : ℕ) (one other : List ℕ) (c : ℕ) → column_named store t one ≡ Some c → column_named store t other ≡ Some c → one ≡ other
same_column_name store t one other c is is_too =
    let place_in : List ℕ → Table → Option ℕ = λ name table. first_place (λ col. col.name) table.cols name in
    let first = and_then_some (place_in one) (slice_get store.tables t) c is in
    let second = and_then_some (place_in other) (slice_get store.tables t) c is_too in
    let table : second.0 ≡ first.0 = same_Some second.0 first.0 (sym second.1 ∙ first.1) in
    let P : Table → Type 0 = λ table. place_in other table ≡ Some c in
    let has = first_has (λ col. col.name) first.0.cols one c first.2 in
    let has_too = first_has (λ col. col.name) first.0.cols other c (subst P table second.2) in
    sym has.2 ∙ ap (λ col. col.name) (at_once first.0.cols c has.0 has_too.0 has.1 has_too.1) ∙ has_too.2
