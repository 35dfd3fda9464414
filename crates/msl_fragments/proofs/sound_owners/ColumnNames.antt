-- Pairs by their columns: where no two pairs of a list name one column, no two of what they stand for have one.
use Rattle.std.proofs.Common.{◌≡◌, ℕ, List, Contains, Option, Some, option_map, sym, ap, subst, ◌∙◌}
use Rattle.std.proofs.lemmas.Option.{same_Some}
use Rattle.emc_base.specs.Lists.{At}
use Rattle.emc_base.proofs.Lists.{at_once, same_place}
use Rattle.graphs.proofs.base_chains.orders.Orders.{place_of_member}
use Rattle.groupings.specs.name_places.GivenNames.{IsGivenBefore}
use Rattle.groupings.proofs.name_places.FirstPlaces.{names_apart}
use Rattle.round_trip.specs.Words.{ColId, EntityModel, Pair, PropId, StoreModel}
use Rattle.schema_names.specs.SchemaNames.{column_named}
use Rattle.emc_base.proofs.FoundItems.{and_then_some, map_some}
use Rattle.emc_base.proofs.Joined.{in_found}
use Rattle.schema_names.proofs.Places.{same_column_name}
use Rattle.msl_rules.specs.declared.msl_lists.raw.RawPair.{RawPair}
use Rattle.msl_rules.specs.Found.{col_numbered, pair_in, pairs_in}

-- no two of the pairs have one column
abbrev pub TellsByColumn : List Pair → Type 0
TellsByColumn pairs = (one other : Pair) → Contains pairs one → Contains pairs other → one.col ≡ other.col → one ≡ other

module _ (model : EntityModel) (store : StoreModel) (named : List ℕ → Option PropId) (t : ℕ) where
  -- what a pair stands for has the column that it names
  column_of : (written : RawPair) (pair : Pair) → pair_in model store named t written ≡ Some pair → column_named store t written.col ≡ Some pair.col.index
  column_of written pair is =
      let prop = and_then_some (λ p. option_map (λ c. record { prop = p; col = col_numbered c }) (column_named store t written.col)) (named written.prop) pair is in
      let col = map_some (λ (c : ℕ). record { prop = prop.0; col = col_numbered c }) (column_named store t written.col) pair prop.2 in
      col.1 ∙ ap (λ (pair : Pair). Some pair.col.index) col.2

  -- where no column is named again, no two pairs have one
  pub columns_once : (written : List RawPair) → ((k : ℕ) (pair : RawPair) → At written k pair → ¬ IsGivenBefore (λ other. other.col) written k pair)
      → TellsByColumn (pairs_in model store named t written)
  columns_once written never one other has has_too same =
      let tell : RawPair → Option Pair = pair_in model store named t in
      let first = in_found tell written one has in
      let second = in_found tell written other has_too in
      let names : first.0.col ≡ second.0.col =
      same_column_name store t first.0.col second.0.col one.col.index (column_of first.0 one first.2)
      (column_of second.0 other second.2 ∙ ap (λ (col : ColId). Some col.index) (sym same)) in
      let place = same_place (λ (pair : RawPair). pair.col) written first.1.0 second.1.0 first.0 second.0 (names_apart (λ pair. pair.col) written never)
      (place_of_member written first.0 first.1) (place_of_member written second.0 second.1) names in
      let P : ℕ → Type 0 = λ k. At written k first.0 in
      let item : first.0 ≡ second.0 = at_once written second.1.0 first.0 second.0 (subst P place (place_of_member written first.0 first.1)) (place_of_member written second.0 second.1) in
      same_Some one other (sym first.2 ∙ ap tell item ∙ second.2)
