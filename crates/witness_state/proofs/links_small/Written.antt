-- What a link writes to a column, and which fragment writes an association's own table.
use Rattle.std.proofs.Common.{◌≡◌, ◌==◌, List, [], ◌∷◌, ◌++◌, map, find, Option, Some, None, Bool, true, false, if◌then◌else◌, refl, sym, ap, ◌∙◌}
use Rattle.std.specs.Option.{option_map_or}
use Rattle.std.proofs.lemmas.Bool.Decides.{Decides-eqb}
use Rattle.std.proofs.lemmas.List.Elements.{All-contains}
use Rattle.round_trip.specs.Words.{AssocId, ColId, Value, Null, Assoc, EntityModel, Link, LinkFragment, Pair, TableId, key_props, link_cells, value_beside, written_to}
use Rattle.regions.proofs.region_laws.pattern.Choices.{found_passes, none_passes}
use Rattle.regions.specs.Basis.{Basis}
use Rattle.region_states.specs.conflicts.Conflicts.{IsTableOf}

module _ (value : Pair → Value) (col : ColId) where
  abbrev test : Pair → Bool
  test pair = pair.col.index == col.index

  abbrev cell : Pair → ColId × Value
  cell pair = (pair.col, value pair)

  -- the first pair of the column tells what is written there, else what else is written
  pub written_first : (pairs : List Pair) (others : List (ColId × Value))
      → written_to (map cell pairs ++ others) col ≡ option_map_or value (find test pairs) (written_to others col)
  written_first [] others = refl
  written_first (pair ∷ pairs) others = by (test pair) (written_first pairs others)
    where
      by : (b : Bool) → written_to (map cell pairs ++ others) col ≡ option_map_or value (find test pairs) (written_to others col)
          → (if b then value pair else written_to (map cell pairs ++ others) col)
          ≡ option_map_or value (if b then Some pair else find test pairs) (written_to others col)
      by true rest = refl
      by false rest = rest

  pub written_alone : (pairs : List Pair) → written_to (map cell pairs) col ≡ option_map_or value (find test pairs) Null
  written_alone [] = refl
  written_alone (pair ∷ pairs) = by (test pair) (written_alone pairs)
    where
      by : (b : Bool) → written_to (map cell pairs) col ≡ option_map_or value (find test pairs) Null
          → (if b then value pair else written_to (map cell pairs) col) ≡ option_map_or value (if b then Some pair else find test pairs) Null
      by true rest = refl
      by false rest = rest

-- what a link writes there
module _ (model : EntityModel) (assoc : Assoc) (fragment : LinkFragment) (link : Link) (col : ColId) where
  abbrev first_part : Pair → Value
  first_part pair = value_beside pair.prop (key_props model assoc.first.ty) link.first

  abbrev second_part : Pair → Value
  second_part pair = value_beside pair.prop (key_props model assoc.second.ty) link.second

  abbrev written : Value
  written = written_to (link_cells model assoc fragment link) col

  told : written ≡ option_map_or first_part (find (test first_part col) fragment.first) (option_map_or second_part (find (test second_part col) fragment.second) Null)
  told = written_first first_part col fragment.first (map (cell second_part col) fragment.second)
      ∙ ap (option_map_or first_part (find (test first_part col) fragment.first)) (written_alone second_part col fragment.second)

  abbrev then_second : Option Pair → Value
  then_second found = option_map_or first_part found (option_map_or second_part (find (test second_part col) fragment.second) Null)

  -- by a pair of the first end, by one of the second end, and by none
  pub by_first : (pair : Pair) → Some pair ≡ find (test first_part col) fragment.first → first_part pair ≡ written
  by_first pair is = ap then_second is ∙ sym told

  pub by_second : (pair : Pair) → None ≡ find (test first_part col) fragment.first → Some pair ≡ find (test second_part col) fragment.second → second_part pair ≡ written
  by_second pair none is = ap (λ (found : Option Pair). option_map_or second_part found Null) is ∙ ap then_second none ∙ sym told

  pub by_none : None ≡ find (test first_part col) fragment.first → None ≡ find (test second_part col) fragment.second → Null ≡ written
  by_none none is = ap (λ (found : Option Pair). option_map_or second_part found Null) is ∙ ap then_second none ∙ sym told

-- the fragment to the association's own table
module _ (basis : Basis) (t : TableId) (a : AssocId) (of : IsTableOf basis a t) where
  abbrev to_table : LinkFragment → Bool
  to_table fragment = fragment.table.index == t.index

  abbrev links : List LinkFragment
  links = basis.schema.mapping.links

  pub none_to : find to_table links ≡ None → ⊥
  none_to none = none_passes to_table links of.fragment none of.joined.is_fragment
      ((Decides-eqb of.fragment.table.index t.index).1 (ap (λ (u : TableId). u.index) of.joined.to_table))

  pub one_to : (fragment : LinkFragment) → find to_table links ≡ Some fragment → fragment ≡ of.fragment
  one_to fragment found =
      let there = found_passes to_table links fragment found in
      let index = (Decides-eqb fragment.table.index t.index).0 there.1 in
      let Only : LinkFragment → Type 0 = λ other. other.table ≡ t → other ≡ of.fragment in
      All-contains Only links fragment of.joined.links there.0 (λ k. record { index = index k })
