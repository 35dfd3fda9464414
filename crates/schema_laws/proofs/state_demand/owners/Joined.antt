-- The links of an association that alone owns a table, and its rows.
use Rattle.std.proofs.Common.{◌≡◌, ◌≢◌, inr, ⊎_elim, List, [], ◌∷◌, ◌++◌, length, ◌==◌, Contains, refl, sym, ap, subst, ◌∙◌, arith}
use Rattle.std.proofs.lemmas.Bool.{cond-true, cond-false}
use Rattle.std.proofs.lemmas.Bool.Decides.{Decides-eqb, eqb_tells}
use Rattle.std.proofs.lemmas.List.Elements.{All-contains, Contains-append_left, Contains-append_right}
use Rattle.emc_base.specs.Lists.{AreApart}
use Rattle.emc_base.proofs.Lists.{at_once}
use Rattle.emc_base.proofs.Mapped.{contains_map}
use Rattle.emc_base.proofs.Numbered.{map_contains}
use Rattle.round_trip.specs.Words.{PropId, TableId, ColId, Value, Assoc, Fragment, LinkFragment, Pair, Schema, Entity, Link, State, At, key_props, value_beside, links_in, IsLegal, Writing, EntityWrites, LinkWrites, link_cells, written_to, key_columns, written_key, WritesRow}
use Rattle.schema_laws.specs.state_demand.Owners.{IsJoinedTo, props_in}
use Rattle.schema_laws.specs.state_demand.WellWritten.{cols_of}
use Rattle.schema_laws.specs.state_demand.Writings.{entity_writing, link_writing}
use Rattle.schema_laws.proofs.state_demand.writings.Fitting.{cell_cols, link_cols}
use Rattle.schema_laws.proofs.state_demand.lists.Lists.{head_stands, tail_stands}
use Rattle.schema_laws.proofs.state_demand.owners.Owners.{first_cell, link_is, second_cell, written_once}
use Rattle.schema_laws.proofs.state_demand.lists.Permutations.{head_apart, rest_apart}
use Rattle.schema_laws.proofs.state_demand.lists.Places.{agree_by_map}

-- the first property's value stands first, and another's further on
beside_here : (prop : PropId) (props : List PropId) (value : Value) (values : List Value) → value_beside prop (prop ∷ props) (value ∷ values) ≡ value
beside_here prop props value values = cond-true (prop.index == prop.index) value (value_beside prop props values) ((Decides-eqb prop.index prop.index).1 refl)

beside_later : (prop first : PropId) (props : List PropId) (value : Value) (values : List Value) → first ≢ prop
    → value_beside prop (first ∷ props) (value ∷ values) ≡ value_beside prop props values
beside_later prop first props value values apart = ⊎_elim
    (λ same. absurd (apart (λ k. record { index = same.1 k })))
    (λ other. cond-false (first.index == prop.index) value (value_beside prop props values) other.0)
    (eqb_tells first.index prop.index)

-- values that agree beside each of different properties are the same
pub same_values : (props : List PropId) (ones twos : List Value) → length ones ≡ length props → length twos ≡ length props → AreApart props
    → ((prop : PropId) → Contains props prop → value_beside prop props ones ≡ value_beside prop props twos) → ones ≡ twos
same_values [] [] [] one_count two_count apart agree = refl
same_values [] (one ∷ ones) twos one_count two_count apart agree = absurd (omega (arith, one_count))
same_values [] [] (two ∷ twos) one_count two_count apart agree = absurd (omega (arith, two_count))
same_values (prop ∷ props) [] twos one_count two_count apart agree = absurd (omega (arith, one_count))
same_values (prop ∷ props) (one ∷ ones) [] one_count two_count apart agree = absurd (omega (arith, two_count))
same_values (prop ∷ props) (one ∷ ones) (two ∷ twos) one_count two_count apart agree =
    let head : one ≡ two = sym (beside_here prop props one ones) ∙ agree prop (head_stands prop props) ∙ beside_here prop props two twos in
    let one_rest : length ones ≡ length props = omega (arith, one_count) in
    let two_rest : length twos ≡ length props = omega (arith, two_count) in
    let tail : ones ≡ twos = same_values props ones twos one_rest two_rest (rest_apart prop props apart)
    (λ other has. let differs = head_apart prop props other apart has in
    sym (beside_later other prop props one ones differs) ∙ agree other (tail_stands prop props other has) ∙ beside_later other prop props two twos differs) in
    λ k. head k ∷ tail k

module _ (schema : Schema) (t : TableId) (fragment : LinkFragment) (assoc : Assoc) (joined : IsJoinedTo schema t fragment assoc) (state : State) where
  -- the writing to a row is that of a link
  pub local_link : (key : List Value) (writing : Writing) → WritesRow schema state t key writing
      → (link : Link) × Contains (links_in state fragment.assoc) link × (writing ≡ link_writing schema.model fragment assoc link)
  local_link key writing to_row = ⊎_elim
      (λ (by : (other : Fragment) × (x : Entity) × EntityWrites schema state other x × (writing ≡ entity_writing schema.model other x)).
      let to : by.0.table ≡ t = sym (ap (λ (w : Writing). w.table) by.3) ∙ to_row.to_table in
      let Elsewhere : Fragment → Type 0 = λ other. ¬ (other.table ≡ t) in
      absurd (All-contains Elsewhere schema.mapping.fragments by.0 joined.fragments by.2.mapped to))
      (λ (by : (other : LinkFragment) × (joins : Assoc) × (link : Link) × LinkWrites schema state other joins link × (writing ≡ link_writing schema.model other joins link)).
      let to : by.0.table ≡ t = sym (ap (λ (w : Writing). w.table) by.4) ∙ to_row.to_table in
      let Only : LinkFragment → Type 0 = λ other. other.table ≡ t → other ≡ fragment in
      let same : by.0 ≡ fragment = All-contains Only schema.mapping.links by.0 joined.links by.3.mapped to in
      at_fragment by.0 same by.1 by.2 by.3 by.4)
      to_row.writes
    where
      at_fragment : (other : LinkFragment) → other ≡ fragment → (joins : Assoc) (link : Link) → LinkWrites schema state other joins link
          → writing ≡ link_writing schema.model other joins link
          → (link : Link) × Contains (links_in state fragment.assoc) link × (writing ≡ link_writing schema.model fragment assoc link)
      at_fragment other same joins link writes is =
          let Here : LinkFragment → Type 0 = λ f. At schema.model.assocs f.assoc.index joins in
          let one : joins ≡ assoc = at_once schema.model.assocs fragment.assoc.index joins assoc (subst Here same writes.is_assoc) joined.is_assoc in
          let Stands : LinkFragment → Type 0 = λ f. Contains (links_in state f.assoc) link in
          let Is : LinkFragment → Type 0 = λ f. writing ≡ link_writing schema.model f joins link in
          let Was : Assoc → Type 0 = λ a. writing ≡ link_writing schema.model fragment a link in
          (link, subst Stands same writes.stands, subst Was one (subst Is same is))

  -- each link demands a row
  pub writes_row : (link : Link) → Contains (links_in state fragment.assoc) link
      → WritesRow schema state t (written_key schema.store (link_writing schema.model fragment assoc link)) (link_writing schema.model fragment assoc link)
  writes_row link has = record {
    writes = inr (fragment, assoc, link, record { mapped = joined.is_fragment; is_assoc = joined.is_assoc; stands = has }, refl);
    to_table = joined.to_table;
    to_key = refl;
  }

  module _ (legal : IsLegal schema.model state) (one two : Link) (has_one : Contains (links_in state fragment.assoc) one) (has_two : Contains (links_in state fragment.assoc) two)
      (keys : written_key schema.store (link_writing schema.model fragment assoc one) ≡ written_key schema.store (link_writing schema.model fragment assoc two)) where
    abbrev cells : Link → List (ColId × Value)
    cells link = link_cells schema.model assoc fragment link

    apart : (link : Link) → AreApart (cell_cols (cells link))
    apart link = subst AreApart (sym (link_cols schema.model assoc fragment link)) joined.once

    -- the two write the same to each column
    same_written : (col : ColId) → Contains (cols_of (fragment.first ++ fragment.second)) col → written_to (cells one) col ≡ written_to (cells two) col
    same_written col has =
        let P : TableId → Type 0 = λ u. Contains (key_columns schema.store u) col in
        agree_by_map (written_to (cells one)) (written_to (cells two)) (key_columns schema.store fragment.table) keys col
        (subst P (sym joined.to_table) (All-contains (Contains (key_columns schema.store t)) (cols_of (fragment.first ++ fragment.second)) col joined.whole has))

    first_same : one.first ≡ two.first
    first_same =
        let props : List PropId = key_props schema.model assoc.first.ty in
        same_values props one.first two.first (link_is schema.model state legal fragment assoc joined.is_assoc one has_one).first
        (link_is schema.model state legal fragment assoc joined.is_assoc two has_two).first joined.keys.0
        (λ prop has.
        let found = map_contains (λ (pair : Pair). pair.prop) fragment.first prop (All-contains (Contains (props_in fragment.first)) props prop joined.first.all has) in
        let pair : Pair = found.0 in
        let col = contains_map (λ (p : Pair). p.col) (fragment.first ++ fragment.second) pair (Contains-append_left fragment.first fragment.second pair found.1) in
        let P : PropId → Type 0 = λ p. value_beside p props one.first ≡ value_beside p props two.first in
        subst P found.2
        (sym (written_once (cells one) (apart one) pair.col (value_beside pair.prop props one.first) (first_cell schema.model assoc fragment one pair found.1))
        ∙ same_written pair.col col
        ∙ written_once (cells two) (apart two) pair.col (value_beside pair.prop props two.first) (first_cell schema.model assoc fragment two pair found.1)))

    second_same : one.second ≡ two.second
    second_same =
        let props : List PropId = key_props schema.model assoc.second.ty in
        same_values props one.second two.second (link_is schema.model state legal fragment assoc joined.is_assoc one has_one).second
        (link_is schema.model state legal fragment assoc joined.is_assoc two has_two).second joined.keys.1
        (λ prop has.
        let found = map_contains (λ (pair : Pair). pair.prop) fragment.second prop (All-contains (Contains (props_in fragment.second)) props prop joined.second.all has) in
        let pair : Pair = found.0 in
        let col = contains_map (λ (p : Pair). p.col) (fragment.first ++ fragment.second) pair (Contains-append_right fragment.first fragment.second pair found.1) in
        let P : PropId → Type 0 = λ p. value_beside p props one.second ≡ value_beside p props two.second in
        subst P found.2
        (sym (written_once (cells one) (apart one) pair.col (value_beside pair.prop props one.second) (second_cell schema.model assoc fragment one pair found.1))
        ∙ same_written pair.col col
        ∙ written_once (cells two) (apart two) pair.col (value_beside pair.prop props two.second) (second_cell schema.model assoc fragment two pair found.1)))

    -- links with one row are one
    pub one_link : one ≡ two
    one_link k = record { first = first_same k; second = second_same k }
