-- A value that a legal state demands is null, or in the domain of its column.
use Rattle.std.proofs.Common.{◌≡◌, ◌⊎◌, inl, inr, ⊎_elim, ◌≤◌, List, [], ◌∷◌, ◌++◌, length, unwrap_or, true, ◌==◌, All, Contains, refl, sym, ap, subst, ◌∙◌}
use Rattle.std.proofs.lemmas.Bool.{cond_both}
use Rattle.std.proofs.lemmas.Bool.Decides.{Decides-eqb}
use Rattle.std.proofs.lemmas.List.Elements.{All-contains, Contains-append_cases, Contains-append_left, Contains-append_right}
use Rattle.std.proofs.lemmas.Option.{slice_get_cases, slice_get_past}
use Rattle.emc_base.proofs.Lists.{all_from_members}
use Rattle.emc_base.proofs.Numbered.{map_contains}
use Rattle.round_trip.specs.Words.{SetId, PropId, TableId, ColId, Value, Null, Prop, Assoc, End, Table, Column, Fragment, LinkFragment, Pair, Cond, Schema, Entity, Link, State, At, InDomain, IsA, props_of, key_props, value_beside, value_of, key_of, entities_in, HasEntityAt, HasValuesInDomain, IsLegal, Writing, Writes, end_cells, Fills, DemandsCell}
use Rattle.edm_types.specs.declared.mapping.CondOn.TheVariants as on
use Rattle.edm_types.specs.declared.mapping.Test.TheVariants.{IsNull, Equals}
use Rattle.schema_laws.specs.state_demand.Owners.{InheritsKeys}
use Rattle.schema_laws.specs.state_demand.WellWritten.{HoldsCells, HoldsConstant, HoldsPair, HoldsValues}
use Rattle.schema_laws.specs.state_demand.Writings.{entity_writing, link_writing}
use Rattle.schema_laws.proofs.state_demand.lists.Lists.{head_stands, none_in_nil, of_any, tail_stands}
use Rattle.schema_laws.proofs.state_demand.owners.Owners.{beside_map, ends_are}

-- a value beside a property is null, or the property stands among them
beside_cases : (prop : PropId) (props : List PropId) (values : List Value) → (value_beside prop props values ≡ Null) ⊎ Contains props prop
beside_cases prop [] values = inl refl
beside_cases prop (p ∷ props) [] = inl refl
beside_cases prop (p ∷ props) (value ∷ values) =
    let P : Value → Type 0 = λ v. (v ≡ Null) ⊎ Contains (p ∷ props) prop in
    cond_both (p.index == prop.index) value (value_beside prop props values) P
    (λ told. let number = (Decides-eqb p.index prop.index).0 told in
    let same : p ≡ prop = λ k. record { index = number k } in
    inr (subst (Contains (p ∷ props)) same (head_stands p props)))
    (λ told. ⊎_elim (λ null. inl null) (λ (later : Contains props prop). inr (tail_stands p props prop later)) (beside_cases prop props values))

-- null, or in the domain
abbrev pub IsNullOrIn : Column → Value → Type 0
IsNullOrIn column value = (value ≡ Null) ⊎ InDomain value column.kind

module _ (schema : Schema) (inherits : InheritsKeys schema.model) (state : State) (legal : IsLegal schema.model state) where
  -- an entity's value is null, or in the domain of its property
  value_domain : (set : SetId) (x : Entity) → Contains (entities_in state set) x → (prop : PropId) (declared : Prop) → At schema.model.props prop.index declared
      → (value_of schema.model x prop ≡ Null) ⊎ InDomain (value_of schema.model x prop) declared.kind
  value_domain set x has prop declared here = elim (slice_get_cases schema.model.sets set.index).1 [
    | inl found ↦ ⊎_elim
        (λ (null : value_of schema.model x prop ≡ Null). inl null)
        (λ (among : Contains (props_of schema.model x.ty) prop).
        All-contains (HasValuesInDomain schema.model) (entities_in state set) x (legal.sets set found.0 found.2).domains has prop declared
        (record { among = among; is_declared = here }))
        (beside_cases prop (props_of schema.model x.ty) x.values)
    | inr past ↦
        let end : length schema.model.sets ≤ set.index = past.0 in
        let none : entities_in state set ≡ [] = ap (λ found. unwrap_or found [])
        (slice_get_past state.entities set.index (subst (λ n. n ≤ set.index) (sym legal.shape.sets) end)) in
        absurd (none_in_nil x (subst (λ xs. Contains xs x) none has))
  ]

  -- a part of the key at an end is a value of an entity there
  part_value : (end : End) (key : List Value) → HasEntityAt schema.model state end key → (prop : PropId)
      → (value_beside prop (key_props schema.model end.ty) key ≡ Null)
      ⊎ ((x : Entity) × Contains (entities_in state end.set) x × (value_beside prop (key_props schema.model end.ty) key ≡ value_of schema.model x prop))
  part_value end key any prop =
      let Here : Entity → Type 0 = λ x. IsA schema.model x.ty end.ty × (key_of schema.model x ≡ key) in
      let found = of_any Here (entities_in state end.set) any in
      let x : Entity = found.0 in
      let keys : key_props schema.model x.ty ≡ key_props schema.model end.ty = inherits.same x.ty end.ty found.2.0 in
      ⊎_elim
      (λ (null : value_beside prop (key_props schema.model end.ty) key ≡ Null). inl null)
      (λ (among : Contains (key_props schema.model end.ty) prop).
      inr (
        x,
        found.1,
        ap (value_beside prop (key_props schema.model end.ty)) (sym found.2.1)
            ∙ ap (λ props. value_beside prop props (key_of schema.model x)) (sym keys)
            ∙ beside_map (value_of schema.model x) (key_props schema.model x.ty) prop (subst (λ props. Contains props prop) (sym keys) among),
      ))
      (beside_cases prop (key_props schema.model end.ty) key)

  module _ (table : Table) (col : ColId) (column : Column) (at : At table.cols col.index column) where
    -- a value of an entity, in the column of its pair
    pair_domain : (pair : Pair) → HoldsPair schema.model table pair → pair.col ≡ col → (set : SetId) (x : Entity) → Contains (entities_in state set) x
        → IsNullOrIn column (value_of schema.model x pair.prop)
    pair_domain pair holds is set x has =
        let At_col : ColId → Type 0 = λ c. At table.cols c.index column in
        let held = holds column (subst At_col (sym is) at) in
        ⊎_elim (λ null. inl null) (λ (within : InDomain (value_of schema.model x pair.prop) held.0.kind). inr (held.2 (value_of schema.model x pair.prop) within))
        (value_domain set x has pair.prop held.0 held.1)

    -- a part of a link's key, in the column of its pair
    part_domain : (pair : Pair) → HoldsPair schema.model table pair → pair.col ≡ col → (end : End) (key : List Value) → HasEntityAt schema.model state end key
        → IsNullOrIn column (value_beside pair.prop (key_props schema.model end.ty) key)
    part_domain pair holds is end key any = ⊎_elim
        (λ null. inl null)
        (λ (by : (x : Entity) × Contains (entities_in state end.set) x × (value_beside pair.prop (key_props schema.model end.ty) key ≡ value_of schema.model x pair.prop)).
        subst (IsNullOrIn column) (sym by.2) (pair_domain pair holds is end.set by.0 by.1))
        (part_value end key any pair.prop)

    -- what a condition gives
    cond_domain : (conds : List Cond) → All (HoldsConstant table) conds → (value : Value)
        → Contains conds (record { on = on.Col col; test = Equals value }) ⊎ (Contains conds (record { on = on.Col col; test = IsNull true }) × (value ≡ Null))
        → IsNullOrIn column value
    cond_domain conds holds value (inl has) =
        inr (All-contains (HoldsConstant table) conds (record { on = on.Col col; test = Equals value }) holds has col value column refl refl at)
    cond_domain conds holds value (inr (has, null)) = inl null

    entity_domain : (fragment : Fragment) (x : Entity) → Contains (entities_in state fragment.set) x → HoldsCells schema.model table fragment.pairs fragment.conds
        → (value : Value) → Fills (entity_writing schema.model fragment x) col value → IsNullOrIn column value
    entity_domain fragment x has holds value (inl cell) =
        let made : Pair → ColId × Value = λ pair. (pair.col, value_of schema.model x pair.prop) in
        let found = map_contains made fragment.pairs (col, value) cell in
        let pair : Pair = found.0 in
        subst (IsNullOrIn column) (ap (λ (c : ColId × Value). c.1) found.2)
        (pair_domain pair (All-contains (HoldsPair schema.model table) fragment.pairs pair holds.written found.1) (ap (λ (c : ColId × Value). c.0) found.2) fragment.set x has)
    entity_domain fragment x has holds value (inr given) = cond_domain fragment.conds holds.asked value given

    end_domain : (end : End) (pairs : List Pair) (key : List Value) → All (HoldsPair schema.model table) pairs → HasEntityAt schema.model state end key
        → (value : Value) → Contains {X = ColId × Value} (end_cells schema.model end.ty pairs key) (col, value) → IsNullOrIn column value
    end_domain end pairs key holds any value cell =
        let made : Pair → ColId × Value = λ pair. (pair.col, value_beside pair.prop (key_props schema.model end.ty) key) in
        let found = map_contains made pairs (col, value) cell in
        let pair : Pair = found.0 in
        subst (IsNullOrIn column) (ap (λ (c : ColId × Value). c.1) found.2)
        (part_domain pair (All-contains (HoldsPair schema.model table) pairs pair holds found.1) (ap (λ (c : ColId × Value). c.0) found.2) end key any)

    link_domain : (fragment : LinkFragment) (assoc : Assoc) (link : Link)
        → HasEntityAt schema.model state assoc.first link.first × HasEntityAt schema.model state assoc.second link.second
        → HoldsCells schema.model table (fragment.first ++ fragment.second) fragment.conds
        → (value : Value) → Fills (link_writing schema.model fragment assoc link) col value → IsNullOrIn column value
    link_domain fragment assoc link ends holds value (inl cell) = ⊎_elim
        (λ (first : Contains {X = ColId × Value} (end_cells schema.model assoc.first.ty fragment.first link.first) (col, value)).
        end_domain assoc.first fragment.first link.first
        (all_from_members (HoldsPair schema.model table) fragment.first
        (λ pair has. All-contains (HoldsPair schema.model table) (fragment.first ++ fragment.second) pair holds.written
        (Contains-append_left fragment.first fragment.second pair has)))
        ends.0 value first)
        (λ (second : Contains {X = ColId × Value} (end_cells schema.model assoc.second.ty fragment.second link.second) (col, value)).
        end_domain assoc.second fragment.second link.second
        (all_from_members (HoldsPair schema.model table) fragment.second
        (λ pair has. All-contains (HoldsPair schema.model table) (fragment.first ++ fragment.second) pair holds.written
        (Contains-append_right fragment.first fragment.second pair has)))
        ends.1 value second)
        (Contains-append_cases {X = ColId × Value} (end_cells schema.model assoc.first.ty fragment.first link.first)
        (end_cells schema.model assoc.second.ty fragment.second link.second) (col, value) cell)
    link_domain fragment assoc link ends holds value (inr given) = cond_domain fragment.conds holds.asked value given

  module _ (holds : HoldsValues schema) (t : TableId) (table : Table) (here : At schema.store.tables t.index table) (col : ColId) (column : Column)
      (at : At table.cols col.index column) where
    writing_domain : (writing : Writing) → Writes schema state writing → writing.table ≡ t → (value : Value) → Fills writing col value → IsNullOrIn column value
    writing_domain writing (inl (fragment, x, writes, is)) to value fills =
        let Holds : Fragment → Type 0 = λ f. (held : Table) → At schema.store.tables f.table.index held → HoldsCells schema.model held f.pairs f.conds in
        let to_t : fragment.table ≡ t = sym (ap (λ (w : Writing). w.table) is) ∙ to in
        let there : At schema.store.tables fragment.table.index table = subst (λ (u : TableId). At schema.store.tables u.index table) (sym to_t) here in
        entity_domain table col column at fragment x writes.stands (All-contains Holds schema.mapping.fragments fragment holds.fragments writes.mapped table there)
        value (subst (λ (w : Writing). Fills w col value) is fills)
    writing_domain writing (inr (fragment, assoc, link, writes, is)) to value fills =
        let Holds : LinkFragment → Type 0 = λ f. (held : Table) → At schema.store.tables f.table.index held → HoldsCells schema.model held (f.first ++ f.second) f.conds in
        let to_t : fragment.table ≡ t = sym (ap (λ (w : Writing). w.table) is) ∙ to in
        let there : At schema.store.tables fragment.table.index table = subst (λ (u : TableId). At schema.store.tables u.index table) (sym to_t) here in
        link_domain table col column at fragment assoc link (ends_are schema.model state legal fragment assoc writes.is_assoc link writes.stands)
        (All-contains Holds schema.mapping.links fragment holds.links writes.mapped table there)
        value (subst (λ (w : Writing). Fills w col value) is fills)

    pub demanded_domain : (key : List Value) (value : Value) → DemandsCell schema state t key col value → IsNullOrIn column value
    demanded_domain key value demand = writing_domain demand.0 demand.1.writes demand.1.to_table value demand.2
