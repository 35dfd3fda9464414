-- What is so or not: of values, of all or some items, and of what a fragment shows or writes.
use Rattle.std.proofs.Common.{◌≡◌, ◌≢◌, ◌⊎◌, inl, inr, ⊎_elim, List, [], ◌∷◌, ◌++◌, map, Bool, true, false, Decides, All, Any, Contains, refl, subst}
use Rattle.std.proofs.lemmas.Bool.Decides.{not_from_Decides}
use Rattle.std.proofs.lemmas.List.Elements.{All-cons, All-head, All-nil, All-tail}
use Rattle.emc_base.proofs.Lists.{at_once}
use Rattle.round_trip.specs.Words.{TypeId, Value, Null, Assoc, Fragment, LinkFragment, Pair, Cond, CondOn, Test, Schema, Entity, Link, Row, State, At, Tables, rows_in, cell_of, cells_of, entities_in, links_in, Selects, Shows, ShowsLink, MetByRow, entity_cells, link_cells, IsWrittenTuple, IsShownTuple, IsWrittenLinkTuple, IsShownLinkTuple}
use Rattle.edm_types.specs.declared.mapping.CondOn.TheVariants as on
use Rattle.schema_laws.specs.state_demand.Selecting.{DecidesTypes, passes, same_key, same_value, selects}
use Rattle.schema_laws.proofs.state_demand.lists.Lists.{any_or_none}
use Rattle.schema_laws.proofs.state_demand.writings.Selecting.{Decides-key, Decides-passes, Decides-selects, Decides-value}

pub so_or_not : {P : Type 0} (b : Bool) → Decides b P → P ⊎ ¬ P
so_or_not true decides = inl (decides.0 refl)
so_or_not false decides = inr (not_from_Decides false decides refl)

pub value_or_not : (one two : Value) → (one ≡ two) ⊎ (one ≢ two)
value_or_not one two = so_or_not (same_value one two) (Decides-value one two)

pub key_or_not : (one two : List Value) → (one ≡ two) ⊎ (one ≢ two)
key_or_not one two = so_or_not (same_key one two) (Decides-key one two)

pub not_or : {P : Type 0} → P ⊎ ¬ P → ¬ P ⊎ ¬ ¬ P
not_or (inl so) = inr (λ not. not so)
not_or (inr not) = inl not

pub both_or_not : {P Q : Type 0} → P ⊎ ¬ P → Q ⊎ ¬ Q → (P × Q) ⊎ ¬ (P × Q)
both_or_not (inl first) (inl second) = inl (first, second)
both_or_not (inl first) (inr not) = inr (λ both. not both.1)
both_or_not (inr not) second = inr (λ both. not both.0)

pub all_or_not : {X : Type 0} (P : X → Type 0) → ((x : X) → P x ⊎ ¬ P x) → (xs : List X) → All P xs ⊎ ¬ All P xs
all_or_not P each [] = inl (All-nil P)
all_or_not P each (x ∷ xs) = ⊎_elim
    (λ (here : P x). ⊎_elim
    (λ (rest : All P xs). inl (All-cons P x xs here rest))
    (λ (not : ¬ All P xs). inr (λ all. not (All-tail P x xs all)))
    (all_or_not P each xs))
    (λ (not : ¬ P x). inr (λ all. not (All-head P x xs all)))
    (each x)

pub any_or_not : {X : Type 0} (P : X → Type 0) → ((x : X) → P x ⊎ ¬ P x) → (xs : List X) → Any P xs ⊎ ¬ Any P xs
any_or_not {X} P each xs = ⊎_elim
    (λ (found : (x : X) × Contains xs x × P x). inl (found.1.0, found.0, found.1.1, found.1.2, found.2))
    (λ (none : (x : X) → Contains xs x → ¬ P x). inr (λ any. none any.1 (any.0, any.2, any.3) any.4))
    (any_or_none P each xs)

met_or_not : (row : Row) (what : CondOn) (test : Test) → MetByRow row what test ⊎ ¬ MetByRow row what test
met_or_not row (on.Prop prop) test = inl tt
met_or_not row (on.Col col) test = so_or_not (passes test (cell_of row col)) (Decides-passes test (cell_of row col))

pub shown_or_not : (fragment : Fragment) (row : Row) → Shows fragment row ⊎ ¬ Shows fragment row
shown_or_not fragment row = all_or_not (λ (cond : Cond). MetByRow row cond.on cond.test) (λ cond. met_or_not row cond.on cond.test) fragment.conds

pub link_shown_or_not : (fragment : LinkFragment) (row : Row) → ShowsLink fragment row ⊎ ¬ ShowsLink fragment row
link_shown_or_not fragment row =
    let Meets : Type 0 = All (λ (cond : Cond). MetByRow row cond.on cond.test) fragment.conds in
    let Keys : Type 0 = All (λ (pair : Pair). cell_of row pair.col ≢ Null) (fragment.first ++ fragment.second) in
    ⊎_elim
    (λ (both : Meets × Keys). inl (record { meets = both.0; keys = both.1 }))
    (λ (not : ¬ (Meets × Keys)). inr (λ shows. not (shows.meets, shows.keys)))
    (both_or_not (all_or_not (λ (cond : Cond). MetByRow row cond.on cond.test) (λ cond. met_or_not row cond.on cond.test) fragment.conds)
    (all_or_not (λ (pair : Pair). cell_of row pair.col ≢ Null) (λ pair. not_or (value_or_not (cell_of row pair.col) Null)) (fragment.first ++ fragment.second)))

module _ (schema : Schema) (is_a : TypeId → TypeId → Bool) (decides : DecidesTypes schema.model is_a) (state : State) where
  pub tuple_written_or_not : (fragment : Fragment) (tuple : List Value) → IsWrittenTuple schema state fragment tuple ⊎ ¬ IsWrittenTuple schema state fragment tuple
  tuple_written_or_not fragment tuple =
      let Writes : Entity → Type 0 = λ entity. Selects schema.model fragment entity × (tuple ≡ map (λ cell. cell.1) (entity_cells schema.model fragment entity)) in
      ⊎_elim
      (λ (found : (entity : Entity) × Contains (entities_in state fragment.set) entity × Writes entity). inl (found.0, found.1, found.2.0, found.2.1))
      (λ (none : (entity : Entity) → Contains (entities_in state fragment.set) entity → ¬ Writes entity). inr (λ by. none by.0 by.1 (by.2, by.3)))
      (any_or_none Writes (λ entity. both_or_not (so_or_not (selects is_a schema.model fragment entity) (Decides-selects schema.model is_a decides fragment entity))
      (key_or_not tuple (map (λ cell. cell.1) (entity_cells schema.model fragment entity)))) (entities_in state fragment.set))

pub tuple_shown_or_not : (tables : Tables) (fragment : Fragment) (tuple : List Value) → IsShownTuple tables fragment tuple ⊎ ¬ IsShownTuple tables fragment tuple
tuple_shown_or_not tables fragment tuple =
    let Tells : Row → Type 0 = λ row. Shows fragment row × (tuple ≡ cells_of row (map (λ pair. pair.col) fragment.pairs)) in
    ⊎_elim
    (λ (found : (row : Row) × Contains (rows_in tables fragment.table) row × Tells row). inl (found.0, found.1, found.2.0, found.2.1))
    (λ (none : (row : Row) → Contains (rows_in tables fragment.table) row → ¬ Tells row). inr (λ by. none by.0 by.1 (by.2, by.3)))
    (any_or_none Tells (λ row. both_or_not (shown_or_not fragment row) (key_or_not tuple (cells_of row (map (λ pair. pair.col) fragment.pairs)))) (rows_in tables fragment.table))

pub link_tuple_written_or_not : (schema : Schema) (state : State) (fragment : LinkFragment) (assoc : Assoc) → At schema.model.assocs fragment.assoc.index assoc
    → (tuple : List Value)
    → IsWrittenLinkTuple schema state fragment tuple ⊎ ¬ IsWrittenLinkTuple schema state fragment tuple
link_tuple_written_or_not schema state fragment assoc here tuple =
    let Writes : Link → Type 0 = λ link. tuple ≡ map (λ cell. cell.1) (link_cells schema.model assoc fragment link) in
    ⊎_elim
    (λ (found : (link : Link) × Contains (links_in state fragment.assoc) link × Writes link). inl (assoc, found.0, here, found.1, found.2))
    (λ (none : (link : Link) → Contains (links_in state fragment.assoc) link → ¬ Writes link). inr (λ by.
    let same : by.0 ≡ assoc = at_once schema.model.assocs fragment.assoc.index by.0 assoc by.2 here in
    let P : Assoc → Type 0 = λ a. tuple ≡ map (λ cell. cell.1) (link_cells schema.model a fragment by.1) in
    none by.1 by.3 (subst P same by.4)))
    (any_or_none Writes (λ link. key_or_not tuple (map (λ cell. cell.1) (link_cells schema.model assoc fragment link))) (links_in state fragment.assoc))

pub link_tuple_shown_or_not : (tables : Tables) (fragment : LinkFragment) (tuple : List Value) → IsShownLinkTuple tables fragment tuple ⊎ ¬ IsShownLinkTuple tables fragment tuple
link_tuple_shown_or_not tables fragment tuple =
    let Tells : Row → Type 0 = λ row. ShowsLink fragment row × (tuple ≡ cells_of row (map (λ pair. pair.col) (fragment.first ++ fragment.second))) in
    ⊎_elim
    (λ (found : (row : Row) × Contains (rows_in tables fragment.table) row × Tells row). inl (found.0, found.1, found.2.0, found.2.1))
    (λ (none : (row : Row) → Contains (rows_in tables fragment.table) row → ¬ Tells row). inr (λ by. none by.0 by.1 (by.2, by.3)))
    (any_or_none Tells (λ row. both_or_not (link_shown_or_not fragment row) (key_or_not tuple (cells_of row (map (λ pair. pair.col) (fragment.first ++ fragment.second)))))
    (rows_in tables fragment.table))
