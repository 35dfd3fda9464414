-- The trees of the tests' model are the forest of its types.
use Rattle.std.proofs.Common.{◌≡◌, ◌==◌, ℕ, zero, suc, List, [], ◌∷◌, map, Bool, true, false, Contains, Option, Some, None, option_map, is_none, refl, sym, ap, subst, ◌∙◌, arith}
use Rattle.std.specs.Option.{option_map_or}
use Rattle.std.specs.List.{AllByRecursion}
use Rattle.std.proofs.lemmas.Option.{slice_get-map}
use Rattle.emc_base.specs.Lists.{At, places_of}
use Rattle.emc_base.proofs.Lists.{at_once}
use Rattle.emc_base.proofs.Numbered.{places_of_images}
use Rattle.edm_types.specs.Types.{TypeId, EntityModel, EntityType}
use Rattle.edm_types.specs.declared.model.TypeNode as node
use Rattle.edm_types.specs.declared.model.TypeNode.TheBlock as block
use Rattle.edm_types.specs.declared.model.TypeNode.{TypeNode}
use Rattle.edm_types.specs.Forest.{type_numbered, root_types, types_based_on, nodes_below, IsNodeOf, top, below, HasNode, IsTypeNode, IsForest}
use Rattle.edm_types.proofs.Nodes.{each_node}
use Rattle.edm_types.specs.Staff.{descent, staff_descent, manager, employee, customer, person, product}

abbrev staff_nodes : List TypeNode
staff_nodes = manager ∷ person ∷ employee ∷ customer ∷ product ∷ []

abbrev staff_trees : List TypeNode
staff_trees = person ∷ product ∷ []

-- each of these trees, and each below a node, is listed, and the node of each type stands in them
tops : AllByRecursion (Contains staff_nodes) staff_trees
tops = ((1, omega arith, refl), ((4, omega arith, refl), tt))

lower : AllByRecursion (λ n. AllByRecursion (Contains staff_nodes) (nodes_below n)) staff_nodes
unfolding node.out-TypeNode denote.Hole.Carrier.out block.shown-the_row-TypeNode-0 denote.Hole.Carrier.shown node.roll-TypeNode denote.Hole.Carrier.roll denote.Hole.Carrier.hidden
lower = (tt, (((2, omega arith, refl), ((3, omega arith, refl), tt)), (((0, omega arith, refl), tt), (tt, (tt, tt)))))

node_at : (i : ℕ) (found : Option TypeId × Bool) → At staff_descent i found → HasNode staff_trees (type_numbered i)
unfolding node.out-TypeNode denote.Hole.Carrier.out block.shown-the_row-TypeNode-0 denote.Hole.Carrier.shown node.roll-TypeNode denote.Hole.Carrier.roll denote.Hole.Carrier.hidden
node_at i found here = by i here
  where
    is_person : IsNodeOf staff_trees person
    is_person = top person (0, omega arith, refl)

    is_employee : IsNodeOf staff_trees employee
    is_employee = below person employee is_person (0, omega arith, refl)

    by : (k : ℕ) → At staff_descent k found → HasNode staff_trees (type_numbered k)
    by zero at = (manager, below employee manager is_employee (0, omega arith, refl), refl)
    by (suc zero) at = (person, is_person, refl)
    by (suc (suc zero)) at = (employee, is_employee, refl)
    by (suc (suc (suc zero))) at = (customer, below person customer is_person (1, omega arith, refl), refl)
    by (suc (suc (suc (suc zero)))) at = (product, top product (1, omega arith, refl), refl)
    by (suc (suc (suc (suc (suc k))))) at = cc

-- the types, by their bases and flags
at_descent : (types : List EntityType) → map descent types ≡ staff_descent → (i : ℕ) (type : EntityType) → At types i type → At staff_descent i (descent type)
at_descent types are i type here =
    let P : List (Option TypeId × Bool) → Type 0 = λ known. At known i (descent type) in
    subst P are (slice_get-map descent types i ∙ ap (option_map descent) here)

-- each type has a node
pub staff_whole : (types : List EntityType) (trees : List TypeNode) → map descent types ≡ staff_descent → trees ≡ staff_trees
    → (t : TypeId) (type : EntityType) → At types t.index type → HasNode trees t
staff_whole types trees are stand t type here =
    let P : List TypeNode → Type 0 = λ nodes. HasNode nodes t in
    subst P (sym stand) (node_at t.index (descent type) (at_descent types are t.index type here))

module _ (model : EntityModel) (trees : List TypeNode) (are : map descent model.types ≡ staff_descent) (stand : trees ≡ staff_trees) where
  roots_are : root_types model ≡ map type_numbered (1 ∷ 4 ∷ [])
  roots_are =
      let test : Option TypeId × Bool → Bool = λ known. is_none known.0 in
      ap (map type_numbered) (sym (places_of_images descent test model.types) ∙ ap (places_of test) are)

  based_are : (t : TypeId) → types_based_on model t ≡ map type_numbered (places_of (λ known. option_map_or (λ base. base.index == t.index) known.0 false) staff_descent)
  based_are t =
      let test : Option TypeId × Bool → Bool = λ known. option_map_or (λ base. base.index == t.index) known.0 false in
      ap (map type_numbered) (sym (places_of_images descent test model.types) ∙ ap (places_of test) are)

  flag_is : (i : ℕ) (known : Option TypeId × Bool) (type : EntityType) → At staff_descent i known → At model.types i type → known.1 ≡ type.is_abstract
  flag_is i known type here at = ap (λ k. k.1) (at_once staff_descent i known (descent type) here (at_descent model.types are i type at))

  each : AllByRecursion (IsTypeNode model) staff_nodes
  unfolding node.out-TypeNode denote.Hole.Carrier.out block.shown-the_row-TypeNode-0 denote.Hole.Carrier.shown node.roll-TypeNode denote.Hole.Carrier.roll denote.Hole.Carrier.hidden
  each = (
    record { children = sym (based_are (type_numbered 0)); flag = λ type at. flag_is 0 (Some (type_numbered 2), false) type refl at },
    (
      record { children = sym (based_are (type_numbered 1)); flag = λ type at. flag_is 1 (None, true) type refl at },
      (
        record { children = sym (based_are (type_numbered 2)); flag = λ type at. flag_is 2 (Some (type_numbered 1), false) type refl at },
        (
          record { children = sym (based_are (type_numbered 3)); flag = λ type at. flag_is 3 (Some (type_numbered 1), false) type refl at },
          (record { children = sym (based_are (type_numbered 4)); flag = λ type at. flag_is 4 (None, false) type refl at }, tt),
        ),
      ),
    ),
  )

  forest_is : IsForest model staff_trees
  unfolding node.out-TypeNode denote.Hole.Carrier.out block.shown-the_row-TypeNode-0 denote.Hole.Carrier.shown node.roll-TypeNode denote.Hole.Carrier.roll denote.Hole.Carrier.hidden
  forest_is = record {
    roots = sym roots_are;
    nodes = each_node (IsTypeNode model) staff_trees staff_nodes tops lower each;
  }

  pub staff_forest : IsForest model trees
  staff_forest = subst (IsForest model) (sym stand) forest_is
