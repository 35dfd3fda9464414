-- The types of the model that the tests are about: Manager, Person, Employee, Customer and Product. A manager is an employee, and employees
-- and customers are persons.
use Rattle.std.specs.Prelude.{List, [], ◌∷◌, Bool, true, false, Option, Some, None}
use Rattle.edm_types.specs.Types.{TypeId, EntityType}
use Rattle.edm_types.specs.declared.model.TypeNode.{TypeNode, roll-TypeNode}
use Rattle.edm_types.specs.Forest.{type_numbered}

-- the base of a type, and whether it is abstract
abbrev pub descent : EntityType → Option TypeId × Bool
descent type = (type.base, type.is_abstract)

-- those of each
abbrev pub staff_descent : List (Option TypeId × Bool)
staff_descent = (Some (type_numbered 2), false) ∷ (None, true) ∷ (Some (type_numbered 1), false) ∷ (Some (type_numbered 1), false) ∷ (None, false) ∷ []

-- a node by its parts
abbrev pub node_of : TypeId → Bool → List TypeNode → TypeNode
node_of t is_abstract children = roll-TypeNode (record { id = t; is_abstract = is_abstract; children = children })

-- the node of each
abbrev pub manager : TypeNode
manager = node_of (type_numbered 0) false []

abbrev pub employee : TypeNode
employee = node_of (type_numbered 2) false (manager ∷ [])

abbrev pub customer : TypeNode
customer = node_of (type_numbered 3) false []

abbrev pub person : TypeNode
person = node_of (type_numbered 1) true (employee ∷ customer ∷ [])

abbrev pub product : TypeNode
product = node_of (type_numbered 4) false []
