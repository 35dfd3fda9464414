-- The changes that a document without faults of shape tells.
-- Source: this project's change documents.
use Rattle.std.specs.Prelude.{List, [], map, unwrap_or, codes}
use Rattle.std.specs.Option.{option_map_or}
use Rattle.serde_json.specs.Data.{Data}
use Rattle.json_form.specs.TreeParts.{items_in}
use Rattle.json_form.specs.from_nodes.Reading.{object_at}
use Rattle.round_trip.specs.Words.{EntityModel, AssocId, SetId, Entity, Link, Value}
use Rattle.entity_changes.specs.declared.change.Change.{Change}
use Rattle.entity_changes.specs.declared.change.Change.TheVariants as change
use Rattle.data_documents.specs.declared.change_documents.operation.Operation.{Operation}
use Rattle.data_documents.specs.declared.change_documents.operation.Operation.TheVariants.{Insert, Update, Delete, Link as ALink, Unlink}
use Rattle.data_documents.specs.entity_documents.Names.{assoc_numbered, independent_at}
use Rattle.data_documents.specs.entity_documents.States.{entity_in, key_in, link_in}
use Rattle.data_documents.specs.change_documents.Names.{element_of, link_set_in, operation_in, set_in, set_numbered}

-- the entity set that a change is about; the first where it names none
abbrev pub set_of : EntityModel → Data → SetId
set_of model d = unwrap_or (set_in model d) (set_numbered 0)

-- the association set that a change is about; the first where it names none
abbrev pub link_set_of : EntityModel → Data → AssocId
link_set_of model d = unwrap_or (link_set_in model d) (assoc_numbered 0)

-- a link of an association set; one without keys where the set isn't independent
abbrev pub link_of : EntityModel → AssocId → Data → Link
link_of model a d = option_map_or (λ assoc. link_in model assoc d) (independent_at model a) (record { first = []; second = [] })

-- the set of an insert or an update, and the entity that it tells
abbrev pub entity_told : EntityModel → Data → SetId × Entity
entity_told model d = (set_of model d, entity_in model (object_at (codes "entity") d))

-- the set of a delete, and the key that it tells
abbrev pub key_told : EntityModel → Data → SetId × List Value
key_told model d = (set_of model d, key_in model (element_of model (set_of model d)) (object_at (codes "key") d))

-- the association set of a link or an unlink, and the link that it tells
abbrev pub link_told : EntityModel → Data → AssocId × Link
link_told model d = (link_set_of model d, link_of model (link_set_of model d) (object_at (codes "link") d))

-- the change of an operation
abbrev pub change_by : EntityModel → Operation → Data → Change
change_by model Insert d = change.Insert (entity_told model d).0 (entity_told model d).1
change_by model Update d = change.Update (entity_told model d).0 (entity_told model d).1
change_by model Delete d = change.Delete (key_told model d).0 (key_told model d).1
change_by model ALink d = change.Link (link_told model d).0 (link_told model d).1
change_by model Unlink d = change.Unlink (link_told model d).0 (link_told model d).1

-- the change that an object tells; an insert where it tells no operation
abbrev pub change_in : EntityModel → Data → Change
change_in model d = change_by model (unwrap_or (operation_in d) Insert) d

-- the changes of a document, in their order
abbrev pub changes_in : EntityModel → Data → List Change
changes_in model d = map (change_in model) (items_in d)
