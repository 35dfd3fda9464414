-- What a change tells by the text of its members: its operation, and the set that it is about.
-- Source: this project's change documents; CSDL version 3, EntitySet and AssociationSet.
use Rattle.std.specs.Prelude.{ℕ, List, Option, Some, None, Bool, if◌then◌else◌, is_some, option_and_then, option_map, slice_get, codes}
use Rattle.std.specs.Option.{option_map_or}
use Rattle.std.specs.Str.{bytes_eq}
use Rattle.serde_json.specs.Data.{Data}
use Rattle.json_form.specs.from_nodes.Reading.{optional_text_at}
use Rattle.round_trip.specs.Words.{EntityModel, AssocId, SetId, TypeId}
use Rattle.edm_types.specs.Forest.{type_numbered}
use Rattle.schema_names.specs.SchemaNames.{association_set_named, set_named}
use Rattle.data_documents.specs.declared.change_documents.operation.Operation.{Operation}
use Rattle.data_documents.specs.declared.change_documents.operation.Operation.TheVariants.{Insert, Update, Delete, Link, Unlink}
use Rattle.data_documents.specs.declared.change_documents.operation.Member.{Member}
use Rattle.data_documents.specs.declared.change_documents.operation.Member.TheVariants as member
use Rattle.data_documents.specs.entity_documents.Names.{assoc_numbered, independent_at}

-- the operation of a name
abbrev pub operation_named : List ℕ → Option Operation
operation_named name =
    if bytes_eq name (codes "insert") then Some Insert else
    if bytes_eq name (codes "update") then Some Update else
    if bytes_eq name (codes "delete") then Some Delete else
    if bytes_eq name (codes "link") then Some Link else
    if bytes_eq name (codes "unlink") then Some Unlink else None

-- the operation that a change tells: its member `op` names it
abbrev pub operation_in : Data → Option Operation
operation_in d = option_and_then operation_named (optional_text_at (codes "op") d)

-- the name of the member that tells what comes, goes or takes another's place
abbrev pub told_member : Operation → List ℕ
told_member Insert = codes "entity"
told_member Update = codes "entity"
told_member Delete = codes "key"
told_member Link = codes "link"
told_member Unlink = codes "link"

-- which member a name is that of
abbrev pub member_named : Operation → List ℕ → Member
member_named operation name =
    if bytes_eq name (codes "op") then member.Operation else
    if bytes_eq name (codes "set") then member.Set else
    if bytes_eq name (told_member operation) then member.Told else member.Other

-- the entity set at a place
abbrev pub set_numbered : ℕ → SetId
set_numbered place = record { index = place }

-- the entity set that a change names
abbrev pub set_in : EntityModel → Data → Option SetId
set_in model d = option_map set_numbered (option_and_then (set_named model) (optional_text_at (codes "set") d))

-- the association set, where it is independent: only then its links are stored
abbrev pub if_independent_set : EntityModel → AssocId → Option AssocId
if_independent_set model id = if is_some (independent_at model id) then Some id else None

-- the independent association set that a change names
abbrev pub link_set_in : EntityModel → Data → Option AssocId
link_set_in model d =
    option_and_then (λ place. if_independent_set model (assoc_numbered place)) (option_and_then (association_set_named model) (optional_text_at (codes "set") d))

-- the change names a set of the sort that its operation is about
abbrev pub names_set : EntityModel → Operation → Data → Bool
names_set model Insert d = is_some (set_in model d)
names_set model Update d = is_some (set_in model d)
names_set model Delete d = is_some (set_in model d)
names_set model Link d = is_some (link_set_in model d)
names_set model Unlink d = is_some (link_set_in model d)

-- the type of a set's entities; the first type of the model where there is no such set
abbrev pub element_of : EntityModel → SetId → TypeId
element_of model s = option_map_or (λ set. set.element) (slice_get model.sets s.index) (type_numbered 0)
