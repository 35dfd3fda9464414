-- What a node stands for.
use Rattle.serde_json.specs.Data.{Data}
use Rattle.serde_json.specs.View.{view}
use Rattle.json_form.specs.declared.node.Node.{Node}

-- the part of the tree that a node lends
abbrev pub part_of : Node → Data
part_of node = view node.value.now
