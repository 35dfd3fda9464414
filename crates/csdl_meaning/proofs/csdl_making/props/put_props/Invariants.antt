use Rattle.std.proofs.Common.{◌≡◌, ◌++◌, map, take}
use Rattle.csdl_meaning.specs.Meaning.{prop_of}
use Rattle.csdl_meaning.proofs.csdl_making.props.put_props.Given as goal

-- the properties that were passed stand behind the others
abbrev pub invariant-loop-prop : goal.invariant-loop-prop
invariant-loop-prop l = l.props ≡ l.initial.props ++ map (prop_of l.lookups.model.now l.owner) (take l.prop-index l.prop-items)
