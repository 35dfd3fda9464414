use Rattle.std.proofs.Common.{◌≡◌, ◌++◌, List, take}
use Rattle.std.specs.List.{AllZip}
use Rattle.emc_base.specs.declared.ids.ColId.{ColId}
use Rattle.query_views.specs.LinkKeys.{IsPairedWith}
use Rattle.query_views.proofs.links.columns.add_columns.Given as goal

-- the columns of the properties so far have come
abbrev pub invariant-loop-prop : goal.invariant-loop-prop
invariant-loop-prop l = (added : List ColId) × AllZip (IsPairedWith l.pairs) (take l.prop-index l.props) added × (l.columns.items ≡ l.initial.columns.items ++ added)
