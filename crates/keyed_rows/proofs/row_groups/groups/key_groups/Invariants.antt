use Rattle.std.proofs.Common.{◌≡◌, ◌++◌, map}
use Rattle.std.specs.List.Sorted.{IsSortedByKey}
use Rattle.keyed_rows.proofs.row_groups.LentKeys.{lent_cmp}
use Rattle.keyed_rows.specs.row_groups.KeyGroups.{AreKeyGroups}
use Rattle.keyed_rows.specs.row_groups.Shown.{shown_group, shown_keyed}
use Rattle.keyed_rows.proofs.row_groups.groups.key_groups.Given as goal

-- the items so far are grouped; behind these come the ones that are left
abbrev pub invariant-loop-key : goal.invariant-loop-key
invariant-loop-key g l = AreKeyGroups (map shown_keyed l.yielded) (map shown_group l.groups.items) × (l.initial.key-iterator.rest.items ≡ l.yielded ++ l.key-iterator.rest.items) × IsSortedByKey (λ one. one.0) lent_cmp l.initial.key-iterator.rest.items
