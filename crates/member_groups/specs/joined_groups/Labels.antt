-- What properties and columns are known by: joined ones by the same.
use Rattle.std.specs.Prelude.{Bool}
use Rattle.std.specs.Option.{option_map_or}
use Rattle.std.specs.declared.cmp.Ordering.{Ordering}
use Rattle.round_trip.specs.soundness.mappings.Joined.{Member, prop, col}
use Rattle.member_groups.specs.declared.joined_groups.groups.Groups.{Groups}
use Rattle.member_groups.specs.joined_groups.Groups.{group_of}
use Rattle.member_groups.specs.contracts.joined_groups.labels.LabelOrd.TheImpl as label_ord
use Rattle.member_groups.specs.contracts.joined_groups.labels.LabelPartialEq.TheImpl as label_equal
use Rattle.member_groups.specs.declared.joined_groups.labels.Label.{Label}
use Rattle.member_groups.specs.declared.joined_groups.labels.Label.TheVariants as label

-- the order of labels, in which they are looked up
abbrev pub label_cmp : Label → Label → Ordering
label_cmp = (label_ord.ghosts).cmp

-- whether two labels are equal
abbrev pub label_eq : Label → Label → Bool
label_eq = (label_equal.ghosts).eq

-- a property or a column by its own numbers
abbrev pub own_label : Member → Label
own_label (prop p) = label.Prop p.index
own_label (col t c) = label.Column t.index c.index

-- what a property or a column is known by: its group, or where it has none, its own numbers
abbrev pub label_of : Groups → Member → Label
label_of groups member = option_map_or (λ group. label.Group group) (group_of groups member) (own_label member)
