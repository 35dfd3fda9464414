-- Properties and columns that come to those that are known as telling another entity.
use Rattle.std.specs.Prelude.{◌≡◌, ◌⊎◌, ◌↔◌, List, Contains, IsTrue, Some}
use Rattle.std.specs.BTreeSet.{contains}
use Rattle.round_trip.specs.Words.{PropId, TableId, Assoc, Constraint, Pair, LinkFragment, Schema}
use Rattle.round_trip.specs.FailsAt.{IsHostedAt}
use Rattle.round_trip.specs.soundness.mappings.Joined.{Member, prop, col}
use Rattle.member_groups.specs.declared.joined_groups.groups.Groups.{Groups}
use Rattle.member_groups.specs.joined_groups.Labels.{label_cmp, label_of}
use Rattle.msl_checks.specs.declared.barred_members.barred.Barred.{Barred}
use Rattle.member_groups.specs.declared.joined_groups.labels.Label.{Label}

-- the label is that of a property or a column of this kind
abbrev pub IsLabelOf : Groups → (Member → Type 0) → Label → Type 0
IsLabelOf groups P label = (member : Member) × P member × (label_of groups member ≡ label)

-- just the properties and columns of this kind have come to those that are known
pub record Adds (P : Member → Type 0) (before after : Barred) : Type 0 where
  pub groups : after.groups ≡ before.groups
  pub labels : (label : Label) → IsTrue (contains label_cmp after.labels label) ↔ (IsTrue (contains label_cmp before.labels label) ⊎ IsLabelOf before.groups P label)

-- what is so by one of these
abbrev pub Each : {X : Type 0} → (X → Member → Type 0) → List X → Member → Type 0
Each {X} P xs member = (x : X) × Contains xs x × P x member

-- it is this property
abbrev pub IsProp : PropId → Member → Type 0
IsProp p member = member ≡ prop p

-- it is a dependent property of this association
abbrev pub Constrains : Assoc → Member → Type 0
Constrains assoc member = (constraint : Constraint) × (assoc.constraint ≡ Some constraint) × Each IsProp constraint.dependent member

-- it is the column of this pair
abbrev pub IsColumn : TableId → Pair → Member → Type 0
IsColumn table pair member = member ≡ col table pair.col

-- the links are hosted by an end's own pairs, and it is a column of its partner's
abbrev pub HostsAt : Schema → TableId → List Pair → List Pair → Member → Type 0
HostsAt schema table own partner member = IsHostedAt schema table own × Each (IsColumn table) partner member

-- it is a column to which this link fragment writes a partner's key
abbrev pub Hosts : Schema → LinkFragment → Member → Type 0
Hosts schema fragment member = HostsAt schema fragment.table fragment.first fragment.second member ⊎ HostsAt schema fragment.table fragment.second fragment.first member

-- what is barred in a schema has come, the dependent properties first
abbrev pub AddsAll : Schema → Barred → Barred → Type 0
AddsAll schema before after =
    (between : Barred) × Adds (Each Constrains schema.model.assocs) before between × Adds (Each (Hosts schema) schema.mapping.links) between after
