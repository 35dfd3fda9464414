-- The groups of properties and columns, numbered from 0 by their labels.
use Rattle.std.specs.Prelude.{◌≡◌, ℕ, List, length, slice_get, Option, option_and_then}
use Rattle.std.specs.List.{IsDistinct}
use Rattle.round_trip.specs.Words.{GroupId, EntityModel, StoreModel, Table, At}
use Rattle.round_trip.specs.soundness.mappings.Joined.{Member, prop, col}
use Rattle.member_groups.specs.declared.joined_groups.groups.Groups.{Groups}
use Rattle.member_groups.specs.declared.joined_groups.labels.Label.{Label}
use Rattle.member_groups.specs.joined_groups.Labels.{label_eq, label_of}
use Rattle.member_groups.specs.declared.group_numbers.numbers.Numbers.{Numbers}

-- the group of a property or a column, as it is known
abbrev pub number_in : Numbers → Member → Option GroupId
number_in numbers (prop p) = slice_get numbers.props p.index
number_in numbers (col t c) = option_and_then (λ columns. slice_get columns c.index) (slice_get numbers.tables t.index)

-- the list has so many items, and at each place one of which this is so
pub record HoldsEach {X : Type 0} (P : ℕ → X → Type 0) (count : ℕ) (items : List X) : Type 0 where
  pub size : length items ≡ count
  pub each : (i : ℕ) (item : X) → At items i item → P i item

-- at each number its label stands among these
abbrev pub AreNumbered : List Label → (ℕ → Label) → ℕ → List GroupId → Type 0
AreNumbered labels label_at = HoldsEach (λ i group. At labels group.index (label_at i))

-- at the number of each column of a table its label stands among these
abbrev pub AreColumns : Groups → List Label → List Table → ℕ → List GroupId → Type 0
AreColumns groups labels tables t numbers = (table : Table) × At tables t table
    × AreNumbered labels (λ i. label_of groups (col (record { index = t }) (record { index = i }))) (length table.cols) numbers

-- the same for the columns of so many tables
abbrev pub AreTables : Groups → List Label → List Table → ℕ → List (List GroupId) → Type 0
AreTables groups labels tables = HoldsEach (AreColumns groups labels tables)

-- each label keeps its place
pub record Grows (before after : List Label) : Type 0 where
  pub kept : (i : ℕ) (label : Label) → At before i label → At after i label

-- the label stands at the number of the group
pub record Notes (before after : List Label) (label : Label) (group : GroupId) : Type 0 where
  pub grown : Grows before after
  pub here : At after group.index label

-- each property and each column has the number of its label
pub record AreNumbers (groups : Groups) (model : EntityModel) (store : StoreModel) (numbers : Numbers) : Type 0 where
  pub labels : List Label
  pub unique : IsDistinct label_eq labels
  pub count : numbers.count ≡ length labels
  pub props : AreNumbered labels (λ i. label_of groups (prop (record { index = i }))) (length model.props) numbers.props
  pub tables : AreTables groups labels store.tables (length store.tables) numbers.tables
