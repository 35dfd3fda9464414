-- In a sound schema every column holds what is written to it and what it is compared with.
use Rattle.std.proofs.Common.{◌≡◌, ℕ, List, ◌++◌, option_map, slice_get, Option, Some, None, All, sym, ap, subst, ◌∙◌, arith}
use Rattle.std.proofs.lemmas.List.Elements.{All-contains}
use Rattle.emc_base.specs.Domain.{IsWithin}
use Rattle.emc_base.specs.declared.value.EnumKind.{EnumKind}
use Rattle.emc_base.specs.declared.value.Kind.TheVariants as kind
use Rattle.emc_base.specs.declared.value.Value.TheVariants as value
use Rattle.emc_base.proofs.Lists.{all_from_members, item_at}
use Rattle.emc_base.proofs.Mapped.{contains_at}
use Rattle.round_trip.specs.Words.{TableId, ColId, Value, Kind, Prop, Table, Column, Fragment, LinkFragment, Pair, Cond, Schema, At, InDomain}
use Rattle.round_trip.specs.soundness.mappings.Conditions.{ComparesInDomain, kind_of}
use Rattle.round_trip.specs.soundness.mappings.Fragments.{WritesToFitting}
use Rattle.round_trip.specs.soundness.Kinds.{Corresponds, IsNoSmaller, IsSoundEnum, IsSoundKind, under_kind}
use Rattle.round_trip.specs.soundness.Lookups.{column_kind, prop_kind}
use Rattle.round_trip.specs.soundness.mappings.Mappings.{HasPairIds, IsSoundSchema}
use Rattle.round_trip.proofs.Lookups.{assoc_of}
use Rattle.schema_laws.specs.state_demand.WellWritten.{HoldsCells, HoldsConstant, HoldsPair, HoldsValues}
use Rattle.schema_laws.proofs.sound_demand.Fitting.{columns_are, link_ids, sound_fragment, sound_link}

-- what is within a bound is within one that is no smaller
within_wider : (bound wide : Option ℕ) (count : ℕ) → IsNoSmaller bound wide → IsWithin bound count → IsWithin wide count
within_wider bound None count wider within = tt
within_wider None (Some most) count wider within = absurd wider
within_wider (Some least) (Some most) count wider within = omega arith

text_held : (bound wide : Option ℕ) → IsNoSmaller bound wide → (v : Value) → InDomain v (kind.Text bound) → InDomain v (kind.Text wide)
text_held bound wide wider value.Null domain = domain
text_held bound wide wider (value.Whole number) domain = domain
text_held bound wide wider (value.Flag flag) domain = domain
text_held bound wide wider (value.Text text) domain =
    record { characters = domain.characters; scalar = domain.scalar; spelled = domain.spelled; within = within_wider bound wide _ wider domain.within }
text_held bound wide wider (value.Bytes bytes) domain = domain

bytes_held : (bound wide : Option ℕ) → IsNoSmaller bound wide → (v : Value) → InDomain v (kind.Binary bound) → InDomain v (kind.Binary wide)
bytes_held bound wide wider value.Null domain = domain
bytes_held bound wide wider (value.Whole number) domain = domain
bytes_held bound wide wider (value.Flag flag) domain = domain
bytes_held bound wide wider (value.Text text) domain = domain
bytes_held bound wide wider (value.Bytes bytes) domain = record { small = domain.small; within = within_wider bound wide _ wider domain.within }

-- an enumeration's numbers are of the kind below it
member_held : (enumeration : EnumKind) → IsSoundEnum enumeration → (v : Value) → InDomain v (kind.Enum enumeration) → InDomain v (under_kind enumeration.under)
member_held enumeration sound value.Null domain = absurd domain
member_held enumeration sound (value.Whole number) domain =
    All-contains (λ one. InDomain (value.Whole one) (under_kind enumeration.under)) enumeration.members number sound.within domain
member_held enumeration sound (value.Flag flag) domain = absurd domain
member_held enumeration sound (value.Text text) domain = absurd domain
member_held enumeration sound (value.Bytes bytes) domain = absurd domain

-- a column of a kind that corresponds holds each value of the property's
pub held_by : (property column : Kind) → IsSoundKind property → Corresponds property column → (v : Value) → InDomain v property → InDomain v column
held_by (kind.Text bound) (kind.Text wide) sound corresponds v domain = text_held bound wide corresponds v domain
held_by (kind.Text bound) _ sound corresponds v domain = cc
held_by (kind.Binary bound) (kind.Binary wide) sound corresponds v domain = bytes_held bound wide corresponds v domain
held_by (kind.Binary bound) _ sound corresponds v domain = cc
held_by (kind.Enum enumeration) column sound corresponds v domain = subst (InDomain v) (sym corresponds) (member_held enumeration sound v domain)
held_by kind.Boolean column sound corresponds v domain = subst (InDomain v) corresponds domain
held_by kind.Byte column sound corresponds v domain = subst (InDomain v) corresponds domain
held_by kind.Int16 column sound corresponds v domain = subst (InDomain v) corresponds domain
held_by kind.Int32 column sound corresponds v domain = subst (InDomain v) corresponds domain
held_by kind.Int64 column sound corresponds v domain = subst (InDomain v) corresponds domain

module _ (schema : Schema) (sound : IsSoundSchema schema) where
  module _ (t : TableId) (table : Table) (here : At schema.store.tables t.index table) where
    kind_at : (col : ColId) (column : Column) → At table.cols col.index column → column_kind schema.store t col ≡ Some column.kind
    kind_at col column at =
        ap (λ cols. option_map (λ (one : Column). one.kind) (slice_get cols col.index)) (columns_are schema.store t table here) ∙ ap (option_map (λ (one : Column). one.kind)) at

    pair_held : (pair : Pair) → HasPairIds schema t pair → WritesToFitting schema t pair → HoldsPair schema.model table pair
    pair_held pair ids fitting column at =
        let found = item_at schema.model.props pair.prop.index ids.0 in
        let declared : Prop = found.0 in
        let is_kind : prop_kind schema.model pair.prop ≡ Some declared.kind = ap (option_map (λ (one : Prop). one.kind)) found.1 in
        let is_sound : IsSoundKind declared.kind = All-contains (λ (one : Prop). IsSoundKind one.kind) schema.model.props declared sound.model.kinds
        (contains_at schema.model.props pair.prop.index declared found.1) in
        (declared, found.1, held_by declared.kind column.kind is_sound (fitting declared.kind column.kind is_kind (kind_at pair.col column at)))

    constant_held : (cond : Cond) → ComparesInDomain schema t cond → HoldsConstant table cond
    constant_held cond compares col constant column is_on is_equals at =
        (compares constant is_equals column.kind (ap (kind_of schema t) is_on ∙ kind_at col column at)).0

    cells_held : (pairs : List Pair) (conds : List Cond) → All (HasPairIds schema t) pairs → All (WritesToFitting schema t) pairs → All (ComparesInDomain schema t) conds
        → HoldsCells schema.model table pairs conds
    cells_held pairs conds ids fitting compares = record {
      written = all_from_members (HoldsPair schema.model table) pairs (λ pair has.
          pair_held pair (All-contains (HasPairIds schema t) pairs pair ids has) (All-contains (WritesToFitting schema t) pairs pair fitting has));
      asked = all_from_members (HoldsConstant table) conds (λ cond has. constant_held cond (All-contains (ComparesInDomain schema t) conds cond compares has));
    }

  pub holds_values : HoldsValues schema
  holds_values = record {
    fragments = all_from_members
        (λ (fragment : Fragment). (table : Table) → At schema.store.tables fragment.table.index table
        → HoldsCells schema.model table fragment.pairs fragment.conds) schema.mapping.fragments
        (λ fragment mapped table here. let is = sound_fragment schema sound fragment mapped in
        cells_held fragment.table table here fragment.pairs fragment.conds is.ids.pairs is.kinds is.constants);
    links = all_from_members (λ (fragment : LinkFragment). (table : Table) → At schema.store.tables fragment.table.index table
        → HoldsCells schema.model table (fragment.first ++ fragment.second) fragment.conds) schema.mapping.links
        (λ fragment mapped table here.
        let assoc = assoc_of schema sound fragment mapped in
        let is = sound_link schema sound fragment mapped assoc.0 assoc.1 in
        cells_held fragment.table table here (fragment.first ++ fragment.second) fragment.conds (link_ids schema sound fragment mapped).pairs is.kinds is.constants);
  }
