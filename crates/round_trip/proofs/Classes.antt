-- What is joined has one kind, bounds aside.
use Rattle.std.proofs.Common.{◌≡◌, ◌⊎◌, ⊎_elim, inl, inr, ◌↔◌, Contains, refl, sym, ap, subst, ◌∙◌}
use Rattle.std.specs.Bool.{⊤}
use Rattle.std.proofs.lemmas.List.Elements.{All-contains}
use Rattle.emc_base.proofs.Lists.{at_once, item_at}
use Rattle.emc_base.specs.declared.value.Kind.TheVariants as kind
use Rattle.emc_base.specs.declared.value.Under.{Under}
use Rattle.emc_base.specs.declared.value.Under.TheVariants as under
use Rattle.round_trip.specs.Words.{TableId, Kind, Prop, Column, Fragment, Pair, Schema, At}
use Rattle.round_trip.specs.soundness.Kinds.{Corresponds, IsKeyKind, under_kind, without_bound}
use Rattle.round_trip.specs.soundness.Lookups.{columns_of}
use Rattle.round_trip.specs.soundness.mappings.Fragments.{WritesToFitting}
use Rattle.round_trip.specs.soundness.mappings.Joined.{Joined, Member, prop, col}
use Rattle.round_trip.specs.soundness.mappings.Joined as joined
use Rattle.round_trip.specs.soundness.mappings.Mappings.{HasPairIds, IsSoundFragment, IsSoundSchema}
use Rattle.round_trip.proofs.Lookups.{column_kind_at, prop_kind_at}

-- a kind, bounds aside; an enumeration as the kind below it
unfoldable pub class_of : Kind → Kind
class_of (kind.Enum enumeration) = under_kind enumeration.under
class_of other = without_bound other

under_alone : (u : Under) → without_bound (under_kind u) ≡ under_kind u
under_alone under.Byte = refl
under_alone under.Int16 = refl
under_alone under.Int32 = refl
under_alone under.Int64 = refl

pub same_class : (property column : Kind) → Corresponds property column → class_of property ≡ without_bound column
unfolding class_of
same_class (kind.Text bound) (kind.Text wide) corresponds = refl
same_class (kind.Text bound) _ corresponds = cc
same_class (kind.Binary bound) (kind.Binary wide) corresponds = refl
same_class (kind.Binary bound) _ corresponds = cc
same_class (kind.Enum enumeration) column corresponds = sym (ap without_bound corresponds ∙ under_alone enumeration.under)
same_class kind.Boolean column corresponds = ap without_bound corresponds
same_class kind.Byte column corresponds = ap without_bound corresponds
same_class kind.Int16 column corresponds = ap without_bound corresponds
same_class kind.Int32 column corresponds = ap without_bound corresponds
same_class kind.Int64 column corresponds = ap without_bound corresponds

-- a kind of keys is one without its bound
pub key_unbound : (k : Kind) → IsKeyKind k → IsKeyKind (without_bound k)
key_unbound kind.Boolean key = absurd key
key_unbound kind.Byte key = absurd key
key_unbound kind.Int16 key = key
key_unbound kind.Int32 key = key
key_unbound kind.Int64 key = key
key_unbound (kind.Text bound) key = key
key_unbound (kind.Binary bound) key = absurd key
key_unbound (kind.Enum enumeration) key = absurd key

module _ (schema : Schema) where
  -- the class of a property or a column
  unfoldable pub HasClass : Member → Kind → Type 0
  HasClass (prop p) k = (declared : Prop) × At schema.model.props p.index declared × (class_of declared.kind ≡ k)
  HasClass (col t c) k = (column : Column) × At (columns_of schema.store t) c.index column × (without_bound column.kind ≡ k)

  -- an entity fragment writes it
  unfoldable pub IsPaired : Member → Type 0
  IsPaired (prop p) = (fragment : Fragment) × (pair : Pair) × Contains schema.mapping.fragments fragment × Contains fragment.pairs pair × (pair.prop ≡ p)
  IsPaired (col t c) = ⊤

  -- what is joined is one, or both are written
  pub joined_paired : (one other : Member) → Joined schema one other → (one ≡ other) ⊎ (IsPaired one × IsPaired other)
  unfolding IsPaired
  joined_paired one other (joined.pair fragment pair mapped among free_prop free_col) = inr ((fragment, pair, mapped, among, refl), tt)
  joined_paired one other (joined.same _ free) = inl refl
  joined_paired one other (joined.back _ _ rest) = ⊎_elim (λ same. inl (sym same)) (λ both. inr (both.1, both.0)) (joined_paired other one rest)
  joined_paired one other (joined.chain _ next _ first rest) = ⊎_elim
      (λ (same : one ≡ next). ⊎_elim
      (λ (after : next ≡ other). inl (same ∙ after))
      (λ (both : IsPaired next × IsPaired other). inr (subst IsPaired (sym same) both.0, both.1))
      (joined_paired next other rest))
      (λ (before : IsPaired one × IsPaired next). ⊎_elim
      (λ (after : next ≡ other). inr (before.0, subst IsPaired after before.1))
      (λ (both : IsPaired next × IsPaired other). inr (before.0, both.1))
      (joined_paired next other rest))
      (joined_paired one next first)

  -- a pair's property and column are of one class
  pub pair_class : (t : TableId) (pair : Pair) → HasPairIds schema t pair → WritesToFitting schema t pair
      → (k : Kind) → HasClass (prop pair.prop) k ↔ HasClass (col t pair.col) k
  unfolding HasClass
  pair_class t pair ids fits k =
      let declared = item_at schema.model.props pair.prop.index ids.0 in
      let column = item_at (columns_of schema.store t) pair.col.index ids.1 in
      let same : class_of declared.0.kind ≡ without_bound column.0.kind = same_class declared.0.kind column.0.kind
      (fits declared.0.kind column.0.kind (prop_kind_at schema.model pair.prop declared.0 declared.1) (column_kind_at schema.store t pair.col column.0 column.1)) in (
        λ has. (column.0, column.1, sym same ∙ ap (λ (d : Prop). class_of d.kind) (at_once schema.model.props pair.prop.index declared.0 has.0 declared.1 has.1) ∙ has.2),
        λ has. (
          declared.0,
          declared.1,
          same ∙ ap (λ (c : Column). without_bound c.kind)
              (at_once (columns_of schema.store t) pair.col.index column.0 has.0 column.1 has.1) ∙ has.2,
        ),
      )

  module _ (sound : IsSoundSchema schema) where
    -- and so is all that is joined
    pub joined_class : (one other : Member) → Joined schema one other → (k : Kind) → HasClass one k ↔ HasClass other k
    joined_class one other (joined.pair fragment pair mapped among free_prop free_col) k =
        let is = All-contains (IsSoundFragment schema) schema.mapping.fragments fragment sound.mapping.fragments mapped in
        pair_class fragment.table pair (All-contains (HasPairIds schema fragment.table) fragment.pairs pair is.ids.pairs among)
        (All-contains (WritesToFitting schema fragment.table) fragment.pairs pair is.kinds among) k
    joined_class one other (joined.same _ free) k = (λ has. has, λ has. has)
    joined_class one other (joined.back _ _ rest) k = let both = joined_class other one rest k in (both.1, both.0)
    joined_class one other (joined.chain _ next _ first rest) k =
        let before = joined_class one next first k in let after = joined_class next other rest k in (λ has. after.0 (before.0 has), λ has. before.1 (after.1 has))
