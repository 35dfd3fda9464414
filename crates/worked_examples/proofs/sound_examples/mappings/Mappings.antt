-- Sound mappings, fragment by fragment.
use Rattle.std.proofs.Common.{◌≡◌, inl, inr, List, ◌&&◌, ◌||◌, length, sym, subst, ap, refl, ◌∙◌}
use Rattle.std.specs.Prelude.{Bool, true, false, Some, MatchOption, option_map, All, Contains}
use Rattle.std.specs.List.{AllByRecursion, list_all}
use Rattle.std.proofs.Math.Dec.{ltb}
use Rattle.std.proofs.lemmas.Bool.{ltb-true, and_parts}
use Rattle.std.proofs.lemmas.Option.{MatchOption-at_some}
use Rattle.std.proofs.lemmas.List.Elements.{All-contains}
use Rattle.round_trip.specs.Words.{SetId, PropId, TableId, ColId, Value, Kind, Prop, Assoc, Fragment, Pair, LinkFragment, Cond, CondOn, Schema, At, key_columns, InDomain}
use Rattle.round_trip.specs.FailsAt.{IsHostedAt}
use Rattle.edm_types.specs.declared.mapping.Test.TheVariants.{Equals}
use Rattle.worked_examples.proofs.facts.Small.{each_of}
use Rattle.round_trip.specs.soundness.Kinds.{IsBinary, IsEnum, Corresponds}
use Rattle.round_trip.specs.soundness.Lookups.{columns_of, prop_kind, column_kind}
use Rattle.round_trip.specs.soundness.mappings.Fragments.{WritesToFitting}
use Rattle.round_trip.specs.soundness.mappings.Conditions.{AskOf, kind_of, ComparesInDomain}
use Rattle.round_trip.specs.soundness.mappings.Joined.{WritesNoBarredEnum}
use Rattle.round_trip.specs.soundness.mappings.Mappings.{HasPairIds}
use Rattle.round_trip.specs.soundness.mappings.Owners.{Owner, set, assoc, IsJoined, LinkMaps, Owns, PairsKeysAlike, IsOwner, HasOneOwner}
use Rattle.worked_examples.proofs.sound_examples.Names.{same_prop, same_col, props_decide, cols_decide}
use Rattle.worked_examples.proofs.sound_examples.Tests.{each_passes, is_new, not_in}

-- what holds of the condition that is on something
pub asked : (P : CondOn → Type 0) (conds : List Cond) (what : CondOn) → All (λ cond. P cond.on) conds → AskOf conds what → P what
asked P conds what each some = subst P some.4 (All-contains (λ (cond : Cond). P cond.on) conds some.1 each (some.0, some.2, some.3))

module _ (schema : Schema) (table : TableId) where
  -- the property and the column of the pair are in range
  abbrev pub is_pair : Pair → Bool
  is_pair pair = ltb pair.prop.index (length schema.model.props) && ltb pair.col.index (length (columns_of schema.store table))

  pub pair_told : (pair : Pair) → is_pair pair ≡ true → HasPairIds schema table pair
  pair_told pair test =
      let parts = and_parts (ltb pair.prop.index (length schema.model.props)) (ltb pair.col.index (length (columns_of schema.store table))) test in
      (ltb-true pair.prop.index (length schema.model.props) parts.0, ltb-true pair.col.index (length (columns_of schema.store table)) parts.1)

  -- the pair writes a property that is no enumeration to a column that holds it
  abbrev pub IsHeld : Pair → Type 0
  IsHeld pair = MatchOption (prop_kind schema.model pair.prop) ⊥ (λ property. ¬ IsEnum property
      × MatchOption (column_kind schema.store table pair.col) ⊥ (λ column. Corresponds property column))

  pub held_fits : (pair : Pair) → IsHeld pair → WritesToFitting schema table pair
  held_fits pair held property column is_property is_column =
      let one : ¬ IsEnum property × MatchOption (column_kind schema.store table pair.col) ⊥ (λ other. Corresponds property other)
      = MatchOption-at_some ⊥ (λ kind. ¬ IsEnum kind × MatchOption (column_kind schema.store table pair.col) ⊥ (λ other. Corresponds kind other)) property is_property held in
      MatchOption-at_some ⊥ (λ other. Corresponds property other) column is_column one.1

  pub held_no_enum : (pair : Pair) → IsHeld pair → WritesNoBarredEnum schema pair
  held_no_enum pair held declared at enum =
      let one : ¬ IsEnum declared.kind × MatchOption (column_kind schema.store table pair.col) ⊥ (λ column. Corresponds declared.kind column)
      = MatchOption-at_some ⊥ (λ kind. ¬ IsEnum kind × MatchOption (column_kind schema.store table pair.col) ⊥ (λ column. Corresponds kind column)) declared.kind
      (ap (option_map (λ (prop : Prop). prop.kind)) at) held in
      absurd (one.0 enum)

pub compares_in_domain : (schema : Schema) (table : TableId) (what : CondOn) (constant : Value) (kind : Kind) → kind_of schema table what ≡ Some kind
    → InDomain constant kind → ¬ IsBinary kind → ComparesInDomain schema table (record { on = what; test = Equals constant })
compares_in_domain schema table what constant kind is lies simple other test k is_k =
    let one : kind ≡ k = cc (is, is_k) in
    let same : constant ≡ other = cc (test) in
    let P : Kind → Type 0 = λ m. InDomain other m × ¬ IsBinary m in
    subst P one (subst (λ v. InDomain v kind × ¬ IsBinary kind) same (lies, simple))

module _ (schema : Schema) (prop_of : TableId → ColId → PropId) (owner_of : TableId → Owner) where
  -- the pair writes the primary key as is told: a test, and what it tells
  abbrev agrees : TableId → Pair → Bool
  agrees table pair = is_new same_col pair.col (key_columns schema.store table) || same_prop pair.prop (prop_of table pair.col)

  told_prop : (table : TableId) (pair : Pair) → agrees table pair ≡ true → Contains (key_columns schema.store table) pair.col → pair.prop ≡ prop_of table pair.col
  told_prop table pair test in_key = by (is_new same_col pair.col (key_columns schema.store table)) refl
    where
      by : (new : Bool) → is_new same_col pair.col (key_columns schema.store table) ≡ new → pair.prop ≡ prop_of table pair.col
      by true is = absurd (not_in same_col cols_decide pair.col (key_columns schema.store table) is in_key)
      by false is = (props_decide pair.prop (prop_of table pair.col)).0 (subst (λ new. (new || same_prop pair.prop (prop_of table pair.col)) ≡ true) is test)

  -- these pairs do, and the set owns the table as is told
  abbrev pub IsTold : TableId → SetId → List Pair → Type 0
  IsTold table s pairs = (list_all (agrees table) pairs ≡ true) × (set s ≡ owner_of table)

  abbrev Agrees : TableId → Pair → Type 0
  Agrees table pair = Contains (key_columns schema.store table) pair.col → pair.prop ≡ prop_of table pair.col

  told_props : (table : TableId) (s : SetId) (pairs : List Pair) → IsTold table s pairs → AllByRecursion (Agrees table) pairs
  told_props table s pairs told = each_passes (Agrees table) (agrees table) (told_prop table) pairs told.0

  -- an association is hosted where it is told
  pub record LinkIsTold (fragment : LinkFragment) (mapped : Assoc) : Type 0 where
    pub first : IsHostedAt schema fragment.table fragment.first → IsTold fragment.table mapped.first.set fragment.first
    pub second : IsHostedAt schema fragment.table fragment.second → IsTold fragment.table mapped.second.set fragment.second
    pub joined : IsJoined schema fragment mapped → assoc fragment.assoc ≡ owner_of fragment.table

  -- each table has the owner and the pairing that are told
  pub record OwnersAreTold : Type 0 where
    pub sets : All (λ fragment. IsTold fragment.table fragment.set fragment.pairs) schema.mapping.fragments
    pub links : All (λ fragment. (mapped : Assoc) → At schema.model.assocs fragment.assoc.index mapped → LinkIsTold fragment mapped) schema.mapping.links

  module _ (told : OwnersAreTold) where
    link_told : (table : TableId) (fragment : LinkFragment) (mapped : Assoc) → LinkMaps schema table fragment mapped → LinkIsTold fragment mapped
    link_told table fragment mapped maps =
        All-contains (λ f. (other : Assoc) → At schema.model.assocs f.assoc.index other → LinkIsTold f other) schema.mapping.links fragment told.links maps.is_fragment mapped maps.is_assoc

    -- what is told of the same table, set and pairs
    told_of : (table other : TableId) (s r : SetId) (pairs others : List Pair) → table ≡ other → s ≡ r → others ≡ pairs → IsTold table s pairs → IsTold other r others
    told_of table other s r pairs others to_table of_set pairs_are is =
        subst (λ ps. IsTold other r ps) (sym pairs_are) (subst (λ q. IsTold other q pairs) of_set (subst (λ t. IsTold t s pairs) to_table is))

    owns_told : (table : TableId) (s : SetId) (pairs : List Pair) → Owns schema table s pairs → IsTold table s pairs
    owns_told table s pairs (inl by) = told_of by.fragment.table table by.fragment.set s by.fragment.pairs pairs by.to_table by.of_set by.pairs_are
        (All-contains (λ (f : Fragment). IsTold f.table f.set f.pairs) schema.mapping.fragments by.fragment told.sets by.is_fragment)
    owns_told table s pairs (inr (fragment, mapped, maps, inl (hosted, of_set, pairs_are))) =
        told_of fragment.table table mapped.first.set s fragment.first pairs maps.to_table of_set pairs_are
        ((link_told table fragment mapped maps).first (subst (λ t. IsHostedAt schema t fragment.first) (sym maps.to_table) hosted))
    owns_told table s pairs (inr (fragment, mapped, maps, inr (hosted, of_set, pairs_are))) =
        told_of fragment.table table mapped.second.set s fragment.second pairs maps.to_table of_set pairs_are
        ((link_told table fragment mapped maps).second (subst (λ t. IsHostedAt schema t fragment.second) (sym maps.to_table) hosted))

    pub pairings : PairsKeysAlike schema
    pairings table s pairs others owns owns_too one other among among_too same_col in_key =
        let first : one.prop ≡ prop_of table one.col = each_of (Agrees table) pairs one (told_props table s pairs (owns_told table s pairs owns)) among in_key in
        let second : other.prop ≡ prop_of table other.col
        = each_of (Agrees table) others other (told_props table s others (owns_told table s others owns_too)) among_too (subst (Contains (key_columns schema.store table)) same_col in_key) in
        first ∙ ap (prop_of table) same_col ∙ sym second

    owner_told : (table : TableId) (owner : Owner) → IsOwner schema table owner → owner ≡ owner_of table
    owner_told table (set s) owns = (owns_told table s owns.0 owns.1).1
    owner_told table (assoc a) (fragment, mapped, maps, joined, is) =
        let one : assoc fragment.assoc ≡ owner_of fragment.table = (link_told table fragment mapped maps).joined joined in
        sym (ap assoc is) ∙ one ∙ ap owner_of maps.to_table

    pub one_owner : HasOneOwner schema
    one_owner table one other owns owns_too = owner_told table one owns ∙ sym (owner_told table other owns_too)
