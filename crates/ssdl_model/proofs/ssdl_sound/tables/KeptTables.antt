-- What V13, V22 and V23 give of tables' types, where they are kept. Of V21 nothing is needed: a column without a type is a flag.
use Rattle.std.proofs.Common.{◌≡◌, inl, inr, ℕ, List, [], ◌∷◌, Bool, true, false, Contains, Option, Some, None, codes, refl, sym, subst}
use Rattle.std.specs.Bool.{⊤}
use Rattle.std.specs.Option.{MatchOption}
use Rattle.emc_base.specs.Lists.{At}
use Rattle.graphs.proofs.base_chains.orders.Orders.{place_of_member}
use Rattle.json_form.specs.declared.pointer.Step.TheVariants.{Item, Member}
use Rattle.layouts.specs.declared.fault.Fault.{Fault}
use Rattle.layouts.specs.declared.rule.Rule.TheVariants.{Bound, KeyColumn, TableKey}
use Rattle.layouts.specs.rule_places.Places.{InList}
use Rattle.csdl_names.specs.declared.csdl_lists.raw.RawModel.{RawModel}
use Rattle.csdl_names.specs.declared.csdl_lists.raw.RawProp.{RawProp}
use Rattle.csdl_names.specs.declared.csdl_lists.raw.RawType.{RawType}
use Rattle.csdl_types.specs.Keys.{IsFailingKeyProp, IsKey, IsKeySimple}
use Rattle.csdl_types.specs.PropTypes.{BreaksBound}
use Rattle.layouts.proofs.rule_places.FaultPlaces.{fault_at, in_list}
use Rattle.emc_base.proofs.FoundItems.{some_member}
use Rattle.csdl_meaning.proofs.lists.Stable.{for_keys, some_key}
use Rattle.ssdl_model.specs.ssdl_lists.Columns.{HasColumnLength, column_simple}
use Rattle.ssdl_model.specs.ssdl_rules.StoreRules.{BreaksStoreRules}
use Rattle.ssdl_model.specs.ssdl_rules.TableRules.{BreaksTableKey, IsColumnFault, IsTableFault}

-- the column isn't of a type that a key may have
abbrev FailsKey : RawProp → Type 0
FailsKey column = ¬ IsKeySimple (column_simple column.kind)

module _ (raw : RawModel) (never : (fault : Fault) → ¬ BreaksStoreRules raw fault) (i : ℕ) (type : RawType) (here : At raw.types i type) where
  -- seen from a type, none is broken
  none_of_type : (fault : Fault) → ¬ IsTableFault i type fault
  none_of_type fault broken = never (fault_at fault.rule (Member (codes "EntityType") ∷ Item i ∷ fault.place))
      (inl (in_list IsTableFault (codes "EntityType") raw.types i type fault.rule fault.place here broken))

  -- V13
  pub fits_bound : (column : RawProp) → Contains type.props column → ¬ BreaksBound (HasColumnLength column.kind) column.bound
  fits_bound column has broken = none_of_type (fault_at Bound (Member (codes "Property") ∷ Item has.0 ∷ Member (codes "MaxLength") ∷ []))
      (inl (in_list IsColumnFault (codes "Property") type.props has.0 column Bound (Member (codes "MaxLength") ∷ []) (place_of_member type.props column has) (inl (broken, (refl, refl)))))

  -- V22
  keyed : ¬ MatchOption type.key ⊤ (BreaksTableKey type.props)
  keyed broken = none_of_type (fault_at TableKey (Member (codes "Key") ∷ [])) (inr (inl (broken, (refl, refl))))

  -- the type has a key
  pub has_key : (names : List (List ℕ)) × (type.key ≡ Some names) × IsKey names
  has_key = by type.key refl
    where
      by : (key : Option (List (List ℕ))) → type.key ≡ key → (names : List (List ℕ)) × (type.key ≡ Some names) × IsKey names
      by None is = absurd (keyed (let P : Option (List (List ℕ)) → Type 0 = λ key. MatchOption key ⊤ (BreaksTableKey type.props) in subst P (sym is) tt))
      by (Some names) is = (
        names,
        is,
        some_key names (λ no. keyed (let P : Option (List (List ℕ)) → Type 0 = λ key. MatchOption key ⊤ (BreaksTableKey type.props) in subst P (sym is) (inl no))),
      )

  module _ (names : List (List ℕ)) (is : type.key ≡ Some names) (column : RawProp) (has : Contains type.props column) (named : Contains names column.name) where
    -- no column of it may be null
    pub needed : column.nullable ≡ false
    needed = by column.nullable refl
      where
        by : (nullable : Bool) → column.nullable ≡ nullable → column.nullable ≡ false
        by false not = not
        by true null = absurd (keyed (let P : Option (List (List ℕ)) → Type 0 = λ key. MatchOption key ⊤ (BreaksTableKey type.props) in
            subst P (sym is) (inr (some_member (λ column. Contains names column.name × (column.nullable ≡ true)) type.props column has (named, null)))))

    -- V23
    pub for_key : IsKeySimple (column_simple column.kind)
    for_key = for_keys (column_simple column.kind) (λ no. none_of_type (fault_at KeyColumn (Member (codes "Property") ∷ Item has.0 ∷ []))
        (inr (inr (let P : Option (List (List ℕ)) → Type 0 = λ key. MatchOption key ⊥ (λ names. InKey names) in
        subst P (sym is) (in_list (λ k. IsFailingKeyProp KeyColumn FailsKey names) (codes "Property") type.props has.0 column KeyColumn [] (place_of_member type.props column has) ((named, no), (refl, refl)))))))
      where
        InKey : List (List ℕ) → Type 0
        InKey names = InList (codes "Property") (λ k. IsFailingKeyProp KeyColumn FailsKey names) type.props (fault_at KeyColumn (Member (codes "Property") ∷ Item has.0 ∷ []))
