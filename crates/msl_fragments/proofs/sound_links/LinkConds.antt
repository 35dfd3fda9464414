-- The conditions of a mapping of an association set. V33 to V35 and V38.
use Rattle.std.proofs.Common.{◌≡◌, inl, inr, ℕ, List, [], ◌∷◌, All, Contains, Option, Some, None, codes, refl, sym, ap, subst, ◌∙◌}
use Rattle.std.specs.Option.{MatchOption}
use Rattle.emc_base.specs.Lists.{At}
use Rattle.emc_base.proofs.Lists.{all_from_members}
use Rattle.graphs.proofs.base_chains.orders.Orders.{place_of_member}
use Rattle.edm_types.specs.declared.mapping.CondOn.TheVariants as on
use Rattle.json_form.specs.declared.pointer.Step.TheVariants.{Member}
use Rattle.layouts.specs.declared.rule.Rule.TheVariants as rule
use Rattle.round_trip.specs.Words.{ColId, Cond, CondOn, EntityModel, PropId, Schema, StoreModel}
use Rattle.round_trip.specs.soundness.mappings.Conditions.{AskOfNoKeyColumn, AskOfNoProp, ComparesInDomain}
use Rattle.round_trip.specs.soundness.mappings.Joined.{ComparesNoBarred}
use Rattle.round_trip.specs.soundness.mappings.Mappings.{IsCondId}
use Rattle.schema_names.specs.SchemaNames.{column_named}
use Rattle.layouts.proofs.rule_places.FaultPlaces.{fault_at}
use Rattle.emc_base.proofs.FoundItems.{member_of, map_some}
use Rattle.emc_base.proofs.Joined.{in_found}
use Rattle.msl_rules.specs.declared.msl_lists.raw.RawCond.{RawCond}
use Rattle.msl_rules.specs.declared.msl_lists.raw.RawMapping.{RawMapping}
use Rattle.msl_rules.specs.Found.{col_numbered, cond_in, conds_in, named_on, on_in, table_numbered}
use Rattle.msl_rules.specs.FragmentRules.{IsOfKey}
use Rattle.msl_rules.specs.KeepsMapping.{KeepsMappingRules}
use Rattle.msl_rules.specs.MappingMeaning.{schema_in}
use Rattle.msl_fragments.proofs.sound_links.FoundConds.{compares_in_domain, cond_parts}
use Rattle.msl_fragments.proofs.sound_links.FoundPairs.{column_inside}
use Rattle.msl_fragments.proofs.sound_links.KeptLinks.{none_of_cond}
use Rattle.msl_fragments.proofs.sound_links.MeantLinks.{IsMeantLink}

-- a condition without properties is on a column that its name finds
record IsOnColumn (model : EntityModel) (store : StoreModel) (t : ℕ) (what : CondOn) : Type 0 where
  name : List ℕ
  col : ColId
  is_col : column_named store t name ≡ Some col.index
  is_what : on.Col col ≡ what

on_column : (model : EntityModel) (store : StoreModel) (t : ℕ) (prop col : Option (List ℕ)) (what : CondOn) → named_on model store (λ name. None) t prop col ≡ Some what
    → IsOnColumn model store t what
on_column model store t None (Some name) what is =
    let found = map_some (λ (c : ℕ). on.Col (col_numbered c)) (column_named store t name) what is in
    record { name = name; col = col_numbered found.0; is_col = found.1; is_what = found.2 }
on_column model store t (Some name) None what is = absurd cc
on_column model store t (Some name) (Some other) what is = absurd cc
on_column model store t None None what is = absurd cc

module _ (model : EntityModel) (store : StoreModel) (raw : RawMapping) (keeps : KeepsMappingRules model store raw) (it : IsMeantLink model store raw) where
  abbrev schema : Schema
  schema = schema_in model store raw

  -- no property has a name
  abbrev nothing : List ℕ → Option PropId
  nothing name = None

  -- the conditions of the mapping, as they are meant
  abbrev conds : List Cond
  conds = conds_in model store nothing it.table it.link.conds

  -- where one comes from
  record IsFrom (cond : Cond) : Type 0 where
    from : RawCond
    place : ℕ
    here : At it.link.conds place from
    is : cond_in model store nothing it.table from ≡ Some cond
    is_on : on_in model store nothing it.table from ≡ Some cond.on

  come_from : (cond : Cond) → Contains conds cond → IsFrom cond
  come_from cond has =
      let found = in_found (cond_in model store nothing it.table) it.link.conds cond has in
      record {
        from = found.0;
        place = found.1.0;
        here = place_of_member it.link.conds found.0 found.1;
        is = found.2;
        is_on = (cond_parts schema nothing it.table found.0 cond found.2).0;
      }

  -- it is on a column
  on_col : (cond : Cond) → IsFrom cond → IsOnColumn model store it.table cond.on
  on_col cond f = on_column model store it.table f.from.prop f.from.col cond.on f.is_on

  -- their ids are in range
  pub cond_ids : All (λ cond. IsCondId schema (table_numbered it.table) cond.on) conds
  cond_ids = all_from_members (λ cond. IsCondId schema (table_numbered it.table) cond.on) conds (λ cond has.
      let o = on_col cond (come_from cond has) in
      subst (IsCondId schema (table_numbered it.table)) o.is_what (column_inside store it.table o.name o.col.index o.is_col))

  -- V33
  pub no_prop : AskOfNoProp conds
  no_prop prop asked =
      let found = member_of (λ cond. cond.on ≡ on.Prop prop) conds asked in
      let o = on_col found.0 (come_from found.0 found.1) in
      let same : on.Col o.col ≡ on.Prop prop = o.is_what ∙ found.2 in
      absurd cc

  -- V34
  pub constants : All (ComparesInDomain schema (table_numbered it.table)) conds
  constants = all_from_members (ComparesInDomain schema (table_numbered it.table)) conds (λ cond has.
      let f = come_from cond has in
      compares_in_domain schema nothing it.table f.from cond f.is (λ bad.
      none_of_cond model store raw keeps it f.place f.from f.here (fault_at rule.ConditionValue (Member (codes "Value") ∷ [])) (inr (inl (bad, (refl, refl))))))

  -- V35
  pub no_key_column : AskOfNoKeyColumn store (table_numbered it.table) conds
  no_key_column col asked key =
      let found = member_of (λ cond. cond.on ≡ on.Col col) conds asked in
      let f = come_from found.0 found.1 in
      let P : Option CondOn → Type 0 = λ what. MatchOption what ⊥ (IsOfKey schema nothing it.table []) in
      none_of_cond model store raw keeps it f.place f.from f.here (fault_at rule.KeyCondition [])
      (inr (inr (inl (subst P (sym (f.is_on ∙ ap Some found.2)) key, (refl, refl)))))

  -- V38
  pub barred : All (ComparesNoBarred schema (table_numbered it.table)) conds
  barred = all_from_members (ComparesNoBarred schema (table_numbered it.table)) conds (λ cond has constant equals foreign.
      let f = come_from cond has in
      let P : Option Cond → Type 0 = λ meant. MatchOption meant ⊥ (λ cond. ¬ ComparesNoBarred schema (table_numbered it.table) cond) in
      none_of_cond model store raw keeps it f.place f.from f.here (fault_at rule.ForeignValue [])
      (inr (inr (inr (subst P (sym f.is) (λ fine. fine constant equals foreign), (refl, refl))))))
