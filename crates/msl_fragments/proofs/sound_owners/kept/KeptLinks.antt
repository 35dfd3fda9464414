-- What V30 and V39 give of an end of an association's mapping, where they are kept: no column is written twice, and what is written is of the
-- key of the end's type.
use Rattle.std.proofs.Common.{◌≡◌, inl, inr, ℕ, List, [], ◌∷◌, map, codes, find, Contains, Option, Some, None, refl, ap, ◌∙◌}
use Rattle.std.specs.Option.{option_map_or}
use Rattle.std.specs.Str.{bytes_eq}
use Rattle.std.proofs.lemmas.List.Elements.{All-contains}
use Rattle.emc_base.specs.Lists.{At}
use Rattle.emc_base.proofs.Mapped.{contains_map}
use Rattle.emc_base.proofs.Members.{contains_nil}
use Rattle.json_form.specs.declared.pointer.Step.{Step}
use Rattle.json_form.specs.declared.pointer.Step.TheVariants.{Item, Member}
use Rattle.layouts.specs.declared.fault.Fault.{Fault}
use Rattle.layouts.specs.declared.rule.Rule.TheVariants.{WritesKey, WrittenOnce}
use Rattle.layouts.specs.rule_places.Places.{IsAt}
use Rattle.round_trip.specs.Words.{Assoc, End, EntityModel, LinkFragment, Pair, PropId, Schema, StoreModel, key_props}
use Rattle.schema_names.specs.SchemaNames.{association_set_named, prop_named, table_named}
use Rattle.layouts.proofs.rule_places.FaultPlaces.{fault_at, in_list}
use Rattle.groupings.proofs.name_places.Finds.{found_named}
use Rattle.emc_base.proofs.Stable.{stable}
use Rattle.emc_base.proofs.facts.Found.{where_found}
use Rattle.msl_rules.specs.declared.msl_lists.raw.RawEndMapping.{RawEndMapping}
use Rattle.msl_rules.specs.declared.msl_lists.raw.RawMapping.{RawMapping}
use Rattle.msl_rules.specs.Found.{end_pairs, pairs_in, role_end}
use Rattle.msl_rules.specs.KeepsMapping.{KeepsMappingRules}
use Rattle.msl_rules.specs.LinkRules.{BreaksEndRules, BreaksLinkRules, BreaksTableRules, IsEndFault, IsLinkFault, IsWrittenAgain, WritesJust}
use Rattle.msl_rules.specs.MappingMeaning.{schema_in}
use Rattle.msl_rules.specs.OwnerRules.{is_among_props}
use Rattle.msl_fragments.proofs.sound_owners.Among.{props_tell}
use Rattle.msl_fragments.proofs.sound_owners.ColumnNames.{TellsByColumn, columns_once}
use Rattle.msl_fragments.proofs.sound_owners.Fragments.{IsLinkOf}

-- pairs write properties of a key, none to the column of another
pub record WritesOnlyKey (key : List PropId) (pairs : List Pair) : Type 0 where
  pub once : TellsByColumn pairs
  pub of_key : (pair : Pair) → Contains pairs pair → Contains key pair.prop

module _ (model : EntityModel) (store : StoreModel) (raw : RawMapping) (keeps : KeepsMappingRules model store raw) (fragment : LinkFragment) (of : IsLinkOf model store raw fragment) where
  -- the association, and the place of the table
  abbrev assoc_there : Assoc
  assoc_there = of.meant.assoc

  abbrev table_there : ℕ
  table_there = of.meant.t

  -- seen from the association's mapping, nothing is broken
  none_of_link : (fault : Fault) → ¬ BreaksTableRules (schema_in model store raw) of.site.link of.meant.a assoc_there table_there fault
  none_of_link fault broken =
      let schema : Schema = schema_in model store raw in
      let link = of.site.link in
      let in_links : List Step = Member (codes "AssociationSetMapping") ∷ Item of.here.i ∷ fault.place in
      keeps.keeps (fault_at fault.rule (Member (codes "EntityContainerMapping") ∷ in_links)) (inr (inr (inr (inr (inr (inl (record {
        rest = in_links;
        reached = refl;
        holds = in_list (IsLinkFault schema) (codes "AssociationSetMapping") raw.links of.here.i link fault.rule fault.place of.here.link
            (inl (where_found (λ a. (assoc : Assoc) × At model.assocs a assoc × BreaksLinkRules schema link a assoc fault) (association_set_named model link.name) of.meant.a of.meant.is_set
            (assoc_there, of.meant.is_assoc, inl (where_found (λ t. BreaksTableRules schema link of.meant.a assoc_there t fault) (table_named store link.table) table_there of.meant.is_table broken))));
      })))))))

  module _ (e : ℕ) (end : RawEndMapping) (here : At of.site.link.ends e end) (known : End) (is : role_end assoc_there end.role ≡ Some known) where
    -- nor from one of its ends
    none_of_end : (fault : Fault) → ¬ BreaksEndRules (schema_in model store raw) of.site.link.ends table_there e end known fault
    none_of_end fault broken =
        let schema : Schema = schema_in model store raw in
        let ends = of.site.link.ends in
        none_of_link (fault_at fault.rule (Member (codes "EndProperty") ∷ Item e ∷ fault.place))
        (inl (in_list (IsEndFault schema ends assoc_there table_there) (codes "EndProperty") ends e end fault.rule fault.place here
        (where_found (λ known. BreaksEndRules schema ends table_there e end known fault) (role_end assoc_there end.role) known is broken)))

    -- what the end writes
    abbrev written : List Pair
    written = pairs_in model store (prop_named model known.ty.index) table_there end.pairs

    -- V39
    end_once : TellsByColumn written
    end_once = columns_once model store (prop_named model known.ty.index) table_there end.pairs (λ k pair at given.
        none_of_end (fault_at WrittenOnce (Member (codes "ScalarProperty") ∷ Item k ∷ [])) (inr (inr
        (in_list (λ k pair inside. IsWrittenAgain of.site.link.ends e end k pair × IsAt WrittenOnce [] inside) (codes "ScalarProperty") end.pairs k pair WrittenOnce []
        at (inl (inr given), (refl, refl))))))

    -- V30
    just_key : ¬ (¬ WritesJust (key_props model known.ty) written)
    just_key unwritten = none_of_end (fault_at WritesKey []) (inr (inl (unwritten, (refl, refl))))

    -- so it writes that key and nothing else
    end_writes : WritesOnlyKey (key_props model known.ty) written
    end_writes = record {
      once = end_once;
      of_key = λ pair has.
          let key : List PropId = key_props model known.ty in
          stable (is_among_props key pair.prop) (props_tell key pair.prop) (λ never. just_key (λ just.
          never (All-contains (Contains key) (map (λ (pair : Pair). pair.prop) written) pair.prop just.only (contains_map (λ (pair : Pair). pair.prop) written pair has))));
    }

  -- the pairs of an end whose role is its own
  pub end_key : (known : End) → role_end assoc_there known.role ≡ Some known → WritesOnlyKey (key_props model known.ty) (end_pairs model store table_there known of.site.link.ends)
  end_key known own = by (find (λ mapping. bytes_eq known.role mapping.role) of.site.link.ends) refl
    where
      by : (found : Option RawEndMapping) → find (λ mapping. bytes_eq known.role mapping.role) of.site.link.ends ≡ found
          → WritesOnlyKey (key_props model known.ty) (option_map_or (λ mapping. pairs_in model store (prop_named model known.ty.index) table_there mapping.pairs) found [])
      by None none = record { once = λ one other has. absurd (contains_nil one has); of_key = λ pair has. absurd (contains_nil pair has) }
      by (Some mapping) is =
          let found = found_named (λ (mapping : RawEndMapping). mapping.role) known.role of.site.link.ends mapping is in
          end_writes found.0 mapping found.1 known (ap (role_end assoc_there) found.2 ∙ own)
