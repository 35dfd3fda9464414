-- Names of sets and associations in the model that a document means. V6.
use Rattle.std.proofs.Common.{◌≡◌, ◌≢◌, ℕ, List, ◌++◌, map, get_or, All, AllPairs, Contains, option_map, sym, ap, subst, ◌∙◌, arith}
use Rattle.std.proofs.lemmas.List.Elements.{Contains-get_or}
use Rattle.std.proofs.lemmas.Simd.{map-map}
use Rattle.emc_base.specs.Lists.{At, AreApart}
use Rattle.emc_base.proofs.Lists.{all_from_members, at_once, same_place}
use Rattle.emc_base.proofs.Mapped.{contains_at, contains_map}
use Rattle.emc_base.proofs.Members.{in_map}
use Rattle.graphs.proofs.base_chains.orders.Orders.{place_of_member}
use Rattle.round_trip.specs.Words.{Assoc, EntitySet, EntityType}
use Rattle.round_trip.specs.soundness.models.ModelNames.{HasDistinctNames, IsOneAssociation}
use Rattle.csdl_names.specs.declared.csdl_lists.raw.RawAssociation.{RawAssociation}
use Rattle.csdl_names.specs.declared.csdl_lists.raw.RawAssociationSet.{RawAssociationSet}
use Rattle.csdl_names.specs.declared.csdl_lists.raw.RawEnd.{RawEnd}
use Rattle.csdl_names.specs.declared.csdl_lists.raw.RawModel.{RawModel}
use Rattle.csdl_names.specs.declared.csdl_lists.raw.RawSet.{RawSet}
use Rattle.csdl_meaning.specs.ModelMeaning.{assoc_of, constraint_of, end_of, meaning, set_of}
use Rattle.csdl_meaning.proofs.types.Bases.{raw_at}
use Rattle.emc_base.proofs.Joined.{all_from_places, apart-append, apart-map}
use Rattle.csdl_meaning.proofs.types.Sound.{sound}
use Rattle.csdl_model.specs.csdl_sound.SoundMeaning.{KeepsRules}
use Rattle.emc_base.proofs.FoundItems.{pairs_found}
use Rattle.csdl_meaning.proofs.kept.Given.{association_sets_apart, associations_apart, roles_apart, set_is_other, sets_apart, type_is_other}
use Rattle.csdl_model.proofs.csdl_sound.associations.MeantAssocs.{IsMeantBy, first_at, meant_by, second_at, set_name_is}
use Rattle.csdl_model.proofs.csdl_sound.types.MeantTypes.{meant}

module _ (raw : RawModel) (keeps : KeepsRules raw) where
  -- associations of one name are one
  one_association : (assoc other : Assoc) (by : IsMeantBy raw assoc) (via : IsMeantBy raw other) → assoc.assoc_name ≡ other.assoc_name → IsOneAssociation assoc other
  one_association assoc other by via same = record {
    first = record {
      role = ap (λ (assoc : Assoc). assoc.first.role) by.is ∙ ap (λ (end : RawEnd). end.role) first ∙ sym (ap (λ (assoc : Assoc). assoc.first.role) via.is);
      type = ap (λ (assoc : Assoc). assoc.first.ty) by.is ∙ ap (λ (end : RawEnd). (end_of raw by.set end).ty) first ∙ sym (ap (λ (assoc : Assoc). assoc.first.ty) via.is);
      mult = ap (λ (assoc : Assoc). assoc.first.mult) by.is ∙ ap (λ (end : RawEnd). (end_of raw by.set end).mult) first ∙ sym (ap (λ (assoc : Assoc). assoc.first.mult) via.is);
    };
    second = record {
      role = ap (λ (assoc : Assoc). assoc.second.role) by.is ∙ ap (λ (end : RawEnd). end.role) second ∙ sym (ap (λ (assoc : Assoc). assoc.second.role) via.is);
      type = ap (λ (assoc : Assoc). assoc.second.ty) by.is ∙ ap (λ (end : RawEnd). (end_of raw by.set end).ty) second ∙ sym (ap (λ (assoc : Assoc). assoc.second.ty) via.is);
      mult = ap (λ (assoc : Assoc). assoc.second.mult) by.is ∙ ap (λ (end : RawEnd). (end_of raw by.set end).mult) second ∙ sym (ap (λ (assoc : Assoc). assoc.second.mult) via.is);
    };
    constraint = ap (λ (assoc : Assoc). assoc.constraint) by.is ∙ (λ k. option_map (constraint_of raw (one k) (first k)) (one k).constraint) ∙ sym (ap (λ (assoc : Assoc). assoc.constraint) via.is);
  }
    where
      names : by.association.name ≡ via.association.name
      names = sym (ap (λ (assoc : Assoc). assoc.assoc_name) by.is) ∙ same ∙ ap (λ (assoc : Assoc). assoc.assoc_name) via.is

      one : by.association ≡ via.association
      one =
          let number = same_place (λ (association : RawAssociation). association.name) raw.associations by.number via.number by.association via.association
          (associations_apart raw keeps.types.repeats_none) by.is_association via.is_association names in
          let P : ℕ → Type 0 = λ n. At raw.associations n by.association in
          at_once raw.associations via.number by.association via.association (subst P number by.is_association) via.is_association

      first : by.first ≡ via.first
      first = let P : RawAssociation → Type 0 = λ association. At association.ends 0 by.first in
          at_once via.association.ends 0 by.first via.first (subst P one (first_at raw assoc by)) (first_at raw other via)

      second : by.second ≡ via.second
      second = let P : RawAssociation → Type 0 = λ association. At association.ends 1 by.second in
          at_once via.association.ends 1 by.second via.second (subst P one (second_at raw assoc by)) (second_at raw other via)

  -- no type has the name of an association
  types_differ : All (λ type. All (λ assoc. type.name ≢ assoc.assoc_name) (meaning raw).assocs) (meaning raw).types
  types_differ = all_from_places (λ (type : EntityType). All (λ (assoc : Assoc). type.name ≢ assoc.assoc_name) (meaning raw).assocs) (meaning raw).types (λ i type here.
      all_from_members (λ (assoc : Assoc). type.name ≢ assoc.assoc_name) (meaning raw).assocs (λ assoc has same.
      let from = raw_at raw (meaning raw) (meant raw) i type here in
      let by = meant_by raw assoc has in
      let P : List ℕ → Type 0 = λ name. Contains (map (λ association. association.name) raw.associations) name in
      type_is_other raw keeps.types.repeats_none i from.0 from.1
      (subst P (sym (sym (ap (λ (type : EntityType). type.name) from.2) ∙ same ∙ ap (λ (assoc : Assoc). assoc.assoc_name) by.is))
      (contains_map (λ (association : RawAssociation). association.name) raw.associations by.association (contains_at raw.associations by.number by.association by.is_association)))))

  -- sets and association sets have different names
  sets_differ : AreApart (map (λ set. set.name) (meaning raw).sets ++ map (λ assoc. assoc.set_name) (meaning raw).assocs)
  sets_differ = apart-append (λ one other. one ≢ other) (map (λ set. set.name) (meaning raw).sets) (map (λ assoc. assoc.set_name) (meaning raw).assocs)
      (let P : List (List ℕ) → Type 0 = λ names. AreApart names in
      subst P (sym (map-map (λ (set : EntitySet). set.name) (set_of raw) raw.container.sets)) (apart-map (λ (set : RawSet). set.name) raw.container.sets (sets_apart raw keeps.types.repeats_none)))
      (apart-map (λ (assoc : Assoc). assoc.set_name) (meaning raw).assocs
      (pairs_found (assoc_of raw) (λ one other. one.name ≢ other.name) (λ one other. one.set_name ≢ other.set_name) (λ one other meant_one meant_other is_one is_other differ same.
      differ (sym (set_name_is raw one meant_one is_one) ∙ same ∙ set_name_is raw other meant_other is_other)) raw.container.association_sets (association_sets_apart raw keeps.types.repeats_none)))
      (all_from_members (λ name. All (λ other. name ≢ other) (map (λ assoc. assoc.set_name) (meaning raw).assocs)) (map (λ set. set.name) (meaning raw).sets) (λ name has.
      all_from_members (λ other. name ≢ other) (map (λ assoc. assoc.set_name) (meaning raw).assocs) (λ other has_other same.
      let set = in_map (λ (set : EntitySet). set.name) (meaning raw).sets name has in
      let from = in_map (set_of raw) raw.container.sets set.0 set.1 in
      let assoc = in_map (λ (assoc : Assoc). assoc.set_name) (meaning raw).assocs other has_other in
      let by = meant_by raw assoc.0 assoc.1 in
      let P : List ℕ → Type 0 = λ name. Contains (map (λ set. set.name) raw.container.association_sets) name in
      set_is_other raw keeps.types.repeats_none from.1.0 from.0 (place_of_member raw.container.sets from.0 from.1)
      (subst P (sym (ap (λ (set : EntitySet). set.name) from.2 ∙ set.2 ∙ same ∙ sym assoc.2 ∙ ap (λ (assoc : Assoc). assoc.set_name) by.is))
      (contains_map (λ (set : RawAssociationSet). set.name) raw.container.association_sets by.set (contains_at raw.container.association_sets by.place by.set by.here))))))

  -- the two roles of an association differ
  roles_differ : All (λ assoc. assoc.first.role ≢ assoc.second.role) (meaning raw).assocs
  roles_differ = all_from_members (λ (assoc : Assoc). assoc.first.role ≢ assoc.second.role) (meaning raw).assocs (λ assoc has same.
      let by = meant_by raw assoc has in
      let P : List RawEnd → Type 0 = λ ends. AllPairs (λ one other. one.role ≢ other.role) ends in
      subst P by.two (roles_apart raw keeps.types.repeats_none by.number by.association by.is_association) 0 1 by.first (omega arith) (omega arith)
      (sym (ap (λ (assoc : Assoc). assoc.first.role) by.is) ∙ same ∙ ap (λ (assoc : Assoc). assoc.second.role) by.is))

  -- V6, V11
  pub distinct_names : HasDistinctNames (meaning raw)
  distinct_names = let types = sound raw (meaning raw) keeps.types (meant raw) in record {
    types = types.names;
    assocs = λ i j d before within same. one_association (get_or (meaning raw).assocs i d) (get_or (meaning raw).assocs j d)
        (meant_by raw (get_or (meaning raw).assocs i d) (Contains-get_or (meaning raw).assocs i d (omega arith)))
        (meant_by raw (get_or (meaning raw).assocs j d) (Contains-get_or (meaning raw).assocs j d within)) same;
    both = types_differ;
    sets = sets_differ;
    roles = roles_differ;
    members = types.members;
  }
