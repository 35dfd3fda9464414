-- A state's tree tells the state, where names are apart.
use Rattle.std.proofs.Common.{◌≡◌, ◌≢◌, ℕ, ◌==◌, List, [], ◌∷◌, ◌++◌, map, filter, zip, length, codes, Bool, true, false, true≢false, if◌then◌else◌, AllPairs, Contains, is_none, refl, sym, ap, ◌∙◌, arith}
use Rattle.std.specs.Prelude.{⊤}
use Rattle.std.specs.List.{enumerate_from}
use Rattle.std.specs.Option.{option_map_or}
use Rattle.std.proofs.lemmas.Bool.Decides.{Decides-eqb}
use Rattle.std.proofs.lemmas.List.{map-append}
use Rattle.std.proofs.lemmas.List.Elements.{All-cons, All-nil, Contains-append_left, Contains-append_right}
use Rattle.std.proofs.lemmas.List.Kept.{AllPairs-cons}
use Rattle.std.proofs.lemmas.Map.Made.{Contains-tail}
use Rattle.std.proofs.lemmas.Simd.{map-map}
use Rattle.std.proofs.lemmas.Slice.Zip.{firsts-zip}
use Rattle.emc_base.proofs.Mapped.{contains_enumerated, contains_filter, contains_map, map-enumerated, map-filter_enumerated, all_zip-map}
use Rattle.serde_json.specs.Data.{Data, string}
use Rattle.json_form.specs.Trees.{key_tree}
use Rattle.json_form.proofs.Told.{told, told_only}
use Rattle.round_trip.specs.Words.{SetId, PropId, AssocId, Value, EntityModel, EntityType, EntitySet, Assoc, Entity, Link, At, props_of, value_beside, value_of, State, entities_in, links_in, IsEntity, IsIndependent, IsState}
use Rattle.entity_state.specs.StateTree.{assoc_member, assoc_members, entity_tree, full_name, is_independent, link_tree, name_of, named_value, set_member, set_members, state_tree}
use Rattle.entity_state.specs.Tells.{entity_names, state_names, HasApartNames, TellsEntity, TellsLink, TellsState}

-- beside a property stands the entity's value of it
beside : (prop : PropId) (props : List PropId) (values : List Value) → length values ≡ length props → Contains props prop
    → Contains (zip props values) (prop, value_beside prop props values)
beside prop [] values same (k, within, is) = absurd (omega arith)
beside prop (p ∷ props) [] same has = absurd (omega arith)
beside prop (p ∷ props) (v ∷ values) same has = here_or_later (p.index == prop.index) refl (beside prop props values (omega arith))
  where
    here_or_later : (b : Bool) → (p.index == prop.index) ≡ b → (Contains props prop → Contains (zip props values) (prop, value_beside prop props values))
        → Contains ((p, v) ∷ zip props values) (prop, if b then v else value_beside prop props values)
    here_or_later true is more =
        let at : p.index ≡ prop.index = (Decides-eqb p.index prop.index).0 is in
        (0, omega arith, λ i. (record { index = at i }, v))
    here_or_later false differs more =
        let apart : p ≡ prop → ⊥ = λ is. absurd (true≢false (sym ((Decides-eqb p.index prop.index).1 (ap (λ q. q.index) is)) ∙ differs)) in
        Contains-append_right ((p, v) ∷ []) (zip props values) (prop, value_beside prop props values) (more (Contains-tail p props prop apart has))

tells_entity : (model : EntityModel) (entity : Entity) → HasApartNames model → IsEntity model entity → TellsEntity model entity (entity_tree model entity)
tells_entity model entity apart is =
    let props = props_of model entity.ty in
    let same : length entity.values ≡ length props = is.2 ∙ ap length (sym (ap (λ found. option_map_or (λ (t : EntityType). t.props) found []) is.1)) in
    let type_name : List ℕ × Data = (codes "$type", string (full_name model entity.ty)) in
    let values = map (named_value model) (zip props entity.values) in
    let names : map (λ (entry : List ℕ × Data). entry.0) (type_name ∷ values) ≡ entity_names model entity.ty =
    ap (λ ns. codes "$type" ∷ ns) (map-map (λ (entry : List ℕ × Data). entry.0) (named_value model) (zip props entity.values)
    ∙ sym (map-map (name_of model) (λ (b : PropId × Value). b.0) (zip props entity.values))
    ∙ ap (map (name_of model)) (firsts-zip props entity.values same)) in
    record {
      type = told (type_name ∷ values) (entity_names model entity.ty) names (apart.props entity.ty) type_name (0, omega arith, refl);
      values = λ prop has. told (type_name ∷ values) (entity_names model entity.ty) names (apart.props entity.ty) (named_value model (prop, value_of model entity prop))
          (Contains-append_right (type_name ∷ []) values (named_value model (prop, value_of model entity prop))
          (contains_map (named_value model) (zip props entity.values) (prop, value_of model entity prop) (beside prop props entity.values same has)));
      only = told_only (type_name ∷ values) (entity_names model entity.ty) names;
    }

tells_link : (assoc : Assoc) (link : Link) → assoc.first.role ≢ assoc.second.role → TellsLink assoc link (link_tree assoc link)
tells_link assoc link apart =
    let R : List ℕ → List ℕ → Type 0 = λ one other. one ≢ other in
    let first : List ℕ × Data = (assoc.first.role, key_tree link.first) in
    let second : List ℕ × Data = (assoc.second.role, key_tree link.second) in
    let names : List (List ℕ) = assoc.first.role ∷ assoc.second.role ∷ [] in
    let roles : AllPairs R names = AllPairs-cons R assoc.first.role (assoc.second.role ∷ [])
    (All-cons (R assoc.first.role) assoc.second.role [] apart (All-nil (R assoc.first.role)))
    (λ i j d below within. absurd (omega arith)) in
    record {
      first = told (first ∷ second ∷ []) names refl roles first (0, omega arith, refl);
      second = told (first ∷ second ∷ []) names refl roles second (1, omega arith, refl);
      only = told_only (first ∷ second ∷ []) names refl;
    }

module _ (model : EntityModel) (state : State) where
  abbrev sets : List (List ℕ × Data)
  sets = set_members model state

  abbrev assocs : List (List ℕ × Data)
  assocs = assoc_members model state

  abbrev kept : List (ℕ × Assoc)
  kept = filter (λ entry. is_independent entry.1) (enumerate_from 0 model.assocs)

  names_are : map (λ entry. entry.0) (sets ++ assocs) ≡ state_names model
  names_are =
      map-append (λ (entry : List ℕ × Data). entry.0) sets assocs
      ∙ ap (λ names. names ++ map (λ (entry : List ℕ × Data). entry.0) assocs)
      (map-map (λ (entry : List ℕ × Data). entry.0) (set_member model state) (enumerate_from 0 model.sets) ∙ map-enumerated (λ (set : EntitySet). set.name) 0 model.sets)
      ∙ ap (λ names. map (λ (set : EntitySet). set.name) model.sets ++ names)
      (map-map (λ (entry : List ℕ × Data). entry.0) (assoc_member state) kept ∙ map-filter_enumerated (λ (assoc : Assoc). assoc.set_name) is_independent 0 model.assocs)

  has_set : (id : SetId) (set : EntitySet) → At model.sets id.index set → Contains (sets ++ assocs) (set_member model state (id.index, set))
  has_set id set here = Contains-append_left sets assocs (set_member model state (id.index, set))
      (contains_map (set_member model state) (enumerate_from 0 model.sets) (id.index, set) (contains_enumerated model.sets id.index set here))

  has_assoc : (id : AssocId) (assoc : Assoc) → At model.assocs id.index assoc → IsIndependent assoc → Contains (sets ++ assocs) (assoc_member state (id.index, assoc))
  has_assoc id assoc here independent = Contains-append_right sets assocs (assoc_member state (id.index, assoc))
      (contains_map (assoc_member state) kept (id.index, assoc)
      (contains_filter (λ entry. is_independent entry.1) (enumerate_from 0 model.assocs) (id.index, assoc) (contains_enumerated model.assocs id.index assoc here)
      (ap is_none independent)))

pub tells_state : (model : EntityModel) (state : State) → HasApartNames model → IsState model state → TellsState model state (state_tree model state)
tells_state model state apart is = record {
  sets = λ id set here. (
    map (entity_tree model) (entities_in state id),
    told (sets model state ++ assocs model state) (state_names model) (names_are model state) apart.members (set_member model state (id.index, set)) (has_set model state id set here),
    all_zip-map (IsEntity model) (TellsEntity model) (entity_tree model) (λ entity. tells_entity model entity apart) (entities_in state id) (is.entities id),
  );
  assocs = λ id assoc here independent. (
    map (link_tree assoc) (links_in state id),
    told (sets model state ++ assocs model state) (state_names model) (names_are model state) apart.members (assoc_member state (id.index, assoc)) (has_assoc model state id assoc here independent),
    all_zip-map (λ _. ⊤) (TellsLink assoc) (link_tree assoc) (λ link _. tells_link assoc link (apart.roles id assoc here)) (links_in state id) (λ k d within. tt),
  );
  only = told_only (sets model state ++ assocs model state) (state_names model) (names_are model state);
}
