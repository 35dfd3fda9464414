-- Principal and dependent properties, item by item: their kinds, and the values beside them.
use Rattle.std.proofs.Common.{◌≡◌, ⊎_elim, ℕ, ◌==◌, List, [], ◌∷◌, map, length, option_map, Contains, Option, Some, None, refl, sym, ap, subst, ◌∙◌}
use Rattle.std.proofs.lemmas.Bool.{cond-true, cond_both}
use Rattle.std.proofs.lemmas.Bool.Decides.{not_from_Decides}
use Rattle.std.proofs.lemmas.List.{length-map}
use Rattle.std.proofs.lemmas.List.Elements.{All-contains}
use Rattle.std.proofs.lemmas.Option.{MatchOption-at_some}
use Rattle.emc_base.specs.declared.value.Value.TheVariants as value
use Rattle.emc_base.specs.declared.value.Kind.TheVariants as kind
use Rattle.emc_base.proofs.Members.{contains_cons_cases, contains_head, contains_nil, contains_tail}
use Rattle.round_trip.specs.Words.{PropId, Value, Kind, EntityModel, Prop, Assoc, Constraint, Entity, At, key_of, key_props, principal_end, value_beside, value_of, values_of}
use Rattle.round_trip.specs.soundness.models.Constraints.{HasIndependentMults, HasMatchedLists, IsSoundAssoc, IsSoundConstraint}
use Rattle.round_trip.specs.soundness.models.Models.{IsSoundModel}
use Rattle.round_trip.specs.soundness.Kinds.{without_bound}
use Rattle.round_trip.specs.soundness.Lookups.{prop_kind}
use Rattle.round_trip.proofs.Lookups.{prop_kind_at}
use Rattle.schema_laws.specs.short_values.Fresh.{fresh, fresh_at}
use Rattle.schema_laws.specs.short_values.Short.{IsOfSort}
use Rattle.schema_laws.proofs.sound_demand.tuples.TupleKeys.{key_beside}
use Rattle.schema_laws.proofs.short_values.Places.{fresh_is}
use Rattle.schema_laws.proofs.state_demand.lists.Ids.{Decides-prop}
use Rattle.schema_laws.proofs.state_demand.lists.Places.{agree_by_map, map_agree}
use Rattle.schema_laws.proofs.state_demand.owners.Owners.{beside_map}
use Rattle.population.specs.Principals.{principal_key}

-- kinds that differ in their bounds alone have the same numbered values, and values of the same sort
fresh_bare : (k : Kind) (outer index : ℕ) → fresh k outer index ≡ fresh (without_bound k) outer index
fresh_bare kind.Boolean outer index = refl
fresh_bare kind.Byte outer index = refl
fresh_bare kind.Int16 outer index = refl
fresh_bare kind.Int32 outer index = refl
fresh_bare kind.Int64 outer index = refl
fresh_bare (kind.Text bound) outer index = refl
fresh_bare (kind.Binary bound) outer index = refl
fresh_bare (kind.Enum enumeration) outer index = refl

pub fresh_alike : (k l : Kind) → without_bound k ≡ without_bound l → (outer index : ℕ) → fresh k outer index ≡ fresh l outer index
fresh_alike k l same outer index = fresh_bare k outer index ∙ ap (λ one. fresh one outer index) same ∙ sym (fresh_bare l outer index)

sort_bare : (k : Kind) (v : Value) → IsOfSort k v → IsOfSort (without_bound k) v
sort_bare kind.Boolean v of_sort = of_sort
sort_bare kind.Byte v of_sort = of_sort
sort_bare kind.Int16 v of_sort = of_sort
sort_bare kind.Int32 v of_sort = of_sort
sort_bare kind.Int64 v of_sort = of_sort
sort_bare (kind.Text bound) v of_sort = text v of_sort
  where
    text : (w : Value) → IsOfSort (kind.Text bound) w → IsOfSort (kind.Text None) w
    text value.Null sort = sort
    text (value.Whole n) sort = sort
    text (value.Flag flag) sort = sort
    text (value.Text bytes) sort = sort
    text (value.Bytes bytes) sort = sort
sort_bare (kind.Binary bound) v of_sort = binary v of_sort
  where
    binary : (w : Value) → IsOfSort (kind.Binary bound) w → IsOfSort (kind.Binary None) w
    binary value.Null sort = sort
    binary (value.Whole n) sort = sort
    binary (value.Flag flag) sort = sort
    binary (value.Text bytes) sort = sort
    binary (value.Bytes bytes) sort = sort
sort_bare (kind.Enum enumeration) v of_sort = of_sort

bare_sort : (k : Kind) (v : Value) → IsOfSort (without_bound k) v → IsOfSort k v
bare_sort kind.Boolean v of_sort = of_sort
bare_sort kind.Byte v of_sort = of_sort
bare_sort kind.Int16 v of_sort = of_sort
bare_sort kind.Int32 v of_sort = of_sort
bare_sort kind.Int64 v of_sort = of_sort
bare_sort (kind.Text bound) v of_sort = text v of_sort
  where
    text : (w : Value) → IsOfSort (kind.Text None) w → IsOfSort (kind.Text bound) w
    text value.Null sort = sort
    text (value.Whole n) sort = sort
    text (value.Flag flag) sort = sort
    text (value.Text bytes) sort = sort
    text (value.Bytes bytes) sort = sort
bare_sort (kind.Binary bound) v of_sort = binary v of_sort
  where
    binary : (w : Value) → IsOfSort (kind.Binary None) w → IsOfSort (kind.Binary bound) w
    binary value.Null sort = sort
    binary (value.Whole n) sort = sort
    binary (value.Flag flag) sort = sort
    binary (value.Text bytes) sort = sort
    binary (value.Bytes bytes) sort = sort
bare_sort (kind.Enum enumeration) v of_sort = of_sort

pub sort_alike : (k l : Kind) → without_bound k ≡ without_bound l → (v : Value) → IsOfSort k v → IsOfSort l v
sort_alike k l same v of_sort = bare_sort l v (subst (λ one. IsOfSort one v) same (sort_bare k v of_sort))

module _ (model : EntityModel) where
  abbrev pub bare_kind : PropId → Option Kind
  bare_kind p = option_map without_bound (prop_kind model p)

  -- the dependent property that is matched with a principal one: of the same kind, bounds aside; and its value stands beside
  pub record IsMatched (principal dependent : List PropId) (p : PropId) : Type 0 where
    pub other : PropId
    pub among : Contains dependent other
    pub kinds : bare_kind p ≡ bare_kind other
    pub beside : (f : PropId → Value) → value_beside p principal (map f dependent) ≡ f other

  pub matched : (principal dependent : List PropId) → map bare_kind principal ≡ map bare_kind dependent → (p : PropId) → Contains principal p → IsMatched principal dependent p
  matched [] dependent same p has = absurd (contains_nil p has)
  matched (q ∷ principal) [] same p has = absurd (let never : bare_kind q ∷ map bare_kind principal ≡ [] = same in let none : ⊥ = cc in none)
  matched (q ∷ principal) (d ∷ dependent) same p has =
      let heads : bare_kind q ≡ bare_kind d = (let both : bare_kind q ∷ map bare_kind principal ≡ bare_kind d ∷ map bare_kind dependent = same in cc) in
      let tails : map bare_kind principal ≡ map bare_kind dependent = (let both : bare_kind q ∷ map bare_kind principal ≡ bare_kind d ∷ map bare_kind dependent = same in cc) in
      ⊎_elim
      (λ (here : p ≡ q). record {
        other = d;
        among = contains_head d dependent;
        kinds = ap bare_kind here ∙ heads;
        beside = λ f. cond-true (q.index == p.index) (f d) (value_beside p principal (map f dependent)) ((Decides-prop q p).1 (sym here));
      })
      (λ (later : Contains principal p). let rest : IsMatched principal dependent p = matched principal dependent tails p later in
      cond_both (q.index == p.index) d rest.other
      (λ one. IsMatched (q ∷ principal) (d ∷ dependent) p)
      (λ told. record {
        other = d;
        among = contains_head d dependent;
        kinds = ap bare_kind (sym ((Decides-prop q p).0 told)) ∙ heads;
        beside = λ f. cond-true (q.index == p.index) (f d) (value_beside p principal (map f dependent)) told;
      })
      (λ told. record {
        other = rest.other;
        among = contains_tail d dependent rest.other rest.among;
        kinds = rest.kinds;
        beside = λ f. cond_both (q.index == p.index) (f d) (value_beside p principal (map f dependent)) (λ v. v ≡ f rest.other)
            (λ is. absurd (not_from_Decides (q.index == p.index) (Decides-prop q p) told ((Decides-prop q p).0 is)))
            (λ is. rest.beside f);
      }))
      (contains_cons_cases q principal p has)

  -- the numbered values of matched properties are one
  pub fresh_matched : (p q : PropId) → bare_kind p ≡ bare_kind q → (declared other : Prop) → At model.props p.index declared → At model.props q.index other
      → (outer index : ℕ) → fresh_at model outer p index ≡ fresh_at model outer q index
  fresh_matched p q same declared other here there outer index =
      let kinds : Some (without_bound declared.kind) ≡ Some (without_bound other.kind) =
      sym (ap (option_map without_bound) (prop_kind_at model p declared here)) ∙ same ∙ ap (option_map without_bound) (prop_kind_at model q other there) in
      let alike : without_bound declared.kind ≡ without_bound other.kind = cc in
      fresh_is model p declared here outer index ∙ fresh_alike declared.kind other.kind alike outer index ∙ sym (fresh_is model q other there outer index)

  module _ (sound : IsSoundModel model) (assoc : Assoc) (constraint : Constraint) (is_assoc : Contains model.assocs assoc) (constrained : assoc.constraint ≡ Some constraint) where
    pub sound_constraint : IsSoundConstraint model assoc constraint
    sound_constraint =
        MatchOption-at_some (HasIndependentMults assoc) (IsSoundConstraint model assoc) constraint constrained
        (All-contains (IsSoundAssoc model) model.assocs assoc sound.assocs is_assoc).kind

    abbrev lists : HasMatchedLists model assoc constraint
    lists = sound_constraint.lists

    abbrev key : List PropId
    key = key_props model (principal_end assoc constraint).ty

    -- as many dependent properties as principal ones
    pub as_many : length constraint.dependent ≡ length constraint.principal
    as_many =
        sym (length-map constraint.dependent bare_kind) ∙ sym (ap length lists.kinds) ∙ length-map constraint.principal bare_kind

    -- each part of the principal's key has its dependent property
    pub part_matched : (p : PropId) → Contains key p → IsMatched constraint.principal constraint.dependent p
    part_matched p part = matched constraint.principal constraint.dependent lists.kinds p (All-contains (Contains constraint.principal) key p lists.principal.all part)

    -- an entity with this key has these principal values, and an entity that has them has the key
    module _ (entity : Entity) (keys : key_props model entity.ty ≡ key) (values : List Value) (count : length values ≡ length constraint.principal) where
      pub principal_values : key_of model entity ≡ principal_key model assoc constraint values → values_of model entity constraint.principal ≡ values
      principal_values same =
          let K : List PropId → Type 0 = λ props. map (value_of model entity) props ≡ principal_key model assoc constraint values in
          let each = agree_by_map (value_of model entity) (λ p. value_beside p constraint.principal values) key (subst K keys same) in
          map_agree (value_of model entity) (λ p. value_beside p constraint.principal values) constraint.principal
          (λ p has. each p (All-contains (Contains key) constraint.principal p lists.principal.only has))
          ∙ key_beside constraint.principal values lists.principal.once count

    pub principal_has : (entity : Entity) → key_props model entity.ty ≡ key → key_of model entity ≡ principal_key model assoc constraint (values_of model entity constraint.principal)
    principal_has entity keys =
        ap (map (value_of model entity)) keys
        ∙ map_agree (value_of model entity) (λ p. value_beside p constraint.principal (values_of model entity constraint.principal)) key
        (λ p part. sym (beside_map (value_of model entity) constraint.principal p (All-contains (Contains constraint.principal) key p lists.principal.all part)))
