-- A part of a legal state is legal exactly where it is closed: it holds with each entity its principals, and the partners that ends `1` ask for.
use Rattle.std.proofs.Common.{◌≡◌, ◌≢◌, ◌↔◌, List, All, Contains, Bool, true, false, not, IsTrue, Some, refl, sym, subst, ◌∙◌}
use Rattle.std.proofs.lemmas.List.Elements.{All-contains, All-filter}
use Rattle.std.proofs.lemmas.List.Kept.{AllPairs-filter}
use Rattle.emc_base.specs.Lists.{AreApart, At}
use Rattle.emc_base.proofs.Lists.{all_from_members}
use Rattle.emc_base.proofs.Mapped.{contains_at}
use Rattle.edm_types.specs.declared.model.Mult.TheVariants.{One}
use Rattle.round_trip.specs.Words.{SetId, AssocId, Value, Null, EntityModel, EntitySet, Assoc, Constraint, Entity, Link, Mult, State, AreLegalLinks, HasAllowedNulls, HasCount, HasFittingType, HasPrincipal, HasValuesInDomain, IsA, IsEntity, IsIndependent, IsLegal, IsLegalSet, IsLink, IsState, dependent_end, entities_in, key_of, links_in, principal_end, values_of}
use Rattle.round_trip.specs.soundness.models.Models.{IsSoundModel}
use Rattle.schema_laws.proofs.state_demand.lists.Lists.{any_of, of_any}
use Rattle.population.specs.Kept.{AsksPartner, IsClosed, has_ends, kept_state}
use Rattle.population.specs.Numbered.{end_of}
use Rattle.population.specs.Principals.{AsksFor, PlacedKey, principal_by}
use Rattle.population.specs.Supported.{end_key}
use Rattle.population.proofs.principals.Asked.{asked_of, is_principal}
use Rattle.population.proofs.pruning.Kept.{AreLegalAt, Decides-ends, HasKeptEnd, at_ends, count_left, entities_kept, entities_long, entity_kept, from_ends, link_kept, links_kept_of, links_long}
use Rattle.population.proofs.plain.Placed.{one_entity, place_of, same_of_most}
use Rattle.population.proofs.principals.PrincipalKeys.{principal_has_key, sound_constraint}

-- what is so of one side and of the other is so of both
both_sides : (P : Bool → Type 0) (first : Bool) → P first → P (not first) → (side : Bool) → P side
both_sides P true one other true = one
both_sides P true one other false = other
both_sides P false one other true = other
both_sides P false one other false = one

module _ (model : EntityModel) (state : State) (legal : IsLegal model state) where
  -- an association with links is independent
  pub has_no_constraint : (a : AssocId) (assoc : Assoc) → At model.assocs a.index assoc → (link : Link) → Contains (links_in state a) link → IsIndependent assoc
  has_no_constraint a assoc here link has = (All-contains (IsLink model assoc) (links_in state a) link (legal.shape.links a assoc here) has).independent

  -- the rules of its links
  pub links_at_ends : (a : AssocId) (assoc : Assoc) → At model.assocs a.index assoc → (link : Link) → Contains (links_in state a) link → (first : Bool)
      → AreLegalAt model state assoc (links_in state a) first
  links_at_ends a assoc here link has = at_ends model state assoc (links_in state a) (legal.links a assoc here (has_no_constraint a assoc here link has))

  -- the entity at an end of a link
  pub entity_at : (a : AssocId) (assoc : Assoc) → At model.assocs a.index assoc → (link : Link) → Contains (links_in state a) link → (first : Bool)
      → (entity : Entity) × Contains (entities_in state (end_of first assoc).set) entity × IsA model entity.ty (end_of first assoc).ty × (key_of model entity ≡ end_key first link)
  entity_at a assoc here link has first =
      let AtEnd : Entity → Type 0 = λ entity. IsA model entity.ty (end_of first assoc).ty × (key_of model entity ≡ end_key first link) in
      let found = of_any AtEnd (entities_in state (end_of first assoc).set) ((links_at_ends a assoc here link has first).ends link has) in
      (found.0, found.1, found.2.0, found.2.1)

  -- each entity of its key there is of the end's type
  pub covers_at : (a : AssocId) (assoc : Assoc) → At model.assocs a.index assoc → (link : Link) → Contains (links_in state a) link → (first : Bool)
      → (entity : Entity) → Contains (entities_in state (end_of first assoc).set) entity → key_of model entity ≡ end_key first link → IsA model entity.ty (end_of first assoc).ty
  covers_at a assoc here link has first entity stands is =
      let found = entity_at a assoc here link has first in
      let P : Entity → Type 0 = λ one. IsA model one.ty (end_of first assoc).ty in
      subst P (one_entity model state legal (end_of first assoc).set found.0 entity found.1 stands (found.3 ∙ sym is)) found.2

module _ (model : EntityModel) (sound : IsSoundModel model) (keep : SetId → Entity → Bool) (state : State) (legal : IsLegal model state) where
  abbrev part : State
  part = kept_state model keep state

  shape : IsState model part
  shape = record {
    sets = entities_long model keep state;
    assocs = links_long model keep state;
    entities = λ u. subst (All (IsEntity model)) (sym (entities_kept model keep state legal.shape u))
        (All-filter (keep u) (IsEntity model) (entities_in state u) (legal.shape.entities u));
    links = λ a assoc here. subst (All (IsLink model assoc)) (sym (links_kept_of model keep state a assoc here))
        (All-filter (has_ends model keep state assoc) (IsLink model assoc) (links_in state a) (legal.shape.links a assoc here));
  }

  legal_sets : (u : SetId) (set : EntitySet) → At model.sets u.index set → IsLegalSet model set (entities_in part u)
  legal_sets u set here =
      let of_set = legal.sets u set here in
      let entities : List Entity = entities_in state u in
      subst (IsLegalSet model set) (sym (entities_kept model keep state legal.shape u)) (record {
        types = All-filter (keep u) (HasFittingType model set) entities of_set.types;
        nulls = All-filter (keep u) (HasAllowedNulls model) entities of_set.nulls;
        domains = All-filter (keep u) (HasValuesInDomain model) entities of_set.domains;
        keys = AllPairs-filter (λ x y. key_of model x ≢ key_of model y) (keep u) entities of_set.keys;
      })

  -- the one entity of a kept end's key
  kept_end : (first : Bool) (assoc : Assoc) (link : Link) → HasKeptEnd model keep state first assoc link
      → (entity : Entity) → Contains (entities_in state (end_of first assoc).set) entity → key_of model entity ≡ end_key first link → IsTrue (keep (end_of first assoc).set entity)
  kept_end first assoc link end entity stands is =
      let u : SetId = (end_of first assoc).set in
      subst (λ one. IsTrue (keep u one)) (one_entity model state legal u end.0 entity end.1 stands (end.3 ∙ sym is)) end.2

  module _ (closed : IsClosed model keep state) where
    module _ (a : AssocId) (assoc : Assoc) (here : At model.assocs a.index assoc) (independent : IsIndependent assoc) where
      abbrev links : List Link
      links = links_in state a

      at_end : (first : Bool) → AreLegalAt model part assoc (links_in part a) first
      at_end first = record {
        ends = λ link has.
            let both = (link_kept model keep state a assoc here link).0 has in
            let end : HasKeptEnd model keep state first assoc link = both.1 first in
            let u : SetId = (end_of first assoc).set in
            any_of (λ entity. IsA model entity.ty (end_of first assoc).ty × (key_of model entity ≡ end_key first link)) (entities_in part u) end.0
            ((entity_kept model keep state legal.shape u end.0).1 (end.1, end.2)) (covers_at model state legal a assoc here link both.0 first end.0 end.1 end.3, end.3);
        partners = λ entity has covers.
            let u : SetId = (end_of first assoc).set in
            let both = (entity_kept model keep state legal.shape u entity).0 has in
            let P : Link → Type 0 = λ link. end_key first link ≡ key_of model entity in
            let mult : Mult = (end_of (not first) assoc).mult in
            let count = (at_ends model state assoc links (legal.links a assoc here independent) first).partners entity both.0 covers in
            subst (HasCount mult P) (sym (links_kept_of model keep state a assoc here))
            (count_left mult P (has_ends model keep state assoc) links (λ one link stands is. (Decides-ends model keep state assoc link).1
            (both_sides (λ side. HasKeptEnd model keep state side assoc link) first
            (entity, both.0, both.1, sym is)
            (let other = entity_at model state legal a assoc here link stands (not first) in
            let asks : AsksPartner model state first assoc entity other.0 = record {
              a = a;
              link = link;
              is_assoc = here;
              is_link = stands;
              one = one;
              stands = both.0;
              at_key = sym is;
              other_stands = other.1;
              other_key = other.3;
            } in
            (other.0, other.1, closed.partner first assoc entity other.0 asks both.1, other.3)))) count);
      }

      legal_links : AreLegalLinks model part assoc (links_in part a)
      legal_links = from_ends model part assoc (links_in part a)
          (subst AreApart (sym (links_kept_of model keep state a assoc here))
          (AllPairs-filter (λ x y. x ≢ y) (has_ends model keep state assoc) links (legal.links a assoc here independent).once))
          at_end

    has_principal : (assoc : Assoc) (constraint : Constraint) → Contains model.assocs assoc → assoc.constraint ≡ Some constraint
        → (entity : Entity) → Contains (entities_in part (dependent_end assoc constraint).set) entity → IsA model entity.ty (dependent_end assoc constraint).ty
        → All (λ value. value ≢ Null) (values_of model entity constraint.dependent) → HasPrincipal model state assoc constraint (values_of model entity constraint.dependent)
        → HasPrincipal model part assoc constraint (values_of model entity constraint.dependent)
    has_principal assoc constraint is_assoc constrained entity has covers there principal =
        let u : SetId = (dependent_end assoc constraint).set in
        let over : SetId = (principal_end assoc constraint).set in
        let values : List Value = values_of model entity constraint.dependent in
        let HasValues : Entity → Type 0 = λ other. values_of model other constraint.principal ≡ values in
        let both = (entity_kept model keep state legal.shape u entity).0 has in
        let found = of_any HasValues (entities_in state over) principal in
        let keyed = principal_has_key model sound state legal assoc constraint (sound_constraint model sound assoc constraint is_assoc constrained) found.0 found.1 values found.2 in
        let to : PlacedKey = principal_by model assoc constraint entity in
        let asked = is_principal model sound u entity assoc constraint is_assoc constrained (refl, covers, there) in
        let kept = closed.principal u entity to found.0 (record { stands = both.0; asks = asked; other_stands = found.1; other_key = keyed }) both.1 in
        any_of HasValues (entities_in part over) found.0 ((entity_kept model keep state legal.shape over found.0).1 (found.1, kept)) found.2

    pub kept_legal : IsLegal model part
    kept_legal = record {
      shape = shape;
      sets = legal_sets;
      links = legal_links;
      principals = λ a assoc constraint here constrained.
          let u : SetId = (dependent_end assoc constraint).set in
          let Has : State → Entity → Type 0 = λ one entity. IsA model entity.ty (dependent_end assoc constraint).ty
          → All (λ value. value ≢ Null) (values_of model entity constraint.dependent) → HasPrincipal model one assoc constraint (values_of model entity constraint.dependent) in
          all_from_members (Has part) (entities_in part u) (λ entity has covers there.
          has_principal assoc constraint (contains_at model.assocs a.index assoc here) constrained entity has covers there
          (All-contains (Has state) (entities_in state u) entity (legal.principals a assoc constraint here constrained)
          ((entity_kept model keep state legal.shape u entity).0 has).0 covers there));
    }

  -- and a part that is legal is closed
  module _ (legal_part : IsLegal model part) where
    principal_kept : (u : SetId) (entity : Entity) → Contains (entities_in state u) entity → IsTrue (keep u entity) → (to : PlacedKey) → AsksFor model u entity to
        → (other : Entity) → Contains (entities_in state to.set) other → key_of model other ≡ to.key → IsTrue (keep to.set other)
    principal_kept u entity stands kept to asks =
        let assoc : Assoc = asks.assoc in
        let constraint : Constraint = asks.constraint in
        let from : SetId = (dependent_end assoc constraint).set in
        let over : SetId = (principal_end assoc constraint).set in
        let values : List Value = values_of model entity constraint.dependent in
        let HasValues : Entity → Type 0 = λ one. values_of model one constraint.principal ≡ values in
        let Has : Entity → Type 0 = λ one. IsA model one.ty (dependent_end assoc constraint).ty
        → All (λ value. value ≢ Null) (values_of model one constraint.dependent) → HasPrincipal model part assoc constraint (values_of model one constraint.dependent) in
        let place = place_of model.assocs assoc asks.is_assoc in
        let has : Contains (entities_in part from) entity = subst (λ v. Contains (entities_in part v) entity) (sym asks.at_end)
        ((entity_kept model keep state legal.shape u entity).1 (stands, kept)) in
        let some : HasPrincipal model part assoc constraint values = All-contains Has (entities_in part from) entity
        (legal_part.principals (record { index = place.0 }) assoc constraint place.1 asks.constrained) has asks.covers asks.there in
        let found = of_any HasValues (entities_in part over) some in
        let both = (entity_kept model keep state legal.shape over found.0).0 found.1 in
        let keyed = principal_has_key model sound state legal assoc constraint (sound_constraint model sound assoc constraint asks.is_assoc asks.constrained) found.0 both.0 values found.2 in
        let P : PlacedKey → Type 0 = λ key. (other : Entity) → Contains (entities_in state key.set) other → key_of model other ≡ key.key → IsTrue (keep key.set other) in
        subst P (sym asks.is) (λ other other_stands is.
        subst (λ one. IsTrue (keep over one)) (one_entity model state legal over found.0 other both.0 other_stands (keyed ∙ sym is)) both.1)

    partner_kept : (first : Bool) (assoc : Assoc) (entity other : Entity) → AsksPartner model state first assoc entity other
        → IsTrue (keep (end_of first assoc).set entity) → IsTrue (keep (end_of (not first) assoc).set other)
    partner_kept first assoc entity other asks kept =
        let u : SetId = (end_of first assoc).set in
        let a : AssocId = asks.a in
        let link : Link = asks.link in
        let P : Link → Type 0 = λ some. end_key first some ≡ key_of model entity in
        let independent = has_no_constraint model state legal a assoc asks.is_assoc link asks.is_link in
        let covers = covers_at model state legal a assoc asks.is_assoc link asks.is_link first entity asks.stands asks.at_key in
        let in_part = (entity_kept model keep state legal.shape u entity).1 (asks.stands, kept) in
        let count : HasCount One P (links_in part a) = subst (λ mult. HasCount mult P (links_in part a)) asks.one
        ((at_ends model part assoc (links_in part a) (legal_part.links a assoc asks.is_assoc independent) first).partners entity in_part covers) in
        let found = of_any P (links_in part a) count.0 in
        let both = (link_kept model keep state a assoc asks.is_assoc found.0).0 found.1 in
        let whole : HasCount One P (links_in state a) = subst (λ mult. HasCount mult P (links_in state a)) asks.one
        ((at_ends model state assoc (links_in state a) (legal.links a assoc asks.is_assoc independent) first).partners entity asks.stands covers) in
        let same : found.0 ≡ link = same_of_most P (links_in state a) whole.1 found.0 link both.0 asks.is_link found.2 (sym asks.at_key) in
        kept_end (not first) assoc link (subst (λ some. HasKeptEnd model keep state (not first) assoc some) same (both.1 (not first))) other asks.other_stands asks.other_key

    pub closed_from_legal : IsClosed model keep state
    closed_from_legal = record {
      principal = λ u entity to other asks kept. principal_kept u entity asks.stands kept to (asked_of model sound u entity to asks.asks) other asks.other_stands asks.other_key;
      partner = partner_kept;
    }

  -- the two together
  pub legal_where_closed : IsLegal model part ↔ IsClosed model keep state
  legal_where_closed = (closed_from_legal, kept_legal)
