-- What changes don't touch doesn't differ.
use Rattle.std.proofs.Common.{◌≡◌, ◌≢◌, ◌↔◌, ◌<◌, ⊎_elim, suc, List, [], ◌∷◌, ◌++◌, Any, Contains, map, filter, length, not, if◌then◌else◌, arith, refl, sym, ap, subst, ◌∙◌}
use Rattle.emc_base.proofs.Mapped.{contains_filter}
use Rattle.emc_base.proofs.Numbered.{filter_contains}
use Rattle.round_trip.specs.Words.{SetId, AssocId, Value, EntityModel, Entity, Link, State, entities_in, links_in, key_of}
use Rattle.schema_laws.specs.state_demand.Selecting.{same_key}
use Rattle.cells.specs.declared.cells.Cells.{Cells}
use Rattle.cells.specs.HostedLinks.{hosted_links, of_key}
use Rattle.entity_changes.specs.declared.change.Change.{Change}
use Rattle.entity_changes.specs.declared.change.Change.TheVariants as change
use Rattle.entity_changes.specs.declared.touched.Touched.{Touched}
use Rattle.entity_changes.specs.Changes.{after, after_one, same_link, with_entities, with_links}
use Rattle.entity_changes.specs.Touching.{DifferOnlyAt, IsJoined, TellsTouched, TouchesEntity, TouchesLink}
use Rattle.entity_changes.proofs.Afterwards.{entities_cases, links_cases, links_elsewhere}
use Rattle.entity_changes.proofs.Pushes.{false_from, push_cases, push_old}
use Rattle.entity_changes.proofs.Replaced.{same_left, same_replaced}
use Rattle.entity_changes.proofs.SpotOrder.{Decides-link}
use Rattle.entity_changes.proofs.touched.HostedLists.{hosted_same, key_left, key_pushed}

-- one of three facts after another
then_too : {P Q R : Type 0} → (P ↔ Q) → (Q ↔ R) → P ↔ R
then_too first second = ((λ p. second.0 (first.0 p)), (λ r. first.1 (second.1 r)))

itself : {P : Type 0} → P ↔ P
itself = ((λ p. p), (λ p. p))

-- an item that comes isn't another one
other_stays : {X : Type 0} (xs : List X) (new one : X) → new ≢ one → Contains xs one ↔ Contains (xs ++ new ∷ []) one
other_stays xs new one apart = (
  (λ has. push_old xs new one has),
  (λ has. ⊎_elim (λ (before : Contains xs one). before) (λ (last : one ≡ new). absurd (apart (sym last))) (push_cases xs new one has)),
)

module _ (model : EntityModel) (cells : Cells) (state : State) where
  module _ (s : SetId) (entity : Entity) where
    in_set : (t : SetId) (entities : List Entity) → (t ≡ s → Contains (entities_in state s) entity ↔ Contains entities entity)
        → Contains (entities_in state s) entity ↔ Contains (entities_in (with_entities state t entities) s) entity
    in_set t entities same = ⊎_elim
        (λ (is : entities_in (with_entities state t entities) s ≡ entities_in state s). subst
        (λ list. Contains (entities_in state s) entity ↔ Contains list entity) (sym is) itself)
        (λ (put : (t ≡ s) × (entities_in (with_entities state t entities) s ≡ entities)).
        subst (λ list. Contains (entities_in state s) entity ↔ Contains list entity) (sym put.1) (same put.0))
        (entities_cases state t entities s)

    -- an entity that a change doesn't touch stands before just where it stands afterwards
    pub one_entity : (one : Change) → ¬ TouchesEntity model cells one (s, key_of model entity)
        → Contains (entities_in state s) entity ↔ Contains (entities_in (after_one model state one) s) entity
    one_entity (change.Insert t new) untouched = in_set t (entities_in state t ++ new ∷ [])
        (λ same. subst (λ u. Contains (entities_in state s) entity ↔ Contains (entities_in state u ++ new ∷ []) entity) (sym same)
        (other_stays (entities_in state s) new entity (λ its. untouched (λ i. (same i, key_of model (its i))))))
    one_entity (change.Update t new) untouched = in_set t (map (λ old. if same_key (key_of model old) (key_of model new) then new else old) (entities_in state t))
        (λ same. subst (λ u. Contains (entities_in state s) entity ↔ Contains (map (λ old. if same_key (key_of model old) (key_of model new) then new else old)
        (entities_in state u)) entity) (sym same)
        (same_replaced model (entities_in state s) new entity (λ its. untouched (λ i. (same i, sym its i)))))
    one_entity (change.Delete t gone) untouched = in_set t (filter (λ old. not (same_key (key_of model old) gone)) (entities_in state t))
        (λ same. subst (λ u. Contains (entities_in state s) entity ↔ Contains (filter (λ old. not (same_key (key_of model old) gone))
        (entities_in state u)) entity) (sym same)
        (same_left model (entities_in state s) gone entity (λ its. untouched (λ i. (same i, sym its i)))))
    one_entity (change.Link a link) untouched = itself
    one_entity (change.Unlink a link) untouched = itself

  module _ (s : SetId) (key : List Value) where
    -- so are the links that an entity hosts
    pub one_host : (one : Change) → ¬ TouchesEntity model cells one (s, key) → hosted_links model cells state s key ≡ hosted_links model cells
        (after_one model state one) s key
    one_host (change.Insert t new) untouched = refl
    one_host (change.Update t new) untouched = refl
    one_host (change.Delete t gone) untouched = refl
    one_host (change.Link a link) untouched = hosted_same model cells state (with_links state a (links_in state a ++ link ∷ [])) a s key link untouched
        (λ b apart. links_elsewhere state a (links_in state a ++ link ∷ []) b apart)
        (λ first_hosts not_host. ⊎_elim
        (λ (is : links_in (with_links state a (links_in state a ++ link ∷ [])) a ≡ links_in state a). ap (of_key first_hosts a key) is)
        (λ (put : (a ≡ a) × (links_in (with_links state a (links_in state a ++ link ∷ [])) a ≡ (links_in state a ++ link ∷ []))).
        ap (of_key first_hosts a key) put.1 ∙ key_pushed first_hosts a key (links_in state a) link not_host)
        (links_cases state a (links_in state a ++ link ∷ []) a))
    one_host (change.Unlink a link) untouched = hosted_same model cells state (with_links state a
        (filter (λ old. not (same_link old link)) (links_in state a))) a s key link untouched
        (λ b apart. links_elsewhere state a (filter (λ old. not (same_link old link)) (links_in state a)) b apart)
        (λ first_hosts not_host. ⊎_elim
        (λ (is : links_in (with_links state a (filter (λ old. not (same_link old link)) (links_in state a))) a ≡ links_in state a). ap (of_key first_hosts a key) is)
        (λ (put : (a ≡ a) × (links_in (with_links state a (filter (λ old. not (same_link old link)) (links_in state a))) a ≡ filter
        (λ old. not (same_link old link)) (links_in state a))).
        ap (of_key first_hosts a key) put.1 ∙ key_left first_hosts a key (links_in state a) link not_host)
        (links_cases state a (filter (λ old. not (same_link old link)) (links_in state a)) a))

  module _ (a : AssocId) (link : Link) (joined : IsJoined cells a) where
    in_assoc : (b : AssocId) (links : List Link) → (b ≡ a → Contains (links_in state a) link ↔ Contains links link)
        → Contains (links_in state a) link ↔ Contains (links_in (with_links state b links) a) link
    in_assoc b links same = ⊎_elim
        (λ (is : links_in (with_links state b links) a ≡ links_in state a). subst (λ list. Contains (links_in state a) link ↔ Contains list link) (sym is) itself)
        (λ (put : (b ≡ a) × (links_in (with_links state b links) a ≡ links)).
        subst (λ list. Contains (links_in state a) link ↔ Contains list link) (sym put.1) (same put.0))
        (links_cases state b links a)

    link_left : (gone : Link) → gone ≢ link → Contains (links_in state a) link ↔ Contains (filter (λ old. not (same_link old gone)) (links_in state a)) link
    link_left gone apart = (
      (λ has. contains_filter (λ old. not (same_link old gone)) (links_in state a) link has
          (ap not (false_from (same_link link gone) (λ same. apart (sym ((Decides-link link gone).0 same)))))),
      (λ has. (filter_contains (λ old. not (same_link old gone)) (links_in state a) link has).0),
    )

    -- and so is a link of a joined association set
    pub one_link : (one : Change) → ¬ TouchesLink model cells one (a, link) → Contains (links_in state a) link ↔ Contains (links_in (after_one model state one) a) link
    one_link (change.Insert t new) untouched = itself
    one_link (change.Update t new) untouched = itself
    one_link (change.Delete t gone) untouched = itself
    one_link (change.Link b new) untouched = in_assoc b (links_in state b ++ new ∷ [])
        (λ same. subst (λ d. Contains (links_in state a) link ↔ Contains (links_in state d ++ new ∷ []) link) (sym same)
        (other_stays (links_in state a) new link (λ its. untouched ((λ i. (same i, its i)), subst (IsJoined cells) (sym same) joined))))
    one_link (change.Unlink b gone) untouched = in_assoc b (filter (λ old. not (same_link old gone)) (links_in state b))
        (λ same. subst (λ d. Contains (links_in state a) link ↔ Contains (filter (λ old. not (same_link old gone)) (links_in state d)) link) (sym same)
        (link_left gone (λ its. untouched ((λ i. (same i, its i)), subst (IsJoined cells) (sym same) joined))))

module _ {X : Type 0} (P : X → Type 0) (x : X) (xs : List X) (none : ¬ Any P (x ∷ xs)) where
  none_first : ¬ P x
  none_first is = none (0, x, omega arith, refl, is)

  none_later : ¬ Any P xs
  none_later some = none (suc some.0, some.1, (let within : some.0 < length xs = some.2 in omega (arith, within)), some.3, some.4)

module _ (model : EntityModel) (cells : Cells) where
  -- the same of some changes, one behind the other
  pub all_entities : (changes : List Change) (state : State) (s : SetId) (entity : Entity)
      → ¬ Any (λ some. TouchesEntity model cells some (s, key_of model entity)) changes
      → Contains (entities_in state s) entity ↔ Contains (entities_in (after model state changes) s) entity
  all_entities [] state s entity none = itself
  all_entities (one ∷ changes) state s entity none =
      then_too (one_entity model cells state s entity one (none_first (λ some. TouchesEntity model cells some (s, key_of model entity)) one changes none))
      (all_entities changes (after_one model state one) s entity (none_later (λ some. TouchesEntity model cells some (s, key_of model entity)) one changes none))

  pub all_hosts : (changes : List Change) (state : State) (s : SetId) (key : List Value) → ¬ Any (λ some. TouchesEntity model cells some (s, key)) changes
      → hosted_links model cells state s key ≡ hosted_links model cells (after model state changes) s key
  all_hosts [] state s key none = refl
  all_hosts (one ∷ changes) state s key none =
      one_host model cells state s key one (none_first (λ some. TouchesEntity model cells some (s, key)) one changes none)
      ∙ all_hosts changes (after_one model state one) s key (none_later (λ some. TouchesEntity model cells some (s, key)) one changes none)

  pub all_links : (changes : List Change) (state : State) (a : AssocId) (link : Link) → IsJoined cells a
      → ¬ Any (λ some. TouchesLink model cells some (a, link)) changes
      → Contains (links_in state a) link ↔ Contains (links_in (after model state changes) a) link
  all_links [] state a link joined none = itself
  all_links (one ∷ changes) state a link joined none =
      then_too (one_link model cells state a link joined one (none_first (λ some. TouchesLink model cells some (a, link)) one changes none))
      (all_links changes (after_one model state one) a link joined (none_later (λ some. TouchesLink model cells some (a, link)) one changes none))

  -- so states differ only where they are touched
  pub differ_only : (state : State) (changes : List Change) (touched : Touched) → TellsTouched model cells changes touched
      → DifferOnlyAt model cells touched state (after model state changes)
  differ_only state changes touched tells = record {
    entities = λ s entity none. all_entities changes state s entity (λ some. none ((tells.entities (s, key_of model entity)).1 some));
    hosted = λ s entity none stands. all_hosts changes state s (key_of model entity) (λ some. none ((tells.entities (s, key_of model entity)).1 some));
    links = λ a link joined none. all_links changes state a link joined (λ some. none ((tells.links (a, link)).1 some));
  }
