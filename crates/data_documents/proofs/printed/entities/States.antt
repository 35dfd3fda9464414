-- What is printed of a legal state is read as this state.
use Rattle.std.proofs.Common.{◌≡◌, ◌≢◌, ℕ, [], map, All, codes, if◌then◌else◌, is_none, Option, Some, None, refl, sym, ap, ◌∙◌, arith}
use Rattle.std.proofs.lemmas.List.Elements.{All-contains}
use Rattle.std.proofs.lemmas.Option.{none-some}
use Rattle.serde_json.specs.Data.{Data}
use Rattle.serde_json.specs.Find.{get}
use Rattle.serde_json.specs.Read.{max_depth}
use Rattle.emc_base.specs.Lists.{At}
use Rattle.emc_base.proofs.facts.Standing.{none_stands}
use Rattle.json_form.specs.Documents.{printed}
use Rattle.json_form.specs.from_nodes.Reading.{items_at}
use Rattle.json_form.specs.TreeParts.{tree_at}
use Rattle.json_form.proofs.Views.{tree_at-text}
use Rattle.round_trip.specs.Words.{AssocId, SetId, EntityModel, Assoc, Constraint, Prop, State, IsLegal, entities_in, links_in}
use Rattle.round_trip.specs.soundness.models.Models.{IsSoundModel}
use Rattle.schema_laws.proofs.same_states.SameState.{as_legal}
use Rattle.schema_laws.proofs.sound_types.Once.{props_once}
use Rattle.entity_state.specs.StateTree.{state_tree}
use Rattle.entity_state.specs.Tells.{HasApartNames, IsTreeInKeyOrder, TellsEntity, TellsLink, TellsState}
use Rattle.entity_state.proofs.Listed.{sorted_is_state}
use Rattle.entity_state.proofs.Told.{tells_state}
use Rattle.data_documents.specs.entity_documents.States.{entities_of, entity_in, link_in, links_of, state_in}
use Rattle.data_documents.specs.printed.Again.{TellsStateAgain}
use Rattle.data_documents.specs.printed.Names.{HasTextModelNames}
use Rattle.data_documents.proofs.sound_names.Names.{model_names}
use Rattle.data_documents.proofs.printed.Entries.{member_back}
use Rattle.data_documents.proofs.printed.Lists.{images_agree}
use Rattle.data_documents.proofs.printed.entities.Entities.{IsGoodEntity, entity_back}
use Rattle.data_documents.proofs.printed.entities.Legal.{AreGoodLists, good_lists, same_sorted}
use Rattle.data_documents.proofs.printed.entities.Links.{IsGoodLink, link_back}
use Rattle.data_documents.proofs.printed.entities.Members.{no_fault, tree_whole}
use Rattle.data_documents.proofs.printed.spelled.ReadBack.{printed_text, read_back}

module _ (model : EntityModel) (sound : IsSoundModel model) (apart : HasApartNames model) (state : State) (good : AreGoodLists model state) (tree : Data) (tells : TellsState model state tree) where
  -- the tree gives the entities of each set
  entities_back : map (entities_of model tree) model.sets ≡ state.entities
  entities_back = images_agree (entities_of model tree) [] model.sets state.entities good.sets (λ i set here.
      let id : SetId = record { index = i } in
      member_back (IsGoodEntity model) (TellsEntity model) (entity_in model)
      (λ entity d is told. entity_back model sound.names.types entity is (props_once model sound entity.ty) d told)
      (entities_in state id) (good.entities id set here) (get set.name tree) (tells.sets id set here))

  -- and the links of each association set; one with a constraint has none
  assoc_back : (i : ℕ) (assoc : Assoc) → At model.assocs i assoc → links_of model tree assoc ≡ links_in state (record { index = i })
  assoc_back i assoc here = by assoc.constraint refl
    where
      id : AssocId
      id = record { index = i }

      by : (constraint : Option Constraint) → assoc.constraint ≡ constraint
          → (if is_none constraint then map (link_in model assoc) (items_at assoc.set_name tree) else []) ≡ links_in state id
      by None is = member_back (IsGoodLink model assoc) (TellsLink assoc) (link_in model assoc)
          (λ link d has told. link_back model assoc (apart.roles id assoc here) link has d told)
          (links_in state id) (good.links id assoc here) (get assoc.set_name tree) (tells.assocs id assoc here is)
      by (Some constraint) is = sym (none_stands (links_in state id) (λ link has.
          none-some constraint (sym (All-contains (IsGoodLink model assoc) (links_in state id) link (good.links id assoc here) has).independent ∙ is)))

  -- so it gives the state
  state_back : state_in model tree ≡ state
  state_back =
      let links : map (links_of model tree) model.assocs ≡ state.links = images_agree (links_of model tree) [] model.assocs state.links good.assocs assoc_back in
      λ k. record { entities = entities_back k; links = links k }

-- the text of the state in the order of keys is read as this state
pub state_again : (model : EntityModel) → IsSoundModel model → HasTextModelNames model → All (λ (prop : Prop). prop.name ≢ codes "$type") model.props
    → (state : State) → IsLegal model state → (tree : Data) → IsTreeInKeyOrder model state tree → TellsStateAgain model state (printed tree)
state_again model sound texts plain state legal tree in_order =
    let apart = model_names model sound plain in
    let sorted = in_order.sorted in
    let shape = sorted_is_state model state sorted in_order.order legal.shape in
    let good = good_lists model sound sorted (as_legal model state sorted (same_sorted model state sorted in_order.order) shape legal) in
    let told = state_tree model sorted in
    let whole = tree_whole model sound apart sorted good texts max_depth (omega arith) in
    let tells = tells_state model sorted apart shape in
    record {
      tree = told;
      held = ap (λ (d : Data). tree_at (printed d)) in_order.is ∙ tree_at-text (printed told) (printed_text told whole) ∙ read_back told whole;
      again = sorted;
      order = in_order.order;
      read = record {
        shape = no_fault model sound apart sorted good;
        meant = record { is = sym (state_back model sound apart sorted good told tells); fits = shape };
      };
    }
