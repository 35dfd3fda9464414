-- What is printed of a legal state is read as the state.
use Rattle.std.proofs.Common.{◌≡◌, ◌≢◌, List, ℕ, All, Result, Ok, Err, inl, inr, codes, sym, ap, subst, ◌∙◌, refl}
use Rattle.std.proofs.lemmas.Option.{none-some, same_Some}
use Rattle.serde_json.specs.Data.{Data}
use Rattle.round_trip.specs.Words.{EntityModel, IsLegal, IsSameState, Prop, Schema, State}
use Rattle.data_documents.specs.declared.shape_faults.fault.ShapeFault.{ShapeFault}
use Rattle.data_documents.specs.declared.shape_faults.fault.ShapeFault.TheVariants.{Shape, Memory}
use Rattle.data_documents.specs.entity_documents.DocShapes.{IsDocFault}
use Rattle.data_documents.specs.entity_documents.States.{state_in}
use Rattle.data_documents.specs.printed.Again.{TellsStateAgain}
use Rattle.data_documents.specs.printed.Names.{HasTextModelNames}
use Rattle.data_documents.proofs.printed.entities.Legal.{same_sorted}
use Rattle.data_documents.proofs.printed.entities.States.{state_again}
use Rattle.mapping_core.proofs.printed.ModelNames.{names_of_model}
use Rattle.mapping_core.proofs.printed.PropNames.{plain_names}
use Rattle.mapping_core.specs.Rules.{IsRead}
use Rattle.mapping_core.specs.states.Documents.{ReadsEntities}
use Rattle.mapping_core.specs.states.GivesBack.{GivesEntitiesBack}
use Rattle.mapping_core.specs.states.Loads.{IsStateText}

module _ (schema : Schema) (read : IsRead schema) (state : State) (legal : IsLegal schema.model state) (text : List ℕ) (told : IsStateText schema state text) where
  again : TellsStateAgain schema.model state text
  again =
      let model = ap (λ (s : Schema). s.model) read.read.means.meaning in
      let texts : HasTextModelNames schema.model = subst HasTextModelNames (sym model) (names_of_model read.csdl) in
      let Plain : EntityModel → Type 0 = λ m. All (λ (prop : Prop). prop.name ≢ codes "$type") m.props in
      let plain : Plain schema.model = subst Plain (sym model) (plain_names read.csdl read.ssdl read.msl read.read.means.unbroken) in
      subst (TellsStateAgain schema.model state) (sym told.2) (state_again schema.model read.read.sound.model texts plain state legal told.0 told.1)

  -- the state that is read is the same
  pub entities_back : (result : Result State ShapeFault) → ReadsEntities schema.model text result → GivesEntitiesBack state result
  entities_back (Ok other) (d, held, is) =
      let same : again.tree ≡ d = same_Some again.tree d (sym again.held ∙ held) in
      let one : again.again ≡ other = again.read.meant.is ∙ ap (state_in schema.model) same ∙ sym is.meant.is in
      subst (IsSameState state) one (same_sorted schema.model state again.again again.order)
  entities_back (Err (Shape pointer)) (inl none) = absurd (none-some again.tree (sym none.0 ∙ again.held))
  entities_back (Err (Shape pointer)) (inr (d, held, fails)) =
      let same : d ≡ again.tree = same_Some d again.tree (sym held ∙ again.held) in
      absurd (again.read.shape fails.place (subst (λ (e : Data). IsDocFault schema.model e fails.place) same fails.first.0))
  entities_back (Err Memory) holds = refl
