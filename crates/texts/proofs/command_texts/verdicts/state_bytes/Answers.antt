use Rattle.std.proofs.Common.{◌≡◌, ℕ, List, Result, Ok, Err, IfOk}
use Rattle.emc_base.specs.declared.memory.Memory.{Memory}
use Rattle.serde_json.specs.Data.{Data}
use Rattle.json_form.specs.Documents.{printed, tree_of}
use Rattle.round_trip.specs.Words.{EntityModel, State}
use Rattle.entity_state.specs.Tells.{IsTreeInKeyOrder}
use Rattle.texts.proofs.command_texts.verdicts.state_bytes.Goals as goal

-- what is printed of a state's tree is the printed document of the state
of_tree : (model : EntityModel) (state : State) (tree : Data) (result : Result (List ℕ) Memory) → IsTreeInKeyOrder model state tree → IfOk result (λ text. text ≡ printed tree)
    → IfOk result (λ text. (one : Data) × IsTreeInKeyOrder model state one × (text ≡ printed one))
of_tree model state tree (Ok text) is printed_is = (tree, is, printed_is)
of_tree model state tree (Err memory) is printed_is = tt

pub returns : goal.returns
returns c = of_tree c.args.model.now c.args.state.now (tree_of c.in_ok-document.document) c.bytes.result c.in_ok-document.ensures.tree c.bytes.ensures
