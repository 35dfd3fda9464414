use Rattle.cells.proofs.Covering.{covers_model, covers_store}
use Rattle.cells.proofs.laws.parts_cover_their_model_and_store.Goals as goal

pub returns : goal.returns
returns c = record { model = λ parts are. covers_model parts are; store = λ parts are. covers_store parts are }
