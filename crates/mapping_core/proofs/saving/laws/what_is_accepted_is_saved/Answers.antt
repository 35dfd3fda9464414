use Rattle.mapping_core.proofs.saved.Accepted.{saved_so}
use Rattle.mapping_core.proofs.saving.laws.what_is_accepted_is_saved.Goals as goal

pub returns : goal.returns
returns c = λ schema accepted tables state changes can. saved_so schema tables state changes can
