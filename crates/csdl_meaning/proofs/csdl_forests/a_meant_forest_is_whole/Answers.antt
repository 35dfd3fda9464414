use Rattle.csdl_meaning.proofs.csdl_forests.Forests.{holds_kept, ids_inside, is_forest, whole}
use Rattle.csdl_meaning.proofs.csdl_forests.a_meant_forest_is_whole.Goals as goal

pub returns : goal.returns
returns c = record { forest = is_forest; ids = ids_inside; whole = whole; kept = holds_kept }
