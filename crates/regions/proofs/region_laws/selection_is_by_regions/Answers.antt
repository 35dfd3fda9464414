use Rattle.regions.proofs.region_laws.entities.Selected.{Decides-selected}
use Rattle.regions.proofs.region_laws.selection_is_by_regions.Goals as goal

pub returns : goal.returns
returns c = record { selects = Decides-selected }
