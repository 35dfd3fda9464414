-- The views of the sets one after another.
use Rattle.std.proofs.Common.{◌≡◌, ◌∙◌, ℕ, List, length}
use Rattle.regions.specs.Basis.{Basis}
use Rattle.region_partition.proofs.set_regions.Sets.{AreOfFirst}
use Rattle.update_views.specs.declared.views.SetView.{SetView}
use Rattle.update_views.specs.Making.{AreSetViews, IsSetView}

pub all_made : (basis : Basis) (i : ℕ) (views : List SetView) → AreOfFirst (IsSetView basis) i views → i ≡ length basis.schema.model.sets → AreSetViews basis views
all_made basis i views first all = record { count = first.0 ∙ all; each = first.1 }
