use Rattle.std.proofs.Common.{◌≡◌, ◌<◌, ℕ, []}
use Rattle.emc_base.specs.Lists.{At}
use Rattle.graphs.specs.arrow_cycles.Searches.{Searches}
use Rattle.graphs.specs.declared.arrow_cycles.search.Mark.TheVariants.{New}
use Rattle.graphs.proofs.arrow_cycles.components.components.Given as goal

-- each place so far was seen, and the path is empty
abbrev pub invariant-loop-place : goal.invariant-loop-place
invariant-loop-place l =
    Searches l.ends l.search × (l.search.path.items ≡ []) × ((v : ℕ) → v < l.place → ¬ At l.search.marks.items v New)
