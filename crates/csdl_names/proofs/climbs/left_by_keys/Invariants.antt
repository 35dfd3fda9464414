use Rattle.std.proofs.Common.{◌≡◌, ◌+◌, ℕ, sum_by, take}
use Rattle.std.specs.List.{enumerate_from}
use Rattle.csdl_names.specs.declared.csdl_lists.raw.RawType.{RawType}
use Rattle.csdl_names.specs.csdl_lists.References.{names_in}
use Rattle.csdl_names.specs.Climbs.{steps_of_key}
use Rattle.csdl_names.proofs.climbs.left_by_keys.Given as goal

-- what is left, and the steps of the types that were passed
abbrev pub invariant-loop-place : goal.invariant-loop-place
invariant-loop-place l =
    let model = l.lookups.model.now in
    l.left + sum_by (λ (placed : ℕ × RawType). steps_of_key (names_in model) model placed.0 placed.1) (take l.place (enumerate_from 0 model.types)) ≡ l.most
