-- Arrows that stay within so many places, item by item.
use Rattle.std.proofs.Common.{ℕ, List, All, Option, Some, None}
use Rattle.std.proofs.lemmas.List.Elements.{All-contains}
use Rattle.emc_base.specs.Lists.{At}
use Rattle.emc_base.proofs.Lists.{all_from_members}
use Rattle.emc_base.proofs.Mapped.{contains_at}
use Rattle.graphs.proofs.base_chains.orders.Orders.{place_of_member}
use Rattle.graphs.specs.arrow_cycles.Arrows.{IsWithin, StayWithin}
use Rattle.graphs.specs.declared.arrow_cycles.arrow.Arrow.{Arrow}

module _ (count : ℕ) (arrows : List (Option Arrow)) where
  pub stay_from_all : All (IsWithin count) arrows → StayWithin count arrows
  stay_from_all all = record {
    each = λ from to is.
        let one : Option Arrow = Some (record { from = from; to = to }) in
        All-contains (IsWithin count) arrows one all (contains_at arrows is.0 one is.1);
  }

  pub all_from_stay : StayWithin count arrows → All (IsWithin count) arrows
  all_from_stay within = all_from_members (IsWithin count) arrows (λ one has. by has.0 one (place_of_member arrows one has))
    where
      by : (k : ℕ) (one : Option Arrow) → At arrows k one → IsWithin count one
      by k None at = tt
      by k (Some one) at = within.each one.from one.to (k, at)
