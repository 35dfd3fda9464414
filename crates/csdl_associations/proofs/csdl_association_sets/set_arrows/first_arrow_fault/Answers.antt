use Rattle.std.proofs.Common.{ℕ, List, Option, subst, subst₂, sym}
use Rattle.groupings.specs.least_fault.Least.{IsLeast}
use Rattle.layouts.specs.declared.fault.Fault.{Fault}
use Rattle.layouts.specs.Faults.{fault_cmp}
use Rattle.graphs.specs.base_chains.Walks.{IsFirst}
use Rattle.graphs.specs.declared.arrow_cycles.arrow.Arrow.{Arrow}
use Rattle.graphs.specs.arrow_cycles.Arrows.{IsOnCycle, StayWithin}
use Rattle.csdl_names.specs.declared.csdl_lists.raw.RawModel.{RawModel}
use Rattle.csdl_associations.specs.csdl_association_sets.Told.{AreArrowsOf, BreaksArrows}
use Rattle.csdl_associations.proofs.csdl_association_sets.Circles.{arrows_within, least_arrow}
use Rattle.csdl_associations.proofs.csdl_association_sets.set_arrows.first_arrow_fault.Goals as goal

pub first_on_cycle-requires : goal.first_on_cycle-requires
first_on_cycle-requires c =
    let model = c.args.model.now in
    let arrows = c.in_ok-arrows.arrows.items in
    let Are : RawModel → Type 0 = λ one. AreArrowsOf one model.container.association_sets arrows in
    let Stay : List (Option Arrow) → ℕ → Type 0 = λ xs count. StayWithin count xs in
    record { within = subst₂ Stay (sym c.as_slice.ensures.value) (sym c.len.ensures.count) (arrows_within model arrows (subst Are c.requires c.in_ok-arrows.ensures)) }

pub returns : goal.returns
returns c =
    let model = c.args.model.now in
    let arrows = c.in_ok-arrows.arrows.items in
    let Are : RawModel → Type 0 = λ one. AreArrowsOf one model.container.association_sets arrows in
    let First : List (Option Arrow) → Type 0 = λ xs. IsFirst (IsOnCycle xs) c.in_ok-first.first in
    let Least : Option Fault → Type 0 = λ found. IsLeast fault_cmp (BreaksArrows model) found in
    subst Least (sym c.in_ok-found.ensures)
    (least_arrow model arrows (subst Are c.requires c.in_ok-arrows.ensures) c.in_ok-first.first (subst First c.as_slice.ensures.value c.in_ok-first.ensures.first))
