use Rattle.std.proofs.Common.{◌≡◌, ◌+◌, ◌≤◌, ℕ, length, filter, take, Some, ap, sym, subst, ◌∙◌, arith}
use Rattle.std.proofs.lemmas.Option.{slice_get-get_or}
use Rattle.emc_base.specs.Lists.{At}
use Rattle.round_trip.specs.Words.{Value}
use Rattle.regions.specs.Fitting.{fits}
use Rattle.region_partition.proofs.region_lists.Fitting.{count_kept, count_left}
use Rattle.region_partition.proofs.region_lists.atoms.count_fitting.Goals as goal
use Rattle.region_partition.proofs.region_lists.atoms.count_fitting.Goals.{then-in_domain, else-in_domain}

pub loop-value-preserved : goal.loop-value-preserved
loop-value-preserved c =
    let kind = c.args.kind.now in
    let i = c.loop-value.value-index in
    let items = c.as_slice-value-items.result.now in
    let value : Value = c.value-item.result in
    let here : At items i value = slice_get-get_or items i value c.loop-value-test.true ∙ ap Some (sym c.value-item.is) in
    let P : ℕ → Type 0 = λ count. (count ≡ length (filter (λ one. fits one kind) (take (i + 1) items))) × (count ≤ i + 1) in
    let small : c.loop-value.count ≤ i = c.loop-value.invariant.1 in
    elim c.if-in_domain.branch [
      | then-in_domain w ↦ subst P (sym w.count-is)
          (count_kept kind items i value here c.in_domain.result c.in_domain.ensures w.if-in_domain.true c.loop-value.count c.loop-value.invariant.0, omega (arith, small))
      | else-in_domain w ↦ subst P (sym w.count-is)
          (count_left kind items i value here c.in_domain.result c.in_domain.ensures w.if-in_domain.false c.loop-value.count c.loop-value.invariant.0, omega (arith, small))
    ]
