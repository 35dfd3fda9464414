use Rattle.std.proofs.Common.{◌≡◌, ◌+◌, ◌≤◌, ℕ, List, length, Some, sum_by, ap, sym, subst, ◌∙◌}
use Rattle.std.proofs.lemmas.Option.{slice_get-get_or}
use Rattle.emc_base.specs.Lists.{At}
use Rattle.round_trip.specs.Words.{EntityType, TypeId}
use Rattle.regions.specs.region_laws.Counting.{count_by}
use Rattle.region_states.specs.region_basis.BasisOf.{basis_of}
use Rattle.region_partition.specs.region_lists.Counts.{capped}
use Rattle.region_partition.proofs.region_lists.Taken.{more_counted}
use Rattle.region_partition.proofs.region_lists.Types.{type_left, type_listed, types_before, types_whole}
use Rattle.region_partition.proofs.region_lists.counting.count_of_set.Goals as goal
use Rattle.region_partition.proofs.region_lists.counting.count_of_set.Goals.{then-is_listed, else-is_listed}

pub loop-index-preserved : goal.loop-index-preserved
loop-index-preserved c =
    let parts = c.args.parts.now in
    let entry = c.args.entry.now in
    let count = count_by (basis_of parts) c.args.set in
    let i = c.loop-index.index in
    let ty : TypeId = record { index = i } in
    let declared : EntityType = c.declared-item.result in
    let items = c.as_slice-declared-items.result.now in
    let stands : At items i declared = slice_get-get_or items i declared c.loop-index-test.true ∙ ap Some (sym c.declared-item.is) in
    let here : At parts.model.now.types i declared = subst (λ (list : List EntityType). At list i declared) c.as_slice-declared-items.ensures.items stands in
    let P : ℕ → Type 0 = λ total. total ≡ capped (sum_by count (types_before parts entry (i + 1))) in
    elim c.if-is_listed.branch [
      | then-is_listed w ↦
          let more = type_listed parts entry i declared here (sym c.is_listed.ensures ∙ w.if-is_listed.true) in
          subst P (sym w.total-is) (
          w.capped-total.ensures
          ∙ more_counted count (types_before parts entry i) ty c.loop-index.total w.count_of_type.result c.loop-index.invariant w.count_of_type.ensures
          ∙ ap (λ (types : List TypeId). capped (sum_by count types)) (sym more))
      | else-is_listed w ↦
          let same = type_left parts entry i declared here (sym c.is_listed.ensures ∙ w.if-is_listed.false) in
          subst P (sym w.total-is) (c.loop-index.invariant ∙ ap (λ (types : List TypeId). capped (sum_by count types)) (sym same))
    ]

pub returns : goal.returns
returns c =
    let parts = c.args.parts.now in
    let P : List EntityType → Type 0 = λ items. length items ≤ c.loop-index.index in
    let past = subst P c.as_slice-declared-items.ensures.items c.loop-index-test.false in
    c.loop-index.invariant ∙ ap (λ (list : List TypeId). capped (sum_by (count_by (basis_of parts) c.args.set) list)) (types_whole parts c.args.entry.now c.loop-index.index past)
