use Rattle.std.proofs.Common.{◌≡◌, ◌≤◌, ◌++◌, [], ◌∷◌, List, Bool, Option, Some, None, flat_map, length, map, if◌then◌else◌, ap, sym, subst, ◌∙◌}
use Rattle.std.proofs.lemmas.Option.{slice_get-get_or}
use Rattle.emc_base.specs.Lists.{At}
use Rattle.emc_base.proofs.Loops.{take-enumerated}
use Rattle.round_trip.specs.Words.{EntityType, TypeId}
use Rattle.regions.specs.Regions.{regions_by}
use Rattle.regions.proofs.region_laws.listing.Choices.{type_counted}
use Rattle.region_states.specs.region_basis.BasisOf.{basis_of}
use Rattle.region_partition.specs.region_lists.Counts.{capped}
use Rattle.region_partition.proofs.region_lists.Types.{type_left, type_listed}
use Rattle.update_views.specs.declared.region_table.numbering.TypeTests.{TypeTests}
use Rattle.update_views.specs.region_table.Made.{count_before, tests_by, type_tests, types_before}
use Rattle.update_views.proofs.region_table.Kept.{next_counted, next_mapped}
use Rattle.update_views.proofs.region_table.making.types_of_set.Goals as goal
use Rattle.update_views.proofs.region_table.making.types_of_set.Goals.{then-is_listed+in_ok-tests+in_ok-push, else-is_listed+in_ok-push-2}

pub loop-index-preserved : goal.loop-index-preserved
loop-index-preserved c =
    let parts = c.args.parts.now in
    let basis = basis_of parts in
    let s = c.args.set in
    let entry = c.args.entry.now in
    let made = type_tests basis s entry in
    let i = c.loop-index.index in
    let ty : TypeId = record { index = i } in
    let declared : EntityType = c.declared-item.result in
    let items = c.as_slice-declared-items.result.now in
    let stands : At items i declared = slice_get-get_or items i declared c.loop-index-test.true ∙ ap Some (sym c.declared-item.is) in
    let here : At parts.model.now.types i declared = subst (λ (list : List EntityType). At list i declared) c.as_slice-declared-items.ensures.items stands in
    let kept : Bool → Option TypeTests = λ b. if b then Some (tests_by basis s ty (count_before basis s entry i)) else None in
    let behind = λ (one : Option TypeTests). c.loop-index.types ++ one ∷ [] in
    let next = next_mapped made parts.model.now.types i declared c.loop-index.types here c.loop-index.invariant.0 in
    let count = λ (types : List TypeId). capped (length (flat_map (regions_by basis s) types)) in
    elim c.if-is_listed.branch [
      | then-is_listed+in_ok-tests+in_ok-push w ↦
          let listed = sym c.is_listed.ensures ∙ w.if-is_listed.true in
          let tests : w.in_ok-tests.tests ≡ tests_by basis s ty (count_before basis s entry i) =
          w.in_ok-tests.ensures ∙ ap (tests_by basis s ty) c.loop-index.invariant.1 in (
            w.types-is ∙ w.in_ok-push.ensures.ok ∙ ap behind (ap Some tests ∙ sym (ap kept listed)) ∙ next,
            w.first-is
                ∙ w.capped-first.ensures
                ∙ next_counted (regions_by basis s) (types_before basis entry i) ty c.loop-index.first w.count_of_type.result c.loop-index.invariant.1
                (w.count_of_type.ensures ∙ ap capped (sym (type_counted basis s ty)))
                ∙ ap count (sym (type_listed parts entry i declared here listed)),
          )
      | else-is_listed+in_ok-push-2 w ↦
          let left = sym c.is_listed.ensures ∙ w.if-is_listed.false in (
            w.types-is ∙ w.in_ok-push-2.ensures.ok ∙ ap behind (sym (ap kept left)) ∙ next,
            w.first-is ∙ c.loop-index.invariant.1 ∙ ap count (sym (type_left parts entry i declared here left)),
          )
    ]

pub returns : goal.returns
returns c =
    let parts = c.args.parts.now in
    let P : List EntityType → Type 0 = λ items. length items ≤ c.loop-index.index in
    let past = subst P c.as_slice-declared-items.ensures.items c.loop-index-test.false in
    c.loop-index.invariant.0 ∙ ap (map (type_tests (basis_of parts) c.args.set c.args.entry.now)) (take-enumerated parts.model.now.types c.loop-index.index past)
