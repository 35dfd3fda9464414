use Rattle.std.proofs.Common.{◌≡◌, ◌+◌, ◌++◌, ◌∷◌, [], List, length, append_assoc, append-nil, ap, arith, refl, sym, subst, ◌∙◌}
use Rattle.std.specs.List.{AllZip}
use Rattle.std.specs.Vec.Iter.{into_iter_items, into_iter_len}
use Rattle.emc_base.proofs.facts.Zipped.{zip_push}
use Rattle.cells.specs.Cells.{is_free_in}
use Rattle.case_laws.specs.declared.candidates.placed.PlacedRow.{PlacedRow}
use Rattle.region_states.specs.region_basis.BasisOf.{basis_of}
use Rattle.keyed_rows.specs.declared.row_groups.groups.KeyGroup.{KeyGroup}
use Rattle.query_views.specs.Answers.{LendsSet}
use Rattle.query_views.specs.declared.lending.LentEntity.{LentEntity}
use Rattle.query_views.proofs.Lent.{IsLentBy, all_lent, handed_on, lack_set}
use Rattle.query_views.proofs.Viewed.{no_items}
use Rattle.query_views.proofs.lending.lent_set.Goals as goal

pub loop-group-init : goal.loop-group-init
loop-group-init c =
    let parts = c.args.parts.now in
    let Lent : List LentEntity → Type 0 = AllZip (IsLentBy (basis_of parts) (is_free_in parts.cells.now) c.args.tables.now c.args.set) [] in
    let gives = c.into_iter-group-iterator.ensures.into_iter_gives in
    (subst Lent (sym c.new-entities.ensures.items) tt, refl, gives.1 ∙ c.in_ok-group-items.group-items.ok.0 ∙ ap length (sym gives.0))

pub loop-group-preserved : goal.loop-group-preserved
loop-group-preserved c =
    let parts = c.args.parts.now in
    let Lent = IsLentBy (basis_of parts) (is_free_in parts.cells.now) c.args.tables.now c.args.set in
    let yielded = c.loop-group.yielded in
    let group = c.in-Some.group in
    let steps = c.in-Some.ensures.steps in
    let left = into_iter_items c.next.new.self in
    let before : into_iter_len c.loop-group.group-iterator ≡ length (into_iter_items c.loop-group.group-iterator) = c.loop-group.invariant.2 in
    let long : length (into_iter_items c.loop-group.group-iterator) ≡ length (group ∷ left) = ap length steps.0 in
    let less : into_iter_len c.next.new.self + 1 ≡ into_iter_len c.loop-group.group-iterator = steps.1 in (
      subst (AllZip Lent (yielded ++ group ∷ [])) (sym c.in_ok-push.ensures.items)
          (zip_push Lent yielded c.loop-group.entities.items group c.in_ok-lent_entity.field-0 c.loop-group.invariant.0 (c.in_ok-lent_entity.ensures c.args.tables.now c.requires.legal)),
      c.loop-group.invariant.1 ∙ ap (λ list. yielded ++ list) steps.0 ∙ sym (append_assoc yielded (group ∷ []) left),
      omega (arith, before, long, less),
    )

pub returns-in_err-lent_entity : goal.returns-in_err-lent_entity
returns-in_err-lent_entity c =
    let parts = c.args.parts.now in
    let basis = basis_of parts in
    let is_free = is_free_in parts.cells.now in
    let tables = c.args.tables.now in
    let s = c.args.set in
    let groups : List (KeyGroup PlacedRow) = c.in_ok-group-items.group-items.items in
    let all : groups ≡ into_iter_items c.into_iter-group-iterator.result = sym c.into_iter-group-iterator.ensures.into_iter_gives.0 in
    let left = into_iter_items c.next.new.self in
    let is : groups ≡ c.loop-group.yielded ++ c.in-Some.group ∷ left = all ∙ c.loop-group.invariant.1 ∙ ap (λ list. c.loop-group.yielded ++ list) c.in-Some.ensures.steps.0 in
    handed_on (LendsSet basis is_free tables s) c.in_err-lent_entity.field-0.0 c.from_residual-in_err-lent_entity.result c.from_residual-in_err-lent_entity.ensures.1
    (lack_set basis is_free tables s groups c.in_ok-group-items.ensures c.loop-group.yielded c.in-Some.group left is c.loop-group.entities.items c.loop-group.invariant.0
    c.in_err-lent_entity.field-0.0 (c.in_err-lent_entity.ensures tables c.requires.legal))

pub returns : goal.returns
returns c =
    let parts = c.args.parts.now in
    let basis = basis_of parts in
    let is_free = is_free_in parts.cells.now in
    let tables = c.args.tables.now in
    let s = c.args.set in
    let groups : List (KeyGroup PlacedRow) = c.in_ok-group-items.group-items.items in
    let all : groups ≡ into_iter_items c.into_iter-group-iterator.result = sym c.into_iter-group-iterator.ensures.into_iter_gives.0 in
    let end = no_items (into_iter_items c.loop-group.group-iterator) (sym c.loop-group.invariant.2 ∙ c.in-None.ensures.steps.0) in
    let is : groups ≡ c.loop-group.yielded = all ∙ c.loop-group.invariant.1 ∙ ap (λ list. c.loop-group.yielded ++ list) end ∙ append-nil c.loop-group.yielded in
    let P : List (KeyGroup PlacedRow) → Type 0 = λ list. AllZip (IsLentBy basis is_free tables s) list c.loop-group.entities.items in
    all_lent basis is_free tables s groups c.in_ok-group-items.ensures c.loop-group.entities.items (subst P (sym is) c.loop-group.invariant.0)
