use Rattle.std.proofs.Common.{◌≡◌, ◌∙◌, ap, map, sym, subst, append_assoc, append-nil, ◌++◌, ◌∷◌, []}
use Rattle.std.proofs.lemmas.List.{nil_from_length}
use Rattle.keyed_rows.specs.row_groups.KeyGroups.{AreKeyGroups}
use Rattle.keyed_rows.specs.row_groups.Shown.{shown_group, shown_keyed}
use Rattle.keyed_rows.proofs.row_groups.Regrouped.{next_grouped, same_groups}
use Rattle.keyed_rows.proofs.row_groups.groups.key_groups.Goals as goal

pub loop-key-preserved : goal.loop-key-preserved
loop-key-preserved g c =
    let so_far = c.loop-key.yielded in
    let all = c.into_iter-key-iterator.result.rest.items in
    let left = c.next.new.self.rest.items in
    let steps : all ≡ so_far ++ (c.in-Some.key, c.in-Some.item) ∷ left = c.loop-key.invariant.1 ∙ ap (λ rest. so_far ++ rest) c.in-Some.ensures.steps.0 in (
      next_grouped all so_far left c.in-Some.key c.in-Some.item c.loop-key.groups.items c.add.new.groups.items c.loop-key.invariant.2 steps c.loop-key.invariant.0 c.in_ok-add.ensures,
      steps ∙ sym (append_assoc so_far ((c.in-Some.key, c.in-Some.item) ∷ []) left),
      c.loop-key.invariant.2,
    )

pub returns : goal.returns
returns g c =
    let so_far = c.loop-key.yielded in
    let rest = c.loop-key.key-iterator.rest in
    let all : c.in_ok-items.items.items ≡ so_far =
    sym c.into_iter-key-iterator.ensures.into_iter_gives.0 ∙ c.loop-key.invariant.1 ∙ ap (λ left. so_far ++ left) (nil_from_length rest.items (sym rest.ok.0 ∙ c.in-None.ensures.steps.0)) ∙ append-nil so_far in
    same_groups c.args.keyed.items c.in_ok-items.items.items c.loop-key.groups.items c.in_ok-items.ensures.items
    (subst (λ sorted. AreKeyGroups (map shown_keyed sorted) (map shown_group c.loop-key.groups.items)) (sym all) c.loop-key.invariant.0)
