use Rattle.std.proofs.Common.{◌≡◌, ◌∙◌, ◌-◌, ◌++◌, ◌∷◌, [], map, set, ap, sym, arith, is_eq}
use Rattle.std.proofs.lemmas.List.{nil_from_length, set-get_or}
use Rattle.emc_base.proofs.facts.Orderings.{is_equal}
use Rattle.keyed_rows.specs.row_groups.KeyGroups.{started}
use Rattle.keyed_rows.specs.row_groups.Shown.{shown_group}
use Rattle.keyed_rows.proofs.row_groups.Regrouped.{last_apart, none_last, one_joined, one_started}
use Rattle.keyed_rows.proofs.row_groups.groups.add.Goals as goal
use Rattle.keyed_rows.proofs.row_groups.groups.add.Goals.{in-Some+else-is_eq, in_default}

pub returns-then-is_eq : goal.returns-then-is_eq
returns-then-is_eq g c =
    let old = c.args.groups.now in
    let last = c.in-Some.ensures.item in
    one_joined old.items c.in-Some.last.now c.args.key c.args.item c.push.new.self old.len old.ok.0 last.3.0 last.1
    (sym c.cmp.ensures ∙ is_equal c.cmp.result (sym c.if-is_eq.ensures)) c.in_ok-push.ensures.items

pub returns : goal.returns
returns g c = elim c.match-last_mut.branch [
  | in-Some+else-is_eq w ↦
      let old = c.args.groups.now in
      let last = w.in-Some.ensures.item in
      let same : c.match-last_mut.groups.items ≡ old.items =
      ap (λ groups. groups.items) w.groups-is ∙ ap (set old.items (old.len - 1)) (last.3.1 w.in-Some.last.now) ∙ set-get_or old.items (old.len - 1) w.in-Some.last.now in
      started (last_apart old.items w.in-Some.last.now c.args.key old.len old.ok.0 last.3.0 last.1 (ap is_eq (sym w.cmp.ensures) ∙ sym w.if-is_eq.ensures))
      (one_started old.items c.push-3.new.self.items c.args.key c.args.item c.push-2.new.self
      (c.in_ok-push-3.ensures.items ∙ ap (λ groups. groups ++ record { key = c.args.key; items = c.push-2.new.self } ∷ []) same)
      (c.in_ok-push-2.ensures.items ∙ ap (λ items. items ++ c.args.item ∷ []) c.new-items.ensures.items))
  | in_default w ↦
      let old = c.args.groups.now in
      let same : c.match-last_mut.groups.items ≡ old.items = ap (λ groups. groups.items) w.groups-is in
      let none : old.items ≡ [] = nil_from_length old.items (omega (arith, w.in_default.ensures.item.3)) in
      started (λ before last is _. none_last before last (sym (ap (map shown_group) none) ∙ is))
      (one_started old.items c.push-3.new.self.items c.args.key c.args.item c.push-2.new.self
      (c.in_ok-push-3.ensures.items ∙ ap (λ groups. groups ++ record { key = c.args.key; items = c.push-2.new.self } ∷ []) same)
      (c.in_ok-push-2.ensures.items ∙ ap (λ items. items ++ c.args.item ∷ []) c.new-items.ensures.items))
]
