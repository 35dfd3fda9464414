use Rattle.std.proofs.Common.{◌++◌, ◌<◌, ◌≤◌, ℕ, flat_map, take, unwrap_or, append_assoc, ap, subst, sym, ◌∙◌}
use Rattle.std.specs.List.{enumerate_from}
use Rattle.emc_base.proofs.Lists.{item_at}
use Rattle.emc_base.proofs.Loops.{take-enumerated}
use Rattle.round_trip.specs.Words.{AssocId}
use Rattle.table_owners.specs.declared.places.LinkPlace.TheVariants as place
use Rattle.json_form.specs.Documents.{printed}
use Rattle.texts.specs.case_texts.Views.{joined_at, joined_by}
use Rattle.texts.proofs.case_texts.Turns.{lines_more}
use Rattle.texts.proofs.case_texts.views.add_links.Goals as goal

pub loop-index-preserved : goal.loop-index-preserved
loop-index-preserved c =
    let parts = c.args.parts.now in
    let assocs = parts.model.now.assocs in
    let i = c.loop-index.index in
    let a : AssocId = record { index = i } in
    let P : ℕ → Type 0 = λ n. i < n in
    let item = item_at assocs i (subst P c.len-index-end.ensures.count c.loop-index-test.true) in
    let first = c.args.text.now.items in
    let passed = flat_map printed (flat_map (joined_at parts) (take i (enumerate_from 0 assocs))) in
    let told = ap (λ one. joined_by parts a (unwrap_or one place.Unmapped)) c.link_place.ensures in
    c.in_ok-add_joined.ensures
    ∙ ap (λ text. text ++ flat_map printed (joined_by parts a c.link_place.result)) c.loop-index.invariant
    ∙ append_assoc first passed (flat_map printed (joined_by parts a c.link_place.result))
    ∙ ap (λ trees. first ++ (passed ++ flat_map printed trees)) (sym told)
    ∙ ap (λ lines. first ++ lines) (sym (lines_more (joined_at parts) assocs i item.0 item.1 printed))

pub returns : goal.returns
returns c =
    let parts = c.args.parts.now in
    let assocs = parts.model.now.assocs in
    let P : ℕ → Type 0 = λ n. n ≤ c.loop-index.index in
    c.loop-index.invariant
    ∙ ap (λ entries. c.args.text.now.items ++ flat_map printed (flat_map (joined_at parts) entries))
    (take-enumerated assocs c.loop-index.index (subst P c.len-index-end.ensures.count c.loop-index-test.false))
