use Rattle.std.proofs.Common.{ℕ, ◌≤◌, List, length, replicate, Option, None, refl, ap, subst, ◌∙◌}
use Rattle.std.proofs.lemmas.Option.{slice_get_read}
use Rattle.emc_base.specs.Lists.{At}
use Rattle.csdl_names.specs.declared.csdl_lists.raw.RawSet.{RawSet}
use Rattle.ssdl_model.specs.ssdl_lists.Tables.{IsTabled}
use Rattle.ssdl_model.proofs.ssdl_lists.Tabled.{knows_all, knows_more, knows_start}
use Rattle.ssdl_model.proofs.ssdl_lists.tables.tables_of.Goals as goal

pub loop-place-init : goal.loop-place-init
loop-place-init c =
    let none : ℕ → List (Option ℕ) = λ n. replicate n None in
    knows_start c.args.lookups.now.model.now c.in_ok-tables.tables.items (c.in_ok-tables.ensures ∙ ap none c.len.ensures.count)

pub loop-place-preserved : goal.loop-place-preserved
loop-place-preserved c =
    let P : List RawSet → Type 0 = λ sets. At sets c.loop-place.place c.set-item.result in
    let Q : Option ℕ → Type 0 = λ type. IsTabled c.loop-place.tables.items type c.loop-place.place c.note_table.new.tables.items in
    knows_more c.args.lookups.now.model.now c.loop-place.place c.set-item.result c.loop-place.tables.items c.note_table.new.tables.items
    (subst P c.as_slice-set-items.ensures.items (slice_get_read _ _ c.loop-place.place _ refl c.loop-place-test.true c.set-item.is))
    c.loop-place.invariant (subst Q c.type_named.ensures c.note_table.ensures)

pub returns : goal.returns
returns c =
    let P : List RawSet → Type 0 = λ sets. length sets ≤ c.loop-place.place in
    knows_all c.args.lookups.now.model.now c.loop-place.place c.loop-place.tables.items (subst P c.as_slice-set-items.ensures.items c.loop-place-test.false) c.loop-place.invariant
