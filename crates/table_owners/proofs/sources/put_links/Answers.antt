use Rattle.std.proofs.Common.{◌+◌, ◌≤◌, List, length, Option, Some, length-set, refl, sym, ap, subst, ◌∙◌}
use Rattle.std.proofs.lemmas.Option.{slice_get_read}
use Rattle.emc_base.specs.Lists.{At}
use Rattle.round_trip.specs.Words.{LinkFragment}
use Rattle.round_trip.specs.Between.{schema_of}
use Rattle.table_owners.specs.declared.sources.Source.{Source}
use Rattle.table_owners.specs.declared.sources.Source.TheVariants.{Links}
use Rattle.table_owners.specs.Puts.{Puts}
use Rattle.table_owners.specs.Sources.{IsLinkSource, links_to}
use Rattle.table_owners.proofs.lists.PutItems.{all_put, none_put, one_put}
use Rattle.table_owners.proofs.sources.put_links.Goals as goal

pub loop-number-init : goal.loop-number-init
loop-number-init c = (
  refl,
  λ model. none_put links_to (IsLinkSource (schema_of model c.args.store.now c.args.mapping.now)) c.args.mapping.now.links c.args.sources.now.items,
)

pub loop-number-preserved : goal.loop-number-preserved
loop-number-preserved c =
    let links = c.args.mapping.now.links in
    let n = c.loop-number.number in
    let fragment = c.fragment-item.result in
    let before = c.loop-number.sources.items in
    let value : Option Source = Some (Links (record { index = n }) c.standing_of.result) in
    let P : List LinkFragment → Type 0 = λ items. At items n fragment in
    let here : At links n fragment = subst P c.as_slice-fragment-items.ensures.items (slice_get_read _ _ n _ refl c.loop-number-test.true c.fragment-item.is) in (
      ap length c.put.ensures ∙ length-set before fragment.table.index value ∙ c.loop-number.invariant.0,
      λ model.
          (let IsBy = IsLinkSource (schema_of model c.args.store.now c.args.mapping.now) in
          let Q : List (Option Source) → Type 0 = λ items. Puts links_to IsBy links (n + 1) c.args.sources.now.items items in
          subst Q (sym c.put.ensures)
          (one_put links_to IsBy links n fragment here value (c.standing_of.result, c.standing_of.ensures model c.args.mapping.now, refl)
          c.args.sources.now.items before (c.loop-number.invariant.1 model))),
    )

pub returns-clause-size : goal.returns-clause-size
returns-clause-size c = c.loop-number.invariant.0

pub returns-clause-puts : goal.returns-clause-puts
returns-clause-puts c = λ model.
    let links = c.args.mapping.now.links in
    let n = c.loop-number.number in
    let P : List LinkFragment → Type 0 = λ items. length items ≤ n in
    all_put links_to (IsLinkSource (schema_of model c.args.store.now c.args.mapping.now)) links n c.args.sources.now.items c.loop-number.sources.items
    (subst P c.as_slice-fragment-items.ensures.items c.loop-number-test.false) (c.loop-number.invariant.1 model)
