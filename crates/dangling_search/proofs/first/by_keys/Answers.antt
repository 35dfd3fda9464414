use Rattle.std.proofs.Common.{◌≡◌, ◌≤◌, ◌<◌, List, length, refl, sym, ap, subst, arith}
use Rattle.std.proofs.lemmas.List.Elements.{All-contains}
use Rattle.std.proofs.lemmas.Option.{slice_get_read, slice_get_within}
use Rattle.emc_base.proofs.Lists.{at_once}
use Rattle.emc_base.proofs.Mapped.{contains_at}
use Rattle.cells.specs.Parts.{schema_in}
use Rattle.round_trip.specs.Words.{At, ForeignKey}
use Rattle.round_trip.specs.soundness.Stores.{HasForeignIds}
use Rattle.regions.specs.declared.pattern.Focus.{Focus}
use Rattle.region_states.specs.region_basis.BasisOf.{basis_of}
use Rattle.dangling_search.specs.Searched.{FindsKey}
use Rattle.dangling_search.proofs.Searching.{NeverAt, so_of_one_more}
use Rattle.dangling_search.proofs.first.by_keys.Goals as goal

pub by_key-requires-clause-within : goal.by_key-requires-clause-within
by_key-requires-clause-within c =
    let i = c.loop-index.index in
    let keys = c.args.parts.now.store.now.keys in
    let here : At keys i c.key-item.result = subst (λ (list : List ForeignKey). At list i c.key-item.result) c.as_slice-key-items.ensures.items (slice_get_read _ _ i _ refl c.loop-index-test.true c.key-item.is) in
    let ids : HasForeignIds (schema_in c.args.parts.now).store c.key-item.result = All-contains (HasForeignIds (schema_in c.args.parts.now).store) keys c.key-item.result c.requires.parts.sound.store.ids.foreign
    (contains_at keys i c.key-item.result here) in
    ids.to

pub by_key-requires-clause-from : goal.by_key-requires-clause-from
by_key-requires-clause-from c =
    let i = c.loop-index.index in
    let keys = c.args.parts.now.store.now.keys in
    let here : At keys i c.key-item.result = subst (λ (list : List ForeignKey). At list i c.key-item.result) c.as_slice-key-items.ensures.items (slice_get_read _ _ i _ refl c.loop-index-test.true c.key-item.is) in
    let ids : HasForeignIds (schema_in c.args.parts.now).store c.key-item.result = All-contains (HasForeignIds (schema_in c.args.parts.now).store) keys c.key-item.result c.requires.parts.sound.store.ids.foreign
    (contains_at keys i c.key-item.result here) in
    ids.from

pub loop-index-preserved : goal.loop-index-preserved
loop-index-preserved c =
    let basis = basis_of c.args.parts.now in
    let i = c.loop-index.index in
    let keys = c.args.parts.now.store.now.keys in
    let here : At keys i c.key-item.result = subst (λ (list : List ForeignKey). At list i c.key-item.result) c.as_slice-key-items.ensures.items (slice_get_read _ _ i _ refl c.loop-index-test.true c.key-item.is) in
    so_of_one_more (λ n. (key : ForeignKey) → At keys n key → (of : Focus) → NeverAt basis key of) i c.loop-index.invariant
    (λ key at of. subst (λ (one : ForeignKey). NeverAt basis one of) (sym (at_once keys i key c.key-item.result at here))
    (subst (FindsKey basis c.key-item.result) c.in_default.is c.in_ok-spot.ensures of refl))

pub returns-clause-free : goal.returns-clause-free
returns-clause-free c = λ same told dangling.
    (let keys = c.args.parts.now.store.now.keys in
    let within : told.key.index < length keys = slice_get_within keys told.key.index dangling.key dangling.is_key in
    let items : length c.as_slice-key-items.result.now ≡ length keys = ap length c.as_slice-key-items.ensures.items in
    let end : length c.as_slice-key-items.result.now ≤ c.loop-index.index = c.loop-index-test.false in
    c.loop-index.invariant told.key.index (omega (arith, within, items, end)) dangling.key dangling.is_key told.focus told.principal dangling.dangles)
