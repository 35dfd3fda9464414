use Rattle.std.proofs.Common.{◌++◌, ℕ, List, append-nil, sym, ap, ◌∙◌}
use Rattle.std.specs.List.{enumerate_from, flat_map}
use Rattle.round_trip.specs.Words.{Fragment}
use Rattle.schema_names.specs.SchemaNames.{set_named}
use Rattle.msl_rules.specs.declared.msl_lists.raw.RawTypeMapping.{RawTypeMapping}
use Rattle.emc_base.proofs.Turns.{all_placed, at_place}
use Rattle.msl_meaning.specs.msl_making.Walk.{fragments_of}
use Rattle.msl_meaning.proofs.msl_making.Behind.{flat_behind}
use Rattle.msl_meaning.proofs.msl_making.Walked.{of_no_set, of_set}
use Rattle.msl_meaning.proofs.msl_making.mapping.put_set.Goals as goal

pub returns-in_default : goal.returns-in_default
returns-in_default c =
    let names = c.args.names.now in
    sym (append-nil c.args.made.now) ∙ ap (λ more. c.args.made.now ++ more) (sym (of_no_set names.model.now names.store.now c.args.place c.args.mapping.now (ap (set_named names.model.now) (sym c.as_str.ensures.text) ∙ sym c.in_default.ensures)))

pub loop-inside-preserved : goal.loop-inside-preserved
loop-inside-preserved c =
    let names = c.args.names.now in
    let types = c.args.mapping.now.types in
    let f : ℕ × RawTypeMapping → List Fragment = λ j. fragments_of names.model.now names.store.now c.in-Some.set c.args.place j.0 j.1 in
    c.in_ok-put_types.ensures
    ∙ flat_behind f c.args.made.now c.loop-inside.made (enumerate_from 0 types) c.loop-inside.inside (c.loop-inside.inside, c.types-item.result) c.loop-inside.invariant
    (at_place c.as_slice-types-items.result.now types c.loop-inside.inside c.types-item.result c.as_slice-types-items.ensures.items c.loop-inside-test.true c.types-item.is)

pub returns : goal.returns
returns c =
    let names = c.args.names.now in
    let types = c.args.mapping.now.types in
    let f : ℕ × RawTypeMapping → List Fragment = λ j. fragments_of names.model.now names.store.now c.in-Some.set c.args.place j.0 j.1 in
    c.loop-inside.invariant
    ∙ ap (λ items. c.args.made.now ++ flat_map f items) (all_placed c.as_slice-types-items.result.now types c.loop-inside.inside c.as_slice-types-items.ensures.items c.loop-inside-test.false)
    ∙ ap (λ more. c.args.made.now ++ more) (of_set names.model.now names.store.now c.args.place c.args.mapping.now c.in-Some.set (ap (set_named names.model.now) (sym c.as_str.ensures.text) ∙ sym c.in-Some.ensures))
