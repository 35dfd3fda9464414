use Rattle.std.proofs.Common.{◌≡◌, ◌≤◌, List, All, Some, take, length, slice_get, refl, sym, subst}
use Rattle.std.proofs.lemmas.List.{take_all}
use Rattle.std.proofs.lemmas.List.Elements.{All-push}
use Rattle.std.proofs.lemmas.Option.{slice_get_read}
use Rattle.emc_base.proofs.Loops.{take_item}
use Rattle.msl_rules.specs.declared.msl_lists.raw.RawTypeMapping.{RawTypeMapping}
use Rattle.msl_rules.specs.KeepsMapping.{IsShort}
use Rattle.msl_meaning.proofs.msl_picks.climbs.without_set.Goals as goal

-- few fragments
abbrev HasFew : RawTypeMapping → Type 0
HasFew types = IsShort types.fragments

pub loop-types-preserved : goal.loop-types-preserved
loop-types-preserved c =
    let items = c.args.set.now.types in
    let at = c.loop-types.types-index in
    let same = c.as_slice-types-items.ensures.items in
    let here = subst (λ (xs : List RawTypeMapping). slice_get xs at ≡ Some c.types-item.result) same (slice_get_read _ _ at _ refl c.loop-types-test.true c.types-item.is) in
    let Q : List RawTypeMapping → Type 0 = All HasFew in
    subst Q (sym (take_item items at c.types-item.result here)) (All-push HasFew (take at items) c.types-item.result c.loop-types.invariant c.names_in.ensures)

pub returns : goal.returns
returns c =
    let Q : List RawTypeMapping → Type 0 = All HasFew in
    record { types = c.as_slice-types-items.ensures.bound; fragments = subst Q (take_all c.loop-types.types-index c.args.set.now.types (subst (λ (xs : List RawTypeMapping). length xs ≤ c.loop-types.types-index) c.as_slice-types-items.ensures.items c.loop-types-test.false)) c.loop-types.invariant }
