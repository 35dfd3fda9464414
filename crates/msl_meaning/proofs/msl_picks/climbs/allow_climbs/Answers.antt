use Rattle.std.proofs.Common.{◌≡◌, ◌≤◌, List, All, Some, take, length, slice_get, refl, sym, subst}
use Rattle.std.proofs.lemmas.List.{take_all}
use Rattle.std.proofs.lemmas.List.Elements.{All-push}
use Rattle.std.proofs.lemmas.Option.{slice_get_read}
use Rattle.emc_base.proofs.Loops.{take_item}
use Rattle.msl_rules.specs.declared.msl_lists.raw.RawSetMapping.{RawSetMapping}
use Rattle.msl_rules.specs.KeepsMapping.{HasShortLists}
use Rattle.msl_meaning.proofs.msl_picks.climbs.allow_climbs.Goals as goal

pub loop-set-preserved : goal.loop-set-preserved
loop-set-preserved c =
    let items = c.args.raw.now.sets in
    let at = c.loop-set.set-index in
    let same = c.as_slice-set-items.ensures.items in
    let here = subst (λ (xs : List RawSetMapping). slice_get xs at ≡ Some c.set-item.result) same (slice_get_read _ _ at _ refl c.loop-set-test.true c.set-item.is) in
    let Q : List RawSetMapping → Type 0 = All HasShortLists in
    subst Q (sym (take_item items at c.set-item.result here)) (All-push HasShortLists (take at items) c.set-item.result c.loop-set.invariant c.in_ok-left.ensures)

pub returns : goal.returns
returns c =
    let Q : List RawSetMapping → Type 0 = All HasShortLists in
    let passed = subst (λ (xs : List RawSetMapping). length xs ≤ c.loop-set.set-index) c.as_slice-set-items.ensures.items c.loop-set-test.false in
    record {
      few = record {
        sets = c.as_slice-set-items.ensures.bound;
        each = subst Q (take_all c.loop-set.set-index c.args.raw.now.sets passed) c.loop-set.invariant;
        links = c.as_slice-link-items.ensures.bound;
      };
    }
