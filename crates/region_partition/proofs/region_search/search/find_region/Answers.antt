use Rattle.std.proofs.Common.{◌≡◌, ◌<◌, ℕ, List, length, Contains, Option, None, Some, sym, subst, ◌∙◌, true≢false}
use Rattle.std.specs.Option.{IfNone, IfSome}
use Rattle.std.proofs.lemmas.Option.{slice_get_within}
use Rattle.emc_base.specs.Lists.{At}
use Rattle.emc_base.proofs.Lists.{at_once}
use Rattle.round_trip.specs.Words.{Hosted}
use Rattle.regions.specs.Regions.{Holds}
use Rattle.regions.specs.declared.region.Region.{Region}
use Rattle.region_states.specs.region_basis.BasisOf.{basis_of}
use Rattle.region_partition.specs.region_search.Standing.{FindsEqual, region_cmp}
use Rattle.region_states.proofs.region_basis.Bases.{basis_is}
use Rattle.region_partition.proofs.region_search.Finding.{none_equal, none_other}
use Rattle.region_partition.proofs.region_search.search.find_region.Goals as goal

pub returns-in_err-place : goal.returns-in_err-place
returns-in_err-place c =
    let basis = basis_of c.args.parts.now in
    let R : List Region → Type 0 = λ regions. FindsEqual (region_cmp basis c.args.entity.now c.as_slice-2.result.now) regions None in
    let L : List Hosted → Type 0 = λ links. FindsEqual (region_cmp basis c.args.entity.now links) c.args.regions.now None in
    let none : L c.args.links.now = subst L c.as_slice-2.ensures.items (subst R c.as_slice.ensures.items c.in_err-place.ensures) in
    let F : Option ℕ → Type 0 = λ found. IfSome found (λ place. (region : Region) × At c.args.regions.now place region × Holds basis region c.args.entity.now c.args.links.now) in
    let N : Option ℕ → Type 0 = λ found. IfNone found ((region : Region) → Contains c.args.regions.now region → ¬ Holds basis region c.args.entity.now c.args.links.now) in
    record {
      found = subst F (sym c.from_residual.ensures) tt;
      none = subst N (sym c.from_residual.ensures)
          (none_equal basis (basis_is c.args.parts.now c.requires.parts) c.args.set c.args.entity.now c.args.links.now c.args.regions.now c.requires.are none);
    }

pub at-requires : goal.at-requires
at-requires c =
    let found = c.in_ok-place.ensures in
    subst (λ (list : List Region). c.in_ok-place.place < length list) c.as_slice.ensures.items (slice_get_within c.as_slice.result.now c.in_ok-place.place found.0 found.1)

pub returns-else-holds : goal.returns-else-holds
returns-else-holds c =
    let basis = basis_of c.args.parts.now in
    let place = c.in_ok-place.place in
    let R : List Region → Type 0 = λ regions. FindsEqual (region_cmp basis c.args.entity.now c.as_slice-2.result.now) regions (Some place) in
    let L : List Hosted → Type 0 = λ links. FindsEqual (region_cmp basis c.args.entity.now links) c.args.regions.now (Some place) in
    let found : L c.args.links.now = subst L c.as_slice-2.ensures.items (subst R c.as_slice.ensures.items c.in_ok-place.ensures) in
    let same : c.at.result.now ≡ found.0 = at_once c.args.regions.now place c.at.result.now found.0 c.at.ensures found.1 in
    let H : List Hosted → Type 0 = λ links. Holds basis c.at.result.now c.args.entity.now links in
    let not_held : ¬ Holds basis found.0 c.args.entity.now c.args.links.now = λ holds.
    let held = subst (λ (region : Region). Holds basis region c.args.entity.now c.args.links.now) (sym same) holds in
    true≢false (sym (c.holds.ensures.1 (subst H (sym c.as_slice-3.ensures.items) held))
    ∙ c.if-holds.false) in
    record {
      found = tt;
      none = none_other basis (basis_is c.args.parts.now c.requires.parts) c.args.set c.args.entity.now c.args.links.now c.args.regions.now c.requires.are
          place found.0 found.1 found.2 not_held;
    }
