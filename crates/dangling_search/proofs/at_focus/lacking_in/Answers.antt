use Rattle.std.proofs.Common.{◌≡◌, List, Bool, find, ap, ◌∙◌}
use Rattle.round_trip.specs.Words.{TypeId}
use Rattle.regions.specs.declared.region.Region.{Region}
use Rattle.region_states.specs.region_basis.BasisOf.{basis_of}
use Rattle.forced_entities.specs.declared.member.Forced.{Forced}
use Rattle.dangling_keys.specs.Showing.{fits}
use Rattle.dangling_search.specs.Found.{is_below, is_below_all}
use Rattle.dangling_search.proofs.Lists.{all_passing}
use Rattle.dangling_search.proofs.at_focus.lacking_in.Goals as goal

pub returns : goal.returns
returns c =
    let basis = basis_of c.args.parts.now in
    let owned = c.args.target.now.owned in
    let test : Region → Bool = is_below_all basis c.args.look.of.now c.args.key.now owned c.args.list.now in
    let same : (region : Region) → is_below basis c.as_slice-2.result.now region ≡ test region = λ region.
    (ap (λ (them : List TypeId). is_below basis them region) (c.as_slice-2.ensures.items ∙ c.in_ok-types.ensures)
    ∙ all_passing (fits basis c.args.look.of.now c.args.key.now owned.set owned.pairing) (λ (one : Forced). one.ty) (basis.is_a region.ty) c.args.list.now) in
    c.first_below.ensures ∙ ap (find (is_below basis c.as_slice-2.result.now)) c.as_slice.ensures.items ∙ (λ k. find (λ region. same region k) c.args.target.now.lacking)
