use Rattle.std.proofs.Common.{◌≡◌, ◌+◌, ◌<◌, ℕ, List, get_or, length, ap, ◌∙◌, arith}
use Rattle.round_trip.specs.soundness.models.Inheritance.{prop_numbered}
use Rattle.csdl_meaning.specs.Meaning.{declared_before}
use Rattle.csdl_meaning.proofs.csdl_making.Numbered.{start_at, starts_long}
use Rattle.csdl_meaning.proofs.csdl_making.ids.prop_id.Goals as goal

pub bounds-as_slice-found : goal.bounds-as_slice-found
bounds-as_slice-found c =
    let raw = c.args.lookups.now.model.now in
    let long : length c.as_slice.result.now ≡ length raw.types = ap (λ (noted : List ℕ). length noted) c.as_slice.ensures.items ∙ starts_long raw c.args.starts.now c.requires.starts in
    let inside : c.args.found.owner < length raw.types = c.requires.inside in
    omega (arith, long, inside)

pub offset_bounds-as_slice-found : goal.offset_bounds-as_slice-found
offset_bounds-as_slice-found c =
    let raw = c.args.lookups.now.model.now in
    let long : length c.args.starts.now ≡ length raw.types = starts_long raw c.args.starts.now c.requires.starts in
    let inside : c.args.found.owner < length raw.types = c.requires.inside in
    let few : length c.args.starts.now < 4294967296 = c.as_slice.ensures.bound in
    omega (arith, long, inside, few)

pub returns : goal.returns
returns c =
    let raw = c.args.lookups.now.model.now in
    let start : get_or c.as_slice.result.now c.args.found.owner 0 ≡ declared_before raw c.args.found.owner =
    ap (λ (noted : List ℕ). get_or noted c.args.found.owner 0) c.as_slice.ensures.items ∙ start_at raw c.args.starts.now c.requires.starts c.args.found.owner 0 c.requires.inside in
    ap prop_numbered (c.in_ok-index.ensures ∙ c.in_ok-sum_of.ensures ∙ ap (λ n. n + c.args.found.place) start)
