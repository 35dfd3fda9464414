use Rattle.std.proofs.Common.{◌≤◌, subst, sym, ◌∙◌, arith}
use Rattle.supported_states.specs.small_parts.Small.{IsSupported}
use Rattle.region_states.specs.region_basis.BasisOf.{basis_of}
use Rattle.witness_state.proofs.small.States.{both_ok, both_roots, both_wanted, made_is, one_supported, rivals_are, two_supported, wanted_of_both}
use Rattle.witness_state.proofs.small_regions.states.pair_of_states.Goals as goal

first_row : 0 ≤ 4
first_row = omega arith

pub small_states-requires-clause-one : goal.small_states-requires-clause-one
small_states-requires-clause-one c =
    let parts = c.args.parts.now in
    let one = c.args.one.now in
    let two = c.args.two.now in
    let first = c.args.first in
    let second = c.args.second in
    let values = c.requires.pair.0 in
    let others = c.requires.pair.1 in
    let pair = c.requires.pair.2 in
    let wants = both_wanted parts c.requires.parts 0 first_row one two first second values others pair c.as_slice.result.now c.in_ok-made.made.given c.as_slice.ensures.items c.in_ok-made.ensures.given
    c.as_slice-2.result.now c.in_ok-other.other.given c.as_slice-2.ensures.items c.in_ok-other.ensures.given c.nothing-asked.result.wanted c.nothing-asked.ensures.wanted
    c.ask.new.asked.wanted c.ask-2.new.asked.wanted c.in_ok-ask.ensures.wanted c.in_ok-ask-2.ensures.wanted in
    let all = wanted_of_both parts c.requires.parts 0 first_row one two first second values others pair in
    let near = made_is (basis_of parts) 0 one values first pair.one_has c.ask-2.new.asked.wanted all c.in_ok-made.made.given c.in_ok-made.made.links c.in_ok-near.near
    c.in_ok-made.ensures.given c.in_ok-made.ensures.links wants c.in_ok-near.ensures in
    subst (IsSupported parts.model.now 0) (sym near) (one_supported parts c.requires.parts 0 first_row one two first second values others pair)

pub small_states-requires-clause-two : goal.small_states-requires-clause-two
small_states-requires-clause-two c =
    let parts = c.args.parts.now in
    let one = c.args.one.now in
    let two = c.args.two.now in
    let first = c.args.first in
    let second = c.args.second in
    let values = c.requires.pair.0 in
    let others = c.requires.pair.1 in
    let pair = c.requires.pair.2 in
    let wants = both_wanted parts c.requires.parts 0 first_row one two first second values others pair c.as_slice.result.now c.in_ok-made.made.given c.as_slice.ensures.items c.in_ok-made.ensures.given
    c.as_slice-2.result.now c.in_ok-other.other.given c.as_slice-2.ensures.items c.in_ok-other.ensures.given c.nothing-asked.result.wanted c.nothing-asked.ensures.wanted
    c.ask.new.asked.wanted c.ask-2.new.asked.wanted c.in_ok-ask.ensures.wanted c.in_ok-ask-2.ensures.wanted in
    let all = wanted_of_both parts c.requires.parts 0 first_row one two first second values others pair in
    let far = made_is (basis_of parts) 0 two others second pair.two_has c.ask-2.new.asked.wanted all c.in_ok-other.other.given c.in_ok-other.other.links c.in_ok-far.far
    c.in_ok-other.ensures.given c.in_ok-other.ensures.links wants c.in_ok-far.ensures in
    subst (IsSupported parts.model.now 0) (sym far) (two_supported parts c.requires.parts 0 first_row one two first second values others pair)

pub returns : goal.returns
returns c values others pair =
    let parts = c.args.parts.now in
    let one = c.args.one.now in
    let two = c.args.two.now in
    let first = c.args.first in
    let second = c.args.second in
    let wants = both_wanted parts c.requires.parts 0 first_row one two first second values others pair c.as_slice.result.now c.in_ok-made.made.given c.as_slice.ensures.items c.in_ok-made.ensures.given
    c.as_slice-2.result.now c.in_ok-other.other.given c.as_slice-2.ensures.items c.in_ok-other.ensures.given c.nothing-asked.result.wanted c.nothing-asked.ensures.wanted
    c.ask.new.asked.wanted c.ask-2.new.asked.wanted c.in_ok-ask.ensures.wanted c.in_ok-ask-2.ensures.wanted in
    let all = wanted_of_both parts c.requires.parts 0 first_row one two first second values others pair in
    let near = made_is (basis_of parts) 0 one values first pair.one_has c.ask-2.new.asked.wanted all c.in_ok-made.made.given c.in_ok-made.made.links c.in_ok-near.near
    c.in_ok-made.ensures.given c.in_ok-made.ensures.links wants c.in_ok-near.ensures in
    let far = made_is (basis_of parts) 0 two others second pair.two_has c.ask-2.new.asked.wanted all c.in_ok-other.other.given c.in_ok-other.other.links c.in_ok-far.far
    c.in_ok-other.ensures.given c.in_ok-other.ensures.links wants c.in_ok-far.ensures in
    let roots = both_roots parts c.requires.parts 0 first_row one two first second values others pair c.as_slice.result.now c.in_ok-made.made.given c.as_slice.ensures.items c.in_ok-made.ensures.given
    c.as_slice-2.result.now c.in_ok-other.other.given c.as_slice-2.ensures.items c.in_ok-other.ensures.given c.nothing-asked.result.roots c.nothing-asked.ensures.roots
    c.ask.new.asked.roots c.ask-2.new.asked.roots c.in_ok-ask.ensures.roots c.in_ok-ask-2.ensures.roots in
    let told = rivals_are parts c.requires.parts 0 first_row one two first second values others pair c.in_ok-near.near c.in_ok-far.far c.ask-2.new.asked.roots near far roots in
    both_ok _ _ _ (λ both one_is two_is. (one_is ∙ told.0, two_is ∙ told.1)) c.small_states.result c.small_states.ensures.one c.small_states.ensures.two
