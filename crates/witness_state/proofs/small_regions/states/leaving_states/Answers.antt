use Rattle.std.proofs.Common.{◌≤◌, subst, sym, ◌∙◌, arith}
use Rattle.supported_states.specs.small_parts.Small.{IsSupported}
use Rattle.region_states.specs.region_basis.BasisOf.{basis_of}
use Rattle.witness_state.proofs.small.States.{both_ok, focus_supported, leaving_is, left_is, left_supported, made_is, roots_are, wanted_is, wanted_of}
use Rattle.witness_state.proofs.small_regions.states.leaving_states.Goals as goal

first_row : 0 ≤ 4
first_row = omega arith

pub small_states-requires-clause-one : goal.small_states-requires-clause-one
small_states-requires-clause-one c =
    let parts = c.args.parts.now in
    let region = c.args.region.now in
    let entity = c.args.entity in
    let values = c.requires.values.0 in
    let has = c.requires.values.1 in
    let wants = wanted_is parts c.requires.parts 0 first_row region entity values has c.as_slice.result.now c.in_ok-made.made.given c.as_slice.ensures.items c.in_ok-made.ensures.given
    c.nothing-asked.result.wanted c.nothing-asked.ensures.wanted c.ask.new.asked.wanted c.in_ok-ask.ensures.wanted in
    let is = made_is (basis_of parts) 0 region values entity has c.ask.new.asked.wanted (wanted_of parts c.requires.parts 0 first_row region entity values has) c.in_ok-made.made.given
    c.in_ok-made.made.links c.in_ok-with.with c.in_ok-made.ensures.given c.in_ok-made.ensures.links wants c.in_ok-with.ensures in
    subst (IsSupported parts.model.now 0) (sym is) (focus_supported parts c.requires.parts 0 first_row region entity values has)

pub small_states-requires-clause-two : goal.small_states-requires-clause-two
small_states-requires-clause-two c =
    let parts = c.args.parts.now in
    let region = c.args.region.now in
    let entity = c.args.entity in
    let values = c.requires.values.0 in
    let has = c.requires.values.1 in
    let wants = wanted_is parts c.requires.parts 0 first_row region entity values has c.as_slice.result.now c.in_ok-made.made.given c.as_slice.ensures.items c.in_ok-made.ensures.given
    c.nothing-asked.result.wanted c.nothing-asked.ensures.wanted c.ask.new.asked.wanted c.in_ok-ask.ensures.wanted in
    let left = left_is parts c.requires.parts 0 first_row region entity values has c.ask.new.asked.wanted c.empty.result c.empty-2.result c.in_ok-without.without c.empty.ensures c.empty-2.ensures wants
    c.in_ok-without.ensures in
    subst (IsSupported parts.model.now 0) (sym left) (left_supported parts c.requires.parts 0 first_row region entity values has c.requires.few c.requires.one)

pub returns : goal.returns
returns c values has =
    let parts = c.args.parts.now in
    let region = c.args.region.now in
    let entity = c.args.entity in
    let wants = wanted_is parts c.requires.parts 0 first_row region entity values has c.as_slice.result.now c.in_ok-made.made.given c.as_slice.ensures.items c.in_ok-made.ensures.given
    c.nothing-asked.result.wanted c.nothing-asked.ensures.wanted c.ask.new.asked.wanted c.in_ok-ask.ensures.wanted in
    let is = made_is (basis_of parts) 0 region values entity has c.ask.new.asked.wanted (wanted_of parts c.requires.parts 0 first_row region entity values has) c.in_ok-made.made.given
    c.in_ok-made.made.links c.in_ok-with.with c.in_ok-made.ensures.given c.in_ok-made.ensures.links wants c.in_ok-with.ensures in
    let left = left_is parts c.requires.parts 0 first_row region entity values has c.ask.new.asked.wanted c.empty.result c.empty-2.result c.in_ok-without.without c.empty.ensures c.empty-2.ensures wants
    c.in_ok-without.ensures in
    let roots = roots_are parts c.requires.parts 0 first_row region entity values has c.as_slice.result.now c.in_ok-made.made.given c.as_slice.ensures.items c.in_ok-made.ensures.given
    c.nothing-asked.result.roots c.nothing-asked.ensures.roots c.ask.new.asked.roots c.in_ok-ask.ensures.roots in
    let told = leaving_is parts c.requires.parts 0 first_row region entity values has c.in_ok-with.with c.in_ok-without.without c.ask.new.asked.roots is left roots in
    both_ok _ _ _ (λ both first second. (first ∙ told.0, second ∙ told.1)) c.small_states.result c.small_states.ensures.one c.small_states.ensures.two
