use Rattle.std.proofs.Common.{subst, sym, ◌∙◌}
use Rattle.std.proofs.lemmas.Result.{IfOk-weaker}
use Rattle.supported_states.specs.small_parts.Small.{IsSupported}
use Rattle.region_states.specs.region_basis.BasisOf.{basis_of}
use Rattle.witness_state.proofs.small.States.{focus_is, focus_supported, made_is, roots_are, wanted_is, wanted_of}
use Rattle.witness_state.proofs.small_regions.states.region_state.Goals as goal

pub small_state-requires : goal.small_state-requires
small_state-requires c =
    let parts = c.args.parts.now in
    let row = c.args.row in
    let region = c.args.region.now in
    let entity = c.args.entity in
    let values = c.requires.values.0 in
    let has = c.requires.values.1 in
    let wants = wanted_is parts c.requires.parts row c.requires.row region entity values has c.as_slice.result.now c.in_ok-made.made.given c.as_slice.ensures.items c.in_ok-made.ensures.given
    c.nothing-asked.result.wanted c.nothing-asked.ensures.wanted c.ask.new.asked.wanted c.in_ok-ask.ensures.wanted in
    let is = made_is (basis_of parts) row region values entity has c.ask.new.asked.wanted (wanted_of parts c.requires.parts row c.requires.row region entity values has) c.in_ok-made.made.given
    c.in_ok-made.made.links c.in_ok-one.one c.in_ok-made.ensures.given c.in_ok-made.ensures.links wants c.in_ok-one.ensures in
    subst (IsSupported parts.model.now row) (sym is) (focus_supported parts c.requires.parts row c.requires.row region entity values has)

pub returns : goal.returns
returns c values has =
    let parts = c.args.parts.now in
    let row = c.args.row in
    let region = c.args.region.now in
    let entity = c.args.entity in
    let wants = wanted_is parts c.requires.parts row c.requires.row region entity values has c.as_slice.result.now c.in_ok-made.made.given c.as_slice.ensures.items c.in_ok-made.ensures.given
    c.nothing-asked.result.wanted c.nothing-asked.ensures.wanted c.ask.new.asked.wanted c.in_ok-ask.ensures.wanted in
    let is = made_is (basis_of parts) row region values entity has c.ask.new.asked.wanted (wanted_of parts c.requires.parts row c.requires.row region entity values has) c.in_ok-made.made.given
    c.in_ok-made.made.links c.in_ok-one.one c.in_ok-made.ensures.given c.in_ok-made.ensures.links wants c.in_ok-one.ensures in
    let roots = roots_are parts c.requires.parts row c.requires.row region entity values has c.as_slice.result.now c.in_ok-made.made.given c.as_slice.ensures.items c.in_ok-made.ensures.given
    c.nothing-asked.result.roots c.nothing-asked.ensures.roots c.ask.new.asked.roots c.in_ok-ask.ensures.roots in
    IfOk-weaker c.small_state.result _ _ (λ state same. same ∙ focus_is parts c.requires.parts row c.requires.row region entity values has c.in_ok-one.one c.ask.new.asked.roots is roots) c.small_state.ensures
