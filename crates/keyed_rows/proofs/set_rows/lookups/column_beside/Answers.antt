use Rattle.std.proofs.Common.{◌≢◌, ◌==◌, All, refl, sym, ap, subst, ◌∙◌, get_or}
use Rattle.std.proofs.lemmas.Bool.Decides.{Decides-eqb, not_from_Decides}
use Rattle.std.proofs.lemmas.List.{take_all}
use Rattle.std.proofs.lemmas.List.Elements.{All-contains, All-more}
use Rattle.edm_types.specs.Types.{PropId}
use Rattle.keyed_rows.proofs.set_rows.lookups.column_beside.Goals as goal

pub loop-place-preserved : goal.loop-place-preserved
loop-place-preserved c =
    let Other : PropId → Type 0 = λ other. other ≢ c.args.prop in
    let this : PropId = get_or c.args.props.now c.loop-place.place (record { index = 0 }) in
    let told = sym c.eq.ensures ∙ c.if-eq.false in
    All-more Other c.args.props.now c.loop-place.place (record { index = 0 }) c.loop-place-test.true c.loop-place.invariant
    (λ same. not_from_Decides (this.index == c.args.prop.index) (Decides-eqb this.index c.args.prop.index) told (ap (λ (p : PropId). p.index) same))

pub unreachable-requires : goal.unreachable-requires
unreachable-requires c =
    let Other : PropId → Type 0 = λ other. other ≢ c.args.prop in
    let whole : All Other c.args.props.now = subst (All Other) (take_all c.loop-place.place c.args.props.now c.loop-place-test.false) c.loop-place.invariant in
    All-contains Other c.args.props.now c.args.prop whole c.requires.among refl
