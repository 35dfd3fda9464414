use Rattle.std.proofs.Common.{◌≡◌, List, map, ap, subst, ◌∙◌}
use Rattle.condition_logic.specs.declared.atoms.AtomOf.{AtomOf}
use Rattle.round_trip.specs.Words.{PropId, props_of}
use Rattle.case_laws.specs.declared.region_cases.case.CaseRow.{CaseRow}
use Rattle.region_states.specs.region_basis.BasisOf.{basis_of}
use Rattle.query_cases.specs.declared.case_reading.reading.Source.{Source}
use Rattle.query_cases.specs.case_reading.Noted.{AreNoted, source_by}
use Rattle.query_cases.specs.case_reading.Shown.{shown_props}
use Rattle.cells.specs.Cells.{is_free_in}
use Rattle.region_states.proofs.region_basis.Bases.{basis_is}
use Rattle.query_cases.proofs.case_reading.Noting.{reading_is}
use Rattle.query_cases.proofs.case_reading.Parts.{linked_hosted}
use Rattle.query_cases.proofs.case_reading.reading.Reading.of.Goals as goal

pub links_of-requires-clause-hosted : goal.links_of-requires-clause-hosted
links_of-requires-clause-hosted c =
    let parts = c.args.parts.now in
    linked_hosted parts c.requires.parts (basis_is parts c.requires.parts) (is_free_in parts.cells.now) c.requires.case.0 c.args.case.now c.requires.case.1

pub returns : goal.returns
returns c =
    let case = c.args.case.now in
    let model = c.args.parts.now.model.now in
    let firsts = c.in_ok-firsts.firsts in
    let twins = c.in_ok-firsts.twins in
    let values : List Source = c.in_ok-values.values in
    let noted = subst (λ (rows : List CaseRow). AreNoted (shown_props rows) firsts twins) c.as_slice.ensures.items c.in_ok-firsts.ensures in
    let is : values ≡ map (source_by case.region.atoms firsts) (props_of model case.region.ty) = c.in_ok-values.ensures
    ∙ ap (λ (atoms : List AtomOf). map (source_by atoms firsts) c.props_of-props.result.now) c.as_slice-2.ensures.items
    ∙ ap (λ (props : List PropId). map (source_by case.region.atoms firsts) props) c.props_of-props.ensures in
    reading_is case (basis_of c.args.parts.now) (record { values = values; twins = twins; links = c.in_ok-links.links }) firsts noted is c.in_ok-links.ensures
