use Rattle.std.proofs.Common.{◌≤◌, List, get_or, length, subst}
use Rattle.std.specs.List.{AllZip}
use Rattle.std.proofs.lemmas.List.{take_all}
use Rattle.std.proofs.lemmas.List.Elements.{All-contains}
use Rattle.std.proofs.lemmas.Option.{slice_get-get_or}
use Rattle.emc_base.proofs.Mapped.{contains_at}
use Rattle.round_trip.specs.Words.{AssocId, At}
use Rattle.region_states.specs.region_basis.BasisOf.{basis_of}
use Rattle.query_cases.specs.case_reading.Links.{IsHosted, IsLinkReading}
use Rattle.query_cases.proofs.case_reading.Zips.{zip_more}
use Rattle.query_cases.proofs.case_reading.links.links_of.Goals as goal

pub link_of-requires-clause-hosted : goal.link_of-requires-clause-hosted
link_of-requires-clause-hosted c =
    let linked = c.args.case.now.region.linked in
    let i = c.loop-assoc.assoc-index in
    let items = c.as_slice-assoc-items.result.now in
    let none : AssocId = record { index = 0 } in
    let a : AssocId = get_or items i none in
    let here : At linked i a = subst (λ (list : List AssocId). At list i a) c.as_slice-assoc-items.ensures.items (slice_get-get_or items i none c.loop-assoc-test.true) in
    All-contains (IsHosted (basis_of c.args.parts.now) c.args.case.now.region.set) linked a c.requires.hosted (contains_at linked i a here)

pub loop-assoc-preserved : goal.loop-assoc-preserved
loop-assoc-preserved c =
    let linked = c.args.case.now.region.linked in
    let i = c.loop-assoc.assoc-index in
    let items = c.as_slice-assoc-items.result.now in
    let none : AssocId = record { index = 0 } in
    let a : AssocId = get_or items i none in
    let here : At linked i a = subst (λ (list : List AssocId). At list i a) c.as_slice-assoc-items.ensures.items (slice_get-get_or items i none c.loop-assoc-test.true) in
    zip_more (IsLinkReading (basis_of c.args.parts.now) c.args.case.now) linked i a c.loop-assoc.links c.in_ok-link_of.field-0 c.push.new.self here c.loop-assoc.invariant
    c.in_ok-link_of.ensures c.in_ok-push.ensures.ok

pub returns : goal.returns
returns c =
    let linked = c.args.case.now.region.linked in
    let i = c.loop-assoc.assoc-index in
    let past : length linked ≤ i = subst (λ (list : List AssocId). length list ≤ i) c.as_slice-assoc-items.ensures.items c.loop-assoc-test.false in
    subst (λ (list : List AssocId). AllZip (IsLinkReading (basis_of c.args.parts.now) c.args.case.now) list c.loop-assoc.links) (take_all i linked past) c.loop-assoc.invariant
