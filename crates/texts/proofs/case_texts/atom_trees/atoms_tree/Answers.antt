use Rattle.std.proofs.Common.{ap, length, refl, sym, ◌∙◌}
use Rattle.std.proofs.lemmas.Option.{slice_get_read}
use Rattle.serde_json.specs.Data.{no_members, put}
use Rattle.serde_json.specs.View.{members_view}
use Rattle.json_form.proofs.Objects.{put_all-take}
use Rattle.region_states.specs.region_basis.BasisOf.{basis_of}
use Rattle.texts.specs.case_texts.CaseTree.{atom_member}
use Rattle.texts.proofs.case_texts.atom_trees.atoms_tree.Goals as goal

pub loop-told-preserved : goal.loop-told-preserved
loop-told-preserved c =
    let atoms = c.args.atoms.now in
    let i = c.loop-told.told-index in
    let told = c.told-item.result in
    let f = atom_member (basis_of c.args.parts.now) in
    let members = members_view c.loop-told.members.entries in
    c.in_ok-put.ensures.ok
    ∙ ap (λ d. put c.name_of.result.now d members) c.in_ok-tree.ensures
    ∙ ap (λ name. put name (f told).1 members) c.name_of.ensures
    ∙ ap (put (f told).0 (f told).1) c.loop-told.invariant
    ∙ sym (put_all-take no_members f atoms i told (slice_get_read atoms (length atoms) i told refl c.loop-told-test.true c.told-item.is))
