use Rattle.std.proofs.Common.{ℕ, List, length, ap}
use Rattle.cells.specs.Cells.{is_free_in}
use Rattle.region_states.specs.region_basis.BasisOf.{basis_of}
use Rattle.region_states.proofs.region_basis.Bases.{basis_is}
use Rattle.round_trip.specs.Words.{PropId}
use Rattle.query_views.proofs.links.LinkLists.{lent_links}
use Rattle.query_views.proofs.links.lent.links_of.Goals as goal

pub returns : goal.returns
returns c =
    let parts = c.args.parts.now in
    let count : List PropId → ℕ = λ props. length props in
    lent_links (basis_of parts) (basis_is parts c.requires.parts) (is_free_in parts.cells.now) c.args.tables.now c.args.assoc c.at-declared.result.now c.at-declared.ensures
    (record { first_len = length c.key_props.result.now; keys = c.in_ok-key_groups.field-0 }) (ap count c.key_props.ensures)
    c.in_ok-keyed.keyed.items c.in_ok-keyed.ensures c.in_ok-key_groups.ensures
