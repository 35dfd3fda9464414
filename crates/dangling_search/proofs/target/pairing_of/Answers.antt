use Rattle.std.proofs.Common.{◌≡◌, List, sym, ap, subst, ◌∙◌}
use Rattle.std.proofs.lemmas.Result.{IfOk-weaker}
use Rattle.cells.specs.Parts.{schema_in}
use Rattle.round_trip.specs.Words.{ColId, key_columns}
use Rattle.region_states.specs.region_basis.BasisOf.{basis_of}
use Rattle.dangling_keys.specs.Dangling.{OwnsTable}
use Rattle.dangling_search.specs.Found.{pairs_by}
use Rattle.dangling_search.proofs.Owning.{owns_by}
use Rattle.dangling_search.proofs.target.pairing_of.Goals as goal

pub returns : goal.returns
returns c =
    let parts = c.args.parts.now in
    let told = c.requires.parts.cells.pairings.each c.args.table c.pairing-props.result.now c.pairing-props.ensures in
    let owns = owns_by parts c.requires.parts c.args.table c.args.set c.requires.owned c.pairing-props.result.now told in
    let cols : pairs_by c.key_columns-cols.result.now c.as_slice.result.now ≡ pairs_by (key_columns (schema_in parts).store c.args.table) c.pairing-props.result.now =
    ap (λ (cols : List ColId). pairs_by cols c.as_slice.result.now) c.key_columns-cols.ensures ∙ ap (pairs_by (key_columns (schema_in parts).store c.args.table)) c.as_slice.ensures.items in
    IfOk-weaker c.pairs_by.result _ _ (λ pairs is_it. subst (OwnsTable (basis_of parts) c.args.table c.args.set) (sym (is_it ∙ cols)) owns) c.pairs_by.ensures
