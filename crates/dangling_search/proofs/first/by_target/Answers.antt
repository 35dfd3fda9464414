use Rattle.std.proofs.Common.{◌≡◌, Option, Some, ap, subst, ◌∙◌}
use Rattle.std.proofs.lemmas.Result.{IfOk-weaker}
use Rattle.table_owners.specs.Owners.{TellsOwner}
use Rattle.table_owners.specs.declared.table_writers.writer.Owner.{Owner}
use Rattle.regions.specs.declared.pattern.Focus.{Focus}
use Rattle.regions.specs.declared.pattern.Focus.TheVariants as focus
use Rattle.region_states.specs.region_basis.BasisOf.{basis_of}
use Rattle.region_states.proofs.region_basis.Bases.{basis_is}
use Rattle.dangling_search.proofs.Writers.{IsOfSet, assoc_within, of_joined, of_nothing, of_owner}
use Rattle.dangling_search.proofs.Searching.{found_among}
use Rattle.dangling_search.proofs.first.by_target.Goals as goal

pub at_links-requires-clause-within : goal.at_links-requires-clause-within
at_links-requires-clause-within c =
    let basis = basis_of c.args.parts.now in
    let tells = c.requires.parts.cells.owners.each c.args.key.now.from c.owner.result c.owner.ensures in
    let Tells : Option Owner → Type 0 = TellsOwner basis.schema c.args.key.now.from in
    assoc_within basis (basis_is c.args.parts.now c.requires.parts) c.args.key.now.from c.in-Some-Assoc.assoc (subst Tells (c.in-Some-Assoc.is ∙ ap Some c.in-Some-Assoc.field-0-is) tells)

pub returns-in-Some-Set : goal.returns-in-Some-Set
returns-in-Some-Set c =
    let basis = basis_of c.args.parts.now in
    let key = c.args.key.now in
    let tells = c.requires.parts.cells.owners.each key.from c.owner.result c.owner.ensures in
    let Tells : Option Owner → Type 0 = TellsOwner basis.schema key.from in
    let set = c.in-Some-Set.set in
    let owns = subst Tells (c.in-Some-Set.is ∙ ap Some c.in-Some-Set.field-0-is) tells in
    IfOk-weaker c.in_owner.result _ _ (λ found told. found_among basis key (IsOfSet basis set)
    (λ of principal dangles. of_owner basis (basis_is c.args.parts.now c.requires.parts) key.from set owns of dangles.of_rows dangles.refers.row) found told) c.in_owner.ensures

pub returns-in-Some-Assoc : goal.returns-in-Some-Assoc
returns-in-Some-Assoc c =
    let basis = basis_of c.args.parts.now in
    let key = c.args.key.now in
    let tells = c.requires.parts.cells.owners.each key.from c.owner.result c.owner.ensures in
    let Tells : Option Owner → Type 0 = TellsOwner basis.schema key.from in
    let assoc = c.in-Some-Assoc.assoc in
    let owns = subst Tells (c.in-Some-Assoc.is ∙ ap Some c.in-Some-Assoc.field-0-is) tells in
    IfOk-weaker c.at_links.result _ _ (λ found told. found_among basis key (λ (of : Focus). of ≡ focus.Link assoc)
    (λ of principal dangles. of_joined basis (basis_is c.args.parts.now c.requires.parts) key.from assoc owns of dangles.of_rows dangles.refers.row) found told) c.at_links.ensures

pub returns-in-None : goal.returns-in-None
returns-in-None c =
    let basis = basis_of c.args.parts.now in
    let key = c.args.key.now in
    let tells = c.requires.parts.cells.owners.each key.from c.owner.result c.owner.ensures in
    let Tells : Option Owner → Type 0 = TellsOwner basis.schema key.from in
    λ of any principal dangles. of_nothing basis (basis_is c.args.parts.now c.requires.parts) key.from (subst Tells c.in-None.is tells) of dangles.of_rows dangles.refers.row
