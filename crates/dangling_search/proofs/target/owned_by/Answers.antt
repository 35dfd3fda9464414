use Rattle.std.proofs.Common.{Option, Some, ap, subst, ◌∙◌}
use Rattle.cells.specs.Parts.{schema_in}
use Rattle.table_owners.specs.Owners.{TellsOwner}
use Rattle.table_owners.specs.declared.table_writers.writer.Owner.{Owner}
use Rattle.dangling_search.proofs.Owning.{joined_owns, none_owns}
use Rattle.dangling_search.proofs.target.owned_by.Goals as goal

pub pairing_of-requires-clause-owned : goal.pairing_of-requires-clause-owned
pairing_of-requires-clause-owned c =
    let tells = c.requires.parts.cells.owners.each c.args.table c.owner.result c.owner.ensures in
    subst (λ (found : Option Owner). TellsOwner (schema_in c.args.parts.now) c.args.table found) (c.in-Some-Set.is ∙ ap Some c.in-Some-Set.field-0-is) tells

pub returns-in-Some-Assoc : goal.returns-in-Some-Assoc
returns-in-Some-Assoc c =
    let tells = c.requires.parts.cells.owners.each c.args.table c.owner.result c.owner.ensures in
    joined_owns c.args.parts.now c.requires.parts c.args.table c.in-Some-Assoc.field-0-0
    (subst (λ (found : Option Owner). TellsOwner (schema_in c.args.parts.now) c.args.table found) (c.in-Some-Assoc.is ∙ ap Some c.in-Some-Assoc.field-0-is) tells)

pub returns-in-None : goal.returns-in-None
returns-in-None c =
    let tells = c.requires.parts.cells.owners.each c.args.table c.owner.result c.owner.ensures in
    none_owns c.args.parts.now c.requires.parts c.args.table c.owner.result tells c.in-None.is
