use Rattle.std.proofs.Common.{Some, sym, ap, ◌∙◌}
use Rattle.std.specs.Option.{option_copied}
use Rattle.region_states.specs.region_basis.BasisOf.{basis_of}
use Rattle.dangling_states.proofs.Alone.{link_given_told, link_links_told}
use Rattle.dangling_states.proofs.lone.link_given.Goals as goal

pub returns-in-Some-clause-given : goal.returns-in-Some-clause-given
returns-in-Some-clause-given c =
    link_given_told (basis_of c.args.parts.now) c.args.referring.look.of.now c.args.referring.key.now c.args.referring.row c.requires.referring.row c.args.assoc c.requires.of
    (Some c.in-Some.declared.now) (sym c.get.ensures.item ∙ ap option_copied c.in-Some.is) c.ends_given.result c.ends_given.ensures.given

pub returns-in-Some-clause-links : goal.returns-in-Some-clause-links
returns-in-Some-clause-links c =
    link_links_told (basis_of c.args.parts.now) c.args.referring.look.of.now c.args.referring.key.now c.args.referring.row c.requires.referring.row c.args.assoc c.requires.of
    (Some c.in-Some.declared.now) (sym c.get.ensures.item ∙ ap option_copied c.in-Some.is) c.ends_given.result c.ends_given.ensures.links
