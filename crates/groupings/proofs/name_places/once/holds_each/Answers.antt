use Rattle.std.proofs.lemmas.Bool.{both_ways}
use Rattle.groupings.specs.name_places.PlacesIn.{place_in}
use Rattle.groupings.proofs.name_places.KnownNames.{all_named, all_placed}
use Rattle.groupings.proofs.name_places.once.holds_each.Goals as goal

pub returns-then-not-stand_first : goal.returns-then-not-stand_first
returns-then-not-stand_first g c =
    (λ no. absurd cc, λ holds. absurd (both_ways c.stand_first.result c.if-not-stand_first.true (c.stand_first.ensures.1 holds.once)))

pub returns-then-not-are_known : goal.returns-then-not-are_known
returns-then-not-are_known g c = (
  λ no. absurd cc,
  λ holds. absurd (both_ways c.are_known.result c.if-not-are_known.true (c.are_known.ensures.1
      (all_placed g.U.Named.name_in g.T.Named.name_in (place_in c.args.held.now) c.args.list.now c.args.these.now c.requires.held holds.all))),
)

pub returns : goal.returns
returns g c = (
  λ is. record {
    once = c.stand_first.ensures.0 c.if-not-stand_first.false;
    all = all_named g.U.Named.name_in g.T.Named.name_in (place_in c.args.held.now) c.args.list.now c.args.these.now c.requires.held (c.are_known.ensures.0 c.if-not-are_known.false);
    only = all_named g.T.Named.name_in g.U.Named.name_in (place_in c.args.wanted.now) c.args.these.now c.args.list.now c.requires.wanted (c.are_known-2.ensures.0 is);
  },
  λ holds. c.are_known-2.ensures.1 (all_placed g.T.Named.name_in g.U.Named.name_in (place_in c.args.wanted.now) c.args.these.now c.args.list.now c.requires.wanted holds.only),
)
