use Rattle.std.proofs.lemmas.Bool.{both_ways}
use Rattle.csdl_types.proofs.keys.KeyProps.is_broken.Goals as goal

pub returns-then-is_named : goal.returns-then-is_named
returns-then-is_named g c =
    let named = (c.is_named.ensures c.args.self.now.key.now c.args.self.now.of).0 c.if-is_named.true in (λ is. (named, c.is_failing.ensures.0 is), λ holds. c.is_failing.ensures.1 holds.1)

pub returns-else-is_named : goal.returns-else-is_named
returns-else-is_named g c =
    (λ is. absurd (both_ways c.is_named.result c.if-is_named.false is), λ holds. (c.is_named.ensures c.args.self.now.key.now c.args.self.now.of).1 holds.0)
