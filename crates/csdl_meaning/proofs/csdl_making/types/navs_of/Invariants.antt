use Rattle.std.proofs.Common.{◌≡◌, map, take}
use Rattle.csdl_meaning.specs.Meaning.{nav_of}
use Rattle.csdl_meaning.proofs.csdl_making.types.navs_of.Given as goal

-- the navigation properties that were passed
abbrev pub invariant-loop-nav : goal.invariant-loop-nav
invariant-loop-nav l = l.made ≡ map (nav_of l.lookups.model.now) (take l.nav-index l.nav-items)
