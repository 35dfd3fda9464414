-- Where an entity with the links that it hosts stands among the regions of its set.
-- Source: this project's; the cells by which the mapping compiler of Melnik, Adya and Bernstein, SIGMOD 2007, divides entities.
use Rattle.std.specs.Prelude.{◌≡◌, ◌≢◌, ℕ, List, [], ◌∷◌, slice_get, AllPairs, Contains, Bool, Option, MatchOption}
use Rattle.std.specs.Option.{option_map_or}
use Rattle.std.specs.declared.cmp.Ordering.{Ordering}
use Rattle.std.specs.declared.cmp.Ordering.TheVariants.{Less, Equal, Greater}
use Rattle.std.specs.Ordering.{bool_cmp, nat_cmp, ordering_then}
use Rattle.emc_base.specs.Lists.{At}
use Rattle.emc_base.specs.Order.{value_cmp}
use Rattle.round_trip.specs.Words.{AssocId, Mult, Entity, Hosted, value_of}
use Rattle.edm_types.specs.declared.model.Mult.TheVariants.{One, ZeroOrOne, Many}
use Rattle.round_trip.specs.soundness.mappings.Joined.{prop}
use Rattle.condition_logic.specs.declared.atoms.Atom.{Atom}
use Rattle.condition_logic.specs.declared.atoms.Atom.TheVariants as atom
use Rattle.condition_logic.specs.declared.atoms.AtomOf.{AtomOf}
use Rattle.regions.specs.declared.region.Region.{Region}
use Rattle.regions.specs.Atoms.{LiesIn}
use Rattle.regions.specs.Basis.{Basis, Host, partner_end}
use Rattle.regions.specs.Regions.{model_of}
use Rattle.regions.specs.Symbols.{is_linked}
use Rattle.regions.specs.region_laws.RegionAt.{atom_in, has_link}

-- the place of an atom's sort: null, single values, all others
abbrev pub atom_rank : Atom → ℕ
atom_rank atom.Null = 0
atom_rank (atom.Is value) = 1
atom_rank atom.Other = 2

-- single values in their order, other atoms by their sorts
abbrev pub atom_cmp : Atom → Atom → Ordering
atom_cmp (atom.Is one) (atom.Is two) = value_cmp one two
atom_cmp one two = nat_cmp (atom_rank one) (atom_rank two)

-- flags, false before true; none of an association that lets an entity have any number of partners
abbrev pub flag_cmp : Mult → Bool → Bool → Ordering
flag_cmp One flag linked = bool_cmp flag linked
flag_cmp ZeroOrOne flag linked = bool_cmp flag linked
flag_cmp Many flag linked = Equal

-- the first of several answers that isn't Equal
abbrev pub all_cmp : {X : Type 0} → (X → Ordering) → List X → Ordering
all_cmp cmp [] = Equal
all_cmp cmp (x ∷ xs) = ordering_then (cmp x) (all_cmp cmp xs)

-- where a later item stands equal, this one stands less; and where this one stands equal, the later one stands greater
abbrev pub Stand : Ordering → Ordering → Type 0
Stand one later = (later ≡ Equal → one ≡ Less) × (one ≡ Equal → later ≡ Greater)

-- a list rises towards what its items are compared with
abbrev pub Rises : {X : Type 0} → (X → Ordering) → List X → Type 0
Rises {X} cmp xs = AllPairs (λ (x y : X). Stand (cmp x) (cmp y)) xs

-- the place of an item that stands equal; none is told only if none does, where the list rises
abbrev pub FindsEqual : {X : Type 0} → (X → Ordering) → List X → Option ℕ → Type 0
FindsEqual {X} cmp xs found = MatchOption found (Rises cmp xs → (x : X) → Contains xs x → cmp x ≢ Equal) (λ place. (x : X) × At xs place x × (cmp x ≡ Equal))

module _ (basis : Basis) where
  -- the entity's value of the property lies in the atom
  abbrev pub IsTold : Entity → AtomOf → Type 0
  IsTold entity told = LiesIn (basis.constants (prop told.prop)) told.atom (value_of (model_of basis) entity told.prop)

  -- an atom against that of the entity's value
  abbrev pub told_cmp : Entity → AtomOf → Ordering
  told_cmp entity told = atom_cmp told.atom (atom_in basis entity told.prop).atom

  -- whether a hosted association is among these, against whether there is a link of it
  abbrev pub host_cmp : List Hosted → List AssocId → Host → Ordering
  host_cmp links linked host = option_map_or
      (λ assoc. flag_cmp (partner_end host.first_hosts assoc).mult (is_linked basis linked host.assoc) (has_link links host.assoc))
      (slice_get (model_of basis).assocs host.assoc.index) Equal

  -- a region against an entity with its links: by type, then by the atoms, then by the flags of the associations that are hosted at the set
  abbrev pub region_cmp : Entity → List Hosted → Region → Ordering
  region_cmp entity links region = ordering_then (nat_cmp region.ty.index entity.ty.index)
      (ordering_then (all_cmp (told_cmp entity) region.atoms) (all_cmp (host_cmp links region.linked) (basis.hosts region.set)))
