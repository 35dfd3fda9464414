-- What an entity of a region or a link writes, in symbols.
-- Source: MSL version 3, MappingFragment, ScalarProperty, EndProperty and Condition; the update views of Melnik, Adya and Bernstein, SIGMOD 2007.
use Rattle.std.specs.Prelude.{◌==◌, ◌++◌, ◌&&◌, List, [], ◌∷◌, map, filter, flat_map, Bool, true, false, if◌then◌else◌}
use Rattle.std.specs.List.{list_all, list_any}
use Rattle.std.specs.Option.{option_map_or}
use Rattle.round_trip.specs.Words.{TableId, ColId, AssocId, Null, Fragment, Pair, LinkFragment, Cond, CondOn, Test}
use Rattle.edm_types.specs.declared.mapping.CondOn.TheVariants as on
use Rattle.edm_types.specs.declared.mapping.Test.TheVariants.{IsNull, Equals}
use Rattle.condition_logic.specs.declared.atoms.Atom.{Atom}
use Rattle.condition_logic.specs.declared.atoms.Atom.TheVariants as atom
use Rattle.condition_logic.specs.declared.atoms.AtomOf.{AtomOf}
use Rattle.schema_laws.specs.state_demand.Selecting.{same_value, passes, is_picked}
use Rattle.regions.specs.declared.region.Region.{Region}
use Rattle.regions.specs.declared.pattern.Symbol.{Symbol}
use Rattle.regions.specs.declared.pattern.Symbol.TheVariants as symbol
use Rattle.regions.specs.Basis.{Basis, Host}
use Rattle.regions.specs.Atoms.{atom_at}

-- whether two symbols are one
abbrev pub same_symbol : Symbol → Symbol → Bool
same_symbol symbol.Null symbol.Null = true
same_symbol (symbol.Const one) (symbol.Const two) = same_value one two
same_symbol (symbol.Prop p) (symbol.Prop q) = p.index == q.index
same_symbol (symbol.End a first p) (symbol.End b second q) = (a.index == b.index) && (if first then second else (if second then false else true)) && (p.index == q.index)
same_symbol one two = false

-- what is written by one fragment: the columns with their symbols
pub record SymbolWriting : Type 0 where
  pub table : TableId
  pub cells : List (ColId × Symbol)

-- a condition writes its column's constant, or null
abbrev pub cond_symbols : CondOn → Test → List (ColId × Symbol)
cond_symbols (on.Col col) (Equals constant) = (col, symbol.Const constant) ∷ []
cond_symbols (on.Col col) (IsNull true) = (col, symbol.Null) ∷ []
cond_symbols on test = []

abbrev pub conds_symbols : List Cond → List (ColId × Symbol)
conds_symbols conds = flat_map (λ cond. cond_symbols cond.on cond.test) conds

-- an entity writes its properties, and the fragment's conditions
abbrev pub fragment_writing : Fragment → SymbolWriting
fragment_writing fragment = record { table = fragment.table; cells = map (λ pair. (pair.col, symbol.Prop pair.prop)) fragment.pairs ++ conds_symbols fragment.conds }

-- one end of a link: the key of the entity that hosts the link is written as its own, the other as that of the end
abbrev pub end_symbols : AssocId → Bool → Bool → List Pair → List (ColId × Symbol)
end_symbols assoc first hosts pairs = map (λ pair. (pair.col, if hosts then symbol.Prop pair.prop else symbol.End assoc first pair.prop)) pairs

-- a link writes both keys, and the fragment's conditions; the arguments say of each end whether it hosts
abbrev pub link_fragment_writing : Bool → Bool → LinkFragment → SymbolWriting
link_fragment_writing first_hosts second_hosts fragment = record {
  table = fragment.table;
  cells = (end_symbols fragment.assoc true first_hosts fragment.first ++ end_symbols fragment.assoc false second_hosts fragment.second) ++ conds_symbols fragment.conds;
}

-- whether atoms meet a condition on a property; a property without an atom counts as null
abbrev pub atom_passes : Test → Atom → Bool
atom_passes test atom.Null = passes test Null
atom_passes test (atom.Is value) = passes test value
atom_passes (IsNull asked) atom.Other = if asked then false else true
atom_passes (Equals constant) atom.Other = false

abbrev pub met_by_atoms : List AtomOf → CondOn → Test → Bool
met_by_atoms atoms (on.Prop p) test = option_map_or (atom_passes test) (atom_at atoms p) (passes test Null)
met_by_atoms atoms (on.Col col) test = true

module _ (basis : Basis) where
  -- whether a fragment of the region's set selects the region's entities
  abbrev pub selects_region : Region → Fragment → Bool
  selects_region region fragment = list_any (is_picked basis.is_a region.ty) fragment.picks && list_all (λ cond. met_by_atoms region.atoms cond.on cond.test) fragment.conds

  -- the fragments of entities that write a region
  abbrev pub fragments_of : Region → List Fragment
  fragments_of region = filter (λ fragment. (fragment.set.index == region.set.index) && selects_region region fragment) basis.schema.mapping.fragments

  -- whether a link of the association is there
  abbrev pub is_linked : List AssocId → AssocId → Bool
  is_linked linked assoc = list_any (λ a. a.index == assoc.index) linked

  -- the fragments of links of an association
  abbrev pub link_fragments_of : AssocId → List LinkFragment
  link_fragments_of assoc = filter (λ fragment. fragment.assoc.index == assoc.index) basis.schema.mapping.links

  -- what the links of a hosted association write, at the entity that hosts them
  abbrev pub host_writings : Host → List SymbolWriting
  host_writings host = map (link_fragment_writing host.first_hosts (if host.first_hosts then false else true)) (link_fragments_of host.assoc)

  -- what an entity of the region writes, with its hosted links
  abbrev pub region_writings : Region → List SymbolWriting
  region_writings region = map fragment_writing (fragments_of region)
      ++ flat_map host_writings (filter (λ host. is_linked region.linked host.assoc) (basis.hosts region.set))

  -- what a link of a joined association writes
  abbrev pub link_writings : AssocId → List SymbolWriting
  link_writings assoc = map (link_fragment_writing false false) (link_fragments_of assoc)
