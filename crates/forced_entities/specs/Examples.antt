-- Small models, and what is forced in them: an account that is forced through a customer who is known in part, and a manager whose number may be null.
-- Source: CSDL version 3, ReferentialConstraint.
use Rattle.std.specs.Prelude.{◌==◌, ℕ, List, [], ◌∷◌, Bool, Option, None, Some, true, false}
use Rattle.emc_base.specs.declared.value.Kind.TheVariants as kind
use Rattle.edm_types.specs.declared.model.Mult.TheVariants.{ZeroOrOne, Many}
use Rattle.round_trip.specs.Words.{PropId, Assoc, EntityModel, EntitySet, EntityType, Prop}
use Rattle.regions.specs.Basis.{Basis}
use Rattle.regions.specs.declared.pattern.Symbol.{Symbol}
use Rattle.regions.specs.declared.pattern.Symbol.TheVariants as symbol
use Rattle.regions.specs.declared.region.Region.{Region}
use Rattle.forced_entities.specs.declared.member.Forced.{Forced}

-- a property of a type, which may be null or not
abbrev pub prop_of : ℕ → Bool → Prop
prop_of owner nullable = record { owner = record { index = owner }; name = []; kind = kind.Int32; nullable = nullable }

-- a type with these key properties and these properties
abbrev pub type_of : List PropId → List PropId → EntityType
type_of key props = record { name = []; base = None; is_abstract = false; key = key; props = props; navs = [] }

abbrev pub p : ℕ → PropId
p n = record { index = n }

-- the set of a type has its number
abbrev pub set_of : ℕ → EntitySet
set_of n = record { name = []; element = record { index = n } }

-- the dependent properties of entities of a set are the key of an entity of another
abbrev pub refers : ℕ → List PropId → ℕ → List PropId → Assoc
refers from dependent to principal = record {
  set_name = [];
  assoc_name = [];
  first = record { role = []; set = record { index = from }; ty = record { index = from }; mult = Many };
  second = record { role = []; set = record { index = to }; ty = record { index = to }; mult = ZeroOrOne };
  constraint = Some (record { dependent_first = true; principal = principal; dependent = dependent });
}

abbrev pub model_of : List EntityType → List Prop → List EntitySet → List Assoc → EntityModel
model_of types props sets assocs = record { namespace = []; alias = None; container = []; types = types; props = props; forest = []; sets = sets; assocs = assocs }

-- a basis of a model whose types are apart, of which no property is tested and no association is hosted
abbrev pub basis_on : EntityModel → Basis
basis_on model = record {
  schema = record { model = model; store = record { namespace = []; container = []; tables = []; keys = [] }; mapping = record { fragments = []; links = [] } };
  is_a = λ t u. t.index == u.index;
  fits = λ value k. true;
  group = λ member. None;
  constants = λ member. [];
  tested = λ member. false;
  hosts = λ s. [];
}

-- the region of a set without tested properties and flags
abbrev pub region_of : ℕ → Region
region_of n = record { set = record { index = n }; ty = record { index = n }; atoms = []; linked = [] }

abbrev pub forced_in : ℕ → List (Option Symbol) → Forced
forced_in n key = record { set = record { index = n }; ty = record { index = n }; key = key }

-- lines (account, order, number) of orders (account, number; customer), which are of customers (account, number), who have accounts
abbrev pub lines : EntityModel
lines = model_of
    (type_of (p 0 ∷ p 1 ∷ p 2 ∷ []) (p 0 ∷ p 1 ∷ p 2 ∷ []) ∷ type_of (p 3 ∷ p 4 ∷ []) (p 3 ∷ p 4 ∷ p 5 ∷ []) ∷ type_of (p 6 ∷ p 7 ∷ []) (p 6 ∷ p 7 ∷ []) ∷ type_of (p 8 ∷ []) (p 8 ∷ []) ∷ [])
    (prop_of 0 false ∷ prop_of 0 false ∷ prop_of 0 false ∷ prop_of 1 false ∷ prop_of 1 false ∷ prop_of 1 false ∷ prop_of 2 false ∷ prop_of 2 false ∷ prop_of 3 false ∷ [])
    (set_of 0 ∷ set_of 1 ∷ set_of 2 ∷ set_of 3 ∷ [])
    (refers 0 (p 0 ∷ p 1 ∷ []) 1 (p 3 ∷ p 4 ∷ []) ∷ refers 1 (p 3 ∷ p 5 ∷ []) 2 (p 6 ∷ p 7 ∷ []) ∷ refers 2 (p 6 ∷ []) 3 (p 8 ∷ []) ∷ [])

-- employees (company, number; manager), whose manager is another of the company, or null
abbrev pub employees : EntityModel
employees = model_of (type_of (p 0 ∷ p 1 ∷ []) (p 0 ∷ p 1 ∷ p 2 ∷ []) ∷ []) (prop_of 0 false ∷ prop_of 0 false ∷ prop_of 0 true ∷ []) (set_of 0 ∷ [])
    (refers 0 (p 0 ∷ p 2 ∷ []) 0 (p 0 ∷ p 1 ∷ []) ∷ [])

-- the value of a property
abbrev pub own : ℕ → Option Symbol
own n = Some (symbol.Prop (p n))
