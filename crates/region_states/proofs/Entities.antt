-- An entity that is made of values has them, and so does all that is told of these values.
use Rattle.std.proofs.Common.{◌≡◌, ◌≢◌, ℕ, All, Contains, refl, sym, subst}
use Rattle.std.proofs.lemmas.List.Elements.{All-contains}
use Rattle.emc_base.proofs.Lists.{all_from_members}
use Rattle.round_trip.specs.Words.{PropId, TableId, ColId, Value, Null, Entity, props_of, value_of}
use Rattle.round_trip.specs.soundness.mappings.Joined.{prop}
use Rattle.condition_logic.specs.declared.atoms.AtomOf.{AtomOf}
use Rattle.schema_laws.proofs.state_demand.owners.Owners.{beside_map}
use Rattle.regions.specs.declared.region.Region.{Region}
use Rattle.regions.specs.declared.pattern.Focus.TheVariants as focus
use Rattle.regions.specs.declared.pattern.Symbol.{Symbol}
use Rattle.regions.specs.declared.pattern.Symbol.TheVariants as symbol
use Rattle.regions.specs.Atoms.{Allows, LiesIn}
use Rattle.regions.specs.Basis.{Basis}
use Rattle.regions.specs.Patterns.{Valuation, by_entity, pattern_of, value_under}
use Rattle.regions.specs.region_laws.IsBasis.{IsBasis}
use Rattle.regions.specs.region_laws.pattern.Allowed.{IsAllowed, RegionValues}
use Rattle.regions.specs.region_laws.pattern.Listed.{Lists}
use Rattle.regions.proofs.region_laws.pattern.Laws.{listed_from}
use Rattle.regions.proofs.region_laws.pattern.symbols.Standing.{listed_prop}
use Rattle.schema_laws.proofs.sound_types.Inherited.{key_among}
use Rattle.region_states.specs.defaults.Admissible.{IsAdmissible, IsApart}
use Rattle.schema_laws.specs.short_values.Short.{IsShort}
use Rattle.region_states.proofs.defaults.Listed.{told_is}
use Rattle.region_states.specs.Entities.{focus_entity}

module _ (basis : Basis) (region : Region) (values : Valuation) where
  -- the values of the entity, with the same partners
  abbrev pub by_focus : Valuation
  by_focus = by_entity basis.schema.model (focus_entity basis region values) values.part

  -- a property of the type has its value
  pub has_value : (p : PropId) → Contains (props_of basis.schema.model region.ty) p → value_of basis.schema.model (focus_entity basis region values) p ≡ values.prop p
  has_value p among = beside_map values.prop (props_of basis.schema.model region.ty) p among

  -- and so what is so of the value is so of the entity's
  pub carried : (p : PropId) → Contains (props_of basis.schema.model region.ty) p → (P : Value → Type 0) → P (values.prop p)
      → P (value_of basis.schema.model (focus_entity basis region values) p)
  carried p among P holds = subst P (sym (has_value p among)) holds

module _ (basis : Basis) (is : IsBasis basis) (at : RegionValues basis) where
  abbrev region : Region
  region = at.region

  abbrev values : Valuation
  values = at.values

  abbrev entity : Entity
  entity = focus_entity basis region values

  -- each symbol that is listed has the same value by the entity
  pub symbol_value : (t : TableId) (c : ColId) (one : Symbol) → Lists (pattern_of basis (focus.Entity at.region)) t c one
      → value_under (by_focus basis at.region at.values) one ≡ value_under at.values one
  symbol_value t c symbol.Null lists = refl
  symbol_value t c (symbol.Const value) lists = refl
  symbol_value t c (symbol.Prop p) lists =
      has_value basis region values p (listed_prop basis is at.s region at.listed t c p (listed_from basis is (focus.Entity region) t c (symbol.Prop p) lists))
  symbol_value t c (symbol.End a first p) lists = refl

  -- what is told of the region's atoms is told of the entity's values
  pub atoms_lie : IsAllowed basis at.region at.values → All (λ told. LiesIn (basis.constants (prop told.prop)) told.atom (value_of basis.schema.model entity told.prop)) region.atoms
  atoms_lie allowed =
      let Lies : AtomOf → Type 0 = λ told. LiesIn (basis.constants (prop told.prop)) told.atom (values.prop told.prop) in
      all_from_members (λ (told : AtomOf). LiesIn (basis.constants (prop told.prop)) told.atom (value_of basis.schema.model entity told.prop)) region.atoms
      (λ told there. carried basis region values told.prop (told_is basis is at.s region at.listed told there).of_type
      (LiesIn (basis.constants (prop told.prop)) told.atom) (All-contains Lies region.atoms told allowed.atoms there))

  -- allowed values are allowed of the entity
  pub allowed_by : IsAllowed basis at.region at.values → IsAllowed basis at.region (by_focus basis at.region at.values)
  allowed_by allowed = record {
    atoms = atoms_lie allowed;
    props = λ p declared among here. carried basis region values p among (Allows declared) (allowed.props p declared among here);
    parts = allowed.parts;
  }

  -- and so are admissible ones
  pub admissible_by : (outer : ℕ) → IsAdmissible basis outer at.region at.values → IsAdmissible basis outer at.region (by_focus basis at.region at.values)
  admissible_by outer admissible = record {
    allowed = allowed_by admissible.allowed;
    keys = λ p key. carried basis region values p (key_among basis.schema.model is.sound.model p region.ty key) (IsApart outer) (admissible.keys p key);
    partners = admissible.partners;
    dependent = λ p among by. carried basis region values p among (λ v. v ≢ Null → IsShort v) (admissible.dependent p among by);
  }
