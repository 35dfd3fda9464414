-- What is forced, as a list: what the focus forces by itself, and what each leads to, step by step.
-- Source: CSDL version 3, ReferentialConstraint, AssociationSet and End.
use Rattle.std.specs.Prelude.{◌==◌, ◌&&◌, ◌||◌, ℕ, zero, suc, List, [], ◌∷◌, ◌++◌, filter, flat_map, length, slice_get, Bool, true, false, Option, Some, not, if◌then◌else◌}
use Rattle.std.specs.List.{list_all, list_any}
use Rattle.std.specs.Option.{option_map_or}
use Rattle.round_trip.specs.Words.{SetId, TypeId, PropId, AssocId, Null, Assoc, Constraint, dependent_end, key_props}
use Rattle.condition_logic.specs.declared.atoms.Atom.{Atom}
use Rattle.condition_logic.specs.declared.atoms.Atom.TheVariants as atom
use Rattle.schema_laws.specs.short_values.Places.{is_among}
use Rattle.schema_laws.specs.state_demand.Selecting.{same_value}
use Rattle.regions.specs.Basis.{Basis, Host, partner_end}
use Rattle.regions.specs.Symbols.{is_linked}
use Rattle.regions.specs.declared.pattern.Focus.{Focus}
use Rattle.regions.specs.declared.pattern.Focus.TheVariants as focus
use Rattle.regions.specs.declared.pattern.Symbol.{Symbol}
use Rattle.regions.specs.declared.pattern.Symbol.TheVariants as symbol
use Rattle.regions.specs.declared.region.Region.{Region}
use Rattle.regions.specs.region_laws.pattern.Allowed.{end_at}
use Rattle.forced_entities.specs.Forced.{forced_at, part_in, principal_of}
use Rattle.forced_entities.specs.declared.member.Forced.{Forced}

-- whether null lies in no such atom
abbrev pub has_value : Atom → Bool
has_value atom.Null = false
has_value (atom.Is value) = not (same_value value Null)
has_value atom.Other = true

module _ (basis : Basis) where
  -- whether a constraint covers the entities of a type in a set
  abbrev pub is_covered : SetId → TypeId → Assoc → Constraint → Bool
  is_covered u t assoc constraint = ((dependent_end assoc constraint).set.index == u.index) && basis.is_a t (dependent_end assoc constraint).ty

  -- the principal by the constraint of an association, where it covers the type and asks for it
  abbrev pub asked_by : (Assoc → Constraint → Bool) → SetId → TypeId → (PropId → Option Symbol) → Assoc → List Forced
  asked_by asks u t told assoc = option_map_or
      (λ constraint. if is_covered u t assoc constraint && asks assoc constraint then principal_of basis assoc constraint told ∷ [] else []) assoc.constraint []

  -- whether a property may not be null
  abbrev pub is_needed : PropId → Bool
  is_needed p = option_map_or (λ declared. not declared.nullable) (slice_get basis.schema.model.props p.index) false

  -- whether each entity has a principal by a constraint whose dependent list has a part of its key
  abbrev pub is_arrow : Assoc → Constraint → Bool
  is_arrow assoc constraint = list_any (λ d. is_among d (key_props basis.schema.model (dependent_end assoc constraint).ty)) constraint.dependent
      && list_all is_needed constraint.dependent

  -- what an entity that is forced leads to
  abbrev pub steps : Forced → List Forced
  steps from = flat_map (asked_by is_arrow from.set from.ty (part_in basis from)) basis.schema.model.assocs

  -- whether a property is known not to be null
  abbrev pub is_known : Region → List PropId → PropId → Bool
  is_known region not_null p = is_among p (key_props basis.schema.model region.ty)
      || (is_needed p || (list_any (λ told. (told.prop.index == p.index) && has_value told.atom) region.atoms || is_among p not_null))

  -- the partner by a hosted association
  abbrev pub partner_by : Host → List Forced
  partner_by host = option_map_or (λ assoc. forced_at basis (partner_end host.first_hosts assoc).set (partner_end host.first_hosts assoc).ty
      (λ p. Some (symbol.End host.assoc (not host.first_hosts) p)) ∷ []) (slice_get basis.schema.model.assocs host.assoc.index) []

  -- the end of a link
  abbrev pub link_end : AssocId → Bool → Assoc → Forced
  link_end a first assoc = forced_at basis (end_at first assoc).set (end_at first assoc).ty (λ p. Some (symbol.End a first p))

  -- what the focus forces by itself
  abbrev pub begun : Focus → List PropId → List Forced
  begun (focus.Entity region) not_null = flat_map partner_by (filter (λ host. is_linked basis region.linked host.assoc) (basis.hosts region.set))
      ++ flat_map (asked_by (λ _ constraint. list_all (is_known region not_null) constraint.dependent) region.set region.ty (λ p. Some (symbol.Prop p))) basis.schema.model.assocs
  begun (focus.Link a) not_null = option_map_or (λ assoc. link_end a true assoc ∷ link_end a false assoc ∷ []) (slice_get basis.schema.model.assocs a.index) []

  -- these, and those to which so many steps lead from them
  abbrev pub led : ℕ → List Forced → List Forced
  led zero items = items
  led (suc more) items = items ++ led more (flat_map steps items)

  -- all that is forced: no more steps are needed than there are sets
  abbrev pub forced_by : Focus → List PropId → List Forced
  forced_by of not_null = led (length basis.schema.model.sets) (begun of not_null)
