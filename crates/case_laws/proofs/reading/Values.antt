-- The values that rows at a key tell are such as the region allows.
use Rattle.std.proofs.Common.{◌≡◌, inl, inr, List, Bool, not, false, Contains, Option, Some, None, refl, sym, ap, subst, ◌∙◌}
use Rattle.std.specs.Option.{option_map_or}
use Rattle.emc_base.proofs.Lists.{all_from_members, at_once}
use Rattle.std.proofs.lemmas.List.Elements.{All-contains}
use Rattle.round_trip.specs.Words.{SetId, TableId, ColId, PropId, Entity, Hosted, InDomain, Null, Prop, Tables, Value, At, props_of}
use Rattle.condition_logic.specs.declared.atoms.Atom.{Atom}
use Rattle.condition_logic.specs.declared.atoms.Atom.TheVariants as atom
use Rattle.condition_logic.specs.declared.atoms.AtomOf.{AtomOf}
use Rattle.round_trip.specs.soundness.mappings.Joined.{prop}
use Rattle.regions.specs.declared.region.Region.{Region}
use Rattle.regions.specs.declared.pattern.Symbol.TheVariants as symbol
use Rattle.regions.specs.Atoms.{Allows, LiesIn, atom_at}
use Rattle.regions.specs.Basis.{Basis}
use Rattle.regions.specs.Patterns.{Valuation, by_entity}
use Rattle.regions.specs.Settled.{is_nullable, multi, of_atom, possible, single}
use Rattle.regions.specs.region_laws.IsBasis.{IsBasis}
use Rattle.regions.specs.region_laws.pattern.Allowed.{IsAllowed, partner_parts}
use Rattle.regions.proofs.region_laws.pattern.types.Regions.{atom_found}
use Rattle.region_states.proofs.defaults.Listed.{IsTold, found_told, told_found, told_is}
use Rattle.region_states.proofs.defaults.Valued.{Tells, atom_tells}
use Rattle.case_laws.specs.declared.region_cases.case.Case.{Case}
use Rattle.case_laws.specs.region_cases.Cases.{case_of}
use Rattle.case_laws.specs.region_cases.Meets.{MayBe}
use Rattle.case_laws.specs.Reading.{DecidesFree}
use Rattle.case_laws.specs.Told.{AreTold, IsMet, IsReadable}
use Rattle.case_laws.proofs.reading.Parts.{part_shows}
use Rattle.case_laws.proofs.reading.Readable.{IsValue, some_value}
use Rattle.case_laws.proofs.shown.Shown.{ShowsSymbol, shows_value}

module _ (is_free : TableId → ColId → Bool) (basis : Basis) (is : IsBasis basis) (decides : DecidesFree basis.schema is_free) (s : SetId) (region : Region)
    (readable : IsReadable basis s region) (tables : Tables) (key : List Value) (met : IsMet basis is_free s region tables key)
    (entity : Entity) (links : List Hosted) (told : AreTold basis is_free s region tables key entity links) where
  abbrev case : Case
  case = case_of is_free basis region

  abbrev pub values : Valuation
  values = by_entity basis.schema.model entity (partner_parts basis.schema.model links)

  abbrev constants : PropId → List Value
  constants p = basis.constants (prop p)

  -- what is told of an atom of one value
  told_value : (it : AtomOf) → Contains region.atoms it → (a : Atom) → it.atom ≡ a → (value : Value) → of_atom a ≡ single value → values.prop it.prop ≡ value
  told_value it among atom.Null same value one =
      let null : Null ≡ value = cc in
      All-contains (λ (other : AtomOf). other.atom ≡ atom.Null → values.prop other.prop ≡ Null) region.atoms it told.entity_told.nulls among same ∙ null
  told_value it among (atom.Is v) same value one =
      let alike : v ≡ value = cc in
      All-contains (λ (other : AtomOf). other.atom ≡ atom.Is v → values.prop other.prop ≡ v) region.atoms it (told.entity_told.single v) among same ∙ alike
  told_value it among atom.Other same value one = cc

  atom_value : (p : PropId) (a : Atom) → atom_at region.atoms p ≡ Some a → (value : Value) → of_atom a ≡ single value → values.prop p ≡ value
  atom_value p a at value one =
      let found = atom_found region.atoms p a at in
      let P : PropId → Type 0 = λ q. values.prop q ≡ value in
      subst P found.2 (told_value found.0 found.1 a found.3 value one)

  -- a property that has one value alone has it
  pub single_value : (p : PropId) (value : Value) → possible basis.schema.model region.atoms (symbol.Prop p) ≡ single value → values.prop p ≡ value
  single_value p value one = by (atom_at region.atoms p) refl one
    where
      by : (found : Option Atom) → atom_at region.atoms p ≡ found → option_map_or of_atom found (multi (is_nullable basis.schema.model p)) ≡ single value
          → values.prop p ≡ value
      by None none is_one = cc
      by (Some a) at is_one = atom_value p a at value is_one

  -- a property that is shown has the value, which it may have
  pub shown_value : (p : PropId) (value : Value) → ShowsSymbol is_free basis is decides s region readable.listed readable.clear tables key (symbol.Prop p) value
      → values.prop p ≡ value
  shown_value p value shown = told.entity_told.shown p value (shows_value is_free basis is decides s region readable.listed readable.clear tables key p value shown)

  shown_may : (p : PropId) (declared : Prop) → At basis.schema.model.props p.index declared → (value : Value)
      → ShowsSymbol is_free basis is decides s region readable.listed readable.clear tables key (symbol.Prop p) value
      → MayBe basis tables key case p declared (values.prop p)
  shown_may p declared here value shown =
      let P : Value → Type 0 = λ v. MayBe basis tables key case p declared v in
      subst P (sym (shown_value p value shown))
      (met.meets.values p declared value here (shows_value is_free basis is decides s region readable.listed readable.clear tables key p value shown))

  -- the value lies in the atom that is told of the property
  other_lies : (p : PropId) → Contains (props_of basis.schema.model region.ty) p → (declared : Prop) → At basis.schema.model.props p.index declared
      → atom_at region.atoms p ≡ Some atom.Other → LiesIn (constants p) atom.Other (values.prop p)
  other_lies p among declared here at = by (some_value is_free basis is decides s region readable tables key met p among)
    where
      several : possible basis.schema.model region.atoms (symbol.Prop p) ≡ multi false
      several = ap (λ found. option_map_or of_atom found (multi (is_nullable basis.schema.model p))) at

      by : (value : Value) × IsValue is_free basis is decides s region readable tables key met p value → LiesIn (constants p) atom.Other (values.prop p)
      by (value, inl one) = let never : multi false ≡ single value = sym several ∙ one in cc
      by (value, inr shown) = (shown_may p declared here value shown).1 at

  lies : (it : AtomOf) → Contains region.atoms it → LiesIn (constants it.prop) it.atom (values.prop it.prop)
  lies it among =
      by it.atom refl
    where
      at : atom_at region.atoms it.prop ≡ Some it.atom
      at = told_found basis is s region readable.listed it among

      by : (a : Atom) → it.atom ≡ a → LiesIn (constants it.prop) a (values.prop it.prop)
      by atom.Null same = told_value it among atom.Null same Null refl
      by (atom.Is v) same = told_value it among (atom.Is v) same v refl
      by atom.Other same =
          let of_type : IsTold basis is s region readable.listed it.prop it.atom = told_is basis is s region readable.listed it among in
          other_lies it.prop of_type.of_type of_type.declared of_type.is_declared (at ∙ ap Some same)

  -- one value alone is one that the property may hold
  single_allowed : (p : PropId) (declared : Prop) → At basis.schema.model.props p.index declared → (value : Value)
      → possible basis.schema.model region.atoms (symbol.Prop p) ≡ single value → Allows declared value
  single_allowed p declared here value one = by (atom_at region.atoms p) refl one
    where
      tells : (a : Atom) → atom_at region.atoms p ≡ Some a → Tells declared (constants p) a
      tells a at =
          let of : IsTold basis is s region readable.listed p a = found_told basis is s region readable.listed p a at in
          let P : Prop → Type 0 = λ it. Tells it (constants p) a in
          subst P (at_once basis.schema.model.props p.index of.declared declared of.is_declared here)
          (atom_tells basis.fits is.domains (constants p) of.declared a of.among)

      of_told : (a : Atom) → Tells declared (constants p) a → of_atom a ≡ single value → Allows declared value
      of_told atom.Null told_null is_one = let null : value ≡ Null = cc in inl (null, told_null)
      of_told (atom.Is v) told_one is_one = let same : v ≡ value = cc in inr (subst (λ w. InDomain w declared.kind) same told_one.0)
      of_told atom.Other told_other is_one = cc

      by : (found : Option Atom) → atom_at region.atoms p ≡ found → option_map_or of_atom found (multi (is_nullable basis.schema.model p)) ≡ single value → Allows declared value
      by None none is_one = cc
      by (Some a) at is_one = of_told a (tells a at) is_one

  -- each property may hold its value
  pub value_allowed : (p : PropId) (declared : Prop) → Contains (props_of basis.schema.model region.ty) p → At basis.schema.model.props p.index declared
      → Allows declared (values.prop p)
  value_allowed p declared among here = by (some_value is_free basis is decides s region readable tables key met p among)
    where
      may : MayBe basis tables key case p declared (values.prop p) → Allows declared (values.prop p)
      may (inl domain, other) = inr domain
      may (inr (null, none, nullable), other) = inl (null, nullable)

      by : (value : Value) × IsValue is_free basis is decides s region readable tables key met p value → Allows declared (values.prop p)
      by (value, inl one) = subst (Allows declared) (sym (single_value p value one)) (single_allowed p declared here value one)
      by (value, inr shown) = may (shown_may p declared here value shown)

  -- and so the region allows all
  pub are_allowed : IsAllowed basis region values
  are_allowed = record {
    atoms = all_from_members (λ (it : AtomOf). LiesIn (constants it.prop) it.atom (values.prop it.prop)) region.atoms lies;
    props = value_allowed;
    parts = λ host assoc is_host linked here p declared among at. met.meets.parts host.assoc p declared (values.part host.assoc (not host.first_hosts) p) at
        (part_shows is_free basis is decides s region readable tables key met links told.links_told host is_host linked assoc here p among);
  }
