-- Under allowed values each symbol of a pattern has a value that is possible.
use Rattle.std.proofs.Common.{◌≡◌, ◌≢◌, ⊎_elim, List, [], Bool, true, false, not, IsTrue, Contains, slice_get, Option, Some, None, refl, sym, ap, subst, ◌∙◌}
use Rattle.std.specs.Option.{option_map_or}
use Rattle.round_trip.specs.Words.{SetId, AssocId, PropId, TableId, ColId, EntityModel, Value, Null, Prop, Assoc, At, InDomain, key_props, props_of}
use Rattle.round_trip.specs.soundness.models.Inheritance.{IsKeyProp}
use Rattle.round_trip.specs.soundness.mappings.Joined.{prop}
use Rattle.condition_logic.specs.declared.atoms.Atom.{Atom}
use Rattle.condition_logic.specs.declared.atoms.Atom.TheVariants as atom
use Rattle.condition_logic.specs.declared.atoms.AtomOf.{AtomOf}
use Rattle.regions.specs.region_laws.IsBasis.{IsBasis}
use Rattle.regions.specs.declared.region.Region.{Region}
use Rattle.regions.specs.declared.pattern.Symbol.{Symbol}
use Rattle.regions.specs.declared.pattern.Symbol.TheVariants as symbol
use Rattle.regions.specs.declared.pattern.Focus.{Focus}
use Rattle.regions.specs.declared.pattern.Focus.TheVariants as focus
use Rattle.regions.specs.Atoms.{LiesIn, atom_at}
use Rattle.regions.specs.Basis.{Basis, Host}
use Rattle.regions.specs.Patterns.{Valuation, value_under}
use Rattle.regions.specs.Regions.{regions_of}
use Rattle.regions.specs.Settled.{is_nullable, multi, of_atom, possible}
use Rattle.regions.specs.region_laws.pattern.Allowed.{AreAllowed, CanBe, HasAllowedParts, IsAllowed, IsAllowedLink, IsFocus, end_at, told_of}
use Rattle.regions.proofs.region_laws.pattern.values.Allowed.{domain_not_null}
use Rattle.regions.proofs.region_laws.pattern.symbols.Hosting.{assoc_here, end_prop, the_assoc}
use Rattle.regions.proofs.region_laws.pattern.symbols.Origins.{From}
use Rattle.regions.proofs.region_laws.pattern.types.Regions.{lies_in}
use Rattle.regions.proofs.region_laws.pattern.symbols.Standing.{IsEndOf, end_of, link_no_prop, listed_prop}
use Rattle.schema_laws.proofs.sound_types.Inherited.{declared_above, key_prop}
use Rattle.regions.proofs.region_laws.pattern.Ends.{other_end}

pub nullable_is : (model : EntityModel) (p : PropId) (declared : Prop) → At model.props p.index declared → is_nullable model p ≡ declared.nullable
nullable_is model p declared here = ap (λ found. option_map_or (λ (one : Prop). one.nullable) found false) here

-- what an atom says of the values in it
atom_can : (constants : List Value) (told : Atom) (value : Value) → LiesIn constants told value → CanBe (of_atom told) value
atom_can constants atom.Null value lies = lies
atom_can constants (atom.Is one) value lies = lies
atom_can constants atom.Other value lies = λ null. absurd (lies.0 null)

atom_never : (told : Atom) → of_atom told ≡ multi true → ⊥
atom_never atom.Null is = cc
atom_never (atom.Is value) is = cc
atom_never atom.Other is = cc

-- null is possible, among several values, of a nullable property alone
pub null_of_nullable : (model : EntityModel) (atoms : List AtomOf) (one : Symbol) → possible model atoms one ≡ multi true
    → (p : PropId) × (declared : Prop) × (one ≡ symbol.Prop p) × At model.props p.index declared × IsTrue declared.nullable
null_of_nullable model atoms symbol.Null is = cc
null_of_nullable model atoms (symbol.Const value) is = cc
null_of_nullable model atoms (symbol.End a first p) is = cc
null_of_nullable model atoms (symbol.Prop p) is = by (atom_at atoms p) is
  where
    at_place : (found : Option Prop) → slice_get model.props p.index ≡ found → option_map_or (λ (one : Prop). one.nullable) found false ≡ true
        → (q : PropId) × (declared : Prop) × (symbol.Prop p ≡ symbol.Prop q) × At model.props q.index declared × IsTrue declared.nullable
    at_place None none nullable = cc
    at_place (Some declared) here nullable = (p, declared, refl, here, nullable)

    by : (found : Option Atom) → option_map_or of_atom found (multi (is_nullable model p)) ≡ multi true
        → (q : PropId) × (declared : Prop) × (symbol.Prop p ≡ symbol.Prop q) × At model.props q.index declared × IsTrue declared.nullable
    by None many = at_place (slice_get model.props p.index) refl (let nullable : is_nullable model p ≡ true = cc in nullable)
    by (Some told) many = absurd (atom_never told many)

module _ (basis : Basis) (is : IsBasis basis) where
  module _ (s : SetId) (region : Region) (has : Contains (regions_of basis s) region) (valuation : Valuation) (allowed : IsAllowed basis region valuation)
      (p : PropId) (among : Contains (props_of basis.schema.model region.ty) p) where
    prop_can : CanBe (possible basis.schema.model region.atoms (symbol.Prop p)) (valuation.prop p)
    prop_can = by (atom_at region.atoms p) refl
      where
        nullable : valuation.prop p ≡ Null → IsTrue (is_nullable basis.schema.model p)
        nullable null =
            let found = declared_above basis.schema.model is.sound.model p region.ty among in
            ⊎_elim
            (λ (told : (valuation.prop p ≡ Null) × IsTrue found.0.nullable). nullable_is basis.schema.model p found.0 found.1 ∙ told.1)
            (λ (domain : InDomain (valuation.prop p) found.0.kind). absurd (domain_not_null (valuation.prop p) found.0.kind domain null))
            (allowed.props p found.0 among found.1)

        by : (found : Option Atom) → atom_at region.atoms p ≡ found → CanBe (option_map_or of_atom found (multi (is_nullable basis.schema.model p))) (valuation.prop p)
        by None none = nullable
        by (Some told) here = atom_can (basis.constants (prop p)) told (valuation.prop p) (lies_in basis region valuation allowed p told here)

    -- a part of a key isn't null
    pub key_not_null : Contains (key_props basis.schema.model region.ty) p → valuation.prop p ≢ Null
    key_not_null key null =
        let key_is : IsKeyProp basis.schema.model p = key_prop basis.schema.model is.sound.model p region.ty key in
        ⊎_elim
        (λ (told : (valuation.prop p ≡ Null) × IsTrue key_is.declared.nullable). let never : true ≡ false = sym told.1 ∙ key_is.needed in cc)
        (λ (domain : InDomain (valuation.prop p) key_is.declared.kind). domain_not_null (valuation.prop p) key_is.declared.kind domain null)
        (allowed.props p key_is.declared among key_is.is_declared)

  -- nor is a part of a partner's key, or of a link's
  module _ (valuation : Valuation) (t : TableId) (col : ColId) (a : AssocId) (first : Bool) (p : PropId) where
    abbrev Told : Focus → Type 0
    Told of = IsEndOf basis of t col a first p

    -- a part that is told to be in its domain
    told_part : (of : Focus) → (by : Told of) → (b : AssocId) (end : Bool) → by.fragment.assoc ≡ b → first ≡ end
        → HasAllowedParts basis.schema.model (end_at end (the_assoc basis is by.fragment by.mapped)) (valuation.part b end) → valuation.part a first p ≢ Null
    told_part of by b end of_assoc is_end allowed null =
        let q : PropId = by.pair.prop in
        let E : Bool → Type 0 = λ one. Contains (key_props basis.schema.model (end_at one (the_assoc basis is by.fragment by.mapped)).ty) q in
        let among : E end = subst E is_end (end_prop basis is by.fragment by.mapped first by.pair by.paired) in
        let key_is : IsKeyProp basis.schema.model q = key_prop basis.schema.model is.sound.model q (end_at end (the_assoc basis is by.fragment by.mapped)).ty among in
        let domain = allowed q key_is.declared among key_is.is_declared in
        let assocs : a ≡ b = sym by.of_assoc ∙ of_assoc in
        let P : Value → Type 0 = λ value. value ≡ Null in
        let same : valuation.part a first p ≡ valuation.part b end q = λ k. valuation.part (assocs k) (is_end k) (sym by.at_prop k) in
        domain_not_null (valuation.part b end q) key_is.declared.kind domain (sym same ∙ null)

    pub end_not_null : (of : Focus) → AreAllowed basis of valuation → Told of → valuation.part a first p ≢ Null
    end_not_null (focus.Entity region) allowed by =
        let host : Host = by.partner.0 in
        let assoc : Assoc = the_assoc basis is by.fragment by.mapped in
        let Here : AssocId → Type 0 = λ b. At basis.schema.model.assocs b.index assoc in
        let here : Here host.assoc = subst Here by.partner.3 (assoc_here basis is by.fragment by.mapped) in
        let P : _ → Type 0 = λ end. HasAllowedParts basis.schema.model end (valuation.part host.assoc (not host.first_hosts)) in
        told_part (focus.Entity region) by host.assoc (not host.first_hosts) by.partner.3 by.partner.4
        (subst P (sym (other_end host.first_hosts assoc)) (allowed.parts host assoc by.partner.1 by.partner.2 here))
    end_not_null (focus.Link b) allowed by =
        let assoc : Assoc = the_assoc basis is by.fragment by.mapped in
        let Here : AssocId → Type 0 = λ c. At basis.schema.model.assocs c.index assoc in
        told_part (focus.Link b) by b first by.partner refl (allowed.parts assoc (subst Here by.partner (assoc_here basis is by.fragment by.mapped)) first)

  region_can : (s : SetId) (region : Region) → Contains (regions_of basis s) region → (valuation : Valuation) → IsAllowed basis region valuation → (t : TableId) (col : ColId)
      → (one : Symbol) → From basis (focus.Entity region) t col one → CanBe (possible basis.schema.model region.atoms one) (value_under valuation one)
  region_can s region has valuation allowed t col symbol.Null from = refl
  region_can s region has valuation allowed t col (symbol.Const value) from = refl
  region_can s region has valuation allowed t col (symbol.Prop p) from = prop_can s region has valuation allowed p (listed_prop basis is s region has t col p from)
  region_can s region has valuation allowed t col (symbol.End a first p) from =
      λ null. absurd (end_not_null valuation t col a first p (focus.Entity region) allowed (end_of basis (focus.Entity region) t col a first p from) null)

  link_can : (b : AssocId) (valuation : Valuation) → IsAllowedLink basis b valuation → (t : TableId) (col : ColId)
      → (one : Symbol) → From basis (focus.Link b) t col one → CanBe (possible basis.schema.model [] one) (value_under valuation one)
  link_can b valuation allowed t col symbol.Null from = refl
  link_can b valuation allowed t col (symbol.Const value) from = refl
  link_can b valuation allowed t col (symbol.Prop p) from = absurd (link_no_prop basis is b t col p from)
  link_can b valuation allowed t col (symbol.End a first p) from =
      λ null. absurd (end_not_null valuation t col a first p (focus.Link b) allowed (end_of basis (focus.Link b) t col a first p from) null)

  pub can_be : (of : Focus) → IsFocus basis of → (valuation : Valuation) → AreAllowed basis of valuation → (t : TableId) (col : ColId) (one : Symbol) → From basis of t col one
      → CanBe (possible basis.schema.model (told_of of) one) (value_under valuation one)
  can_be (focus.Entity region) (s, has) valuation allowed t col one from = region_can s region has valuation allowed t col one from
  can_be (focus.Link b) here valuation allowed t col one from = link_can b valuation allowed t col one from
