-- What atoms tell of an entity's values.
use Rattle.std.proofs.Common.{◌≡◌, ◌↔◌, ◌⊎◌, ◌==◌, ⊎_elim, inl, inr, Bool, true, false, true≢false, cond, List, [], ◌∷◌, All, Any, Contains, Some, find, refl, sym, ap, subst, ◌∙◌, arith}
use Rattle.std.specs.Option.{option_map_or}
use Rattle.std.proofs.lemmas.Bool.Decides.{Decides-eqb}
use Rattle.std.proofs.lemmas.List.Elements.{All-contains, All-head, All-tail, Contains-append_right}
use Rattle.emc_base.proofs.facts.Standing.{any_cases}
use Rattle.condition_logic.specs.Words.{TypeId, PropId, Value, Null, EntityModel, Fragment, Cond, CondOn, Entity, IsA, props_of, value_beside, value_of}
use Rattle.edm_types.specs.declared.mapping.CondOn.TheVariants as on
use Rattle.condition_logic.specs.declared.atoms.Atom.{Atom}
use Rattle.condition_logic.specs.declared.atoms.Atom.TheVariants as atom
use Rattle.condition_logic.specs.declared.atoms.AtomOf.{AtomOf}
use Rattle.condition_logic.specs.declared.expr.Expr.{Expr}
use Rattle.condition_logic.specs.Readings.{Equals, entity_value, of_entity}
use Rattle.condition_logic.specs.Holds.{Holds}
use Rattle.condition_logic.specs.Mentions.{Mentions, IsOn, IsComparison, Names, Compares}
use Rattle.condition_logic.specs.InAtoms.{LiesIn, IsInAtoms, IsOnAtoms}
use Rattle.condition_logic.specs.Subjects.{atom_at, told_atom, IsNullAtom, EqualsAtom, of_atoms}
use Rattle.condition_logic.specs.Selecting.{SaysSelected}
use Rattle.condition_logic.proofs.Parts.{any_first, any_none}
use Rattle.condition_logic.proofs.Agreeing.{holds_alike, compares_named}

-- ids with one number are one
same_prop : (p q : PropId) → (p.index == q.index) ≡ true → p ≡ q
same_prop p q is = let at : p.index ≡ q.index = (Decides-eqb p.index q.index).0 is in λ i. record { index = at i }

-- null stands beside a property that isn't among these
null_beside : (prop : PropId) (props : List PropId) (values : List Value) → ¬ Contains props prop → value_beside prop props values ≡ Null
null_beside prop [] values absent = refl
null_beside prop (p ∷ props) [] absent = refl
null_beside prop (p ∷ props) (value ∷ values) absent =
    by (null_beside prop props values (λ has. absent (Contains-append_right (p ∷ []) props prop has))) (p.index == prop.index) refl
  where
    by : value_beside prop props values ≡ Null → (b : Bool) → (p.index == prop.index) ≡ b → cond b value (value_beside prop props values) ≡ Null
    by later true same = absurd (absent (0, omega arith, same_prop p prop same))
    by later false differs = later

-- an atom in which a value lies tells whether it is null, and which of the constants it equals
module _ (IsConstant : Value → Type 0) (value : Value) where
  null_by : (of : Atom) → LiesIn IsConstant of value → IsNullAtom of ↔ (value ≡ Null)
  null_by atom.Null lies = (λ any. lies, λ any. tt)
  null_by (atom.Is one) lies = (λ null. lies ∙ null, λ null. sym lies ∙ null)
  null_by atom.Other lies = (λ never. absurd never, λ null. absurd (lies.0 null))

  equals_by : (of : Atom) → LiesIn IsConstant of value → (constant : Value) → IsConstant constant → EqualsAtom of constant ↔ Equals value constant
  equals_by atom.Null lies constant is = (λ never. absurd never, λ equals. absurd (equals.1 lies))
  equals_by (atom.Is one) lies constant is =
      let P : Value → Type 0 = λ v. Equals v constant in (λ equals. subst P (sym lies) equals, λ equals. subst P lies equals)
  equals_by atom.Other lies constant is = (λ never. absurd never, λ equals. absurd (lies.1 (subst IsConstant (sym equals.0) is)))

module _ (model : EntityModel) (expr : Expr) (entity : Entity) (prop : PropId) where
  abbrev Lies : AtomOf → Type 0
  Lies told = LiesIn (Compares expr told.prop) told.atom (value_of model entity told.prop)

  abbrev Here : AtomOf → Type 0
  Here told = told.prop ≡ prop

  -- the value lies in the atom that is first told of its property
  lies_first : (atoms : List AtomOf) → All Lies atoms → Any Here atoms ⊎ (value_of model entity prop ≡ Null)
      → LiesIn (Compares expr prop) (atom_at atoms prop) (value_of model entity prop)
  lies_first [] all known = ⊎_elim (λ (any : Any Here []). absurd (any_none Here any)) (λ (null : value_of model entity prop ≡ Null). null) known
  lies_first (told ∷ rest) all known = by (lies_first rest (All-tail Lies told rest all)) (told.prop.index == prop.index) refl
    where
      narrow : (told.prop.index == prop.index) ≡ false → Any Here rest ⊎ (value_of model entity prop ≡ Null)
      narrow differs = ⊎_elim (λ (any : Any Here (told ∷ rest)). ⊎_elim
          (λ (here : told.prop ≡ prop). absurd (true≢false (sym ((Decides-eqb told.prop.index prop.index).1 (ap (λ (p : PropId). p.index) here)) ∙ differs)))
          (λ (later : Any Here rest). inl later) (any_cases Here told rest any))
          (λ (null : value_of model entity prop ≡ Null). inr null) known

      by : (Any Here rest ⊎ (value_of model entity prop ≡ Null) → LiesIn (Compares expr prop) (atom_at rest prop) (value_of model entity prop))
          → (b : Bool) → (told.prop.index == prop.index) ≡ b
          → LiesIn (Compares expr prop) (option_map_or (λ (t : AtomOf). t.atom) (cond b (Some told) (find (λ t. t.prop.index == prop.index) rest)) atom.Null)
          (value_of model entity prop)
      by later true same = let P : PropId → Type 0 = λ p. LiesIn (Compares expr p) told.atom (value_of model entity p) in
          subst P (same_prop told.prop prop same) (All-head Lies told rest all)
      by later false differs = later (narrow differs)

module _ (model : EntityModel) (expr : Expr) (t : TypeId) (atoms : List AtomOf) (on_atoms : IsOnAtoms model expr t atoms)
    (entity : Entity) (in_atoms : IsInAtoms model expr t atoms entity) where
  -- the value of a property that the expression names lies in its atom
  lies_told : (prop : PropId) → Names expr (on.Prop prop) → LiesIn (Compares expr prop) (atom_at atoms prop) (value_of model entity prop)
  lies_told prop names =
      let Here : AtomOf → Type 0 = λ told. told.prop ≡ prop in
      let Absent : TypeId → Type 0 = λ u. ¬ Contains (props_of model u) prop in
      lies_first model expr entity prop atoms in_atoms.values (⊎_elim (λ (any : Any Here atoms). inl any)
      (λ (absent : ¬ Contains (props_of model t) prop). inr (null_beside prop (props_of model entity.ty) entity.values (subst Absent (sym in_atoms.type) absent)))
      (on_atoms.props prop names))

  nulls_told : (what : CondOn) → Mentions (IsOn what) expr → IsNullAtom (told_atom atoms what) ↔ (entity_value model entity what ≡ Null)
  nulls_told (on.Prop prop) names = null_by (Compares expr prop) (value_of model entity prop) (atom_at atoms prop) (lies_told prop names)
  nulls_told (on.Col col) names = absurd (on_atoms.columns col names)

  equals_told : (what : CondOn) (constant : Value) → Mentions (IsComparison what constant) expr
      → EqualsAtom (told_atom atoms what) constant ↔ Equals (entity_value model entity what) constant
  equals_told (on.Prop prop) constant compares = equals_by (Compares expr prop) (value_of model entity prop) (atom_at atoms prop)
      (lies_told prop (compares_named (on.Prop prop) constant expr compares)) constant compares
  equals_told (on.Col col) constant compares = absurd (on_atoms.columns col (compares_named (on.Col col) constant expr compares))

  -- the expression holds of the entity as it does by the atoms
  pub holds_told : Holds (of_atoms model t atoms) expr ↔ Holds (of_entity model entity) expr
  holds_told =
      let is : entity.ty ≡ t = in_atoms.type in
      holds_alike (of_atoms model t atoms) (of_entity model entity)
      (λ u. let P : TypeId → Type 0 = λ s. IsA model s u in (λ h. subst P (sym is) h, λ h. subst P is h))
      (λ u. let P : TypeId → Type 0 = λ s. s ≡ u in (λ h. subst P (sym is) h, λ h. subst P is h))
      expr nulls_told equals_told

-- what a fragment's picks and conditions say is told by one atom, if all its conditions are on that property
pub on_one_atom : (fragment : Fragment) (made : Expr) (told : AtomOf) (atoms : List AtomOf) (model : EntityModel) (t : TypeId) → SaysSelected fragment made
    → All (λ cond. cond.on ≡ on.Prop told.prop) fragment.conds → atoms ≡ told ∷ [] → IsOnAtoms model made t atoms
on_one_atom fragment made told atoms model t says conds one =
    let P : List AtomOf → Type 0 = λ these. IsOnAtoms model made t these in
    subst P (sym one) (record { columns = says.columns; props = λ prop names. inl (is_told prop (says.props prop names)) })
  where
    is_told : (prop : PropId) → Any (λ cond. cond.on ≡ on.Prop prop) fragment.conds → Any (λ other. other.prop ≡ prop) (told ∷ [])
    is_told prop any =
        let Here : AtomOf → Type 0 = λ other. other.prop ≡ prop in
        let OnTold : Cond → Type 0 = λ cond. cond.on ≡ on.Prop told.prop in
        let same : on.Prop told.prop ≡ on.Prop prop = sym (All-contains OnTold fragment.conds any.1 conds (any.0, any.2, any.3)) ∙ any.4 in
        any_first Here told [] (let both : told.prop ≡ prop = cc in both)
