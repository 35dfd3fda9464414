-- Of what an expression is asked: an entity, a row, or all entities of a type that atoms tell.
use Rattle.std.specs.Prelude.{◌≡◌, ◌==◌, ⊤, List, find}
use Rattle.std.specs.Option.{option_map_or}
use Rattle.edm_types.specs.Forest.{IsForest, HoldsEachType}
use Rattle.condition_logic.specs.Words.{TypeId, PropId, Value, Null, EntityModel, CondOn, IsA}
use Rattle.edm_types.specs.declared.mapping.CondOn.TheVariants as on
use Rattle.condition_logic.specs.declared.atoms.Atom.{Atom}
use Rattle.condition_logic.specs.declared.atoms.Atom.TheVariants as atom
use Rattle.condition_logic.specs.declared.atoms.AtomOf.{AtomOf}
use Rattle.condition_logic.specs.declared.asking.Subject.{Subject}
use Rattle.condition_logic.specs.declared.asking.Subject.TheVariants as subject
use Rattle.condition_logic.specs.Readings.{Reading, Equals, of_entity, of_row}

-- the atom that is first told of a property; null where none is
abbrev pub atom_at : List AtomOf → PropId → Atom
atom_at atoms prop = option_map_or (λ told. told.atom) (find (λ told. told.prop.index == prop.index) atoms) atom.Null

-- the values of an atom are null
abbrev pub IsNullAtom : Atom → Type 0
IsNullAtom atom.Null = ⊤
IsNullAtom (atom.Is value) = value ≡ Null
IsNullAtom atom.Other = ⊥

-- the values of an atom equal the constant
abbrev pub EqualsAtom : Atom → Value → Type 0
EqualsAtom (atom.Is value) constant = Equals value constant
EqualsAtom _ constant = ⊥

-- the atom of a property; a column counts as null
abbrev pub told_atom : List AtomOf → CondOn → Atom
told_atom atoms (on.Prop prop) = atom_at atoms prop
told_atom atoms (on.Col col) = atom.Null

-- of a type and atoms
abbrev pub of_atoms : EntityModel → TypeId → List AtomOf → Reading
of_atoms model t atoms = record {
  is_of = IsA model t;
  only_of = λ u. t ≡ u;
  is_null = λ on. IsNullAtom (told_atom atoms on);
  equals = λ on constant. EqualsAtom (told_atom atoms on) constant;
}

-- how an expression is read of a subject
abbrev pub of_subject : Subject → Reading
of_subject (subject.Entity model entity) = of_entity model.now entity.now
of_subject (subject.Row row) = of_row row.now
of_subject (subject.Atoms model t atoms) = of_atoms model.now t atoms.now

-- the model has its forest
pub record HasForest (model : EntityModel) : Type 0 where
  pub forest : IsForest model model.forest
  pub whole : HoldsEachType model model.forest

-- so has that of the subject, if there is one
abbrev pub IsAnswerable : Subject → Type 0
IsAnswerable (subject.Entity model entity) = HasForest model.now
IsAnswerable (subject.Row row) = ⊤
IsAnswerable (subject.Atoms model t atoms) = HasForest model.now
