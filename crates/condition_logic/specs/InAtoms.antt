-- Entities told by atoms.
-- Source: this project's; the cells by which the mapping compiler of Melnik, Adya and Bernstein, SIGMOD 2007, divides entities.
use Rattle.std.specs.Prelude.{◌≡◌, ◌≢◌, ◌⊎◌, List, All, Any, Contains}
use Rattle.condition_logic.specs.Words.{TypeId, PropId, ColId, Value, Null, EntityModel, Entity, props_of, value_of}
use Rattle.edm_types.specs.declared.mapping.CondOn.TheVariants as on
use Rattle.condition_logic.specs.declared.expr.Expr.{Expr}
use Rattle.condition_logic.specs.declared.atoms.Atom.{Atom}
use Rattle.condition_logic.specs.declared.atoms.Atom.TheVariants as atom
use Rattle.condition_logic.specs.declared.atoms.AtomOf.{AtomOf}
use Rattle.condition_logic.specs.Mentions.{Names, Compares}

-- a value lies in an atom: null, the one value, or neither null nor one of the constants
abbrev pub LiesIn : (Value → Type 0) → Atom → Value → Type 0
LiesIn IsConstant atom.Null value = value ≡ Null
LiesIn IsConstant (atom.Is one) value = value ≡ one
LiesIn IsConstant atom.Other value = (value ≢ Null) × ¬ IsConstant value

-- an entity of the type whose values lie in the atoms; the constants of a property are those that the expression compares it with
pub record IsInAtoms (model : EntityModel) (expr : Expr) (t : TypeId) (atoms : List AtomOf) (entity : Entity) : Type 0 where
  pub type : entity.ty ≡ t
  pub values : All (λ told. LiesIn (Compares expr told.prop) told.atom (value_of model entity told.prop)) atoms

-- the expression speaks of what atoms tell: no column, and of the type's properties only those that have an atom
pub record IsOnAtoms (model : EntityModel) (expr : Expr) (t : TypeId) (atoms : List AtomOf) : Type 0 where
  pub columns : (col : ColId) → ¬ Names expr (on.Col col)
  pub props : (prop : PropId) → Names expr (on.Prop prop) → Any (λ told. told.prop ≡ prop) atoms ⊎ ¬ Contains (props_of model t) prop
