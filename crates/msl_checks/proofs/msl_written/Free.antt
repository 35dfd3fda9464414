-- Whether a property or a column tells no other entity, and isn't joined to one that does; and which conditions compare a value with one that does.
use Rattle.std.proofs.Common.{◌≡◌, ◌↔◌, List, ℕ, MatchOption, Option, Some, None, Bool, true, false, not, IsTrue, refl, sym, ap, subst, ◌∙◌}
use Rattle.std.proofs.Math.Logic.{∥∥₁_elim}
use Rattle.std.proofs.Props.{props}
use Rattle.std.proofs.lemmas.Bool.{both_ways}
use Rattle.std.proofs.lemmas.Option.{same_Some}
use Rattle.std.specs.Option.{is_some, option_map}
use Rattle.msl_rules.specs.condition_values.Spelled.{spelled}
use Rattle.edm_types.specs.declared.mapping.Test.TheVariants.{Equals}
use Rattle.round_trip.specs.Words.{CondOn, Kind, Schema, TableId, Test, Value}
use Rattle.round_trip.specs.soundness.mappings.Joined.{ComparesNoBarred, IsBarred, Member, member_of}
use Rattle.msl_checks.specs.declared.barred_members.barred.Barred.{Barred}
use Rattle.msl_checks.specs.barred_members.Told.{TellsBarred, is_told}
use Rattle.msl_rules.specs.Found.{test_of}
use Rattle.msl_rules.proofs.Named.{denies}

-- what isn't known as barred is free
pub told_free : (schema : Schema) (barred : Barred) (member : Member) (told : Bool) → ∥ TellsBarred schema barred ∥₁ → told ≡ is_told barred member
    → (IsTrue (not told) ↔ (¬ IsBarred schema member))
told_free schema barred member told known is = subst (λ (b : Bool). IsTrue (not b) ↔ (¬ IsBarred schema member)) (sym is)
    (∥∥₁_elim known (Prim.hlevel props) (λ (tells : TellsBarred schema barred). denies (not (is_told barred member)) (is_told barred member) (tells member) refl))

module _ (schema : Schema) (table : TableId) (what : CondOn) where
  -- a condition that compares a value is foreign where it is on what isn't free
  value_is_foreign : (value : Value) (free : Bool) → (IsTrue free ↔ (¬ IsBarred schema (member_of table what)))
      → (IsTrue (not free) ↔ (¬ ComparesNoBarred schema table (record { on = what; test = Equals value })))
  value_is_foreign value true tells = (λ no. absurd cc, λ never. absurd (never (λ constant is. tells.0 refl)))
  value_is_foreign value false tells = (λ yes compares. both_ways false refl (tells.1 (compares value refl)), λ never. refl)

  -- which condition does, where the text gives a value
  pub told_foreign : (known : Option Kind) (value : Option (List ℕ)) (null : Option Bool) (kind : Kind) (text : List ℕ) (free : Bool)
      → known ≡ Some kind → value ≡ Some text → null ≡ None → is_some (spelled kind text) ≡ true → (IsTrue free ↔ (¬ IsBarred schema (member_of table what)))
      → (IsTrue (not free) ↔ MatchOption (test_of known value null) ⊥ (λ test. ¬ ComparesNoBarred schema table (record { on = what; test = test })))
  told_foreign known value null kind text free kind_is value_is null_is gives tells = by (spelled kind text) refl gives
    where
      by : (found : Option Value) → spelled kind text ≡ found → is_some found ≡ true
          → (IsTrue (not free) ↔ MatchOption (test_of known value null) ⊥ (λ test. ¬ ComparesNoBarred schema table (record { on = what; test = test })))
      by None none is = absurd cc
      by (Some constant) is there =
          let test : test_of known value null ≡ Some (Equals constant) = (λ i. test_of (kind_is i) (value_is i) (null_is i)) ∙ ap (option_map Equals) is in
          let Foreign : Option Test → Type 0 = λ o. IsTrue (not free) ↔ MatchOption o ⊥ (λ test. ¬ ComparesNoBarred schema table (record { on = what; test = test })) in
          subst Foreign (sym test) (value_is_foreign constant free tells)

-- what is made of something, where the same is made of all
pub same_made : {X Y : Type 0} (made y : Y) (o : Option X) → Some made ≡ option_map (λ x. y) o → made ≡ y
same_made made y (Some x) is = same_Some made y is
same_made made y None is = absurd cc
