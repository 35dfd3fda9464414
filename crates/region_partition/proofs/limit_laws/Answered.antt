-- Two bases of one schema answer alike of its types, kinds, properties and sets.
use Rattle.std.proofs.Common.{◌≡◌, ◌↔◌, ◌<◌, length, Bool, true, false, true≢false, IsTrue, refl, sym, subst, arith}
use Rattle.round_trip.specs.Words.{PropId, Schema, SetId}
use Rattle.round_trip.specs.soundness.mappings.Joined.{prop}
use Rattle.member_groups.specs.Tested.{IsConstant, IsTested}
use Rattle.regions.specs.Basis.{Basis, Host}
use Rattle.regions.specs.region_laws.IsBasis.{IsBasis}
use Rattle.region_partition.proofs.limit_laws.Rising.{same_listed, same_rising}

-- two answers that tell the same are the same
pub same_truth : (P : Type 0) (one two : Bool) → IsTrue one ↔ P → IsTrue two ↔ P → one ≡ two
same_truth P true true first second = refl
same_truth P true false first second = absurd (true≢false (sym (second.1 (first.0 refl))))
same_truth P false true first second = absurd (true≢false (sym (first.1 (second.0 refl))))
same_truth P false false first second = refl

-- the answers of a basis, put beside this schema
abbrev pub beside : Basis → Schema → Basis
beside basis schema = record {
  schema = schema;
  is_a = basis.is_a;
  fits = basis.fits;
  group = basis.group;
  constants = basis.constants;
  tested = basis.tested;
  hosts = basis.hosts;
}

-- they are right of the schema that the basis has
pub right_beside : (basis : Basis) (schema : Schema) → IsBasis basis → basis.schema ≡ schema → IsBasis (beside basis schema)
right_beside basis schema is same = let P : Schema → Type 0 = λ one. IsBasis (beside basis one) in subst P same is

module _ (schema : Schema) (one two : Basis) (is_one : IsBasis (beside one schema)) (is_two : IsBasis (beside two schema)) where
  -- of types
  pub same_is_a : one.is_a ≡ two.is_a
  same_is_a = λ k t u. same_truth _ (one.is_a t u) (two.is_a t u) (is_one.types.tells t u) (is_two.types.tells t u) k

  -- of kinds
  pub same_fits : one.fits ≡ two.fits
  same_fits = λ k value kind. same_truth _ (one.fits value kind) (two.fits value kind) (is_one.domains.tells value kind) (is_two.domains.tells value kind) k

  -- of a property's constants
  pub same_constants : (p : PropId) → p.index < length schema.model.props → one.constants (prop p) ≡ two.constants (prop p)
  same_constants p within = same_listed (IsConstant schema (prop p)) (one.constants (prop p)) (two.constants (prop p))
      (is_one.constants (prop p) within) (is_two.constants (prop p) within)

  -- of whether a property is tested
  pub same_tested : (p : PropId) → p.index < length schema.model.props → one.tested (prop p) ≡ two.tested (prop p)
  same_tested p within = same_truth (IsTested schema (prop p)) (one.tested (prop p)) (two.tested (prop p)) (is_one.tested (prop p) within) (is_two.tested (prop p) within)

  -- of what is hosted at a set
  pub same_hosts : (s : SetId) → one.hosts s ≡ two.hosts s
  same_hosts s = same_rising (λ (host next : Host). host.assoc.index < next.assoc.index) (λ host next below above. omega (arith, below, above))
      (one.hosts s) (two.hosts s) (is_one.order s) (is_two.order s)
      (λ host has. (is_two.hosts s host).1 ((is_one.hosts s host).0 has))
      (λ host has. (is_one.hosts s host).1 ((is_two.hosts s host).0 has))
