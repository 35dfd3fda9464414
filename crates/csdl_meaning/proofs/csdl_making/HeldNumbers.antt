-- Sums that stop at a bound, and the numbers that the kinds of properties hold.
use Rattle.std.proofs.Common.{◌≡◌, ℕ, ◌+◌, List, [], ◌∷◌, map, min, take, sum_by, refl, sym, ap, ◌∙◌, arith}
use Rattle.std.specs.List.{enumerate_from, flat_map}
use Rattle.std.proofs.lemmas.List.Concat.{flat_map-cons}
use Rattle.std.proofs.lemmas.List.Sums.{sum_by-append, sum_by-cons, sum_by_push}
use Rattle.emc_base.specs.Lists.{At}
use Rattle.emc_base.proofs.Loops.{take_item}
use Rattle.round_trip.specs.Words.{Prop}
use Rattle.csdl_names.specs.declared.csdl_lists.raw.RawBound.{RawBound}
use Rattle.csdl_names.specs.declared.csdl_lists.raw.RawModel.{RawModel}
use Rattle.csdl_names.specs.declared.csdl_lists.raw.RawProp.{RawProp}
use Rattle.csdl_names.specs.declared.csdl_lists.raw.RawType.{RawType}
use Rattle.csdl_types.specs.declared.simple.Simple.{Simple}
use Rattle.csdl_types.specs.declared.simple.Simple.TheVariants.{Byte, Int16, Int32, Int64, Boolean, Text, Binary}
use Rattle.csdl_meaning.specs.Kinds.{kind_of, simple_kind}
use Rattle.csdl_meaning.specs.Meaning.{prop_of, props_in}
use Rattle.csdl_meaning.specs.csdl_making.Sizes.{numbers_held, numbers_in}

-- a sum of two that each stop at a bound, and stops there itself
stopped_sum : (a b one most : ℕ) → min one most ≡ min b most → min (min a most + one) most ≡ min (a + b) most
stopped_sum a b one most same = omega (arith, same)

pub stopped_once : (n most : ℕ) → min (min n most) most ≡ min n most
stopped_once n most = omega arith

-- one more item is counted
pub counted_more : {X : Type 0} (f : X → ℕ) (items : List X) (i : ℕ) (item : X) (held one most : ℕ) → held ≡ min (sum_by f (take i items)) most → At items i item
    → min one most ≡ min (f item) most → min (held + one) most ≡ min (sum_by f (take (i + 1) items)) most
counted_more f items i item held one most so here is =
    ap (λ (n : ℕ). min (n + one) most) so
    ∙ stopped_sum (sum_by f (take i items)) (f item) one most is
    ∙ ap (λ (n : ℕ). min n most) (sym (sum_by_push f (take i items) item) ∙ ap (sum_by f) (sym (take_item items i item here)))

-- a simple type has no numbers
pub simple_holds : (bound : RawBound) (simple : Simple) → numbers_in (simple_kind bound simple) ≡ 0
simple_holds bound Byte = refl
simple_holds bound Int16 = refl
simple_holds bound Int32 = refl
simple_holds bound Int64 = refl
simple_holds bound Boolean = refl
simple_holds bound Text = refl
simple_holds bound Binary = refl

module _ (raw : RawModel) where
  -- how many the declared properties of a type hold
  abbrev pub held_by : RawType → ℕ
  held_by type = sum_by (λ prop. numbers_in (kind_of raw prop)) type.props

  -- a type's properties hold the same wherever it stands
  held_at : (i : ℕ) (props : List RawProp) → numbers_held (map (prop_of raw i) props) ≡ sum_by (λ prop. numbers_in (kind_of raw prop)) props
  held_at i [] = refl
  held_at i (prop ∷ props) =
      sum_by-cons (λ (one : Prop). numbers_in one.kind) (prop_of raw i prop) (map (prop_of raw i) props)
      ∙ ap (λ (n : ℕ). numbers_in (kind_of raw prop) + n) (held_at i props)
      ∙ sym (sum_by-cons (λ (one : RawProp). numbers_in (kind_of raw one)) prop props)

  held_from : (i : ℕ) (types : List RawType) → numbers_held (flat_map (λ place. map (prop_of raw place.0) place.1.props) (enumerate_from i types)) ≡ sum_by held_by types
  held_from i [] = refl
  held_from i (type ∷ types) =
      let props : ℕ × RawType → List Prop = λ place. map (prop_of raw place.0) place.1.props in
      ap numbers_held (flat_map-cons props (i, type) (enumerate_from (i + 1) types))
      ∙ sum_by-append (λ (one : Prop). numbers_in one.kind) (map (prop_of raw i) type.props) (flat_map props (enumerate_from (i + 1) types))
      ∙ (λ k. held_at i type.props k + held_from (i + 1) types k)
      ∙ sym (sum_by-cons held_by type types)

  -- and those of all types together
  pub held_together : numbers_held (props_in raw) ≡ sum_by held_by raw.types
  held_together = held_from 0 raw.types
