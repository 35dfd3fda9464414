-- Multiplicities by their texts. V16.
use Rattle.std.proofs.Common.{◌≡◌, ◌≢◌, inl, inr, ℕ, Bool, true, false, List, [], ◌∷◌, if◌then◌else◌, codes, refl, sym, ap, ◌∙◌}
use Rattle.std.specs.Str.{bytes_eq}
use Rattle.std.proofs.lemmas.Slice.Eq.{bytes_eq-Decides}
use Rattle.edm_types.specs.declared.model.Mult.TheVariants.{Many, One, ZeroOrOne}
use Rattle.csdl_names.specs.declared.csdl_lists.raw.RawEnd.{RawEnd}
use Rattle.csdl_associations.specs.csdl_constraints.Multiplicities.{BreaksFreeMults}
use Rattle.csdl_meaning.specs.ModelMeaning.{mult_of}
use Rattle.emc_base.proofs.Stable.{same_names}

-- exactly one is a 1
pub one_text : (text : List ℕ) → mult_of text ≡ One → text ≡ codes "1"
one_text text is = by (bytes_eq text (codes "1")) (bytes_eq text (codes "0..1")) refl is
  where
    by : (one few : Bool) → bytes_eq text (codes "1") ≡ one → (if one then One else if few then ZeroOrOne else Many) ≡ One → text ≡ codes "1"
    by true few same is = (bytes_eq-Decides text (codes "1")).0 same
    by false true same is = absurd cc
    by false false same is = absurd cc

-- at most one is a 0..1
pub few_text : (text : List ℕ) → mult_of text ≡ ZeroOrOne → text ≡ codes "0..1"
few_text text is = by (bytes_eq text (codes "1")) (bytes_eq text (codes "0..1")) refl is
  where
    by : (one few : Bool) → bytes_eq text (codes "0..1") ≡ few → (if one then One else if few then ZeroOrOne else Many) ≡ ZeroOrOne → text ≡ codes "0..1"
    by true few same is = absurd cc
    by false true same is = (bytes_eq-Decides text (codes "0..1")).0 same
    by false false same is = absurd cc

-- neither is any number
pub not_many : (text : List ℕ) → ¬ ((text ≢ codes "1") × (text ≢ codes "0..1")) → mult_of text ≢ Many
not_many text fine many = fine (
  (λ one. let it : One ≡ Many = sym (ap mult_of one) ∙ many in absurd cc),
  (λ few. let it : ZeroOrOne ≡ Many = sym (ap mult_of few) ∙ many in absurd cc),
)

-- without a constraint: exactly one stands only opposite any number
pub opposite_many : (first second : RawEnd) → ¬ BreaksFreeMults (first ∷ second ∷ []) → (mult_of first.multiplicity ≡ One → mult_of second.multiplicity ≡ Many)
    × (mult_of second.multiplicity ≡ One → mult_of first.multiplicity ≡ Many)
opposite_many first second fine = (
  (λ one. ap mult_of (same_names second.multiplicity (codes "*") (λ other. fine (inl (one_text first.multiplicity one, other))))),
  (λ one. ap mult_of (same_names first.multiplicity (codes "*") (λ other. fine (inr (one_text second.multiplicity one, other))))),
)
