-- The orders of parts and of spots tell different ones apart.
use Rattle.std.proofs.Common.{◌≡◌, ℕ, List, [], ◌∷◌, map, Bool, true, false, Decides, Option, Some, None, refl, sym, ap, subst, ◌∙◌}
use Rattle.std.specs.FinMap.{nat_cmp-IsAntisymmetric, slice_cmp-IsAntisymmetric}
use Rattle.std.specs.Cmp.{IsTotalOrder}
use Rattle.std.specs.Cmp.Lexicographic.{slice_cmp}
use Rattle.std.specs.Ordering.{is_eq, nat_cmp, ordering_then}
use Rattle.std.specs.declared.cmp.Ordering.{Ordering}
use Rattle.std.specs.declared.cmp.Ordering.TheVariants.{Less, Equal, Greater}
use Rattle.emc_base.specs.OrderLaws.{value_cmp_apart}
use Rattle.std.proofs.lemmas.Cmp.{lists_total, nat_cmp_total, tied_itself}
use Rattle.emc_base.proofs.facts.Orderings.{is_equal}
use Rattle.regions.specs.declared.pattern.Symbol.{Symbol}
use Rattle.regions.specs.declared.pattern.Symbol.TheVariants as symbol
use Rattle.forced_entities.specs.Spots.{IsSpotOf, part_cmp, part_of, spot_cmp}
use Rattle.forced_entities.specs.contracts.spots.PartOrd.TheImpl.Laws.{total-law as part_total-law}
use Rattle.forced_entities.specs.declared.member.Forced.{Forced}
use Rattle.forced_entities.specs.declared.spots.Spot.{Spot}
use Rattle.forced_entities.specs.declared.spots.Part.{Part}
use Rattle.forced_entities.specs.declared.spots.Part.TheVariants.{Unknown, Null, Const, Prop, End}

-- what comes first decides, and then what comes next
first_equal : (first rest : Ordering) → ordering_then first rest ≡ Equal → first ≡ Equal
first_equal Less rest told = cc
first_equal Equal rest told = refl
first_equal Greater rest told = cc

rest_equal : (first rest : Ordering) → ordering_then first rest ≡ Equal → rest ≡ Equal
rest_equal Less rest told = cc
rest_equal Equal rest told = told
rest_equal Greater rest told = cc

ends : (a b p q : ℕ) (f g : Bool) → part_cmp (End a f p) (End b g q) ≡ Equal → End a f p ≡ End b g q
ends a b p q true true is =
    let first : a ≡ b = nat_cmp-IsAntisymmetric a b (first_equal (nat_cmp a b) (nat_cmp p q) is) in
    let last : p ≡ q = nat_cmp-IsAntisymmetric p q (rest_equal (nat_cmp a b) (nat_cmp p q) is) in
    λ k. End (first k) true (last k)
ends a b p q false false is =
    let first : a ≡ b = nat_cmp-IsAntisymmetric a b (first_equal (nat_cmp a b) (nat_cmp p q) is) in
    let last : p ≡ q = nat_cmp-IsAntisymmetric p q (rest_equal (nat_cmp a b) (nat_cmp p q) is) in
    λ k. End (first k) false (last k)
ends a b p q true false is = absurd (let never : Greater ≡ Equal = rest_equal (nat_cmp a b) Greater is in cc)
ends a b p q false true is = absurd (let never : Less ≡ Equal = rest_equal (nat_cmp a b) Less is in cc)

pub part_apart : (one other : Part) → part_cmp one other ≡ Equal → one ≡ other
part_apart Unknown Unknown is = refl
part_apart Null Null is = refl
part_apart (Const v) (Const w) is = ap Const (value_cmp_apart v w is)
part_apart (Prop p) (Prop q) is = ap Prop (nat_cmp-IsAntisymmetric p q is)
part_apart (End a f p) (End b g q) is = ends a b p q f g is
part_apart one other is = cc

-- the order of forced entities, by sets, types and parts
abbrev pub forced_cmp : Forced → Forced → Ordering
forced_cmp one other = ordering_then (nat_cmp one.set.index other.set.index)
    (ordering_then (nat_cmp one.ty.index other.ty.index) (slice_cmp part_cmp (map part_of one.key) (map part_of other.key)))

-- spots are ordered as the entities are
spot_order : (one other : Forced) (s t : Spot) → IsSpotOf one s → IsSpotOf other t → spot_cmp s t ≡ forced_cmp one other
spot_order one other s t is_one is_other =
    (λ k. ordering_then (nat_cmp (is_one.set k) (is_other.set k)) (ordering_then (nat_cmp (is_one.ty k) (is_other.ty k)) (slice_cmp part_cmp (is_one.key k) (is_other.key k))))

-- what is told of parts tells them apart
part_same : (one other : Option Symbol) → part_of one ≡ part_of other → one ≡ other
part_same None None is = refl
part_same None (Some symbol.Null) is = cc
part_same None (Some (symbol.Const v)) is = cc
part_same None (Some (symbol.Prop p)) is = cc
part_same None (Some (symbol.End a f p)) is = cc
part_same (Some symbol.Null) None is = cc
part_same (Some symbol.Null) (Some symbol.Null) is = refl
part_same (Some symbol.Null) (Some (symbol.Const v)) is = cc
part_same (Some symbol.Null) (Some (symbol.Prop p)) is = cc
part_same (Some symbol.Null) (Some (symbol.End a f p)) is = cc
part_same (Some (symbol.Const v)) None is = cc
part_same (Some (symbol.Const v)) (Some symbol.Null) is = cc
part_same (Some (symbol.Const v)) (Some (symbol.Const w)) is = (let same : v ≡ w = cc in λ k. Some (symbol.Const (same k)))
part_same (Some (symbol.Const v)) (Some (symbol.Prop p)) is = cc
part_same (Some (symbol.Const v)) (Some (symbol.End a f p)) is = cc
part_same (Some (symbol.Prop p)) None is = cc
part_same (Some (symbol.Prop p)) (Some symbol.Null) is = cc
part_same (Some (symbol.Prop p)) (Some (symbol.Const v)) is = cc
part_same (Some (symbol.Prop p)) (Some (symbol.Prop q)) is = (let same : p.index ≡ q.index = cc in λ k. Some (symbol.Prop (record { index = same k })))
part_same (Some (symbol.Prop p)) (Some (symbol.End a f q)) is = cc
part_same (Some (symbol.End a f p)) None is = cc
part_same (Some (symbol.End a f p)) (Some symbol.Null) is = cc
part_same (Some (symbol.End a f p)) (Some (symbol.Const v)) is = cc
part_same (Some (symbol.End a f p)) (Some (symbol.Prop q)) is = cc
part_same (Some (symbol.End a f p)) (Some (symbol.End b g q)) is =
    (let first : a.index ≡ b.index = cc in
    let side : f ≡ g = cc in
    let last : p.index ≡ q.index = cc in
    λ k. Some (symbol.End (record { index = first k }) (side k) (record { index = last k })))

parts_same : (one other : List (Option Symbol)) → map part_of one ≡ map part_of other → one ≡ other
parts_same [] [] is = refl
parts_same [] (y ∷ ys) is = absurd (let never : [] ≡ part_of y ∷ map part_of ys = is in let none : ⊥ = cc in none)
parts_same (x ∷ xs) [] is = absurd (let never : part_of x ∷ map part_of xs ≡ [] = is in let none : ⊥ = cc in none)
parts_same (x ∷ xs) (y ∷ ys) is =
    let both : part_of x ∷ map part_of xs ≡ part_of y ∷ map part_of ys = is in
    let first : part_of x ≡ part_of y = cc in
    let rest : map part_of xs ≡ map part_of ys = cc in
    let one : x ≡ y = part_same x y first in
    let more : xs ≡ ys = parts_same xs ys rest in
    λ k. one k ∷ more k

parts_total : IsTotalOrder (slice_cmp part_cmp)
parts_total = lists_total part_total-law

itself : (one : Forced) → forced_cmp one one ≡ Equal
itself one =
    let keys : Ordering = slice_cmp part_cmp (map part_of one.key) (map part_of one.key) in
    ap (λ (order : Ordering). ordering_then order (ordering_then (nat_cmp one.ty.index one.ty.index) keys)) (tied_itself nat_cmp_total one.set.index)
    ∙ ap (λ (order : Ordering). ordering_then order keys) (tied_itself nat_cmp_total one.ty.index)
    ∙ tied_itself parts_total (map part_of one.key)

-- the order tells different ones apart
pub Decides-forced : (one other : Forced) → Decides (is_eq (forced_cmp one other)) (one ≡ other)
Decides-forced one other = (
  (λ told.
      let sets : Ordering = nat_cmp one.set.index other.set.index in
      let types : Ordering = nat_cmp one.ty.index other.ty.index in
      let keys : Ordering = slice_cmp part_cmp (map part_of one.key) (map part_of other.key) in
      let equal : ordering_then sets (ordering_then types keys) ≡ Equal = is_equal (forced_cmp one other) told in
      let rest = rest_equal sets (ordering_then types keys) equal in
      let set_is : one.set.index ≡ other.set.index = nat_cmp-IsAntisymmetric one.set.index other.set.index (first_equal sets (ordering_then types keys) equal) in
      let type_is : one.ty.index ≡ other.ty.index = nat_cmp-IsAntisymmetric one.ty.index other.ty.index (first_equal types keys rest) in
      let key_is : one.key ≡ other.key = parts_same one.key other.key (slice_cmp-IsAntisymmetric part_apart (map part_of one.key) (map part_of other.key) (rest_equal types keys rest)) in
      λ k. record { set = record { index = set_is k }; ty = record { index = type_is k }; key = key_is k }),
  (λ same. ap is_eq (ap (forced_cmp one) (sym same) ∙ itself one)),
)

-- equal spots are those of one entity
pub Decides-spot : (one other : Forced) (s t : Spot) → IsSpotOf one s → IsSpotOf other t → Decides (is_eq (spot_cmp s t)) (one ≡ other)
Decides-spot one other s t is_one is_other =
    subst (λ (b : Bool). Decides b (one ≡ other)) (sym (ap is_eq (spot_order one other s t is_one is_other))) (Decides-forced one other)
