-- Just one breach is the first, where each rule tells one place at each spot.
use Rattle.std.proofs.Common.{◌≡◌, ◌≢◌, ◌⊎◌, inl, inr, ℕ, ◌+◌, ◌≤◌, List, sym, subst, arith}
use Rattle.std.proofs.Math.Nat.{le_antisymm}
use Rattle.std.specs.Ordering.{nat_cmp}
use Rattle.std.specs.Cmp.Lexicographic.{nat_list_cmp_total, slice_cmp}
use Rattle.std.specs.FinMap.{nat_cmp-IsAntisymmetric, slice_cmp-IsAntisymmetric}
use Rattle.emc_base.proofs.Orders.{neither_after}
use Rattle.round_trip.specs.Types.{Value, Null, Place, Kind, Breach, InDomain}
use Rattle.round_trip.specs.legality.Breaches.{IsFirstBreach}

-- no more than one place is told
abbrev pub TellsOne : (Place → Type 0) → Type 0
TellsOne Told = (one two : Place) → Told one → Told two → one ≡ two

-- values that stand where something is declared, as a property or a column
module _ {Declared : Type 0} (Stands : Place → Value → Declared → Type 0) where
  abbrev pub StandsSome : Place → Type 0
  StandsSome place = (value : Value) × (declared : Declared) × Stands place value declared

  module _ (one : TellsOne StandsSome) where
    -- of a null that may not stand there
    pub null_told : (Forbids : Declared → Type 0) → TellsOne (λ place. (declared : Declared) × Stands place Null declared × Forbids declared)
    null_told Forbids x y first second = one x y (Null, first.0, first.1) (Null, second.0, second.1)

    -- of a value that is outside its domain
    pub domain_told : (kind_of : Declared → Kind)
        → TellsOne (λ place. (value : Value) × (declared : Declared) × Stands place value declared × (value ≢ Null) × ¬ InDomain value (kind_of declared))
    domain_told kind_of x y first second = one x y (first.0, first.1, first.2) (second.0, second.1, second.2)

-- all the rules have this number or a greater one, and each tells one place
pub record TellsOneFrom (number : ℕ) (Told : ℕ → Place → Type 0) : Type 0 where
  pub from : (rule : ℕ) (place : Place) → Told rule place → number ≤ rule
  pub one : (rule : ℕ) → TellsOne (Told rule)

module _ (number : ℕ) (Told : Place → Type 0) (one : TellsOne Told) where
  -- the rule of this number, and no other
  pub last_rule : TellsOneFrom number (λ rule place. (rule ≡ number) × Told place)
  last_rule = record { from = λ rule place told. omega (arith, told.0); one = λ rule x y told other. one x y told.1 other.1 }

  module _ (More : ℕ → Place → Type 0) (more : TellsOneFrom (number + 1) More) where
    abbrev OfBoth : ℕ → Place → Type 0
    OfBoth rule place = ((rule ≡ number) × Told place) ⊎ More rule place

    from : (rule : ℕ) (place : Place) → OfBoth rule place → number ≤ rule
    from rule place (inl told) = omega (arith, told.0)
    from rule place (inr told) = omega (arith, more.from rule place told)

    one_of_both : (rule : ℕ) → TellsOne (OfBoth rule)
    one_of_both rule x y (inl told) (inl other) = one x y told.1 other.1
    one_of_both rule x y (inl told) (inr other) = absurd (omega (arith, told.0, more.from rule y other))
    one_of_both rule x y (inr told) (inl other) = absurd (omega (arith, other.0, more.from rule x told))
    one_of_both rule x y (inr told) (inr other) = more.one rule x y told other

    -- the rule of this number, or one of greater numbers
    pub before_rules : TellsOneFrom number OfBoth
    before_rules = record { from = from; one = one_of_both }

pub one_first : (Breaks : ℕ → List ℕ → Place → Type 0) → ((rule : ℕ) (spot : List ℕ) → TellsOne (Breaks rule spot))
    → (one two : Breach) → IsFirstBreach Breaks one → IsFirstBreach Breaks two → one ≡ two
one_first Breaks tells one two first second =
    let rules : two.rule ≡ one.rule = le_antisymm (second.least one.rule first.spot one.place first.broken) (first.least two.rule second.spot two.place second.broken) in
    let one_there : Breaks two.rule first.spot one.place = subst (λ rule. Breaks rule first.spot one.place) (sym rules) first.broken in
    let two_here : Breaks one.rule second.spot two.place = subst (λ rule. Breaks rule second.spot two.place) rules second.broken in
    let spots : first.spot ≡ second.spot = neither_after (slice_cmp nat_cmp) nat_list_cmp_total (slice_cmp-IsAntisymmetric nat_cmp-IsAntisymmetric) first.spot second.spot
    (first.first second.spot two.place two_here) (second.first first.spot one.place one_there) in
    let places : one.place ≡ two.place = tells one.rule first.spot one.place two.place first.broken
    (subst (λ spot. Breaks one.rule spot two.place) (sym spots) two_here) in
    λ i. record { rule = sym rules i; place = places i }
