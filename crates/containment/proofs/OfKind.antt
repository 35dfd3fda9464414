-- Which conflicts of a region or a link are of a kind.
use Rattle.std.proofs.Common.{◌≡◌, ℕ, List, Some, false, true≢false, IsTrue, refl, sym, subst, ◌∙◌}
use Rattle.std.proofs.lemmas.Option.{none-some}
use Rattle.round_trip.specs.Words.{ColId, TableId}
use Rattle.round_trip.specs.declared.FailKind.TheVariants as kind
use Rattle.regions.specs.Basis.{Basis}
use Rattle.regions.specs.declared.pattern.Focus.{Focus}
use Rattle.regions.specs.declared.pattern.Symbol.{Symbol}
use Rattle.region_states.specs.conflicts.Facts.{disagrees_at, is_clash, is_null_in}
use Rattle.region_states.specs.declared.conflicts.conflict.Conflict.{Conflict}
use Rattle.region_states.specs.declared.conflicts.conflict.Conflict.TheVariants as conflict
use Rattle.containment.specs.Found.{IsOneOf}

module _ (basis : Basis) (at : Focus) where
  -- a clash, and where there is none
  pub is_clash_one : (t : TableId) (col : ColId) (one two : Symbol) → IsTrue (is_clash basis at t col one two) → IsOneOf basis at kind.Clash (conflict.Clash at t col one two)
  is_clash_one t col one two holds = record { of_kind = refl; of_focus = refl; holds = holds }

  pub no_clash_one : ((t : TableId) (col : ColId) (one two : Symbol) → is_clash basis at t col one two ≡ false) → (made : Conflict) → ¬ IsOneOf basis at kind.Clash made
  no_clash_one none (conflict.Clash of t col one two) is =
      let same : of ≡ at = (let both : Some of ≡ Some at = is.of_focus in cc) in
      true≢false (sym (subst (λ who. IsTrue (is_clash basis who t col one two)) same is.holds) ∙ none t col one two)
  no_clash_one none (conflict.NullIn of t col one) is = let told : kind.Null ≡ kind.Clash = is.of_kind in cc
  no_clash_one none (conflict.Disagree of place) is = let told : kind.Disagrees ≡ kind.Clash = is.of_kind in cc
  no_clash_one none (conflict.Absent one) is = let told : kind.Same ≡ kind.Clash = is.of_kind in cc
  no_clash_one none (conflict.Rival one two) is = let told : kind.Same ≡ kind.Clash = is.of_kind in cc
  no_clash_one none (conflict.Lost one p) is = let told : kind.Same ≡ kind.Clash = is.of_kind in cc
  no_clash_one none (conflict.ManyLinks a) is = none-some at is.of_focus
  no_clash_one none (conflict.Unmapped a) is = let told : kind.Same ≡ kind.Clash = is.of_kind in cc

  -- a null, and where there is none
  pub is_null_one : (t : TableId) (col : ColId) (one : Symbol) → IsTrue (is_null_in basis at t col one) → IsOneOf basis at kind.Null (conflict.NullIn at t col one)
  is_null_one t col one holds = record { of_kind = refl; of_focus = refl; holds = holds }

  pub no_null_one : ((t : TableId) (col : ColId) (one : Symbol) → is_null_in basis at t col one ≡ false) → (made : Conflict) → ¬ IsOneOf basis at kind.Null made
  no_null_one none (conflict.NullIn of t col one) is =
      let same : of ≡ at = (let both : Some of ≡ Some at = is.of_focus in cc) in
      true≢false (sym (subst (λ who. IsTrue (is_null_in basis who t col one)) same is.holds) ∙ none t col one)
  no_null_one none (conflict.Clash of t col one two) is = let told : kind.Clash ≡ kind.Null = is.of_kind in cc
  no_null_one none (conflict.Disagree of place) is = let told : kind.Disagrees ≡ kind.Null = is.of_kind in cc
  no_null_one none (conflict.Absent one) is = let told : kind.Same ≡ kind.Null = is.of_kind in cc
  no_null_one none (conflict.Rival one two) is = let told : kind.Same ≡ kind.Null = is.of_kind in cc
  no_null_one none (conflict.Lost one p) is = let told : kind.Same ≡ kind.Null = is.of_kind in cc
  no_null_one none (conflict.ManyLinks a) is = let told : kind.Clash ≡ kind.Null = is.of_kind in cc
  no_null_one none (conflict.Unmapped a) is = let told : kind.Same ≡ kind.Null = is.of_kind in cc

  -- a disagreement, and where there is none
  pub is_disagreement : (place : List ℕ) → IsTrue (disagrees_at basis at place) → IsOneOf basis at kind.Disagrees (conflict.Disagree at place)
  is_disagreement place holds = record { of_kind = refl; of_focus = refl; holds = holds }

  pub no_disagreement : ((place : List ℕ) → disagrees_at basis at place ≡ false) → (made : Conflict) → ¬ IsOneOf basis at kind.Disagrees made
  no_disagreement none (conflict.Disagree of place) is =
      let same : of ≡ at = (let both : Some of ≡ Some at = is.of_focus in cc) in
      true≢false (sym (subst (λ who. IsTrue (disagrees_at basis who place)) same is.holds) ∙ none place)
  no_disagreement none (conflict.Clash of t col one two) is = let told : kind.Clash ≡ kind.Disagrees = is.of_kind in cc
  no_disagreement none (conflict.NullIn of t col one) is = let told : kind.Null ≡ kind.Disagrees = is.of_kind in cc
  no_disagreement none (conflict.Absent one) is = let told : kind.Same ≡ kind.Disagrees = is.of_kind in cc
  no_disagreement none (conflict.Rival one two) is = let told : kind.Same ≡ kind.Disagrees = is.of_kind in cc
  no_disagreement none (conflict.Lost one p) is = let told : kind.Same ≡ kind.Disagrees = is.of_kind in cc
  no_disagreement none (conflict.ManyLinks a) is = let told : kind.Clash ≡ kind.Disagrees = is.of_kind in cc
  no_disagreement none (conflict.Unmapped a) is = let told : kind.Same ≡ kind.Disagrees = is.of_kind in cc

  -- no conflict is one by which a foreign key dangles
  pub no_dangling : (made : Conflict) → ¬ IsOneOf basis at kind.Dangling made
  no_dangling (conflict.Clash of t col one two) is = let told : kind.Clash ≡ kind.Dangling = is.of_kind in cc
  no_dangling (conflict.NullIn of t col one) is = let told : kind.Null ≡ kind.Dangling = is.of_kind in cc
  no_dangling (conflict.Disagree of place) is = let told : kind.Disagrees ≡ kind.Dangling = is.of_kind in cc
  no_dangling (conflict.Absent one) is = let told : kind.Same ≡ kind.Dangling = is.of_kind in cc
  no_dangling (conflict.Rival one two) is = let told : kind.Same ≡ kind.Dangling = is.of_kind in cc
  no_dangling (conflict.Lost one p) is = let told : kind.Same ≡ kind.Dangling = is.of_kind in cc
  no_dangling (conflict.ManyLinks a) is = let told : kind.Clash ≡ kind.Dangling = is.of_kind in cc
  no_dangling (conflict.Unmapped a) is = let told : kind.Same ≡ kind.Dangling = is.of_kind in cc
