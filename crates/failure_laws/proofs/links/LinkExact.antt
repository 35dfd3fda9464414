-- Conflicts of an association's links are exact, kind by kind.
use Rattle.std.proofs.Common.{◌↔◌, ◌⊎◌, inl, inr, refl, arith}
use Rattle.round_trip.specs.Words.{AssocId}
use Rattle.round_trip.specs.declared.FailKind.{FailKind}
use Rattle.round_trip.specs.declared.FailKind.TheVariants as variant
use Rattle.cells.specs.Limits.{IsWithinLimits}
use Rattle.regions.specs.declared.pattern.Focus.TheVariants as focus
use Rattle.regions.specs.Basis.{Basis}
use Rattle.regions.specs.region_laws.IsBasis.{IsBasis}
use Rattle.region_states.specs.conflicts.Conflicts.{IsLinkConflictAt, IsTableOf}
use Rattle.region_states.specs.conflicts.There.{AreTwoLinks, LinksFailThere, NoneFailsBefore, NoneFailsBy}
use Rattle.region_states.specs.declared.conflicts.conflict.Conflict.{Conflict}
use Rattle.region_states.specs.declared.conflicts.conflict.Conflict.TheVariants as conflict
use Rattle.failure_laws.proofs.links.LinkFacts.{Decides-unmapped}
use Rattle.failure_laws.proofs.links.LinkThere.{clashes_there, disagrees_there, many_there, nulls_there, unmapped_fails}
use Rattle.failure_laws.proofs.links.LinkTold.{SomeOfLinks, clash_told, disagreement_told, many_told, null_told}

module _ (basis : Basis) (is : IsBasis basis) (limits : IsWithinLimits basis.schema) (a : AssocId) where
  -- where a conflict is one of this kind, some legal state fails by it
  clash_there : (found : Conflict) → IsLinkConflictAt basis a variant.Clash found → LinksFailThere basis a variant.Clash
  clash_there (conflict.Clash (focus.Link b) t col one two) at = clashes_there basis is limits a b at.of_links t col one two at.holds
  clash_there (conflict.Clash (focus.Entity region) t col one two) at = absurd at.of_links
  clash_there (conflict.ManyLinks b) at = many_there basis is limits a b at.of_links at.holds
  clash_there (conflict.NullIn of t col one) at = absurd (let never = at.of_kind in cc)
  clash_there (conflict.Disagree of place) at = absurd (let never = at.of_kind in cc)
  clash_there (conflict.Absent region) at = absurd at.of_links
  clash_there (conflict.Rival one two) at = absurd at.of_links
  clash_there (conflict.Lost region p) at = absurd at.of_links
  clash_there (conflict.Unmapped b) at = absurd (let never = at.of_kind in cc)

  null_there : NoneFailsBy basis.schema variant.Clash → (found : Conflict) → IsLinkConflictAt basis a variant.Null found → LinksFailThere basis a variant.Null
  null_there none (conflict.NullIn (focus.Link b) t col one) at = nulls_there basis is limits a b at.of_links none t col one at.holds
  null_there none (conflict.NullIn (focus.Entity region) t col one) at = absurd at.of_links
  null_there none (conflict.Clash of t col one two) at = absurd (let never = at.of_kind in cc)
  null_there none (conflict.ManyLinks b) at = absurd (let never = at.of_kind in cc)
  null_there none (conflict.Disagree of place) at = absurd (let never = at.of_kind in cc)
  null_there none (conflict.Absent region) at = absurd at.of_links
  null_there none (conflict.Rival one two) at = absurd at.of_links
  null_there none (conflict.Lost region p) at = absurd at.of_links
  null_there none (conflict.Unmapped b) at = absurd (let never = at.of_kind in cc)

  disagreement_there : NoneFailsBy basis.schema variant.Clash → (found : Conflict) → IsLinkConflictAt basis a variant.Disagrees found → LinksFailThere basis a variant.Disagrees
  disagreement_there none (conflict.Disagree (focus.Link b) place) at = disagrees_there basis is limits a b at.of_links none place at.holds
  disagreement_there none (conflict.Disagree (focus.Entity region) place) at = absurd at.of_links
  disagreement_there none (conflict.Clash of t col one two) at = absurd (let never = at.of_kind in cc)
  disagreement_there none (conflict.ManyLinks b) at = absurd (let never = at.of_kind in cc)
  disagreement_there none (conflict.NullIn of t col one) at = absurd (let never = at.of_kind in cc)
  disagreement_there none (conflict.Absent region) at = absurd at.of_links
  disagreement_there none (conflict.Rival one two) at = absurd at.of_links
  disagreement_there none (conflict.Lost region p) at = absurd at.of_links
  disagreement_there none (conflict.Unmapped b) at = absurd (let never = at.of_kind in cc)

  same_there : NoneFailsBy basis.schema variant.Clash → (found : Conflict) → IsLinkConflictAt basis a variant.Same found → LinksFailThere basis a variant.Same
  same_there none (conflict.Unmapped b) at = unmapped_fails basis is limits a none b at.of_links at.holds
  same_there none (conflict.Clash of t col one two) at = absurd (let never = at.of_kind in cc)
  same_there none (conflict.ManyLinks b) at = absurd (let never = at.of_kind in cc)
  same_there none (conflict.NullIn of t col one) at = absurd (let never = at.of_kind in cc)
  same_there none (conflict.Disagree of place) at = absurd (let never = at.of_kind in cc)
  same_there none (conflict.Absent region) at = absurd at.of_links
  same_there none (conflict.Rival one two) at = absurd at.of_links
  same_there none (conflict.Lost region p) at = absurd at.of_links

  -- no conflict is of the kind dangling
  never_dangling : (found : Conflict) → IsLinkConflictAt basis a variant.Dangling found → ⊥
  never_dangling (conflict.Clash of t col one two) at = (let kind = at.of_kind in cc)
  never_dangling (conflict.ManyLinks b) at = (let kind = at.of_kind in cc)
  never_dangling (conflict.NullIn of t col one) at = (let kind = at.of_kind in cc)
  never_dangling (conflict.Disagree of place) at = (let kind = at.of_kind in cc)
  never_dangling (conflict.Absent region) at = at.of_links
  never_dangling (conflict.Rival one two) at = at.of_links
  never_dangling (conflict.Lost region p) at = at.of_links
  never_dangling (conflict.Unmapped b) at = (let kind = at.of_kind in cc)

  -- and where some legal state fails, there is a conflict
  told_clash : LinksFailThere basis a variant.Clash → SomeOfLinks basis a variant.Clash
  told_clash there = by there.fails.1
    where
      by : IsTableOf basis a there.fails.0.t ⊎ AreTwoLinks basis a there.c there.fails.0.t there.fails.0.key there.fails.0.col there.fails.0.one there.fails.0.two
          → SomeOfLinks basis a variant.Clash
      by (inl of) = clash_told basis is there.c there.legal a there.place there.fails.0 of
      by (inr are) = many_told basis is there.c there.legal a there.fails.0.t there.fails.0.key there.fails.0.col there.fails.0.one there.fails.0.two are

  told_same : LinksFailThere basis a variant.Same → SomeOfLinks basis a variant.Same
  told_same there = (
    conflict.Unmapped a,
    record { of_kind = refl; of_links = refl; holds = (Decides-unmapped basis a).1 (there.fails.1.0, there.fails.1.1) },
  )

  by_kind : (kind : FailKind) → NoneFailsBefore basis.schema kind → ((found : Conflict) × IsLinkConflictAt basis a kind found) ↔ LinksFailThere basis a kind
  by_kind variant.Clash before = ((λ found. clash_there found.0 found.1), told_clash)
  by_kind variant.Null before =
      let none = before variant.Clash (omega (arith)) in
      ((λ found. null_there none found.0 found.1), λ there. null_told basis is there.c there.legal a there.place there.fails.0 there.fails.1)
  by_kind variant.Disagrees before =
      let none = before variant.Clash (omega (arith)) in
      ((λ found. disagreement_there none found.0 found.1), λ there. disagreement_told basis is there.c there.legal a none there.place there.fails.0 there.fails.1)
  by_kind variant.Dangling before = ((λ found. absurd (never_dangling found.0 found.1)), λ there. absurd there.fails)
  by_kind variant.Same before =
      let none = before variant.Clash (omega (arith)) in ((λ found. same_there none found.0 found.1), told_same)

pub links_exact : (basis : Basis) → IsBasis basis → IsWithinLimits basis.schema → (kind : FailKind) → NoneFailsBefore basis.schema kind → (a : AssocId)
    → ((found : Conflict) × IsLinkConflictAt basis a kind found) ↔ LinksFailThere basis a kind
links_exact basis is limits kind before a = by_kind basis is limits a kind before
