-- Marks at the places of a type and of those that are derived from it.
use Rattle.std.proofs.Common.{◌≡◌, ⊎_elim, inl, inr, ℕ, ◌+◌, ◌<◌, ◌≤◌, List, length, replicate, Bool, true, false, Contains, Some, sym, ap, subst, ◌∙◌, arith}
use Rattle.std.proofs.lemmas.List.{length-replicate}
use Rattle.std.proofs.lemmas.Bool.{cases_eq}
use Rattle.std.proofs.lemmas.Option.{slice_get-get_or, slice_get_within}
use Rattle.emc_base.specs.Lists.{At}
use Rattle.emc_base.proofs.Lists.{at_once, item_at}
use Rattle.emc_base.proofs.Mapped.{contains_at}
use Rattle.round_trip.specs.Words.{TypeId, EntityModel, IsA}
use Rattle.edm_types.specs.IsA.{same, base, chain}
use Rattle.edm_types.specs.Forest.{IsSubtree, type_numbered}
use Rattle.edm_types.specs.Marks.{AddsMarks}
use Rattle.edm_types.proofs.Marks.{adds_both, adds_none, adds_same, none_marked}
use Rattle.round_trip.specs.soundness.models.ModelIds.{IsTypeId}
use Rattle.state_legality.specs.link_legality.Ends.{MarksUnder}

-- only types of the model are derived from one of them
pub in_model : (model : EntityModel) (t u : TypeId) → IsA model t u → IsTypeId model u → IsTypeId model t
in_model model t u (same _) known = known
in_model model t u (base _ _ has) known = slice_get_within model.types t.index has.0 has.1
in_model model t u (chain _ v _ one two) known = in_model model t v one (in_model model v u two known)

-- marks at the types of a subtree are those that are asked for
pub marks_subtree : (model : EntityModel) (u : TypeId) (types : List TypeId) (count : ℕ) (marks : List Bool) → IsTypeId model u → count ≡ length model.types → IsSubtree model u types
    → AddsMarks (λ i. Contains types (type_numbered i)) (replicate count false) marks → MarksUnder model u marks
marks_subtree model u types count marks known is tree adds t = (
  λ marked. ⊎_elim
      (λ (old : At (replicate count false) t.index true). absurd (none_marked count t.index old))
      (λ (new : (t.index < length (replicate count false)) × Contains types (type_numbered t.index)). ((tree.all t).0 new.1).2)
      ((adds.marked t.index).0 marked),
  λ derived.
      (let inside : t.index < length model.types = in_model model t u derived known in
      let type = item_at model.types t.index inside in
      let Below : ℕ → Type 0 = λ n. t.index < n in
      (adds.marked t.index).1 (inr (subst Below (sym (length-replicate count false ∙ is)) inside, (tree.all t).1 (type.0, type.1, derived)))),
)

-- the place is that of one of the first so many types
pub record PassedTo (types : List TypeId) (n i : ℕ) : Type 0 where
  pub place : ℕ
  pub before : place < n
  pub here : At types place (type_numbered i)

pub marks_start : (types : List TypeId) (before : List Bool) → AddsMarks (PassedTo types 0) before before
marks_start types before = adds_same before before
    (λ i within. (λ no. absurd no, λ some. absurd (let below : some.place < 0 = some.before in omega arith))) (adds_none before)

pub marks_more : (types : List TypeId) (n : ℕ) (t : TypeId) (before now after : List Bool) → At types n t → AddsMarks (PassedTo types n) before now
    → AddsMarks (λ i. i ≡ t.index) now after → AddsMarks (PassedTo types (n + 1)) before after
marks_more types n t before now after at so_far one = adds_same before after
    (λ i within. (
      λ either. ⊎_elim
          (λ (some : PassedTo types n i). record { place = some.place; before = (let below : some.place < n = some.before in omega arith); here = some.here })
          (λ (is : i ≡ t.index). record { place = n; before = omega arith; here = subst (λ (k : ℕ). At types n (type_numbered k)) (sym is) at })
          either,
      λ some. ⊎_elim
          (λ (last : some.place ≡ n).
          let there : At types n (type_numbered i) = subst (λ (k : ℕ). At types k (type_numbered i)) last some.here in
          inr (ap (λ (id : TypeId). id.index) (at_once types n (type_numbered i) t there at)))
          (λ other.
          let below : some.place < n + 1 = some.before in
          inl (record { place = some.place; before = omega arith; here = some.here }))
          (cases_eq some.place n),
    ))
    (adds_both before now after so_far one)

pub marks_end : (types : List TypeId) (n : ℕ) (before after : List Bool) → length types ≤ n → AddsMarks (PassedTo types n) before after
    → AddsMarks (λ i. Contains types (type_numbered i)) before after
marks_end types n before after end = adds_same before after (λ i within. (
  λ some. contains_at types some.place (type_numbered i) some.here,
  λ has. record {
    place = has.0;
    before = (let inside : has.0 < length types = has.1 in omega arith);
    here = slice_get-get_or types has.0 (type_numbered i) has.1 ∙ ap Some has.2;
  },
))
