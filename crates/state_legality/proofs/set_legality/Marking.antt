-- The marks of some types, one after the other, and that all of those under a type are marked.
use Rattle.std.proofs.Common.{◌≡◌, ◌≢◌, ◌⊎◌, ⊎_elim, inl, inr, ℕ, ◌+◌, ◌<◌, ◌≤◌, List, length, replicate, Bool, true, false, Contains, Some, refl, sym, ap, subst, ◌∙◌, arith}
use Rattle.std.proofs.lemmas.Bool.{cases_eq}
use Rattle.std.proofs.lemmas.List.{length-replicate}
use Rattle.std.proofs.lemmas.Option.{slice_get-get_or, slice_get_within}
use Rattle.emc_base.specs.Lists.{At}
use Rattle.emc_base.proofs.Lists.{at_once}
use Rattle.emc_base.proofs.Mapped.{contains_at}
use Rattle.round_trip.specs.Words.{EntityModel, TypeId}
use Rattle.edm_types.specs.Forest.{IsSubtree}
use Rattle.edm_types.specs.Marks.{AddsMarks}
use Rattle.edm_types.proofs.Marks.{adds_both, adds_none, adds_same, none_marked}
use Rattle.state_legality.specs.set_legality.Types.{MarksUnder}

module _ (types : List TypeId) where
  -- one of the first so many types has this place
  pub record HasPlace (n : ℕ) (i : ℕ) : Type 0 where
    pub k : ℕ
    pub ty : TypeId
    pub before : k < n
    pub here : At types k ty
    pub place_is : i ≡ ty.index

  pub marks_none : (before : List Bool) → AddsMarks (HasPlace 0) before before
  marks_none before = adds_same {P = λ i. ⊥} {Q = HasPlace 0} before before
      (λ i within. (λ no. absurd no, λ passed. absurd (let below : passed.k < 0 = passed.before in omega arith)))
      (adds_none before)

  pub marks_more : (n : ℕ) (ty : TypeId) (before now after : List Bool) → At types n ty → AddsMarks (HasPlace n) before now → AddsMarks (λ i. i ≡ ty.index) now after
      → AddsMarks (HasPlace (n + 1)) before after
  marks_more n ty before now after here one two =
      adds_same {P = λ i. HasPlace n i ⊎ (i ≡ ty.index)} {Q = HasPlace (n + 1)} before after (λ i within. (to i, from i)) (adds_both before now after one two)
    where
      to : (i : ℕ) → HasPlace n i ⊎ (i ≡ ty.index) → HasPlace (n + 1) i
      to i (inl passed) = record { k = passed.k; ty = passed.ty; before = (let below : passed.k < n = passed.before in omega arith); here = passed.here; place_is = passed.place_is }
      to i (inr is) = record { k = n; ty = ty; before = omega arith; here = here; place_is = is }

      from : (i : ℕ) → HasPlace (n + 1) i → HasPlace n i ⊎ (i ≡ ty.index)
      from i passed = ⊎_elim
          (λ (same : passed.k ≡ n).
          let is : passed.ty ≡ ty = at_once types n passed.ty ty (subst (λ (k : ℕ). At types k passed.ty) same passed.here) here in
          inr (passed.place_is ∙ ap (λ (t : TypeId). t.index) is))
          (λ (other : passed.k ≢ n). inl (record {
            k = passed.k;
            ty = passed.ty;
            before = (let below : passed.k < n + 1 = passed.before in omega arith);
            here = passed.here;
            place_is = passed.place_is;
          }))
          (cases_eq passed.k n)

  module _ (model : EntityModel) (element : TypeId) (under : IsSubtree model element types) where
    pub marks_all : (n : ℕ) (marks : List Bool) → length types ≤ n → AddsMarks (HasPlace n) (replicate (length model.types) false) marks → MarksUnder model element marks
    marks_all n marks end adds t = (
      λ has. ⊎_elim
          (λ (no : At (replicate (length model.types) false) t.index true). absurd (none_marked (length model.types) t.index no))
          (λ (new : (t.index < length (replicate (length model.types) false)) × HasPlace n t.index).
          let is : t ≡ new.1.ty = λ i. record { index = new.1.place_is i } in
          (under.all t).0 (subst (Contains types) (sym is) (contains_at types new.1.k new.1.ty new.1.here)))
          ((adds.marked t.index).0 has),
      λ some.
          (let member : Contains types t = (under.all t).1 some in
          let Below : ℕ → Type 0 = λ m. t.index < m in
          let inside : member.0 < length types = member.1 in
          (adds.marked t.index).1 (inr (
            subst Below (sym (length-replicate (length model.types) false)) (slice_get_within model.types t.index some.0 some.1),
            record { k = member.0; ty = t; before = omega arith; here = slice_get-get_or types member.0 t member.1 ∙ ap Some member.2; place_is = refl },
          ))),
    )
