-- Places each of which is in a class of its own.
use Rattle.std.proofs.Common.{◌≡◌, ℕ, ◌+◌, ◌<◌, List, [], ◌∷◌, ◌++◌, inl, inr, length, refl, sym, subst, ap, ◌∙◌, arith}
use Rattle.std.proofs.lemmas.Bool.{cases_eq}
use Rattle.std.proofs.lemmas.List.{length-append}
use Rattle.std.proofs.lemmas.Option.{slice_get_within}
use Rattle.emc_base.specs.Lists.{At}
use Rattle.emc_base.proofs.Lists.{at_once, only_member, only_stands}
use Rattle.groupings.specs.linked_places.Joinings.{IsAlone, IsJoining}
use Rattle.groupings.specs.linked_places.Links.{IsClasses, IsLink, Linked, same}
use Rattle.groupings.specs.declared.linked_places.joining.Joining.{Joining}
use Rattle.groupings.proofs.linked_places.Linking.{same_number}
use Rattle.groupings.proofs.linked_places.Lists.{at_before_end, at_end}

module _ (count : ℕ) (joining : Joining) (alone : IsAlone count joining) where
  -- at each number stands the one place that has it
  pub alone_joining : IsJoining joining
  alone_joining = record {
    each = λ place number at.
        let inside : place < length joining.numbers.items = slice_get_within joining.numbers.items place number at in
        let size : length joining.numbers.items ≡ count = alone.size in
        let within : place < count = omega arith in
        let own : place ≡ number = at_once joining.numbers.items place place number (alone.own place within) at in
        let P : ℕ → Type 0 = λ n. At joining.members.items n (place ∷ []) in
        (place ∷ [], subst P own (alone.alone place within), only_stands (place ∷ []) place refl);
    only = λ place number listed.
        let inside : number < length joining.members.items = slice_get_within joining.members.items number listed.0 listed.1 in
        let size : length joining.members.items ≡ count = alone.lists in
        let within : number < count = omega arith in
        let lone : listed.0 ≡ number ∷ [] = at_once joining.members.items number listed.0 (number ∷ []) listed.1 (alone.alone number within) in
        let P : ℕ → Type 0 = λ p. At joining.numbers.items p number in
        subst P (sym (only_member listed.0 number place lone listed.2)) (alone.own number within);
  }

  -- these are the classes without a link
  pub alone_classes : IsClasses count [] (record { numbers = joining.numbers.items })
  alone_classes = record {
    size = alone.size;
    each = λ one other inside within. (
      λ same_at.
          let first = alone.own one inside in
          let second = alone.own other within in
          let is : one ≡ other = cc in
          let P : ℕ → Type 0 = λ p. Linked (IsLink count []) one p in
          subst P is (same one),
      λ linked. same_number (IsLink count []) joining.numbers.items (λ a b is. absurd (let none : is.0.0 < 0 = is.0.1 in omega arith)) one other linked,
    );
  }

-- one place more is in a class of its own
pub alone_more : (place : ℕ) (before after : Joining) → IsAlone place before → after.numbers.items ≡ before.numbers.items ++ place ∷ []
    → after.members.items ≡ before.members.items ++ (place ∷ []) ∷ [] → IsAlone (place + 1) after
alone_more place before after alone numbers members =
    let P : List ℕ → ℕ → ℕ → Type 0 = λ xs p q. At xs p q in
    let Q : List (List ℕ) → ℕ → ℕ → Type 0 = λ xs p q. At xs p (q ∷ []) in
    let last_number : At after.numbers.items place place = subst (λ xs. P xs place place) (sym numbers) (at_end before.numbers.items place place (sym alone.size)) in
    let last_list : At after.members.items place (place ∷ []) = subst (λ xs. Q xs place place) (sym members) (at_end before.members.items place (place ∷ []) (sym alone.lists)) in
    record {
      size = ap length numbers ∙ length-append before.numbers.items (place ∷ []) ∙ ap (λ n. n + 1) alone.size;
      lists = ap length members ∙ length-append before.members.items ((place ∷ []) ∷ []) ∙ ap (λ n. n + 1) alone.lists;
      own = λ p inside. elim (cases_eq p place) [
        | inl here ↦ subst (λ q. P after.numbers.items q q) (sym here) last_number
        | inr other ↦ subst (λ xs. P xs p p) (sym numbers) (at_before_end before.numbers.items p place p (alone.own p (omega (arith, inside, other))))
      ];
      alone = λ p inside. elim (cases_eq p place) [
        | inl here ↦ subst (λ q. Q after.members.items q q) (sym here) last_list
        | inr other ↦ subst (λ xs. Q xs p p) (sym members) (at_before_end before.members.items p (place ∷ []) (p ∷ []) (alone.alone p (omega (arith, inside, other))))
      ];
    }
