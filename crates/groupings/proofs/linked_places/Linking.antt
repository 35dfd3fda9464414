-- Classes by links, with one link more.
use Rattle.std.proofs.Common.{◌≡◌, inl, inr, ℕ, ◌<◌, List, [], ◌∷◌, ◌++◌, length, slice_get, sym, subst, ◌∙◌, arith}
use Rattle.std.proofs.lemmas.List.Elements.{Contains-append_left, Contains-push, Contains-push_cases}
use Rattle.std.proofs.lemmas.Option.{slice_get_within}
use Rattle.emc_base.proofs.Lists.{item_at}
use Rattle.groupings.specs.linked_places.Joinings.{AreTogether, Joins}
use Rattle.groupings.specs.linked_places.Links.{IsClasses, IsLink, Linked, back, chain, link, same}
use Rattle.groupings.specs.declared.linked_places.classes.Link.{Link}

-- where the two places of each link have one number, so have all linked places
pub same_number : (Is : ℕ → ℕ → Type 0) (numbers : List ℕ) → ((a b : ℕ) → Is a b → slice_get numbers a ≡ slice_get numbers b)
    → (a b : ℕ) → Linked Is a b → slice_get numbers a ≡ slice_get numbers b
same_number Is numbers each a b (same _) = λ i. slice_get numbers a
same_number Is numbers each a b (link _ _ is) = each a b is
same_number Is numbers each a b (back _ _ rest) = sym (same_number Is numbers each b a rest)
same_number Is numbers each a b (chain _ c _ first rest) = same_number Is numbers each a c first ∙ same_number Is numbers each c b rest

-- where each link is one of others too, these link whatever the links do
pub linked_by : (Is Other : ℕ → ℕ → Type 0) → ((a b : ℕ) → Is a b → Other a b) → (a b : ℕ) → Linked Is a b → Linked Other a b
linked_by Is Other each a b (same _) = same a
linked_by Is Other each a b (link _ _ is) = link a b (each a b is)
linked_by Is Other each a b (back _ _ rest) = back b a (linked_by Is Other each b a rest)
linked_by Is Other each a b (chain _ c _ first rest) = chain a c b (linked_by Is Other each a c first) (linked_by Is Other each c b rest)

-- two places have one number where the same is found for both, and something for the one
pub together : (numbers : List ℕ) (a b : ℕ) → a < length numbers → slice_get numbers a ≡ slice_get numbers b → AreTogether numbers a b
together numbers a b inside same_at = let mine = item_at numbers a inside in (mine.0, mine.1, sym same_at ∙ mine.1)

-- and so it is the other way round
pub turned : (numbers : List ℕ) (a b : ℕ) → AreTogether numbers a b → AreTogether numbers b a
turned numbers a b (number, at_a, at_b) = (number, at_b, at_a)

module _ (count : ℕ) (links : List Link) (new : Link) (before after : List ℕ)
    (classes : IsClasses count links (record { numbers = before })) (joins : Joins new.one new.other before after) where
  abbrev IsLinked : ℕ → ℕ → Type 0
  IsLinked = Linked (IsLink count (links ++ new ∷ []))

  -- places that had one number are linked
  still_linked : (a b : ℕ) → AreTogether before a b → IsLinked a b
  still_linked a b (number, at_a, at_b) =
      let size : length before ≡ count = classes.size in
      let in_a : a < length before = slice_get_within before a number at_a in
      let in_b : b < length before = slice_get_within before b number at_b in
      linked_by (IsLink count links) (IsLink count (links ++ new ∷ [])) (λ c d is. (Contains-append_left links (new ∷ []) _ is.0, is.1, is.2)) a b
      ((classes.each a b (omega arith) (omega arith)).0 (at_a ∙ sym at_b))

  -- and so are the two of the link, where both have a number
  now_linked : (a b : ℕ) → AreTogether before a new.one → AreTogether before new.other b → IsLinked new.one new.other
  now_linked a b (n, at_a, at_one) (m, at_other, at_b) =
      let size : length before ≡ count = classes.size in
      let in_one : new.one < length before = slice_get_within before new.one n at_one in
      let in_other : new.other < length before = slice_get_within before new.other m at_other in
      link new.one new.other (Contains-push links new, omega arith, omega arith)

  -- places that have one number now are linked
  all_linked : (a b : ℕ) → AreTogether after a b → IsLinked a b
  all_linked a b here = elim (joins.only a b here) [
    | inl old ↦ still_linked a b old
    | inr (inl (first, second)) ↦ chain a new.one b (still_linked a new.one first)
        (chain new.one new.other b (now_linked a b first second) (still_linked new.other b second))
    | inr (inr (first, second)) ↦ chain a new.other b (still_linked a new.other first)
        (chain new.other new.one b (back new.one new.other (now_linked b a (turned before new.one b second) (turned before a new.other first))) (still_linked new.one b second))
  ]

  -- linked places have one number now
  one_number : (a b : ℕ) → IsLink count (links ++ new ∷ []) a b → slice_get after a ≡ slice_get after b
  one_number a b is = elim (Contains-push_cases links new (record { one = a; other = b }) is.0) [
    | inl old ↦
        let size : length before ≡ count = classes.size in
        let in_a : a < count = is.1 in
        let had = together before a b (omega arith) ((classes.each a b is.1 is.2).1 (link a b (old, is.1, is.2))) in
        let has = joins.kept a b had in
        has.1 ∙ sym has.2
    | inr last ↦
        let P : Link → Type 0 = λ l. l.one < count → l.other < count → slice_get after l.one ≡ slice_get after l.other in
        subst P last (λ in_one in_other.
        let size : length before ≡ count = classes.size in
        let one : new.one < count = in_one in
        let other : new.other < count = in_other in
        let has = joins.joined (omega arith) (omega arith) in
        has.1 ∙ sym has.2) is.1 is.2
  ]

  pub one_link : IsClasses count (links ++ new ∷ []) (record { numbers = after })
  one_link = record {
    size = joins.size ∙ classes.size;
    each = λ a b in_a in_b. (
      λ same_at.
          let inside : a < count = in_a in
          let one : length after ≡ length before = joins.size in
          let size : length before ≡ count = classes.size in
          all_linked a b (together after a b (omega arith) same_at),
      λ linked. same_number (IsLink count (links ++ new ∷ [])) after one_number a b linked,
    );
  }
