-- Marks added to a list of places, and the types at the marked places.
use Rattle.std.proofs.Common.{◌≡◌, ◌↔◌, ◌⊎◌, ⊎_elim, inl, inr, ℕ, ◌<◌, ◌+◌, List, [], ◌∷◌, ◌++◌, take, map, filter, ◌≤◌, Some, Bool, true, false, true≢false, length, replicate, refl, sym, ap, ◌∙◌, subst, get_or}
use Rattle.std.specs.List.{enumerate_from}
use Rattle.std.proofs.lemmas.List.{get_or-replicate, length-replicate, map-append}
use Rattle.std.proofs.lemmas.Option.{slice_get_within, get_or_from_slice_get, slice_get-get_or, slice_get_read}
use Rattle.emc_base.specs.Lists.{At, places_of}
use Rattle.emc_base.proofs.Loops.{take_item, take-enumerated}
use Rattle.emc_base.proofs.Numbered.{filter_kept, filter_left, numbered_at}
use Rattle.edm_types.specs.declared.model.TypeNode.{TypeNode}
use Rattle.edm_types.specs.Types.{TypeId}
use Rattle.edm_types.specs.Forest.{HasNode, node_type, nodes_below, type_numbered}
use Rattle.edm_types.specs.Marks.{AddsMarks}
use Rattle.edm_types.proofs.Nodes.{only_top, none_empty, has_append, has_first, has_last, has_below, has_top_or_below}

-- no mark is added
pub adds_none : (before : List Bool) → AddsMarks (λ i. ⊥) before before
adds_none before = record {
  size = refl;
  marked = λ i. (λ has. inl has, λ either. ⊎_elim (λ (has : At before i true). has) (λ more. absurd more.1) either);
}

-- two turns add what each adds
pub adds_both : {P Q : ℕ → Type 0} (before now after : List Bool) → AddsMarks P before now → AddsMarks Q now after → AddsMarks (λ i. P i ⊎ Q i) before after
adds_both {P} {Q} before now after one two = record {
  size = two.size ∙ one.size;
  marked = λ i. (
    λ has. ⊎_elim
        (λ (here : At now i true). ⊎_elim (λ (old : At before i true). inl old) (λ (new : (i < length before) × P i). inr (new.0, inl new.1)) ((one.marked i).0 here))
        (λ (new : (i < length now) × Q i). let Below : ℕ → Type 0 = λ n. i < n in inr (subst Below one.size new.0, inr new.1))
        ((two.marked i).0 has),
    λ either. ⊎_elim
        (λ (old : At before i true). (two.marked i).1 (inl ((one.marked i).1 (inl old))))
        (λ (new : (i < length before) × (P i ⊎ Q i)). ⊎_elim
        (λ (first : P i). (two.marked i).1 (inl ((one.marked i).1 (inr (new.0, first)))))
        (λ (second : Q i). let Below : ℕ → Type 0 = λ n. i < n in (two.marked i).1 (inr (subst Below (sym one.size) new.0, second)))
        new.1)
        either,
  );
}

-- what holds of the same places adds the same marks
pub adds_same : {P Q : ℕ → Type 0} (before after : List Bool) → ((i : ℕ) → i < length before → P i ↔ Q i) → AddsMarks P before after → AddsMarks Q before after
adds_same {P} {Q} before after same adds = record {
  size = adds.size;
  marked = λ i. (
    λ has. ⊎_elim (λ (old : At before i true). inl old) (λ (new : (i < length before) × P i). inr (new.0, (same i new.0).0 new.1)) ((adds.marked i).0 has),
    λ either. ⊎_elim (λ (old : At before i true). (adds.marked i).1 (inl old)) (λ (new : (i < length before) × Q i). (adds.marked i).1 (inr (new.0, (same i new.0).1 new.1))) either,
  );
}

-- at first no place is marked
pub none_marked : (n i : ℕ) → ¬ At (replicate n false) i true
none_marked n i has =
    let within : i < length (replicate n false) = slice_get_within (replicate n false) i true has in
    let Below : ℕ → Type 0 = λ m. i < m in
    absurd (true≢false (sym (get_or_from_slice_get (replicate n false) i true true has) ∙ get_or-replicate n i false true (subst Below (length-replicate n false) within)))

-- the places of a tree's types: its top's, and those of the trees below it
module _ (tree : TypeNode) (before now after : List Bool) where
  abbrev Top : ℕ → Type 0
  Top i = i ≡ (node_type tree).index

  abbrev pub Passed : List TypeNode → ℕ → Type 0
  Passed trees i = Top i ⊎ HasNode trees (type_numbered i)

  pub top_marked : AddsMarks Top before now → AddsMarks (Passed []) before now
  top_marked = adds_same before now (λ i within. (λ is. inl is, λ either. ⊎_elim (λ (is : Top i). is) (λ (has : HasNode [] (type_numbered i)). absurd (none_empty (type_numbered i) has)) either))

  pub child_marked : (trees : List TypeNode) (k : ℕ) (child : TypeNode) → k < length trees → child ≡ get_or trees k child
      → AddsMarks (Passed (take k trees)) before now → AddsMarks (λ i. HasNode (child ∷ []) (type_numbered i)) now after → AddsMarks (Passed (take (k + 1) trees)) before after
  child_marked trees k child within is one two =
      let more : take (k + 1) trees ≡ take k trees ++ child ∷ [] = take_item trees k child (slice_get_read trees (length trees) k child refl within is) in
      let Marked : List TypeNode → Type 0 = λ passed. AddsMarks (Passed passed) before after in
      subst Marked (sym more) (adds_same before after (λ i inside. (
        λ either. ⊎_elim
            (λ (passed : Passed (take k trees) i). ⊎_elim (λ (is_top : Top i). inl is_top) (λ (has : HasNode (take k trees) (type_numbered i)). inr (has_first (type_numbered i) (take k trees) (child ∷ []) has)) passed)
            (λ (has : HasNode (child ∷ []) (type_numbered i)). inr (has_last (type_numbered i) (take k trees) (child ∷ []) has))
            either,
        λ either. ⊎_elim
            (λ (is_top : Top i). inl (inl is_top))
            (λ (has : HasNode (take k trees ++ child ∷ []) (type_numbered i)). ⊎_elim
            (λ (first : HasNode (take k trees) (type_numbered i)). inl (inr first))
            (λ (last : HasNode (child ∷ []) (type_numbered i)). inr last)
            (has_append (type_numbered i) (take k trees) (child ∷ []) has))
            either,
      )) (adds_both before now after one two))

  pub all_marked : AddsMarks (Passed (nodes_below tree)) before now → AddsMarks (λ i. HasNode (tree ∷ []) (type_numbered i)) before now
  all_marked = adds_same before now (λ i within. (
    λ either. ⊎_elim
        (λ (is : Top i). (tree, only_top tree, λ k. record { index = sym is k }))
        (λ (has : HasNode (nodes_below tree) (type_numbered i)). has_below (type_numbered i) tree has)
        either,
    λ has. ⊎_elim
        (λ (is : node_type tree ≡ type_numbered i). inl (sym (ap (λ t. t.index) is)))
        (λ (lower : HasNode (nodes_below tree) (type_numbered i)). inr lower)
        (has_top_or_below (type_numbered i) tree has),
  ))

-- the types at the marked places
module _ (marks : List Bool) where
  abbrev numbered : List (ℕ × Bool)
  numbered = enumerate_from 0 marks

  abbrev is_marked : ℕ × Bool → Bool
  is_marked entry = entry.1

  -- as far as so many places were passed
  abbrev pub types_before : ℕ → List TypeId
  types_before n = map type_numbered (map (λ (entry : ℕ × Bool). entry.0) (filter is_marked (take n numbered)))

  mark_at : (i : ℕ) (b : Bool) → i < length marks → get_or marks i false ≡ b → At numbered i (i, b)
  mark_at i b within is = numbered_at marks i b (slice_get-get_or marks i false within ∙ ap Some is)

  pub one_marked : (i : ℕ) → i < length marks → get_or marks i false ≡ true → types_before (i + 1) ≡ types_before i ++ type_numbered i ∷ []
  one_marked i within is =
      let kept = filter is_marked (take i numbered) in
      ap (λ entries. map type_numbered (map (λ (entry : ℕ × Bool). entry.0) entries)) (filter_kept is_marked numbered i (i, true) (mark_at i true within is) refl)
      ∙ ap (map type_numbered) (map-append (λ (entry : ℕ × Bool). entry.0) kept ((i, true) ∷ []))
      ∙ map-append type_numbered (map (λ (entry : ℕ × Bool). entry.0) kept) (i ∷ [])

  pub one_unmarked : (i : ℕ) → i < length marks → get_or marks i false ≡ false → types_before (i + 1) ≡ types_before i
  one_unmarked i within is =
      ap (λ entries. map type_numbered (map (λ (entry : ℕ × Bool). entry.0) entries)) (filter_left is_marked numbered i (i, false) (mark_at i false within is) refl)

  pub all_passed : (i : ℕ) → length marks ≤ i → types_before i ≡ map type_numbered (places_of (λ mark. mark) marks)
  all_passed i end = ap (λ entries. map type_numbered (map (λ (entry : ℕ × Bool). entry.0) (filter is_marked entries))) (take-enumerated marks i end)
