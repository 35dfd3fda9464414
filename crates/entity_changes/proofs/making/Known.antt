-- What stands in a state, as its lists are passed.
use Rattle.std.proofs.Common.{◌≡◌, ◌≢◌, ◌↔◌, ◌<◌, ◌≤◌, ◌+◌, ◌||◌, ◌⊎◌, ⊎_elim, inl, inr, arith, get_or, ℕ, List, [], ◌∷◌, ◌++◌, take, length, slice_get, unwrap_or, Contains, Some, IsTrue, Bool, true, false, refl, sym, ap, subst, ◌∙◌}
use Rattle.std.specs.BTreeMap.{BTreeMap, get}
use Rattle.std.specs.BTreeSet.{BTreeSet, contains}
use Rattle.std.specs.List.{list_any}
use Rattle.std.proofs.lemmas.Bool.{cases_eq}
use Rattle.std.proofs.lemmas.List.{append_assoc}
use Rattle.std.proofs.lemmas.List.Folds.{list_any_none}
use Rattle.std.proofs.lemmas.Option.{slice_get_within}
use Rattle.emc_base.specs.Lists.{At}
use Rattle.emc_base.proofs.Loops.{take_item}
use Rattle.emc_base.proofs.Members.{contains_nil, contains_cons_cases, contains_tail, contains_head}
use Rattle.round_trip.specs.Words.{SetId, AssocId, Value, EntityModel, Entity, Link, key_of}
use Rattle.entity_changes.specs.declared.making.types.Types.{Types}
use Rattle.entity_changes.specs.Spots.{Spot, key_spot, link_spot, same_spot, spot_cmp}
use Rattle.entity_changes.specs.making.Standing.{AddsLinks, AddsTypes}
use Rattle.entity_changes.specs.making.Types.{AddsType, AreTypes, joined}
use Rattle.entity_changes.proofs.Afterwards.{same_assoc, same_set}
use Rattle.entity_changes.proofs.Kept.{list_not_yet, list_now, list_then}
use Rattle.entity_changes.proofs.SpotOrder.{Decides-link_spot, apart_spots}
use Rattle.entity_changes.proofs.making.Taken.{at_spot, beside_spot, same_or_not}
use Rattle.entity_changes.proofs.Pushes.{}
use Rattle.entity_changes.proofs.making.TypesOf.{another, one_more}

module _ (model : EntityModel) where
  module _ (s : SetId) (entity : Entity) (was now : BTreeMap Spot Types) (adds : AddsType (key_spot s (key_of model entity)) entity.ty was now) where
    abbrev k : List Value
    k = key_of model entity

    -- one entity more
    type_more : (xs : List Entity) → ((key : List Value) → AreTypes model xs key (get spot_cmp was (key_spot s key)))
        → (key : List Value) → AreTypes model (xs ++ entity ∷ []) key (get spot_cmp now (key_spot s key))
    type_more xs known key = ⊎_elim
        (λ (same : k ≡ key).
        subst (AreTypes model (xs ++ entity ∷ []) key)
        (sym (adds (key_spot s key) ∙ at_spot (key_spot s k) (key_spot s key) (Some (joined (get spot_cmp was (key_spot s k)) entity.ty))
        (get spot_cmp was (key_spot s key)) (ap (key_spot s) same)
        ∙ ap (λ q. Some (joined (get spot_cmp was (key_spot s q)) entity.ty)) same))
        (one_more model xs entity key (get spot_cmp was (key_spot s key)) same (known key)))
        (λ (apart : k ≢ key).
        subst (AreTypes model (xs ++ entity ∷ []) key)
        (sym (adds (key_spot s key) ∙ beside_spot (key_spot s k) (key_spot s key) (Some (joined (get spot_cmp was (key_spot s k)) entity.ty))
        (get spot_cmp was (key_spot s key))
        (λ same. apart (ap (λ (p : Spot). p.1) same))))
        (another model xs entity key (get spot_cmp was (key_spot s key)) apart (known key)))
        (same_or_not k key)

    type_elsewhere : (q : Spot) → s.index ≢ q.0 → get spot_cmp now q ≡ get spot_cmp was q
    type_elsewhere q apart = adds q ∙ beside_spot (key_spot s k) q (Some (joined (get spot_cmp was (key_spot s k)) entity.ty)) (get spot_cmp was q)
        (λ same. apart (ap (λ (p : Spot). p.0) same))

  -- one entity of the list more
  pub types_more : (s : SetId) (entities : List Entity) (i : ℕ) (entity : Entity) → At entities i entity → (first was now : BTreeMap Spot Types)
      → AddsType (key_spot s (key_of model entity)) entity.ty was now → AddsTypes model s (take i entities) first was
      → AddsTypes model s (take (i + 1) entities) first now
  types_more s entities i entity here first was now adds before = record {
    own = λ front known key.
        subst (λ list. AreTypes model list key (get spot_cmp now (key_spot s key)))
        (append_assoc front (take i entities) (entity ∷ []) ∙ ap (λ list. front ++ list) (sym (take_item entities i entity here)))
        (type_more s entity was now adds (front ++ take i entities) (before.own front known) key);
    others = λ q apart. type_elsewhere s entity was now adds q apart ∙ before.others q apart;
  }

  -- one set more
  pub set_more : (lists : List (List Entity)) (i : ℕ) (list : List Entity) → At lists i list → (was now : BTreeMap Spot Types)
      → AddsTypes model (record { index = i }) list was now
      → ((s : SetId) (key : List Value) → AreTypes model (unwrap_or (slice_get (take i lists) s.index) []) key (get spot_cmp was (key_spot s key)))
      → (s : SetId) (key : List Value) → AreTypes model (unwrap_or (slice_get (take (i + 1) lists) s.index) []) key (get spot_cmp now (key_spot s key))
  set_more lists i list here was now adds known s key = ⊎_elim
      (λ (same : s.index ≡ i).
      let own : SetId = record { index = i } in
      let none : unwrap_or (slice_get (take i lists) i) [] ≡ [] = list_not_yet lists i (below i (length lists) (slice_get_within lists i list here)) in
      subst (λ (t : SetId). AreTypes model (unwrap_or (slice_get (take (i + 1) lists) t.index) []) key (get spot_cmp now (key_spot t key))) (same_set own s (sym same))
      (subst (λ entities. AreTypes model entities key (get spot_cmp now (key_spot own key))) (sym (list_now lists list i here))
      (adds.own [] (λ k. subst (λ entities. AreTypes model entities k (get spot_cmp was (key_spot own k))) none (known own k)) key)))
      (λ (apart : s.index ≢ i).
      subst (λ entities. AreTypes model entities key (get spot_cmp now (key_spot s key))) (sym (list_then lists list i s.index here apart))
      (subst (AreTypes model (unwrap_or (slice_get (take i lists) s.index) []) key) (sym (adds.others (key_spot s key) (λ same. apart (sym same)))) (known s key)))
      (cases_eq s.index i)
    where
      below : (j n : ℕ) → j < n → j ≤ n
      below j n less = omega (arith, less)

either_true : (b c : Bool) → (b || c) ≡ true → (b ≡ true) ⊎ (c ≡ true)
either_true true c told = inl refl
either_true false c told = inr told

second_true : (b c : Bool) → c ≡ true → (b || c) ≡ true
second_true true c told = refl
second_true false c told = told

first_true : (b c : Bool) → b ≡ true → (b || c) ≡ true
first_true true c told = refl
first_true false c told = cc

module _ (a : AssocId) (link : Link) where
  -- a link's spot is among those of a list just where the link is
  in_list : (list : List Link) → IsTrue (list_any (λ one. same_spot (link_spot a one) (link_spot a link)) list) ↔ Contains list link
  in_list [] = ((λ told. cc), (λ has. absurd (contains_nil link has)))
  in_list (one ∷ list) = (
    (λ told. ⊎_elim
        (λ (here : same_spot (link_spot a one) (link_spot a link) ≡ true). subst (Contains (one ∷ list)) (sym ((Decides-link_spot a one link).0 here))
        (contains_head one list))
        (λ (later : list_any (λ one. same_spot (link_spot a one) (link_spot a link)) list ≡ true). contains_tail one list link ((in_list list).0 later))
        (either_true (same_spot (link_spot a one) (link_spot a link)) (list_any (λ one. same_spot (link_spot a one) (link_spot a link)) list) told)),
    (λ has. ⊎_elim
        (λ (here : link ≡ one). first_true (same_spot (link_spot a one) (link_spot a link)) (list_any (λ one. same_spot (link_spot a one) (link_spot a link)) list)
        ((Decides-link_spot a one link).1 here))
        (λ (later : Contains list link). second_true (same_spot (link_spot a one) (link_spot a link))
        (list_any (λ one. same_spot (link_spot a one) (link_spot a link)) list)
        ((in_list list).1 later))
        (contains_cons_cases one list link has)),
  )

-- the links of one association set more
pub links_more : (lists : List (List Link)) (i : ℕ) (list : List Link) → At lists i list → (was now : BTreeSet Spot) → AddsLinks (record { index = i }) list was now
    → ((a : AssocId) (link : Link) → IsTrue (contains spot_cmp was (link_spot a link)) ↔ Contains (unwrap_or (slice_get (take i lists) a.index) []) link)
    → (a : AssocId) (link : Link) → IsTrue (contains spot_cmp now (link_spot a link)) ↔ Contains (unwrap_or (slice_get (take (i + 1) lists) a.index) []) link
links_more lists i list here was now adds known a link = ⊎_elim
    (λ (same : a.index ≡ i).
    subst (λ (b : AssocId). IsTrue (contains spot_cmp now (link_spot b link)) ↔ Contains (unwrap_or (slice_get (take (i + 1) lists) b.index) []) link)
    (same_assoc own a (sym same))
    (subst (λ links. IsTrue (contains spot_cmp now (link_spot own link)) ↔ Contains links link) (sym (list_now lists list i here)) (
      (λ told. ⊎_elim
          (λ (old : contains spot_cmp was (link_spot own link) ≡ true). absurd (contains_nil link (subst (λ links. Contains links link) none ((known own link).0 old))))
          (λ (new : list_any (λ one. same_spot (link_spot own one) (link_spot own link)) list ≡ true). (in_list own link list).0 new)
          (either_true (contains spot_cmp was (link_spot own link)) (list_any (λ one. same_spot (link_spot own one) (link_spot own link)) list)
          (sym (adds (link_spot own link)) ∙ told))),
      (λ has. adds (link_spot own link) ∙ second_true (contains spot_cmp was (link_spot own link))
          (list_any (λ one. same_spot (link_spot own one) (link_spot own link)) list)
          ((in_list own link list).1 has)),
    )))
    (λ (apart : a.index ≢ i).
    subst (λ links. IsTrue (contains spot_cmp now (link_spot a link)) ↔ Contains links link) (sym (list_then lists list i a.index here apart))
    (subst (λ is. IsTrue is ↔ Contains (unwrap_or (slice_get (take i lists) a.index) []) link)
    (sym (adds (link_spot a link) ∙ ap (λ any. contains spot_cmp was (link_spot a link) || any)
    (list_any_none (λ one. same_spot (link_spot own one) (link_spot a link)) list
    (λ k d _. apart_spots (link_spot own (get_or list k d)) (link_spot a link) (λ same. apart (sym same))))
    ∙ or_false (contains spot_cmp was (link_spot a link)))) (known a link)))
    (cases_eq a.index i)
  where
    own : AssocId
    own = record { index = i }

    none : unwrap_or (slice_get (take i lists) i) [] ≡ []
    none = list_not_yet lists i (below i (length lists) (slice_get_within lists i list here))
      where
        below : (j n : ℕ) → j < n → j ≤ n
        below j n less = omega (arith, less)

    or_false : (b : Bool) → (b || false) ≡ b
    or_false true = refl
    or_false false = refl
