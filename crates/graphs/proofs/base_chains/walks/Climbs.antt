-- A way up, one place further, and what is found of the cycle in which it ends.
use Rattle.std.proofs.Common.{◌≡◌, ◌≢◌, ◌⊎◌, ◌==◌, ⊎_elim, inl, inr, ℕ, zero, suc, ◌<◌, Bool, true, false, List, [], ◌∷◌, ◌++◌, length, get_or, set, drop, position, Contains, Option, Some, None, eq-eqb, eqb-true, length-set, refl, sym, ap, subst, ◌∙◌, arith}
use Rattle.std.specs.Option.{option_map_or}
use Rattle.std.proofs.lemmas.List.Elements.{All-push, All-weaker, Contains-append_left, Contains-push}
use Rattle.std.proofs.lemmas.List.Quantifiers.{all_pairs_push, position-Some}
use Rattle.std.proofs.lemmas.Option.{get_or_from_slice_get, slice_get-get_or}
use Rattle.emc_base.specs.Lists.{At}
use Rattle.graphs.specs.base_chains.Chains.{IsAncestor}
use Rattle.graphs.specs.base_chains.Climbs.{IsClimb, IsPath, IsSeen, IsWayUp, cycle_of}
use Rattle.emc_base.proofs.Members.{contains_dropped, contains_nil, none_passes}
use Rattle.graphs.proofs.base_chains.walks.Paths.{no_cycle, on_cycle, only_cycle, path_more}

-- what is read as not seen is not seen
pub not_seen : (seen : List Bool) (i : ℕ) (b : Bool) → b ≡ get_or seen i b → b ≡ false → ¬ IsSeen seen i
not_seen seen i b read is at = let now : get_or seen i b ≡ true = get_or_from_slice_get seen i true b at in absurd cc

pub read_seen : (seen : List Bool) (i : ℕ) (b : Bool) → i < length seen → b ≡ get_or seen i b → b ≡ true → IsSeen seen i
read_seen seen i b within read is = slice_get-get_or seen i b within ∙ ap Some (sym read ∙ is)

-- one place more is seen, and no other
seen_kept : (seen : List Bool) (i place : ℕ) → IsSeen seen i → IsSeen (set seen place true) i
seen_kept [] i place is = absurd cc
seen_kept (x ∷ seen) zero zero is = refl
seen_kept (x ∷ seen) zero (suc place) is = is
seen_kept (x ∷ seen) (suc i) zero is = is
seen_kept (x ∷ seen) (suc i) (suc place) is = seen_kept seen i place is

seen_now : (seen : List Bool) (place : ℕ) → place < length seen → IsSeen (set seen place true) place
seen_now [] place within = absurd (omega arith)
seen_now (x ∷ seen) zero within = refl
seen_now (x ∷ seen) (suc place) within = seen_now seen place (omega arith)

seen_only : (seen : List Bool) (i place : ℕ) → IsSeen (set seen place true) i → IsSeen seen i ⊎ (place ≡ i)
seen_only [] i place is = absurd cc
seen_only (x ∷ seen) zero zero is = inr refl
seen_only (x ∷ seen) zero (suc place) is = inl is
seen_only (x ∷ seen) (suc i) zero is = inl is
seen_only (x ∷ seen) (suc i) (suc place) is = ⊎_elim (λ (old : IsSeen seen i). inl old) (λ (same : place ≡ i). inr (ap suc same)) (seen_only seen i place is)

module _ (base : ℕ → Option ℕ) (from : ℕ) (before after : List Bool) (path : List ℕ) where
  -- the way goes on over a place that isn't seen
  pub way_more : (place : ℕ) → place < length after → ¬ IsSeen after place → IsWayUp base from before after path (Some place)
      → IsWayUp base from before (set after place true) (path ++ place ∷ []) (base place)
  way_more place within new way = record {
    climbed = path_more base (Some from) path place way.climbed;
    fresh = All-push (λ i. ¬ IsSeen before i) path place way.fresh (λ seen. new (way.kept place seen));
    once = all_pairs_push (λ i j. i ≢ j) path place way.once (λ k d k_in same. new (let P : ℕ → Type 0 = λ i. IsSeen after i in subst P same (way.marked k d k_in)));
    size = length-set after place true ∙ way.size;
    kept = λ i seen. seen_kept after i place (way.kept i seen);
    marked = All-push (IsSeen (set after place true)) path place
        (All-weaker (IsSeen after) (IsSeen (set after place true)) (λ i seen. seen_kept after i place seen) path way.marked)
        (seen_now after place within);
    only = λ i seen. ⊎_elim
        (λ (old : IsSeen after i). ⊎_elim
        (λ (older : IsSeen before i). inl older)
        (λ (here : Contains path i). inr (Contains-append_left path (place ∷ []) i here))
        (way.only i old))
        (λ (same : place ≡ i). let P : ℕ → Type 0 = λ j. Contains (path ++ place ∷ []) j in inr (subst P same (Contains-push path place)))
        (seen_only after i place seen);
  }

  module _ (closed : (i j : ℕ) → IsSeen before i → base i ≡ Some j → IsSeen before j) where
    -- a place that a test for an exit finds
    at_exit : (n e : ℕ) → position (λ place. place == e) path ≡ Some n → At path n e
    at_exit n e is =
        let found = position-Some (λ place. place == e) path n e is in
        slice_get-get_or path n e found.0 ∙ ap Some (eqb-true (get_or path n e) e found.1)

    -- the exit of a way that doesn't lead back into itself was seen before
    exit_before : (e : ℕ) → IsSeen after e → IsWayUp base from before after path (Some e) → position (λ place. place == e) path ≡ None → IsSeen before e
    exit_before e seen way none = ⊎_elim
        (λ (older : IsSeen before e). older)
        (λ (here : Contains path e). absurd (let differs : (e == e) ≡ false = none_passes (λ place. place == e) path e none here in let same : (e == e) ≡ true = eq-eqb e e refl in cc))
        (way.only e seen)

    -- the places of a way that stand above themselves are those of the cycle in which it ends
    pub on_its_cycle : (exit : Option ℕ) (x : ℕ) → IsClimb base from before after path exit → Contains path x → IsAncestor base x x → Contains (cycle_of path exit) x
    on_its_cycle None x climb has above = absurd (no_cycle base (IsSeen before) closed (Some from) path None x climb.0.climbed (λ j end. absurd cc) climb.0.fresh climb.0.once has above)
    on_its_cycle (Some e) x climb has above = by (position (λ place. place == e) path) refl
      where
        by : (o : Option ℕ) → position (λ place. place == e) path ≡ o → Contains (option_map_or (λ start. drop start path) o []) x
        by None is = absurd (no_cycle base (IsSeen before) closed (Some from) path (Some e) x climb.0.climbed
            (λ j end. let same : e ≡ j = cc in let P : ℕ → Type 0 = λ i. IsSeen before i in subst P same (exit_before e (climb.1 e refl) climb.0 is))
            climb.0.fresh climb.0.once has above)
        by (Some n) is = only_cycle base (IsSeen before) closed (Some from) path n e x climb.0.climbed (at_exit n e is) climb.0.fresh climb.0.once has above

    pub cycle_in_path : (exit : Option ℕ) (x : ℕ) → IsPath base (Some from) path exit → Contains (cycle_of path exit) x → Contains path x × IsAncestor base x x
    cycle_in_path None x way has = absurd (contains_nil x has)
    cycle_in_path (Some e) x way has = by (position (λ place. place == e) path) refl has
      where
        by : (o : Option ℕ) → position (λ place. place == e) path ≡ o → Contains (option_map_or (λ start. drop start path) o []) x → Contains path x × IsAncestor base x x
        by None is there = absurd (contains_nil x there)
        by (Some n) is there = (contains_dropped path n x there, on_cycle base (Some from) path n e x way (at_exit n e is) there)
