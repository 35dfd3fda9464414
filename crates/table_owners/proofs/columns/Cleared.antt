-- Columns that are taken as not free, one item after another.
use Rattle.std.proofs.Common.{◌≡◌, ◌⊎◌, ◌↔◌, inl, inr, ℕ, ◌+◌, List, [], ◌∷◌, ◌++◌, take, Bool, Contains, refl, sym, subst, ◌∙◌}
use Rattle.std.specs.Global.{Vec}
use Rattle.std.proofs.lemmas.List.Elements.{Contains-append_left, Contains-push, Contains-push_cases}
use Rattle.emc_base.specs.Lists.{At}
use Rattle.emc_base.proofs.Loops.{take_item}
use Rattle.emc_base.proofs.Members.{contains_nil}
use Rattle.round_trip.specs.Words.{ColId, TableId}
use Rattle.table_owners.specs.Clearing.{Clears, Each}

module _ (P Q : TableId → ColId → Type 0) where
  -- the same columns in other words
  pub clears_as : ((t : TableId) (col : ColId) → P t col ↔ Q t col) → (before after : List (Vec Bool)) → Clears P before after → Clears Q before after
  clears_as same before after clears = record {
    size = clears.size;
    counts = clears.counts;
    taken = λ t col. (
      λ is. (let was = (clears.taken t col).0 is in (was.0, λ named. was.1 ((same t col).1 named))),
      λ both. (clears.taken t col).1 (both.0, λ named. both.1 ((same t col).0 named)),
    );
  }

  -- some, and then others
  pub clears_both : (before between after : List (Vec Bool)) → Clears P before between → Clears Q between after → Clears (λ t col. P t col ⊎ Q t col) before after
  clears_both before between after first second = record {
    size = second.size ∙ first.size;
    counts = λ t. second.counts t ∙ first.counts t;
    taken = λ t col. (
      λ is.
          (let now = (second.taken t col).0 is in
          let was = (first.taken t col).0 now.0 in (
            was.0,
            λ either. elim either [
              | inl named ↦ was.1 named
              | inr named ↦ now.1 named
            ],
          )),
      λ both. (second.taken t col).1 ((first.taken t col).1 (both.0, λ named. both.1 (inl named)), λ named. both.1 (inr named)),
    );
  }

module _ {X : Type 0} (On : X → TableId → ColId → Type 0) where
  -- no items name no column
  pub clears_none : (free : List (Vec Bool)) → Clears (Each On []) free free
  clears_none free = record {
    size = refl;
    counts = λ t. refl;
    taken = λ t col. (λ is. (is, λ named. contains_nil named.0 named.1), λ both. both.0);
  }

  -- one item more
  pub clears_next : (items : List X) (n : ℕ) (item : X) (before now after : List (Vec Bool)) → At items n item → Clears (Each On (take n items)) before now
      → Clears (On item) now after
      → Clears (Each On (take (n + 1) items)) before after
  clears_next items n item before now after here so_far clears =
      clears_as (λ t col. Each On (take n items) t col ⊎ On item t col) (Each On (take (n + 1) items)) same before after
      (clears_both (Each On (take n items)) (On item) before now after so_far clears)
    where
      more : take (n + 1) items ≡ take n items ++ item ∷ []
      more = take_item items n item here

      to_more : (x : X) → Contains (take n items ++ item ∷ []) x → Contains (take (n + 1) items) x
      to_more x = subst (λ (xs : List X). Contains xs x) (sym more)

      same : (t : TableId) (col : ColId) → (Each On (take n items) t col ⊎ On item t col) ↔ Each On (take (n + 1) items) t col
      same t col = (
        λ either. elim either [
          | inl named ↦ (named.0, to_more named.0 (Contains-append_left (take n items) (item ∷ []) named.0 named.1), named.2)
          | inr named ↦ (item, to_more item (Contains-push (take n items) item), named)
        ],
        λ named. elim (Contains-push_cases (take n items) item named.0 (subst (λ (xs : List X). Contains xs named.0) more named.1)) [
          | inl old ↦ inl (named.0, old, named.2)
          | inr last ↦ inr (subst (λ (x : X). On x t col) (sym last) named.2)
        ],
      )
