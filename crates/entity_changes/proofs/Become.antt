-- What becomes of lists, as one more change is foretold.
use Rattle.std.proofs.Common.{◌≡◌, ◌≢◌, ◌<◌, ℕ, List, [], ◌∷◌, ◌++◌, append-nil, map, filter, length, slice_get, reverse, Option, None, Some, unwrap_or, Bool, true, false, not, cond, if◌then◌else◌, refl, sym, ap, ◌∙◌}
use Rattle.std.specs.BTreeMap.{get}
use Rattle.std.specs.List.{filter_map, cons_option}
use Rattle.std.proofs.lemmas.List.{append_assoc, length-map, length-set, reverse-append}
use Rattle.std.proofs.lemmas.List.Elements.{filter_map-append}
use Rattle.entity_changes.specs.Spots.{Spot, same_spot, spot_cmp}
use Rattle.entity_changes.specs.declared.making.fates.Fate.{Fate}
use Rattle.entity_changes.specs.declared.making.fates.Fate.TheVariants.{Gone}
use Rattle.entity_changes.specs.declared.making.fates.Fates.{Fates}
use Rattle.entity_changes.specs.making.Fates.{AddsItem, RemovesItems, ReplacesItems, becomes, behind_at, behind_lists, survivor, survivors}
use Rattle.entity_changes.proofs.SpotOrder.{Decides-spot}
use Rattle.entity_changes.proofs.Kept.{put_elsewhere, put_here}

module _ {X : Type 0} where
  -- tests and images that agree on items give one list
  pub filter_map_same : (g h : X → Option X) → ((x : X) → g x ≡ h x) → (xs : List X) → filter_map g xs ≡ filter_map h xs
  filter_map_same g h same xs = ap (λ (f : X → Option X). filter_map f xs) (λ i x. same x i)

  -- of items that are mapped first
  pub filter_map-map : (g : X → Option X) (f : X → X) (xs : List X) → filter_map g (map f xs) ≡ filter_map (λ x. g (f x)) xs
  filter_map-map g f [] = refl
  filter_map-map g f (x ∷ xs) = ap (cons_option (g (f x))) (filter_map-map g f xs)

  dropped : (b : Bool) (g : Option X) (x : X) (kept : List X) (h : X → Option X) → h x ≡ g
      → filter_map h (cond b (x ∷ kept) kept) ≡ cons_option (cond b g None) (filter_map h kept)
  dropped true g x kept h is = ap (λ found. cons_option found (filter_map h kept)) is
  dropped false g x kept h is = refl

  -- of items that pass a test
  pub filter_map-filter : (g : X → Option X) (p : X → Bool) (xs : List X) → filter_map g (filter p xs) ≡ filter_map (λ x. cond (p x) (g x) None) xs
  filter_map-filter g p [] = refl
  filter_map-filter g p (x ∷ xs) = dropped (p x) (g x) x (filter p xs) g refl ∙ ap (cons_option (cond (p x) (g x) None)) (filter_map-filter g p xs)

module _ {X : Type 0} (spot : Spot) (old new : Fates X) (spot_of : X → Spot) (place : ℕ) where
  same_behind : new.behind ≡ old.behind → behind_at new place ≡ behind_at old place
  same_behind same = ap (λ (lists : _). unwrap_or (slice_get (map (λ list. map (λ item. item.now) list.items) lists.items) place) []) same

  gone : (b : Bool) (found : Option (Fate X)) (x : X) → survivor (cond b (Some Gone) found) x ≡ cond (not b) (survivor found x) None
  gone true found x = refl
  gone false found x = refl

  -- where the items of a spot go, the others become what they became
  pub removed : RemovesItems spot old new → (xs : List X) → becomes new spot_of place xs ≡ becomes old spot_of place (filter (λ x. not (same_spot spot (spot_of x))) xs)
  removed one xs =
      (λ i. filter_map_same (λ x. survivor (get spot_cmp new.by_spot (spot_of x)) x)
      (λ x. cond (not (same_spot spot (spot_of x))) (survivor (get spot_cmp old.by_spot (spot_of x)) x) None)
      (λ x. ap (λ found. survivor found x) (one.fates (spot_of x)) ∙ gone (same_spot spot (spot_of x)) (get spot_cmp old.by_spot (spot_of x)) x) xs i
      ++ reverse (same_behind one.behind i))
      ∙ ap (λ list. list ++ reverse (behind_at old place))
      (sym (filter_map-filter (λ x. survivor (get spot_cmp old.by_spot (spot_of x)) x) (λ x. not (same_spot spot (spot_of x))) xs))

  -- where they are replaced, the one that comes becomes what they became
  pub replaced : (item : X) → ReplacesItems spot item old new → spot_of item ≡ spot
      → (xs : List X) → becomes new spot_of place xs ≡ becomes old spot_of place (map (λ x. if same_spot spot (spot_of x) then item else x) xs)
  replaced item one its xs =
      (λ i. filter_map_same (λ x. survivor (get spot_cmp new.by_spot (spot_of x)) x) (λ x. became (if same_spot spot (spot_of x) then item else x)) each xs i
      ++ reverse (same_behind one.behind i))
      ∙ ap (λ list. list ++ reverse (behind_at old place)) (sym (filter_map-map became (λ x. if same_spot spot (spot_of x) then item else x) xs))
    where
      became : X → Option X
      became x = survivor (get spot_cmp old.by_spot (spot_of x)) x

      each : (x : X) → survivor (get spot_cmp new.by_spot (spot_of x)) x ≡ became (if same_spot spot (spot_of x) then item else x)
      each x = by (same_spot spot (spot_of x)) refl
        where
          by : (b : Bool) → same_spot spot (spot_of x) ≡ b → survivor (get spot_cmp new.by_spot (spot_of x)) x ≡ became (if b then item else x)
          by true is = one.fates (spot_of x) x ∙ ap (λ b. survivor (get spot_cmp old.by_spot (spot_of x)) (cond b item x)) is
              ∙ ap (λ p. survivor (get spot_cmp old.by_spot p) item) (sym ((Decides-spot spot (spot_of x)).0 is) ∙ sym its)
          by false is = one.fates (spot_of x) x ∙ ap (λ b. survivor (get spot_cmp old.by_spot (spot_of x)) (cond b item x)) is

  -- other lists become what they became
  pub removed_elsewhere : RemovesItems spot old new → ((x : X) → same_spot spot (spot_of x) ≡ false) → (xs : List X)
      → becomes new spot_of place xs ≡ becomes old spot_of place xs
  removed_elsewhere one apart xs =
      λ i. filter_map_same (λ x. survivor (get spot_cmp new.by_spot (spot_of x)) x) (λ x. survivor (get spot_cmp old.by_spot (spot_of x)) x)
      (λ x. ap (λ found. survivor found x) (one.fates (spot_of x) ∙ ap (λ b. cond b (Some Gone) (get spot_cmp old.by_spot (spot_of x))) (apart x))) xs i
      ++ reverse (same_behind one.behind i)

  pub replaced_elsewhere : (item : X) → ReplacesItems spot item old new → ((x : X) → same_spot spot (spot_of x) ≡ false)
      → (xs : List X) → becomes new spot_of place xs ≡ becomes old spot_of place xs
  replaced_elsewhere item one apart xs =
      λ i. filter_map_same (λ x. survivor (get spot_cmp new.by_spot (spot_of x)) x) (λ x. survivor (get spot_cmp old.by_spot (spot_of x)) x)
      (λ x. one.fates (spot_of x) x ∙ ap (λ b. survivor (get spot_cmp old.by_spot (spot_of x)) (cond b item x)) (apart x)) xs i
      ++ reverse (same_behind one.behind i)

module _ {X : Type 0} (spot : Spot) (old new : Fates X) (spot_of : X → Spot) (place : ℕ) (item : X) (one : AddsItem place spot item old new) where
  same_survivors : (xs : List X) → survivors new spot_of xs ≡ survivors old spot_of xs
  same_survivors xs = ap (λ map. filter_map (λ x. survivor (get spot_cmp map (spot_of x)) x) xs) one.fates

  behind_turned : (found : Option X) (list : List X) → reverse (list ++ cons_option found []) ≡ cons_option found [] ++ reverse list
  behind_turned None list = ap reverse (append-nil list)
  behind_turned (Some x) list = reverse-append list (x ∷ [])

  -- an item that comes behind those of a list becomes what it became
  pub added : place < length (behind_lists old) → spot_of item ≡ spot → (xs : List X) → becomes new spot_of place xs ≡ becomes old spot_of place (xs ++ item ∷ [])
  added within its xs =
      let kept : Option X = survivor (get spot_cmp old.by_spot spot) item in
      (λ i. same_survivors xs i ++ reverse ((ap (λ lists. unwrap_or (slice_get lists place) []) one.lists
      ∙ put_here (behind_lists old) place (behind_at old place ++ cons_option kept []) within) i))
      ∙ ap (λ list. survivors old spot_of xs ++ list) (behind_turned kept (behind_at old place))
      ∙ sym (append_assoc (survivors old spot_of xs) (cons_option kept []) (reverse (behind_at old place)))
      ∙ ap (λ list. list ++ reverse (behind_at old place))
      (ap (λ p. survivors old spot_of xs ++ cons_option (survivor (get spot_cmp old.by_spot p) item) []) (sym its)
      ∙ sym (filter_map-append (λ x. survivor (get spot_cmp old.by_spot (spot_of x)) x) xs (item ∷ [])))

  -- other lists become what they became
  pub added_elsewhere : (other : ℕ) → other ≢ place → (xs : List X) → becomes new spot_of other xs ≡ becomes old spot_of other xs
  added_elsewhere other apart xs = λ i. same_survivors xs i
      ++ reverse ((ap (λ lists. unwrap_or (slice_get lists other) []) one.lists
      ∙ put_elsewhere (behind_lists old) place (behind_at old place ++ cons_option (survivor (get spot_cmp old.by_spot spot) item) []) other apart) i)

-- as many lists as before
pub same_size : {X : Type 0} (place : ℕ) (item : X) (spot : Spot) (old new : Fates X) → AddsItem place spot item old new
    → length new.behind.items ≡ length old.behind.items
same_size place item spot old new one =
    sym (length-map new.behind.items (λ list. map (λ x. x.now) list.items)) ∙ ap length one.lists ∙ length-set (behind_lists old) place _
    ∙ length-map old.behind.items (λ list. map (λ x. x.now) list.items)
