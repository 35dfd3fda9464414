-- What items give, of which some pass a test.
use Rattle.std.proofs.Common.{◌≡◌, ◌≢◌, ◌==◌, ◌∙◌, ⊎_elim, List, [], ◌∷◌, ◌++◌, map, filter, Bool, true, false, true≢false, All, AllPairs, Contains, refl}
use Rattle.std.proofs.Common.{sym, ap, subst}
use Rattle.std.specs.List.{flat_map}
use Rattle.std.proofs.lemmas.List.{map-append}
use Rattle.std.proofs.lemmas.List.Concat.{flat_map-cons}
use Rattle.std.proofs.lemmas.List.Elements.{All-contains, Contains-append_right, filter-append}
use Rattle.emc_base.proofs.FoundItems.{contains_flat_map}
use Rattle.emc_base.proofs.Joined.{apart-append, apart-left, filter-drops, filter-keeps, in_flat_map, pairs_head, pairs_tail}
use Rattle.emc_base.proofs.Lists.{all_from_members}
use Rattle.emc_base.proofs.Members.{contains_cons_cases, contains_nil}
use Rattle.emc_base.proofs.Numbered.{filter_contains}
use Rattle.round_trip.specs.Words.{Row, TableId}
use Rattle.table_files.specs.declared.tables.TableRow.{TableRow}
use Rattle.delta_plan.specs.RowsOf.{named}

module _ {Y : Type 0} (P : Y → Y → Type 0) where
  -- what goes for two lists behind one another goes for the second, and for one of each
  apart-right : (xs ys : List Y) → AllPairs P (xs ++ ys) → AllPairs P ys
  apart-right [] ys pairs = pairs
  apart-right (x ∷ xs) ys pairs = apart-right xs ys (pairs_tail P x (xs ++ ys) pairs)

  across : (xs ys : List Y) → AllPairs P (xs ++ ys) → (x y : Y) → Contains xs x → Contains ys y → P x y
  across [] ys pairs x y has_x has_y = absurd (contains_nil x has_x)
  across (z ∷ xs) ys pairs x y has_x has_y = ⊎_elim
      (λ (here : x ≡ z). subst (λ (w : Y). P w y) (sym here)
      (All-contains (P z) (xs ++ ys) y (pairs_head P z (xs ++ ys) pairs) (Contains-append_right xs ys y has_y)))
      (λ (later : Contains xs x). across xs ys (pairs_tail P z (xs ++ ys) pairs) x y later has_y)
      (contains_cons_cases z xs x has_x)

  module _ {X : Type 0} (g : X → List Y) where
    first_apart : (x : X) (xs : List X) → AllPairs P (flat_map g (x ∷ xs)) → AllPairs P (g x ++ flat_map g xs)
    first_apart x xs pairs = subst (AllPairs P) (flat_map-cons g x xs) pairs

    module _ (p : X → Bool) where
      -- what those give that pass is a part
      pub of_filtered : (xs : List X) (y : Y) → Contains (flat_map g (filter p xs)) y → (x : X) × Contains xs x × (p x ≡ true) × Contains (g x) y
      of_filtered xs y has =
          let from = in_flat_map g (filter p xs) y has in
          let there = filter_contains p xs from.0 from.1 in
          (from.0, there.0, there.1, from.2)

      pub within : (xs : List X) (y : Y) → Contains (flat_map g (filter p xs)) y → Contains (flat_map g xs) y
      within xs y has = let from = of_filtered xs y has in contains_flat_map g xs from.0 y from.1 from.3

      one_more : (x : X) (xs : List X) → AllPairs P (g x ++ flat_map g xs) → AllPairs P (flat_map g (filter p xs)) → (b : Bool) → p x ≡ b
          → AllPairs P (flat_map g (filter p (x ∷ xs)))
      one_more x xs both rest false is = subst (λ (kept : List X). AllPairs P (flat_map g kept)) (sym (filter-drops p x xs is)) rest
      one_more x xs both rest true is = subst (λ (kept : List X). AllPairs P (flat_map g kept)) (sym (filter-keeps p x xs is))
          (subst (AllPairs P) (sym (flat_map-cons g x (filter p xs)))
          (apart-append P (g x) (flat_map g (filter p xs)) (apart-left P (g x) (flat_map g xs) both) rest
          (all_from_members (λ (y : Y). All (P y) (flat_map g (filter p xs))) (g x) (λ y has_y.
          all_from_members (P y) (flat_map g (filter p xs)) (λ w has_w.
          across (g x) (flat_map g xs) both y w has_y (within xs w has_w))))))

      -- and goes as all goes
      pub pairs_of_filtered : (xs : List X) → AllPairs P (flat_map g xs) → AllPairs P (flat_map g (filter p xs))
      pairs_of_filtered [] pairs = pairs
      pairs_of_filtered (x ∷ xs) pairs =
          let both = first_apart x xs pairs in
          one_more x xs both (pairs_of_filtered xs (apart-right (g x) (flat_map g xs) both)) (p x) refl

    -- what two items give goes with one another
    pub of_two : ((y w : Y) → P y w → P w y) → (xs : List X) → AllPairs P (flat_map g xs) → (x z : X) → Contains xs x → Contains xs z → x ≢ z
        → (y w : Y) → Contains (g x) y → Contains (g z) w → P y w
    of_two turned [] pairs x z has_x has_z differ y w of_x of_z = absurd (contains_nil x has_x)
    of_two turned (first ∷ xs) pairs x z has_x has_z differ y w of_x of_z = ⊎_elim
        (λ (x_first : x ≡ first). ⊎_elim
        (λ (z_first : z ≡ first). absurd (differ (x_first ∙ sym z_first)))
        (λ (z_later : Contains xs z). from_first x z y w x_first z_later of_x of_z)
        (contains_cons_cases first xs z has_z))
        (λ (x_later : Contains xs x). ⊎_elim
        (λ (z_first : z ≡ first). turned w y (from_first z x w y z_first x_later of_z of_x))
        (λ (z_later : Contains xs z). of_two turned xs (apart-right (g first) (flat_map g xs) both) x z x_later z_later differ y w of_x of_z)
        (contains_cons_cases first xs z has_z))
        (contains_cons_cases first xs x has_x)
      where
        both : AllPairs P (g first ++ flat_map g xs)
        both = first_apart first xs pairs

        from_first : (a b : X) (y w : Y) → a ≡ first → Contains xs b → Contains (g a) y → Contains (g b) w → P y w
        from_first a b y w here later of_a of_b = across (g first) (flat_map g xs) both y w
            (subst (λ (one : X). Contains (g one) y) here of_a) (contains_flat_map g xs b w later of_b)

    -- what one gives that passes goes with what another gives that doesn't
    pub apart_units : ((y w : Y) → P y w → P w y) → (p : X → Bool) (xs : List X) → AllPairs P (flat_map g xs)
        → (y : Y) → Contains (flat_map g (filter p xs)) y → (z : X) → Contains xs z → p z ≡ false → (w : Y) → Contains (g z) w → P y w
    apart_units turned p xs pairs y has z there fails w of_z =
        let from = of_filtered p xs y has in
        of_two turned xs pairs from.0 z from.1 there (λ same. true≢false (sym from.2 ∙ ap p same ∙ fails)) y w from.3 of_z

-- the rows that name a table, of what units give
module _ (t : TableId) where
  named-append : (xs ys : List TableRow) → named t (xs ++ ys) ≡ named t xs ++ named t ys
  named-append xs ys =
      ap (map (λ (one : TableRow). one.row)) (filter-append (λ (one : TableRow). one.table.index == t.index) xs ys)
      ∙ map-append (λ (one : TableRow). one.row) (filter (λ (one : TableRow). one.table.index == t.index) xs)
      (filter (λ (one : TableRow). one.table.index == t.index) ys)

  pub named_given : {X : Type 0} (f : X → List TableRow) (xs : List X) → named t (flat_map f xs) ≡ flat_map (λ x. named t (f x)) xs
  named_given f [] = refl
  named_given f (x ∷ xs) =
      ap (named t) (flat_map-cons f x xs) ∙ named-append (f x) (flat_map f xs) ∙ ap (λ (rest : List Row). named t (f x) ++ rest) (named_given f xs)
      ∙ sym (flat_map-cons (λ one. named t (f one)) x xs)
