-- Items that a map lists by their keys.
use Rattle.std.proofs.Common.{◌≡◌, List, [], ◌∷◌, ◌++◌, append-nil, map, filter, cond, Bool, true, false, Option, Some, None, Contains, refl, sym, ap, subst, ◌∙◌, arith}
use Rattle.std.specs.BTreeMap.{BTreeMap, IsOrdered, get, is_at, values}
use Rattle.std.specs.Cmp.{IsTotalOrder}
use Rattle.std.specs.Global.{Vec}
use Rattle.std.specs.Map.{lookup}
use Rattle.std.specs.Option.{option_map_or}
use Rattle.std.specs.Ordering.{is_eq}
use Rattle.std.specs.declared.cmp.Ordering.{Ordering}
use Rattle.std.specs.declared.cmp.Ordering.TheVariants.{Equal}
use Rattle.std.proofs.lemmas.Cmp.{tied_itself}
use Rattle.std.proofs.lemmas.List.{map-append}
use Rattle.std.proofs.lemmas.List.Elements.{All-contains, filter-append}
use Rattle.std.proofs.lemmas.Map.Views.{All-found}
use Rattle.std.proofs.lemmas.Map.Entries.{place_from_lookup}
use Rattle.emc_base.proofs.Mapped.{contains_at, contains_filter, contains_map}
use Rattle.emc_base.proofs.Numbered.{map_contains}
use Rattle.emc_base.proofs.facts.Orderings.{is_equal}
use Rattle.groupings.specs.item_groups.Groups.{items_at, items_of}

-- nothing stands in an empty list
none_in_nil : {X : Type 0} (x : X) → Contains [] x → ⊥
none_in_nil x has = absurd (omega arith)

module _ {K : Type 0} (cmp : K → K → Ordering) (total : IsTotalOrder cmp) where
  -- keys that are equal are looked up alike
  pub get_same : {Y : Type 0} (m : BTreeMap K Y) (k q : K) → cmp k q ≡ Equal → get cmp m k ≡ get cmp m q
  get_same m k q same = λ i. lookup (λ x. is_eq (total.congr k q x same i)) m.entries

  -- one item more
  module _ {X : Type 0} (keyed : List (K × X)) (k : K) (x : X) where
    abbrev test : K → K × X → Bool
    test q one = is_eq (cmp one.0 q)

    more : (b : Bool) (q : K) → is_eq (cmp k q) ≡ b → items_of cmp (keyed ++ (k, x) ∷ []) q ≡ items_of cmp keyed q ++ map (λ (one : K × X). one.1) (cond b ((k, x) ∷ []) [])
    more b q is =
        ap (map (λ (one : K × X). one.1)) (filter-append (test q) keyed ((k, x) ∷ []))
        ∙ map-append (λ (one : K × X). one.1) (filter (test q) keyed) (cond (is_eq (cmp k q)) ((k, x) ∷ []) [])
        ∙ ap (λ b. items_of cmp keyed q ++ map (λ (one : K × X). one.1) (cond b ((k, x) ∷ []) [])) is

    -- stands behind those of its key
    pub item_behind : (q : K) → is_eq (cmp k q) ≡ true → items_of cmp (keyed ++ (k, x) ∷ []) q ≡ items_of cmp keyed q ++ x ∷ []
    item_behind q is = more true q is

    -- and not among those of another
    pub item_elsewhere : (q : K) → is_eq (cmp k q) ≡ false → items_of cmp (keyed ++ (k, x) ∷ []) q ≡ items_of cmp keyed q
    item_elsewhere q is = more false q is ∙ append-nil (items_of cmp keyed q)

    module _ (old now : BTreeMap K (Vec X)) (before : (q : K) → items_at cmp old q ≡ items_of cmp keyed q)
        (own : items_at cmp now k ≡ items_at cmp old k ++ x ∷ []) (others : (q : K) → is_eq (cmp k q) ≡ false → get cmp now q ≡ get cmp old q) where
      abbrev listed : Option (Vec X) → List X
      listed found = option_map_or (λ list. list.items) found []

      -- so a map to which it is added lists those of each key
      pub one_more : (q : K) → items_at cmp now q ≡ items_of cmp (keyed ++ (k, x) ∷ []) q
      one_more q = by (is_eq (cmp k q)) refl
        where
          by : (b : Bool) → is_eq (cmp k q) ≡ b → items_at cmp now q ≡ items_of cmp (keyed ++ (k, x) ∷ []) q
          by true is =
              let same = is_equal (cmp k q) is in
              sym (ap listed (get_same now k q same)) ∙ own ∙ ap (λ (found : Option (Vec X)). listed found ++ x ∷ []) (get_same old k q same)
              ∙ ap (λ (items : List X). items ++ x ∷ []) (before q)
              ∙ sym (item_behind q is)
          by false is = ap listed (others q is) ∙ before q ∙ sym (item_elsewhere q is)

  module _ {X : Type 0} (groups : BTreeMap K (Vec X)) (keyed : List (K × X)) (at : (q : K) → items_at cmp groups q ≡ items_of cmp keyed q) where
    -- each list of the map is that of a key
    pub list_of : IsOrdered cmp groups → (list : Vec X) → Contains (values groups) list → (k : K) × (list.items ≡ items_of cmp keyed k)
    list_of ordered list has =
        let found = map_contains (λ (e : K × Vec X). e.1) groups.entries list has in
        let here = All-contains (λ (e : K × Vec X). get cmp groups e.0 ≡ Some e.1) groups.entries found.0 (All-found total groups ordered) found.1 in
        (found.0.0, ap (λ (one : Vec X). one.items) (sym found.2) ∙ sym (ap (λ one. option_map_or (λ (list : Vec X). list.items) one []) here) ∙ at found.0.0)

    -- and the items of two keys that are equal stand in one list
    module _ (one other : K × X) (has : Contains keyed one) (has_other : Contains keyed other) (same : cmp other.0 one.0 ≡ Equal) where
      abbrev of_one : List X
      of_one = items_of cmp keyed one.0

      among : (two : K × X) → Contains keyed two → is_eq (cmp two.0 one.0) ≡ true → Contains of_one two.1
      among two there told = contains_map (λ (p : K × X). p.1) (filter (λ (p : K × X). is_eq (cmp p.0 one.0)) keyed) two
          (contains_filter (λ (p : K × X). is_eq (cmp p.0 one.0)) keyed two there told)

      pub list_with : (list : Vec X) × Contains (values groups) list × Contains list.items one.1 × Contains list.items other.1
      list_with = by (get cmp groups one.0) refl
        where
          by : (found : Option (Vec X)) → get cmp groups one.0 ≡ found
              → (list : Vec X) × Contains (values groups) list × Contains list.items one.1 × Contains list.items other.1
          by None none =
              let empty : of_one ≡ [] = sym (at one.0) ∙ ap (λ found. option_map_or (λ (list : Vec X). list.items) found []) none in
              absurd (none_in_nil one.1 (subst (λ items. Contains items one.1) empty (among one has (ap is_eq (tied_itself total one.0)))))
          by (Some list) is =
              let are : of_one ≡ list.items = sym (at one.0) ∙ ap (λ found. option_map_or (λ (list : Vec X). list.items) found []) is in
              let place = place_from_lookup (is_at (cmp one.0)) groups.entries list is in (
                list,
                contains_map (λ (e : K × Vec X). e.1) groups.entries (place.1, list) (contains_at groups.entries place.0 (place.1, list) place.2),
                subst (λ items. Contains items one.1) are (among one has (ap is_eq (tied_itself total one.0))),
                subst (λ items. Contains items other.1) are (among other has_other (ap is_eq same)),
              )
