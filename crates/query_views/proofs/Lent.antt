-- The entities of a set by groups of rows, and the first group whose rows meet no case.
use Rattle.std.proofs.Common.{◌≡◌, ◌≢◌, ◌<◌, ◌≤◌, ⊎_elim, ℕ, List, [], ◌∷◌, ◌++◌, map, length, get_or, Contains, Bool, Result, Ok, Err, IsErrAnd, refl, sym, ap, subst, ◌∙◌, arith}
use Rattle.std.specs.List.{AllZip}
use Rattle.std.specs.declared.cmp.Ordering.TheVariants.{Less}
use Rattle.std.specs.Ordering.{ordering_reverse}
use Rattle.std.proofs.lemmas.Bool.{cases_lt, cases_eq}
use Rattle.std.proofs.lemmas.List.Elements.{All-contains}
use Rattle.std.specs.Option.{option_map}
use Rattle.std.proofs.Math.Seq.{get_or-append_seam}
use Rattle.std.proofs.lemmas.List.{get_or_append_left, length-append}
use Rattle.std.proofs.lemmas.Option.{get_or_from_slice_get, slice_get-get_or, slice_get-map, slice_get_read, slice_get_within}
use Rattle.emc_base.proofs.Mapped.{contains_at, contains_map}
use Rattle.emc_base.proofs.Numbered.{all_pairs_map, map_contains}
use Rattle.emc_base.specs.OrderLaws.{key_cmp_total}
use Rattle.emc_base.proofs.facts.Standing.{place_of_member}
use Rattle.emc_base.proofs.facts.Keys.{never_before}
use Rattle.round_trip.specs.Words.{At, ColId, Place, SetId, TableId, Tables, Value}
use Rattle.regions.specs.Basis.{Basis}
use Rattle.keyed_rows.specs.row_groups.Shown.{shown_cells, shown_group}
use Rattle.keyed_rows.specs.declared.row_groups.groups.KeyGroup.{KeyGroup}
use Rattle.case_laws.specs.candidates.ViewedLinks.{IsBefore}
use Rattle.case_laws.specs.candidates.Rows.{AreRowsAt, HasRows, shown_rows}
use Rattle.case_laws.specs.candidates.Viewed.{LacksCase}
use Rattle.case_laws.specs.declared.candidates.placed.PlacedRow.{PlacedRow}
use Rattle.keyed_rows.specs.set_rows.SetRows.{AreSetRows}
use Rattle.query_views.specs.Answers.{AreLent, IsLent, LendsAt, LendsSet, TellsKey}
use Rattle.query_views.specs.declared.fault.StateFault.{StateFault}
use Rattle.query_views.specs.declared.fault.StateFault.TheVariants as fault
use Rattle.query_views.specs.declared.lending.LentEntity.{LentEntity}
use Rattle.query_views.proofs.Viewed.{lacks_rows, met_not_lacking}
use Rattle.query_views.proofs.Zips.{zip_beside, zip_keyed, zip_members}

-- nor does one come before another that comes before it
before_both : (one other : List Value) → IsBefore one other → ¬ IsBefore other one
before_both one other less turned = differ (sym less ∙ key_cmp_total.antisymm one other ∙ ap ordering_reverse turned)
  where
    differ : Less ≡ ordering_reverse Less → ⊥
    differ same = cc

module _ (basis : Basis) (is_free : TableId → ColId → Bool) (tables : Tables) (s : SetId) where
  abbrev Group : Type 0
  Group = KeyGroup PlacedRow

  abbrev key_in : Group → List Value
  key_in group = shown_cells group.key

  -- just the rows of the group stand at its key
  abbrev pub IsWhole : Group → Type 0
  IsWhole group = AreRowsAt basis.schema tables s (key_in group) (shown_rows group.items.items)

  -- if so, the query view gives the lent entity there
  abbrev pub IsLentBy : Group → LentEntity → Type 0
  IsLentBy group lent = IsWhole group → IsLent basis is_free tables s (key_in group) lent

  module _ (groups : List Group) (are : AreSetRows basis.schema tables s (map shown_group groups)) where
    abbrev keys : List (List Value)
    keys = map key_in groups

    same_keys : (list : List Group) → map (λ (group : List Value × List PlacedRow). group.0) (map shown_group list) ≡ map key_in list
    same_keys [] = refl
    same_keys (group ∷ list) = ap (λ rest. key_in group ∷ rest) (same_keys list)

    -- the keys are those with rows
    key_has : (key : List Value) → HasRows basis.schema tables s key → Contains keys key
    key_has key has = subst (λ list. Contains list key) (same_keys groups) ((are.keys key).1 has)

    has_key : (key : List Value) → Contains keys key → HasRows basis.schema tables s key
    has_key key among = (are.keys key).0 (subst (λ list. Contains list key) (sym (same_keys groups)) among)

    -- each group has all rows of its key
    whole : (group : Group) → Contains groups group → IsWhole group
    whole group among =
        let Whole : List Value × List PlacedRow → Type 0 = λ shown. AreRowsAt basis.schema tables s shown.0 (shown_rows shown.1) in
        All-contains Whole (map shown_group groups) (shown_group group) are.rows (contains_map shown_group groups group among)

    -- the keys rise
    abbrev IsLower : Group → Group → Type 0
    IsLower one later = IsBefore (key_in one) (key_in later)

    groups_rise : (i j : ℕ) (one later : Group) → At groups i one → At groups j later → i < j → IsLower one later
    groups_rise i j one later at_i at_j below =
        let there : At (map shown_group groups) j (shown_group later) = slice_get-map shown_group groups j ∙ ap (option_map shown_group) at_j in
        let here : At (map shown_group groups) i (shown_group one) = slice_get-map shown_group groups i ∙ ap (option_map shown_group) at_i in
        let Lower : List Value × List PlacedRow → List Value × List PlacedRow → Type 0 = λ a b. IsBefore a.0 b.0 in
        subst (λ a. Lower a (shown_group later)) (get_or_from_slice_get (map shown_group groups) i (shown_group one) (shown_group one) here)
        (subst (Lower (get_or (map shown_group groups) i (shown_group one))) (get_or_from_slice_get (map shown_group groups) j (shown_group later) (shown_group one) there)
        (are.rising i j (shown_group one) below (slice_get_within (map shown_group groups) j (shown_group later) there)))

    -- the entities of all groups
    pub all_lent : (lent : List LentEntity) → AllZip IsLentBy groups lent → AreLent basis is_free tables s lent
    all_lent lent each = record {
      keys = keys;
      are = λ key. (has_key key, key_has key);
      rising = all_pairs_map IsBefore key_in groups (λ i j d below inside.
          groups_rise i j (get_or groups i d) (get_or groups j d) (slice_get-get_or groups i d (omega (arith, below, inside))) (slice_get-get_or groups j d inside) below);
      each = zip_keyed (IsLent basis is_free tables s) key_in groups lent
          (zip_members IsLentBy (λ group one. IsLent basis is_free tables s (key_in group) one) groups lent (λ group one among so. so (whole group among)) each);
    }

    module _ (before : List Group) (group : Group) (rest : List Group) (is : groups ≡ before ++ group ∷ rest) where
      here : At groups (length before) group
      here = subst (λ list. At list (length before) group) (sym is) (slice_get_read (before ++ group ∷ rest) (length (before ++ group ∷ rest)) (length before) group refl
          (let long = length-append before (group ∷ rest) in omega (arith, long)) (sym (get_or-append_seam before group rest group)))

      before_at : (i : ℕ) (other : Group) → i < length before → At groups i other → At before i other
      before_at i other below at = slice_get_read before (length before) i other refl below
          (sym (get_or_from_slice_get (before ++ group ∷ rest) i other other (subst (λ list. At list i other) is at)) ∙ get_or_append_left before (group ∷ rest) other i below)

      -- a key before that of the group is of a group before it
      earlier : (key : List Value) → HasRows basis.schema tables s key → IsBefore key (key_in group) → (i : ℕ) × (other : Group) × At before i other × (key_in other ≡ key)
      earlier key has is_before =
          let found = map_contains key_in groups key (key_has key has) in
          let i = found.1.0 in
          let at : At groups i found.0 = place_of_member groups found.0 found.1 in
          let sooner : IsBefore (key_in found.0) (key_in group) = subst (λ one. IsBefore one (key_in group)) (sym found.2) is_before in
          let below : i < length before = ⊎_elim
          (λ (same : i ≡ length before). absurd (never_before (key_in group) (subst (λ one. IsBefore (key_in one) (key_in group)) (one_place i (length before) found.0 group same at here) sooner)))
          (λ not_same. ⊎_elim
          (λ (less : i < length before). less)
          (λ (more : length before ≤ i). absurd (before_both (key_in group) (key_in found.0) (groups_rise (length before) i group found.0 here at (omega (arith, more, not_same))) sooner))
          (cases_lt i (length before)))
          (cases_eq i (length before)) in
          (i, found.0, before_at i found.0 below at, found.2)
        where
          one_place : (a b : ℕ) (x y : Group) → a ≡ b → At groups a x → At groups b y → x ≡ y
          one_place a b x y same at_a at_b = cc

      -- the rows of the group are the first that meet no case
      pub first_lack : (lent : List LentEntity) → AllZip IsLentBy before lent → (place : Place) → TellsKey basis.schema.model s (key_in group) place
          → (IsWhole group → group.items.items ≢ [] → LacksCase basis is_free tables s (key_in group))
          → (key : List Value) × TellsKey basis.schema.model s key place × LacksCase basis is_free tables s key
          × ((other : List Value) → IsBefore other key → ¬ LacksCase basis is_free tables s other)
      first_lack lent each place told lacks =
          let among : Contains groups group = contains_at groups (length before) group here in
          let has : HasRows basis.schema tables s (key_in group) = has_key (key_in group) (contains_map key_in groups group among) in
          let some : group.items.items ≢ [] = λ empty. lacks_rows basis is_free tables s (key_in group) (shown_rows group.items.items) (whole group among) has (ap shown_rows empty) in (
            key_in group,
            told,
            lacks (whole group among) some,
            λ other is_before lacking.
                (let found = earlier other lacking.rows is_before in
                let lent_there = zip_beside IsLentBy before lent found.0 found.1 each found.2 in
                let at : At groups found.0 found.1 = subst (λ list. At list found.0 found.1) (sym is) (slice_get_read (before ++ group ∷ rest) (length (before ++ group ∷ rest)) found.0 found.1 refl
                (let long = length-append before (group ∷ rest) in let inside = slice_get_within before found.0 found.1 found.2 in omega (arith, long, inside))
                (sym (get_or_append_left before (group ∷ rest) found.1 found.0 (slice_get_within before found.0 found.1 found.2) ∙ get_or_from_slice_get before found.0 found.1 found.1 found.2))) in
                let is_lent : IsLent basis is_free tables s (key_in found.1) lent_there.0 = lent_there.2 (whole found.1 (contains_at groups found.0 found.1 at)) in
                let P : List Value → Type 0 = λ key. LacksCase basis is_free tables s key in
                met_not_lacking basis is_free tables s (key_in found.1) lent_there.0.met.case.now is_lent.first_met (subst P (sym found.3) lacking)),
          )

      -- what is told of the group's rows is told of the set
      pub lack_set : (lent : List LentEntity) → AllZip IsLentBy before lent → (fault : StateFault) → LendsAt basis is_free tables s group (Err fault) → LendsSet basis is_free tables s (Err fault)
      lack_set lent each (fault.NoCase place) told = first_lack lent each place told.0 told.1
      lack_set lent each fault.Memory told = tt

-- a fault that is handed on
pub handed_on : {X : Type 0} (P : Result X StateFault → Type 0) (told : StateFault) (result : Result X StateFault) → IsErrAnd result (λ fault. fault ≡ told) → P (Err told) → P result
handed_on P told (Ok x) is so = absurd is
handed_on P told (Err fault) is so = let Q : StateFault → Type 0 = λ other. P (Err other) in subst Q (sym is) so
