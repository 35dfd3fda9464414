-- Tables of types, noted one by one.
use Rattle.std.proofs.Common.{◌≡◌, ⊎_elim, ℕ, ◌+◌, ◌<◌, ◌≤◌, List, length, replicate, set, take, position, cond, Option, Some, None, Bool, true, refl, sym, ap, subst, ◌∙◌, arith}
use Rattle.std.specs.Option.{option_and_then, option_or}
use Rattle.std.proofs.lemmas.Bool.{cases_lt}
use Rattle.std.proofs.lemmas.Bool.Decides.{Decides-eqb}
use Rattle.std.proofs.lemmas.List.{get_or-replicate, length-replicate, length-take-le, take_all}
use Rattle.std.proofs.lemmas.Option.{slice_get-get_or, slice_get_past, slice_get_within}
use Rattle.emc_base.specs.Lists.{At}
use Rattle.emc_base.proofs.Loops.{take_item}
use Rattle.emc_base.proofs.facts.Found.{position_passes}
use Rattle.groupings.proofs.name_places.Positions.{position_push}
use Rattle.csdl_names.specs.declared.csdl_lists.raw.RawModel.{RawModel}
use Rattle.csdl_names.specs.declared.csdl_lists.raw.RawSet.{RawSet}
use Rattle.csdl_names.specs.csdl_lists.References.{names_in}
use Rattle.csdl_names.proofs.csdl_lists.Within.{type_within}
use Rattle.ssdl_model.specs.ssdl_lists.Tables.{IsTabled, is_of_type, is_place, table_in, table_of}

-- no list says anything of a place past its end
table_past : (tables : List (Option ℕ)) (i : ℕ) → length tables ≤ i → table_in tables i ≡ None
table_past tables i past = ap (option_and_then (λ (table : Option ℕ). table)) (slice_get_past tables i past)

module _ (model : RawModel) where
  -- what is known of each type once the first so many tables were noted
  pub record KnowsTables (n : ℕ) (tables : List (Option ℕ)) : Type 0 where
    pub alike : length tables ≡ length model.types
    pub each : (i : ℕ) → i < length model.types → table_in tables i ≡ position (is_of_type (names_in model) i) (take n model.container.sets)

  -- none yet
  pub knows_start : (tables : List (Option ℕ)) → tables ≡ replicate (length model.types) None → KnowsTables 0 tables
  knows_start tables is = record {
    alike = ap length is ∙ length-replicate (length model.types) None;
    each = λ i inside. ap (λ (xs : List (Option ℕ)). table_in xs i) is ∙ none i inside;
  }
    where
      none : (i : ℕ) → i < length model.types → table_in (replicate (length model.types) None) i ≡ None
      none i inside = ap (option_and_then (λ (known : Option ℕ). known))
          (slice_get-get_or (replicate (length model.types) None) i None (subst (λ n. i < n) (sym (length-replicate (length model.types) None)) inside)
          ∙ ap Some (get_or-replicate (length model.types) i None None inside))

  -- one more
  pub knows_more : (n : ℕ) (set : RawSet) (before now : List (Option ℕ)) → At model.container.sets n set → KnowsTables n before
      → IsTabled before ((names_in model).type_named set.element) n now → KnowsTables (n + 1) now
  knows_more n set before now here knows tabled = record {
    alike = tabled.alike ∙ knows.alike;
    each = λ i inside.
        let sets = model.container.sets in
        let p : RawSet → Bool = is_of_type (names_in model) i in
        let count : length (take n sets) ≡ n = length-take-le n sets (let within : n < length sets = slice_get_within sets n set here in omega arith) in
        tabled.each i (subst (λ (k : ℕ). i < k) (sym knows.alike) inside)
        ∙ (λ k. option_or (knows.each i inside k) (cond (p set) (Some (sym count k)) None))
        ∙ sym (position_push p (take n sets) set)
        ∙ ap (position p) (sym (take_item sets n set here));
  }

  -- what is no type has no table
  no_table : (i : ℕ) → length model.types ≤ i → table_of (names_in model) model i ≡ None
  no_table i past = by (table_of (names_in model) model i) refl
    where
      of : (text : List ℕ) (type : Option ℕ) → (names_in model).type_named text ≡ type → is_place i type ≡ true → ⊥
      of text None is passes = cc
      of text (Some type) is passes =
          let within : type < length model.types = type_within model text type is in
          let same : type ≡ i = (Decides-eqb type i).0 passes in
          omega arith

      by : (found : Option ℕ) → table_of (names_in model) model i ≡ found → table_of (names_in model) model i ≡ None
      by None is = is
      by (Some k) is =
          let found = position_passes (is_of_type (names_in model) i) model.container.sets k is in
          absurd (of found.0.element ((names_in model).type_named found.0.element) refl found.2)

  -- all
  pub knows_all : (n : ℕ) (tables : List (Option ℕ)) → length model.container.sets ≤ n → KnowsTables n tables → table_in tables ≡ table_of (names_in model) model
  knows_all n tables end knows = λ k i. at i k
    where
      at : (i : ℕ) → table_in tables i ≡ table_of (names_in model) model i
      at i = ⊎_elim
          (λ (inside : i < length model.types). knows.each i inside ∙ ap (position (is_of_type (names_in model) i)) (take_all n model.container.sets end))
          (λ (past : length model.types ≤ i). table_past tables i (subst (λ (k : ℕ). k ≤ i) (sym knows.alike) past) ∙ sym (no_table i past))
          (cases_lt i (length model.types))
