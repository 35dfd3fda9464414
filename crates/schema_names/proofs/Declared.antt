-- The properties that types declare, known by their names one after another.
use Rattle.std.proofs.Common.{string_bytes, ◌≡◌, ℕ, zero, suc, ◌+◌, ◌<◌, ◌≤◌, ◌==◌, ◌&&◌, List, [], ◌∷◌, ◌++◌, append-nil, length, map, filter, take, find, slice_get, Bool, true, false, cond, Option, Some, None, refl, sym, ap, subst, ◌∙◌, arith}
use Rattle.std.specs.Cmp.Lexicographic.{slice_cmp}
use Rattle.std.specs.List.{enumerate_from}
use Rattle.std.specs.Option.{option_and_then, option_map_or, option_or}
use Rattle.std.specs.Map.{lookup}
use Rattle.std.specs.Ordering.{is_eq, nat_cmp}
use Rattle.std.specs.Str.{bytes_eq}
use Rattle.std.proofs.lemmas.List.{length_push, map-append, take_all}
use Rattle.std.proofs.lemmas.List.Elements.{filter_more}
use Rattle.std.proofs.lemmas.List.Folds.{find-append}
use Rattle.std.proofs.lemmas.Option.{get_or_from_slice_get, slice_get_past, slice_get_within}
use Rattle.emc_base.specs.Lists.{places_of}
use Rattle.emc_base.proofs.Numbered.{numbered_at}
use Rattle.emc_base.proofs.facts.Found.{or_none}
use Rattle.round_trip.specs.Words.{EntityModel, EntityType, Prop, PropId, At}
use Rattle.round_trip.specs.soundness.models.Inheritance.{prop_numbered}
use Rattle.schema_names.specs.declared.own_props.OwnProps.{OwnProps}
use Rattle.schema_names.specs.OwnProps.{AddsProp, AreOwnProps, HaveNoProps, prop_at, prop_in}
use Rattle.schema_names.specs.SchemaNames.{has_name}

-- one more type without a property
pub none_more : (n : ℕ) (own : List OwnProps) (one : OwnProps) → HaveNoProps n own → one.by_name.entries ≡ [] → HaveNoProps (n + 1) (own ++ one ∷ [])
none_more n own one nothing empty = record { count = length_push own one ∙ ap (λ k. k + 1) nothing.count; none = λ t name. upto own t name (λ k. nothing.none k name) }
  where
    upto : (some : List OwnProps) (t : ℕ) (name : List ℕ) → ((k : ℕ) → prop_at some k name ≡ None) → prop_at (some ++ one ∷ []) t name ≡ None
    upto [] zero name all = ap (lookup (λ k. is_eq (slice_cmp nat_cmp name (string_bytes k)))) empty
    upto [] (suc t) name all = refl
    upto (other ∷ some) zero name all = all zero
    upto (other ∷ some) (suc t) name all = upto some t name (λ k. all (suc k))

-- where nothing stands at a place, the list ends before
past_end : {X : Type 0} (xs : List X) (i : ℕ) → slice_get xs i ≡ None → length xs ≤ i
past_end [] i none = omega arith
past_end (x ∷ xs) zero none = absurd cc
past_end (x ∷ xs) (suc i) none = let past : length xs ≤ i = past_end xs i none in omega arith

-- the first items of a numbered list
enumerated-take : {X : Type 0} (n i : ℕ) (xs : List X) → enumerate_from n (take i xs) ≡ take i (enumerate_from n xs)
enumerated-take n zero [] = refl
enumerated-take n (suc i) [] = refl
enumerated-take n zero (x ∷ xs) = refl
enumerated-take n (suc i) (x ∷ xs) = ap (λ entries. (n, x) ∷ entries) (enumerated-take (n + 1) i xs)

-- the first that passes among the numbers of items: one more item is numbered, or left out
module _ {X Y : Type 0} (passes : Y → Bool) (number : ℕ → Y) where
  abbrev first_of : List (ℕ × X) → Option Y
  first_of entries = find passes (map number (map (λ entry. entry.0) entries))

  first_kept : (entries : List (ℕ × X)) (i : ℕ) (x : X) (stays : Bool)
      → first_of (entries ++ cond stays ((i, x) ∷ []) []) ≡ option_or (first_of entries) (cond (stays && passes (number i)) (Some (number i)) None)
  first_kept entries i x true =
      ap (λ numbers. find passes (map number numbers)) (map-append (λ (entry : ℕ × X). entry.0) entries ((i, x) ∷ []))
      ∙ ap (find passes) (map-append number (map (λ (entry : ℕ × X). entry.0) entries) (i ∷ []))
      ∙ find-append passes (map number (map (λ (entry : ℕ × X). entry.0) entries)) (number i ∷ [])
  first_kept entries i x false = ap first_of (append-nil entries) ∙ sym (or_none (first_of entries))

  first_more : (test : X → Bool) (xs : List X) (i : ℕ) (x : X) → At xs i x
      → find passes (map number (places_of test (take (i + 1) xs)))
      ≡ option_or (find passes (map number (places_of test (take i xs)))) (cond (test x && passes (number i)) (Some (number i)) None)
  first_more test xs i x here =
      let entries : List (ℕ × X) = enumerate_from 0 xs in
      let at : At entries i (i, x) = numbered_at xs i x here in
      let p : ℕ × X → Bool = λ entry. test entry.1 in
      ap (λ taken. first_of (filter p taken)) (enumerated-take 0 (i + 1) xs)
      ∙ ap first_of (filter_more p entries i (i, x) (slice_get_within entries i (i, x) at))
      ∙ ap (λ (entry : ℕ × X). first_of (filter p (take i entries) ++ cond (p entry) (entry ∷ []) [])) (get_or_from_slice_get entries i (i, x) (i, x) at)
      ∙ first_kept (filter p (take i entries)) i x (test x)
      ∙ ap (λ taken. option_or (first_of (filter p taken)) (cond (test x && passes (number i)) (Some (number i)) None)) (sym (enumerated-take 0 i xs))

module _ (model : EntityModel) where
  -- the property of this name that a type declares, among the first of all
  abbrev own_upto : ℕ → ℕ → List ℕ → Option PropId
  own_upto i t name =
      option_and_then (λ type. find (has_name model name) (map prop_numbered (places_of (λ prop. prop.owner.index == t) (take i model.props)))) (slice_get model.types t)

  -- these are known
  pub record AreKnown (i : ℕ) (own : List OwnProps) : Type 0 where
    pub count : length own ≡ length model.types
    pub each : (t : ℕ) (name : List ℕ) → prop_at own t name ≡ own_upto i t name

  pub known_none : (own : List OwnProps) → HaveNoProps (length model.types) own → AreKnown 0 own
  known_none own nothing = record { count = nothing.count; each = λ t name. nothing.none t name ∙ by (slice_get model.types t) }
    where
      by : (found : Option EntityType) → None ≡ option_and_then {U = PropId} (λ type. None) found
      by None = refl
      by (Some type) = refl

  pub known_more : (i : ℕ) (prop : Prop) (before now : List OwnProps) → At model.props i prop → AreKnown i before → AddsProp i prop before now → AreKnown (i + 1) now
  known_more i prop before now here known adds = record {
    count = adds.count ∙ known.count;
    each = λ t name. by t name (slice_get model.types t) refl;
  }
    where
      by : (t : ℕ) (name : List ℕ) (found : Option EntityType) → slice_get model.types t ≡ found → prop_at now t name
          ≡ option_and_then (λ type. find (has_name model name) (map prop_numbered (places_of (λ prop. prop.owner.index == t) (take (i + 1) model.props)))) found
      by t name None none =
          let past : length model.types ≤ t = past_end model.types t none in
          let end : length now ≤ t = omega (arith, past, adds.count, known.count) in
          ap (option_and_then (λ (props : OwnProps). prop_in props name)) (slice_get_past now t end)
      by t name (Some type) at =
          let within : t < length before = subst (λ n. t < n) (sym known.count) (slice_get_within model.types t type at) in
          let was = known.each t name ∙ ap (option_and_then (λ (type : EntityType). find (has_name model name) (map prop_numbered (places_of (λ prop. prop.owner.index == t) (take i model.props))))) at in
          let named : has_name model name (prop_numbered i) ≡ bytes_eq name prop.name = ap (λ found. option_map_or (λ declared. bytes_eq name declared.name) found false) here in
          adds.each t name within
          ∙ (λ k. option_or (was k) (cond ((prop.owner.index == t) && sym named k) (Some (prop_numbered i)) None))
          ∙ sym (first_more (has_name model name) prop_numbered (λ declared. declared.owner.index == t) model.props i prop here)

  pub known_all : (i : ℕ) (own : List OwnProps) → length model.props ≤ i → AreKnown i own → AreOwnProps model own
  known_all i own end known t name =
      known.each t name
      ∙ ap (λ (props : List Prop). option_and_then (λ type. find (has_name model name) (map prop_numbered (places_of (λ prop. prop.owner.index == t) props))) (slice_get model.types t))
      (take_all i model.props end)
