-- The digits of hosted associations: the flag that tells whether a link is there.
use Rattle.std.proofs.Common.{◌≡◌, ◌≢◌, ◌↔◌, ◌<◌, ⊎_elim, ◌++◌, ℕ, List, [], ◌∷◌, length, map, flat_map, slice_get, Any, Contains, Bool, true, false, Option, Some, None, refl, sym, subst, ◌∙◌}
use Rattle.std.specs.List.{AllZip}
use Rattle.std.specs.Option.{option_map_or}
use Rattle.std.proofs.lemmas.List.Elements.{Contains-append_cases, Contains-append_left, Contains-append_right}
use Rattle.std.proofs.lemmas.Option.{same_Some}
use Rattle.emc_base.specs.Lists.{At}
use Rattle.emc_base.proofs.Mapped.{contains_at}
use Rattle.round_trip.specs.Words.{TypeId, AssocId, Assoc, Mult, Entity, Hosted}
use Rattle.edm_types.specs.declared.model.Mult.TheVariants.{One, ZeroOrOne, Many}
use Rattle.schema_laws.proofs.state_demand.lists.Lists.{member_cases, none_in_nil}
use Rattle.regions.specs.Basis.{Basis, Host, host_end, partner_end}
use Rattle.regions.specs.Regions.{flag_values, flagged, flags_at, model_of}
use Rattle.regions.specs.region_laws.RegionAt.{flag_by, flag_in, has_link}
use Rattle.regions.proofs.region_laws.lists.Choices.{pairs_tail, zip_weaker}
use Rattle.regions.proofs.region_laws.entities.Flags.{Decides-flagged, Decides-link, InOrder, IsFlag, Tells, flag_member, no_later, of_host}
use Rattle.update_views.specs.declared.region_table.telling.LinkRule.TheVariants as rule
use Rattle.update_views.specs.region_table.Digits.{digit_of, rule_digit, rule_size, size_of}
use Rattle.update_views.specs.region_table.Made.{link_test, rule_of}

-- the one list of lists
only_list : {X : Type 0} (xs ys : List X) → Contains (xs ∷ []) ys → ys ≡ xs
only_list xs ys has = ⊎_elim (λ (here : ys ≡ xs). here) (λ (none : Contains [] ys). absurd (none_in_nil ys none)) (member_cases xs [] ys has)

module _ (a : AssocId) where
  -- the flags as lists
  abbrev flags : Bool → Mult → List (List AssocId)
  flags may mult = map (flagged a) (flag_values may mult)

  rule_sizes : (may : Bool) (mult : Mult) → rule_size (rule_of may mult) ≡ length (flags may mult)
  rule_sizes true One = refl
  rule_sizes true ZeroOrOne = refl
  rule_sizes true Many = refl
  rule_sizes false One = refl
  rule_sizes false ZeroOrOne = refl
  rule_sizes false Many = refl

  record Found (may : Bool) (mult : Mult) (linked : Bool) (digit : ℕ) : Type 0 where
    flag : Bool
    here : At (flags may mult) digit (flagged a flag)
    told : mult ≢ Many → flag ≡ linked

  at_digit : (may : Bool) (mult : Mult) (linked flag : Bool) (place digit : ℕ) → At (flags may mult) place (flagged a flag) → (mult ≢ Many → flag ≡ linked)
      → Some place ≡ Some digit → Found may mult linked digit
  at_digit may mult linked flag place digit here told is =
      let P : ℕ → Type 0 = λ k. At (flags may mult) k (flagged a flag) in
      record { flag = flag; here = subst P (same_Some place digit is) here; told = told }

  -- the flag at the digit
  flag_found : (may : Bool) (mult : Mult) (linked : Bool) (digit : ℕ) → rule_digit (rule_of may mult) linked ≡ Some digit → Found may mult linked digit
  flag_found true One true digit is = at_digit true One true true 0 digit refl (λ few. refl) is
  flag_found true One false digit is = cc
  flag_found true ZeroOrOne true digit is = at_digit true ZeroOrOne true true 1 digit refl (λ few. refl) is
  flag_found true ZeroOrOne false digit is = at_digit true ZeroOrOne false false 0 digit refl (λ few. refl) is
  flag_found true Many linked digit is = at_digit true Many linked true 0 digit refl (λ few. absurd (few refl)) is
  flag_found false One true digit is = cc
  flag_found false One false digit is = at_digit false One false false 0 digit refl (λ few. refl) is
  flag_found false ZeroOrOne true digit is = cc
  flag_found false ZeroOrOne false digit is = at_digit false ZeroOrOne false false 0 digit refl (λ few. refl) is
  flag_found false Many linked digit is = at_digit false Many linked false 0 digit refl (λ few. absurd (few refl)) is

  -- a digit, where the flag that the links tell is listed
  flag_there : (may : Bool) (mult : Mult) (linked : Bool) → Contains (flags may mult) (flagged a (flag_by may mult linked))
      → (digit : ℕ) × (rule_digit (rule_of may mult) linked ≡ Some digit)
  flag_there true One true has = (0, refl)
  flag_there true One false has = let none : [] ≡ a ∷ [] = only_list (a ∷ []) [] has in cc
  flag_there true ZeroOrOne true has = (1, refl)
  flag_there true ZeroOrOne false has = (0, refl)
  flag_there true Many linked has = (0, refl)
  flag_there false One true has = let none : a ∷ [] ≡ [] = only_list [] (a ∷ []) has in cc
  flag_there false One false has = (0, refl)
  flag_there false ZeroOrOne true has = let none : a ∷ [] ≡ [] = only_list [] (a ∷ []) has in cc
  flag_there false ZeroOrOne false has = (0, refl)
  flag_there false Many linked has = (0, refl)

module _ (basis : Basis) (t : TypeId) where
  pub link_size : (host : Host) → size_of (link_test basis t host) ≡ length (flags_at basis t host)
  link_size host = by (slice_get (model_of basis).assocs host.assoc.index)
    where
      by : (found : Option Assoc)
          → rule_size (option_map_or (λ assoc. rule_of (basis.is_a t (host_end host.first_hosts assoc).ty) (partner_end host.first_hosts assoc).mult) found rule.Unlooked)
          ≡ length (option_map_or (λ assoc. map (flagged host.assoc)
          (flag_values (basis.is_a t (host_end host.first_hosts assoc).ty) (partner_end host.first_hosts assoc).mult)) found ([] ∷ []))
      by None = refl
      by (Some assoc) = rule_sizes host.assoc (basis.is_a t (host_end host.first_hosts assoc).ty) (partner_end host.first_hosts assoc).mult

  module _ (entity : Entity) (links : List Hosted) where
    -- a listed flag that tells whether a link is there
    abbrev pub Telling : Host → List AssocId → Type 0
    Telling host flag = IsFlag basis t host flag × Tells basis t links flag host

    -- the flag at the digit
    pub link_found : (host : Host) (digit : ℕ) → digit_of (link_test basis t host) entity links ≡ Some digit
        → (flag : List AssocId) × At (flags_at basis t host) digit flag × Telling host flag
    link_found host digit is =
        let item = by (slice_get (model_of basis).assocs host.assoc.index) refl is in
        (item.0, item.1, (contains_at (flags_at basis t host) digit item.0 item.1, item.2))
      where
        by : (found : Option Assoc) → slice_get (model_of basis).assocs host.assoc.index ≡ found
            → rule_digit (option_map_or (λ assoc. rule_of (basis.is_a t (host_end host.first_hosts assoc).ty) (partner_end host.first_hosts assoc).mult) found rule.Unlooked)
            (has_link links host.assoc) ≡ Some digit
            → (flag : List AssocId) × At (option_map_or (λ assoc. map (flagged host.assoc)
            (flag_values (basis.is_a t (host_end host.first_hosts assoc).ty) (partner_end host.first_hosts assoc).mult)) found ([] ∷ [])) digit flag
            × Tells basis t links flag host
        by None at is =
            let none : List AssocId = [] in
            let P : ℕ → Type 0 = λ k. At (none ∷ []) k none in
            (none, subst P (same_Some 0 digit is) refl, λ assoc there few. absurd (let never = sym at ∙ there in cc))
        by (Some assoc) at is =
            let found = flag_found host.assoc (basis.is_a t (host_end host.first_hosts assoc).ty) (partner_end host.first_hosts assoc).mult (has_link links host.assoc) digit is in (
              flagged host.assoc found.flag,
              found.here,
              λ other there few.
                  let same : assoc ≡ other = same_Some assoc other (sym at ∙ there) in
                  let told = found.told (subst (λ (one : Assoc). (partner_end host.first_hosts one).mult ≢ Many) (sym same) few) in
                  let link = Decides-link links host.assoc in
                  let flag = Decides-flagged host.assoc found.flag in
                  (λ has. link.0 (sym told ∙ flag.1 has), λ any. flag.0 (told ∙ link.1 any)),
            )

    -- the flags of hosts in order tell their links together
    pub tells_all : (hosts : List Host) (flags : List (List AssocId)) → InOrder hosts → AllZip Telling hosts flags
        → (host : Host) → Contains hosts host → Tells basis t links (flat_map (λ flag. flag) flags) host
    tells_all [] [] order zipped host has = absurd (none_in_nil host has)
    tells_all [] (flag ∷ flags) order zipped host has = absurd zipped
    tells_all (first ∷ hosts) [] order zipped host has = absurd zipped
    tells_all (first ∷ hosts) (flag ∷ flags) order zipped host has =
        let rest : List AssocId = flat_map (λ one. one) flags in
        let are_flags = zip_weaker Telling (IsFlag basis t) (λ one list tells. tells.0) hosts flags zipped.1 in
        let T : Host → Type 0 = λ one. Tells basis t links (flag ++ rest) one in
        ⊎_elim
        (λ (here : host ≡ first). subst T (sym here) (λ assoc there few.
        let told : Contains flag first.assoc ↔ Any (λ hosted. hosted.assoc ≡ first.assoc) links = zipped.0.1 assoc there few in (
          λ stands. ⊎_elim
              (λ (in_flag : Contains flag first.assoc). told.0 in_flag)
              (λ (in_rest : Contains rest first.assoc).
              let found = of_host basis t hosts flags are_flags first.assoc in_rest in absurd (no_later first hosts order found.0 found.1 (sym found.2)))
              (Contains-append_cases flag rest first.assoc stands),
          λ any. Contains-append_left flag rest first.assoc (told.1 any),
        )))
        (λ (later : Contains hosts host) assoc there few.
        let told : Contains rest host.assoc ↔ Any (λ hosted. hosted.assoc ≡ host.assoc) links =
        tells_all hosts flags (pairs_tail (λ (one next : Host). one.assoc.index < next.assoc.index) first hosts order) zipped.1 host later assoc there few in (
          λ stands. ⊎_elim
              (λ (in_flag : Contains flag host.assoc). absurd (no_later first hosts order host later (flag_member basis t first flag zipped.0.0 host.assoc in_flag)))
              (λ (in_rest : Contains rest host.assoc). told.0 in_rest)
              (Contains-append_cases flag rest host.assoc stands),
          λ any. Contains-append_right flag rest host.assoc (told.1 any),
        ))
        (member_cases first hosts host has)

    -- a digit, where the flag that the links tell is listed
    pub link_there : (host : Host) → IsFlag basis t host (flag_in basis t links host) → (digit : ℕ) × (digit_of (link_test basis t host) entity links ≡ Some digit)
    link_there host = by (slice_get (model_of basis).assocs host.assoc.index)
      where
        by : (found : Option Assoc)
            → Contains (option_map_or (λ assoc. map (flagged host.assoc)
            (flag_values (basis.is_a t (host_end host.first_hosts assoc).ty) (partner_end host.first_hosts assoc).mult)) found ([] ∷ []))
            (option_map_or (λ assoc. flagged host.assoc (flag_by (basis.is_a t (host_end host.first_hosts assoc).ty) (partner_end host.first_hosts assoc).mult
            (has_link links host.assoc))) found [])
            → (digit : ℕ) × (rule_digit (option_map_or (λ assoc. rule_of (basis.is_a t (host_end host.first_hosts assoc).ty) (partner_end host.first_hosts assoc).mult) found
            rule.Unlooked) (has_link links host.assoc) ≡ Some digit)
        by None has = (0, refl)
        by (Some assoc) has = flag_there host.assoc (basis.is_a t (host_end host.first_hosts assoc).ty) (partner_end host.first_hosts assoc).mult (has_link links host.assoc) has
