-- The flags of a hosted association rise towards the links of an entity, and flags of several hosts are told apart when they are joined.
use Rattle.std.proofs.Common.{◌≡◌, ◌<◌, ⊎_elim, List, [], ◌∷◌, ◌++◌, map, flat_map, slice_get, AllPairs, Contains, Option, Some, None, Bool, true, false, refl, sym, ap, ◌∙◌}
use Rattle.std.specs.List.{AllZip}
use Rattle.std.specs.Option.{option_map_or}
use Rattle.std.specs.declared.cmp.Ordering.{Ordering}
use Rattle.std.specs.declared.cmp.Ordering.TheVariants.{Equal}
use Rattle.std.specs.Ordering.{ordering_then}
use Rattle.std.proofs.lemmas.Bool.Decides.{Decides-like, same_from_decides}
use Rattle.std.proofs.lemmas.List.Elements.{All-cons, All-nil, Contains-append_cases, Contains-append_left, Contains-append_right}
use Rattle.std.proofs.lemmas.List.Kept.{AllPairs-cons}
use Rattle.emc_base.proofs.Numbered.{all_pairs_map}
use Rattle.round_trip.specs.Words.{TypeId, AssocId, Assoc, Hosted, Mult}
use Rattle.edm_types.specs.declared.model.Mult.TheVariants.{One, ZeroOrOne, Many}
use Rattle.schema_laws.proofs.state_demand.lists.Lists.{head_stands, tail_stands}
use Rattle.regions.specs.Basis.{Basis, Host, host_end, partner_end}
use Rattle.regions.specs.Regions.{flag_values, flagged, flags_at, model_of}
use Rattle.regions.specs.Symbols.{is_linked}
use Rattle.regions.specs.region_laws.RegionAt.{has_link}
use Rattle.regions.proofs.region_laws.lists.Choices.{pairs_tail}
use Rattle.regions.proofs.region_laws.entities.Flags.{Decides-flagged, InOrder, IsFlag, flag_member, no_later, of_host}
use Rattle.regions.proofs.region_laws.pattern.symbols.Origins.{linked_decided}
use Rattle.region_partition.specs.region_search.Standing.{Rises, Stand, all_cmp, flag_cmp, host_cmp}
use Rattle.region_partition.proofs.region_search.Rising.{all_by, pairs_one}

-- false stands before true
stand_flags : (one later linked : Bool) → one ≡ false → later ≡ true → Stand (flag_cmp ZeroOrOne one linked) (flag_cmp ZeroOrOne later linked)
stand_flags true later linked is_one is_later = absurd (let none : ⊥ = cc in none)
stand_flags false false linked is_one is_later = absurd (let none : ⊥ = cc in none)
stand_flags false true true is_one is_later = (λ is. refl, λ is. absurd (let none : ⊥ = cc in none))
stand_flags false true false is_one is_later = (λ is. absurd (let none : ⊥ = cc in none), λ is. refl)

module _ (basis : Basis) (links : List Hosted) where
  -- a flag of a host against the links
  abbrev pub by_host : Host → List AssocId → Ordering
  by_host host flag = host_cmp basis links flag host

  module _ (t : TypeId) where
    pub flags_rise : (host : Host) → Rises (by_host host) (flags_at basis t host)
    flags_rise host = by (slice_get (model_of basis).assocs host.assoc.index)
      where
        told : Option Assoc → List AssocId → Ordering
        told found flag = option_map_or (λ assoc. flag_cmp (partner_end host.first_hosts assoc).mult (is_linked basis flag host.assoc) (has_link links host.assoc)) found Equal

        bits : (assoc : Assoc) (may : Bool) (mult : Mult)
            → AllPairs (λ one later. Stand (flag_cmp mult (is_linked basis (flagged host.assoc one) host.assoc) (has_link links host.assoc))
            (flag_cmp mult (is_linked basis (flagged host.assoc later) host.assoc) (has_link links host.assoc))) (flag_values may mult)
        bits assoc false mult = pairs_one (λ one later. Stand (flag_cmp mult (is_linked basis (flagged host.assoc one) host.assoc) (has_link links host.assoc))
            (flag_cmp mult (is_linked basis (flagged host.assoc later) host.assoc) (has_link links host.assoc))) false
        bits assoc true One = pairs_one (λ one later. Stand (flag_cmp One (is_linked basis (flagged host.assoc one) host.assoc) (has_link links host.assoc))
            (flag_cmp One (is_linked basis (flagged host.assoc later) host.assoc) (has_link links host.assoc))) true
        bits assoc true Many = pairs_one (λ one later. Stand (flag_cmp Many (is_linked basis (flagged host.assoc one) host.assoc) (has_link links host.assoc))
            (flag_cmp Many (is_linked basis (flagged host.assoc later) host.assoc) (has_link links host.assoc))) true
        bits assoc true ZeroOrOne =
            let R : Bool → Bool → Type 0 = λ one later. Stand (flag_cmp ZeroOrOne (is_linked basis (flagged host.assoc one) host.assoc) (has_link links host.assoc))
            (flag_cmp ZeroOrOne (is_linked basis (flagged host.assoc later) host.assoc) (has_link links host.assoc)) in
            let shown : (b : Bool) → is_linked basis (flagged host.assoc b) host.assoc ≡ b = λ b.
            same_from_decides (is_linked basis (flagged host.assoc b) host.assoc) b (linked_decided basis (flagged host.assoc b) host.assoc) (Decides-flagged host.assoc b) in
            AllPairs-cons R false (true ∷ [])
            (All-cons (R false) true [] (stand_flags (is_linked basis (flagged host.assoc false) host.assoc) (is_linked basis (flagged host.assoc true) host.assoc)
            (has_link links host.assoc) (shown false) (shown true)) (All-nil (R false)))
            (pairs_one R true)

        by : (found : Option Assoc) → Rises (told found) (option_map_or (λ assoc. map (flagged host.assoc)
            (flag_values (basis.is_a t (host_end host.first_hosts assoc).ty) (partner_end host.first_hosts assoc).mult)) found ([] ∷ []))
        by None = pairs_one (λ one later. Stand (told None one) (told None later)) []
        by (Some assoc) =
            let may : Bool = basis.is_a t (host_end host.first_hosts assoc).ty in
            let mult : Mult = (partner_end host.first_hosts assoc).mult in
            all_pairs_map (λ one later. Stand (told (Some assoc) one) (told (Some assoc) later)) (flagged host.assoc) (flag_values may mult) (bits assoc may mult)

    -- an association among two lists that are joined, where one of them hasn't it
    in_first : (one two : List AssocId) (a : AssocId) → ¬ Contains two a → is_linked basis (one ++ two) a ≡ is_linked basis one a
    in_first one two a none = same_from_decides (is_linked basis (one ++ two) a) (is_linked basis one a)
        (Decides-like (is_linked basis (one ++ two) a)
        (λ has. ⊎_elim (λ (first : Contains one a). first) (λ (later : Contains two a). absurd (none later)) (Contains-append_cases one two a has))
        (λ has. Contains-append_left one two a has)
        (linked_decided basis (one ++ two) a))
        (linked_decided basis one a)

    in_second : (one two : List AssocId) (a : AssocId) → ¬ Contains one a → is_linked basis (one ++ two) a ≡ is_linked basis two a
    in_second one two a none = same_from_decides (is_linked basis (one ++ two) a) (is_linked basis two a)
        (Decides-like (is_linked basis (one ++ two) a)
        (λ has. ⊎_elim (λ (first : Contains one a). absurd (none first)) (λ (later : Contains two a). later) (Contains-append_cases one two a has))
        (λ has. Contains-append_right one two a has)
        (linked_decided basis (one ++ two) a))
        (linked_decided basis two a)

    abbrev Shows : List AssocId → Host → List AssocId → Type 0
    Shows linked host flag = is_linked basis linked host.assoc ≡ is_linked basis flag host.assoc

    -- what is shown by all later flags is shown when one is put before them
    still_shown : (flag rest : List AssocId) (hosts : List Host) (flags : List (List AssocId)) → ((host : Host) → Contains hosts host → ¬ Contains flag host.assoc)
        → AllZip (Shows rest) hosts flags → AllZip (Shows (flag ++ rest)) hosts flags
    still_shown flag rest [] [] none zipped = tt
    still_shown flag rest [] (one ∷ flags) none zipped = absurd zipped
    still_shown flag rest (host ∷ hosts) [] none zipped = absurd zipped
    still_shown flag rest (host ∷ hosts) (one ∷ flags) none zipped = (
      in_second flag rest host.assoc (none host (head_stands host hosts)) ∙ zipped.0,
      still_shown flag rest hosts flags (λ other has. none other (tail_stands host hosts other has)) zipped.1,
    )

    -- each flag is shown when they are joined
    flags_shown : (hosts : List Host) (flags : List (List AssocId)) → InOrder hosts → AllZip (IsFlag basis t) hosts flags
        → AllZip (Shows (flat_map (λ flag. flag) flags)) hosts flags
    flags_shown [] [] order zipped = tt
    flags_shown [] (flag ∷ flags) order zipped = absurd zipped
    flags_shown (host ∷ hosts) [] order zipped = absurd zipped
    flags_shown (host ∷ hosts) (flag ∷ flags) order zipped =
        let rest : List AssocId = flat_map (λ one. one) flags in (
          in_first flag rest host.assoc (λ later.
              let found = of_host basis t hosts flags zipped.1 host.assoc later in no_later host hosts order found.0 found.1 (sym found.2)),
          still_shown flag rest hosts flags (λ other has first. no_later host hosts order other has (flag_member basis t host flag zipped.0 other.assoc first))
              (flags_shown hosts flags (pairs_tail (λ (one next : Host). one.assoc.index < next.assoc.index) host hosts order) zipped.1),
        )

    shown_cmp : (linked : List AssocId) (hosts : List Host) (flags : List (List AssocId)) → AllZip (Shows linked) hosts flags
        → all_cmp (host_cmp basis links linked) hosts ≡ all_by by_host hosts flags
    shown_cmp linked [] [] zipped = refl
    shown_cmp linked [] (flag ∷ flags) zipped = absurd zipped
    shown_cmp linked (host ∷ hosts) [] zipped = absurd zipped
    shown_cmp linked (host ∷ hosts) (flag ∷ flags) zipped =
        let told : Bool → Ordering = λ b. option_map_or (λ assoc. flag_cmp (partner_end host.first_hosts assoc).mult b (has_link links host.assoc))
        (slice_get (model_of basis).assocs host.assoc.index) Equal in
        let first = ap told zipped.0 in
        let others = shown_cmp linked hosts flags zipped.1 in
        λ k. ordering_then (first k) (others k)

    -- joined flags stand as they stand one by one
    pub flags_cmp : (hosts : List Host) (flags : List (List AssocId)) → InOrder hosts → AllZip (IsFlag basis t) hosts flags
        → all_cmp (host_cmp basis links (flat_map (λ flag. flag) flags)) hosts ≡ all_by by_host hosts flags
    flags_cmp hosts flags order zipped = shown_cmp (flat_map (λ flag. flag) flags) hosts flags (flags_shown hosts flags order zipped)
