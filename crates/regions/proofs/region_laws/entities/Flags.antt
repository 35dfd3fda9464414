-- Flags: a list of at most one association for each host, and what tells them.
use Rattle.std.proofs.Common.{◌≡◌, ◌≢◌, ◌↔◌, ⊎_elim, ◌<◌, List, [], ◌∷◌, ◌++◌, map, flat_map, slice_get, Any, AllPairs, Contains, Option, Some, None, Bool, true, false, true≢false, ◌==◌, Decides, refl, sym, ap, subst, ◌∙◌, arith}
use Rattle.std.specs.List.{AllZip}
use Rattle.std.specs.Option.{option_map_or}
use Rattle.std.proofs.lemmas.Bool.Decides.{Decides-like, same_from_decides}
use Rattle.std.proofs.lemmas.List.Elements.{All-contains, Contains-append_cases, Contains-append_left, Contains-append_right}
use Rattle.emc_base.proofs.Mapped.{contains_map}
use Rattle.emc_base.proofs.Numbered.{map_contains}
use Rattle.round_trip.specs.Words.{TypeId, AssocId, Assoc, Hosted, Mult, At}
use Rattle.edm_types.specs.declared.model.Mult.TheVariants.{One, ZeroOrOne, Many}
use Rattle.schema_laws.proofs.state_demand.lists.Lists.{Decides-any, head_stands, member_cases, none_in_nil, tail_stands}
use Rattle.regions.specs.Basis.{Basis, Host, host_end, partner_end}
use Rattle.regions.specs.Regions.{flag_values, flagged, flags_at, model_of}
use Rattle.regions.specs.region_laws.RegionAt.{flag_by, flag_in, has_link}
use Rattle.regions.proofs.region_laws.lists.Choices.{pairs_head, pairs_tail}
use Rattle.schema_laws.proofs.state_demand.lists.Ids.{Decides-assoc}

abbrev is_many : Mult → Bool
is_many One = false
is_many ZeroOrOne = false
is_many Many = true

pub one_few : One ≢ Many
one_few same = true≢false (sym (ap is_many same))

pub optional_few : ZeroOrOne ≢ Many
optional_few same = true≢false (sym (ap is_many same))

-- where the partners are few the flag is whether a link is there
pub flag_is : (may : Bool) (mult : Mult) (linked : Bool) → mult ≢ Many → flag_by may mult linked ≡ linked
flag_is may One linked few = refl
flag_is may ZeroOrOne linked few = refl
flag_is may Many linked few = absurd (few refl)

only_flag : (b flag : Bool) → Contains (flag ∷ []) b → b ≡ flag
only_flag b flag has = ⊎_elim (λ (here : b ≡ flag). here) (λ (none : Contains [] b). absurd (none_in_nil b none)) (member_cases flag [] b has)

-- a listed flag is the one that the links tell
bit_is : (may : Bool) (mult : Mult) (b linked : Bool) → Contains (flag_values may mult) b → (mult ≢ Many → b ≡ linked) → b ≡ flag_by may mult linked
bit_is may One b linked has told = told one_few
bit_is may ZeroOrOne b linked has told = told optional_few
bit_is true Many b linked has told = only_flag b true has
bit_is false Many b linked has told = only_flag b false has

-- and this one is listed, where there is no link that may not be, and none is missing
pub bit_there : (may : Bool) (mult : Mult) (linked : Bool) → (may ≡ false → mult ≢ Many → linked ≡ false) → (may ≡ true → mult ≡ One → linked ≡ true)
    → Contains (flag_values may mult) (flag_by may mult linked)
bit_there true One linked barred needed = subst (Contains (true ∷ [])) (sym (needed refl refl)) (head_stands true [])
bit_there false One linked barred needed = subst (Contains (false ∷ [])) (sym (barred refl one_few)) (head_stands false [])
bit_there true ZeroOrOne true barred needed = tail_stands false (true ∷ []) true (head_stands true [])
bit_there true ZeroOrOne false barred needed = head_stands false (true ∷ [])
bit_there false ZeroOrOne linked barred needed = subst (Contains (false ∷ [])) (sym (barred refl optional_few)) (head_stands false [])
bit_there true Many linked barred needed = head_stands true []
bit_there false Many linked barred needed = head_stands false []

-- a flag has its association just where it is true
pub Decides-flagged : (a : AssocId) (b : Bool) → Decides b (Contains (flagged a b) a)
Decides-flagged a true = (λ told. head_stands a [], λ has. refl)
Decides-flagged a false = (λ told. absurd (true≢false (sym told)), λ has. absurd (none_in_nil a has))

pub flagged_only : (a : AssocId) (b : Bool) (other : AssocId) → Contains (flagged a b) other → other ≡ a
flagged_only a true other has = ⊎_elim (λ (here : other ≡ a). here) (λ (none : Contains [] other). absurd (none_in_nil other none)) (member_cases a [] other has)
flagged_only a false other has = absurd (none_in_nil other has)

-- one of the links is of the association
pub Decides-link : (links : List Hosted) (a : AssocId) → Decides (has_link links a) (Any (λ hosted. hosted.assoc ≡ a) links)
Decides-link links a = Decides-any (λ (hosted : Hosted). hosted.assoc.index == a.index) (λ (hosted : Hosted). hosted.assoc ≡ a) (λ hosted. Decides-assoc hosted.assoc a) links

-- associations are in order
abbrev pub InOrder : List Host → Type 0
InOrder hosts = AllPairs (λ (one next : Host). one.assoc.index < next.assoc.index) hosts

-- a host comes before no host of the same association
pub no_later : (host : Host) (hosts : List Host) → InOrder (host ∷ hosts) → (other : Host) → Contains hosts other → other.assoc ≡ host.assoc → ⊥
no_later host hosts order other has same =
    let less : host.assoc.index < other.assoc.index = All-contains (λ (next : Host). host.assoc.index < next.assoc.index) hosts other
    (pairs_head (λ (one next : Host). one.assoc.index < next.assoc.index) host hosts order) has in
    let equal : other.assoc.index ≡ host.assoc.index = ap (λ (a : AssocId). a.index) same in
    absurd (omega (arith, less, equal))

-- hosts of one association are one
pub one_host : (hosts : List Host) → InOrder hosts → (one two : Host) → Contains hosts one → Contains hosts two → one.assoc ≡ two.assoc → one ≡ two
one_host [] order one two has_one has_two same = absurd (none_in_nil one has_one)
one_host (host ∷ hosts) order one two has_one has_two same = ⊎_elim
    (λ (one_here : one ≡ host). ⊎_elim
    (λ (two_here : two ≡ host). one_here ∙ sym two_here)
    (λ (two_later : Contains hosts two). absurd (no_later host hosts order two two_later (sym same ∙ ap (λ (h : Host). h.assoc) one_here)))
    (member_cases host hosts two has_two))
    (λ (one_later : Contains hosts one). ⊎_elim
    (λ (two_here : two ≡ host). absurd (no_later host hosts order one one_later (same ∙ ap (λ (h : Host). h.assoc) two_here)))
    (λ (two_later : Contains hosts two). one_host hosts (pairs_tail (λ (a next : Host). a.assoc.index < next.assoc.index) host hosts order) one two one_later two_later same)
    (member_cases host hosts two has_two))
    (member_cases host hosts one has_one)

module _ (basis : Basis) (t : TypeId) where
  abbrev pub IsFlag : Host → List AssocId → Type 0
  IsFlag host flag = Contains (flags_at basis t host) flag

  -- a flag holds no other association
  pub flag_member : (host : Host) (flag : List AssocId) → IsFlag host flag → (a : AssocId) → Contains flag a → a ≡ host.assoc
  flag_member host flag = by (slice_get (model_of basis).assocs host.assoc.index)
    where
      by : (found : Option Assoc) → Contains (option_map_or (λ assoc. map (flagged host.assoc)
          (flag_values (basis.is_a t (host_end host.first_hosts assoc).ty) (partner_end host.first_hosts assoc).mult)) found ([] ∷ [])) flag
          → (a : AssocId) → Contains flag a → a ≡ host.assoc
      by None is a has = ⊎_elim
          (λ (here : flag ≡ []). absurd (none_in_nil a (subst (λ xs. Contains xs a) here has)))
          (λ (none : Contains [] flag). absurd (none_in_nil flag none))
          (member_cases [] [] flag is)
      by (Some assoc) is a has =
          let found = map_contains (flagged host.assoc) (flag_values (basis.is_a t (host_end host.first_hosts assoc).ty) (partner_end host.first_hosts assoc).mult) flag is in
          flagged_only host.assoc found.0 a (subst (λ xs. Contains xs a) (sym found.2) has)

  -- what stands among flags is the association of a host
  pub of_host : (hosts : List Host) (flags : List (List AssocId)) → AllZip IsFlag hosts flags → (a : AssocId) → Contains (flat_map (λ flag. flag) flags) a
      → (host : Host) × Contains hosts host × (a ≡ host.assoc)
  of_host [] [] zipped a has = absurd (none_in_nil a has)
  of_host [] (flag ∷ flags) zipped a has = absurd zipped
  of_host (host ∷ hosts) [] zipped a has = absurd zipped
  of_host (host ∷ hosts) (flag ∷ flags) zipped a has = ⊎_elim
      (λ (here : Contains flag a). (host, head_stands host hosts, flag_member host flag zipped.0 a here))
      (λ (later : Contains (flat_map (λ one. one) flags) a).
      let found = of_host hosts flags zipped.1 a later in (found.0, tail_stands host hosts found.0 found.1, found.2))
      (Contains-append_cases flag (flat_map (λ one. one) flags) a has)

  module _ (links : List Hosted) where
    -- where the partners are few, the association is among these just where a link is there
    abbrev pub Tells : List AssocId → Host → Type 0
    Tells linked host = (assoc : Assoc) → At (model_of basis).assocs host.assoc.index assoc → (partner_end host.first_hosts assoc).mult ≢ Many
        → Contains linked host.assoc ↔ Any (λ hosted. hosted.assoc ≡ host.assoc) links

    flag_told : (host : Host) (flag : List AssocId) → IsFlag host flag → Tells flag host → flag ≡ flag_in basis t links host
    flag_told host flag = by (slice_get (model_of basis).assocs host.assoc.index) refl
      where
        by : (found : Option Assoc) → slice_get (model_of basis).assocs host.assoc.index ≡ found → Contains (option_map_or (λ assoc. map (flagged host.assoc)
            (flag_values (basis.is_a t (host_end host.first_hosts assoc).ty) (partner_end host.first_hosts assoc).mult)) found ([] ∷ [])) flag → Tells flag host
            → flag ≡ option_map_or (λ assoc. flagged host.assoc (flag_by (basis.is_a t (host_end host.first_hosts assoc).ty) (partner_end host.first_hosts assoc).mult
            (has_link links host.assoc))) found []
        by None here is tells = ⊎_elim (λ (same : flag ≡ []). same) (λ (none : Contains [] flag). absurd (none_in_nil flag none)) (member_cases [] [] flag is)
        by (Some assoc) here is tells =
            let may : Bool = basis.is_a t (host_end host.first_hosts assoc).ty in
            let mult : Mult = (partner_end host.first_hosts assoc).mult in
            let found = map_contains (flagged host.assoc) (flag_values may mult) flag is in
            let b : Bool = found.0 in
            let bit : b ≡ flag_by may mult (has_link links host.assoc) = bit_is may mult b (has_link links host.assoc) found.1 (λ few.
            let told : Contains flag host.assoc ↔ Any (λ hosted. hosted.assoc ≡ host.assoc) links = tells assoc here few in
            let P : List AssocId → Type 0 = λ xs. Contains xs host.assoc in
            same_from_decides b (has_link links host.assoc)
            (Decides-like b (λ (has : Contains (flagged host.assoc b) host.assoc). told.0 (subst P found.2 has))
            (λ any. subst P (sym found.2) (told.1 any)) (Decides-flagged host.assoc b))
            (Decides-link links host.assoc)) in
            sym found.2 ∙ ap (flagged host.assoc) bit

    -- flags of hosts in order are told by the links
    pub flags_told : (hosts : List Host) (flags : List (List AssocId)) → InOrder hosts → AllZip IsFlag hosts flags
        → ((host : Host) → Contains hosts host → Tells (flat_map (λ flag. flag) flags) host) → flags ≡ map (flag_in basis t links) hosts
    flags_told [] [] order zipped tells = refl
    flags_told [] (flag ∷ flags) order zipped tells = absurd zipped
    flags_told (host ∷ hosts) [] order zipped tells = absurd zipped
    flags_told (host ∷ hosts) (flag ∷ flags) order zipped tells =
        let rest : List AssocId = flat_map (λ one. one) flags in
        let first : flag ≡ flag_in basis t links host = flag_told host flag zipped.0 (λ assoc here few.
        let told : Contains (flag ++ rest) host.assoc ↔ Any (λ hosted. hosted.assoc ≡ host.assoc) links = tells host (head_stands host hosts) assoc here few in (
          (λ has. told.0 (Contains-append_left flag rest host.assoc has)),
          (λ any. ⊎_elim
              (λ (has : Contains flag host.assoc). has)
              (λ (later : Contains rest host.assoc).
              let found = of_host hosts flags zipped.1 host.assoc later in absurd (no_later host hosts order found.0 found.1 (sym found.2)))
              (Contains-append_cases flag rest host.assoc (told.1 any))),
        )) in
        let others : flags ≡ map (flag_in basis t links) hosts =
        flags_told hosts flags (pairs_tail (λ (one next : Host). one.assoc.index < next.assoc.index) host hosts order) zipped.1 (λ other has assoc here few.
        let told : Contains (flag ++ rest) other.assoc ↔ Any (λ hosted. hosted.assoc ≡ other.assoc) links = tells other (tail_stands host hosts other has) assoc here few in (
          (λ later. told.0 (Contains-append_right flag rest other.assoc later)),
          (λ any. ⊎_elim
              (λ (first : Contains flag other.assoc). absurd (no_later host hosts order other has (flag_member host flag zipped.0 other.assoc first)))
              (λ (later : Contains rest other.assoc). later)
              (Contains-append_cases flag rest other.assoc (told.1 any))),
        )) in
        λ k. first k ∷ others k

  -- flags of hosts in order are told by their join
  pub flags_same : (hosts : List Host) (one two : List (List AssocId)) → InOrder hosts → AllZip IsFlag hosts one → AllZip IsFlag hosts two
      → flat_map (λ flag. flag) one ≡ flat_map (λ flag. flag) two → one ≡ two
  flags_same hosts one two order zip_one zip_two same =
      let linked : List AssocId = flat_map (λ flag. flag) one in
      let as_link : AssocId → Hosted = λ a. record { assoc = a; partner = [] } in
      let links : List Hosted = map as_link linked in
      let tells : (host : Host) → Tells links linked host = λ host assoc here few. (
        (λ has. let link = contains_map as_link linked host.assoc has in (link.0, as_link host.assoc, link.1, link.2, refl)),
        (λ any.
            let found = map_contains as_link linked any.1 (any.0, any.2, any.3) in
            subst (Contains linked) (ap (λ (hosted : Hosted). hosted.assoc) found.2 ∙ any.4) found.1),
      ) in
      flags_told links hosts one order zip_one (λ host has. tells host)
      ∙ sym (flags_told links hosts two order zip_two (λ host has. subst (λ xs. Tells links xs host) same (tells host)))
