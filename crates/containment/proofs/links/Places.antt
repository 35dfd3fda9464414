-- What is found at the links of an association is told by where they stand.
use Rattle.std.proofs.Common.{◌≡◌, ◌&&◌, ◌||◌, ◌==◌, ◌≢◌, ◌⊎◌, ⊎_elim, inl, inr, ℕ, List, [], ◌∷◌, slice_get, Contains, Bool, true, false, true≢false, not, None, Option, Some, if◌then◌else◌, refl, sym, ap, subst, ◌∙◌}
use Rattle.std.specs.List.{enumerate_from, list_any}
use Rattle.std.specs.Option.{option_map_or}
use Rattle.std.proofs.lemmas.Bool.{and_from, and_parts, false_from_ne_true, or_left, or_right}
use Rattle.std.proofs.lemmas.Bool.Decides.{Decides-eqb}
use Rattle.std.proofs.lemmas.List.Elements.{All-contains}
use Rattle.std.proofs.lemmas.List.Folds.{Any-from_list_any, list_any-from_Any, list_any_none}
use Rattle.emc_base.proofs.Lists.{all_from_members, at_once}
use Rattle.emc_base.proofs.Mapped.{contains_at, contains_enumerated}
use Rattle.emc_base.specs.declared.ids.LinkFragId.{LinkFragId}
use Rattle.round_trip.specs.Words.{Assoc, AssocId, At, Constraint, LinkFragment, Mult, SetId, TableId}
use Rattle.table_owners.specs.declared.places.LinkPlace.{LinkPlace}
use Rattle.table_owners.specs.declared.places.LinkPlace.TheVariants as place
use Rattle.table_owners.specs.Places.{IsMappedBy, TellsPlace}
use Rattle.round_trip.specs.FailsAt.{IsUnmapped}
use Rattle.cells.specs.Parts.{AreParts, schema_in}
use Rattle.cells.specs.declared.parts.Parts.{Parts}
use Rattle.schema_laws.proofs.state_demand.lists.Ids.{Decides-assoc}
use Rattle.schema_laws.proofs.state_demand.lists.Lists.{any_of, contains_flat_map, head_stands, member_cases, none_in_nil, of_any}
use Rattle.regions.specs.Basis.{Basis, Host, host_end, partner_end}
use Rattle.region_states.specs.region_basis.BasisOf.{basis_of, host_at, host_by}
use Rattle.region_states.specs.conflicts.Conflicts.{IsTableOf}
use Rattle.region_states.specs.conflicts.Facts.{has_many_at, is_independent, is_many, is_many_links, is_unmapped}
use Rattle.region_states.proofs.joined_laws.Told.{joined_told, told_joined}
use Rattle.containment.proofs.Hosting.{by_place, by_told}

-- one of two, where either is so
or_cases : (one two : Bool) → (one || two) ≡ true → (one ≡ true) ⊎ (two ≡ true)
or_cases true two is = inl refl
or_cases false two is = inr is

-- no constraint is there, where none is told
none_if : (constraint : Option Constraint) → option_map_or (λ one. false) constraint true ≡ true → constraint ≡ None
none_if None is = refl
none_if (Some one) is = absurd (true≢false (sym is))

-- one host alone is told by a place
only_host : (first_hosts b : Bool) (a : AssocId) (host : Host) → Contains (if b then record { assoc = a; first_hosts = first_hosts } ∷ [] else []) host
    → host ≡ record { assoc = a; first_hosts = first_hosts }
only_host first_hosts true a host has =
    let one : Host = record { assoc = a; first_hosts = first_hosts } in
    ⊎_elim (λ (here : host ≡ one). here) (λ (none : Contains [] host). absurd (none_in_nil host none)) (member_cases one [] host has)
only_host first_hosts false a host has = absurd (none_in_nil host has)

module _ (parts : Parts) (are : AreParts parts) (a : AssocId) (assoc : Assoc) (here : At (schema_in parts).model.assocs a.index assoc)
    (told : LinkPlace) (at : At parts.cells.now.places a.index told) where
  abbrev basis : Basis
  basis = basis_of parts

  abbrev many_by : Host → Bool
  many_by host = (host.assoc.index == a.index) && is_many (partner_end host.first_hosts assoc).mult

  of_assoc : (made : Assoc → Bool) → option_map_or made (slice_get (schema_in parts).model.assocs a.index) false ≡ made assoc
  of_assoc made = ap (λ found. option_map_or made found false) here

  -- a host with partners of any number is told by the place
  many_at : (s : SetId) → has_many_at basis a assoc s ≡ true → (first_hosts : Bool) × (number : LinkFragId) × (told ≡ place.Hosted first_hosts number)
      × (is_many (partner_end first_hosts assoc).mult ≡ true)
  many_at s is =
      let found = of_any (λ host. many_by host ≡ true) (basis.hosts s) (Any-from_list_any many_by (basis.hosts s) is) in
      let host : Host = found.0 in
      let both = and_parts (host.assoc.index == a.index) (is_many (partner_end host.first_hosts assoc).mult) found.2 in
      let by = by_place (schema_in parts).model parts.cells.now.places s a host found.1 ((Decides-assoc host.assoc a).0 both.0) in
      let P : Assoc → Type 0 = λ one. Contains (host_at parts.cells.now.places s (a.index, one)) host in
      let there : Contains (host_at parts.cells.now.places s (a.index, assoc)) host = subst P (at_once (schema_in parts).model.assocs a.index by.0 assoc by.1 here) by.2 in
      by_told_place told refl (subst (λ list. Contains list host) (by_told (schema_in parts).model parts.cells.now.places s a assoc here told at) there) both.1
    where
      by_told_place : (one : LinkPlace) → told ≡ one → {host : Host} → Contains (host_by s a assoc one) host → is_many (partner_end host.first_hosts assoc).mult ≡ true
          → (first_hosts : Bool) × (number : LinkFragId) × (told ≡ place.Hosted first_hosts number) × (is_many (partner_end first_hosts assoc).mult ≡ true)
      by_told_place (place.Hosted first_hosts number) is_told {host} has many =
          let is_host = only_host first_hosts ((host_end first_hosts assoc).set.index == s.index) a host has in
          (first_hosts, number, is_told, subst (λ (one : Host). is_many (partner_end one.first_hosts assoc).mult ≡ true) is_host many)
      by_told_place (place.Joined number) is_told {host} has many = absurd (none_in_nil host has)
      by_told_place place.Unmapped is_told {host} has many = absurd (none_in_nil host has)
      by_told_place place.Constraint is_told {host} has many = absurd (none_in_nil host has)

  -- so it is where any number of partners is told of the association
  pub many_only : is_many_links basis a ≡ true → (first_hosts : Bool) × (number : LinkFragId) × (told ≡ place.Hosted first_hosts number)
      × (is_many (partner_end first_hosts assoc).mult ≡ true)
  many_only is = ⊎_elim (many_at assoc.first.set) (many_at assoc.second.set)
      (or_cases (has_many_at basis a assoc assoc.first.set) (has_many_at basis a assoc assoc.second.set)
      (sym (of_assoc (λ one. has_many_at basis a one one.first.set || has_many_at basis a one one.second.set)) ∙ is))

  -- and where such a host is told, so it is
  pub many_told : (first_hosts : Bool) (number : LinkFragId) → told ≡ place.Hosted first_hosts number → is_many (partner_end first_hosts assoc).mult ≡ true → is_many_links basis a ≡ true
  many_told first_hosts number is many =
      of_assoc (λ one. has_many_at basis a one one.first.set || has_many_at basis a one one.second.set) ∙ by first_hosts is many
    where
      at_set : (first_hosts : Bool) → told ≡ place.Hosted first_hosts number → is_many (partner_end first_hosts assoc).mult ≡ true
          → has_many_at basis a assoc (host_end first_hosts assoc).set ≡ true
      at_set first_hosts is many =
          let s : SetId = (host_end first_hosts assoc).set in
          let host : Host = record { assoc = a; first_hosts = first_hosts } in
          let is_there : Contains (host_by s a assoc (place.Hosted first_hosts number)) host =
          subst (λ b. Contains (if b then host ∷ [] else []) host) (sym ((Decides-eqb s.index s.index).1 refl)) (head_stands host []) in
          let there : Contains (host_at parts.cells.now.places s (a.index, assoc)) host =
          subst (λ list. Contains list host) (sym (by_told (schema_in parts).model parts.cells.now.places s a assoc here told at ∙ ap (host_by s a assoc) is)) is_there in
          let among : Contains (basis.hosts s) host =
          contains_flat_map (host_at parts.cells.now.places s) (enumerate_from 0 (schema_in parts).model.assocs) (a.index, assoc) host
          (contains_enumerated (schema_in parts).model.assocs a.index assoc here) there in
          list_any-from_Any many_by (basis.hosts s) (any_of (λ one. many_by one ≡ true) (basis.hosts s) host among
          (and_from (host.assoc.index == a.index) (is_many (partner_end first_hosts assoc).mult) ((Decides-assoc a a).1 refl) many))

      by : (first_hosts : Bool) → told ≡ place.Hosted first_hosts number → is_many (partner_end first_hosts assoc).mult ≡ true
          → (has_many_at basis a assoc assoc.first.set || has_many_at basis a assoc assoc.second.set) ≡ true
      by true is many = or_left (has_many_at basis a assoc assoc.first.set) (has_many_at basis a assoc assoc.second.set) (at_set true is many)
      by false is many = or_right (has_many_at basis a assoc assoc.first.set) (has_many_at basis a assoc assoc.second.set) (at_set false is many)

  -- what is told by the place is so
  tells : TellsPlace (schema_in parts) a assoc told
  tells = are.cells.places.each a assoc told here at

  abbrev maps : LinkFragment → Bool
  maps fragment = fragment.assoc.index == a.index

  -- no fragment maps it where that is told
  pub unmapped_told : told ≡ place.Unmapped → is_unmapped basis a ≡ true
  unmapped_told is =
      let so : IsUnmapped (schema_in parts) a assoc = subst (TellsPlace (schema_in parts) a assoc) is tells in
      let none : list_any maps (schema_in parts).mapping.links ≡ false = list_any_none maps (schema_in parts).mapping.links (all_from_members (λ fragment. maps fragment ≡ false)
      (schema_in parts).mapping.links (λ fragment has. false_from_ne_true (maps fragment) (λ same.
      All-contains (λ (one : LinkFragment). one.assoc ≢ a) (schema_in parts).mapping.links fragment so.unmapped has ((Decides-assoc fragment.assoc a).0 same)))) in
      of_assoc (λ one. is_independent one && not (list_any maps (schema_in parts).mapping.links))
      ∙ and_from (is_independent assoc) (not (list_any maps (schema_in parts).mapping.links)) (ap (λ found. option_map_or (λ constraint. false) found true) so.independent)
      (ap not none)

  -- and where none does, that is told
  pub unmapped_only : is_unmapped basis a ≡ true → told ≡ place.Unmapped
  unmapped_only is = by told refl tells
    where
      both : (is_independent assoc ≡ true) × (not (list_any maps (schema_in parts).mapping.links) ≡ true)
      both = and_parts (is_independent assoc) (not (list_any maps (schema_in parts).mapping.links))
          (sym (of_assoc (λ one. is_independent one && not (list_any maps (schema_in parts).mapping.links))) ∙ is)

      mapped : (number : LinkFragId) (fragment : LinkFragment) → IsMappedBy (schema_in parts) a assoc number fragment → ⊥
      mapped number fragment by =
          let one : list_any maps (schema_in parts).mapping.links ≡ true = list_any-from_Any maps (schema_in parts).mapping.links
          (any_of (λ other. maps other ≡ true) (schema_in parts).mapping.links fragment (contains_at (schema_in parts).mapping.links number.index fragment by.is_fragment)
          ((Decides-assoc fragment.assoc a).1 by.of_assoc)) in
          true≢false (sym both.1 ∙ ap not one)

      by : (one : LinkPlace) → told ≡ one → TellsPlace (schema_in parts) a assoc one → told ≡ place.Unmapped
      by (place.Hosted first_hosts number) is_told (fragment, is_mapped, hosted) = absurd (mapped number fragment is_mapped)
      by (place.Joined number) is_told (fragment, is_mapped, apart) = absurd (mapped number fragment is_mapped)
      by place.Unmapped is_told so = is_told
      by place.Constraint is_told constrained = absurd (constrained (none_if assoc.constraint both.0))

  -- a table is its own exactly where it is told as joined
  pub joined_only : (t : TableId) → IsTableOf basis a t → (number : LinkFragId) × (told ≡ place.Joined number)
  joined_only t of_table =
      let found = joined_told (schema_in parts) are.sound parts.cells.now.places are.cells.places t of_table.fragment of_table.assoc of_table.joined in
      let P : AssocId → Type 0 = λ b. At parts.cells.now.places b.index (place.Joined found.0) in
      (found.0, at_once parts.cells.now.places a.index told (place.Joined found.0) at (subst P of_table.of_assoc found.1))

  pub joined_table : (number : LinkFragId) → told ≡ place.Joined number → (t : TableId) × IsTableOf basis a t
  joined_table number is =
      let found = told_joined (schema_in parts) are.sound parts.cells.now.places are.cells.places a number (subst (At parts.cells.now.places a.index) is at) in
      (found.0, record { fragment = found.1; assoc = found.2; joined = found.3; of_assoc = found.4 })
