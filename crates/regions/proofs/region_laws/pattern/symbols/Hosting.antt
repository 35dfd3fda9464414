-- Hosts and link fragments, each once; and the pairs of a fragment that write to a table's primary key.
use Rattle.std.proofs.Common.{◌≡◌, ◌≢◌, ◌⊎◌, ⊎_elim, inl, inr, ℕ, ◌<◌, ◌==◌, ◌++◌, List, Bool, true, false, not, Contains, get_or, refl, sym, ap, subst, ◌∙◌, arith}
use Rattle.std.proofs.lemmas.Bool.Decides.{Decides-eqb, Decides-like}
use Rattle.std.proofs.lemmas.List.Elements.{All-contains, Contains-append_left, Contains-append_right}
use Rattle.emc_base.proofs.Lists.{at_once}
use Rattle.emc_base.proofs.Mapped.{contains_map}
use Rattle.emc_base.proofs.Numbered.{map_contains}
use Rattle.round_trip.specs.Words.{SetId, ColId, AssocId, PropId, Assoc, LinkFragment, Pair, At, key_props, key_columns}
use Rattle.round_trip.specs.FailsAt.{IsHostedAt}
use Rattle.round_trip.specs.soundness.models.Constraints.{IsSoundAssoc}
use Rattle.round_trip.specs.soundness.mappings.Joined.{HostsPartner}
use Rattle.round_trip.specs.soundness.Lookups.{set_key}
use Rattle.round_trip.specs.soundness.mappings.Mappings.{IsSoundLinkFragment}
use Rattle.round_trip.specs.soundness.mappings.Owners.{IsPlaced}
use Rattle.schema_laws.specs.state_demand.WellWritten.{cols_of}
use Rattle.schema_laws.proofs.state_demand.writings.Decisions.{so_or_not}
use Rattle.schema_laws.proofs.state_demand.lists.Lists.{any_or_none, same_by_key}
use Rattle.round_trip.proofs.Lookups.{assoc_of}
use Rattle.schema_laws.proofs.state_demand.owners.Owners.{pairs_from_map}
use Rattle.schema_laws.proofs.sound_demand.Fitting.{sound_link}
use Rattle.schema_laws.proofs.sound_demand.owners.Pairing.{end_key, sound_assoc, written_part}
use Rattle.schema_laws.proofs.state_demand.owners.Owning.{ends_apart}
use Rattle.regions.specs.region_laws.IsBasis.{IsBasis, IsHostOf}
use Rattle.regions.specs.Basis.{Basis, Host}
use Rattle.regions.specs.region_laws.pattern.Allowed.{end_at}
use Rattle.regions.proofs.region_laws.pattern.symbols.Origins.{side}

pub col_or_not : (cols : List ColId) (col : ColId) → Contains cols col ⊎ ¬ Contains cols col
col_or_not cols col = ⊎_elim
    (λ (found : (c : ColId) × Contains cols c × (c ≡ col)). inl (subst (Contains cols) found.2 found.1))
    (λ (none : (c : ColId) → Contains cols c → ¬ (c ≡ col)). inr (λ has. none col has refl))
    (any_or_none (λ c. c ≡ col) (λ c. so_or_not (c.index == col.index)
    (Decides-like (c.index == col.index) (λ same k. record { index = same k }) (λ same. ap (λ (one : ColId). one.index) same) (Decides-eqb c.index col.index))) cols)

-- a pair at an end is one of both
pub side_among : (first : Bool) (fragment : LinkFragment) (pair : Pair) → Contains (side first fragment) pair → Contains (fragment.first ++ fragment.second) pair
side_among true fragment pair has = Contains-append_left fragment.first fragment.second pair has
side_among false fragment pair has = Contains-append_right fragment.first fragment.second pair has

module _ (basis : Basis) (is : IsBasis basis) where
  -- a set hosts an association at one end
  pub one_host : (s : SetId) (one other : Host) → Contains (basis.hosts s) one → Contains (basis.hosts s) other → one.assoc ≡ other.assoc → one ≡ other
  one_host s one other has_one has_other same =
      let number : Host → ℕ = λ host. host.assoc.index in
      same_by_key number (basis.hosts s) one other (λ i j d below within alike.
      let less : number (get_or (basis.hosts s) i d) < number (get_or (basis.hosts s) j d) = is.order s i j d below within in
      absurd (omega (arith, less, alike))) has_one has_other (ap (λ (a : AssocId). a.index) same)

  -- an association has one link fragment
  pub one_link : (fragment other : LinkFragment) → Contains basis.schema.mapping.links fragment → Contains basis.schema.mapping.links other → fragment.assoc ≡ other.assoc
      → fragment ≡ other
  one_link fragment other has_one has_other same =
      let key : LinkFragment → AssocId = λ one. one.assoc in
      same_by_key key basis.schema.mapping.links fragment other (pairs_from_map (λ (a b : AssocId). a ≢ b) key basis.schema.mapping.links is.sound.mapping.assocs)
      has_one has_other same

  module _ (fragment : LinkFragment) (mapped : Contains basis.schema.mapping.links fragment) where
    abbrev pub the_assoc : Assoc
    the_assoc = (assoc_of basis.schema is.sound fragment mapped).0

    abbrev pub assoc_here : At basis.schema.model.assocs fragment.assoc.index the_assoc
    assoc_here = (assoc_of basis.schema is.sound fragment mapped).1

    abbrev link_sound : IsSoundLinkFragment basis.schema fragment the_assoc
    link_sound = sound_link basis.schema is.sound fragment mapped the_assoc assoc_here

    -- what is written at an end is a part of the key there
    pub end_prop : (first : Bool) (pair : Pair) → Contains (side first fragment) pair → Contains (key_props basis.schema.model (end_at first the_assoc).ty) pair.prop
    end_prop true pair has = written_part basis.schema is.sound the_assoc.first.ty fragment.first link_sound.first pair has
    end_prop false pair has = written_part basis.schema is.sound the_assoc.second.ty fragment.second link_sound.second pair has

    -- at one end no property stands twice
    pub side_once : (first : Bool) (one other : Pair) → Contains (side first fragment) one → Contains (side first fragment) other → one.prop ≡ other.prop → one ≡ other
    side_once true one other has_one has_other same =
        let key : Pair → PropId = λ pair. pair.prop in
        same_by_key key fragment.first one other (pairs_from_map (λ (a b : PropId). a ≢ b) key fragment.first link_sound.once.first) has_one has_other same
    side_once false one other has_one has_other same =
        let key : Pair → PropId = λ pair. pair.prop in
        same_by_key key fragment.second one other (pairs_from_map (λ (a b : PropId). a ≢ b) key fragment.second link_sound.once.second) has_one has_other same

    -- at both no column does
    pub col_once : (one other : Pair) → Contains (fragment.first ++ fragment.second) one → Contains (fragment.first ++ fragment.second) other → one.col ≡ other.col → one ≡ other
    col_once one other has_one has_other same =
        let key : Pair → ColId = λ pair. pair.col in
        same_by_key key (fragment.first ++ fragment.second) one other
        (pairs_from_map (λ (a b : ColId). a ≢ b) key (fragment.first ++ fragment.second) link_sound.once.cols) has_one has_other same

    -- and so not at both ends
    pub side_alike : (first second : Bool) (one other : Pair) → Contains (side first fragment) one → Contains (side second fragment) other → one.col ≡ other.col → first ≡ second
    side_alike true true one other has_one has_other same = refl
    side_alike true false one other has_one has_other same = absurd (ends_apart fragment.first fragment.second link_sound.once.cols one other has_one has_other same)
    side_alike false true one other has_one has_other same = absurd (ends_apart fragment.first fragment.second link_sound.once.cols other one has_other has_one (sym same))
    side_alike false false one other has_one has_other same = refl

    -- a column of the partner's key, where the links are hosted at the other end
    pub partner_col : (first : Bool) → IsHostedAt basis.schema fragment.table (side first fragment) → (pair : Pair) → Contains (side (not first) fragment) pair
        → HostsPartner basis.schema fragment.table pair.col
    partner_col true hosted pair has = record {
      fragment = fragment;
      is_fragment = mapped;
      to_table = refl;
      partner = inl (hosted, contains_map (λ (one : Pair). one.col) fragment.second pair has);
    }
    partner_col false hosted pair has = record {
      fragment = fragment;
      is_fragment = mapped;
      to_table = refl;
      partner = inr (hosted, contains_map (λ (one : Pair). one.col) fragment.first pair has);
    }

    -- which is none of the primary key
    pub partner_no_key : (first : Bool) → IsHostedAt basis.schema fragment.table (side first fragment) → (pair : Pair) → Contains (side (not first) fragment) pair
        → ¬ Contains (key_columns basis.schema.store fragment.table) pair.col
    partner_no_key first hosted pair has key = by first
        (All-contains (Contains (cols_of (side first fragment))) (key_columns basis.schema.store fragment.table) pair.col hosted.whole key) has
      where
        by : (b : Bool) → Contains (cols_of (side b fragment)) pair.col → Contains (side (not b) fragment) pair → ⊥
        by true own partner = let found = map_contains (λ (one : Pair). one.col) fragment.first pair.col own in
            ends_apart fragment.first fragment.second link_sound.once.cols found.0 pair found.1 partner found.2
        by false own partner = let found = map_contains (λ (one : Pair). one.col) fragment.second pair.col own in
            ends_apart fragment.first fragment.second link_sound.once.cols pair found.0 partner found.1 (sym found.2)

    -- a column at an end is one of the primary key, or hosts a partner's key
    abbrev KeyOrPartner : ColId → Type 0
    KeyOrPartner col = Contains (key_columns basis.schema.store fragment.table) col ⊎ HostsPartner basis.schema fragment.table col

    own_col : (pairs : List Pair) → IsHostedAt basis.schema fragment.table pairs → (pair : Pair) → Contains pairs pair
        → Contains (key_columns basis.schema.store fragment.table) pair.col
    own_col pairs hosted pair has = All-contains (λ (one : Pair). Contains (key_columns basis.schema.store fragment.table) one.col) pairs pair hosted.all has

    pub end_col : (first : Bool) (pair : Pair) → Contains (side first fragment) pair → KeyOrPartner pair.col
    end_col first pair has = by link_sound.placed first has
      where
        by : IsPlaced basis.schema fragment the_assoc → (b : Bool) → Contains (side b fragment) pair → KeyOrPartner pair.col
        by (inl hosted) true there = inl (own_col fragment.first hosted pair there)
        by (inl hosted) false there = inr (partner_col true hosted pair there)
        by (inr (inl hosted)) true there = inr (partner_col false hosted pair there)
        by (inr (inl hosted)) false there = inl (own_col fragment.second hosted pair there)
        by (inr (inr joined)) b there = inl (own_col (fragment.first ++ fragment.second) joined.columns pair (side_among b fragment pair there))

    -- where a set hosts the association
    module _ (s : SetId) (host : Host) (has : Contains (basis.hosts s) host) (of_assoc : fragment.assoc ≡ host.assoc) where
      abbrev host_of : IsHostOf basis.schema s host
      host_of = (is.hosts s host).0 has

      same_fragment : host_of.fragment ≡ fragment
      same_fragment = one_link host_of.fragment fragment host_of.is_fragment mapped (host_of.of_assoc ∙ sym of_assoc)

      same_assoc : host_of.assoc ≡ the_assoc
      same_assoc = let P : AssocId → Type 0 = λ a. At basis.schema.model.assocs a.index the_assoc in
          at_once basis.schema.model.assocs host.assoc.index host_of.assoc the_assoc host_of.is_assoc (subst P of_assoc assoc_here)

      pub hosted_side : IsHostedAt basis.schema fragment.table (side host.first_hosts fragment)
      hosted_side = let P : LinkFragment → Type 0 = λ one. IsHostedAt basis.schema one.table (side host.first_hosts one) in subst P same_fragment host_of.hosted

      pub host_set : (end_at host.first_hosts the_assoc).set ≡ s
      host_set = let P : Assoc → Type 0 = λ one. (end_at host.first_hosts one).set ≡ s in subst P same_assoc host_of.at_set

      -- the key at an end is that of its set
      key_at_end : (first : Bool) → key_props basis.schema.model (end_at first the_assoc).ty ≡ set_key basis.schema.model (end_at first the_assoc).set
      key_at_end first = by first
        where
          ends : IsSoundAssoc basis.schema.model the_assoc
          ends = sound_assoc basis.schema is.sound fragment the_assoc assoc_here

          by : (b : Bool) → key_props basis.schema.model (end_at b the_assoc).ty ≡ set_key basis.schema.model (end_at b the_assoc).set
          by true = end_key basis.schema is.sound the_assoc.first ends.first
          by false = end_key basis.schema is.sound the_assoc.second ends.second

      pub host_key_is : key_props basis.schema.model (end_at host.first_hosts the_assoc).ty ≡ set_key basis.schema.model s
      host_key_is = key_at_end host.first_hosts ∙ ap (set_key basis.schema.model) host_set
