-- A failure of the set by which states have the same tables is told by a conflict.
use Rattle.std.proofs.Common.{◌≡◌, ◌⊎◌, inl, inr, [], List, Contains, sym, ap, subst, ◌∙◌}
use Rattle.round_trip.specs.Words.{SetId, AssocId, Assoc, EntitySet, IsLegal, Link, LinkFragment, Place, State, Tables, Value, At, links_in, place_at}
use Rattle.round_trip.specs.FailsAt.{DifferAt, HasEntityOnly, HasHostedLinkOnly, IsSameAs}
use Rattle.round_trip.specs.declared.FailKind.TheVariants as kind
use Rattle.schema_laws.proofs.kept_states.Links.{link_too}
use Rattle.regions.specs.Basis.{Basis}
use Rattle.regions.specs.region_laws.IsBasis.{IsHostOf}
use Rattle.region_states.specs.conflicts.There.{FailsThere, NoneFailsBy}
use Rattle.conflict_laws.proofs.same.Names.{no_assoc, one_set}
use Rattle.conflict_laws.proofs.same.rows.Rows.{HaveSameTables, turned}
use Rattle.conflict_laws.proofs.same.rows.Together.{HasLinksToo}
use Rattle.conflict_laws.proofs.same.Told.{IsTold, entity_told}
use Rattle.conflict_laws.specs.States.{RivalStates}
use Rattle.conflict_laws.proofs.clash.Clear.{region_clear}

module _ (basis : Basis) (given : RivalStates basis) (agrees : NoneFailsBy basis.schema kind.Disagrees) (s : SetId) where
  -- the other state has each link of a mapped association
  mapped_too : (c d : State) (tables others : Tables) → HaveSameTables basis c d tables others → (fragment : LinkFragment) → Contains basis.schema.mapping.links fragment
      → (assoc : Assoc) → At basis.schema.model.assocs fragment.assoc.index assoc → (link : Link) → Contains (links_in c fragment.assoc) link
      → Contains (links_in d fragment.assoc) link
  mapped_too c d tables others have fragment mapped =
      link_too basis.schema given.clear.given.is_basis.sound agrees c d have.legal_c have.legal_d tables others have.are_c have.are_d have.same fragment mapped

  -- and so each hosted one
  links_too : (c d : State) (tables others : Tables) → HaveSameTables basis c d tables others → HasLinksToo basis s c d
  links_too c d tables others have host hosts link stands =
      let by : IsHostOf basis.schema s host = (given.clear.given.is_basis.hosts s host).0 hosts in
      let In : State → AssocId → Type 0 = λ one a. Contains (links_in one a) link in
      let here : At basis.schema.model.assocs by.fragment.assoc.index by.assoc =
      subst (λ (a : AssocId). At basis.schema.model.assocs a.index by.assoc) (sym by.of_assoc) by.is_assoc in
      subst (In d) by.of_assoc (mapped_too c d tables others have by.fragment by.is_fragment by.assoc here link (subst (In c) (sym by.of_assoc) stands))

  -- an entity that stands in one state alone
  entity_case : (set : EntitySet) → At basis.schema.model.sets s.index set → (c d : State) (tables others : Tables) → HaveSameTables basis c d tables others → (key : List Value)
      → HasEntityOnly basis.schema.model s key c d → IsTold basis s
  entity_case set is_set c d tables others have key (x, stands, keyed, gone) =
      entity_told basis given.clear.given.is_basis s (given.few s) set is_set (region_clear basis given.clear s) c d tables others have x stands
      (links_too c d tables others have) (links_too d c others tables (turned basis c d tables others have)) gone

  -- no link of a mapped association does
  link_case : (c d : State) (tables others : Tables) → HaveSameTables basis c d tables others → (u : SetId) (key : List Value) → HasHostedLinkOnly basis.schema u key c d → ⊥
  link_case c d tables others have u key (fragment, assoc, link, mapped, here, stands, gone, at) =
      gone (mapped_too c d tables others have fragment mapped assoc here link stands)

  module _ (c d : State) (legal : IsLegal basis.schema.model c) (place : Place) (same : IsSameAs basis.schema c d place) (set : EntitySet)
      (is_set : At basis.schema.model.sets s.index set) (key : List Value) (is_place : place ≡ place_at set.name key []) where
    -- the states have the same tables
    have : HaveSameTables basis c d same.tables same.other_tables
    have = record { legal_c = legal; legal_d = same.other_legal; are_c = same.defined; are_d = same.other_defined; same = same.same_tables }

    back : HaveSameTables basis d c same.other_tables same.tables
    back = turned basis c d same.tables same.other_tables have

    -- the place is that of a key of the set, and an entity of the key stands in one state alone
    by_differ : DifferAt basis.schema c d place → IsTold basis s
    by_differ (inr (a, assoc, unmapped, only, at)) =
        absurd (no_assoc basis.schema.model given.clear.given.is_basis.sound.model s a set assoc is_set unmapped.is_assoc (ap (λ (p : Place). p.name) (sym is_place ∙ at)))
    by_differ (inl (u, other, held, here, only, at)) =
        let is_u : u ≡ s = one_set basis.schema.model given.clear.given.is_basis.sound.model u s other set here is_set (ap (λ (p : Place). p.name) (sym at ∙ is_place)) in
        by_only is_u only
      where
        by_only : u ≡ s → HasEntityOnly basis.schema.model u held c d ⊎ HasEntityOnly basis.schema.model u held d c
            ⊎ HasHostedLinkOnly basis.schema u held c d ⊎ HasHostedLinkOnly basis.schema u held d c → IsTold basis s
        by_only is_u (inl entity) =
            entity_case set is_set c d same.tables same.other_tables have held (subst (λ one. HasEntityOnly basis.schema.model one held c d) is_u entity)
        by_only is_u (inr (inl entity)) =
            entity_case set is_set d c same.other_tables same.tables back held (subst (λ one. HasEntityOnly basis.schema.model one held d c) is_u entity)
        by_only is_u (inr (inr (inl link))) = absurd (link_case c d same.tables same.other_tables have u held link)
        by_only is_u (inr (inr (inr link))) = absurd (link_case d c same.other_tables same.tables back u held link)

  -- a failure of the set is told by a conflict
  pub same_told : FailsThere basis s kind.Same → IsTold basis s
  same_told fails =
      let at = fails.fails.1 in
      by_differ fails.c fails.d fails.legal fails.place fails.fails.0 at.0 at.2 at.1 at.3 fails.fails.0.differ
