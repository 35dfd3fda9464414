-- Regions of one set whose cases the rows at a key meet have the same flags: where just one had it, a fragment of links would disagree with one of them.
use Rattle.std.proofs.Common.{◌≡◌, ⊎_elim, inl, inr, ℕ, suc, ◌==◌, List, [], ◌∷◌, map, flat_map, length, Any, Bool, true, false, Contains, Decides, IsTrue, refl, sym, ap, subst, ◌∙◌, arith}
use Rattle.std.specs.Option.{option_map_or}
use Rattle.emc_base.proofs.Lists.{at_once}
use Rattle.emc_base.proofs.facts.Images.{flat_map_agree}
use Rattle.round_trip.specs.Words.{SetId, TableId, ColId, TypeId, Assoc, At, Hosted, LinkFragment, RoundTrips, ShowsLink, Table, Tables, Value}
use Rattle.round_trip.specs.declared.FailKind.TheVariants as kind
use Rattle.cells.specs.Limits.{IsWithinLimits}
use Rattle.schema_laws.proofs.state_demand.lists.Ids.{Decides-assoc}
use Rattle.schema_laws.proofs.state_demand.lists.Lists.{Decides-any}
use Rattle.schema_laws.proofs.state_demand.writings.Decisions.{so_or_not}
use Rattle.regions.specs.declared.region.Region.{Region}
use Rattle.regions.specs.declared.pattern.Focus.TheVariants as focus
use Rattle.regions.specs.declared.pattern.PatternRow.{PatternRow}
use Rattle.regions.specs.Basis.{Basis, Host, host_end, partner_end}
use Rattle.regions.specs.Patterns.{Valuation, pattern_of, writings_of}
use Rattle.regions.specs.Regions.{flagged}
use Rattle.regions.specs.Symbols.{is_linked}
use Rattle.regions.specs.region_laws.Held.{Holding}
use Rattle.regions.specs.region_laws.IsBasis.{IsBasis, IsHostOf}
use Rattle.regions.specs.region_laws.RegionAt.{flag_by, flag_in, has_link}
use Rattle.regions.specs.region_laws.pattern.Allowed.{AllowedFocus, IsAllowed}
use Rattle.regions.specs.region_laws.pattern.Described.{row_for, value_in}
use Rattle.regions.proofs.region_laws.entities.Flags.{flag_is}
use Rattle.regions.proofs.region_laws.entities.Regions.{region_only}
use Rattle.regions.proofs.region_laws.listing.Listed.{set_is}
use Rattle.regions.proofs.region_laws.pattern.symbols.Origins.{linked_decided}
use Rattle.region_states.specs.conflicts.Facts.{shows_link_pattern}
use Rattle.conflict_laws.proofs.Exact.{clear_states}
use Rattle.conflict_laws.proofs.rival.Rows.{row_table}
use Rattle.failure_laws.specs.Facts.{ShowsRow}
use Rattle.failure_laws.proofs.witness.facts.Differing.{Decides-link_row, region_differs_computed}
use Rattle.case_laws.specs.Reading.{DecidesFree}
use Rattle.case_laws.proofs.own.Reading.{IsReading, alike, row_too, values_of}
use Rattle.case_laws.proofs.reading.ReadBack.{flag_told, holds}
use Rattle.case_laws.proofs.reading.RoundTripping.{few, never_disagrees}
use Rattle.case_laws.proofs.reading.Values.{are_allowed}

-- lists of which the images at each place are the same have the same images
map_same : {X Y Z : Type 0} (f : X → Z) (g : Y → Z) (xs : List X) (ys : List Y) → length xs ≡ length ys → ((i : ℕ) (x : X) (y : Y) → At xs i x → At ys i y → f x ≡ g y)
    → map f xs ≡ map g ys
map_same f g [] [] long each = refl
map_same f g [] (y ∷ ys) long each = absurd (omega (arith, long))
map_same f g (x ∷ xs) [] long each = absurd (omega (arith, long))
map_same f g (x ∷ xs) (y ∷ ys) long each = λ k. each 0 x y refl refl k ∷ map_same f g xs ys (omega (arith, long)) (λ i. each (suc i)) k

-- two answers that follow from one another are one
same_answer : (one two : Bool) → (IsTrue one → IsTrue two) → (IsTrue two → IsTrue one) → one ≡ two
same_answer true two there back = sym (there refl)
same_answer false true there back = back refl
same_answer false false there back = refl

module _ (is_free : TableId → ColId → Bool) (basis : Basis) (is : IsBasis basis) (limits : IsWithinLimits basis.schema) (round : RoundTrips basis.schema)
    (decides : DecidesFree basis.schema is_free) (s : SetId) (tables : Tables) (key : List Value) where
  abbrev Reads : Region → Type 0
  Reads = IsReading is_free basis is decides s tables key

  module _ (region : Region) (of : Reads region) where
    abbrev told : Valuation
    told = values_of is_free basis is decides s tables key region of

    allowed : IsAllowed basis region told
    allowed = are_allowed is_free basis is decides s region of.can tables key of.met of.entity of.links of.told

    abbrev focus_told : AllowedFocus basis
    focus_told = record { of = focus.Entity region; is_focus = (s, of.can.listed); values = told; allowed = allowed }

    hosts_here : (host : Host) → Contains (basis.hosts s) host → Contains (basis.hosts region.set) host
    hosts_here host hosts = subst (λ u. Contains (basis.hosts u) host) (sym (set_is basis s region of.can.listed)) hosts

    -- a link fragment shows the pattern's row or doesn't
    Decides-shown : (fragment : LinkFragment) → Contains basis.schema.mapping.links fragment
        → Decides (shows_link_pattern basis (focus.Entity region) fragment) (ShowsRow basis (focus.Entity region) told fragment.table (ShowsLink fragment))
    Decides-shown fragment mapped = Decides-link_row basis is focus_told of.can.clear fragment mapped

    abbrev holding : Holding basis
    holding = record {
      s = s;
      region = region;
      entity = of.entity;
      links = of.links;
      listed = of.can.listed;
      holds = holds is_free basis is decides s region of.can tables key of.met of.are_alone of.entity of.links of.told;
    }

    -- its flags are told by the links
    linked_is : region.linked ≡ flat_map (flag_in basis of.entity.ty of.links) (basis.hosts s)
    linked_is = ap (λ (one : Region). one.linked) (region_only basis is holding)

    -- where the partners are few, by these alone
    flag_of : (host : Host) → Contains (basis.hosts s) host → flag_in basis of.entity.ty of.links host ≡ flagged host.assoc (has_link of.links host.assoc)
    flag_of host hosts =
        let by : IsHostOf basis.schema s host = (is.hosts s host).0 hosts in
        ap (λ found. option_map_or (λ (a : Assoc). flagged host.assoc (flag_by (basis.is_a of.entity.ty (host_end host.first_hosts a).ty) (partner_end host.first_hosts a).mult
        (has_link of.links host.assoc))) found []) by.is_assoc
        ∙ ap (flagged host.assoc) (flag_is (basis.is_a of.entity.ty (host_end host.first_hosts by.assoc).ty) (partner_end host.first_hosts by.assoc).mult (has_link of.links host.assoc)
        (few basis is limits round s host hosts by.assoc by.is_assoc))

    Decides-link : (host : Host) → Decides (has_link of.links host.assoc) (Any (λ hosted. hosted.assoc ≡ host.assoc) of.links)
    Decides-link host = Decides-any (λ (hosted : Hosted). hosted.assoc.index == host.assoc.index) (λ (hosted : Hosted). hosted.assoc ≡ host.assoc)
        (λ hosted. Decides-assoc hosted.assoc host.assoc) of.links

    flag_link : (host : Host) → Contains (basis.hosts s) host → Contains region.linked host.assoc → IsTrue (has_link of.links host.assoc)
    flag_link host hosts linked = (Decides-link host).1
        ((flag_told is_free basis is decides s region of.can tables key of.met of.are_alone of.entity of.links of.told host (hosts_here host hosts)).0 linked)

    link_flag : (host : Host) → Contains (basis.hosts s) host → IsTrue (has_link of.links host.assoc) → Contains region.linked host.assoc
    link_flag host hosts has =
        (flag_told is_free basis is decides s region of.can tables key of.met of.are_alone of.entity of.links of.told host (hosts_here host hosts)).1 ((Decides-link host).0 has)

  module _ (one two : Region) (of_one : Reads one) (of_two : Reads two) where
    -- rows of one table hold the same
    rows_same : (row other : PatternRow) → Contains (pattern_of basis (focus.Entity one)).rows row → Contains (pattern_of basis (focus.Entity two)).rows other
        → row.table ≡ other.table → row_for (told one of_one) row ≡ row_for (told two of_two) other
    rows_same row other has too to =
        let own = row_table basis.schema.store (writings_of basis (focus.Entity one)) row has in
        let its = row_table basis.schema.store (writings_of basis (focus.Entity two)) other too in
        let Here : TableId → Type 0 = λ t. At basis.schema.store.tables t.index own.0 in
        let one_table : own.0 ≡ its.0 = at_once basis.schema.store.tables other.table.index own.0 its.0 (subst Here to own.1) its.1 in
        let long : length row.cells ≡ length other.cells = own.2 ∙ ap (λ (table : Table). length table.cols) one_table ∙ sym its.2 in
        let cells = map_same (value_in (told one of_one)) (value_in (told two of_two)) row.cells other.cells long (λ i cell its_cell at at_its.
        (alike is_free basis is decides s tables key one two of_one of_two).cells row.table (record { index = i }) cell its_cell
        (record { row = row; is_row = has; of_table = refl; is_cell = at }) (record { row = other; is_row = too; of_table = sym to; is_cell = at_its })) in
        λ k. record { cells = cells k }

    -- so a link fragment that shows the one's row shows the other's
    shown_too : (fragment : LinkFragment) → ShowsRow basis (focus.Entity one) (told one of_one) fragment.table (ShowsLink fragment)
        → ShowsRow basis (focus.Entity two) (told two of_two) fragment.table (ShowsLink fragment)
    shown_too fragment so =
        let there = row_too is_free basis is decides s tables key one two of_one of_two fragment.table (so.row, so.is_row, so.of_table) in
        record {
          row = there.0;
          is_row = there.1;
          of_table = there.2;
          shown = subst (ShowsLink fragment) (rows_same so.row there.0 so.is_row there.1 (so.of_table ∙ sym there.2)) so.shown;
        }

    -- and a flag of the one is one of the other
    flag_too : (host : Host) → Contains (basis.hosts s) host → Contains one.linked host.assoc → Contains two.linked host.assoc
    flag_too host hosts linked =
        let by : IsHostOf basis.schema s host = (is.hosts s host).0 hosts in
        let fragment : LinkFragment = by.fragment in
        let clear = clear_states basis is limits (round kind.Clash) in
        let shown : ShowsRow basis (focus.Entity one) (told one of_one) fragment.table (ShowsLink fragment) = ⊎_elim
        (λ (so : ShowsRow basis (focus.Entity one) (told one of_one) fragment.table (ShowsLink fragment)). so)
        (λ (hidden : ¬ ShowsRow basis (focus.Entity one) (told one of_one) fragment.table (ShowsLink fragment)).
        absurd (never_disagrees basis is limits round s one of_one.can.listed fragment.place (region_differs_computed basis clear s one of_one.can.listed fragment.place
        (inr (record {
          fragment = fragment;
          mapped = by.is_fragment;
          at_place = refl;
          host = host;
          hosted = hosts_here one of_one host hosts;
          of_assoc = by.of_assoc;
          values = told one of_one;
          allowed = allowed one of_one;
          one_only = inl (subst (Contains one.linked) (sym by.of_assoc) linked, hidden);
        })))))
        (so_or_not (shows_link_pattern basis (focus.Entity one) fragment) (Decides-shown one of_one fragment by.is_fragment)) in
        ⊎_elim
        (λ (so : Contains two.linked fragment.assoc). subst (Contains two.linked) by.of_assoc so)
        (λ (never : ¬ Contains two.linked fragment.assoc).
        absurd (never_disagrees basis is limits round s two of_two.can.listed fragment.place (region_differs_computed basis clear s two of_two.can.listed fragment.place
        (inr (record {
          fragment = fragment;
          mapped = by.is_fragment;
          at_place = refl;
          host = host;
          hosted = hosts_here two of_two host hosts;
          of_assoc = by.of_assoc;
          values = told two of_two;
          allowed = allowed two of_two;
          one_only = inr (shown_too fragment shown, never);
        })))))
        (so_or_not (is_linked basis two.linked fragment.assoc) (linked_decided basis two.linked fragment.assoc))

    link_too : (host : Host) → Contains (basis.hosts s) host → IsTrue (has_link of_one.links host.assoc) → IsTrue (has_link of_two.links host.assoc)
    link_too host hosts has = flag_link two of_two host hosts (flag_too host hosts (link_flag one of_one host hosts has))

  pub same_flags : (one two : Region) → Reads one → Reads two → one.linked ≡ two.linked
  same_flags one two of_one of_two =
      linked_is one of_one
      ∙ flat_map_agree (flag_in basis of_one.entity.ty of_one.links) (flag_in basis of_two.entity.ty of_two.links) (basis.hosts s)
      (λ host hosts. flag_of one of_one host hosts
      ∙ ap (flagged host.assoc) (same_answer (has_link of_one.links host.assoc) (has_link of_two.links host.assoc) (link_too one two of_one of_two host hosts)
      (link_too two one of_two of_one host hosts))
      ∙ sym (flag_of two of_two host hosts))
      ∙ sym (linked_is two of_two)
