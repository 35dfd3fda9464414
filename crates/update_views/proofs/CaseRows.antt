-- The rows of an entity are those of the case of its region, and the row of a link is that of its association's case, with the shown values filled in.
use Rattle.std.proofs.Common.{◌≡◌, ◌+◌, All, ℕ, suc, List, [], ◌∷◌, map, Bool, true, false, true≢false, Contains, Some, if◌then◌else◌, refl, sym, ap, subst, ◌∙◌, arith}
use Rattle.std.specs.List.{AllZip, enumerate_from}
use Rattle.std.proofs.lemmas.List.Elements.{All-contains, All-head}
use Rattle.emc_base.proofs.Lists.{only_stands}
use Rattle.emc_base.proofs.Mapped.{contains_at}
use Rattle.round_trip.specs.Words.{SetId, TableId, ColId, AssocId, PropId, Value, Null, Assoc, At, Entity, Hosted, IsLegal, Link, LinkFragment, RoundTrips, State, key_props, links_in, value_beside}
use Rattle.round_trip.specs.declared.FailKind.TheVariants as kind
use Rattle.cells.specs.Limits.{IsWithinLimits}
use Rattle.table_files.specs.declared.tables.TableRow.{TableRow}
use Rattle.schema_laws.specs.state_demand.Owners.{IsJoinedTo}
use Rattle.schema_laws.proofs.state_demand.lists.Lists.{head_stands, tail_stands}
use Rattle.regions.specs.declared.region.Region.{Region}
use Rattle.regions.specs.declared.pattern.Focus.TheVariants as focus
use Rattle.regions.specs.declared.pattern.PatternRow.{PatternRow}
use Rattle.regions.specs.declared.pattern.Symbol.{Symbol}
use Rattle.regions.specs.declared.pattern.Symbol.TheVariants as symbol
use Rattle.regions.specs.Basis.{Basis, partner_end}
use Rattle.regions.specs.Patterns.{Valuation, by_entity, by_link, pattern_of, value_under}
use Rattle.regions.specs.Settled.{Settled, free, has_clash, known, settle}
use Rattle.regions.specs.region_laws.IsBasis.{IsBasis}
use Rattle.regions.specs.region_laws.pattern.Allowed.{AllowedFocus, ArePartners, HasFewPartners, end_at, partner_parts}
use Rattle.regions.specs.region_laws.pattern.Described.{value_in}
use Rattle.regions.specs.region_laws.pattern.Listed.{PatternCell}
use Rattle.regions.proofs.region_laws.listing.Listed.{set_is}
use Rattle.regions.proofs.region_laws.pattern.Laws.{cell_free, cell_known}
use Rattle.regions.proofs.region_laws.pattern.values.Allowed.{link_allowed, partners_told, region_allowed}
use Rattle.population.specs.Supported.{end_key}
use Rattle.failure_laws.proofs.links.LinkRows.{row_clear}
use Rattle.case_laws.specs.declared.region_cases.case.CaseCell.TheVariants as cell
use Rattle.case_laws.specs.declared.region_cases.link_case.LinkCaseCell.TheVariants as link_cell
use Rattle.case_laws.specs.filled_rows.Demanded.{IsHeldWith}
use Rattle.case_laws.specs.filled_rows.Filled.{entity_rows, link_rows, table_row}
use Rattle.case_laws.specs.region_cases.Cases.{by_settled, case_cell, case_of, case_row}
use Rattle.case_laws.specs.declared.region_cases.link_case.LinkCase.{LinkCase}
use Rattle.case_laws.specs.region_cases.Links.{end_by_settled, link_case_of, link_cell as cell_of_link}
use Rattle.case_laws.specs.Reading.{DecidesFree}
use Rattle.case_laws.specs.Told.{IsReadable}
use Rattle.case_laws.proofs.candidate_laws.JoinedCells.{is_case, the_case}
use Rattle.case_laws.proofs.reading.RoundTripping.{few, readable}
use Rattle.case_laws.proofs.shown.Links.{partners_end}
use Rattle.case_laws.proofs.shown.Settling.{focus_bound, listed_bound}
use Rattle.region_states.proofs.joined_laws.OneRow.{joined_row}
use Rattle.region_states.specs.conflicts.Conflicts.{IsTableOf}
use Rattle.update_views.specs.Views.{AreViewsOf, joined_row as view_row, local_rows}
use Rattle.update_views.specs.declared.views.UpdateViews.{UpdateViews}
use Rattle.update_views.specs.CaseRows.{AreFilledRows, IsFilled, IsFilledEnd, IsFilledLink, IsFilledRow}

-- images of one list side by side
zip_images : {X Y Z : Type 0} (R : Y → Z → Type 0) (f : X → Y) (g : X → Z) (xs : List X) → ((x : X) → Contains xs x → R (f x) (g x)) → AllZip R (map f xs) (map g xs)
zip_images R f g [] each = tt
zip_images R f g (x ∷ xs) each = (each x (head_stands x xs), zip_images R f g xs (λ y has. each y (tail_stands x xs y has)))

-- and those of items with their places beside those of the items
zip_from : {X Y Z : Type 0} (R : Y → Z → Type 0) (f : ℕ × X → Y) (g : X → Z) (n : ℕ) (xs : List X) → ((i m : ℕ) (x : X) → m ≡ n + i → At xs i x → R (f (m, x)) (g x))
    → AllZip R (map f (enumerate_from n xs)) (map g xs)
zip_from R f g n [] each = tt
zip_from R f g n (x ∷ xs) each = (each 0 n x (omega (arith)) refl, zip_from R f g (n + 1) xs (λ i m y is here. each (suc i) m y (omega (arith, is)) here))

zip_numbered : {X Y Z : Type 0} (R : Y → Z → Type 0) (f : ℕ × X → Y) (g : X → Z) (xs : List X) → ((i : ℕ) (x : X) → At xs i x → R (f (i, x)) (g x))
    → AllZip R (map f (enumerate_from 0 xs)) (map g xs)
zip_numbered R f g xs each = zip_from R f g 0 xs (λ i m x is here. let same : i ≡ m = omega (arith, is) in each m x (subst (λ k. At xs k x) same here))

module _ (is_free : TableId → ColId → Bool) (basis : Basis) (is : IsBasis basis) (decides : DecidesFree basis.schema is_free) (limits : IsWithinLimits basis.schema)
    (round : RoundTrips basis.schema) (state : State) (legal : IsLegal basis.schema.model state) where
  module _ (s : SetId) (entity : Entity) (links : List Hosted) (region : Region) (held : IsHeldWith basis state s entity links region) where
    abbrev values : Valuation
    values = by_entity basis.schema.model entity (partner_parts basis.schema.model links)

    can : IsReadable basis s region
    can = readable basis is limits round s region held.listed

    few_here : HasFewPartners basis region
    few_here host assoc is_host linked here = few basis is limits round s host (subst (λ u. Contains (basis.hosts u) host) (set_is basis s region held.listed) is_host) assoc here

    partners : ArePartners basis region links (partner_parts basis.schema.model links)
    partners = partners_told basis region entity links held.holds few_here

    abbrev told : AllowedFocus basis
    told = record {
      of = focus.Entity region;
      is_focus = (s, held.listed);
      values = values;
      allowed = region_allowed basis is (record {
        held = record {
          state = state;
          legal = legal;
          s = s;
          entity = entity;
          region = region;
          of_region = record { stands = held.stands; listed = held.listed; links = links; hosted = held.hosted; holds = held.holds };
        };
        part = partner_parts basis.schema.model links;
        partners = partners;
      });
    }

    module _ (row : PatternRow) (is_row : Contains (pattern_of basis (focus.Entity region)).rows row) (i : ℕ) (symbols : List Symbol) (here : At row.cells i symbols) where
      abbrev col : ColId
      col = record { index = i }

      abbrev at : PatternCell basis (focus.Entity region)
      at = record { t = row.table; col = col; cell = symbols; has = record { row = row; is_row = is_row; of_table = refl; is_cell = here } }

      clear : has_clash basis.schema.model region.atoms symbols ≡ false
      clear = All-contains (λ list. has_clash basis.schema.model region.atoms list ≡ false) row.cells symbols (can.clear row is_row) (contains_at row.cells i symbols here)

      -- a known value
      known_is : (value : Value) → settle basis.schema.model region.atoms symbols ≡ known value → value_in values symbols ≡ value
      known_is value settled = by symbols (cell_known basis is told at clear value settled)
        where
          by : (list : List Symbol) → All (λ one. value_under values one ≡ value) list × (list ≡ [] → value ≡ Null) → value_in values list ≡ value
          by [] so = sym (so.1 refl)
          by (one ∷ rest) so = All-head (λ other. value_under values other ≡ value) one rest so.0

      -- a symbol that is shown
      shown_is : (one : Symbol) (n : Bool) → symbols ≡ one ∷ [] → settle basis.schema.model region.atoms symbols ≡ free one n
          → IsFilled basis region entity links (by_settled (free one n)) (value_in values symbols)
      shown_is symbol.Null n alone settled = absurd (let S : List Symbol → Type 0 = λ list. settle basis.schema.model region.atoms list ≡ free symbol.Null n in
          let never : known Null ≡ free symbol.Null n = subst S alone settled in (let no : ⊥ = cc in no))
      shown_is (symbol.Const value) n alone settled = absurd (let S : List Symbol → Type 0 = λ list. settle basis.schema.model region.atoms list ≡ free (symbol.Const value) n in
          let never : known value ≡ free (symbol.Const value) n = subst S alone settled in (let no : ⊥ = cc in no))
      shown_is (symbol.Prop p) n alone settled = ap (value_in values) alone
      shown_is (symbol.End a first p) n alone settled =
          let lists : Contains symbols (symbol.End a first p) = only_stands symbols (symbol.End a first p) alone in
          let end = partners_end basis is s region held.listed row.table col symbols at.has a first p lists in
          let by = partners.tells end.host end.assoc end.is_host end.linked end.here in
          let part : partner_parts basis.schema.model links a first p
          ≡ value_beside p (key_props basis.schema.model (partner_end end.host.first_hosts end.assoc).ty) by.0.partner =
          (λ k. partner_parts basis.schema.model links (sym end.of_assoc k) (end.partner k) p) ∙ by.3 p end.among in
          record {
            host = end.host;
            is_host = end.is_host;
            of_assoc = end.of_assoc;
            assoc = end.assoc;
            is_assoc = end.here;
            hosted = by.0;
            among = by.1;
            of_link = by.2 ∙ end.of_assoc;
            is = ap (value_in values) alone ∙ part;
          }

      settled_is : (settled : Settled) → settle basis.schema.model region.atoms symbols ≡ settled → IsFilled basis region entity links (by_settled settled) (value_in values symbols)
      settled_is (known value) same = known_is value same
      settled_is (free one n) same = shown_is one n (cell_free basis is told at clear one n same).0 same

      -- nothing is listed in a free column
      free_is : is_free row.table col ≡ true → (list : List Symbol) → symbols ≡ list → value_in values list ≡ Null
      free_is told_free [] same = refl
      free_is told_free (one ∷ rest) same = absurd (true≢false (sym told_free ∙ listed_bound basis is is_free decides region row.table col symbols at.has one
          (subst (λ list. Contains list one) (sym same) (head_stands one rest))))

      cell_is : IsFilled basis region entity links (case_cell is_free basis.schema.model region.atoms row.table col symbols) (value_in values symbols)
      cell_is = by (is_free row.table col) refl
        where
          by : (b : Bool) → is_free row.table col ≡ b
              → IsFilled basis region entity links (if b then cell.Free else by_settled (settle basis.schema.model region.atoms symbols)) (value_in values symbols)
          by true told_free = free_is told_free symbols refl
          by false bound = settled_is (settle basis.schema.model region.atoms symbols) refl

    pub rows_filled : AreFilledRows basis region entity links (case_of is_free basis region) (entity_rows basis region entity links)
    rows_filled = zip_images (IsFilledRow basis region entity links) (case_row is_free basis.schema.model region.atoms) (table_row values)
        (pattern_of basis (focus.Entity region)).rows (λ row is_row. record {
          in_table = refl;
          cells = zip_numbered (IsFilled basis region entity links)
              (λ placed. case_cell is_free basis.schema.model region.atoms row.table (record { index = placed.0 }) placed.1) (value_in values) row.cells (cell_is row is_row);
        })

  -- the row of a link
  module _ (t : TableId) (fragment : LinkFragment) (assoc : Assoc) (joined : IsJoinedTo basis.schema t fragment assoc) (link : Link)
      (stands : Contains (links_in state fragment.assoc) link) where
    abbrev link_values : Valuation
    link_values = by_link basis.schema.model assoc link

    abbrev told_link : AllowedFocus basis
    told_link = record {
      of = focus.Link fragment.assoc;
      is_focus = (assoc, joined.is_assoc);
      values = link_values;
      allowed = link_allowed basis is
          (record { state = state; legal = legal; a = fragment.assoc; assoc = assoc; is_assoc = joined.is_assoc; link = link; stands = stands });
    }

    abbrev pub row_of : PatternRow
    row_of = (joined_row basis is t fragment assoc joined).0

    abbrev row : PatternRow
    row = row_of

    is_row : Contains (pattern_of basis (focus.Link fragment.assoc)).rows row
    is_row = only_stands (pattern_of basis (focus.Link fragment.assoc)).rows row (joined_row basis is t fragment assoc joined).1

    module _ (i : ℕ) (symbols : List Symbol) (here : At row.cells i symbols) where
      abbrev link_at : PatternCell basis (focus.Link fragment.assoc)
      link_at = record { t = row.table; col = record { index = i }; cell = symbols; has = record { row = row; is_row = is_row; of_table = refl; is_cell = here } }

      link_clear : has_clash basis.schema.model [] symbols ≡ false
      link_clear = All-contains (λ list. has_clash basis.schema.model [] list ≡ false) row.cells symbols
          (row_clear basis is t fragment assoc joined state legal link stands (round kind.Clash) row is_row).clear (contains_at row.cells i symbols here)

      link_known : (value : Value) → settle basis.schema.model [] symbols ≡ known value → value_in link_values symbols ≡ value
      link_known value settled = by symbols (cell_known basis is told_link link_at link_clear value settled)
        where
          by : (list : List Symbol) → All (λ one. value_under link_values one ≡ value) list × (list ≡ [] → value ≡ Null) → value_in link_values list ≡ value
          by [] so = sym (so.1 refl)
          by (one ∷ rest) so = All-head (λ other. value_under link_values other ≡ value) one rest so.0

      end_part : (a : AssocId) (first : Bool) (p : PropId)
          → value_under link_values (symbol.End a first p) ≡ value_beside p (key_props basis.schema.model (end_at first assoc).ty) (end_key first link)
      end_part a true p = refl
      end_part a false p = refl

      link_shown : (one : Symbol) (n : Bool) → symbols ≡ one ∷ [] → settle basis.schema.model [] symbols ≡ free one n
          → IsFilledEnd basis.schema.model assoc link (end_by_settled (free one n)) (value_in link_values symbols)
      link_shown symbol.Null n alone settled = absurd (let S : List Symbol → Type 0 = λ list. settle basis.schema.model [] list ≡ free symbol.Null n in
          let never : known Null ≡ free symbol.Null n = subst S alone settled in (let no : ⊥ = cc in no))
      link_shown (symbol.Const value) n alone settled = absurd (let S : List Symbol → Type 0 = λ list. settle basis.schema.model [] list ≡ free (symbol.Const value) n in
          let never : known value ≡ free (symbol.Const value) n = subst S alone settled in (let no : ⊥ = cc in no))
      link_shown (symbol.Prop p) n alone settled = ap (value_in link_values) alone
      link_shown (symbol.End a first p) n alone settled = ap (value_in link_values) alone ∙ end_part a first p

      link_settled : (settled : Settled) → settle basis.schema.model [] symbols ≡ settled
          → IsFilledEnd basis.schema.model assoc link (end_by_settled settled) (value_in link_values symbols)
      link_settled (known value) same = link_known value same
      link_settled (free one n) same = link_shown one n (cell_free basis is told_link link_at link_clear one n same).0 same

      link_free : is_free row.table (record { index = i }) ≡ true → (list : List Symbol) → symbols ≡ list → value_in link_values list ≡ Null
      link_free told_free [] same = refl
      link_free told_free (one ∷ rest) same = absurd (true≢false (sym told_free ∙ focus_bound basis is is_free decides (focus.Link fragment.assoc) row.table (record { index = i }) one
          (symbols, link_at.has, subst (λ list. Contains list one) (sym same) (head_stands one rest))))

      link_cell_is : IsFilledEnd basis.schema.model assoc link (cell_of_link is_free basis.schema.model row.table (record { index = i }) symbols) (value_in link_values symbols)
      link_cell_is = by (is_free row.table (record { index = i })) refl
        where
          by : (b : Bool) → is_free row.table (record { index = i }) ≡ b
              → IsFilledEnd basis.schema.model assoc link (if b then link_cell.Free else end_by_settled (settle basis.schema.model [] symbols)) (value_in link_values symbols)
          by true told_free = link_free told_free symbols refl
          by false bound = link_settled (settle basis.schema.model [] symbols) refl

    pub link_filled : IsFilledLink basis.schema.model assoc link (the_case is_free basis is decides t fragment assoc joined) (table_row link_values row)
    link_filled = record {
      in_table = refl;
      cells = zip_numbered (IsFilledEnd basis.schema.model assoc link)
          (λ placed. cell_of_link is_free basis.schema.model row.table (record { index = placed.0 }) placed.1) (value_in link_values) row.cells link_cell_is;
    }

    -- so it is the one row that the view gives
    pub one_row : (made : TableRow) → link_rows basis fragment.assoc assoc link ≡ made ∷ [] → made ≡ table_row link_values row
    one_row made is_made =
        let rows : link_rows basis fragment.assoc assoc link ≡ table_row link_values row ∷ [] = ap (map (table_row link_values)) (joined_row basis is t fragment assoc joined).1 in
        let same : made ∷ [] ≡ table_row link_values row ∷ [] = sym is_made ∙ rows in cc

  module _ (views : UpdateViews) (are : AreViewsOf basis views) where
    pub entities_filled : (s : SetId) (entity : Entity) (links : List Hosted) (region : Region) → IsHeldWith basis state s entity links region
        → AreFilledRows basis region entity links (case_of is_free basis region) (local_rows views s entity links)
    entities_filled s entity links region held =
        subst (AreFilledRows basis region entity links (case_of is_free basis region)) (sym (are.fills.entities s region held.listed entity links held.holds))
        (rows_filled s entity links region held)

    pub joined_filled : (a : AssocId) (case : LinkCase) → link_case_of is_free basis a ≡ Some case → (own : IsTableOf basis a case.table) → (link : Link)
        → Contains (links_in state a) link → (of_link : Link → TableRow) × (view_row views a ≡ Some of_link) × IsFilledLink basis.schema.model own.assoc link case (of_link link)
    joined_filled a case its own link stands =
        let Stands : AssocId → Type 0 = λ b. Contains (links_in state b) link in
        let Its : AssocId → Type 0 = λ b. link_case_of is_free basis b ≡ Some case in
        let Given : AssocId → Type 0 = λ b. (of_link : Link → TableRow) × (view_row views b ≡ Some of_link) × IsFilledLink basis.schema.model own.assoc link case (of_link link) in
        let here : Contains (links_in state own.fragment.assoc) link = subst Stands (sym own.of_assoc) stands in
        let made = are.fills.links case.table own.fragment own.assoc own.joined in
        let row : made.0 link ≡ table_row (by_link basis.schema.model own.assoc link) (row_of case.table own.fragment own.assoc own.joined link here) =
        one_row case.table own.fragment own.assoc own.joined link here (made.0 link) (made.2 link) in
        let same : Some (the_case is_free basis is decides case.table own.fragment own.assoc own.joined) ≡ Some case =
        sym (is_case is_free basis is decides case.table own.fragment own.assoc own.joined) ∙ subst Its (sym own.of_assoc) its in
        let case_is : the_case is_free basis is decides case.table own.fragment own.assoc own.joined ≡ case = cc in
        subst Given own.of_assoc (
          made.0,
          made.1,
          subst (λ one. IsFilledLink basis.schema.model own.assoc link one (made.0 link)) case_is
              (subst (IsFilledLink basis.schema.model own.assoc link (the_case is_free basis is decides case.table own.fragment own.assoc own.joined)) (sym row)
              (link_filled case.table own.fragment own.assoc own.joined link here)),
        )
