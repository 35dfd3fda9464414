-- What is left when the columns that fragments name are passed are the free columns.
use Rattle.std.proofs.Common.{◌≡◌, inl, inr, ◌<◌, List, ◌++◌, length, map, Any, Some, slice_get, option_map, Bool, true, false, sym, ap, subst, ◌∙◌, arith}
use Rattle.std.specs.Bool.{MatchBool}
use Rattle.std.specs.Global.{Vec}
use Rattle.std.specs.Option.{option_and_then}
use Rattle.std.proofs.lemmas.List.{length-map}
use Rattle.std.proofs.lemmas.List.Elements.{All-contains, Contains-append_cases, Contains-append_left, Contains-append_right}
use Rattle.std.proofs.lemmas.Option.{same_Some, slice_get_within}
use Rattle.emc_base.specs.Lists.{At}
use Rattle.emc_base.proofs.Lists.{all_from_members, item_at}
use Rattle.emc_base.proofs.FoundItems.{member_of}
use Rattle.emc_base.proofs.facts.Images.{map_at}
use Rattle.edm_types.specs.declared.mapping.CondOn.TheVariants as on
use Rattle.round_trip.specs.Words.{ColId, Cond, Fragment, IsFree, IsNamedBy, IsWritten, LinkFragment, Pair, Schema, Table, TableId}
use Rattle.table_owners.specs.Clearing.{Clears, Each, IsCondOn, IsNamedByEntities, IsNamedByLinks, IsPairOn, IsStart, IsStartOf, taken_at}
use Rattle.table_owners.specs.FreeColumns.{TellFree, TellsFree}
use Rattle.table_owners.proofs.lists.Items.{member_some}

module _ (t : TableId) (col : ColId) where
  -- a pair, or a condition, is on the column
  abbrev PairOn : Pair → Type 0
  PairOn pair = pair.col ≡ col

  abbrev IsOn : Cond → Type 0
  IsOn cond = cond.on ≡ on.Col col

  -- some of these pairs, in other words
  pairs_on : (table : TableId) (pairs : List Pair) → table ≡ t → Any PairOn pairs → Each (IsPairOn table) pairs t col
  pairs_on table pairs same some = let pair = member_of PairOn pairs some in (pair.0, pair.1, (same, pair.2))

  conds_on : (table : TableId) (conds : List Cond) → table ≡ t → Any IsOn conds → Each (IsCondOn table) conds t col
  conds_on table conds same some = let cond = member_of IsOn conds some in (cond.0, cond.1, (same, cond.2))

  on_pairs : (table : TableId) (pairs : List Pair) → Each (IsPairOn table) pairs t col → (table ≡ t) × Any PairOn pairs
  on_pairs table pairs named = (named.2.0, member_some PairOn pairs named.0 named.1 named.2.1)

  on_conds : (table : TableId) (conds : List Cond) → Each (IsCondOn table) conds t col → (table ≡ t) × Any IsOn conds
  on_conds table conds named = (named.2.0, member_some IsOn conds named.0 named.1 named.2.1)

  -- what a fragment of entities names
  named_by : (fragment : Fragment) → (fragment.table ≡ t) × IsNamedBy fragment.pairs fragment.conds col → IsNamedByEntities fragment t col
  named_by fragment (same, named) = elim named [
    | inl pairs ↦ inl (pairs_on fragment.table fragment.pairs same pairs)
    | inr conds ↦ inr (conds_on fragment.table fragment.conds same conds)
  ]

  by_named : (fragment : Fragment) → IsNamedByEntities fragment t col → (fragment.table ≡ t) × IsNamedBy fragment.pairs fragment.conds col
  by_named fragment named = elim named [
    | inl pairs ↦ let both = on_pairs fragment.table fragment.pairs pairs in (both.0, inl both.1)
    | inr conds ↦ let both = on_conds fragment.table fragment.conds conds in (both.0, inr both.1)
  ]

  -- what a fragment of links names
  linked_by : (fragment : LinkFragment) → (fragment.table ≡ t) × IsNamedBy (fragment.first ++ fragment.second) fragment.conds col → IsNamedByLinks fragment t col
  linked_by fragment (same, named) = elim named [
    | inl pairs ↦
        let pair = member_of PairOn (fragment.first ++ fragment.second) pairs in
        elim (Contains-append_cases fragment.first fragment.second pair.0 pair.1) [
          | inl first ↦ inl (pair.0, first, (same, pair.2))
          | inr second ↦ inr (inl (pair.0, second, (same, pair.2)))
        ]
    | inr conds ↦ inr (inr (conds_on fragment.table fragment.conds same conds))
  ]

  by_linked : (fragment : LinkFragment) → IsNamedByLinks fragment t col → (fragment.table ≡ t) × IsNamedBy (fragment.first ++ fragment.second) fragment.conds col
  by_linked fragment named = elim named [
    | inl first ↦ (first.2.0, inl (member_some PairOn (fragment.first ++ fragment.second) first.0 (Contains-append_left fragment.first fragment.second first.0 first.1) first.2.1))
    | inr rest ↦ elim rest [
      | inl second ↦
          (second.2.0, inl (member_some PairOn (fragment.first ++ fragment.second) second.0 (Contains-append_right fragment.first fragment.second second.0 second.1) second.2.1))
      | inr conds ↦ let both = on_conds fragment.table fragment.conds conds in (both.0, inr both.1)
    ]
  ]

  -- what is known of a column of a table that stands in a list
  taken_is : (list : List (Vec Bool)) (columns : Vec Bool) → At list t.index columns → taken_at list t col ≡ slice_get columns.items col.index
  taken_is list columns here = ap (option_and_then (λ (some : Vec Bool). slice_get some.items col.index)) here

module _ (schema : Schema) (start between free : List (Vec Bool)) (begins : IsStart schema (length schema.store.tables) start)
    (entities : Clears (Each IsNamedByEntities schema.mapping.fragments) start between) (links : Clears (Each IsNamedByLinks schema.mapping.links) between free) where
  module _ (t : TableId) (table : Table) (here : At schema.store.tables t.index table)
      (first last : Vec Bool) (first_here : At start t.index first) (last_here : At free t.index last) where
    begins_so : IsStartOf schema t table first.items
    begins_so = begins.each t.index table first here first_here

    size : length last.items ≡ length table.cols
    size =
        let count : Some (length last.items) ≡ Some (length first.items) =
        sym (ap (option_map (λ (columns : Vec Bool). length columns.items)) last_here) ∙ links.counts t
        ∙ entities.counts t ∙ ap (option_map (λ (columns : Vec Bool). length columns.items)) first_here in
        same_Some (length last.items) (length first.items) count ∙ begins_so.size

    is_free : (col : ColId) → At last.items col.index true → IsFree schema t col
    is_free col there =
        let now = (links.taken t col).0 (taken_is t col free last last_here ∙ there) in
        let old = (entities.taken t col).0 now.0 in
        let inside : col.index < length last.items = slice_get_within last.items col.index true there in
        let column = item_at table.cols col.index (omega (arith, inside, size)) in
        record {
          stands = (table, column.0, here, column.1);
          written = begins_so.each col true (sym (taken_is t col start first first_here) ∙ old.0);
          unnamed = all_from_members (λ (fragment : Fragment). fragment.table ≡ t → ¬ IsNamedBy fragment.pairs fragment.conds col) schema.mapping.fragments
              (λ fragment has same named. old.1 (fragment, has, named_by t col fragment (same, named)));
          unlinked = all_from_members (λ (fragment : LinkFragment). fragment.table ≡ t → ¬ IsNamedBy (fragment.first ++ fragment.second) fragment.conds col) schema.mapping.links
              (λ fragment has same named. now.1 (fragment, has, linked_by t col fragment (same, named)));
        }

    -- a column of a written table was taken as free at first
    taken_first : (col : ColId) → col.index < length last.items → IsWritten schema.mapping t → At first.items col.index true
    taken_first col inside written =
        let was = item_at first.items col.index (omega (arith, inside, size, begins_so.size)) in
        by was.0 was.1 (begins_so.each col was.0 was.1)
      where
        by : (taken : Bool) → At first.items col.index taken → MatchBool taken (IsWritten schema.mapping t) (¬ IsWritten schema.mapping t) → At first.items col.index true
        by true there is = there
        by false there unwritten = absurd (unwritten written)

    free_is : (col : ColId) → col.index < length last.items → IsFree schema t col → At last.items col.index true
    free_is col inside free_col =
        let old = taken_is t col start first first_here ∙ taken_first col inside free_col.written in
        let unnamed : ¬ Each IsNamedByEntities schema.mapping.fragments t col = λ named.
        (let by = by_named t col named.0 named.2 in
        All-contains (λ (fragment : Fragment). fragment.table ≡ t → ¬ IsNamedBy fragment.pairs fragment.conds col)
        schema.mapping.fragments named.0 free_col.unnamed named.1 by.0 by.1) in
        let unlinked : ¬ Each IsNamedByLinks schema.mapping.links t col = λ named.
        (let by = by_linked t col named.0 named.2 in
        All-contains (λ (fragment : LinkFragment). fragment.table ≡ t → ¬ IsNamedBy (fragment.first ++ fragment.second) fragment.conds col)
        schema.mapping.links named.0 free_col.unlinked named.1 by.0 by.1) in
        sym (taken_is t col free last last_here) ∙ (links.taken t col).1 ((entities.taken t col).1 (old, unnamed), unlinked)

    tells : TellsFree schema t table last.items
    tells = record {
      size = size;
      each = λ col told there. (
        λ is. is_free col (subst (λ (b : Bool). At last.items col.index b) is there),
        λ free_col. same_Some told true (sym there ∙ free_is col (slice_get_within last.items col.index told there) free_col),
      );
    }

  pub tell_free : TellFree schema (map (λ (columns : Vec Bool). columns.items) free)
  tell_free = record {
    size = length-map free (λ (columns : Vec Bool). columns.items) ∙ links.size ∙ entities.size ∙ begins.size;
    each = λ t table columns here there.
        (let last = map_at (λ (some : Vec Bool). some.items) free t.index columns there in
        let inside : t.index < length schema.store.tables = slice_get_within schema.store.tables t.index table here in
        let all : length start ≡ length schema.store.tables = begins.size in
        let first = item_at start t.index (omega (arith, inside, all)) in
        subst (TellsFree schema t table) last.2 (tells t table here first.0 last.0 first.1 last.1));
  }
