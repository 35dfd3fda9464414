-- The first end that writes a column: what is known of it while ends and pairs are passed, and when an earlier end writes a column.
use Rattle.std.proofs.Common.{◌≡◌, ◌↔◌, ⊎_elim, ℕ, ◌+◌, ◌<◌, ◌≤◌, List, length, take, map, Contains, position, Option, Some, None, Bool, true, false, ◌||◌, cond, nat_lt, IsTrue, refl, sym, ap, subst, ◌∙◌, arith}
use Rattle.std.specs.Option.{option_map_or, option_or}
use Rattle.std.specs.Str.{bytes_eq}
use Rattle.std.proofs.lemmas.Bool.{both_ways, cases_lt}
use Rattle.std.proofs.lemmas.Bool.Decides.{Decides-ltb}
use Rattle.std.proofs.lemmas.List.{length-take-le}
use Rattle.std.proofs.lemmas.List.Folds.{Any-from_list_any, list_any-from_Any, list_any_more}
use Rattle.std.proofs.lemmas.Option.{get_or_from_slice_get, slice_get_within}
use Rattle.std.proofs.lemmas.Slice.Eq.{bytes_eq-Decides}
use Rattle.emc_base.specs.Lists.{At}
use Rattle.emc_base.proofs.Loops.{take_item}
use Rattle.emc_base.proofs.Mapped.{contains_map}
use Rattle.emc_base.proofs.Numbered.{map_contains}
use Rattle.emc_base.proofs.facts.Found.{position_passes}
use Rattle.groupings.proofs.name_places.Positions.{position_first, position_none, position_push}
use Rattle.msl_rules.specs.declared.msl_lists.raw.RawPair.{RawPair}
use Rattle.msl_rules.specs.declared.msl_lists.raw.RawEndMapping.{RawEndMapping}
use Rattle.msl_rules.specs.LinkRules.{IsWrittenAtEarlierEnd}
use Rattle.msl_checks.specs.msl_link_rules.WrittenColumns.{first_writing, noted_where, writes}

-- what is noted twice with one place is noted once, where the one or the other holds
noted_either : (one other : Bool) (place : ℕ) (known : Option ℕ) → noted_where other place (noted_where one place known) ≡ noted_where (one || other) place known
noted_either one other place (Some first) = refl
noted_either true other place None = refl
noted_either false other place None = refl

-- one pair more is noted
pub noted_pair : (pairs : List RawPair) (k : ℕ) (pair : RawPair) (place : ℕ) (col : List ℕ) (first known now : Option ℕ) → At pairs k pair
    → known ≡ noted_where (writes col (take k pairs)) place first → now ≡ noted_where (bytes_eq col pair.col) place known
    → now ≡ noted_where (writes col (take (k + 1) pairs)) place first
noted_pair pairs k pair place col first known now here was is =
    let p : RawPair → Bool = λ other. bytes_eq col other.col in
    let more : writes col (take (k + 1) pairs) ≡ (writes col (take k pairs) || p pair) =
    list_any_more p pairs k pair (slice_get_within pairs k pair here) ∙ ap (λ other. writes col (take k pairs) || p other) (get_or_from_slice_get pairs k pair pair here) in
    is ∙ ap (noted_where (p pair) place) was ∙ noted_either (writes col (take k pairs)) (p pair) place first ∙ ap (λ b. noted_where b place first) (sym more)

-- one end more is noted
pub noted_end : (ends : List RawEndMapping) (e : ℕ) (end : RawEndMapping) (col : List ℕ) (known now : Option ℕ) → At ends e end
    → known ≡ first_writing (take e ends) col → now ≡ noted_where (writes col end.pairs) e known → now ≡ first_writing (take (e + 1) ends) col
noted_end ends e end col known now here was is =
    let p : RawEndMapping → Bool = λ other. writes col other.pairs in
    let count : length (take e ends) ≡ e = length-take-le e ends (let inside : e < length ends = slice_get_within ends e end here in omega arith) in
    is
    ∙ ap (noted_where (p end) e) was
    ∙ (λ k. option_or (position p (take e ends)) (cond (p end) (Some (sym count k)) None))
    ∙ sym (position_push p (take e ends) end)
    ∙ ap (position p) (sym (take_item ends e end here))

module _ (col : List ℕ) (pairs : List RawPair) where
  -- a column that is written is that of a pair
  written_contained : writes col pairs ≡ true → Contains (map (λ pair. pair.col) pairs) col
  written_contained is =
      let some = Any-from_list_any (λ pair. bytes_eq col pair.col) pairs is in
      let same : some.1.col ≡ col = sym ((bytes_eq-Decides col some.1.col).0 some.4) in
      let P : List ℕ → Type 0 = Contains (map (λ pair. pair.col) pairs) in
      subst P same (contains_map (λ (pair : RawPair). pair.col) pairs some.1 (some.0, some.2, some.3))

  -- and that of a pair is written
  contained_written : Contains (map (λ pair. pair.col) pairs) col → writes col pairs ≡ true
  contained_written has =
      let some = map_contains (λ (pair : RawPair). pair.col) pairs col has in
      list_any-from_Any (λ pair. bytes_eq col pair.col) pairs (some.1.0, some.0, some.1.1, some.1.2, (bytes_eq-Decides col some.0.col).1 (sym some.2))

module _ (ends : List RawEndMapping) (e : ℕ) (pair : RawPair) where
  -- the first end that writes a column tells whether an earlier end does
  pub tells_earlier : (found : Option ℕ) → first_writing ends pair.col ≡ found
      → (IsTrue (option_map_or (λ first. nat_lt first e) found false) ↔ IsWrittenAtEarlierEnd ends e pair)
  tells_earlier None none = (
    λ is. absurd cc,
    λ some. absurd (both_ways (writes pair.col some.other.pairs) (position_none (λ end. writes pair.col end.pairs) ends some.i some.other none some.here)
        (contained_written pair.col some.other.pairs some.same)),
  )
  tells_earlier (Some i) is = (to, back)
    where
      to : IsTrue (nat_lt i e) → IsWrittenAtEarlierEnd ends e pair
      to early =
          let found = position_passes (λ end. writes pair.col end.pairs) ends i is in
          record { i = i; other = found.0; before = (Decides-ltb i e).0 early; here = found.1; same = written_contained pair.col found.0.pairs found.2 }

      back : IsWrittenAtEarlierEnd ends e pair → IsTrue (nat_lt i e)
      back some =
          let before : some.i < e = some.before in
          ⊎_elim
          (λ (early : some.i < i). absurd (both_ways (writes pair.col some.other.pairs)
          (position_first (λ end. writes pair.col end.pairs) ends i some.i some.other is early some.here)
          (contained_written pair.col some.other.pairs some.same)))
          (λ (upto : i ≤ some.i). (Decides-ltb i e).1 (omega arith))
          (cases_lt some.i i)
