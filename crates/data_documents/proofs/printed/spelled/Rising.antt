-- Members in the order of their names, which come out as they are when they are put in one after another.
use Rattle.std.proofs.Common.{◌≡◌, ℕ, List, Ordering, Less, Equal, Greater, refl, sym, ap, subst, ◌∙◌}
use Rattle.std.proofs.lemmas.Cmp.{nat_list_cmp_total}
use Rattle.std.specs.Prelude.{⊤}
use Rattle.std.specs.Ordering.{match_ordering, nat_cmp, ordering_reverse}
use Rattle.std.specs.Cmp.Lexicographic.{slice_cmp}
use Rattle.serde_json.specs.Data.{Data, Members, no_members, member, put}

-- each member has a later name
abbrev pub IsBelow : List ℕ → Members → Type 0
IsBelow k no_members = ⊤
IsBelow k (member l d ms) = (slice_cmp nat_cmp k l ≡ Less) × IsBelow k ms

-- each member comes before the later ones
abbrev pub IsRising : Members → Type 0
IsRising no_members = ⊤
IsRising (member k d ms) = IsBelow k ms × IsRising ms

below_before : (k l : List ℕ) (ms : Members) → slice_cmp nat_cmp k l ≡ Less → IsBelow l ms → IsBelow k ms
below_before k l no_members less below = tt
below_before k l (member m d ms) less below = (nat_list_cmp_total.trans k l m less below.0, below_before k l ms less below.1)

below_put : (l k : List ℕ) (d : Data) (ms : Members) → slice_cmp nat_cmp l k ≡ Less → IsBelow l ms → IsBelow l (put k d ms)
below_put l k d no_members less below = (less, tt)
below_put l k d (member m e ms) less below = by (slice_cmp nat_cmp k m) (below_put l k d ms less below.1)
  where
    by : (o : Ordering) → IsBelow l (put k d ms) → IsBelow l (match_ordering o (member k d (member m e ms)) (member m d ms) (member m e (put k d ms)))
    by Less later = (less, below)
    by Equal later = below
    by Greater later = (below.0, later)

turned : (k l : List ℕ) → slice_cmp nat_cmp k l ≡ Greater → slice_cmp nat_cmp l k ≡ Less
turned k l is = nat_list_cmp_total.antisymm l k ∙ ap ordering_reverse is

pub rising_put : (k : List ℕ) (d : Data) (ms : Members) → IsRising ms → IsRising (put k d ms)
rising_put k d no_members rising = (tt, tt)
rising_put k d (member l e ms) rising = by (slice_cmp nat_cmp k l) refl (rising_put k d ms rising.1)
  where
    by : (o : Ordering) → slice_cmp nat_cmp k l ≡ o → IsRising (put k d ms) → IsRising (match_ordering o (member k d (member l e ms)) (member l d ms) (member l e (put k d ms)))
    by Less is later = ((is, below_before k l ms is rising.0), rising)
    by Equal is later = rising
    by Greater is later = (below_put l k d ms (turned k l is) rising.0, later)

-- members put in one after another
abbrev pub join : Members → Members → Members
join found no_members = found
join found (member k d ms) = join (put k d found) ms

abbrev before : Members → Members → Members
before no_members ms = ms
before (member k d done) ms = member k d (before done ms)

before_none : (done : Members) → before done no_members ≡ done
before_none no_members = refl
before_none (member k d done) = ap (member k d) (before_none done)

before_both : (done : Members) (k : List ℕ) (d : Data) (ms : Members) → before (before done (member k d no_members)) ms ≡ before done (member k d ms)
before_both no_members k d ms = refl
before_both (member l e done) k d ms = ap (member l e) (before_both done k d ms)

below_last : (l : List ℕ) (done : Members) (k : List ℕ) (d : Data) (ms : Members) → IsBelow l (before done (member k d ms)) → slice_cmp nat_cmp l k ≡ Less
below_last l no_members k d ms below = below.0
below_last l (member m e done) k d ms below = below_last l done k d ms below.1

turned_back : (l k : List ℕ) → slice_cmp nat_cmp l k ≡ Less → slice_cmp nat_cmp k l ≡ Greater
turned_back l k is = nat_list_cmp_total.antisymm k l ∙ ap ordering_reverse is

-- what comes after all others is put last
put_behind : (done : Members) (k : List ℕ) (d : Data) (ms : Members) → IsRising (before done (member k d ms)) → put k d done ≡ before done (member k d no_members)
put_behind no_members k d ms rising = refl
put_behind (member l e done) k d ms rising =
    ap (λ (o : Ordering). match_ordering o (member k d (member l e done)) (member l d done) (member l e (put k d done))) (turned_back l k (below_last l done k d ms rising.0))
    ∙ ap (member l e) (put_behind done k d ms rising.1)

join_behind : (done ms : Members) → IsRising (before done ms) → join done ms ≡ before done ms
join_behind done no_members rising = sym (before_none done)
join_behind done (member k d ms) rising =
    let next : put k d done ≡ before done (member k d no_members) = put_behind done k d ms rising in
    let both : before (put k d done) ms ≡ before done (member k d ms) = ap (λ (start : Members). before start ms) next ∙ before_both done k d ms in
    join_behind (put k d done) ms (subst IsRising (sym both) rising) ∙ both

pub join_rising : (ms : Members) → IsRising ms → join no_members ms ≡ ms
join_rising ms rising = join_behind no_members ms rising
