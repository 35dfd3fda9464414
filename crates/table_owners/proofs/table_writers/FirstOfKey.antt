-- The first item of each key, and the first item that isn't like the first of its key.
use Rattle.std.proofs.Common.{◌≡◌, ◌≢◌, ◌⊎◌, inl, inr, ℕ, ◌+◌, ◌<◌, ◌≤◌, List, length, get_or, Option, Some, None, Bool, true, false, cond, refl, sym, ap, subst, subst₂, ◌∙◌, arith, true≢false}
use Rattle.std.specs.Bool.{Decides}
use Rattle.std.specs.Option.{unwrap_or}
use Rattle.std.specs.Ordering.{nat_cmp, MatchOrdering}
use Rattle.std.specs.declared.cmp.Ordering.{Ordering}
use Rattle.std.specs.declared.cmp.Ordering.TheVariants.{Greater}
use Rattle.std.proofs.lemmas.Bool.{cases_eq}
use Rattle.std.proofs.lemmas.Cmp.{ranked}
use Rattle.std.proofs.lemmas.Option.{slice_get-get_or, slice_get_within}
use Rattle.emc_base.proofs.Lists.{at_once}
use Rattle.emc_base.specs.Lists.{At}
use Rattle.groupings.specs.least_fault.Least.{IsLeast}

-- a place isn't after one that is no earlier
not_after : (n k : ℕ) → ¬ (k < n) → nat_cmp n k ≢ Greater
not_after n k late = λ greater. late (subst (λ (r : Ordering). MatchOrdering r (n < k) (n ≡ k) (k < n)) greater (ranked n k (nat_cmp n k) refl))

module _ {X K : Type 0} (key : X → K) (Alike : X → X → Type 0) (items : List X) where
  -- no item of the first so many has the key
  pub record HasNone (n : ℕ) (q : K) : Type 0 where
    pub never : (i : ℕ) (x : X) → i < n → At items i x → key x ≢ q

  -- the item at this place has the key, and each of the first so many that has it is like that item
  pub record HasFirst (n : ℕ) (q : K) (first : ℕ) : Type 0 where
    pub one : X
    pub here : At items first one
    pub within : first < n
    pub same : key one ≡ q
    pub alike : (i : ℕ) (x : X) → i < n → At items i x → key x ≡ q → Alike one x

  -- what is noted of a key after so many items
  abbrev pub Knows : ℕ → K → Option ℕ → Type 0
  Knows n q None = HasNone n q
  Knows n q (Some first) = HasFirst n q first

  -- an earlier item of its key isn't like the item at this place
  pub record Differs (Other : X → X → Type 0) (k : ℕ) : Type 0 where
    pub i : ℕ
    pub one : X
    pub later : X
    pub before : i < k
    pub there : At items i one
    pub here : At items k later
    pub same : key one ≡ key later
    pub other : Other one later

  module _ (n : ℕ) (item : X) (here : At items n item) where
    -- one item more, of another key
    past_other : (q : K) → key item ≢ q → (found : Option ℕ) → Knows n q found → Knows (n + 1) q found
    past_other q other None none = record { never = λ i x before at. by i x before at (cases_eq i n) }
      where
        by : (i : ℕ) (x : X) → i < n + 1 → At items i x → (i ≡ n) ⊎ (i ≢ n) → key x ≢ q
        by i x before at (inl last) = λ same. other (ap key (at_once items n item x here (subst (λ (k : ℕ). At items k x) last at)) ∙ same)
        by i x before at (inr apart) = none.never i x (omega arith) at
    past_other q other (Some first) some = record {
      one = some.one;
      here = some.here;
      within = (let w : first < n = some.within in omega arith);
      same = some.same;
      alike = λ i x before at same. by i x before at same (cases_eq i n);
    }
      where
        by : (i : ℕ) (x : X) → i < n + 1 → At items i x → key x ≡ q → (i ≡ n) ⊎ (i ≢ n) → Alike some.one x
        by i x before at same (inl last) = absurd (other (ap key (at_once items n item x here (subst (λ (k : ℕ). At items k x) last at)) ∙ same))
        by i x before at same (inr apart) = some.alike i x (omega arith) at same

    -- one item more, of this key, that is like the first
    past_like : (one : X) (found : Option ℕ) → Knows n (key item) found → At items (unwrap_or found n) one → Alike one item
        → HasFirst (n + 1) (key item) (unwrap_or found n)
    past_like one None none at like = record {
      one = one;
      here = at;
      within = omega arith;
      same = ap key (at_once items n one item at here);
      alike = λ i x before there same. by i x before there same (cases_eq i n);
    }
      where
        by : (i : ℕ) (x : X) → i < n + 1 → At items i x → key x ≡ key item → (i ≡ n) ⊎ (i ≢ n) → Alike one x
        by i x before there same (inl last) = subst (Alike one) (at_once items n item x here (subst (λ (k : ℕ). At items k x) last there)) like
        by i x before there same (inr apart) = absurd (none.never i x (omega arith) there same)
    past_like one (Some first) some at like = record {
      one = one;
      here = at;
      within = (let w : first < n = some.within in omega arith);
      same = ap key is ∙ some.same;
      alike = λ i x before there same. by i x before there same (cases_eq i n);
    }
      where
        is : one ≡ some.one
        is = at_once items first one some.one at some.here

        by : (i : ℕ) (x : X) → i < n + 1 → At items i x → key x ≡ key item → (i ≡ n) ⊎ (i ≢ n) → Alike one x
        by i x before there same (inl last) = subst (Alike one) (at_once items n item x here (subst (λ (k : ℕ). At items k x) last there)) like
        by i x before there same (inr apart) = subst (λ (o : X). Alike o x) (sym is) (some.alike i x (omega arith) there same)

    module _ (known : K → Option ℕ) (knows : (q : K) → Knows n q (known q)) (first : ℕ) (is : first ≡ unwrap_or (known (key item)) n) where
      -- there is an item at the place that is noted for its key, or at its own
      pub first_at : (d : X) → At items first (get_or items first d)
      first_at d = slice_get-get_or items first d (subst (λ (i : ℕ). i < length items) (sym is) (within (known (key item)) (knows (key item))))
        where
          within : (found : Option ℕ) → Knows n (key item) found → unwrap_or found n < length items
          within None none = slice_get_within items n item here
          within (Some i) some = slice_get_within items i some.one some.here

      -- one item more is noted
      pub knows_more : (e : K → Bool) → ((q : K) → Decides (e q) (key item ≡ q)) → (after : K → Option ℕ) → ((q : K) → after q ≡ cond (e q) (Some first) (known q))
          → (one : X) → At items first one → Alike one item → (q : K) → Knows (n + 1) q (after q)
      knows_more e tells after notes one at like q = subst (Knows (n + 1) q) (sym (notes q)) (by (e q) refl)
        where
          noted : HasFirst (n + 1) (key item) (unwrap_or (known (key item)) n)
          noted = past_like one (known (key item)) (knows (key item)) (subst (λ (i : ℕ). At items i one) is at) like

          by : (b : Bool) → e q ≡ b → Knows (n + 1) q (cond b (Some first) (known q))
          by true same = subst₂ (λ (r : K) (i : ℕ). HasFirst (n + 1) r i) ((tells q).0 same) (sym is) noted
          by false other = past_other q (λ same. true≢false (sym ((tells q).1 same) ∙ other)) (known q) (knows q)

  module _ (Other : X → X → Type 0) (apart : (one x y : X) → Alike one x → Alike one y → ¬ Other x y) where
    -- among the first so many items none differs
    pub none_differs : (n : ℕ) (known : K → Option ℕ) → ((q : K) → Knows n q (known q)) → (k : ℕ) → k < n → ¬ Differs Other k
    none_differs n known knows k before differs = by (known (key differs.later)) (knows (key differs.later))
      where
        by : (found : Option ℕ) → Knows n (key differs.later) found → ⊥
        by None none = none.never k differs.later before differs.here refl
        by (Some first) some =
            apart some.one differs.one differs.later
            (some.alike differs.i differs.one (let w : differs.i < k = differs.before in omega arith) differs.there differs.same)
            (some.alike k differs.later before differs.here refl) differs.other

    -- none differs at all
    pub never_differs : (n : ℕ) (known : K → Option ℕ) → ((q : K) → Knows n q (known q)) → length items ≤ n → IsLeast nat_cmp (Differs Other) None
    never_differs n known knows end = λ k differs.
        none_differs n known knows k (let w : k < length items = slice_get_within items k differs.later differs.here in omega arith) differs

    -- the first that isn't like the first of its key is the first that differs
    pub first_differs : ((x : X) → Alike x x) → (n : ℕ) (item : X) → At items n item → (known : K → Option ℕ) → ((q : K) → Knows n q (known q))
        → (first : ℕ) → first ≡ unwrap_or (known (key item)) n → (one : X) → At items first one → Other one item → IsLeast nat_cmp (Differs Other) (Some n)
    first_differs alike n item here known knows first is one at other = (
      differs (known (key item)) (knows (key item)) (subst (λ (i : ℕ). At items i one) is at),
      λ k holds. not_after n k (λ before. none_differs n known knows k before holds),
    )
      where
        differs : (found : Option ℕ) → Knows n (key item) found → At items (unwrap_or found n) one → Differs Other n
        differs None none there =
            absurd (apart item item item (alike item) (alike item) (subst (λ (o : X). Other o item) (at_once items n one item there here) other))
        differs (Some i) some there = record {
          i = i;
          one = one;
          later = item;
          before = some.within;
          there = there;
          here = here;
          same = ap key (at_once items i one some.one there some.here) ∙ some.same;
          other = other;
        }
