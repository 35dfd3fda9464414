-- What is put to tables by fragments of entities, and then by fragments of links, is by what they are written.
use Rattle.std.proofs.Common.{◌≡◌, inl, inr, ℕ, ◌<◌, List, length, replicate, Option, None, MatchOption, sym, ap, subst, ◌∙◌}
use Rattle.std.proofs.lemmas.List.{get_or-replicate, length-replicate}
use Rattle.std.proofs.lemmas.Option.{get_or_from_slice_get, slice_get_within}
use Rattle.emc_base.specs.Lists.{At}
use Rattle.round_trip.specs.Words.{Fragment, IsWritten, LinkFragment, Schema, TableId}
use Rattle.table_owners.specs.declared.sources.Source.{Source}
use Rattle.table_owners.specs.Puts.{Puts}
use Rattle.table_owners.specs.Sources.{AreSources, IsEntitySource, IsLinkSource, IsSource, links_to, writes_to}
use Rattle.table_owners.proofs.lists.Items.{some_at}

-- of one item repeated each is this one
pub repeated : {X : Type 0} (n : ℕ) (x : X) (i : ℕ) (y : X) → At (replicate n x) i y → y ≡ x
repeated n x i y here =
    let inside : i < length (replicate n x) = slice_get_within (replicate n x) i y here in
    sym (get_or_from_slice_get (replicate n x) i y y here) ∙ get_or-replicate n i x y (subst (λ k. i < k) (length-replicate n x) inside)

module _ (schema : Schema) (start between sources : List (Option Source)) (none : start ≡ replicate (length schema.store.tables) None)
    (first : Puts writes_to IsEntitySource schema.mapping.fragments (length schema.mapping.fragments) start between)
    (second : Puts links_to (IsLinkSource schema) schema.mapping.links (length schema.mapping.links) between sources) where
  -- what is known of a table
  abbrev Tells : TableId → Option Source → Type 0
  Tells t source = MatchOption source (¬ IsWritten schema.mapping t) (IsSource schema t)

  -- a table by its place
  table_is : (one : TableId) (t : TableId) → one.index ≡ t.index → one ≡ t
  table_is one t same = λ i. record { index = same i }

  each : (t : TableId) (source : Option Source) → At sources t.index source → Tells t source
  each t source here = elim (second.each t.index source here) [
    | inl put ↦ subst (Tells t) (sym put.5.2) (put.1, put.3, table_is put.1.table t put.4, put.5.1)
    | inr kept ↦ elim (first.each t.index source kept.0) [
      | inl put ↦ subst (Tells t) (sym put.5) (put.1, put.3, table_is put.1.table t put.4)
      | inr old ↦
          let at_start : At (replicate (length schema.store.tables) None) t.index source = subst (λ (list : List (Option Source)). At list t.index source) none old.0 in
          subst (Tells t) (sym (repeated (length schema.store.tables) None t.index source at_start)) (λ written. elim written [
            | inl some ↦
                let by = some_at (λ (fragment : Fragment). fragment.table ≡ t) schema.mapping.fragments some in
                old.1 by.0 by.1 (slice_get_within schema.mapping.fragments by.0 by.1 by.2) by.2 (ap (λ (id : TableId). id.index) by.3)
            | inr some ↦
                let by = some_at (λ (fragment : LinkFragment). fragment.table ≡ t) schema.mapping.links some in
                kept.1 by.0 by.1 (slice_get_within schema.mapping.links by.0 by.1 by.2) by.2 (ap (λ (id : TableId). id.index) by.3)
          ])
    ]
  ]

  pub are_sources : AreSources schema sources
  are_sources = record { size = second.size ∙ first.size ∙ ap length none ∙ length-replicate (length schema.store.tables) None; each = each }
