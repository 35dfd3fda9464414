-- Whose writings stand at a row of a table that a set owns.
use Rattle.std.proofs.Common.{◌↔◌, ◌≡◌, ◌≢◌, inl, inr, ⊎_elim, ℕ, ◌<◌, get_or, List, [], ◌∷◌, ◌++◌, map, length, ◌==◌, All, AllPairs, Contains, refl, sym, ap, subst, ◌∙◌, arith}
use Rattle.std.proofs.lemmas.Bool.{cond_both}
use Rattle.std.proofs.lemmas.Bool.Decides.{Decides-eqb, not_from_Decides}
use Rattle.std.proofs.lemmas.List.{get_or-map, length-map}
use Rattle.std.proofs.lemmas.List.Elements.{All-contains, Contains-append_left, Contains-append_right}
use Rattle.std.proofs.lemmas.Simd.{map-map}
use Rattle.emc_base.specs.Lists.{AreApart}
use Rattle.emc_base.proofs.Mapped.{contains_map}
use Rattle.emc_base.proofs.Numbered.{map_contains}
use Rattle.round_trip.specs.Words.{SetId, PropId, TableId, ColId, Value, EntityModel, Assoc, End, Fragment, LinkFragment, Pair, Schema, Entity, Link, State, At, IsA, key_props, value_beside, value_of, key_of, entities_in, links_in, IsLink, IsLegal, IsLegalSet, AreLegalLinks, HasFittingType, HasEntityAt, Writing, LinkWrites, entity_cells, end_cells, link_cells, written_to, key_columns, written_key, WritesRow, Writes}
use Rattle.schema_laws.specs.state_demand.Owners.{InheritsKeys, IsHostAt, IsLinkOf, IsOfOwner, IsOwned, IsWritingOf, StandsAt, paired_key, props_in}
use Rattle.schema_laws.specs.state_demand.WellWritten.{cols_of}
use Rattle.schema_laws.specs.state_demand.Writings.{entity_writing, link_writing}
use Rattle.schema_laws.proofs.state_demand.writings.Fitting.{cell_cols, entity_cols, link_cols, written_stands}
use Rattle.schema_laws.proofs.state_demand.lists.Lists.{member_cases, none_in_nil, of_any, same_by_key}
use Rattle.schema_laws.proofs.state_demand.lists.Places.{agree_by_map, map_agree}
use Rattle.schema_laws.proofs.state_demand.owners.Owning.{hosted_at, of_owner as of_owner_at}

-- what is so by pairs of images is so by pairs of the members
pub pairs_from_map : {X Y : Type 0} (R : Y → Y → Type 0) (f : X → Y) (xs : List X) → AllPairs R (map f xs) → AllPairs (λ a b. R (f a) (f b)) xs
pairs_from_map R f xs pairs i j d below within =
    let at : (k : ℕ) → k < length xs → get_or (map f xs) k (f d) ≡ f (get_or xs k d) = λ k inside. get_or-map f xs k d (f d) inside in
    let i_in : i < length xs = omega (arith, below, within) in
    let told : R (get_or (map f xs) i (f d)) (get_or (map f xs) j (f d)) = pairs i j (f d) below (subst (λ n. j < n) (sym (length-map xs f)) within) in
    subst (λ b. R (f (get_or xs i d)) b) (at j within) (subst (λ a. R a (get_or (map f xs) j (f d))) (at i i_in) told)

-- where no column is written twice, a written cell holds its written value
pub written_once : (cells : List (ColId × Value)) → AreApart (cell_cols cells) → (col : ColId) (value : Value) → Contains {X = ColId × Value} cells (col, value)
    → written_to cells col ≡ value
written_once cells apart col value has =
    let column : ColId × Value → ColId = λ cell. cell.0 in
    let stands = written_stands cells col (contains_map column cells (col, value) has) in
    ap (λ (cell : ColId × Value). cell.1)
    (same_by_key column cells (col, written_to cells col) (col, value) (pairs_from_map (λ (a b : ColId). a ≢ b) column cells apart) stands has refl)

-- the value beside a property, where the values are made of the properties
pub beside_map : (value : PropId → Value) (props : List PropId) (prop : PropId) → Contains props prop → value_beside prop props (map value props) ≡ value prop
beside_map value [] prop has = absurd (none_in_nil prop has)
beside_map value (p ∷ props) prop has =
    let P : Value → Type 0 = λ v. v ≡ value prop in
    cond_both (p.index == prop.index) (value p) (value_beside prop props (map value props)) P
    (λ told. let number = (Decides-eqb p.index prop.index).0 told in ap value (λ k. record { index = number k }))
    (λ told. ⊎_elim
    (λ (here : prop ≡ p). absurd (not_from_Decides (p.index == prop.index) (Decides-eqb p.index prop.index) told (sym (ap (λ (q : PropId). q.index) here))))
    (λ (later : Contains props prop). beside_map value props prop later)
    (member_cases p props prop has))

-- the written cells of one end stand among those of a link
pub first_cell : (model : EntityModel) (assoc : Assoc) (fragment : LinkFragment) (link : Link) (pair : Pair) → Contains fragment.first pair
    → Contains {X = ColId × Value} (link_cells model assoc fragment link) (pair.col, value_beside pair.prop (key_props model assoc.first.ty) link.first)
first_cell model assoc fragment link pair has =
    let cell : Pair → ColId × Value = λ one. (one.col, value_beside one.prop (key_props model assoc.first.ty) link.first) in
    Contains-append_left {X = ColId × Value} (end_cells model assoc.first.ty fragment.first link.first) (end_cells model assoc.second.ty fragment.second link.second) (cell pair)
    (contains_map cell fragment.first pair has)

pub second_cell : (model : EntityModel) (assoc : Assoc) (fragment : LinkFragment) (link : Link) (pair : Pair) → Contains fragment.second pair
    → Contains {X = ColId × Value} (link_cells model assoc fragment link) (pair.col, value_beside pair.prop (key_props model assoc.second.ty) link.second)
second_cell model assoc fragment link pair has =
    let cell : Pair → ColId × Value = λ one. (one.col, value_beside one.prop (key_props model assoc.second.ty) link.second) in
    Contains-append_right {X = ColId × Value} (end_cells model assoc.first.ty fragment.first link.first) (end_cells model assoc.second.ty fragment.second link.second) (cell pair)
    (contains_map cell fragment.second pair has)

-- what a legal state holds of a link of an association
module _ (model : EntityModel) (state : State) (legal : IsLegal model state) where
  pub link_is : (fragment : LinkFragment) (assoc : Assoc) → At model.assocs fragment.assoc.index assoc → (link : Link) → Contains (links_in state fragment.assoc) link
      → IsLink model assoc link
  link_is fragment assoc here link has = All-contains (IsLink model assoc) (links_in state fragment.assoc) link (legal.shape.links fragment.assoc assoc here) has

  pub ends_are : (fragment : LinkFragment) (assoc : Assoc) → At model.assocs fragment.assoc.index assoc → (link : Link) → Contains (links_in state fragment.assoc) link
      → HasEntityAt model state assoc.first link.first × HasEntityAt model state assoc.second link.second
  ends_are fragment assoc here link has =
      let Ends : Link → Type 0 = λ one. HasEntityAt model state assoc.first one.first × HasEntityAt model state assoc.second one.second in
      let links : AreLegalLinks model state assoc (links_in state fragment.assoc) = legal.links fragment.assoc assoc here (link_is fragment assoc here link has).independent in
      All-contains Ends (links_in state fragment.assoc) link links.ends has

module _ (schema : Schema) (inherits : InheritsKeys schema.model) (t : TableId) (owner : SetId) (pairing : List Pair) (owned : IsOwned schema t owner pairing) (state : State)
    (legal : IsLegal schema.model state) where
  legal_set : IsLegalSet schema.model owned.set (entities_in state owner)
  legal_set = legal.sets owner owned.set owned.is_set

  -- a key stands once
  pub one_entity : (x y : Entity) → Contains (entities_in state owner) x → Contains (entities_in state owner) y → key_of schema.model x ≡ key_of schema.model y → x ≡ y
  one_entity x y has_x has_y same = same_by_key (key_of schema.model) (entities_in state owner) x y legal_set.keys has_x has_y same

  -- an entity's key is that of the set's element type
  pub element_key : (x : Entity) → Contains (entities_in state owner) x → key_props schema.model x.ty ≡ key_props schema.model owned.set.element
  element_key x has = inherits.same x.ty owned.set.element (All-contains (HasFittingType schema.model owned.set) (entities_in state owner) x legal_set.types has).under

  -- the row of cells that hold what the pairing says
  row_of : (cells : List (ColId × Value)) (value : PropId → Value) → AreApart (cell_cols cells)
      → ((pair : Pair) → Contains pairing pair → Contains {X = ColId × Value} cells (pair.col, value pair.prop))
      → map (written_to cells) (key_columns schema.store t) ≡ map (λ pair. value pair.prop) pairing
  row_of cells value apart holds =
      ap (map (written_to cells)) (sym owned.cols)
      ∙ map-map (written_to cells) (λ (pair : Pair). pair.col) pairing
      ∙ map_agree (λ (pair : Pair). written_to cells pair.col) (λ (pair : Pair). value pair.prop) pairing
      (λ pair has. written_once cells apart pair.col (value pair.prop) (holds pair has))

  entity_row : (fragment : Fragment) → IsOfOwner owner pairing fragment → (x : Entity)
      → map (written_to (entity_cells schema.model fragment x)) (key_columns schema.store t) ≡ paired_key schema.model pairing x
  entity_row fragment of_owner x =
      let cell : Pair → ColId × Value = λ pair. (pair.col, value_of schema.model x pair.prop) in
      row_of (entity_cells schema.model fragment x) (value_of schema.model x) (subst AreApart (sym (entity_cols schema.model fragment x)) of_owner.once)
      (λ pair has. contains_map cell fragment.pairs pair (All-contains (Contains fragment.pairs) pairing pair of_owner.writes has))

  -- what a link writes of its host's key is the host's value
  host_value : (end : End) (x : Entity) → Contains (entities_in state owner) x → IsA schema.model x.ty end.ty → (key : List Value) → key ≡ key_of schema.model x → (pair : Pair)
      → Contains pairing pair
      → value_beside pair.prop (key_props schema.model end.ty) key ≡ value_of schema.model x pair.prop
  host_value end x has under key is pair paired =
      let Keyed : Pair → Type 0 = λ one. Contains (key_props schema.model owned.set.element) one.prop in
      let among : Contains (key_props schema.model x.ty) pair.prop = subst (λ props. Contains props pair.prop) (sym (element_key x has))
      (All-contains Keyed pairing pair owned.keyed paired) in
      ap (value_beside pair.prop (key_props schema.model end.ty)) is
      ∙ ap (λ props. value_beside pair.prop props (key_of schema.model x)) (sym (inherits.same x.ty end.ty under))
      ∙ beside_map (value_of schema.model x) (key_props schema.model x.ty) pair.prop among

  first_row : (assoc : Assoc) (fragment : LinkFragment) (link : Link) → AreApart (cols_of (fragment.first ++ fragment.second)) → All (Contains fragment.first) pairing
      → (x : Entity) → Contains (entities_in state owner) x → IsA schema.model x.ty assoc.first.ty → link.first ≡ key_of schema.model x
      → map (written_to (link_cells schema.model assoc fragment link)) (key_columns schema.store t) ≡ paired_key schema.model pairing x
  first_row assoc fragment link apart writes x has under is =
      row_of (link_cells schema.model assoc fragment link) (value_of schema.model x) (subst AreApart (sym (link_cols schema.model assoc fragment link)) apart)
      (λ pair paired. let P : Value → Type 0 = λ v. Contains {X = ColId × Value} (link_cells schema.model assoc fragment link) (pair.col, v) in
      subst P (host_value assoc.first x has under link.first is pair paired)
      (first_cell schema.model assoc fragment link pair (All-contains (Contains fragment.first) pairing pair writes paired)))

  second_row : (assoc : Assoc) (fragment : LinkFragment) (link : Link) → AreApart (cols_of (fragment.first ++ fragment.second)) → All (Contains fragment.second) pairing
      → (x : Entity) → Contains (entities_in state owner) x → IsA schema.model x.ty assoc.second.ty → link.second ≡ key_of schema.model x
      → map (written_to (link_cells schema.model assoc fragment link)) (key_columns schema.store t) ≡ paired_key schema.model pairing x
  second_row assoc fragment link apart writes x has under is =
      row_of (link_cells schema.model assoc fragment link) (value_of schema.model x) (subst AreApart (sym (link_cols schema.model assoc fragment link)) apart)
      (λ pair paired. let P : Value → Type 0 = λ v. Contains {X = ColId × Value} (link_cells schema.model assoc fragment link) (pair.col, v) in
      subst P (host_value assoc.second x has under link.second is pair paired)
      (second_cell schema.model assoc fragment link pair (All-contains (Contains fragment.second) pairing pair writes paired)))

  -- the entity at an end that is the owner's
  host_at : (end : End) (key : List Value) → end.set ≡ owner → HasEntityAt schema.model state end key
      → (x : Entity) × Contains (entities_in state owner) x × IsA schema.model x.ty end.ty × (key ≡ key_of schema.model x)
  host_at end key of_set any =
      let Here : Entity → Type 0 = λ x. IsA schema.model x.ty end.ty × (key_of schema.model x ≡ key) in
      let found = of_any Here (entities_in state end.set) any in
      (found.0, subst (λ (s : SetId). Contains (entities_in state s) found.0) of_set found.1, found.2.0, sym found.2.1)

  -- and an entity of that key is it
  under_end : (end : End) (key : List Value) → end.set ≡ owner → HasEntityAt schema.model state end key → (x : Entity) → Contains (entities_in state owner) x
      → key ≡ key_of schema.model x → IsA schema.model x.ty end.ty
  under_end end key of_set any x has is =
      let found = host_at end key of_set any in
      let P : Entity → Type 0 = λ y. IsA schema.model y.ty end.ty in
      subst P (one_entity found.0 x found.1 has (sym found.3 ∙ is)) found.2

  -- the key of a writing, over the table
  key_over : (writing other : Writing) → writing ≡ other → other.table ≡ t → written_key schema.store writing ≡ map (written_to other.cells) (key_columns schema.store t)
  key_over writing other is to = ap (written_key schema.store) is ∙ ap (λ u. map (written_to other.cells) (key_columns schema.store u)) to

  -- an entity stands at the row that it writes
  pub entity_key : (fragment : Fragment) → Contains schema.mapping.fragments fragment → fragment.table ≡ t → (x : Entity)
      → written_key schema.store (entity_writing schema.model fragment x) ≡ paired_key schema.model pairing x
  entity_key fragment mapped to x =
      key_over (entity_writing schema.model fragment x) (entity_writing schema.model fragment x) refl to ∙ entity_row fragment (of_owner_at schema t owner pairing owned fragment mapped to) x

  -- and so does the entity at which a link is hosted
  pub link_key : (fragment : LinkFragment) (assoc : Assoc) (link : Link) → LinkWrites schema state fragment assoc link → fragment.table ≡ t → (x : Entity)
      → Contains (entities_in state owner) x
      → IsLinkOf schema owner pairing assoc fragment link x → written_key schema.store (link_writing schema.model fragment assoc link) ≡ paired_key schema.model pairing x
  link_key fragment assoc link writes to x has of_x =
      let hosted = hosted_at schema t owner pairing owned fragment assoc writes.mapped writes.is_assoc to in
      let ends = ends_are schema.model state legal fragment assoc writes.is_assoc link writes.stands in
      key_over (link_writing schema.model fragment assoc link) (link_writing schema.model fragment assoc link) refl to
      ∙ ⊎_elim
      (λ (at : IsHostAt owner pairing assoc.first fragment.first × (link.first ≡ key_of schema.model x)).
      first_row assoc fragment link hosted.once at.0.writes x has (under_end assoc.first link.first at.0.of_set ends.0 x has at.1) at.1)
      (λ (at : IsHostAt owner pairing assoc.second fragment.second × (link.second ≡ key_of schema.model x)).
      second_row assoc fragment link hosted.once at.0.writes x has (under_end assoc.second link.second at.0.of_set ends.1 x has at.1) at.1)
      of_x

  -- each link is hosted at an entity of the owner
  pub host_of : (fragment : LinkFragment) (assoc : Assoc) (link : Link) → LinkWrites schema state fragment assoc link → fragment.table ≡ t
      → (x : Entity) × Contains (entities_in state owner) x × IsLinkOf schema owner pairing assoc fragment link x
  host_of fragment assoc link writes to =
      let hosted = hosted_at schema t owner pairing owned fragment assoc writes.mapped writes.is_assoc to in
      let ends = ends_are schema.model state legal fragment assoc writes.is_assoc link writes.stands in
      ⊎_elim
      (λ (host : IsHostAt owner pairing assoc.first fragment.first). let found = host_at assoc.first link.first host.of_set ends.0 in (found.0, found.1, inl (host, found.3)))
      (λ (host : IsHostAt owner pairing assoc.second fragment.second). let found = host_at assoc.second link.second host.of_set ends.1 in (found.0, found.1, inr (host, found.3)))
      hosted.host

  abbrev Local : List Value → Writing → Type 0
  Local key writing = (x : Entity) × StandsAt schema state owner pairing key x × IsWritingOf schema state owner pairing x writing

  -- a writing to a table is that of an entity which stands at its row
  pub local : (key : List Value) (writing : Writing) → WritesRow schema state t key writing → Local key writing
  local key writing to_row = by to_row.writes
    where
      by : Writes schema state writing → Local key writing
      by (inl (fragment, x, writes, is)) =
          let to : fragment.table ≡ t = sym (ap (λ (w : Writing). w.table) is) ∙ to_row.to_table in
          let of_set = (of_owner_at schema t owner pairing owned fragment writes.mapped to).of_set in
          let stands : Contains (entities_in state owner) x = subst (λ (s : SetId). Contains (entities_in state s) x) of_set writes.stands in
          let at_key = sym (entity_key fragment writes.mapped to x) ∙ sym (ap (written_key schema.store) is) ∙ to_row.to_key in
          (x, record { stands = stands; at_key = at_key }, inl (fragment, of_set, writes, is))
      by (inr (fragment, assoc, link, writes, is)) =
          let to : fragment.table ≡ t = sym (ap (λ (w : Writing). w.table) is) ∙ to_row.to_table in
          let host = host_of fragment assoc link writes to in
          let at_key = sym (link_key fragment assoc link writes to host.0 host.1 host.2) ∙ sym (ap (written_key schema.store) is) ∙ to_row.to_key in
          (host.0, record { stands = host.1; at_key = at_key }, inr (fragment, assoc, link, writes, host.2, is))

  -- one entity at most stands at a row
  pub one : (key : List Value) (x y : Entity) → StandsAt schema state owner pairing key x → StandsAt schema state owner pairing key y → x ≡ y
  one key x y first second =
      let keys : List PropId = key_props schema.model owned.set.element in
      one_entity x y first.stands second.stands
      (ap (map (value_of schema.model x)) (element_key x first.stands)
      ∙ map_agree (value_of schema.model x) (value_of schema.model y) keys (λ prop has.
      let found = map_contains (λ (pair : Pair). pair.prop) pairing prop (All-contains (Contains (props_in pairing)) keys prop owned.paired has) in
      let P : PropId → Type 0 = λ p. value_of schema.model x p ≡ value_of schema.model y p in
      subst P found.2 (agree_by_map (λ (pair : Pair). value_of schema.model x pair.prop) (λ (pair : Pair). value_of schema.model y pair.prop) pairing
      (first.at_key ∙ sym second.at_key) found.0 found.1))
      ∙ ap (map (value_of schema.model y)) (sym (element_key y second.stands)))

  -- the writings to a row are those of the entity which stands there
  pub whole : (key : List Value) (x : Entity) → StandsAt schema state owner pairing key x → (writing : Writing)
      → WritesRow schema state t key writing ↔ ((writing.table ≡ t) × IsWritingOf schema state owner pairing x writing)
  whole key x stands writing = (forth, back)
    where
      forth : WritesRow schema state t key writing → (writing.table ≡ t) × IsWritingOf schema state owner pairing x writing
      forth to_row =
          let found = local key writing to_row in
          let P : Entity → Type 0 = λ y. IsWritingOf schema state owner pairing y writing in
          (to_row.to_table, subst P (one key found.0 x found.1 stands) found.2)

      back : (writing.table ≡ t) × IsWritingOf schema state owner pairing x writing → WritesRow schema state t key writing
      back (to, inl (fragment, of_set, writes, is)) =
          let to_t : fragment.table ≡ t = sym (ap (λ (w : Writing). w.table) is) ∙ to in
          record { writes = inl (fragment, x, writes, is); to_table = to; to_key = ap (written_key schema.store) is ∙ entity_key fragment writes.mapped to_t x ∙ stands.at_key }
      back (to, inr (fragment, assoc, link, writes, of_x, is)) =
          let to_t : fragment.table ≡ t = sym (ap (λ (w : Writing). w.table) is) ∙ to in
          let row = link_key fragment assoc link writes to_t x stands.stands of_x in
          record { writes = inr (fragment, assoc, link, writes, is); to_table = to; to_key = ap (written_key schema.store) is ∙ row ∙ stands.at_key }
