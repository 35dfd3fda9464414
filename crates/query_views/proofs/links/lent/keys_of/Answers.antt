use Rattle.std.proofs.Common.{◌≡◌, ◌⊎◌, inl, inr, List, length, get_or, All, Bool, arith, refl, sym, subst, ◌∙◌}
use Rattle.std.specs.Borrow.{Bor}
use Rattle.std.specs.Global.{Vec}
use Rattle.std.proofs.lemmas.Option.{slice_get_read, slice_get_within}
use Rattle.std.proofs.lemmas.Result.{IfOk-weaker}
use Rattle.cells.specs.Cells.{is_free_in}
use Rattle.cells.specs.Parts.{schema_in}
use Rattle.emc_base.specs.Lists.{At}
use Rattle.region_states.specs.region_basis.BasisOf.{basis_of}
use Rattle.region_states.proofs.region_basis.Bases.{basis_is}
use Rattle.regions.specs.Basis.{Basis, host_end}
use Rattle.round_trip.specs.Words.{ColId, End, EntitySet, LinkFragId, SetId, TableId, Tables, Value}
use Rattle.table_owners.specs.declared.places.LinkPlace.{LinkPlace}
use Rattle.table_owners.specs.declared.places.LinkPlace.TheVariants as place
use Rattle.query_views.specs.Answers.{AreLent, AreLentSets}
use Rattle.query_views.specs.LinkKeys.{AreLinkKeys, HaveLinkCells, ShowJoinedKeys, hosted_keys, shown_keys}
use Rattle.query_views.specs.declared.lending.LentEntity.{LentEntity}
use Rattle.query_views.proofs.LentAt.{cells_decide}
use Rattle.query_views.proofs.links.Gathered.{hosted_given, joined_at, joined_given, none_given, set_there}
use Rattle.query_views.proofs.links.HostedKeys.{cells_held}
use Rattle.query_views.proofs.links.lent.keys_of.Goals as goal

-- links that stand nowhere, or in the properties of a constraint, stand neither with entities nor in rows of their own
elsewhere : (told : LinkPlace) → (told ≡ place.Unmapped) ⊎ (told ≡ place.Constraint)
    → ((first_hosts : Bool) × (number : LinkFragId) × (told ≡ place.Hosted first_hosts number)) ⊎ ((number : LinkFragId) × (told ≡ place.Joined number)) → ⊥
elsewhere told (inl none) (inl (first_hosts, number, is)) = let never : place.Unmapped ≡ place.Hosted first_hosts number = sym none ∙ is in cc
elsewhere told (inl none) (inr (number, is)) = let never : place.Unmapped ≡ place.Joined number = sym none ∙ is in cc
elsewhere told (inr none) (inl (first_hosts, number, is)) = let never : place.Constraint ≡ place.Hosted first_hosts number = sym none ∙ is in cc
elsewhere told (inr none) (inr (number, is)) = let never : place.Constraint ≡ place.Joined number = sym none ∙ is in cc

-- the entities at the place of a set of the model are the set's
set_lent : (basis : Basis) (is_free : TableId → ColId → Bool) (tables : Tables) (sets : List (Vec LentEntity)) → AreLentSets basis is_free tables sets → (s : SetId)
    → (of_set : Vec LentEntity) → (set : EntitySet) × At basis.schema.model.sets s.index set → of_set ≡ get_or sets s.index of_set → AreLent basis is_free tables s of_set.items
set_lent basis is_free tables sets are s of_set (set, here) is =
    let size : length sets ≡ length basis.schema.model.sets = are.count in
    let within = slice_get_within basis.schema.model.sets s.index set here in
    are.each s of_set (slice_get_read sets (length sets) s.index of_set refl (omega (arith, size, within)) is)

pub link_place-requires : goal.link_place-requires
link_place-requires c =
    let size : length c.args.parts.now.cells.now.places ≡ length c.args.parts.now.model.now.assocs = c.requires.parts.cells.places.size in
    let within = slice_get_within c.args.parts.now.model.now.assocs c.args.assoc.index c.args.declared.now c.requires.assoc in
    omega (arith, size, within)

pub hosted_keys-requires : goal.hosted_keys-requires
hosted_keys-requires c =
    let parts = c.args.parts.now in
    let sets : List (Vec LentEntity) = c.args.sets.now in
    let a = c.args.assoc in
    let there = set_there parts c.requires.parts (basis_is parts c.requires.parts) (cells_decide parts c.requires.parts) c.args.tables.now a c.args.declared.now c.requires.assoc
    c.link_place.result c.link_place.ensures c.in-Hosted.first_hosts c.in-Hosted.fragment c.in-Hosted.is in
    let ends : c.host_end.result.now ≡ host_end c.in-Hosted.first_hosts c.args.declared.now = c.host_end.ensures in
    let Set : End → Type 0 = λ end. (set : EntitySet) × At parts.model.now.sets end.set.index set in
    let of_set : Vec LentEntity = c.index-sets-host.result in
    let lent : AreLent (basis_of parts) (is_free_in parts.cells.now) c.args.tables.now c.host_end.result.now.set of_set.items =
    set_lent (basis_of parts) (is_free_in parts.cells.now) c.args.tables.now sets c.requires.sets c.host_end.result.now.set of_set (subst Set (sym ends) there) c.index-sets-host.is in
    subst (All HaveLinkCells) (sym c.as_slice-entities.ensures.value)
    (cells_held (basis_of parts) (is_free_in parts.cells.now) c.args.tables.now c.host_end.result.now.set of_set.items lent)

pub joined_keys-requires-clause-joined : goal.joined_keys-requires-clause-joined
joined_keys-requires-clause-joined c =
    let parts = c.args.parts.now in
    joined_at parts c.requires.parts (basis_is parts c.requires.parts) (cells_decide parts c.requires.parts) c.args.tables.now c.args.assoc c.args.declared.now c.requires.assoc
    c.link_place.result c.link_place.ensures c.in-Joined.number c.in-Joined.is

pub returns-in-Hosted : goal.returns-in-Hosted
returns-in-Hosted c =
    let parts = c.args.parts.now in
    let basis = basis_of parts in
    let is_free = is_free_in parts.cells.now in
    let tables = c.args.tables.now in
    let sets : List (Vec LentEntity) = c.args.sets.now in
    let a = c.args.assoc in
    let first_hosts = c.in-Hosted.first_hosts in
    let there = set_there parts c.requires.parts (basis_is parts c.requires.parts) (cells_decide parts c.requires.parts) tables a c.args.declared.now c.requires.assoc
    c.link_place.result c.link_place.ensures first_hosts c.in-Hosted.fragment c.in-Hosted.is in
    let ends : c.host_end.result.now ≡ host_end first_hosts c.args.declared.now = c.host_end.ensures in
    let Set : End → Type 0 = λ end. (set : EntitySet) × At parts.model.now.sets end.set.index set in
    let of_set : Vec LentEntity = c.index-sets-host.result in
    let entities : List LentEntity = c.as_slice-entities.result.now in
    let Lent : End → List LentEntity → Type 0 = λ end lent. AreLent basis is_free tables end.set lent in
    let lent : Lent c.host_end.result.now of_set.items =
    set_lent basis is_free tables sets c.requires.sets c.host_end.result.now.set of_set (subst Set (sym ends) there) c.index-sets-host.is in
    let here : Lent (host_end first_hosts c.args.declared.now) entities = subst (λ end. Lent end entities) ends (subst (Lent c.host_end.result.now) (sym c.as_slice-entities.ensures.value) lent) in
    let Keys : Vec (Vec (Bor Value) × Unit) → Type 0 = λ keyed. shown_keys keyed.items ≡ hosted_keys a first_hosts entities in
    let Are : Vec (Vec (Bor Value) × Unit) → Type 0 = λ keyed. AreLinkKeys basis is_free tables a (shown_keys keyed.items) in
    IfOk-weaker c.hosted_keys.result Keys Are (λ keyed keys.
    hosted_given parts c.requires.parts (basis_is parts c.requires.parts) (cells_decide parts c.requires.parts) tables a c.args.declared.now c.requires.assoc
    c.link_place.result c.link_place.ensures first_hosts c.in-Hosted.fragment c.in-Hosted.is entities here (shown_keys keyed.items) keys) c.hosted_keys.ensures

pub returns-in-Joined : goal.returns-in-Joined
returns-in-Joined c =
    let parts = c.args.parts.now in
    let Shows : Vec (Vec (Bor Value) × Unit) → Type 0 = λ keyed. ShowJoinedKeys (schema_in parts) c.args.declared.now c.in-Joined.number c.args.tables.now (shown_keys keyed.items) in
    let Are : Vec (Vec (Bor Value) × Unit) → Type 0 = λ keyed. AreLinkKeys (basis_of parts) (is_free_in parts.cells.now) c.args.tables.now c.args.assoc (shown_keys keyed.items) in
    IfOk-weaker c.joined_keys.result Shows Are (λ keyed shows.
    joined_given parts c.requires.parts (basis_is parts c.requires.parts) (cells_decide parts c.requires.parts) c.args.tables.now c.args.assoc c.args.declared.now c.requires.assoc
    c.link_place.result c.link_place.ensures c.in-Joined.number c.in-Joined.is (shown_keys keyed.items) shows) c.joined_keys.ensures

pub returns-in-Unmapped : goal.returns-in-Unmapped
returns-in-Unmapped c =
    let parts = c.args.parts.now in
    let Given : List (Vec (Bor Value) × Unit) → Type 0 = λ items. AreLinkKeys (basis_of parts) (is_free_in parts.cells.now) c.args.tables.now c.args.assoc (shown_keys items) in
    let none = none_given parts c.requires.parts (basis_is parts c.requires.parts) (cells_decide parts c.requires.parts) c.args.tables.now c.args.assoc c.args.declared.now c.requires.assoc
    c.link_place.result c.link_place.ensures in
    subst Given (sym c.new.ensures.items) (none (λ first_hosts number is. elsewhere c.link_place.result c.in-Unmapped.is (inl (first_hosts, number, is)))
    (λ number is. elsewhere c.link_place.result c.in-Unmapped.is (inr (number, is))))
