-- Classes of linked places are groups of joined properties and columns.
use Rattle.std.proofs.Common.{◌≡◌, ℕ, ◌<◌, List, length, slice_get, Option, Some, None, IsSome, refl, sym, ap, subst, ◌∙◌, arith}
use Rattle.std.specs.Prelude.{option_and_then}
use Rattle.std.proofs.lemmas.Option.{same_Some}
use Rattle.round_trip.specs.Words.{Fragment, Pair, Schema}
use Rattle.emc_base.proofs.Lists.{item_at}
use Rattle.round_trip.specs.soundness.mappings.Joined.{IsNoKey, Joined, Member, col, prop}
use Rattle.round_trip.specs.soundness.mappings.Joined as joined
use Rattle.groupings.specs.declared.linked_places.classes.Classes.{Classes}
use Rattle.groupings.specs.declared.linked_places.classes.Link.{Link}
use Rattle.groupings.specs.linked_places.Links.{IsClasses, IsLink, Linked}
use Rattle.groupings.specs.linked_places.Links as linked
use Rattle.member_groups.specs.declared.joined_groups.groups.Groups.{Groups}
use Rattle.member_groups.specs.declared.joined_groups.places.Places.{Places}
use Rattle.member_groups.specs.joined_groups.Groups.{AreGroups, group_of}
use Rattle.member_groups.specs.joined_groups.Places.{ArePlaces, place_in, place_of, start_of}
use Rattle.member_groups.specs.joined_groups.Writes.{AreLinks}
use Rattle.member_groups.proofs.joined_groups.Apart.{place_once, place_within}
use Rattle.member_groups.proofs.joined_groups.Writing.{link_from, link_parts}

-- joined properties and columns are no parts of keys
pub joined_free : (schema : Schema) (one other : Member) → Joined schema one other → IsNoKey schema one × IsNoKey schema other
joined_free schema one other (joined.pair fragment written has among free_prop free_col) = (free_prop, free_col)
joined_free schema one other (joined.same _ free) = (free, free)
joined_free schema one other (joined.back _ _ rest) = let frees = joined_free schema other one rest in (frees.1, frees.0)
joined_free schema one other (joined.chain _ next _ first rest) = ((joined_free schema one next first).0, (joined_free schema next other rest).1)

module _ (schema : Schema) (places : Places) (placed : ArePlaces schema places) (links : List Link) (are_links : AreLinks places schema.mapping.fragments links)
    (classes : Classes) (are_classes : IsClasses places.count links classes) where
  abbrev place : Member → ℕ
  place = place_in schema

  abbrev IsLinked : ℕ → ℕ → Type 0
  IsLinked = Linked (IsLink places.count links)

  abbrev groups : Groups
  groups = record { places = places; classes = classes }

  within : (member : Member) → IsNoKey schema member → place member < places.count
  within member free =
      let count : places.count ≡ start_of schema.model schema.store.tables (length schema.store.tables) = placed.count in
      let below : place member < start_of schema.model schema.store.tables (length schema.store.tables) = place_within schema member free in
      omega (arith, count, below)

  -- what has a place is no part of a key, and the place is its own
  free_at : (member : Member) (k : ℕ) → place_of places member ≡ Some k → IsNoKey schema member × (place member ≡ k)
  free_at member k at =
      let free = placed.only member (let some : IsSome (place_of places member) = cc in some) in
      (free, same_Some (place member) k (sym (placed.some member free) ∙ at))

  -- the places of joined properties and columns are linked
  joined_linked : (one other : Member) → Joined schema one other → IsLinked (place one) (place other)
  joined_linked one other (joined.pair fragment written has among free_prop free_col) =
      let first = prop written.prop in
      let second = col fragment.table written.col in
      let is = link_from places fragment.table written (place first) (place second) (placed.some first free_prop) (placed.some second free_col) in
      linked.link (place first) (place second)
      ((are_links (record { one = place first; other = place second })).1 (fragment, has, (written, among, is)), within first free_prop, within second free_col)
  joined_linked one other (joined.same _ free) = linked.same (place one)
  joined_linked one other (joined.back _ _ rest) = linked.back (place other) (place one) (joined_linked other one rest)
  joined_linked one other (joined.chain _ next _ first rest) =
      linked.chain (place one) (place next) (place other) (joined_linked one next first) (joined_linked next other rest)

  -- a property or a column with this place, to which another is joined
  abbrev JoinsTo : Member → ℕ → Type 0
  JoinsTo one k = (other : Member) × IsNoKey schema other × (place other ≡ k) × Joined schema one other

  abbrev JoinsFrom : ℕ → Member → Type 0
  JoinsFrom k other = (one : Member) × IsNoKey schema one × (place one ≡ k) × Joined schema one other

  -- the property and the column of a link are joined
  link_joins : (a b : ℕ) → IsLink places.count links a b → (one : Member) × (other : Member) × IsNoKey schema one × IsNoKey schema other
      × (place one ≡ a) × (place other ≡ b) × Joined schema one other
  link_joins a b is =
      let by = (are_links (record { one = a; other = b })).0 is.0 in
      let fragment : Fragment = by.0 in
      let pair : Pair = by.2.0 in
      let parts = link_parts places fragment.table pair (record { one = a; other = b }) by.2.2 in
      let first = free_at (prop pair.prop) a parts.0 in
      let second = free_at (col fragment.table pair.col) b parts.1 in (
        prop pair.prop,
        col fragment.table pair.col,
        first.0,
        second.0,
        first.1,
        second.1,
        joined.pair fragment pair by.1 by.2.1 first.0 second.0,
      )

  -- what is joined to the one end of linked places, and to the other
  linked_joins : (a b : ℕ) → IsLinked a b → ((one : Member) → IsNoKey schema one → place one ≡ a → JoinsTo one b)
      × ((other : Member) → IsNoKey schema other → place other ≡ b → JoinsFrom a other)
  linked_joins a b (linked.same _) = (λ one free is. (one, free, is, joined.same one free), λ other free is. (other, free, is, joined.same other free))
  linked_joins a b (linked.link _ _ is) =
      let ends = link_joins a b is in (
        λ one free at. (
          ends.1,
          ends.3,
          ends.5,
          let P : Member → Type 0 = λ m. Joined schema m ends.1 in
              subst P (place_once schema ends.0 one ends.2 free (ends.4 ∙ sym at)) ends.6,
        ),
        λ other free at. (
          ends.0,
          ends.2,
          ends.4,
          let P : Member → Type 0 = λ m. Joined schema ends.0 m in
              subst P (place_once schema ends.1 other ends.3 free (ends.5 ∙ sym at)) ends.6,
        ),
      )
  linked_joins a b (linked.back _ _ rest) =
      let ways = linked_joins b a rest in (
        λ one free at. (let way = ways.1 one free at in (way.0, way.1, way.2, joined.back way.0 one way.3)),
        λ other free at. (let way = ways.0 other free at in (way.0, way.1, way.2, joined.back other way.0 way.3)),
      )
  linked_joins a b (linked.chain _ c _ first rest) =
      let firsts = linked_joins a c first in
      let rests = linked_joins c b rest in (
        λ one free at.
            (let next = firsts.0 one free at in
            let last = rests.0 next.0 next.1 next.2 in
            (last.0, last.1, last.2, joined.chain one next.0 last.0 next.3 last.3)),
        λ other free at.
            (let next = rests.1 other free at in
            let last = firsts.1 next.0 next.1 next.2 in
            (last.0, last.1, last.2, joined.chain last.0 next.0 other last.3 next.3)),
      )

  -- the group of what is no part of a key is the class of its place
  group_is : (member : Member) → IsNoKey schema member → group_of groups member ≡ slice_get classes.numbers (place member)
  group_is member free = ap (λ (o : Option ℕ). option_and_then (slice_get classes.numbers) o) (placed.some member free)

  some_group : (member : Member) → IsNoKey schema member → IsSome (group_of groups member)
  some_group member free =
      let size : length classes.numbers ≡ places.count = are_classes.size in
      let below : place member < places.count = within member free in
      let found = item_at classes.numbers (place member) (omega (arith, size, below)) in
      let is : group_of groups member ≡ Some found.0 = group_is member free ∙ found.1 in
      cc

  only_group : (member : Member) → IsSome (group_of groups member) → IsNoKey schema member
  only_group member some = placed.only member (by (place_of places member) some)
    where
      by : (o : Option ℕ) → IsSome (option_and_then (slice_get classes.numbers) o) → IsSome o
      by None none = absurd cc
      by (Some k) found = refl

  pub are_groups : AreGroups schema groups
  are_groups = record {
    some = some_group;
    only = only_group;
    each = λ one other free_one free_other. (
      λ same.
          (let way = (linked_joins (place one) (place other)
          ((are_classes.each (place one) (place other) (within one free_one) (within other free_other)).0 (sym (group_is one free_one) ∙ same ∙ group_is other free_other))).0
          one free_one refl in
          let P : Member → Type 0 = λ m. Joined schema one m in
          subst P (place_once schema way.0 other way.1 free_other way.2) way.3),
      λ are_joined. group_is one free_one
          ∙ (are_classes.each (place one) (place other) (within one free_one) (within other free_other)).1 (joined_linked one other are_joined)
          ∙ sym (group_is other free_other),
    );
  }
