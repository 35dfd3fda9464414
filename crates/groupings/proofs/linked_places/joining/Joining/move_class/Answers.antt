use Rattle.std.proofs.Common.{◌≡◌, ◌++◌, ◌<◌, ℕ, List, All, length, set, length-set, refl, sym, ap, subst, subst₂, ◌∙◌}
use Rattle.std.proofs.lemmas.Option.{slice_get_read, slice_get_within}
use Rattle.std.proofs.lemmas.Result.{IfOk-weaker}
use Rattle.emc_base.specs.Lists.{At}
use Rattle.emc_base.proofs.Lists.{all_from_members}
use Rattle.groupings.specs.linked_places.Joinings.{AreListed, AreNumbered, Moves}
use Rattle.groupings.proofs.linked_places.Lists.{at_before_set}
use Rattle.groupings.proofs.linked_places.Moving.{moved_listed, numbered_moves}
use Rattle.groupings.proofs.linked_places.joining.Joining.move_class.Goals as goal

pub renumber-requires : goal.renumber-requires
renumber-requires c =
    let old = c.args.self.now in
    let places = c.index_mut.result.now in
    let at_from = slice_get_read old.members.items (length old.members.items) c.args.from places refl c.requires.from c.index_mut.ensures.value in
    let Inside : ℕ → Type 0 = λ place. place < length old.numbers.items in
    let P : List ℕ → Type 0 = λ xs. All Inside xs in
    subst P (sym (c.as_slice.ensures.items ∙ c.replace-moved.ensures.value))
    (all_from_members Inside places (λ place has. slice_get_within old.numbers.items place c.args.from (c.requires.joining.only place c.args.from (places, at_from, has))))

-- the places of the two numbers, and which of them have been given the other
module _ (c : goal.After-drop-moved-inside) where
  at_from : At c.args.self.now.members.items c.args.from c.index_mut.result.now
  at_from =
      let members = c.args.self.now.members.items in
      slice_get_read members (length members) c.args.from c.index_mut.result.now refl c.requires.from c.index_mut.ensures.value

  at_to : At c.args.self.now.members.items c.args.to c.index_mut-2.result.now
  at_to =
      let members = c.args.self.now.members.items in
      let emptied = set members c.args.from c.replace-moved.new.dest in
      at_before_set members c.args.from c.args.to c.replace-moved.new.dest c.index_mut-2.result.now c.requires.apart
      (slice_get_read emptied (length members) c.args.to c.index_mut-2.result.now (sym (length-set members c.args.from c.replace-moved.new.dest))
      c.requires.to c.index_mut-2.ensures.value)

  numbered : AreNumbered c.args.to c.index_mut.result.now c.args.self.now.numbers.items c.renumber.new.numbers.items
  numbered =
      let P : List ℕ → Type 0 = λ xs. AreNumbered c.args.to xs c.args.self.now.numbers.items c.renumber.new.numbers.items in
      subst P (c.as_slice.ensures.items ∙ c.replace-moved.ensures.value) c.renumber.ensures

pub returns-clause-joining : goal.returns-clause-joining
returns-clause-joining c =
    let old = c.args.self.now in
    let now = c.renumber.new.numbers.items in
    let places = c.index_mut.result.now in
    let others = c.index_mut-2.result.now in
    let Listed : List ℕ → List ℕ → Type 0 = λ emptied list. AreListed now (set (set old.members.items c.args.from emptied) c.args.to list) in
    IfOk-weaker c.add_places.result (λ _. c.add_places.new.list ≡ others ++ c.as_slice-2.result.now) (λ _. Listed c.replace-moved.new.dest c.add_places.new.list)
    (λ _ added. subst₂ Listed (sym (c.replace-moved.ensures.after ∙ c.empty.ensures))
    (sym (added ∙ ap (λ (xs : List ℕ). others ++ xs) (c.as_slice-2.ensures.items ∙ c.replace-moved.ensures.value)))
    (moved_listed c.args.from c.args.to c.requires.apart old.numbers.items now old.members.items c.requires.joining places others (at_from c) (at_to c) (numbered c)))
    c.add_places.ensures

pub returns-clause-moves : goal.returns-clause-moves
returns-clause-moves c =
    let old = c.args.self.now in
    let now = c.renumber.new.numbers.items in
    let others = c.index_mut-2.result.now in
    IfOk-weaker c.add_places.result (λ _. c.add_places.new.list ≡ others ++ c.as_slice-2.result.now) (λ _. Moves c.args.from c.args.to old.numbers.items now)
    (λ _ _. numbered_moves c.args.from c.args.to c.requires.apart old.numbers.items now old.members.items c.requires.joining c.index_mut.result.now others
    (at_from c) (at_to c) (numbered c))
    c.add_places.ensures
