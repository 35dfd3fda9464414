use Rattle.std.proofs.Common.{◌<◌, ℕ, List, length, subst, sym, ◌∙◌, arith}
use Rattle.std.proofs.lemmas.Option.{slice_get_within}
use Rattle.std.proofs.lemmas.Result.{IfOk-weaker}
use Rattle.emc_base.specs.Lists.{At}
use Rattle.groupings.specs.linked_places.Joinings.{AreListed, Joins, Moves}
use Rattle.groupings.proofs.linked_places.Moving.{joins_back, moves_joins, outside_joins, same_joins}
use Rattle.groupings.proofs.linked_places.joining.Joining.join.Goals as goal

-- the number of a place has a list of places
within : (numbers : List ℕ) (members : List (List ℕ)) → AreListed numbers members → (place number : ℕ) → At numbers place number → number < length members
within numbers members listed place number at =
    let mine = listed.each place number at in
    slice_get_within members number mine.0 mine.1

pub index-requires : goal.index-requires
index-requires c =
    let old = c.args.self.now in
    let inside : c.in-Some-Some.one < length old.members.items = within old.numbers.items old.members.items c.requires c.args.link.one c.in-Some-Some.one (sym c.number_at.ensures ∙ c.in-Some-Some.is-0) in
    grind arith

pub index-requires-2 : goal.index-requires-2
index-requires-2 c =
    let old = c.args.self.now in
    let inside : c.in-Some-Some.other < length old.members.items = within old.numbers.items old.members.items c.requires c.args.link.other c.in-Some-Some.other (sym c.number_at-2.ensures ∙ c.in-Some-Some.is-1) in
    grind arith

pub move_class-requires-clause-from : goal.move_class-requires-clause-from
move_class-requires-clause-from c =
    let old = c.args.self.now in
    within old.numbers.items old.members.items c.requires c.args.link.one c.in-Some-Some.one (sym c.number_at.ensures ∙ c.in-Some-Some.is-0)

pub move_class-requires-clause-to : goal.move_class-requires-clause-to
move_class-requires-clause-to c =
    let old = c.args.self.now in
    within old.numbers.items old.members.items c.requires c.args.link.other c.in-Some-Some.other (sym c.number_at-2.ensures ∙ c.in-Some-Some.is-1)

pub move_class-requires-else-len-clause-from : goal.move_class-requires-else-len-clause-from
move_class-requires-else-len-clause-from c =
    let old = c.args.self.now in
    within old.numbers.items old.members.items c.requires c.args.link.other c.in-Some-Some.other (sym c.number_at-2.ensures ∙ c.in-Some-Some.is-1)

pub move_class-requires-else-len-clause-to : goal.move_class-requires-else-len-clause-to
move_class-requires-else-len-clause-to c =
    let old = c.args.self.now in
    within old.numbers.items old.members.items c.requires c.args.link.one c.in-Some-Some.one (sym c.number_at.ensures ∙ c.in-Some-Some.is-0)

pub returns-in_default-clause-joins : goal.returns-in_default-clause-joins
returns-in_default-clause-joins c =
    let link = c.args.link in
    let numbers = c.args.self.now.numbers.items in
    joins_back link.other link.one numbers numbers (outside_joins link.other link.one numbers (sym c.number_at-2.ensures ∙ c.in_default.is-1))

pub returns-in_default-2-clause-joins : goal.returns-in_default-2-clause-joins
returns-in_default-2-clause-joins c =
    outside_joins c.args.link.one c.args.link.other c.args.self.now.numbers.items (sym c.number_at.ensures ∙ c.in_default.is-0)

pub returns-then-one-other-clause-joins : goal.returns-then-one-other-clause-joins
returns-then-one-other-clause-joins c =
    let link = c.args.link in
    let found = c.in-Some-Some in
    let numbers = c.args.self.now.numbers.items in
    let P : ℕ → Type 0 = λ n. At numbers link.other n in
    same_joins link.one link.other found.one numbers (sym c.number_at.ensures ∙ found.is-0)
    (subst P (sym c.if-one-other.true) (sym c.number_at-2.ensures ∙ found.is-1))

pub returns-then-len-clause-joins : goal.returns-then-len-clause-joins
returns-then-len-clause-joins c =
    let link = c.args.link in
    let found = c.in-Some-Some in
    let before = c.args.self.now.numbers.items in
    let after = c.move_class.new.self.numbers.items in
    IfOk-weaker c.move_class.result (λ _. Moves found.one found.other before after) (λ _. Joins link.one link.other before after) (λ _ moves.
    moves_joins found.one found.other c.if-one-other.false before after moves link.one link.other
    (sym c.number_at.ensures ∙ found.is-0) (sym c.number_at-2.ensures ∙ found.is-1))
    c.move_class.ensures.moves

pub returns-else-len-clause-joins : goal.returns-else-len-clause-joins
returns-else-len-clause-joins c =
    let link = c.args.link in
    let found = c.in-Some-Some in
    let before = c.args.self.now.numbers.items in
    let after = c.move_class-else-len.new.self.numbers.items in
    IfOk-weaker c.move_class-else-len.result (λ _. Moves found.other found.one before after) (λ _. Joins link.one link.other before after) (λ _ moves.
    joins_back link.other link.one before after (moves_joins found.other found.one (λ same. c.if-one-other.false (sym same)) before after moves link.other link.one
    (sym c.number_at-2.ensures ∙ found.is-1) (sym c.number_at.ensures ∙ found.is-0)))
    c.move_class-else-len.ensures.moves
