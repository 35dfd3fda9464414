use Rattle.std.proofs.Common.{◌≡◌, List, Bool, IsTrue, subst, subst₂, sym, ◌∙◌}
use Rattle.round_trip.specs.Words.{End, Entity, Mult, Value, HasCount, IsA, key_of}
use Rattle.state_legality.specs.link_legality.Sides.{end_at, key_at, partners_at}
use Rattle.state_legality.specs.link_legality.Ends.{IsMarked, MarksUnder}
use Rattle.state_legality.specs.link_legality.Counts.{fits}
use Rattle.state_legality.proofs.link_legality.Counting.{count_fits, fits_count}
use Rattle.state_legality.proofs.link_legality.Said.{miscounted_as}
use Rattle.state_legality.proofs.link_legality.counts.first_miscounted.Goals as goal

pub returns-in-Many : goal.returns-in-Many
returns-in-Many c = λ found some.
    let side = c.args.side in
    let Counts : Mult → Type 0 = λ mult. HasCount mult (λ link. key_at link side ≡ key_of c.args.model.now some.item) c.args.links.now in
    some.holds.broken (subst Counts (sym (sym c.partners_of.ensures ∙ c.in-Many.is)) tt)

pub returns : goal.returns
returns c =
    let model = c.args.model.now in
    let assoc = c.args.assoc.now in
    let side = c.args.side in
    let links = c.args.links.now in
    let partners = c.in_ok-partners.partners in
    let mult = partners_at assoc side in
    let P : List Bool → End → Type 0 = λ under end. MarksUnder model end.ty under in
    let marked = subst₂ P (sym c.deref.ensures.value) c.end_of.ensures c.in_ok-under.ensures in
    let Marked : Entity → Type 0 = λ entity. IsMarked c.deref.result.now entity.ty in
    let Stands : Entity → Type 0 = λ entity. IsA model entity.ty (end_at assoc side).ty in
    let Fits : List Value → Type 0 = λ key. IsTrue (fits mult partners key) in
    let Counts : List Value → Type 0 = λ key. HasCount mult (λ link. key_at link side ≡ key) links in
    miscounted_as c.args.a assoc side model Marked Stands Fits Counts (λ entity. marked entity.ty)
    (λ key. (fits_count side links partners c.in_ok-partners.ensures key mult, count_fits side links partners c.in_ok-partners.ensures key mult))
    c.args.entities.now c.in_ok-found.found c.in_ok-found.ensures
