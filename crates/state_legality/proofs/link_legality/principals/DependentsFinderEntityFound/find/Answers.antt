use Rattle.std.proofs.Common.{◌≢◌, List, All, IsTrue, sym, subst, ◌∙◌}
use Rattle.std.specs.BTreeSet.{contains}
use Rattle.std.specs.Cmp.Lexicographic.{slice_cmp}
use Rattle.std.proofs.lemmas.Bool.{both_ways}
use Rattle.emc_base.specs.Order.{value_cmp}
use Rattle.round_trip.specs.Words.{Null, PropId, Value, values_of}
use Rattle.state_legality.proofs.link_legality.principals.DependentsFinderEntityFound.find.Goals as goal

pub returns-then-not-have_no_null : goal.returns-then-not-have_no_null
returns-then-not-have_no_null c = λ found lost.
    let P : List PropId → Type 0 = λ props. All (λ value. value ≢ Null) (values_of c.args.self.now.model.now c.args.entity.now props) in
    both_ways c.have_no_null.result c.if-not-have_no_null.true (c.have_no_null.ensures.1 (subst P (sym c.as_slice-dependent.ensures.items) lost.not_null))

pub returns-then-contains : goal.returns-then-contains
returns-then-contains c = λ found lost.
    let P : List PropId → Type 0 = λ props. IsTrue (contains (slice_cmp value_cmp) c.args.self.now.held.now (values_of c.args.self.now.model.now c.args.entity.now props)) in
    let Q : List Value → Type 0 = λ values. IsTrue (contains (slice_cmp value_cmp) c.args.self.now.held.now values) in
    lost.broken (subst P c.as_slice-dependent.ensures.items (subst Q c.in_ok-values.ensures (sym c.contains.ensures ∙ c.if-contains.true)))
