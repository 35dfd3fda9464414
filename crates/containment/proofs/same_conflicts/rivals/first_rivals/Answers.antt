use Rattle.std.proofs.Common.{◌≡◌, ◌<◌, ℕ, All, AllPairs, Contains, List, length, sym, subst, ◌∙◌}
use Rattle.std.specs.BTreeMap.{values}
use Rattle.std.specs.Global.{Vec}
use Rattle.region_states.specs.region_basis.BasisOf.{basis_of}
use Rattle.region_states.proofs.region_basis.Bases.{basis_is}
use Rattle.containment.specs.same_conflicts.Rivals.{AreTwoOf, DifferAt}
use Rattle.containment.proofs.same_conflicts.Grouping.{places_below}
use Rattle.containment.proofs.same_conflicts.Left.{left_all, left_head, left_none, left_rest}
use Rattle.containment.proofs.same_conflicts.Pairs.{found_rivals, no_rivals}
use Rattle.containment.proofs.same_conflicts.rivals.first_rivals.Goals as goal

pub loop-alike-init : goal.loop-alike-init
loop-alike-init c =
    let Clean : Vec ℕ → Type 0 = λ list. AllPairs (DifferAt (basis_of c.args.parts.now) c.args.written.now) list.items in
    left_all Clean c.into_iter-alike-iterator.result

pub rivals_among-requires : goal.rivals_among-requires
rivals_among-requires c =
    let basis = basis_of c.args.parts.now in
    let written = c.args.written.now in
    let groups = c.in_ok-groups.groups in
    let list = c.in-Some.alike.now in
    let Clean : Vec ℕ → Type 0 = λ one. AllPairs (DifferAt basis written) one.items in
    let all : c.into_iter-alike-iterator.result ≡ values groups = c.into_iter-alike-iterator.ensures.into_iter_gives ∙ c.values-alike-items.ensures.rest in
    let among = subst (λ lists. Contains lists list) all
    (left_head Clean c.into_iter-alike-iterator.result c.loop-alike.alike-iterator c.next.new.self list c.loop-alike.invariant c.in-Some.ensures.steps) in
    let Below : List ℕ → Type 0 = λ places. All (λ place. place < length written) places in
    subst Below (sym c.as_slice.ensures.value) (places_below basis written groups c.in_ok-groups.ensures c.values-alike-items.ensures.ordered list among)

pub returns-in-Some-rivals_among-clause-found : goal.returns-in-Some-rivals_among-clause-found
returns-in-Some-rivals_among-clause-found c =
    let basis = basis_of c.args.parts.now in
    let written = c.args.written.now in
    let groups = c.in_ok-groups.groups in
    let list = c.in-Some.alike.now in
    let Clean : Vec ℕ → Type 0 = λ one. AllPairs (DifferAt basis written) one.items in
    let all : c.into_iter-alike-iterator.result ≡ values groups = c.into_iter-alike-iterator.ensures.into_iter_gives ∙ c.values-alike-items.ensures.rest in
    let among = subst (λ lists. Contains lists list) all
    (left_head Clean c.into_iter-alike-iterator.result c.loop-alike.alike-iterator c.next.new.self list c.loop-alike.invariant c.in-Some.ensures.steps) in
    let Two : List ℕ → Type 0 = λ places. AreTwoOf basis written places c.in-Some-rivals_among.rivals in
    found_rivals basis (basis_is c.args.parts.now c.requires.parts) c.requires.written.0 written c.requires.written.1 groups c.in_ok-groups.ensures
    c.values-alike-items.ensures.ordered list among c.in-Some-rivals_among.rivals (subst Two c.as_slice.ensures.value c.in-Some-rivals_among.ensures.found)

pub loop-alike-preserved : goal.loop-alike-preserved
loop-alike-preserved c =
    let list = c.in-Some.alike.now in
    let Clean : Vec ℕ → Type 0 = λ one. AllPairs (DifferAt (basis_of c.args.parts.now) c.args.written.now) one.items in
    let Differ : List ℕ → Type 0 = AllPairs (DifferAt (basis_of c.args.parts.now) c.args.written.now) in
    left_rest Clean c.into_iter-alike-iterator.result c.loop-alike.alike-iterator c.next.new.self list c.loop-alike.invariant c.in-Some.ensures.steps
    (subst Differ c.as_slice.ensures.value c.in_default.ensures.none)

pub returns-clause-none : goal.returns-clause-none
returns-clause-none c =
    let basis = basis_of c.args.parts.now in
    let written = c.args.written.now in
    let groups = c.in_ok-groups.groups in
    let Clean : Vec ℕ → Type 0 = λ one. AllPairs (DifferAt basis written) one.items in
    let all : c.into_iter-alike-iterator.result ≡ values groups = c.into_iter-alike-iterator.ensures.into_iter_gives ∙ c.values-alike-items.ensures.rest in
    no_rivals basis (basis_is c.args.parts.now c.requires.parts) c.requires.written.0 written c.requires.written.1 groups c.in_ok-groups.ensures
    c.values-alike-items.ensures.ordered
    (subst (All Clean) all (left_none Clean c.into_iter-alike-iterator.result c.loop-alike.alike-iterator c.loop-alike.invariant c.in-None.ensures.steps.0))
