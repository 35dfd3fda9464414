use Rattle.std.proofs.Common.{◌⊎◌, ℕ, List, Contains, length, subst}
use Rattle.round_trip.specs.Words.{Fragment}
use Rattle.std.specs.BTreeSet.{BTreeSet}
use Rattle.member_groups.specs.declared.mapping_asks.member.MemberId.{MemberId}
use Rattle.member_groups.specs.mapping_asks.Adding.{Each, EachBelow, HasKey, Tells}
use Rattle.member_groups.specs.mapping_asks.Several.{StandsWithTwo}
use Rattle.member_groups.specs.Causes.{AsksGroup, IsSharer, MarksGroup}
use Rattle.member_groups.specs.mapping_asks.Writes.{WritesBy}
use Rattle.member_groups.proofs.mapping_asks.Adding.{adds_both, no_number, tells_added, tells_as}
use Rattle.member_groups.proofs.mapping_asks.Firsts.{stands_as}
use Rattle.member_groups.proofs.tested.tested_groups.Goals as goal

pub returns : goal.returns
returns c =
    let model = c.args.model.now in
    let mapping = c.args.mapping.now in
    let numbered = c.args.numbered.now in
    let twice = c.in_ok-twice.twice in
    let shared = c.in_ok-shared.shared in
    let writes = c.in_ok-writes.writes.items in
    let sharers = c.in_ok-sharers.sharers.items in
    let By : ℕ → Type 0 = Each (AsksGroup numbered) c.args.asks.now in
    let Marks : ℕ → Type 0 = EachBelow (MarksGroup model numbered twice shared) (length model.props) in
    let Two : BTreeSet ℕ → List (ℕ × MemberId) → Type 0 = λ several entries. Tells (HasKey several) (StandsWithTwo (Contains entries)) in
    let Written : List Fragment → Type 0 = λ fragments. Tells (Contains writes) (Each WritesBy fragments) in
    let Shares : ℕ × MemberId → Type 0 = EachBelow (IsSharer numbered) (length model.props) in
    record {
      twice = twice;
      shared = shared;
      are_twice = tells_as (HasKey twice) (StandsWithTwo (Contains writes)) (StandsWithTwo (Each WritesBy mapping.fragments))
          (subst (Two twice) c.deref.ensures.value c.in_ok-twice.ensures)
          (stands_as (Contains writes) (Each WritesBy mapping.fragments) (subst Written c.as_slice.ensures.items c.in_ok-writes.ensures));
      are_shared = tells_as (HasKey shared) (StandsWithTwo (Contains sharers)) (StandsWithTwo Shares)
          (subst (Two shared) c.deref-2.ensures.value c.in_ok-shared.ensures)
          (stands_as (Contains sharers) Shares c.in_ok-sharers.ensures);
      are_tested = tells_added (λ k. By k ⊎ Marks k) (HasKey c.new-tested.result) (HasKey c.add_props.new.tested) (no_number c.new-tested.result c.new-tested.ensures.empty)
          (adds_both By Marks (HasKey c.new-tested.result) (HasKey c.add_asked.new.tested) (HasKey c.add_props.new.tested) c.in_ok-add_asked.ensures c.in_ok-add_props.ensures);
    }
