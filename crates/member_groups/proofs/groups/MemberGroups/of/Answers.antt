use Rattle.std.proofs.Common.{◌≡◌, ℕ, List, Result, Ok, BTreeSet, IfOk, refl, sym, subst}
use Rattle.std.proofs.lemmas.Result.{IfOk-weaker}
use Rattle.emc_base.specs.declared.memory.Memory.{Memory}
use Rattle.round_trip.specs.Between.{schema_of}
use Rattle.round_trip.specs.Words.{Fragment, Value}
use Rattle.member_groups.specs.MemberGroups.{TellsMemberGroups}
use Rattle.member_groups.specs.OfNumbered.{AreOfNumbered, TellsNumbered}
use Rattle.member_groups.specs.declared.mapping_asks.asks.Ask.{Ask}
use Rattle.member_groups.specs.declared.group_numbers.numbers.Numbers.{Numbers}
use Rattle.member_groups.specs.declared.groups.MemberGroups.{MemberGroups}
use Rattle.member_groups.proofs.Telling.{tells_groups}
use Rattle.member_groups.proofs.groups.MemberGroups.of.Goals as goal

pub returns : goal.returns
returns c =
    let model = c.args.model.now in
    let store = c.args.store.now in
    let mapping = c.args.mapping.now in
    let schema = schema_of model store mapping in
    let numbered = c.in_ok-numbered.numbered in
    let asks = c.in_ok-asks.asks.items in
    let As : List Fragment → Type 0 = λ fragments. TellsNumbered model store fragments numbered in
    let are = subst As c.as_slice.ensures.items c.in_ok-numbered.ensures in
    let Parts : Type 0 = BTreeSet ℕ × List (List Value) in
    let Told : List Ask → Parts → Type 0 = λ list told. AreOfNumbered model mapping numbered list (record { numbers = numbered.numbers; tested = told.0; constants = told.1 }) in
    let Tells : Result Parts Memory → Type 0 = λ told. IfOk told (Told c.deref.result.now) in
    let Of : MemberGroups → Type 0 = λ groups. (groups.numbers ≡ numbered.numbers) × (c.told_by-told.result ≡ Ok (groups.tested, groups.constants)) in
    IfOk-weaker c.put_together.result Of (TellsMemberGroups schema)
    (λ groups is.
    let parts : Parts = (groups.tested, groups.constants) in
    let Numbered : Numbers → Type 0 = λ numbers. TellsMemberGroups schema (record { numbers = numbers; tested = groups.tested; constants = groups.constants }) in
    let Asked : List Ask → Type 0 = λ list. Told list parts in
    let of_asks = subst Asked c.deref.ensures.value (subst Tells is.1 c.told_by-told.ensures) in
    subst Numbered (sym is.0)
    (tells_groups schema numbered (are.groups mapping refl) are.numbers asks c.in_ok-asks.ensures groups.tested of_asks.tested groups.constants of_asks.constants))
    c.put_together.ensures
