use Rattle.std.proofs.Common.{◌≡◌, ◌<◌, ◌+◌, Some, length, pos, subst, sym, ap, ◌∙◌, arith, rules, of_z, to_z, w64}
use Rattle.std.proofs.lemmas.Int.{ints}
use Rattle.std.proofs.lemmas.Result.{IfOk-weaker}
use Rattle.emc_base.specs.Lists.{At}
use Rattle.round_trip.specs.Words.{Value, Kind, Whole}
use Rattle.region_states.specs.defaults.Candidates.{candidates}
use Rattle.schema_laws.specs.short_values.Numbers.{letter}
use Rattle.witness_state.proofs.region_values.Candidates.{letter_at, member_at, plain_at}
use Rattle.witness_state.proofs.region_values.free.candidate.Goals as goal

pub returns-in-Text : goal.returns-in-Text
returns-in-Text c =
    let place = c.args.place in
    let Within : Kind → Type 0 = λ kind. place < length (candidates kind) in
    let here : At (candidates c.args.kind.now) place (letter (place + 97)) =
    (let P : Kind → Type 0 = λ kind. At (candidates kind) place (letter (place + 97)) in
    subst P (sym c.in-Text.is) (letter_at place (subst Within c.in-Text.is c.requires.within))) in
    IfOk-weaker c.letter.result (λ value. value ≡ letter (place + 97)) (At (candidates c.args.kind.now) place)
    (λ value is. (let P : Value → Type 0 = At (candidates c.args.kind.now) place in subst P (sym is) here)) c.letter.ensures

pub returns-in-Enum : goal.returns-in-Enum
returns-in-Enum c =
    let place = c.args.place in
    let P : Kind → Type 0 = λ kind. At (candidates kind) place (Whole c.at.result.now) in
    let here = subst P (sym c.in-Enum.is) (member_at c.in-Enum.enumeration.members place c.at.result.now c.at.ensures) in
    let same : to_z w64 (of_z w64 c.at.result.now) ≡ c.at.result.now = search rules in
    here ∙ ap (λ n. Some (Whole n)) (sym same)

pub returns-in_default : goal.returns-in_default
returns-in_default c =
    let place = c.args.place in
    let here = plain_at c.args.kind.now c.in_default.not-Boolean c.in_default.not-Text c.in_default.not-Binary c.in_default.not-Enum place c.requires.within in
    let bound = c.requires.bound in
    let same : to_z w64 place ≡ pos place = omega (arith, ints, bound) in
    here ∙ ap (λ n. Some (Whole n)) (sym same)
