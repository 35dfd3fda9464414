use Rattle.std.proofs.Common.{◌≡◌, ◌↔◌, ◌∙◌, false, nat_lt, subst, sym, rules, IsTrue, Bool}
use Rattle.std.specs.Option.{option_map_or}
use Rattle.msl_rules.specs.LinkRules.{IsWrittenAtEarlierEnd}
use Rattle.msl_checks.specs.msl_link_rules.WrittenColumns.{first_writing}
use Rattle.msl_checks.proofs.msl_link_rules.FirstWriting.{tells_earlier}
use Rattle.msl_checks.proofs.msl_link_rules.columns.WrittenColumns.is_written_before.Goals as goal

pub returns : goal.returns
returns c = λ ends are.
    let place = c.args.place in
    let pair = c.args.pair.now in
    let told : c.is_some_and.result ≡ option_map_or (λ first. nat_lt first place) c.end_of.result false = search rules in
    let found : first_writing ends pair.col ≡ c.end_of.result = sym (c.end_of.ensures ∙ (λ k. are k (c.as_str.ensures.text k))) in
    let P : Bool → Type 0 = λ answer. IsTrue answer ↔ IsWrittenAtEarlierEnd ends place pair in
    subst P (sym told) (tells_earlier ends place pair c.end_of.result found)
