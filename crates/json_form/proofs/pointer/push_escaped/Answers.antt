use Rattle.std.proofs.Common.{◌++◌, flat_map, string_bytes, ap, sym, ◌∙◌, arith}
use Rattle.std.proofs.lemmas.Grind.{common_steps}
use Rattle.std.proofs.lemmas.Iterator.{YieldsList-from_chars}
use Rattle.std.proofs.lemmas.Iterator.Consumers.{YieldsList-end}
use Rattle.std.proofs.lemmas.List.{map-id}
use Rattle.json_form.specs.Pointers.{escaped}
use Rattle.json_form.proofs.pointer.push_escaped.Goals as goal

pub returns : goal.returns
returns c =
    let all = YieldsList-end (YieldsList-from_chars c.args.name.now c.utf8.name cc) c.loop-character.yielded _ c.loop-character.yielded_by _ _ c.in-None.is c.next.ensures.steps in
    c.loop-character.invariant
    ∙ ap (λ characters. string_bytes c.args.text.now ++ flat_map escaped characters) (sym (map-id c.loop-character.yielded) ∙ all.0)

pub loop-character-preserved : goal.loop-character-preserved
loop-character-preserved c = grind (arith, common_steps)
