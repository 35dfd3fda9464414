use Rattle.std.proofs.Common.{◌≡◌, ℕ, length, refl, ap, set, ◌∙◌}
use Rattle.std.specs.Vec.{with_item}
use Rattle.arrow_orders.specs.declared.walk.Mark.TheVariants.{Open}
use Rattle.arrow_orders.specs.declared.walk.Walk.{Walk}
use Rattle.arrow_orders.proofs.walking.Steps.{opened_step}
use Rattle.arrow_orders.proofs.walk.Walk.open.Goals as goal

pub returns : goal.returns
returns c =
    let old = c.args.self.now in
    let now : Walk = record { marks = with_item old.marks c.args.place (Open c.len.result); taken = old.taken; path = c.push.new.self; line = old.line } in
    let size : c.len.result ≡ length old.path.items = c.len.ensures ∙ old.path.ok.0 in
    opened_step c.args.ends.now old now c.requires.walk c.args.place c.requires.next (ap (λ (n : ℕ). set old.marks.items c.args.place (Open n)) size) refl c.in_ok-push.ensures.items refl
