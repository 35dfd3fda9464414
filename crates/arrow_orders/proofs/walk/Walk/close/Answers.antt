use Rattle.std.proofs.Common.{◌≡◌, ◌-◌, ℕ, length, take, refl, ap, ◌∙◌, arith}
use Rattle.std.specs.Vec.{with_item}
use Rattle.arrow_orders.specs.declared.walk.Mark.TheVariants.{Done}
use Rattle.arrow_orders.specs.declared.walk.Walk.{Walk}
use Rattle.arrow_orders.proofs.walking.Steps.{closed_step}
use Rattle.arrow_orders.proofs.walk.Walk.close.Goals as goal

pub returns : goal.returns
returns c =
    let old = c.args.self.now in
    let now : Walk = record { marks = with_item old.marks c.args.top Done; taken = old.taken; path = c.pop.new.self; line = c.push.new.self } in
    let top = c.requires.top in
    let last = top.last in
    let shorter : length old.path.items - 1 ≡ top.position = omega (arith, last) in
    closed_step c.args.ends.now old now c.requires.walk c.args.top top c.requires.all refl refl
    (c.pop.ensures.rest ∙ ap (λ n. take (n - 1) old.path.items) old.path.ok.0 ∙ ap (λ (n : ℕ). take n old.path.items) shorter) c.in_ok-push.ensures.items
