use Rattle.condition_logic.proofs.Values.{tells_equal}
use Rattle.condition_logic.proofs.reading.equals.Goals as goal

pub returns-in-Some : goal.returns-in-Some
returns-in-Some c =
    tells_equal c.args.value c.in-Some.value c.args.constant.now c.eq.result c.in-Some.is
    (λ null. let never = c.is_null.ensures.1 null in let not = c.if-is_null.false in cc) c.eq.ensures
