-- What came, told in another way.
use Rattle.std.proofs.Common.{◌≡◌, Result, Ok, Err, IfOk, ◌∙◌}

-- where it is one thing, it is what that is
pub told_as : {X Y E : Type 0} (f : X → Y) (a b : Y) → a ≡ b → (result : Result X E) → IfOk result (λ x. f x ≡ a) → IfOk result (λ x. f x ≡ b)
told_as f a b same (Ok x) is = is ∙ same
told_as f a b same (Err e) is = _
