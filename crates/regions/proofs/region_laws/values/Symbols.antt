-- Whether two symbols are one is decided by what is computed.
use Rattle.std.proofs.Common.{◌≡◌, Bool, true, false, true≢false, ◌==◌, ◌&&◌, Decides, refl, sym, ap, subst, if◌then◌else◌}
use Rattle.std.specs.Bool.{⊤}
use Rattle.std.proofs.lemmas.Bool.Decides.{Decides-and, Decides-like}
use Rattle.regions.specs.declared.pattern.Symbol.{Symbol}
use Rattle.regions.specs.declared.pattern.Symbol.TheVariants as symbol
use Rattle.regions.specs.Symbols.{same_symbol}
use Rattle.schema_laws.specs.state_demand.Selecting.{same_value}
use Rattle.schema_laws.proofs.state_demand.lists.Ids.{Decides-assoc, Decides-prop}
use Rattle.schema_laws.proofs.state_demand.writings.Selecting.{Decides-value}

Decides-flag : (first second : Bool) → Decides (if first then second else (if second then false else true)) (first ≡ second)
Decides-flag true true = (λ told. refl, λ same. refl)
Decides-flag true false = (λ told. sym told, λ same. sym same)
Decides-flag false true = (λ told. told, λ same. same)
Decides-flag false false = (λ told. refl, λ same. refl)

-- the parts of a symbol
Is : Symbol → Symbol → Type 0
Is symbol.Null symbol.Null = ⊤
Is (symbol.Const one) (symbol.Const two) = one ≡ two
Is (symbol.Prop one) (symbol.Prop two) = one ≡ two
Is (symbol.End a first p) (symbol.End b second q) = (a ≡ b) × (first ≡ second) × (p ≡ q)
Is one two = ⊥

is_itself : (one : Symbol) → Is one one
unfolding Is
is_itself symbol.Null = tt
is_itself (symbol.Const one) = refl
is_itself (symbol.Prop one) = refl
is_itself (symbol.End a first p) = (refl, refl, refl)

differs : (one two : Symbol) → (Is one two → ⊥) → Decides false (one ≡ two)
differs one two apart = (λ told. absurd (true≢false (sym told)), λ same. absurd (apart (subst (Is one) same (is_itself one))))

pub Decides-symbol : (one two : Symbol) → Decides (same_symbol one two) (one ≡ two)
unfolding Is
Decides-symbol symbol.Null symbol.Null = (λ told. refl, λ same. refl)
Decides-symbol symbol.Null (symbol.Const two) = differs symbol.Null (symbol.Const two) (λ none. none)
Decides-symbol symbol.Null (symbol.Prop two) = differs symbol.Null (symbol.Prop two) (λ none. none)
Decides-symbol symbol.Null (symbol.End b second q) = differs symbol.Null (symbol.End b second q) (λ none. none)
Decides-symbol (symbol.Const one) symbol.Null = differs (symbol.Const one) symbol.Null (λ none. none)
Decides-symbol (symbol.Const one) (symbol.Const two) = Decides-like (same_value one two) (λ same. ap symbol.Const same)
    (λ same. subst (Is (symbol.Const one)) same (is_itself (symbol.Const one))) (Decides-value one two)
Decides-symbol (symbol.Const one) (symbol.Prop two) = differs (symbol.Const one) (symbol.Prop two) (λ none. none)
Decides-symbol (symbol.Const one) (symbol.End b second q) = differs (symbol.Const one) (symbol.End b second q) (λ none. none)
Decides-symbol (symbol.Prop one) symbol.Null = differs (symbol.Prop one) symbol.Null (λ none. none)
Decides-symbol (symbol.Prop one) (symbol.Const two) = differs (symbol.Prop one) (symbol.Const two) (λ none. none)
Decides-symbol (symbol.Prop one) (symbol.Prop two) = Decides-like (one.index == two.index) (λ same. ap symbol.Prop same)
    (λ same. subst (Is (symbol.Prop one)) same (is_itself (symbol.Prop one))) (Decides-prop one two)
Decides-symbol (symbol.Prop one) (symbol.End b second q) = differs (symbol.Prop one) (symbol.End b second q) (λ none. none)
Decides-symbol (symbol.End a first p) symbol.Null = differs (symbol.End a first p) symbol.Null (λ none. none)
Decides-symbol (symbol.End a first p) (symbol.Const two) = differs (symbol.End a first p) (symbol.Const two) (λ none. none)
Decides-symbol (symbol.End a first p) (symbol.Prop two) = differs (symbol.End a first p) (symbol.Prop two) (λ none. none)
Decides-symbol (symbol.End a first p) (symbol.End b second q) =
    let flags : Bool = if first then second else (if second then false else true) in
    Decides-like (((a.index == b.index) && flags) && (p.index == q.index))
    (λ (all : ((a ≡ b) × (first ≡ second)) × (p ≡ q)). λ i. symbol.End (all.0.0 i) (all.0.1 i) (all.1 i))
    (λ same. let parts = subst (Is (symbol.End a first p)) same (is_itself (symbol.End a first p)) in ((parts.0, parts.1), parts.2))
    (Decides-and ((a.index == b.index) && flags) (p.index == q.index) (Decides-and (a.index == b.index) flags (Decides-assoc a b) (Decides-flag first second))
    (Decides-prop p q))
