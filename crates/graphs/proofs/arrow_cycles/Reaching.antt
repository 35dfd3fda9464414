-- What arrows lead to, one after another.
use Rattle.std.proofs.Common.{inl, inr, ℕ, sym, subst}
use Rattle.graphs.specs.arrow_cycles.Arrows.{Leads, arrow, further}
use Rattle.graphs.specs.arrow_cycles.Numbers.{Reaches}

module _ (Is : ℕ → ℕ → Type 0) where
  pub leads_leads : (a b c : ℕ) → Leads Is a b → Leads Is b c → Leads Is a c
  leads_leads a b c (arrow _ _ is) rest = further a b c is rest
  leads_leads a b c (further _ d _ is more) rest = further a d c is (leads_leads d b c more rest)

  pub reaches_leads : (a b c : ℕ) → Reaches Is a b → Leads Is b c → Leads Is a c
  reaches_leads a b c way rest = elim way [
    | inl same ↦ let P : ℕ → Type 0 = λ x. Leads Is x c in subst P (sym same) rest
    | inr leads ↦ leads_leads a b c leads rest
  ]

  pub reaches_reaches : (a b c : ℕ) → Reaches Is a b → Reaches Is b c → Reaches Is a c
  reaches_reaches a b c way rest = elim rest [
    | inl same ↦ let P : ℕ → Type 0 = λ x. Reaches Is a x in subst P same way
    | inr leads ↦ inr (reaches_leads a b c way leads)
  ]

  pub reaches_arrow : (a b c : ℕ) → Reaches Is a b → Is b c → Reaches Is a c
  reaches_arrow a b c way is = inr (reaches_leads a b c way (arrow b c is))

  -- where each arrow is one of others too, these lead wherever it leads
  pub leads_by : (Other : ℕ → ℕ → Type 0) → ((a b : ℕ) → Is a b → Other a b) → (a b : ℕ) → Leads Is a b → Leads Other a b
  leads_by Other each a b (arrow _ _ is) = arrow a b (each a b is)
  leads_by Other each a b (further _ c _ is rest) = further a c b (each a c is) (leads_by Other each c b rest)
