-- What cells without a clash hold, and when two of them can hold one value.
use Rattle.std.proofs.Common.{◌≡◌, ⊎_elim, List, [], ◌∷◌, All, Contains, Bool, true, false, true≢false, refl, sym, ap, subst, ◌∙◌}
use Rattle.std.proofs.lemmas.List.Elements.{All-contains, All-head}
use Rattle.emc_base.proofs.Mapped.{contains_at}
use Rattle.round_trip.specs.Words.{SetId, TableId, ColId, EntityModel, Value, Null}
use Rattle.condition_logic.specs.declared.atoms.AtomOf.{AtomOf}
use Rattle.schema_laws.proofs.state_demand.writings.Decisions.{so_or_not}
use Rattle.schema_laws.proofs.state_demand.lists.Lists.{head_stands, none_in_nil}
use Rattle.schema_laws.proofs.state_demand.writings.Selecting.{Decides-value}
use Rattle.regions.specs.declared.region.Region.{Region}
use Rattle.regions.specs.declared.pattern.Symbol.{Symbol}
use Rattle.regions.specs.declared.pattern.Focus.TheVariants as focus
use Rattle.regions.specs.Basis.{Basis}
use Rattle.regions.specs.Patterns.{Valuation, pattern_of, value_under}
use Rattle.regions.specs.Regions.{regions_of}
use Rattle.regions.specs.Settled.{Possible, Settled, free, has_clash, known, multi, possible, settle, settled_by, single}
use Rattle.regions.specs.Symbols.{same_symbol}
use Rattle.regions.specs.region_laws.IsBasis.{IsBasis}
use Rattle.regions.proofs.region_laws.values.Symbols.{Decides-symbol}
use Rattle.regions.specs.region_laws.pattern.Allowed.{IsAllowed}
use Rattle.regions.specs.region_laws.pattern.Described.{value_in}
use Rattle.regions.specs.region_laws.pattern.Listed.{HasCell}
use Rattle.regions.proofs.region_laws.pattern.Laws.{cell_free, cell_known}
use Rattle.regions.proofs.region_laws.pattern.Settled.{clash_decided}
use Rattle.region_states.specs.conflicts.SameFacts.{are_compatible}
use Rattle.conflict_laws.specs.rival.Alike.{IsClear}

-- cells can hold one value whichever is looked at first
pub compatible_back : (one two : Settled) → are_compatible one two ≡ true → are_compatible two one ≡ true
compatible_back (known v) (known w) told = (Decides-value w v).1 (sym ((Decides-value v w).0 told))
compatible_back (known v) (free s n) told = told
compatible_back (free s n) (known w) told = told
compatible_back (free s n) (free r m) told = refl

-- what settles a cell is what its first symbol can be
pub known_single : (one : Symbol) (can : Possible) (v : Value) → settled_by one can ≡ known v → can ≡ single v
known_single one (single w) v is = let same : w ≡ v = cc in λ k. single (same k)
known_single one (multi n) v is = cc

-- and one symbol alone may have several values
free_several : (one s : Symbol) (can : Possible) (n : Bool) → settled_by one can ≡ free s n → can ≡ multi n
free_several one s (single w) n is = cc
free_several one s (multi m) n is = let same : m ≡ n = cc in λ k. multi (same k)

module _ (model : EntityModel) (atoms : List AtomOf) where
  -- a symbol that may have several values settles the cell in which it stands
  pub several_free : (cell : List Symbol) → has_clash model atoms cell ≡ false → (s : Symbol) → Contains cell s → (n : Bool) → possible model atoms s ≡ multi n
      → settle model atoms cell ≡ free s n
  several_free [] clear s has n several = absurd (none_in_nil s has)
  several_free (first ∷ rest) clear s has n several = ⊎_elim
      (λ (same : first ≡ s). subst (λ one. settled_by one (possible model atoms one) ≡ free s n) (sym same) (ap (settled_by s) several))
      (λ (different : ¬ (first ≡ s)).
      let clash : has_clash model atoms (first ∷ rest) ≡ true = (clash_decided model atoms (first ∷ rest)).1 (record {
        one = first;
        two = s;
        lists_one = head_stands first rest;
        lists_two = has;
        different = different;
        not_alike = λ value one two. (let never : multi n ≡ single value = sym several ∙ two in cc);
      }) in
      absurd (true≢false (sym clash ∙ clear)))
      (so_or_not (same_symbol first s) (Decides-symbol first s))

-- the value of a cell is that of its first symbol, or null
first_value : (values : Valuation) (cell : List Symbol) (v : Value) → All (λ symbol. value_under values symbol ≡ v) cell → (cell ≡ [] → v ≡ Null) → value_in values cell ≡ v
first_value values [] v all none = sym (none refl)
first_value values (one ∷ others) v all none = All-head (λ symbol. value_under values symbol ≡ v) one others all

module _ (basis : Basis) (region : Region) (clear : IsClear basis region) (t : TableId) (c : ColId) (cell : List Symbol)
    (has : HasCell (pattern_of basis (focus.Entity region)) t c cell) where
  -- no cell of a clear region clashes
  pub clear_cell : has_clash basis.schema.model region.atoms cell ≡ false
  clear_cell = All-contains (λ one. has_clash basis.schema.model region.atoms one ≡ false) has.row.cells cell (clear has.row has.is_row)
      (contains_at has.row.cells c.index cell has.is_cell)

  -- so what may have several values settles its cell
  pub listed_free : (s : Symbol) → Contains cell s → (n : Bool) → possible basis.schema.model region.atoms s ≡ multi n
      → settle basis.schema.model region.atoms cell ≡ free s n
  listed_free = several_free basis.schema.model region.atoms cell clear_cell

  module _ (is : IsBasis basis) (s : SetId) (among : Contains (regions_of basis s) region) (values : Valuation) (allowed : IsAllowed basis region values) where
    -- the value of a cell is the one that is known
    pub known_value : (v : Value) → settle basis.schema.model region.atoms cell ≡ known v → value_in values cell ≡ v
    known_value v settled =
        let told = cell_known basis is (record { of = focus.Entity region; is_focus = (s, among); values = values; allowed = allowed })
        (record { t = t; col = c; cell = cell; has = has }) clear_cell v settled in
        first_value values cell v told.0 told.1

    -- or that of the one symbol
    pub free_value : (one : Symbol) (n : Bool) → settle basis.schema.model region.atoms cell ≡ free one n
        → (cell ≡ one ∷ []) × (value_in values cell ≡ value_under values one) × (possible basis.schema.model region.atoms one ≡ multi n)
        × (value_under values one ≡ Null → n ≡ true)
    free_value one n settled =
        let told = cell_free basis is (record { of = focus.Entity region; is_focus = (s, among); values = values; allowed = allowed })
        (record { t = t; col = c; cell = cell; has = has }) clear_cell one n settled in (
          told.0,
          ap (value_in values) told.0,
          free_several one one (possible basis.schema.model region.atoms one) n
              (subst (λ list. settle basis.schema.model region.atoms list ≡ free one n) told.0 settled),
          told.1,
        )
