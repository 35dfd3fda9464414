use Rattle.std.proofs.Common.{Option, refl, sym, subst, ◌∙◌, ap}
use Rattle.regions.specs.declared.region.Region.{Region}
use Rattle.region_states.specs.region_basis.BasisOf.{basis_of}
use Rattle.dangling_keys.specs.DanglingStates.{dangling_state}
use Rattle.dangling_keys.specs.Laws.{IsPairedBy}
use Rattle.dangling_keys.proofs.failing.Whole.{own_pairing}
use Rattle.dangling_states.specs.Referring.{IsDanglingAt}
use Rattle.dangling_states.proofs.Becomes.{dangling_at, no_clash}
use Rattle.dangling_states.proofs.failures.by_pattern.Goals as goal

pub state_of-requires-clause-dangles : goal.state_of-requires-clause-dangles
state_of-requires-clause-dangles c =
    subst (IsDanglingAt (basis_of c.args.parts.now) c.args.told.now.focus c.args.key.now) (sym c.as_ref.ensures.value)
    (dangling_at c.args.parts.now c.args.told.now c.requires.told c.args.key.now c.requires.key)

pub returns : goal.returns
returns c =
    let basis = basis_of c.args.parts.now in
    let told = c.args.told.now in
    let key = c.args.key.now in
    let dangling = dangling_at c.args.parts.now told c.requires.told key c.requires.key in
    let mine = own_pairing basis (no_clash c.args.parts.now told c.requires.told) key dangling.is_key told.focus told.principal dangling.dangles.lacks in
    let paired = subst (IsPairedBy basis key mine.0) (sym c.as_ref.ensures.value) mine.1 in
    record {
      of_kind = refl;
      alone = refl;
      key = key;
      is_key = c.requires.key;
      at_place = c.in_ok-place.ensures;
      pairing = mine.0;
      paired = mine.1;
      state = c.in_ok-state.ensures mine.0 paired ∙ ap (λ (principal : Option Region). dangling_state basis told.focus key mine.0 principal) c.as_ref.ensures.value;
    }
