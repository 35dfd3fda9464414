-- What stands in a list that belongs to an item of another list is one, by its two numbers.
use Rattle.std.proofs.Common.{◌≡◌, ℕ, List, ◌∷◌, refl, sym, ap, ◌∙◌}
use Rattle.round_trip.specs.Types.{At, Place}
use Rattle.round_trip.proofs.FirstBreach.{TellsOne}

module _ {X Y : Type 0} (items : List X) (lists : ℕ → X → List Y) where
  -- a spot that begins with the number of an item and that of a member of its list
  pub record StandAt (spot : List ℕ) (x : X) (y : Y) : Type 0 where
    pub n : ℕ
    pub i : ℕ
    pub rest : List ℕ
    pub item : At items n x
    pub member : At (lists n x) i y
    pub begins : spot ≡ n ∷ i ∷ rest

  module _ {Z : Type 0} {spot : List ℕ} {x u : X} {y v : Y} {one two : Z} where
    -- what is told of both and of something more is one, where they determine what more there is
    pub told_with : {P : Type 0} (F : X → Y → P → Z) (p q : P) → StandAt spot x y → StandAt spot u v → (x ≡ u → y ≡ v → p ≡ q)
        → one ≡ F x y p → two ≡ F u v q → one ≡ two
    told_with F p q first second more is_one is_two =
        let same_n : first.n ≡ second.n = cc in
        let same_x : x ≡ u = cc in
        let same_y : y ≡ v = cc in
        is_one ∙ ap (λ z. F z y p) same_x ∙ ap (λ z. F u z p) same_y ∙ ap (F u v) (more same_x same_y) ∙ sym is_two

    pub told_once : (F : X → Y → Z) → StandAt spot x y → StandAt spot u v → one ≡ F x y → two ≡ F u v → one ≡ two
    told_once F first second is_one is_two = told_with (λ a b (nothing : Unit {0}). F a b) tt tt first second (λ same_x same_y. refl) is_one is_two

  module _ (spot : List ℕ) (F : X → Y → Place) where
    -- the place is that of what stands at the spot
    abbrev pub IsPlaceOf : Place → Type 0
    IsPlaceOf place = (x : X) × (y : Y) × StandAt spot x y × (place ≡ F x y)

    pub told_at : (Told : Place → Type 0) → ((place : Place) → Told place → IsPlaceOf place) → TellsOne Told
    told_at Told at one two first second = told_once F (at one first).2 (at two second).2 (at one first).3 (at two second).3
