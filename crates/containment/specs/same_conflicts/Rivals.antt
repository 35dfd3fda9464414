-- Regions by their forms, and two whose rows can hold the same.
-- Source: this project's.
use Rattle.std.specs.Prelude.{◌≡◌, ◌<◌, ℕ, List, IsTrue, false, length}
use Rattle.std.specs.BTreeMap.{BTreeMap}
use Rattle.std.specs.Global.{Vec}
use Rattle.emc_base.specs.Lists.{At}
use Rattle.member_groups.specs.group_numbers.Numbers.{HoldsEach}
use Rattle.round_trip.specs.Words.{SetId}
use Rattle.regions.specs.Basis.{Basis}
use Rattle.regions.specs.Regions.{regions_of}
use Rattle.containment.specs.declared.same_conflicts.forms.Form.{Form}
use Rattle.containment.specs.declared.same_conflicts.rivals.Rivals.{Rivals}
use Rattle.containment.specs.declared.same_conflicts.written.Written.{Written}
use Rattle.containment.specs.same_conflicts.Forms.{form_cmp, form_of, shown_form}
use Rattle.groupings.specs.item_groups.Groups.{items_at, items_of}
use Rattle.containment.specs.same_conflicts.Matching.{rows_alike}
use Rattle.containment.specs.same_conflicts.Written.{AreWritten, region_in}

-- all regions of some set, in their order, each with its rows
abbrev pub AreRegionsOfOne : Basis → List Written → Type 0
AreRegionsOfOne basis written = (s : SetId) × AreWritten basis (regions_of basis s) written

-- the form with its place is that of the region at this place
pub record IsFormAt (basis : Basis) (written : List Written) (i : ℕ) (formed : Form × ℕ) : Type 0 where
  pub one : Written
  pub here : At written i one
  pub place : formed.1 ≡ i
  pub told : shown_form formed.0 ≡ form_of basis (region_in one)

-- one form for each region, in their order
abbrev pub AreForms : Basis → List Written → List (Form × ℕ) → Type 0
AreForms basis written formed = HoldsEach (IsFormAt basis written) (length written) formed

-- the map lists the places of the regions of each form, in their order
pub record AreGrouped (basis : Basis) (written : List Written) (groups : BTreeMap Form (Vec ℕ)) : Type 0 where
  pub formed : List (Form × ℕ)
  pub forms : AreForms basis written formed
  pub at : (form : Form) → items_at form_cmp groups form ≡ items_of form_cmp formed form

-- the rows of the regions at these places can't hold the same
abbrev pub DifferAt : Basis → List Written → ℕ → ℕ → Type 0
DifferAt basis written p q = (one two : Written) → At written p one → At written q two → rows_alike basis one two ≡ false

-- the regions at an earlier one and a later one of these places, whose rows can hold the same
pub record AreTwoOf (basis : Basis) (written : List Written) (places : List ℕ) (rivals : Rivals) : Type 0 where
  pub i : ℕ
  pub j : ℕ
  pub p : ℕ
  pub q : ℕ
  pub one : Written
  pub two : Written
  pub before : i < j
  pub first : At places i p
  pub later : At places j q
  pub here : At written p one
  pub there : At written q two
  pub is_one : rivals.one.now ≡ region_in one
  pub is_two : rivals.two.now ≡ region_in two
  pub alike : IsTrue (rows_alike basis one two)
