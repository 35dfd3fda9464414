-- Writers that are added one after the other.
use Rattle.std.proofs.Common.{◌≡◌, ◌+◌, ◌≤◌, ℕ, List, [], ◌++◌, append-nil, append_assoc, length, map, take, sym, ap, subst, ◌∙◌}
use Rattle.std.specs.List.{enumerate_from, flat_map}
use Rattle.std.proofs.lemmas.List.{map-append}
use Rattle.emc_base.specs.Lists.{At}
use Rattle.emc_base.proofs.Loops.{take-enumerated}
use Rattle.emc_base.proofs.facts.Images.{one_more_gives}
use Rattle.json_form.specs.declared.pointer.Step.{Step}
use Rattle.table_owners.specs.declared.table_writers.writer.Writer.{Writer}
use Rattle.msl_rules.specs.OwnerRules.{PlacedWriter}
use Rattle.msl_fragments.specs.msl_owners.AllWriters.{Adds, Holds}
use Rattle.msl_fragments.specs.msl_owners.Spots.{place_of}
use Rattle.msl_fragments.specs.declared.msl_owners.all_writers.AllWriters.{AllWriters}

-- what stands behind a list in its images
joined : {X Y : Type 0} (f : X → Y) (before now after : List Y) (one two : List X) → now ≡ before ++ map f one → after ≡ now ++ map f two → after ≡ before ++ map f (one ++ two)
joined f before now after one two first second =
    second ∙ ap (λ ys. ys ++ map f two) first ∙ append_assoc before (map f one) (map f two) ∙ ap (λ ys. before ++ ys) (sym (map-append f one two))

-- nothing is added
pub adds_none : (all : AllWriters) → Adds all all []
adds_none all = record { writers = sym (append-nil all.writers); places = sym (append-nil (map place_of all.spots)) }

-- some, and then others
pub adds_both : (before now after : AllWriters) (one two : List PlacedWriter) → Adds before now one → Adds now after two → Adds before after (one ++ two)
adds_both before now after one two first second = record {
  writers = joined (λ (other : PlacedWriter). other.writer) before.writers now.writers after.writers one two first.writers second.writers;
  places = joined (λ (other : PlacedWriter). other.place) (map place_of before.spots) (map place_of now.spots) (map place_of after.spots) one two first.places second.places;
}

-- the same, in other words
pub adds_same : (before now : AllWriters) (one other : List PlacedWriter) → one ≡ other → Adds before now one → Adds before now other
adds_same before now one other same = subst (λ (more : List PlacedWriter). Adds before now more) same

module _ {X : Type 0} (f : ℕ × X → List PlacedWriter) (items : List X) (before : AllWriters) where
  -- what is added while a loop passes the items, with one item more
  pub adds_item : (i : ℕ) (item : X) (now after : AllWriters) → At items i item
      → Adds before now (flat_map f (take i (enumerate_from 0 items))) → Adds now after (f (i, item)) → Adds before after (flat_map f (take (i + 1) (enumerate_from 0 items)))
  adds_item i item now after here one two =
      let passed = flat_map f (take i (enumerate_from 0 items)) in
      adds_same before after (passed ++ f (i, item)) (flat_map f (take (i + 1) (enumerate_from 0 items))) (sym (one_more_gives f items i item here))
      (adds_both before now after passed (f (i, item)) one two)

  -- what was added when all are passed
  pub adds_items : (i : ℕ) (now : AllWriters) → length items ≤ i → Adds before now (flat_map f (take i (enumerate_from 0 items)))
      → Adds before now (flat_map f (enumerate_from 0 items))
  adds_items i now end is =
      adds_same before now (flat_map f (take i (enumerate_from 0 items))) (flat_map f (enumerate_from 0 items)) (ap (flat_map f) (take-enumerated items i end)) is

-- what is added to none
pub holds_added : (none now : AllWriters) (more : List PlacedWriter) → Holds none [] → Adds none now more → Holds now more
holds_added none now more empty adds = record {
  each = adds.writers ∙ ap (λ (ws : List Writer). ws ++ map (λ one. one.writer) more) empty.each;
  places = adds.places ∙ ap (λ (ps : List (List Step)). ps ++ map (λ one. one.place) more) empty.places;
}
