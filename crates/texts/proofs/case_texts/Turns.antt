-- Members and lines that a loop over numbered items makes, with those of one item more.
use Rattle.std.proofs.Common.{◌≡◌, ◌+◌, ℕ, List, ◌++◌, flat_map, map, take, ap, ◌∙◌}
use Rattle.std.specs.List.{enumerate_from}
use Rattle.std.proofs.lemmas.List.{map-append}
use Rattle.std.proofs.lemmas.List.Concat.{flat_map-append}
use Rattle.emc_base.specs.Lists.{At}
use Rattle.serde_json.specs.Data.{Data, Members}
use Rattle.emc_base.proofs.facts.Images.{one_more_gives}
use Rattle.json_form.specs.Trees.{put_all}
use Rattle.json_form.proofs.Members.{put_all-both}

module _ {X Y : Type 0} (g : ℕ × X → List Y) (xs : List X) (i : ℕ) (x : X) (here : At xs i x) where
  abbrev passed : ℕ → List Y
  passed n = flat_map g (take n (enumerate_from 0 xs))

  pub put_more : (start : Members) (f : Y → List ℕ × Data) → put_all start (map f (passed (i + 1))) ≡ put_all (put_all start (map f (passed i))) (map f (g (i, x)))
  put_more start f =
      ap (λ ys. put_all start (map f ys)) (one_more_gives g xs i x here)
      ∙ ap (put_all start) (map-append f (passed i) (g (i, x)))
      ∙ put_all-both start (map f (passed i)) (map f (g (i, x)))

  pub lines_more : {Z : Type 0} (f : Y → List Z) → flat_map f (passed (i + 1)) ≡ flat_map f (passed i) ++ flat_map f (g (i, x))
  lines_more f = ap (flat_map f) (one_more_gives g xs i x here) ∙ flat_map-append f (passed i) (g (i, x))
