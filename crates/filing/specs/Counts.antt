-- The counts of an update are exact: no log of a book comes near 2 ^ 32 searches, steps or heights.
use Rattle.std.specs.Prelude.{◌≡◌, refl, ◌*◌, ◌≤◌, max, length}
use mathlib.Core.List.{List, [], ◌∷◌, Memᴰ}
use Rattle.std.proofs.Math.Option.{Option}
use Rattle.std.proofs.Common.{arith, length-append}
use Rattle.lists.specs.Members.{sub_length}
use Rattle.integers.specs.Log.{log_up_full}
use Rattle.trees.specs.Tree.{height}
use Rattle.trees.specs.Height.{height_full}
use Rattle.dynamic.specs.OfferTree.{Held, Pair}
use Rattle.dynamic.specs.Valid.{book_lines}
use Rattle.dynamic.specs.Work.{Work, Searched, steps_of, heights_of}
use Rattle.table.specs.Fields.{most_levels, most_slots}
use Rattle.table.specs.Items.{Item}
use Rattle.pieces.specs.Pieces.{items}
use Rattle.levels.specs.Levels.{Counted}
use Rattle.levels.specs.declared.Counts.{Counts}

pub record Exact (log : List (Pair Item)) (n : Counts) : Type 0 where
  pub searches : n.searches ≡ length log
  pub steps : n.steps ≡ steps_of items log
  pub heights : n.heights ≡ heights_of log

record Low (p : Pair Item) : Type 0 where
  front : height p.front ≤ most_levels
  back : height p.back ≤ most_levels

searched_low : {live : List Item} {p : Pair Item} → length live ≤ most_slots → Searched items live p → Low p
searched_low h s =
    let sets = sub_length s.sets in
    let both = length-append s.left_set s.right_set in
    record {
      front = height_full s.left_balanced (omega (arith, sub_length s.left_envelope.sub));
      back = height_full s.right_balanced (omega (arith, sub_length s.right_envelope.sub));
    }

heights_few : (log : List (Pair Item)) → ((p : Pair Item) → Memᴰ p log → Low p) → heights_of log ≤ 2 * most_levels * length log
heights_few [] h = omega arith
heights_few (p ∷ ps) h =
    let l = h p (Memᴰ.head refl) in
    omega (arith, l.front, l.back, heights_few ps (λ q m. h q (Memᴰ.tail m)))

module _ {before after : Option (Held Item)} {log : List (Pair Item)} (few : length (book_lines before) ≤ most_slots)
    (few' : length (book_lines after) ≤ most_slots) (work : Work items before after log) where
  pub searches_most : length log ≤ 100
  searches_most = omega (arith, work.few_searches, log_up_full {n = max (length (book_lines before)) (length (book_lines after))} (omega arith))

  pub heights_most : heights_of log ≤ 4_800
  heights_most = omega (arith, searches_most, heights_few log (λ p m. searched_low few' (work.searched p m)))

  pub steps_most : steps_of items log ≤ 14_500
  steps_most = omega (arith, searches_most, heights_most, work.few_steps)

  pub counts_exact : {n : Counts} → Counted log n → Exact log n
  counts_exact c =
      record {
        searches = omega (arith, c.searches, searches_most);
        steps = omega (arith, c.steps, steps_most);
        heights = omega (arith, c.heights, heights_most);
      }
