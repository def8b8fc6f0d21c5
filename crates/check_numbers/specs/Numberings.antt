-- The tree of numbers from its root in word 4: the ways through the code.
use Rattle.std.specs.Prelude.{◌≡◌, refl, Bool, true, false, ℕ, eqb, pos, length}
use Rattle.std.proofs.Common.{sym, ◌∙◌, ap, arith, eqb-true, eq-eqb}
use mathlib.Core.List.{List, [], Pairwise}
use Rattle.std.proofs.Math.Option.{none, some}
use Rattle.lists.specs.Bools.{never}
use Rattle.trees.specs.Operations.{Part}
use Rattle.table.specs.Fields.{most_nodes, number_tree, numbers_root_word}
use Rattle.table.specs.Words.{Words, word, up_to}
use Rattle.table.specs.Items.{Item, Apart}
use Rattle.form.specs.Form.{IndexIn, number_of, Numbered}
use Rattle.table.specs.PartTrees.{part_ref}
use Rattle.check_trees.specs.Deciding.{Decides}
use Rattle.check_trees.specs.Stretches.{span_none}
use Rattle.check_trees.specs.Laid.{items_at, AllPlaced, ref_low, root_read}
use Rattle.check_numbers.specs.Tallies.{Tallies}
use Rattle.check_numbers.specs.Distinct.{among_length}
use Rattle.check_numbers.specs.NumberTrees.{live_at, live_length, apart_distinct, NumberTree, Trees}

-- ---- the root's number

-- the index of the live items by number
abbrev NumbersIn : Words → List Item → Part Item → Type 0
NumbersIn w = IndexIn w number_tree number_of

module _ {w : Words} {live : List Item} where
  module _ {root : ℕ} (er : root ≡ up_to most_nodes (word w numbers_root_word)) where
    root_is : AllPlaced w live → (p : Part Item) → word w numbers_root_word ≡ pos (part_ref p) → NumbersIn w live p → root ≡ part_ref p
    root_is q p e n = root_read numbers_root_word p (λ a m. q a (n.all_live a m)) er e

    root_exact : AllPlaced w live → Numbered w live → word w numbers_root_word ≡ pos root
    root_exact q n = n.numbers_root ∙ ap pos (sym (root_is q n.numbers n.numbers_root n.numbers_in))

    numbered_tree : AllPlaced w live → (root ≡ 0 → ⊥) → Numbered w live → NumberTree w root live
    numbered_tree q d m = go m.numbers m.numbers_root m.numbers_in
      where
        go : (p : Part Item) → word w numbers_root_word ≡ pos (part_ref p) → NumbersIn w live p → NumberTree w root live
        go none e n = absurd (d (root_is q none e n))
        go (some t) e n =
            record {
              tree = t;
              laid = record { root = root_is q (some t) e n; placed = λ a i. q a (n.all_live a i); tied = n.tied; balanced = n.balanced };
              falling = n.falling;
              all_live = n.all_live;
              all_there = n.all_there;
            }

    -- there is none, and then no item is live
    numbered_none : AllPlaced w live → root ≡ 0 → Numbered w live → Pairwise Apart live → length live ≡ 0
    numbered_none q z m a = go m.numbers m.numbers_root m.numbers_in
      where
        go : (p : Part Item) → word w numbers_root_word ≡ pos (part_ref p) → NumbersIn w live p → length live ≡ 0
        go none e n = omega (arith, among_length live [] (apart_distinct a) n.all_there)
        go (some t) e n = absurd (omega (arith, root_is q (some t) e n, ref_low t (λ a i. q a (n.all_live a i))))

  tree_numbered : {root : ℕ} → word w numbers_root_word ≡ pos root → NumberTree w root live → Numbered w live
  tree_numbered e t =
      record {
        numbers = some t.tree;
        numbers_root = e ∙ ap pos t.laid.root;
        numbers_in = record { tied = t.laid.tied; balanced = t.laid.balanced; falling = t.falling; all_live = t.all_live; all_there = t.all_there };
      }

-- ---- the ways through the code

module _ {w : Words} {root n : ℕ} {xs : List ℕ} {b : Bool} (er : root ≡ up_to most_nodes (word w numbers_root_word))
    (D : Decides b (word w numbers_root_word ≡ pos root)) where
  pub tallies_told : b ≡ false → Tallies w xs xs n false
  tallies_told e = record { long = refl; sound = λ p q t. absurd (never t refl); complete = λ p q m. absurd (never (D.complete (root_exact er p m)) e) }

  module _ (e : b ≡ true) where
    pub tallies_none : root ≡ 0 → Tallies w xs xs n (eqb n 0)
    tallies_none z =
        record {
          long = refl;
          sound = λ p q t. empty (eqb-true n 0 t);
          complete = λ p q m. eq-eqb n 0 (omega (arith, numbered_none er p z m q, live_length w xs n));
        }
      where
        empty : n ≡ 0 → Numbered w (live_at w xs n)
        empty g =
            rw (ap (items_at w) (span_none xs 0 n (omega arith)))
            (record {
              numbers = none;
              numbers_root = D.sound e ∙ ap pos z;
              numbers_in =
                  record { tied = tt; balanced = tt; falling = Pairwise.nil; all_live = λ a m. m; all_there = λ a m. m };
            })

    pub tallies_tree : {xs' : List ℕ} {r : Bool} → (root ≡ 0 → ⊥) → Trees w root xs xs' n r → Tallies w xs xs' n r
    tallies_tree d T =
        record {
          long = T.long;
          sound = λ p q t. tree_numbered (D.sound e) ((T.told p q).sound t);
          complete = λ p q m. (T.told p q).complete (numbered_tree er p d m);
        }
