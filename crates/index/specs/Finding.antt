-- An item found by its key, and the one that follows a key.
use Rattle.std.specs.Prelude.{◌≡◌, ◌≢◌, ℕ, ℤ}
use Rattle.std.proofs.Common.{◌∙◌, ap, inl, inr}
use mathlib.Core.List.Memᴰ
use mathlib.Core.List.{List, Memᴰ}
use Rattle.std.proofs.Math.Option.{Option, none, some}
use Rattle.trees.specs.Tree.{Tree, leaves}
use Rattle.trees.specs.Operations.{Part}
use Rattle.trees.specs.Find.{find_complete, none_find}
use Rattle.table.specs.Words.{Words}
use Rattle.table.specs.Items.{Item}
use Rattle.table.specs.PartTrees.{rep_some}
use Rattle.descents.specs.Seeks.{Answer, Answered, found_at}
use Rattle.descents.specs.Finds.{Found}
use Rattle.descents.specs.Afters.{After, below, Following, below_follows}
use Rattle.index.specs.Index.{IndexAt, FoundKey, Next, NextAmong}
use Rattle.index.specs.Trees.{index_rep, leaves_keyed}

module _ {tree field : ℕ} {sought : ℤ} {root s : ℕ} {w : Words} where
  -- what is told of the tree
  answer_is : {answer : Answer} → Answered answer w tree field sought root s → {key : Item → ℤ} {live : List Item} (t : Tree Item) →
      IndexAt w tree field key root live (some t) → s ≡ found_at (answer key sought t)
  answer_is f {key} t n = f.is t key (rep_some (index_rep (some t) n)) n.index_in.balanced (leaves_keyed (some t) n)

  pub found_key : Found w tree field sought root s → FoundKey tree field sought root w s
  found_key f = record { found = found; missing = missing }
    where
      found : (key : Item → ℤ) (live : List Item) (p : Part Item) → IndexAt w tree field key root live p → (a : Item) → Memᴰ a live →
          key a ≡ sought → s ≡ a.slot
      found key live none n a m e = absurd (Memᴰ.not-nil (n.index_in.all_there a m))
      found key live (some t) n a m e =
          answer_is f t n ∙ ap found_at (find_complete key sought t n.index_in.falling (record { inside = n.index_in.all_there a m; keyed = e }))

      missing : (key : Item → ℤ) (live : List Item) (p : Part Item) → IndexAt w tree field key root live p →
          ((a : Item) → Memᴰ a live → key a ≢ sought) → s ≡ 0
      missing key live none n no_one = f.nothing n.root_is
      missing key live (some t) n no_one =
          answer_is f t n ∙ ap found_at (none_find key sought t (λ a k. no_one a (n.index_in.all_live a k.inside) k.keyed))

  pub next_key : After w tree field sought root s → Next tree field sought root w s
  next_key f = record { told = told }
    where
      -- the leaves are the live items
      tell : {key : Item → ℤ} {live : List Item} (t : Tree Item) → IndexAt w tree field key root live (some t) → (o : Option Item) → s ≡ found_at o →
          Following key sought (leaves t) o → NextAmong live key sought s
      tell t n none e g = inr (e, λ a m. g a (n.index_in.all_there a m))
      tell t n (some b) e g =
          inl (
            b,
            e,
            record {
              inside = n.index_in.all_live b g.inside;
              less = g.less;
              greatest = λ a m. g.greatest a (n.index_in.all_there a m);
            },
          )

      told : (key : Item → ℤ) (live : List Item) (p : Part Item) → IndexAt w tree field key root live p → NextAmong live key sought s
      told key live none n = inr (f.nothing n.root_is, λ a m. absurd (Memᴰ.not-nil (n.index_in.all_there a m)))
      told key live (some t) n = tell t n (below key sought t) (answer_is f t n) (below_follows key sought t n.index_in.falling)
