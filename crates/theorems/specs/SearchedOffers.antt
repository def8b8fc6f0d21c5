-- What an update searched, told of live offers: each tree holds exactly the offers of its set that at some rational load are strictly cheaper than those of
-- every other rate, each offer of a set is live, and k is capped by the live offers.
use Rattle.std.proofs.Common.{sym, subst, arith}
use Rattle.std.specs.Prelude.{◌↔◌, ℕ, ◌+◌, ◌*◌, ◌≤◌, max, length, T, ℤ, Result}
use mathlib.Core.List.Pairwise
use mathlib.Core.List.{List, ◌++◌, map, Memᴰ, Sublistᴰ, Pairwise}
use Rattle.std.proofs.Math.Option.{Option}
use Rattle.std.proofs.Math.Dec.{T_prop}
use Rattle.lists.specs.Places.{sublist_mem}
use Rattle.lists.specs.Firsts.{firsts_all}
use Rattle.integers.specs.Log.{log_up, log_up_mono}
use Rattle.offers.specs.Offers.{Offer, RationalLoad, precedes}
use Rattle.envelopes.specs.Envelope.{Env, Ordered}
use Rattle.envelopes.specs.EnvelopeLaws.{ordered_left, ordered_pairs, ordered_right, ordered_sublist}
use Rattle.plain.specs.Book.{State, Call, step}
use Rattle.plain.specs.Meaning.{CheaperThanOthers}
use Rattle.plain.proofs.ListingLaws.{listing_exact, falling_ahead}
use Rattle.trees.specs.Tree.{Tree, leaves}
use Rattle.dynamic.specs.OfferTree.{Held, Pair}
use Rattle.dynamic.specs.Valid.{book_lines}
use Rattle.dynamic.specs.Work.{Searched}
use Rattle.table.specs.Items.{Item}
use Rattle.pieces.specs.Pieces.{items}
use Rattle.query.specs.Plain.{offer_of, pieces_plain}
use Rattle.causes.specs.declared.Declined.{Declined}
use Rattle.promises.specs.declared.Update.{Update}
use Rattle.promises.specs.Promises.{part_of, Follows}
use Rattle.form.specs.Form.{Book}
use Rattle.form.specs.Live.{lines_few, line_offer}

-- ---- the statement

-- the tree holds exactly those offers of the set
abbrev pub Lists : List Item → Tree Item → Type 0
Lists set t = (e : Offer) → Memᴰ e (map offer_of (leaves t)) ↔ ((x : RationalLoad) × CheaperThanOthers (map offer_of set) e x)

-- two sets of leaves of the tree of offers, the first before the second
pub record PairLists (lines : List Item) (p : Pair Item) : Type 0 where
  pub left_set : List Item
  pub right_set : List Item
  pub sets : Sublistᴰ (left_set ++ right_set) lines
  pub left_lists : Lists left_set p.front
  pub right_lists : Lists right_set p.back

-- ---- its proof

pub env_lists : (set : List Item) (t : Tree Item) → Ordered items set → Env items set (leaves t) → Lists set t
env_lists set t o E e =
    subst (λ (es : List Offer). Memᴰ e es ↔ ((x : RationalLoad) × CheaperThanOthers (map offer_of set) e x))
    (sym (pieces_plain set (leaves t) (map offer_of set) (sym (firsts_all precedes falls)) o E)) (listing_exact (map offer_of set) (falling_ahead falls) e)
  where
    falls : Pairwise (λ x y. T (precedes x y)) (map offer_of set)
    falls = Pairwise.map (λ x y. T_prop (precedes x y)) offer_of (λ x y h. h) (ordered_pairs o)

pub searched_lists : {lines : List Item} {p : Pair Item} → Ordered items lines → Searched items lines p → PairLists lines p
searched_lists {lines} {p} o s =
    record {
      left_set = s.left_set;
      right_set = s.right_set;
      sets = s.sets;
      left_lists = env_lists s.left_set p.front (ordered_left items s.left_set s.right_set both) s.left_envelope;
      right_lists = env_lists s.right_set p.back (ordered_right items s.left_set s.right_set both) s.right_envelope;
    }
  where
    both : Ordered items (s.left_set ++ s.right_set)
    both = ordered_sublist items s.sets o

module _ {k : Call} {s : State} {held : Option (Held Item)} {start : ℕ} {t t' : List ℤ} {r : Result Update Declined}
    (f : Follows k s held start t t' r) where
  -- its sets hold offers that are live after the update
  pub sets_live : {p : Pair Item} (l : PairLists (book_lines f.after) p) {a : Item} → Memᴰ a (l.left_set ++ l.right_set) →
      Memᴰ a.offer (step s k).state.offers
  sets_live l m = line_offer f.stands.book (sublist_mem l.sets m)

  -- k is at most 8 × log_up(n) + 4, where n is the larger number of live offers, before or after
  pub few_by_live : Book (part_of t start) s held → length f.log ≤ 8 * log_up (max (length s.offers) (length (step s k).state.offers)) + 4
  few_by_live b =
      let larger : log_up (max (length (book_lines held)) (length (book_lines f.after))) ≤ log_up (max (length s.offers) (length (step s k).state.offers)) =
      log_up_mono (omega (arith, lines_few b, lines_few f.stands.book)) in omega (arith, f.work.few_searches)
