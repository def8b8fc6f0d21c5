-- An update on a part that stands for a plain book: what it begins with, and a book put together again from what it leaves.
use Rattle.std.specs.Prelude.{◌≡◌, refl, ◌⊎◌, List, [], map, ℕ, ◌≤◌, length, pos}
use Rattle.std.proofs.Common.{sym, ◌∙◌, ap, inl, inr, arith}
use Rattle.std.proofs.Math.Option.{Option}
use Rattle.lists.specs.Firsts.{firsts}
use Rattle.trees.specs.Operations.{Part, part_leaves}
use Rattle.plain.specs.Book.{State}
use Rattle.plain.specs.FirstLaws.{Standing, pairs_standing}
use Rattle.dynamic.specs.OfferTree.{Held, Pair}
use Rattle.dynamic.specs.Valid.{book_lines}
use Rattle.dynamic.specs.Work.{Work}
use Rattle.table.specs.Fields.{envelope_root_word, live_count_word, number_field, number_tree, numbers_root_word, offers_root_word, order_root_word, order_tree, rank_field}
use Rattle.table.specs.Words.{Words, word}
use Rattle.table.specs.Layout.{cap}
use Rattle.table.specs.Items.{Item, In, at, offer_of}
use Rattle.pieces.specs.Pieces.{items}
use Rattle.form.specs.Stored.{EnvelopeField}
use Rattle.form.specs.Frames.{OfferField, holds_same}
use Rattle.form.specs.Form.{Book, OffersIn, InOrder, Freely, number_of, rank_of}
use Rattle.form.specs.Live.{lines_whole, line_live, lines_most, ranks_ahead}
use Rattle.form.specs.HeaderWords.{offers_read, envelope_read, capacity_most, live_most}
use Rattle.levels.specs.declared.Counts.{Counts}
use Rattle.levels.specs.declared.Made.{Made as Outcome}
use Rattle.settling.specs.Agree.{Agree, TreeHere, agree_less, offers_agree}
use Rattle.settling.specs.Writing.{roots_of}
use Rattle.filing.specs.Counts.{Exact, counts_exact}
use Rattle.settling.specs.Indexes.{Stands}
use Rattle.settling.specs.Settling.{Settled, Before}

-- What an update gives in the end: the part stands for this plain book, with a log of those counts.
pub record Updated (w' : Words) (plain : State) (held : Option (Held Item)) (n : Counts) : Type 0 where
  pub after : Option (Held Item)
  pub log : List (Pair Item)
  pub stands : Book w' plain after
  pub work : Work items held after log
  pub spared : map offer_of (book_lines held) ≡ map offer_of (book_lines after) → log ≡ []
  pub counts : Exact log n

-- ---- what it begins with

-- the live items stand in order
pub book_standing : {w : Words} {plain : State} {held : Option (Held Item)} (b : Book w plain held) → Standing Item offer_of (part_leaves b.order)
book_standing b = pairs_standing Item offer_of (ranks_ahead b.in_order.holds b.in_order.order_in.falling)

-- words that keep them keep the tree of offers
pub before_at : {w v : Words} {plain : State} {held : Option (Held Item)} (b : Book w plain held) → Agree (TreeHere (part_leaves b.order)) w v →
    Before v (roots_of w) held (part_leaves b.order)
before_at {w} {held = held} b g =
    record {
      tree = offers_read b;
      envelope = envelope_read b;
      offers = offers_agree held (agree_less (λ f s d. (field f d.0, lines s d.1)) g) b.offers.offers_in;
      whole = lines_whole w held b.offers.offers_in;
      lines = b.leaf_per_rate;
      standing = book_standing b;
      slots = rw g.room b.in_order.slots;
      holds = holds_same b.in_order.holds (record { cells = λ f s q i. g.cells f s (inl (omega arith), i) });
      ranked = record { read = λ {a} m. g.cells rank_field a.slot (inl (omega arith), at m refl) ∙ b.in_order.ranked.read m };
    }
  where
    field : (f : ℕ) → OfferField f ⊎ EnvelopeField f → (f ≤ rank_field) ⊎ EnvelopeField f
    field f (inl h) = inl (omega arith)
    field f (inr h) = inr h

    lines : (s : ℕ) → In s (book_lines held) → In s (part_leaves b.order)
    lines s (at m e) = at (line_live b m) e

-- ---- a book put together again

-- the tree of the firsts of these items, the two indexes of them, and the free slots beside
pub record Rebuilt (held : Option (Held Item)) (w' : Words) (plain' : State) (m : Outcome) : Type 0 where
  pub live : List Item
  pub before : Words
  pub after_tree : Words
  pub settled : Settled held live before after_tree m
  pub capacity : cap w' ≡ plain'.capacity
  pub some_slot : 1 ≤ plain'.capacity
  pub root : word w' offers_root_word ≡ pos m.held.tree
  pub envelope : word w' envelope_root_word ≡ pos m.held.envelope
  pub count : word w' live_count_word ≡ pos (length live)
  pub offers : OffersIn w' settled.after
  pub numbers : Part Item
  pub by_number : Stands w' number_tree number_field numbers_root_word number_of live numbers
  pub order : Part Item
  pub by_rank : Stands w' order_tree rank_field order_root_word rank_of live order
  pub leaves : part_leaves order ≡ live
  pub free : Freely w' (length live)
  pub plain_is : map offer_of live ≡ plain'.offers

module _ {held : Option (Held Item)} {w' : Words} {plain' : State} {m : Outcome} (r : Rebuilt held w' plain' m) where
  in_order : InOrder w' r.order
  in_order =
      let i = r.by_rank.index in
      record {
        order_root = r.by_rank.told;
        live_count = rw r.leaves r.count;
        order_in = rw r.leaves i.index_in;
        slots = rw r.leaves i.slots;
        holds = rw r.leaves i.holds;
        ranked = rw r.leaves i.keyed;
      }

  pub rebuilt_book : Book w' plain' r.settled.after
  rebuilt_book =
      record {
        capacity = r.capacity;
        some_slot = r.some_slot;
        offers = record {
          offers_root = r.root ∙ ap pos r.settled.left.root;
          envelope_root = r.envelope ∙ ap pos r.settled.left.envelope;
          offers_in = r.offers;
        };
        order = r.order;
        in_order = in_order;
        leaf_per_rate = r.settled.filed.lines ∙ ap (firsts items.before) (sym r.leaves);
        numbers = rw r.leaves (record { numbers = r.numbers; numbers_root = r.by_number.told; numbers_in = r.by_number.index.index_in });
        free = rw r.leaves r.free;
        stands_for = rw r.leaves r.plain_is;
      }

  pub rebuilt : {w : Words} {plain : State} → Book w plain held → Updated w' plain' held m.counts
  rebuilt b =
      record {
        after = r.settled.after;
        log = r.settled.log;
        stands = rebuilt_book;
        work = r.settled.filed.work;
        spared = r.settled.filed.spared;
        counts = counts_exact (omega (arith, lines_most b, live_most b, capacity_most b))
            (omega (arith, lines_most rebuilt_book, live_most rebuilt_book, capacity_most rebuilt_book)) r.settled.filed.work r.settled.counted;
      }
