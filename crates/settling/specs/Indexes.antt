-- An index by the word of the header that tells its root: an item is entered there, and an item is struck out.
use Rattle.std.specs.Prelude.{◌≡◌, refl, ◌≢◌, List, ◌∷◌, ℕ, ◌≤◌, ◌<◌, ℤ, pos}
use Rattle.std.proofs.Common.{sym, ◌∙◌, ap, subst, arith}
use mathlib.Core.List.Memᴰ
use Rattle.std.proofs.Math.Option.{Option}
use Rattle.lists.specs.Members.{Among}
use Rattle.trees.specs.Operations.{Part, part_leaves}
use Rattle.plain.specs.Book.{State}
use Rattle.dynamic.specs.OfferTree.{Held}
use Rattle.table.specs.Fields.{most_nodes, number_field, number_tree, numbers_root_word, order_root_word, order_tree, rank_field}
use Rattle.table.specs.Words.{Words, word, wset, wset_other, up_to}
use Rattle.table.specs.Layout.{cap, cap_most}
use Rattle.table.specs.Items.{Item, Slots}
use Rattle.table.specs.Rep.{Field, Within, within_cap, header_kept, Only}
use Rattle.table.specs.PartTrees.{part_ref}
use Rattle.form.specs.Form.{Book, number_of, rank_of}
use Rattle.form.specs.HeaderWords.{part_high, read_word, numbers_read, order_read}
use Rattle.index.specs.Index.{IndexAt, Comes, Added, Goes, Dropped}
use Rattle.index.specs.Trees.{among_holds, among_keyed, index_rep}
use Rattle.declining.specs.Sought.{numbers_at, order_at}
use Rattle.settling.specs.Agree.{Agree, IndexHere, agree_trans, agree_less, agree_header, agree_only, header_set, index_agree}

-- the word tells the root of an index of these items
pub record Stands (w : Words) (tree field at : ℕ) (key : Item → ℤ) (live : List Item) (p : Part Item) : Type 0 where
  pub told : word w at ≡ pos (part_ref p)
  pub index : IndexAt w tree field key (part_ref p) live p

-- a book's two indexes
pub numbers_stand : {w : Words} {plain : State} {held : Option (Held Item)} (b : Book w plain held) →
    Stands w number_tree number_field numbers_root_word number_of (part_leaves b.order) b.numbers.numbers
numbers_stand b = record { told = b.numbers.numbers_root; index = numbers_at b (sym (numbers_read b)) }

pub order_stand : {w : Words} {plain : State} {held : Option (Held Item)} (b : Book w plain held) →
    Stands w order_tree rank_field order_root_word rank_of (part_leaves b.order) b.order
order_stand b = record { told = b.in_order.order_root; index = order_at b (sym (order_read b)) }

-- fields that are no node of the tree
abbrev pub OffTree : ℕ → ℕ → ℕ → Type 0
OffTree tree f s = Field tree f → ⊥

module _ {w : Words} {tree field at : ℕ} {key : Item → ℤ} {live : List Item} {p : Part Item} (x : Stands w tree field at key live p) where
  root_read : up_to most_nodes (word w at) ≡ part_ref p
  root_read = read_word x.told (part_high p (λ a m. x.index.slots.high (x.index.index_in.all_live a m)) (cap_most w))

  read_stands : {root : ℕ} → root ≡ up_to most_nodes (word w at) → IndexAt w tree field key root live p
  read_stands e = subst (λ (i : ℕ). IndexAt w tree field key i live p) (sym (e ∙ root_read)) x.index

  pub stands_agree : {w' : Words} → Agree (IndexHere tree live) w w' → word w' at ≡ word w at → Stands w' tree field at key live p
  stands_agree g e = record { told = e ∙ x.told; index = index_agree g x.index }

  -- of the same items in another order
  pub stands_among : {ls : List Item} → Slots (cap w) ls → Among ls live → Among live ls → Stands w tree field at key ls p
  stands_among s to from =
      let i = x.index in
      record {
        told = x.told;
        index = record {
          index = i.index;
          root_is = i.root_is;
          slots = s;
          holds = among_holds to i.holds;
          keyed = among_keyed to i.keyed;
          index_in = record {
            tied = i.index_in.tied;
            balanced = i.index_in.balanced;
            falling = i.index_in.falling;
            all_live = λ a m. from a (i.index_in.all_live a m);
            all_there = λ a m. i.index_in.all_there a (to a m);
          };
        };
      }

  -- in the order of the leaves
  pub stands_leaves : Stands w tree field at key (part_leaves p) p
  stands_leaves = stands_among (index_rep p x.index).slots x.index.index_in.all_live x.index.index_in.all_there

-- ---- the header is told a root, after writes to slots

record Rerooted (at root : ℕ) (w mid w' : Words) : Type 0 where
  low : 1 ≤ at
  high : at < 64
  within : Within w mid
  set : w' ≡ wset mid at (pos root)

module _ {at root : ℕ} {w mid w' : Words} (r : Rerooted at root w mid w') where
  rerooted_header : (i : ℕ) → i < 64 → i ≢ at → word w' i ≡ word w i
  rerooted_header i h d = ap (λ (v : Words). word v i) r.set ∙ wset_other mid at i (pos root) d ∙ header_kept r.within i h

  header_agree : {P : ℕ → ℕ → Type 0} → Agree P mid w'
  header_agree = rw r.set (agree_less (λ f t d. tt) (agree_header mid at (pos root) r.low r.high))

  rerooted_agree : {tree : ℕ} {xs : List Item} → Only tree xs w mid → Agree (OffTree tree) w w'
  rerooted_agree o = agree_trans (agree_only r.within o (λ f t d. d)) header_agree

  rerooted : {tree field : ℕ} {key : Item → ℤ} {live : List Item} {q : Part Item} → 1 ≤ cap w → IndexAt mid tree field key root live q →
      Stands w' tree field at key live q
  rerooted {tree} {field} {key} {live} {q} some_slot i =
      record {
        told = ap (λ (v : Words). word v at) r.set
            ∙ header_set mid at (pos root) (omega (arith, some_slot, within_cap r.within)) r.high
            ∙ ap pos i.root_is;
        index = subst (λ (x : ℕ). IndexAt w' tree field key x live q) i.root_is (index_agree header_agree i);
      }

-- ---- an item is entered

pub record Entered (tree field at s : ℕ) (w w' : Words) : Type 0 where
  pub mid : Words
  pub root : ℕ
  pub root' : ℕ
  pub read : root ≡ up_to most_nodes (word w at)
  pub added : Added tree field s root w mid root'
  pub set : w' ≡ wset mid at (pos root')

module _ {tree field at s : ℕ} {w w' : Words} (low : 1 ≤ at) (high : at < 64) (e : Entered tree field at s w w') where
  entering : Rerooted at e.root' w e.mid w'
  entering = record { low = low; high = high; within = e.added.within; set = e.set }

  pub entered_header : (i : ℕ) → i < 64 → i ≢ at → word w' i ≡ word w i
  entered_header = rerooted_header entering

  module _ {key : Item → ℤ} {a : Item} {live : List Item} {p : Part Item} (x : Stands w tree field at key live p) (c : Comes w field s key a live) where
    pub entered_agree : Agree (OffTree tree) w w'
    entered_agree = rerooted_agree entering (e.added.only key a live p (read_stands x e.read) c)

    pub entered : (q : Part Item) × Stands w' tree field at key (a ∷ live) q
    entered =
        let (q, i) = e.added.made key a live p (read_stands x e.read) c in
        let slot = Memᴰ.head refl in
        (q, rerooted entering (omega (arith, c.slots.low slot, c.slots.high slot)) i)

-- ---- an item is struck out

pub record Struck (tree field at : ℕ) (sought : ℤ) (w w' : Words) : Type 0 where
  pub mid : Words
  pub root : ℕ
  pub root' : ℕ
  pub read : root ≡ up_to most_nodes (word w at)
  pub dropped : Dropped tree field sought root w mid root'
  pub set : w' ≡ wset mid at (pos root')

module _ {tree field at : ℕ} {sought : ℤ} {w w' : Words} (low : 1 ≤ at) (high : at < 64) (e : Struck tree field at sought w w') where
  striking : Rerooted at e.root' w e.mid w'
  striking = record { low = low; high = high; within = e.dropped.within; set = e.set }

  pub struck_header : (i : ℕ) → i < 64 → i ≢ at → word w' i ≡ word w i
  struck_header = rerooted_header striking

  module _ {key : Item → ℤ} {a : Item} {live rest : List Item} {p : Part Item} (x : Stands w tree field at key live p)
      (g : Goes w key sought a live rest) where
    pub struck_agree : Agree (OffTree tree) w w'
    struck_agree = rerooted_agree striking (e.dropped.only key live p (read_stands x e.read))

    pub struck : (q : Part Item) × Stands w' tree field at key rest q
    struck =
        let (q, i) = e.dropped.made key a live rest p (read_stands x e.read) g in
        let slots = x.index.slots in
        (q, rerooted striking (omega (arith, slots.low g.member, slots.high g.member)) i)
