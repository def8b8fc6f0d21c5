-- Along the thread, from the first piece to the last, every piece is passed one time.
use Rattle.std.specs.Prelude.{◌≡◌, refl, ◌≢◌, true, false, ℕ, suc, ◌+◌, ◌≤◌, ◌<◌, length, get_or}
use Rattle.std.proofs.Common.{sym, ◌∙◌, ap, subst, arith, length-append, get_or-append-add}
use mathlib.Core.List.Memᴰ
use mathlib.Core.List.{List, [], ◌∷◌, ◌++◌, append_assoc, Memᴰ}
use mathlib.Mathlib.Data.List.Chain.{IsChain-append-cons-cons}
use Rattle.std.proofs.Math.Seq.{get_or-append_seam}
use Rattle.lists.specs.Places.{mem_at}
use Rattle.trees.specs.Tree.{Tree, leaves, first, last, Avl}
use Rattle.trees.specs.Leaves.{start, rest, leaves_first, leaves_last, first_leaf}
use Rattle.table.specs.Fields.{most_slots, next_piece_field, piece_tree}
use Rattle.table.specs.Words.{Words}
use Rattle.table.specs.Layout.{cap, cap_most, link_at}
use Rattle.table.specs.Items.{Item, at, Slots, slots_across, slots_most}
use Rattle.table.specs.Threads.{Next, Threaded}
use Rattle.descents.specs.Ends.{end_of, Ended}
use Rattle.query.specs.QueriedPieces.{Pieces}

-- the promise: how many pieces a balanced tree has, 0 for none
pub record Counted (w : Words) (root r : ℕ) : Type 0 where
  pub few : r ≤ most_slots
  pub is : (t : Tree Item) → Pieces w root t → Avl t → r ≡ length (leaves t)
  pub none : root ≡ 0 → r ≡ 0

-- ---- the last of a list

-- it stands in every rest that is not empty
last_in : {A : Type 0} (xs : List A) (a : A) (ys zs : List A) (z : A) → xs ++ a ∷ ys ≡ zs ++ z ∷ [] → Memᴰ z (a ∷ ys)
last_in xs a ys zs z e = subst (λ u. Memᴰ u (a ∷ ys)) (sym here) (mem_at (a ∷ ys) (length ys) z (omega arith))
  where
    long : length xs + length ys ≡ length zs
    long = omega (arith, ap length e, length-append xs (a ∷ ys), length-append zs (z ∷ []))

    here : z ≡ get_or (a ∷ ys) (length ys) z
    here =
        sym (get_or-append_seam zs z [] z)
        ∙ ap (λ i. get_or (zs ++ z ∷ []) i z) (sym long)
        ∙ ap (λ (l : List _). get_or l (length xs + length ys) z) (sym e)
        ∙ get_or-append-add xs (a ∷ ys) (length ys) z

-- ---- on the way

-- the n-th of the pieces is in slot s
pub record Passed (s n : ℕ) (xs : List Item) : Type 0 where
  pub seen : List Item
  pub here : Item
  pub ahead : List Item
  pub split : xs ≡ seen ++ here ∷ ahead
  pub slot : s ≡ here.slot
  pub count : n ≡ suc (length seen)

pub record Along (w : Words) (root last s n : ℕ) : Type 0 where
  pub few : n ≤ most_slots
  pub some : root ≢ 0
  pub ends : (t : Tree Item) → Pieces w root t → Avl t → last ≡ (end_of true t).slot
  pub passed : (t : Tree Item) → Pieces w root t → Avl t → Passed s n (leaves t)

pub along_begins : {w : Words} {root z s : ℕ} → Ended w piece_tree true root z → Ended w piece_tree false root s → s ≢ 0 → Along w root z s 1
along_begins e f h =
    record {
      few = omega arith;
      some = λ d. h (f.none d);
      ends = λ t p a. e.is t p.rep a;
      passed = λ t p a. record { seen = []; here = first t; ahead = rest t; split = leaves_first t; slot = f.is t p.rep a; count = refl };
    }

-- no leaf, no tree
pub along_none : {w : Words} {root s : ℕ} → Ended w piece_tree false root s → s ≡ 0 → Counted w root 0
along_none f e = record { few = omega arith; is = λ t p a. absurd (omega (arith, e, f.is t p.rep a, p.rep.slots.low (first_leaf t))); none = λ d. refl }

-- a piece that is not the last leads to the next
pub follow : {w : Words} {xs : List Item} {s n : ℕ} → Threaded w xs → Passed s n xs → n < length xs → Passed (link_at w next_piece_field s) (n + 1) xs
follow {w} {xs} {s} {n} c k h = go k.ahead k.split
  where
    go : (ys : List Item) → xs ≡ k.seen ++ k.here ∷ ys → Passed (link_at w next_piece_field s) (n + 1) xs
    go [] d = absurd (omega (arith, ap length d, length-append k.seen (k.here ∷ []), k.count))
    go (y ∷ ys) d =
        record {
          seen = k.seen ++ k.here ∷ [];
          here = y;
          ahead = ys;
          split = d ∙ sym (append_assoc k.seen (k.here ∷ []) (y ∷ ys));
          slot = ap (link_at w next_piece_field) k.slot ∙ next.next;
          count = omega (arith, k.count, length-append k.seen (k.here ∷ []));
        }
      where
        next : Next w k.here y
        next = ((IsChain-append-cons-cons k.here k.seen).0 (subst (Threaded w) d c)).1

module _ {w : Words} {t : Tree Item} {x z s n : ℕ} (p : Pieces w x t) (end : z ≡ (last t).slot) (k : Passed s n (leaves t)) where
  -- at the last piece all were passed
  pub all_passed : s ≡ z → n ≡ length (leaves t)
  all_passed e = go k.ahead k.split
    where
      go : (ys : List Item) → leaves t ≡ k.seen ++ k.here ∷ ys → n ≡ length (leaves t)
      go [] d = omega (arith, ap length d, length-append k.seen (k.here ∷ []), k.count)
      go (y ∷ ys) d =
          absurd
          (slots_across (k.seen ++ k.here ∷ []) (subst (Slots (cap w)) apart p.rep.slots) (at (Memᴰ.append_right k.seen (Memᴰ.head refl)) refl)
          (at (last_in (k.seen ++ k.here ∷ []) y ys (start t) (last t) (sym apart ∙ leaves_last t)) (sym k.slot ∙ e ∙ end)))
        where
          apart : leaves t ≡ (k.seen ++ k.here ∷ []) ++ y ∷ ys
          apart = d ∙ sym (append_assoc k.seen (k.here ∷ []) (y ∷ ys))

  -- before it there is a next
  pub not_all : s ≢ z → n < length (leaves t)
  not_all e = go k.ahead k.split
    where
      go : (ys : List Item) → leaves t ≡ k.seen ++ k.here ∷ ys → n < length (leaves t)
      go [] d = absurd (e (k.slot ∙ ap (λ (a : Item). a.slot)
          (sym (Memᴰ.eq_of_singleton (last_in k.seen k.here [] (start t) (last t) (sym d ∙ leaves_last t)))) ∙ sym end))
      go (y ∷ ys) d = omega (arith, ap length d, length-append k.seen (k.here ∷ y ∷ ys), k.count)

  pub go_on : s ≢ z → Passed (link_at w next_piece_field s) (n + 1) (leaves t)
  go_on e = follow p.thread k (not_all e)

  -- no more pieces than slots
  few_passed : n ≤ most_slots
  few_passed =
      omega (arith, ap length k.split, length-append k.seen (k.here ∷ k.ahead), k.count, slots_most (cap w) (leaves t) p.rep.slots, cap_most w)

pub along_goes_on : {w : Words} {root z s s' n : ℕ} → Along w root z s n → s ≢ z → n < most_slots → s' ≡ link_at w next_piece_field s → Along w root z s' (n + 1)
along_goes_on {w} {root} {z} {s} {s'} {n} g h f e =
    record {
      few = omega arith;
      some = g.some;
      ends = g.ends;
      passed = λ t p a. subst (λ u. Passed u (n + 1) (leaves t)) (sym e) (go_on p (g.ends t p a) (g.passed t p a) h);
    }

pub along_ends : {w : Words} {root z s n : ℕ} → Along w root z s n → s ≡ z → Counted w root n
along_ends g e = record { few = g.few; is = λ t p a. all_passed p (g.ends t p a) (g.passed t p a) e; none = λ d. absurd (g.some d) }

-- the limit is used up, which no tree comes to
pub along_over : {w : Words} {root z s n : ℕ} → Along w root z s n → s ≢ z → most_slots ≤ n → Counted w root 0
along_over {w} {root} {z} {s} {n} g h f =
    record { few = omega arith; is = λ t p a. absurd (more t p (go_on p (g.ends t p a) (g.passed t p a) h)); none = λ d. refl }
  where
    more : (t : Tree Item) (p : Pieces w root t) → Passed (link_at w next_piece_field s) (n + 1) (leaves t) → ⊥
    more t p k = omega (arith, few_passed {z = (last t).slot} p refl k)
