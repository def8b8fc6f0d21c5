-- Two piece trees put together, as steps on words: the seam is threaded, then the trees are joined.
use Rattle.std.specs.Prelude.{◌≡◌, refl, ◌≢◌, Bool, true, false, List, ◌++◌, ℕ, ◌≤◌, ℤ, pos, neg_ℤ, ◌-ℤ◌}
use Rattle.std.proofs.Common.{sym, ◌∙◌, ap, arith}
use Rattle.std.proofs.Math.Path.{subst}
use Rattle.std.proofs.Math.Option.{none, some}
use Rattle.offers.specs.Offers.{crossing_numerator, crossing_denominator}
use Rattle.offers.specs.Sizes.{rate_of_lem, base_of_lem}
use Rattle.offers.specs.Bounded.{bounded_in}
use Rattle.trees.specs.Tree.{Tree, leaves, first, last}
use Rattle.trees.specs.Leaves.{first_leaf, last_leaf}
use Rattle.trees.proofs.Leaves.{leaves_join}
use Rattle.trees.specs.Operations.{Part, part_leaves, join, join_p}
use Rattle.trees.proofs.Balanced.{near_join}
use Rattle.table.specs.Fields.{denominator_field, most_nodes, next_piece_field, numerator_field, piece_tree}
use Rattle.table.specs.Words.{Words, up_to}
use Rattle.table.specs.Layout.{cap, cap_most, cell, cset, link_at, cset_cap}
use Rattle.table.proofs.LayoutLaws.{cset_other}
use Rattle.table.specs.Items.{Item, In, at, in_left, slots_across}
use Rattle.table.specs.Rep.{Field, a_child, a_height, child_field, height_field, Tied, tied_leaf, tied_node, Rep, Within, within_cap}
use Rattle.table.specs.Rep.{within_refl, within_trans, within_cset}
use Rattle.table.specs.Nodes.{ref_low}
use Rattle.table.specs.PartTrees.{MadeP, PairP}
use Rattle.table.specs.Threads.{Held, Threaded, SameOffer, SameThread, leads_in, leads_last, chain_join, holds_still, holds_join}
use Rattle.table.specs.Threads.{threaded_still, only_offer, only_thread, threading}
use Rattle.table.proofs.Threads.{cset_offer, cset_thread, threading_next}
use Rattle.shape.specs.JoinSteps.{Merged}
use Rattle.descents.specs.Ends.{Ended}
use Rattle.prices.specs.Prices.{rate_at, base_at}
use Rattle.pieces.specs.Pieces.{PieceField, of_node, of_numerator, of_denominator, of_next, PiecesOnly, Standing, Beside, Catted}
use Rattle.pieces.specs.Pieces.{EndsAt, BeginsAt, SeamAt, Seamed, CattedAfter, CattedBefore}

-- ---- nothing on one side

no_root : {w : Words} {x : ℕ} (p : Part Item) → Standing w x p → x ≡ 0 → p ≡ none
no_root none s e = refl
no_root (some t) s e = absurd (omega (arith, s.root, e, ref_low t s.slots))

pub catted_right : {l r : ℕ} {w : Words} → l ≡ 0 → Catted l r w w r
catted_right {l} {r} {w} e =
    record {
      within = within_refl w;
      root = λ p q b. subst (λ (o : Part Item). Standing w r (join_p o q)) (sym (no_root p b.left e)) b.right;
      only = λ p q b. record { cells = λ f s h. refl };
    }

pub catted_left : {l r : ℕ} {w : Words} → r ≡ 0 → Catted l r w w l
catted_left {l} {r} {w} e =
    record {
      within = within_refl w;
      root = λ p q b. subst (λ (o : Part Item). Standing w l (join_p p o)) (sym (no_root q b.right e)) (alone p b.left);
      only = λ p q b. record { cells = λ f s h. refl };
    }
  where
    alone : (p : Part Item) → Standing w l p → Standing w l (join_p p none)
    alone none s = s
    alone (some t) s = s

-- ---- what writing a thread leaves

-- the capacity
pub threaded_known : {c : ℕ} {w' : Words} (w : Words) (f g h s : ℕ) (x y z : ℤ) → c ≡ cap w → w' ≡ cset (cset (cset w f s x) g s y) h s z → c ≡ cap w'
threaded_known w f g h s x y z e d =
    e ∙ sym (ap cap d ∙ cset_cap (cset (cset w f s x) g s y) h s z ∙ cset_cap (cset w f s x) g s y ∙ cset_cap w f s x)

tied_other : {k f : ℕ} {w : Words} {t : Tree Item} (s : ℕ) (z : ℤ) → ¬ Field k f → Tied w k t → Tied (cset w f s z) k t
tied_other s z n tied_leaf = tied_leaf
tied_other {k} {f} {w} s z n (tied_node {l} {r} ol or el er eh) =
    tied_node (tied_other s z n ol) (tied_other s z n or) (same (a_child false refl) ∙ el) (same (a_child true refl) ∙ er) (same (a_height refl) ∙ eh)
  where
    same : {g : ℕ} → Field k g → link_at (cset w f s z) g (last l).slot ≡ link_at w g (last l).slot
    same {g} i = ap (up_to most_nodes) (cset_other w f s z (λ e. n (subst (Field k) e.0 i)))

no_node : {f : ℕ} → numerator_field ≤ f → f ≢ height_field piece_tree → ¬ Field piece_tree f
no_node {f} h d (a_child side e) = go side e
  where
    go : (side : Bool) → f ≡ child_field piece_tree side → ⊥
    go false e = omega arith
    go true e = omega arith
no_node h d (a_height e) = d e

tied_threading : {w : Words} {t : Tree Item} (a b : Item) → Tied w piece_tree t → Tied (threading w a b) piece_tree t
tied_threading a b t =
    tied_other a.slot (pos b.slot) (no_node (omega arith) (λ e. omega arith))
    (tied_other a.slot (crossing_denominator a.offer b.offer) (no_node (omega arith) (λ e. omega arith))
    (tied_other a.slot (crossing_numerator a.offer b.offer) (no_node (omega arith) (λ e. omega arith)) t))

module _ (w : Words) (a b : Item) where
  w₁ : Words
  w₁ = cset w numerator_field a.slot (crossing_numerator a.offer b.offer)

  w₂ : Words
  w₂ = cset (cset w numerator_field a.slot (crossing_numerator a.offer b.offer)) denominator_field a.slot (crossing_denominator a.offer b.offer)

  threading_within : Within w (threading w a b)
  unfolding w₁ w₂
  threading_within = within_trans (within_cset w numerator_field a.slot (crossing_numerator a.offer b.offer))
      (within_trans (within_cset w₁ denominator_field a.slot (crossing_denominator a.offer b.offer))
      (within_cset w₂ next_piece_field a.slot (pos b.slot)))

  threading_offer : (s : ℕ) → SameOffer w (threading w a b) s
  unfolding w₁ w₂
  threading_offer s =
      let p = cset_offer w numerator_field a.slot (crossing_numerator a.offer b.offer) (omega arith) s in
      let q = cset_offer w₁ denominator_field a.slot (crossing_denominator a.offer b.offer) (omega arith) s in
      let r = cset_offer w₂ next_piece_field a.slot (pos b.slot) (omega arith) s in
      record { number = r.number ∙ q.number ∙ p.number; rate = r.rate ∙ q.rate ∙ p.rate; base = r.base ∙ q.base ∙ p.base }

  threading_thread : {s : ℕ} → s ≢ a.slot → SameThread w (threading w a b) s
  unfolding w₁ w₂
  threading_thread {s} d =
      let p = cset_thread w numerator_field a.slot (crossing_numerator a.offer b.offer) d in
      let q = cset_thread w₁ denominator_field a.slot (crossing_denominator a.offer b.offer) d in
      let r = cset_thread w₂ next_piece_field a.slot (pos b.slot) d in
      record {
        next = r.next ∙ q.next ∙ p.next;
        numerator = r.numerator ∙ q.numerator ∙ p.numerator;
        denominator =
            r.denominator ∙ q.denominator ∙ p.denominator;
      }

  threading_only : {xs : List Item} → In a.slot xs → PiecesOnly xs w (threading w a b)
  unfolding w₁ w₂
  threading_only {xs} i = record {
    cells = λ f s d. far w₂ next_piece_field (of_next refl) (pos b.slot) f s d
        ∙ far w₁ denominator_field (of_denominator refl) (crossing_denominator a.offer b.offer) f s d ∙ far w numerator_field (of_numerator refl)
        (crossing_numerator a.offer b.offer) f s d;
  }
    where
      far : (v : Words) (g : ℕ) → PieceField g → (z : ℤ) (f s : ℕ) → ¬ (PieceField f × In s xs) → cell (cset v g a.slot z) f s ≡ cell v f s
      far v g p z f s d = cset_other v g a.slot z (λ e. d (subst PieceField (sym e.0) p, subst (λ (n : ℕ). In n xs) (sym e.1) i))

-- ---- the seam threaded and the trees joined

module _ {w : Words} {l r : ℕ} {tl tr' : Tree Item} (b : Beside w l r (some tl) (some tr')) where
  here : In (last tl).slot (leaves tl ++ leaves tr')
  here = in_left (leaves tr') (at (last_leaf tl) refl)

  pair_threaded : PairP (threading w (last tl) (first tr')) piece_tree l r (some tl) (some tr')
  pair_threaded =
      record {
        kind = omega arith;
        left = b.left.root;
        right = b.right.root;
        slots = rw (within_cap (threading_within w (last tl) (first tr'))) b.slots;
        tied_left = tied_threading (last tl) (first tr') b.left.pieces.0;
        tied_right = tied_threading (last tl) (first tr') b.right.pieces.0;
      }

  all_threaded : Threaded (threading w (last tl) (first tr')) (leaves tl ++ leaves tr')
  all_threaded =
      chain_join tl tr'
      (threaded_still b.left.pieces.1 (λ s k. threading_thread w (last tl) (first tr') (leads_last tl b.left.slots k)))
      (threading_next w (last tl) (first tr') (b.left.slots.low (last_leaf tl)) (b.left.slots.high (last_leaf tl))
      (omega (arith, b.right.slots.high (first_leaf tr'), cap_most w)))
      (threaded_still b.right.pieces.1 (λ s k. threading_thread w (last tl) (first tr')
      (λ e. slots_across (leaves tl) b.slots (at (last_leaf tl) e) (leads_in k))))

  standing_joined : {w₄ : Words} {x : ℕ} → MadeP piece_tree (threading w (last tl) (first tr')) w₄ x (some (join tl tr')) → Standing w₄ x (some (join tl tr'))
  standing_joined m =
      record {
        root = m.rep.root;
        slots = m.rep.slots;
        holds = rw (leaves_join tl tr') (holds_still (holds_still (holds_join b.left.holds b.right.holds)
            (λ s i. threading_offer w (last tl) (first tr') s)) (λ s i. only_offer m.only s));
        balanced = (near_join tl tr' b.left.balanced b.right.balanced).avl;
        pieces = (m.rep.tied, rw (leaves_join tl tr') (threaded_still all_threaded (λ s k. only_thread m.only (omega arith) s)));
      }

  only_joined : {w₄ : Words} {x : ℕ} → MadeP piece_tree (threading w (last tl) (first tr')) w₄ x (some (join tl tr')) → PiecesOnly (leaves tl ++ leaves tr') w w₄
  only_joined m = record {
    cells = λ f s d. m.only.cells f s (λ q. d (of_node q.0, subst (In s) (leaves_join tl tr') q.1))
        ∙ (threading_only w (last tl) (first tr') here).cells f s d;
  }

-- what the code reads of an item that its slot holds
rate_read : {w : Words} {a : Item} → Held w a → rate_at w a.slot ≡ a.offer.rate
rate_read {w} {a} h = rw h.rate (bounded_in (neg_ℤ (pos 100_000)) (pos 100_000) a.offer.rate (rate_of_lem a.offer h.ranged))

base_read : {w : Words} {a : Item} → Held w a → base_at w a.slot ≡ a.offer.base
base_read {w} {a} h = rw h.base (bounded_in (neg_ℤ (pos 1_000_000_000)) (pos 1_000_000_000) a.offer.base (base_of_lem a.offer h.ranged))

standing_rep : {w : Words} {x : ℕ} {t : Tree Item} → Standing w x (some t) → Rep w piece_tree x t
standing_rep h = record { kind = omega arith; root = h.root; slots = h.slots; tied = h.pieces.0 }

module _
    {w w₃ : Words} {l r s n : ℕ} {tl tr' : Tree Item} (wired : w₃ ≡ cset (cset (cset w numerator_field s (base_at w n -ℤ base_at w s)) denominator_field s
    (rate_at w s -ℤ rate_at w n)) next_piece_field s (pos n))
    (left_is : s ≡ (last tl).slot) (right_is : n ≡ (first tr').slot) (b : Beside w l r (some tl) (some tr')) where
  wired_is : w₃ ≡ threading w (last tl) (first tr')
  wired_is =
      let p : Held w (last tl) = b.left.holds.held (last_leaf tl) in
      let q : Held w (first tr') = b.right.holds.held (first_leaf tr') in
      wired ∙ rw (left_is, right_is, base_read p, base_read q, rate_read p, rate_read q) refl

  joined : {w₄ : Words} {x : ℕ} → Merged piece_tree s l r w₃ w₄ x → MadeP piece_tree (threading w (last tl) (first tr')) w₄ x (some (join tl tr'))
  joined {w₄} {x} m = (subst (λ (v : Words). Merged piece_tree s l r v w₄ x) wired_is m).made (some tl) (some tr') (pair_threaded b) left_is
      b.left.balanced b.right.balanced

  cat_root : {w₄ : Words} {x : ℕ} → Merged piece_tree s l r w₃ w₄ x → Standing w₄ x (some (join tl tr'))
  cat_root m = standing_joined b (joined m)

  cat_only : {w₄ : Words} {x : ℕ} → Merged piece_tree s l r w₃ w₄ x → PiecesOnly (leaves tl ++ leaves tr') w w₄
  cat_only m = only_joined b (joined m)

-- The crossing and the next piece are written, and the trees are joined.
pub seamed :
    {l r s n x : ℕ} {N D : ℤ} {w w₃ w₄ : Words} →
    l ≢ 0 →
    r ≢ 0 →
    N ≡ base_at w n -ℤ base_at w s →
    D ≡ rate_at w s -ℤ rate_at w n →
    w₃ ≡ cset (cset (cset w numerator_field s N) denominator_field s D) next_piece_field s (pos n) →
    Merged piece_tree s l r w₃ w₄ x →
    Seamed l r s n w w₄ x
seamed {l} {r} {s} {n} {x} {N} {D} {w} {w₃} {w₄} nl nr eN eD e₃ m = record { within = within_trans written m.within; root = root; only = only }
  where
    written : Within w w₃
    written = subst (Within w) (sym e₃) (within_trans (within_cset w numerator_field s N)
        (within_trans (within_cset (cset w numerator_field s N) denominator_field s D) (within_cset (cset (cset w numerator_field s N) denominator_field s D)
        next_piece_field s (pos n))))

    wired : w₃ ≡ cset (cset (cset w numerator_field s (base_at w n -ℤ base_at w s)) denominator_field s (rate_at w s -ℤ rate_at w n)) next_piece_field s (pos n)
    wired = e₃ ∙ rw (eN, eD) refl

    root : (p q : Part Item) → Beside w l r p q → SeamAt s n p q → Standing w₄ x (join_p p q)
    root none q b h = absurd (nl b.left.root)
    root (some tl) none b h = absurd (nr b.right.root)
    root (some tl) (some tr') b h = cat_root wired (h.left_end tl refl) (h.right_end tr' refl) b m

    only : (p q : Part Item) → Beside w l r p q → SeamAt s n p q → PiecesOnly (part_leaves p ++ part_leaves q) w w₄
    only none q b h = absurd (nl b.left.root)
    only (some tl) none b h = absurd (nr b.right.root)
    only (some tl) (some tr') b h = cat_only wired (h.left_end tl refl) (h.right_end tr' refl) b m

-- whoever knows the seam or not
pub seamed_any : {l r s n x : ℕ} {w w' : Words} → Catted l r w w' x → Seamed l r s n w w' x
seamed_any c = record { within = c.within; root = λ p q b h. c.root p q b; only = λ p q b h. c.only p q b }

pub after_any : {l r s x : ℕ} {w w' : Words} → Catted l r w w' x → CattedAfter l r s w w' x
after_any c = record { within = c.within; root = λ p q b h. c.root p q b; only = λ p q b h. c.only p q b }

pub before_any : {l r n x : ℕ} {w w' : Words} → Catted l r w w' x → CattedBefore l r n w w' x
before_any c = record { within = c.within; root = λ p q b h. c.root p q b; only = λ p q b h. c.only p q b }

-- an end at the seam is found
last_found : {w : Words} {l s : ℕ} {p : Part Item} → Ended w piece_tree true l s → Standing w l p → EndsAt s p
last_found {w} {l} f st t e = let h = subst (Standing w l) e st in f.is t (standing_rep h) h.balanced

first_found : {w : Words} {r n : ℕ} {q : Part Item} → Ended w piece_tree false r n → Standing w r q → BeginsAt n q
first_found {w} {r} f st t e = let h = subst (Standing w r) e st in f.is t (standing_rep h) h.balanced

-- both are
pub catted : {l r s n x : ℕ} {w w' : Words} → Ended w piece_tree true l s → Ended w piece_tree false r n → Seamed l r s n w w' x → Catted l r w w' x
catted {l} {r} {s} {n} {w} es en m = record { within = m.within; root = λ p q b. m.root p q b (ends p q b); only = λ p q b. m.only p q b (ends p q b) }
  where
    ends : (p q : Part Item) → Beside w l r p q → SeamAt s n p q
    ends p q b = record { left_end = last_found es b.left; right_end = first_found en b.right }

-- one is, and the other is known
pub catted_after : {l r s n x : ℕ} {w w' : Words} → Ended w piece_tree false r n → Seamed l r s n w w' x → CattedAfter l r s w w' x
catted_after {l} {r} {s} {n} {w} en m = record {
  within = m.within;
  root = λ p q b h. m.root p q b (ends p q b h);
  only =
      λ p q b h. m.only p q b (ends p q b h);
}
  where
    ends : (p q : Part Item) → Beside w l r p q → EndsAt s p → SeamAt s n p q
    ends p q b h = record { left_end = h; right_end = first_found en b.right }

pub catted_before : {l r s n x : ℕ} {w w' : Words} → Ended w piece_tree true l s → Seamed l r s n w w' x → CattedBefore l r n w w' x
catted_before {l} {r} {s} {n} {w} es m = record {
  within = m.within;
  root = λ p q b h. m.root p q b (ends p q b h);
  only =
      λ p q b h. m.only p q b (ends p q b h);
}
  where
    ends : (p q : Part Item) → Beside w l r p q → BeginsAt n q → SeamAt s n p q
    ends p q b h = record { left_end = last_found es b.left; right_end = h }
