-- The offer behind one in order: as the code finds it, and what it is to the offer that goes.
use Rattle.std.specs.Prelude.{◌≡◌, refl, ◌⊎◌, Bool, true, false, ℕ, ◌<◌, T, ℤ}
use Rattle.std.proofs.Common.{sym, ◌∙◌, ap, subst, inl, inr, ⊎_elim, arith}
use mathlib.Core.List.{List, Memᴰ}
use Rattle.std.proofs.Math.Option.{Option}
use Rattle.std.specs.Int.Signed.{le_z, lt_z}
use Rattle.lists.specs.Bools.{said, denied}
use Rattle.integers.specs.Equal.{equal}
use Rattle.integers.specs.Parts.{int_rules, equal_eq, unequal, le_or_lt}
use Rattle.offers.specs.Order.{Ahead}
use Rattle.offers.specs.Ranks.{ahead_rank}
use Rattle.offers.proofs.Ranks.{rank_ahead}
use Rattle.plain.specs.Book.{State}
use Rattle.trees.specs.Operations.{part_leaves}
use Rattle.trees.specs.Order.{falling_one}
use Rattle.dynamic.specs.OfferTree.{Held}
use Rattle.firsts.specs.Joins.{Leaves}
use Rattle.firsts.specs.Follower.{Follower}
use Rattle.table.specs.Fields.{most_nodes, order_root_word, order_tree, rank_field, rate_field}
use Rattle.table.specs.Words.{Words, word, up_to}
use Rattle.table.specs.Layout.{cell}
use Rattle.table.specs.Items.{Item, offer_of}
use Rattle.pieces.specs.Pieces.{rate_of}
use Rattle.form.specs.Form.{Book, rank_of}
use Rattle.index.specs.Index.{Next, NextAmong, Follows, NoneBelow}
use Rattle.declining.specs.Sought.{order_at}
use Rattle.settling.specs.Going.{Followed, by_its_rate, by_another, by_nobody}

-- the search from the rank of the offer in slot s, and whether what it finds has that offer's rate
pub data FollowedAt (s : ℕ) (w : Words) (y : ℕ) : Type 0 where
  finds_none : {c : ℕ} → Next order_tree rank_field (cell w rank_field s) (up_to most_nodes (word w order_root_word)) w c → c < 1 → y ≡ 0 → FollowedAt s w y
  finds_its_rate : {c : ℕ} {rate : ℤ} {r : Bool} → Next order_tree rank_field (cell w rank_field s) (up_to most_nodes (word w order_root_word)) w c → 0 < c →
      rate ≡ cell w rate_field s → r ≡ equal (cell w rate_field c) rate → r ≡ true → y ≡ c → FollowedAt s w y
  finds_another : {c : ℕ} {rate : ℤ} {r : Bool} → Next order_tree rank_field (cell w rank_field s) (up_to most_nodes (word w order_root_word)) w c → 0 < c →
      rate ≡ cell w rate_field s → r ≡ equal (cell w rate_field c) rate → r ≡ false → y ≡ 0 → FollowedAt s w y

-- as the code calls it
pub next_at : (s : ℕ) {c root : ℕ} {w : Words} {key : ℤ} → key ≡ cell w rank_field s → root ≡ up_to most_nodes (word w order_root_word) →
    Next order_tree rank_field key root w c → Next order_tree rank_field (cell w rank_field s) (up_to most_nodes (word w order_root_word)) w c
next_at s {c} {root} {w} e d n =
    subst (λ (i : ℕ). Next order_tree rank_field (cell w rank_field s) i w c) d (subst (λ (z : ℤ). Next order_tree rank_field z root w c) e n)

module _
    {w : Words} {plain : State} {held : Option (Held Item)} (b : Book w plain held) {a : Item} {rest : List Item} {s : ℕ}
    (es : s ≡ a.slot) (l : Leaves Item offer_of a (part_leaves b.order) rest) where
  abbrev live : List Item
  live = part_leaves b.order

  rank_is : cell w rank_field s ≡ rank_of a
  rank_is = ap (cell w rank_field) es ∙ b.in_order.ranked.read l.live

  found : {c : ℕ} → Next order_tree rank_field (cell w rank_field s) (up_to most_nodes (word w order_root_word)) w c → NextAmong live rank_of (rank_of a) c
  found {c} n = subst (λ (z : ℤ). NextAmong live rank_of z c) rank_is (n.told rank_of live b.order (order_at b refl))

  -- ranks of live items tell the order
  down : {x y : Item} → Memᴰ x live → Memᴰ y live → Ahead x.offer y.offer → T (lt_z (rank_of y) (rank_of x))
  down {x} {y} m n k = ahead_rank x.offer y.offer (b.in_order.holds.held m).ranged (b.in_order.holds.held n).ranged k

  up : {x y : Item} → Memᴰ x live → Memᴰ y live → T (lt_z (rank_of y) (rank_of x)) → Ahead x.offer y.offer
  up {x} {y} m n t = rank_ahead x.offer y.offer (b.in_order.holds.held m).ranged (b.in_order.holds.held n).ranged t

  follower_of : {c : Item} → Follows rank_of (rank_of a) live c → Follower Item offer_of a rest c
  follower_of {c} f =
      record {
        there = l.others c f.inside (λ e. below_itself (ap rank_of e) f.less);
        behind = up l.live f.inside f.less;
        next = λ x m k.
            let i = (l.there x m).0 in
            ⊎_elim (λ e. inl (falling_one rank_of b.in_order.order_in.falling i f.inside e)) (λ t. inr (up f.inside i t))
            (split_le (rank_of x) (rank_of c) (f.greatest x i (down l.live i k)));
      }
    where
      below_itself : {p q : ℤ} → p ≡ q → T (lt_z p q) → ⊥
      below_itself e t = omega (arith, int_rules)

      split_le : (p q : ℤ) → T (le_z p q) → (p ≡ q) ⊎ T (lt_z p q)
      split_le p q t = ⊎_elim (λ h. inl (omega (arith, int_rules))) inr (le_or_lt q p)

  -- no live item's rank is below
  nobody : NoneBelow rank_of (rank_of a) live → (c : Item) → Memᴰ c rest → ¬ Ahead a.offer c.offer
  nobody n c m k = let i = (l.there c m).0 in not_both (rank_of a) (rank_of c) (n c i) (down l.live i k)
    where
      not_both : (p q : ℤ) → T (le_z p q) → T (lt_z q p) → ⊥
      not_both p q t u = omega (arith, int_rules)

  rate_in : {c : Item} {d : ℕ} → d ≡ c.slot → Memᴰ c live → cell w rate_field d ≡ rate_of c
  rate_in e m = ap (cell w rate_field) e ∙ (b.in_order.holds.held m).rate

  pub followed : {y : ℕ} → FollowedAt s w y → Followed a rest y
  followed (finds_none n h e) =
      ⊎_elim (λ f. absurd (omega (arith, f.1, b.in_order.slots.low f.2.inside))) (λ f. by_nobody e (nobody f.1)) (found n)
  followed (finds_its_rate {c} {rate} n h q d t e) =
      ⊎_elim (λ f. by_its_rate f.0 (e ∙ f.1) (follower_of f.2)
      (sym (sym (rate_in f.1 f.2.inside) ∙ equal_eq (cell w rate_field c) rate (said d t) ∙ q ∙ rate_in es l.live)))
      (λ f. absurd (omega (arith, f.0))) (found n)
  followed (finds_another {c} {rate} n h q d t e) =
      ⊎_elim (λ f. by_another f.0 e (follower_of f.2)
      (λ r. unequal (cell w rate_field c) rate (denied d t) (rate_in f.1 f.2.inside ∙ sym r ∙ sym (rate_in es l.live) ∙ sym q)))
      (λ f. absurd (omega (arith, f.0))) (found n)
