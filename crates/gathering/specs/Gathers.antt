-- The walk that gathers the report: what it promises, and the ways through its code.
use Rattle.std.specs.Prelude.{◌≡◌, refl, ◌≢◌, Bool, true, false, T, ℤ, length, get_or, set}
use Rattle.std.proofs.Math.Path.{sym, ap₂}
use Rattle.std.proofs.Common.{◌∙◌, ap, length-append}
use mathlib.Core.List.Memᴰ
use mathlib.Core.List.{List, [], ◌∷◌, ◌++◌, map, map-append}
use Prim.Native.Nat.{ℕ, suc, ◌+◌, ◌-◌, ◌≤◌, ◌<◌}
use native.Mathlib.Omega.{arith}
use Rattle.std.specs.Int.Signed.{lt_z}
use Rattle.std.proofs.Math.ListN.{length-set}
use Rattle.std.proofs.lemmas.List.{length-map}
use Rattle.std.proofs.Math.Seq.{get_or-set_same, get_or-set_other}
use Rattle.lists.specs.Filter.{keep_sublist}
use Rattle.lists.specs.Members.{sub_length}
use Rattle.offers.specs.Offers.{load_in_range}
use Rattle.lines.specs.Lines.{whole}
use Rattle.trees.specs.Tree.{height, leaves}
use Rattle.trees.specs.Leaves.{some_leaf, last_leaf}
use Rattle.trees.specs.Operations.{part_leaves}
use Rattle.dynamic.specs.OfferTree.{OfferTree, single, fork, shape}
use Rattle.dynamic.specs.Lower.{valid_env}
use Rattle.below.specs.Least.{Least}
use Rattle.below.specs.Children.{left_of, right_of, Lesser}
use Rattle.below.proofs.Children.{children}
use Rattle.below.specs.Below.{below}
use Rattle.below.proofs.Below.{below_exact}
use Rattle.table.specs.Fields.{most_slots, offer_tree}
use Rattle.table.specs.Words.{Words}
use Rattle.table.specs.Layout.{cap_most}
use Rattle.table.specs.Items.{Item, slot_of, slots_left}
use Rattle.table.specs.Rep.{child_at}
use Rattle.pieces.specs.Pieces.{items, item_laws_lem}
use Rattle.query.specs.Readings.{price_in}
use Rattle.check_trees.specs.Stretches.{span, span_none, span_one, span_cut, span_same, span_length}
use Rattle.gathering.specs.Limits.{seek_at, cheap_at, reported, seeks_at, limit_at}
use Rattle.gathering.specs.Nodes.{Subtree, subtree_held, Forked, forked}
use Rattle.gathering.specs.Cheapest.{Kept, price_told, OnLeft, OnRight}

-- the place of a walk that gave up
abbrev pub given_up : ℕ
given_up = most_slots + 1

-- a subtree with a cheapest item of its envelope, and room for all its leaves
pub record Asked (w : Words) (x e : ℕ) (q : ℤ) (limit at : ℕ) (t : OfferTree Item) (es : List Item) (a : Item) : Type 0 where
  pub under : Subtree w x t es
  pub slot : e ≡ a.slot
  pub least : Least items es a (whole q)
  pub load : T (load_in_range q)
  pub low : height (shape t) ≤ limit
  pub room : at + length (leaves (shape t)) ≤ most_slots

pub record Gathers (w : Words) (x e : ℕ) (q p : ℤ) (limit : ℕ) (xs xs' : List ℕ) (at next : ℕ) : Type 0 where
  pub long : length xs' ≡ length xs
  pub same : (i : ℕ) → i < at → get_or xs' i 0 ≡ get_or xs i 0
  pub grown : at ≤ next
  pub gathers : (t : OfferTree Item) (es : List Item) (a : Item) → Asked w x e q limit at t es a → span xs' at next ≡ map slot_of (reported q p t a)

asked_kept : {w : Words} {x e limit at : ℕ} {q : ℤ} {t : OfferTree Item} {es : List Item} {a : Item} → Asked w x e q limit at t es a → Kept w e q a
asked_kept k = record { slot = k.slot; held = subtree_held k.under k.least.one_of; load = k.load }

-- the code's test is the model's
pub asked_cheap :
    {w : Words} {x e limit at : ℕ} {q : ℤ} (p : ℤ) {t : OfferTree Item} {es : List Item} {a : Item} {b : Bool} → Asked w x e q limit at t es a →
    b ≡ lt_z (price_in w e q) p → cheap_at q p a ≡ b
asked_cheap p k test = sym (test ∙ ap (λ z. lt_z z p) (price_told (asked_kept k)))

-- ---- no room is left

pub gathers_past : {w : Words} {x e limit at : ℕ} {q p : ℤ} {xs : List ℕ} → most_slots < at → Gathers w x e q p limit xs xs at at
gathers_past h = record { long = refl; same = λ i k. refl; grown = omega arith; gathers = λ t es a k. absurd (omega (arith, k.room)) }

-- ---- the cheapest is not below

pub gathers_none : {w : Words} {x e limit at : ℕ} {q p : ℤ} {xs : List ℕ} {b : Bool} → b ≡ lt_z (price_in w e q) p → b ≡ false →
    Gathers w x e q p limit xs xs at at
unfolding below
gathers_none {w} {x} {e} {limit} {at} {q} {p} {xs} test y = record { long = refl; same = λ i h. refl; grown = omega arith; gathers = go }
  where
    go : (t : OfferTree Item) (es : List Item) (a : Item) → Asked w x e q limit at t es a → span xs at at ≡ map slot_of (reported q p t a)
    go (single c) es a k = rw (asked_cheap p k test, y) (span_none xs at at (omega arith))
    go (fork u v l ql qr r) es a k = rw (asked_cheap p k test, y) (span_none xs at at (omega arith))

-- ---- a leaf

-- the number is put at a place below 4,096, or nothing is done
pub data Put (x : ℕ) (xs : List ℕ) : List ℕ → (at next : ℕ) → Type 0 where
  put_none : {at : ℕ} → most_slots ≤ at → Put x xs xs at given_up
  put_here : {at : ℕ} → length xs ≡ most_slots → at < most_slots → Put x xs (set xs at x) at (at + 1)

module _ {w : Words} {x e limit at : ℕ} {q p : ℤ} {xs : List ℕ} (leafy : x ≤ most_slots) {b : Bool} (test : b ≡ lt_z (price_in w e q) p) (y : b ≡ true) where
  gathers_full : at ≤ most_slots → most_slots ≤ at → Gathers w x e q p limit xs xs at given_up
  gathers_full g h =
      record { long = refl; same = λ i h. refl; grown = omega arith; gathers = λ t es a k. absurd (omega (arith, k.room, some_leaf (shape t))) }

  gathers_leaf : length xs ≡ most_slots → at < most_slots → Gathers w x e q p limit xs (set xs at x) at (at + 1)
  unfolding below
  gathers_leaf n h = record { long = length-set xs at x; same = λ i k. get_or-set_other xs at i x 0 (omega arith); grown = omega arith; gathers = go }
    where
      one : span (set xs at x) at (at + 1) ≡ x ∷ []
      one = let d : at + 1 ≡ suc at = omega arith in rw (d, span_one (set xs at x) at, get_or-set_same xs at x 0 (omega arith))

      go : (t : OfferTree Item) (es : List Item) (a : Item) → Asked w x e q limit at t es a → span (set xs at x) at (at + 1) ≡ map slot_of (reported q p t a)
      go (single c) es a k = one ∙ rw (asked_cheap p k test, y) (ap (λ (s : ℕ). s ∷ []) k.under.root)
      go (fork u v l ql qr r) es a k = absurd (omega (arith, k.under.root, (slots_left (leaves (shape r)) k.under.slots).low (last_leaf (shape l))))

pub gathers_put : {w : Words} {x e limit at next : ℕ} {q p : ℤ} {xs xs' : List ℕ} {b : Bool} → at ≤ most_slots → x ≤ most_slots →
    b ≡ lt_z (price_in w e q) p → b ≡ true → Put x xs xs' at next → Gathers w x e q p limit xs xs' at next
gathers_put g d test y (put_none h) = gathers_full d test y g h
gathers_put g d test y (put_here n h) = gathers_leaf d test y n h

-- ---- the limit is used up

pub gathers_deep : {w : Words} {x e limit at : ℕ} {q p : ℤ} {xs : List ℕ} → at ≤ most_slots → most_slots < x → limit ≡ 0 →
    Gathers w x e q p limit xs xs at given_up
gathers_deep {w} {x} {e} {limit} {at} {q} {p} {xs} g d z = record { long = refl; same = λ i h. refl; grown = omega arith; gathers = go }
  where
    go : (t : OfferTree Item) (es : List Item) (a : Item) → Asked w x e q limit at t es a → span xs at given_up ≡ map slot_of (reported q p t a)
    go (single c) es a k = absurd (omega (arith, k.under.root, k.under.slots.high (Memᴰ.head refl), cap_most w))
    go (fork u v l ql qr r) es a k = absurd (omega (arith, k.low))

-- ---- both children

-- no more items are reported than there are
reported_few : {w : Words} {x : ℕ} {q : ℤ} (p : ℤ) {t : OfferTree Item} {es : List Item} {a : Item} → Subtree w x t es → Least items es a (whole q) →
    length (reported q p t a) ≤ length (leaves (shape t))
reported_few {q} p {t} n M =
    let exact = below_exact items item_laws_lem (whole q) (cheap_at q p) (limit_at q p) (seek_at q) (seeks_at q) n.valid n.ordered M in
    omega (arith, ap length exact, sub_length (keep_sublist (cheap_at q p) (leaves (shape t))))

module _
    {w : Words} {x e limit at mid next c d f g : ℕ} {q p : ℤ} {xs xs₁ xs₂ : List ℕ} {b : Bool}
    (high : most_slots < x) (more : limit ≢ 0) (test : b ≡ lt_z (price_in w e q) p) (y : b ≡ true)
    (lc : c ≡ child_at w offer_tree false x) (ll : OnLeft w x e q f) (A : Gathers w c f q p (limit - 1) xs xs₁ at mid)
    (rc : d ≡ child_at w offer_tree true x) (rr : OnRight w x e q g) (C : Gathers w d g q p (limit - 1) xs₁ xs₂ mid next) where
  pub gathers_node : Gathers w x e q p limit xs xs₂ at next
  unfolding below
  gathers_node =
      record {
        long = C.long ∙ A.long;
        same = λ i h. C.same i (omega (arith, A.grown)) ∙ A.same i h;
        grown = omega (arith, A.grown, C.grown);
        gathers = go;
      }
    where
      go : (t : OfferTree Item) (es : List Item) (a : Item) → Asked w x e q limit at t es a → span xs₂ at next ≡ map slot_of (reported q p t a)
      go (single z) es a k = absurd (omega (arith, k.under.root, k.under.slots.high (Memᴰ.head refl), cap_most w))
      go (fork u v l ql qr r) es a k =
          rw (asked_cheap p k test, y)
          (span_cut xs₂ at mid next A.grown C.grown
          ∙ ap₂ ◌++◌ (span_same xs₂ xs₁ at mid (λ i h j. C.same i j) ∙ first) second
          ∙ sym (map-append slot_of (reported q p l a₁) (reported q p r a₂)))
        where
          F : Forked w x u v l r ql qr es
          F = forked u v l r ql qr k.under

          a₁ : Item
          a₁ = left_of items (whole q) (seek_at q) u l ql a

          a₂ : Item
          a₂ = right_of items (whole q) (seek_at q) v l qr a

          M : Lesser items (whole q) ((F.up_to ++ u ∷ []) ++ part_leaves ql) (part_leaves qr ++ v ∷ F.from) a₁ a₂
          M =
              children items item_laws_lem (whole q) (seek_at q) (seeks_at q) u v l r ql qr F.up_to F.from k.under.ordered F.pieces F.envelope
              (valid_env items item_laws_lem F.left.valid) (valid_env items item_laws_lem F.right.valid) k.least

          first : span xs₁ at mid ≡ map slot_of (reported q p l a₁)
          first =
              A.gathers l _ a₁
              (record {
                under = rw lc F.left;
                slot = ll.is u v l r ql qr es a k.under (asked_kept k);
                least = M.left;
                load = k.load;
                low = omega (arith, k.low);
                room = omega (arith, k.room, length-append (leaves (shape l)) (leaves (shape r)));
              })

          few : mid - at ≤ length (leaves (shape l))
          few = omega (arith, span_length xs₁ at mid, ap length first, length-map (reported q p l a₁) slot_of, reported_few p F.left M.left)

          second : span xs₂ mid next ≡ map slot_of (reported q p r a₂)
          second =
              C.gathers r _ a₂
              (record {
                under = rw rc F.right;
                slot = rr.is u v l r ql qr es a k.under (asked_kept k);
                least = M.right;
                load = k.load;
                low = omega (arith, k.low);
                room = omega (arith, k.room, few, A.grown, length-append (leaves (shape l)) (leaves (shape r)));
              })
