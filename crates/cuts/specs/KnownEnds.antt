-- A cut at an end of the tree: nothing is cut off, and nothing is written.
use Rattle.std.specs.Prelude.{◌≡◌, refl, Bool, true, false, not, ℕ, T, ℤ}
use Rattle.std.proofs.Common.{sym, ◌∙◌, ap, subst, arith}
use mathlib.Core.List.{Memᴰ}
use Rattle.std.proofs.Math.Option.{none, some}
use Rattle.std.specs.Int.Signed.{le_z, lt_z}
use Rattle.integers.specs.Parts.{int_rules}
use Rattle.trees.specs.Tree.{Tree, first}
use Rattle.trees.specs.Leaves.{first_leaf}
use Rattle.trees.specs.Operations.{Part, part_leaves, split, split_p}
use Rattle.table.specs.Fields.{piece_tree, rate_field}
use Rattle.table.specs.Words.{Words}
use Rattle.table.specs.Layout.{cell}
use Rattle.table.specs.Items.{Item, slots_none}
use Rattle.table.specs.Rep.{within_refl}
use Rattle.descents.specs.Whole.{split_whole, none_behind, none_in_front}
use Rattle.descents.specs.Ends.{Ended}
use Rattle.pieces.specs.Pieces.{rate_of, PiecesOnly, Standing}
use Rattle.cuts.specs.PieceCuts.{is_in_front, CutAt, Parted, NoneAbove, CutBehind, CutBefore}

nothing : (w : Words) → Standing w 0 none
nothing w =
    record {
      root = refl;
      slots = slots_none;
      holds = record { held = λ m. elim m [ ] };
      balanced = tt;
      pieces = tt;
    }

unwritten : (p : Part Item) (w : Words) → PiecesOnly (part_leaves p) w w
unwritten p w = record { cells = λ f s d. refl }

-- every piece passes
all_front_lem : {w : Words} {x : ℕ} (test : Item → Bool) (p : Part Item) → Standing w x p
    → ((a : Item) → Memᴰ a (part_leaves p) → T (test a)) → Parted test p w w x 0
unfolding split_p
all_front_lem {w} test none st f = record { in_front = st; behind = nothing w; only = unwritten none w }
all_front_lem {w} {x} test (some t) st f =
    let e : (split test t).back ≡ none = none_behind test t f in
    record {
      in_front = subst (Standing w x) (sym ((split_whole test st.balanced).front e)) st;
      behind = subst (Standing w 0) (sym e) (nothing w);
      only = unwritten (some t) w;
    }

-- none does
all_back : {w : Words} {x : ℕ} (test : Item → Bool) (p : Part Item) → Standing w x p
    → ((a : Item) → Memᴰ a (part_leaves p) → T (not (test a))) → Parted test p w w 0 x
unfolding split_p
all_back {w} test none st f = record { in_front = nothing w; behind = st; only = unwritten none w }
all_back {w} {x} test (some t) st f =
    let e : (split test t).front ≡ none = none_in_front test t f in
    record {
      in_front = subst (Standing w 0) (sym e) (nothing w);
      behind = subst (Standing w x) (sym ((split_whole test st.balanced).back e)) st;
      only = unwritten (some t) w;
    }

-- any other cut
pub parted_by : {strict : Bool} {rate : ℤ} {x front back : ℕ} {w w' : Words} {p : Part Item} → CutAt strict rate x w w' front back → Standing w x p
    → Parted (is_in_front strict rate) p w w' front back
parted_by {p} cut st = record { in_front = cut.in_front p st; behind = cut.behind p st; only = cut.only p st }

-- ---- each answer of the code

module _ {u s x : ℕ} where
  pub behind_last : {w : Words} → u ≡ s → CutBehind u s x w w x 0
  behind_last {w} e =
      record {
        within = within_refl w;
        parted = λ p st low.
            all_front_lem (is_in_front false (cell w rate_field u)) p st (λ a m. subst (λ i. T (le_z (cell w rate_field i) (rate_of a))) (sym e) (low a m));
      }

  pub behind_cut : {rate : ℤ} {w w' : Words} {front back : ℕ} → rate ≡ cell w rate_field u → CutAt false rate x w w' front back → CutBehind u s x w w' front back
  behind_cut {w} {w'} {front} {back} e cut =
      record { within = cut.within; parted = λ p st low. subst (λ z. Parted (is_in_front false z) p w w' front back) e (parted_by cut st) }

module _ {v x : ℕ} where
  pub before_first : {w : Words} {n : ℕ} → Ended w piece_tree false x n → v ≡ n → CutBefore v x w w 0 x
  before_first {w} {n} end e = record { within = within_refl w; parted = λ p st high. all_back (is_in_front true (cell w rate_field v)) p st (behind p st high) }
    where
      at_first : (t : Tree Item) → Standing w x (some t) → cell w rate_field v ≡ rate_of (first t)
      at_first t st =
          ap (cell w rate_field) (e ∙ end.is t (record { kind = omega arith; root = st.root; slots = st.slots; tied = st.pieces.0 }) st.balanced)
          ∙ (st.holds.held (first_leaf t)).rate

      behind : (p : Part Item) → Standing w x p → NoneAbove p → (a : Item) → Memᴰ a (part_leaves p) → T (not (lt_z (cell w rate_field v) (rate_of a)))
      behind none st high a m = elim m [ ]
      behind (some t) st high a m =
          let k : T (le_z (rate_of a) (cell w rate_field v)) = rw (at_first t st) (high t refl a m) in
          omega (arith, int_rules)

  pub before_cut : {rate : ℤ} {w w' : Words} {front back : ℕ} → rate ≡ cell w rate_field v → CutAt true rate x w w' front back → CutBefore v x w w' front back
  before_cut {w} {w'} {front} {back} e cut =
      record { within = cut.within; parted = λ p st high. subst (λ z. Parted (is_in_front true z) p w w' front back) e (parted_by cut st) }
