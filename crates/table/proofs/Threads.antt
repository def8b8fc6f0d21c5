-- Theorems on specs/Threads.
use Rattle.std.specs.Prelude.{◌≡◌, refl, ◌≢◌, Bool, true, false, ℕ, ◌≤◌, ◌<◌, T, ℤ, pos, length}
use Rattle.std.proofs.Common.{sym, ◌∙◌, ap, subst, ⊎_elim, arith}
use mathlib.Core.List.Memᴰ
use mathlib.Core.List.{List, [], ◌∷◌, ◌++◌, append_assoc, Memᴰ}
use mathlib.Core.List.{IsChain}
use mathlib.Mathlib.Data.List.Chain.IsChain
use mathlib.Mathlib.Data.List.Chain.{IsChain-append-cons-cons}
use Rattle.offers.specs.Offers.{offer_in_range, crossing_numerator, crossing_denominator}
use Rattle.trees.specs.Tree.{Tree, leaves, first, last}
use Rattle.trees.specs.Leaves.{start, rest, leaves_first, leaves_last}
use Rattle.table.specs.Fields.{base_field, denominator_field, most_nodes, next_piece_field, number_field, order_tree, numerator_field, piece_node_field, rate_field}
use Rattle.table.specs.Words.{Words, up_to, up_to_in}
use Rattle.table.specs.Layout.{cap, cell, cset, link_at, Valid, cset_cap, cset_same}
use Rattle.table.proofs.LayoutLaws.{cset_other}
use Rattle.table.specs.Items.{Item, In, at, Slots, slots_across}
use Rattle.table.specs.Rep.{child_field, Field, a_child, a_height, Only}
use Rattle.table.specs.Threads.{Next, SameOffer, SameThread, threading}

-- a write to another slot, or to another field, leaves what a slot holds
module _ (w : Words) (f s : ℕ) (z : ℤ) where
  pub cset_offer : base_field < f → (s' : ℕ) → SameOffer w (cset w f s z) s'
  cset_offer h s' =
      record {
        number = cset_other w f s z (λ e. omega (arith, e.0));
        rate = cset_other w f s z (λ e. omega (arith, e.0));
        base = cset_other w f s z (λ e. omega (arith, e.0));
      }

  pub cset_thread : {s' : ℕ} → s' ≢ s → SameThread w (cset w f s z) s'
  cset_thread d =
      record {
        next = cset_other w f s z (λ e. d e.1);
        numerator = cset_other w f s z (λ e. d e.1);
        denominator = cset_other w f s z (λ e. d e.1);
      }

pub threading_next : (w : Words) (a b : Item) → 1 ≤ a.slot → a.slot ≤ cap w → b.slot ≤ most_nodes → Next (threading w a b) a b
threading_next w a b low high h =
    record {
      next = ap (up_to most_nodes) (cset_same (pos b.slot) (has w₂ next_piece_field (omega arith) (omega (arith, c₂)))) ∙ up_to_in most_nodes b.slot h;
      numerator = cset_other w₂ next_piece_field a.slot (pos b.slot) (λ e. omega (arith, e.0))
          ∙ cset_other w₁ denominator_field a.slot _ (λ e. omega (arith, e.0)) ∙ cset_same _ (has w numerator_field (omega arith) (omega arith));
      denominator = cset_other w₂ next_piece_field a.slot (pos b.slot) (λ e. omega (arith, e.0))
          ∙ cset_same _ (has w₁ denominator_field (omega arith) (omega (arith, c₁)));
    }
  where
    w₁ : Words
    w₁ = cset w numerator_field a.slot (crossing_numerator a.offer b.offer)

    w₂ : Words
    w₂ = cset w₁ denominator_field a.slot (crossing_denominator a.offer b.offer)

    c₁ : cap w₁ ≡ cap w
    c₁ = cset_cap w numerator_field a.slot _

    c₂ : cap w₂ ≡ cap w
    c₂ = cset_cap w₁ denominator_field a.slot _ ∙ c₁

    has : (v : Words) (f : ℕ) → f < 32 → a.slot ≤ cap v → Valid v f a.slot
    has v f b i = record { low = low; high = i; field = b }
