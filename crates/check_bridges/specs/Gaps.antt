-- Crossings of the lines that slots hold, compared by exact products. What is out of range reads 0, so that any words are safe;
-- of offers in range the comparison is that of their crossings.
use Rattle.std.specs.Prelude.{◌≡◌, Bool, ℕ, T, ℤ, pos, neg_ℤ, ◌-ℤ◌, ◌*ℤ◌}
use Rattle.std.proofs.Common.{sym, ◌∙◌, ap₂, SFits}
use Rattle.std.specs.Int.Signed.{le_z}
use Rattle.std.specs.Int.{w64}
use Rattle.offers.specs.Offers.{offer_in_range}
use Rattle.offers.specs.Sizes.{rate_of_lem, base_of_lem, base_gap_in_range}
use Rattle.offers.specs.Sizes.{rate_gap_in_range, cross_product_fits}
use Rattle.offers.specs.Bounded.{bounded_in}
use Rattle.lines.proofs.Lines.{cross_left}
use Rattle.table.specs.Fields.{base_field, rate_field}
use Rattle.table.specs.Words.{Words}
use Rattle.table.specs.Layout.{cell}
use Rattle.table.specs.Items.{Item}
use Rattle.prices.specs.Prices.{rate_at, base_at, rate_ranged, base_ranged}
use Rattle.pieces.specs.Pieces.{items, rate_of, base_of}
use Rattle.check_trees.specs.Laid.{item_at}

-- the slot's offer is in range
pub record InRange (w : Words) (s : ℕ) : Type 0 where
  pub ranged : T (offer_in_range (item_at w s).offer)

module _ {w : Words} {s : ℕ} (h : InRange w s) where
  pub rate_is : rate_at w s ≡ rate_of (item_at w s)
  rate_is = bounded_in (neg_ℤ (pos 100_000)) (pos 100_000) (cell w rate_field s) (rate_of_lem (item_at w s).offer h.ranged)

  pub base_is : base_at w s ≡ base_of (item_at w s)
  base_is = bounded_in (neg_ℤ (pos 1_000_000_000)) (pos 1_000_000_000) (cell w base_field s) (base_of_lem (item_at w s).offer h.ranged)

-- ---- numerator and denominator of a crossing

abbrev pub base_gap : Words → ℕ → ℕ → ℤ
base_gap w a b = base_at w b -ℤ base_at w a

abbrev pub rate_gap : Words → ℕ → ℕ → ℤ
rate_gap w a b = rate_at w a -ℤ rate_at w b

product_safe : (w : Words) (a b c d : ℕ) → SFits w64 (base_gap w a b *ℤ rate_gap w c d)
product_safe w a b c d =
    cross_product_fits (base_gap w a b) (rate_gap w c d) (base_gap_in_range (base_at w a) (base_at w b) (base_ranged w a) (base_ranged w b))
    (rate_gap_in_range (rate_at w c) (rate_at w d) (rate_ranged w c) (rate_ranged w d))

-- ---- the comparison

-- the crossing of a and b is at that of c and d or left of it
unfoldable pub cross_at : Words → ℕ → ℕ → ℕ → ℕ → Bool
cross_at w a b c d = le_z (base_gap w a b *ℤ rate_gap w c d) (base_gap w c d *ℤ rate_gap w a b)

pub cross_is :
    {w : Words} {a b c d : ℕ} →
    InRange w a →
    InRange w b →
    InRange w c →
    InRange w d →
    T (items.before (item_at w a) (item_at w b)) →
    T (items.before (item_at w c) (item_at w d)) →
    cross_at w a b c d ≡ items.up_to (items.cross (item_at w a) (item_at w b)) (items.cross (item_at w c) (item_at w d))
unfolding cross_at
cross_is {w} {a} {b} {c} {d} ha hb hc hd p q =
    ap₂ le_z
    (ap₂ ◌*ℤ◌ (ap₂ ◌-ℤ◌ (base_is hb) (base_is ha)) (ap₂ ◌-ℤ◌ (rate_is hc) (rate_is hd)))
    (ap₂ ◌*ℤ◌ (ap₂ ◌-ℤ◌ (base_is hd) (base_is hc)) (ap₂ ◌-ℤ◌ (rate_is ha) (rate_is hb)))
    ∙ sym (cross_left Item rate_of base_of (item_at w a) (item_at w b) (item_at w c) (item_at w d) p q)

-- ---- as the code computes them

pub products_safe : (w : Words) (a b c d : ℕ) {x y : ℤ} → x ≡ base_gap w a b → y ≡ rate_gap w c d → SFits w64 (x *ℤ y)
products_safe w a b c d e f = rw (e, f) (product_safe w a b c d)

pub cross_told : (w : Words) (a b c d : ℕ) {x y p q : ℤ} → x ≡ base_gap w a b → y ≡ rate_gap w c d → p ≡ base_gap w c d → q ≡ rate_gap w a b →
    le_z (x *ℤ y) (p *ℤ q) ≡ cross_at w a b c d
unfolding cross_at
cross_told w a b c d e f g h = rw (e, f, g, h)
