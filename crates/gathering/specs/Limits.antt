-- Offers below a price at a whole load: a query's descent finds a cheapest piece, and the price is a limit.
use Rattle.std.proofs.Common.{subst, arith}
use Rattle.std.specs.Prelude.{Bool, List, T, ℤ}
use Rattle.std.specs.Int.Signed.{le_z, lt_z}
use Rattle.integers.specs.Parts.{int_rules}
use Rattle.offers.specs.Offers.{price_at}
use Rattle.lines.specs.Lines.{whole, whole_price}
use Rattle.trees.specs.Tree.{Tree}
use Rattle.dynamic.specs.OfferTree.{OfferTree}
use Rattle.below.specs.Children.{Seeks}
use Rattle.below.specs.Below.{below, Limit}
use Rattle.table.specs.Items.{Item}
use Rattle.pieces.specs.Pieces.{rate_of, base_of, items}
use Rattle.query.specs.Lookup.{lookup}
use Rattle.query.proofs.Answer.{lookup_last}

abbrev pub seek_at : ℤ → Tree Item → Item
seek_at q t = (lookup q t).item

-- the item's price at the load is strictly below p
abbrev pub cheap_at : ℤ → ℤ → Item → Bool
cheap_at q p a = lt_z (price_at a.offer q) p

-- the items below, where a is a cheapest of the tree's envelope
abbrev pub reported : ℤ → ℤ → OfferTree Item → Item → List Item
reported q p t a = below items (whole q) (seek_at q) (cheap_at q p) t a

pub seeks_at : (q : ℤ) → Seeks items (whole q) (seek_at q)
seeks_at q t E = let f = lookup_last t E q in record { one_of = f.one_of; least = f.least }

pub limit_at : (q p : ℤ) → Limit items (whole q) (cheap_at q p)
limit_at q p a b t s =
    let h : T (le_z (price_at a.offer q) (price_at b.offer q)) = subst T (whole_price Item rate_of base_of a b q) t in
    omega (arith, int_rules)
