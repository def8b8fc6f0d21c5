-- What a tree of pieces tells is what the plain book answers.
use Rattle.std.specs.Prelude.{◌≡◌, Bool, ℕ, ◌*◌, ◌≤◌, ◌<◌, T, ℤ, length}
use Rattle.std.proofs.Common.{sym, ◌∙◌, ap, subst, arith, le-ltb, lt-ltb}
use mathlib.Core.List.Memᴰ
use mathlib.Core.List.{List, map, Memᴰ}
use Rattle.std.proofs.Math.Dec.{not_T}
use Rattle.std.proofs.lemmas.List.{length-map}
use Rattle.integers.specs.Parts.{int_rules}
use Rattle.offers.specs.Offers.{Offer}
use Rattle.envelopes.specs.Envelope.{Ordered, Env, listed as lines_listed}
use Rattle.envelopes.proofs.Query.{env_listed}
use Rattle.envelopes.proofs.Carried.{listed_map}
use Rattle.lines.specs.Lines.{whole, whole_price}
use Rattle.lines.specs.OfferLines.{offer_figure}
use Rattle.plain.specs.Causes.{cause_number, output_too_short}
use Rattle.plain.specs.Book.{State, listing, listed, refused, envelope, first_of_each, piece_words, step}
use Rattle.plain.specs.QueryLaws.{NotFirst, Names}
use Rattle.plain.proofs.ListingLaws.{envelope_listed}
use Rattle.table.specs.Items.{Item}
pub use Rattle.table.specs.Items.{offer_of}
use Rattle.pieces.specs.Pieces.{rate_of, base_of, items, item_laws_lem}

-- ---- a query

-- the plain book names such an offer
module _ {tie : ℤ → ℤ → Bool} {ls : List Item} {z : Item} {q : ℤ} (one_of : Memᴰ z ls)
    (least : (c : Item) → Memᴰ c ls → T (items.at_most z c (whole q)))
    (best : (c : Item) → Memᴰ c ls → T (tie c.offer.rate z.offer.rate) → ¬ T (items.at_most c z (whole q))) where
  pub not_first : (c : Item) → Memᴰ c ls → NotFirst tie q c.offer z.offer
  not_first c i =
      record {
        least = subst T (whole_price Item rate_of base_of z c q) (least c i);
        best = λ e. not_T (tie c.offer.rate z.offer.rate)
            (λ t. best c i t (subst T (sym (whole_price Item rate_of base_of c z q)) (omega (arith, int_rules))));
      }

  pub names_it : Names tie q (map offer_of ls) z.offer
  names_it =
      record {
        live = Memᴰ.map offer_of one_of;
        none_first = λ x m. let (c, i, e) = Memᴰ.of_map offer_of ls m in subst (λ (o : Offer). NotFirst tie q o z.offer) e (not_first c i);
      }

-- ---- a listing

-- where the lines hold the first offer of each rate, the pieces are those of the plain listing
pub pieces_plain : (ls es : List Item) (os : List Offer) → map offer_of ls ≡ first_of_each os → Ordered items ls → Env items ls es → map offer_of es ≡ envelope os
pieces_plain ls es os same o E =
    ap (map offer_of) (env_listed items item_laws_lem ls es o E) ∙ sym (listed_map offer_figure offer_of ls) ∙ ap (lines_listed offer_figure) same
    ∙ sym (envelope_listed os)

module _ {ls es : List Item} (s : State) (same : map offer_of ls ≡ first_of_each s.offers) (o : Ordered items ls) (E : Env items ls es) where
  pub shown : envelope s.offers ≡ map offer_of es
  shown = sym (pieces_plain ls es s.offers same o E)

  pub count_is : length (envelope s.offers) ≡ length es
  count_is = ap length shown ∙ length-map es offer_of

  pub listing_plain : (room : ℕ) → 3 * length es ≤ room → (step s (listing room)).answer ≡ listed (length es) (piece_words (map offer_of es))
  listing_plain room h = rw (le-ltb room (3 * length (envelope s.offers)) (omega (arith, count_is)), count_is, shown)

  -- cause 10
  pub listing_short : (room : ℕ) → room < 3 * length es → (step s (listing room)).answer ≡ refused (cause_number output_too_short)
  listing_short room h = rw (lt-ltb room (3 * length (envelope s.offers)) (omega (arith, count_is)))
