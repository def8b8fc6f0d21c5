-- Theorems on specs/Ranks.
use Rattle.std.specs.Prelude.{ℕ, ◌+◌, ◌*◌, ◌≡◌, T, ℤ, pos, ◌+ℤ◌, ◌-ℤ◌, ◌*ℤ◌}
use Rattle.std.proofs.Common.{arith, sym, ap, ⊎_elim, SFits}
use Rattle.std.specs.Int.Signed.{lt_z}
use Rattle.std.specs.Int.{w64}
use Rattle.integers.specs.Parts.{pos_part, neg_part, int_rules, add_parts, sub_parts, mul_p, mul_n, range_parts}
use Rattle.integers.specs.Magnitude.{nat_abs_add, nat_abs_sub, nat_abs_mul, fits}
use Rattle.offers.specs.Offers.{Offer, offer_in_range}
use Rattle.offers.specs.Sizes.{number_of_lem, rate_of_lem, base_of_lem, number_size, rate_size, base_size}
use Rattle.offers.specs.Order.{Ahead, by_rate_lem, by_base, by_number, compare_offers}
use Rattle.offers.specs.Ranks.{ahead_rank, irrefl, rank}

module _ (a b : Offer) (ha : T (offer_in_range a)) (hb : T (offer_in_range b)) where
  -- a rank tells its offer
  pub rank_tells : rank a ≡ rank b → a ≡ b
  rank_tells e = ⊎_elim (λ d. d) (⊎_elim (λ k. absurd (irrefl e (ahead_rank a b ha hb k))) (λ k. absurd (irrefl (sym e) (ahead_rank b a hb ha k))))
      (compare_offers a b)

  pub rank_ahead : T (lt_z (rank b) (rank a)) → Ahead a b
  rank_ahead t = ⊎_elim (λ e. absurd (irrefl (ap rank e) t)) (⊎_elim (λ k. k) (λ k. absurd (apart t (ahead_rank b a hb ha k)))) (compare_offers a b)
    where
      apart : T (lt_z (rank b) (rank a)) → T (lt_z (rank a) (rank b)) → ⊥
      apart t u = omega (arith, int_rules)
