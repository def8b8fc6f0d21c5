-- When the plain book that a part stands for declines a call, told by what the code tests: the search's result and the live count.
use Rattle.std.specs.Prelude.{◌≡◌, ◌≢◌, not, ◌&&◌, List, ℕ, ◌≤◌, ◌<◌, length, T, ℤ}
use Rattle.std.proofs.Common.{subst, arith, T_not, le→leb}
use Rattle.std.proofs.Math.Option.{Option}
use Rattle.std.proofs.Math.Dec.{not_T}
use Rattle.std.proofs.Math.Arith.{lt→nleb}
use Rattle.lists.specs.Bools.{and_both, not_not}
use Rattle.lists.specs.Tests.{any}
use Rattle.offers.specs.Offers.{Offer, offer_in_range, number_in_range, rate_in_range, base_in_range}
use Rattle.plain.specs.Causes.{number_live, book_full, number_not_live, Clear, at_once, further}
use Rattle.plain.specs.Book.{State, post, withdraw, has_number, range_trials, book_trials, trials, step}
use Rattle.plain.specs.Trials.{first_behind, clear_append}
use Rattle.plain.specs.Rules.{refusing}
use Rattle.plain.proofs.Rules.{step_declined}
use Rattle.trees.specs.Operations.{part_leaves}
use Rattle.dynamic.specs.OfferTree.{Held}
use Rattle.table.specs.Words.{Words}
use Rattle.table.specs.Items.{Item}
use Rattle.form.specs.Form.{Book, number_of}
use Rattle.form.specs.Live.{live_length}
use Rattle.declining.specs.Sought.{Sought, sought_item, sought_none, keyed_any, keyed_none}

-- a post in range is of an offer in range
pub clear_offer : (n r z : ℤ) → Clear (range_trials (post n r z)) → T (offer_in_range (record { number = n; rate = r; base = z }))
clear_offer n r z k =
    and_both (number_in_range n && rate_in_range r) (base_in_range z)
    (and_both (number_in_range n) (rate_in_range r) (not_not (number_in_range n) k.0) (not_not (rate_in_range r) k.1.0))
    (not_not (base_in_range z) k.1.1.0)

-- ---- on a part that stands for it

module _ {w : Words} {plain : State} {held : Option (Held Item)} (b : Book w plain held) where
  is_live : {n : ℤ} {s : ℕ} → Sought number_of n (part_leaves b.order) s → s ≢ 0 → T (any (has_number n) plain.offers)
  is_live {n} f h = let (a, m, e, d) = sought_item f h in subst (λ (os : List Offer). T (any (has_number n) os)) b.stands_for
      (keyed_any (λ o. o.number) n (part_leaves b.order) m e)

  not_live : {n : ℤ} {s : ℕ} → Sought number_of n (part_leaves b.order) s → s ≡ 0 → T (not (any (has_number n) plain.offers))
  not_live {n} f h = subst (λ (os : List Offer). T (not (any (has_number n) os))) b.stands_for
      (keyed_none (λ o. o.number) n (part_leaves b.order) (sought_none b.in_order.slots f h))

  module _ (n r z : ℤ) {s : ℕ} (ranged : Clear (range_trials (post n r z))) (by_number : Sought number_of n (part_leaves b.order) s) where
    pub post_number_live : s ≢ 0 → step plain (post n r z) ≡ refusing plain 5
    post_number_live h = step_declined plain (post n r z) number_live (first_behind (range_trials (post n r z)) ranged (at_once (is_live by_number h)))

    module _ (new : s ≡ 0) where
      pub post_full : plain.capacity ≤ length (part_leaves b.order) → step plain (post n r z) ≡ refusing plain 7
      post_full h =
          step_declined plain (post n r z) book_full
          (first_behind (range_trials (post n r z)) ranged
          (further (not_live by_number new) (at_once (le→leb plain.capacity (length plain.offers) (omega (arith, live_length b))))))

      pub post_clear : length (part_leaves b.order) < plain.capacity → Clear (trials plain (post n r z))
      post_clear h =
          clear_append (range_trials (post n r z)) (book_trials plain (post n r z)) ranged
          (not_live by_number new, (lt→nleb plain.capacity (length plain.offers) (omega (arith, live_length b)), tt))

  module _ (n : ℤ) {s : ℕ} (ranged : Clear (range_trials (withdraw n))) (by_number : Sought number_of n (part_leaves b.order) s) where
    pub withdraw_missing : s ≡ 0 → step plain (withdraw n) ≡ refusing plain 8
    withdraw_missing h =
        step_declined plain (withdraw n) number_not_live
        (first_behind (range_trials (withdraw n)) ranged (at_once (not_live by_number h)))

    pub withdraw_clear : s ≢ 0 → Clear (trials plain (withdraw n))
    withdraw_clear h = clear_append (range_trials (withdraw n)) (book_trials plain (withdraw n)) ranged
        (not_T (not (any (has_number n) plain.offers)) (λ t. T_not (any (has_number n) plain.offers) t (is_live by_number h)), tt)
