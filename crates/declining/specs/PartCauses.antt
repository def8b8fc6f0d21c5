-- What declines a call in range, as the code finds it: a post by its number or the full book; and where nothing does, the offer can be posted.
use Rattle.std.specs.Prelude.{◌≡◌, refl, ◌≢◌, ℕ, ◌≤◌, ◌<◌, length, ℤ, pos, T, Result, Ok, Err}
use Rattle.std.proofs.Common.{subst, arith}
use mathlib.Core.List.{List, Memᴰ}
use Rattle.std.proofs.Math.Option.{Option}
use Rattle.offers.specs.Offers.{Offer, offer_in_range}
use Rattle.plain.specs.Causes.{Clear}
use Rattle.plain.specs.Book.{State, post, range_trials, trials, step}
use Rattle.plain.specs.Rules.{refusing}
use Rattle.trees.specs.Operations.{part_leaves}
use Rattle.dynamic.specs.OfferTree.{Held}
use Rattle.table.specs.Fields.{live_count_word, most_nodes, number_field, number_tree, numbers_root_word}
use Rattle.table.specs.Words.{Words, word, up_to}
use Rattle.table.specs.Layout.{cap}
use Rattle.table.specs.Items.{Item}
use Rattle.form.specs.Form.{Book, number_of}
use Rattle.form.specs.HeaderWords.{count_read}
use Rattle.index.specs.Index.{FoundKey}
use Rattle.causes.specs.declared.Declined.{Declined}
use Rattle.causes.specs.declared.Declined.TheVariants.{NumberLive, Full}
use Rattle.causes.specs.Numbers.{number_of as refusal_number}
use Rattle.declining.specs.Sought.{number_sought, sought_none}
use Rattle.declining.specs.Declining.{post_number_live, post_full, post_clear, clear_offer}

-- ---- the search

pub found_at : {n : ℤ} {w : Words} {root s : ℕ} → root ≡ up_to most_nodes (word w numbers_root_word) → FoundKey number_tree number_field n root w s →
    FoundKey number_tree number_field n (up_to most_nodes (word w numbers_root_word)) w s
found_at {n} {w} {s} e f = subst (λ (i : ℕ). FoundKey number_tree number_field n i w s) e f

-- ---- an offer that can be posted

-- its number is not live, and there is room
pub record Postable (o : Offer) (c : ℕ) (live : List Item) : Type 0 where
  pub ranged : T (offer_in_range o)
  pub number_new : (a : Item) → Memᴰ a live → number_of a ≢ o.number
  pub room : length live < c

-- ---- post

-- the plain book declines a post in range by the number of this cause
abbrev pub PostDeclined : ℤ → Words → Declined → Type 0
PostDeclined n w c = (m : ℕ) × (1 ≤ m) × (refusal_number c ≡ pos m) × ((r z : ℤ) (plain : State) (held : Option (Held Item)) →
    Book w plain held → Clear (range_trials (post n r z)) → step plain (post n r z) ≡ refusing plain m)

-- why a post in range is declined, where it is
pub record PostCause (n : ℤ) (w : Words) (u : Result (Unit {0}) Declined) : Type 0 where
  pub declines : (c : Declined) → u ≡ Err c → PostDeclined n w c
  pub clears : u ≡ Ok tt → (r z : ℤ) (plain : State) (held : Option (Held Item)) (b : Book w plain held) → Clear (range_trials (post n r z)) →
      Clear (trials plain (post n r z)) × Postable (record { number = n; rate = r; base = z }) plain.capacity (part_leaves b.order)

cause_of : {n : ℤ} {w : Words} {c : Declined} → PostDeclined n w c → PostCause n w (Err c)
cause_of {n} {w} {c} d = record { declines = λ k e. let h : c ≡ k = cc in subst (PostDeclined n w) h d; clears = λ e. cc }

module _ (n : ℤ) (w : Words) {s : ℕ} (f : FoundKey number_tree number_field n (up_to most_nodes (word w numbers_root_word)) w s) where
  pub cause_number : 0 < s → PostCause n w (Err NumberLive)
  cause_number h = cause_of (5, omega arith, refl, λ r z plain held b g. post_number_live b n r z g (number_sought b f refl) (λ e. omega (arith, e, h)))

  module _ {i m : ℕ} (low : s ≤ 0) (ei : i ≡ up_to most_nodes (word w live_count_word)) (em : m ≡ cap w) where
    pub cause_full : m ≤ i → PostCause n w (Err Full)
    cause_full h = cause_of (
      7,
      omega arith,
      refl,
      λ r z plain held b g. post_full b n r z g (number_sought b f refl) (omega (arith, low))
          (omega (arith, h, em, ei, b.capacity, count_read b)),
    )

    pub cause_none : i < m → PostCause n w (Ok tt)
    cause_none h =
        record {
          declines = λ c e. cc;
          clears = λ e r z plain held b g.
              let room : length (part_leaves b.order) < plain.capacity = omega (arith, h, em, ei, b.capacity, count_read b) in
              let sought = number_sought b f refl in
              let none_live : s ≡ 0 = omega (arith, low) in (
                post_clear b n r z g sought none_live room,
                record { ranged = clear_offer n r z g; number_new = sought_none b.in_order.slots sought none_live; room = room },
              );
        }
