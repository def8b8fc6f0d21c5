-- One entry of the ring, read and undone.
use Rattle.std.specs.Prelude.{◌≡◌, refl, Bool, true, false, Option, None, Some, is_some, IfSome, not, List, ℕ, ◌+◌, ◌≤◌, ◌<◌, T, ℤ, pos, negsuc}
use Rattle.std.proofs.Common.{sym, ◌∙◌, ap, arith, le→leb}
use Rattle.std.specs.Int.Signed.{le_z}
use Rattle.lists.specs.Bools.{and_both, never, not_not, twice}
use Rattle.integers.specs.Parts.{range_parts}
use Rattle.offers.specs.Offers.{Offer, number_in_range, rate_in_range, base_in_range}
use Rattle.plain.specs.Causes.{Clear}
use Rattle.plain.specs.Trials.{clear_append}
use Rattle.plain.specs.Book.{Undo, unpost, restore, range_trials, book_trials, trials, undone, undoing}
use Rattle.table.specs.Words.{Words, word, up_to, up_to_in, up_to_most}
use Rattle.table.specs.Layout.{cap}
use Rattle.form.specs.Memory.{entry_at, EntryIn, posting, withdrawing, posted, withdrawn, done_word, entry_number_word}
use Rattle.form.specs.Memory.{entry_rate_word, entry_base_word}
use Rattle.form.specs.Rings.{entry_once}
use Rattle.check_trees.specs.Deciding.{Decides, decides_as, decides_no}
use Rattle.check_memory.specs.Flags.{most_number, Tracks, read_as}
use Rattle.check_memory.specs.Trying.{Undoing, bare}

-- the words at `a` are a withdrawal's entry, its rate and base in range
pub record Restorable (w : Words) (a : ℕ) : Type 0 where
  pub withdrawal : word w a ≡ pos withdrawn
  pub rate : T (rate_in_range (word w (a + entry_rate_word)))
  pub base : T (base_in_range (word w (a + entry_base_word)))

pub restorable_by : {w : Words} {a : ℕ} {r : Bool} →
    Decides r (((word w a ≡ pos withdrawn) × T (rate_in_range (word w (a + entry_rate_word)))) × T (base_in_range (word w (a + entry_base_word)))) →
    Decides r (Restorable w a)
restorable_by = decides_as (λ p. record { withdrawal = p.0.0; rate = p.0.1; base = p.1 }) (λ q. ((q.withdrawal, q.rate), q.base))

-- entry i is u, and a book with these offers can undo it
pub record Undoes (w : Words) (i : ℕ) (os : List Offer) (u : Undo) : Type 0 where
  pub entry : EntryIn w (entry_at w i) u
  pub clear : Clear (trials (bare (cap w) os) (undoing u))

pub record Tries (w : Words) (i : ℕ) (flags flags' : List Bool) (room : ℕ) (r : Option ℕ) : Type 0 where
  pub told : (os : List Offer) → Tracks (cap w) flags room os → Decides (is_some r) ((u : Undo) × Undoes w i os u)
  pub after : (os : List Offer) → Tracks (cap w) flags room os →
      IfSome r (λ n. (u : Undo) → EntryIn w (entry_at w i) u → Tracks (cap w) flags' n (undone u os))
  pub few : IfSome r (λ n. n ≤ room + 1)

-- the first word of an entry stands at its place
first_word : (w : Words) (a : ℕ) → word w (a + done_word) ≡ word w a
first_word w a = ap (word w) (omega arith)

-- ---- the trials of the ranges, and those of the book

book_clear : (c : ℕ) (os : List Offer) (u : Undo) → Clear (trials (bare c os) (undoing u)) → Clear (book_trials (bare c os) (undoing u))
book_clear c os (unpost n) k = k.1
book_clear c os (restore o) k = k.1.1.1

range_clear : (c : ℕ) (os : List Offer) (u : Undo) → Clear (trials (bare c os) (undoing u)) → Clear (range_trials (undoing u))
range_clear c os (unpost n) k = (k.0, tt)
range_clear c os (restore o) k = (k.0, (k.1.0, (k.1.1.0, tt)))

read_range : (z : ℤ) → T (number_in_range z) → 1 ≤ up_to most_number z
read_range (pos n) t = let (l, h) = range_parts (pos 1) (pos n) (pos 9_999) t in omega (arith, up_to_in most_number n (omega arith))
read_range (negsuc n) t = absurd t

in_range_lem : (m : ℕ) → 1 ≤ m → m ≤ most_number → T (number_in_range (pos m))
in_range_lem m l h = and_both (le_z (pos 1) (pos m)) (le_z (pos m) (pos 9_999)) (le→leb 1 m l) (le→leb m 9_999 h)

-- a number that is read as one from 1 on
module _ {m : ℕ} (z : ℤ) (em : m ≡ up_to most_number z) (low : 1 ≤ m) where
  number_is : z ≡ pos m
  number_is = read_as most_number z (omega arith) ∙ ap pos (sym em)

  number_clear : T (not (not (number_in_range (pos m))))
  number_clear = twice (number_in_range (pos m)) (in_range_lem m low (omega (arith, up_to_most most_number z)))

-- ---- the ways through the code

module _ {w : Words} {i a room : ℕ} {flags : List Bool} (ea : a ≡ entry_at w i) where
  -- no entry with values in range stands there
  tries_not : ((u : Undo) → EntryIn w a u → ¬ Clear (range_trials (undoing u))) → Tries w i flags flags room None
  tries_not none =
      record {
        told = λ os G. decides_no (λ q. none q.0 (rw ea q.1.entry) (range_clear (cap w) os q.0 q.1.clear));
        after = λ os G. tt;
        few = tt;
      }

  -- such an entry stands there
  tries_by : {flags' : List Bool} {r : Option ℕ} (u : Undo) → EntryIn w a u → Clear (range_trials (undoing u)) → Undoing flags flags' room u r →
      Tries w i flags flags' room r
  tries_by {flags'} {r} u e k U =
      record {
        told = λ os G. record {
          sound = λ t. (u, record { entry = here; clear = clear_append (range_trials (undoing u)) _ k ((U.told (cap w) os G).sound t) });
          complete = λ q. (U.told (cap w) os G).complete (book_clear (cap w) os u (rw (entry_once q.1.entry here) at q.1.clear));
        };
        after = λ os G. later os r (U.after (cap w) os G);
        few = U.few;
      }
    where
      here : EntryIn w (entry_at w i) u
      here = rw ea at e

      later : (os : List Offer) (r : Option ℕ) → IfSome r (λ n. Tracks (cap w) flags' n (undone u os)) →
          IfSome r (λ n. (v : Undo) → EntryIn w (entry_at w i) v → Tracks (cap w) flags' n (undone v os))
      later os None g = tt
      later os (Some n) g = λ v m. rw (entry_once m here) g

  -- the entry's number
  module _ {m : ℕ} (em : m ≡ up_to most_number (word w (a + entry_number_word))) where
    pub tries_no_number : m < 1 → Tries w i flags flags room None
    tries_no_number h = tries_not none
      where
        below : (z : ℤ) → word w (a + entry_number_word) ≡ z → ¬ T (number_in_range z)
        below z e t = omega (arith, ap (up_to most_number) e, read_range z t)

        none : (u : Undo) → EntryIn w a u → ¬ Clear (range_trials (undoing u))
        none (unpost z) (posting d n) k = below z n (not_not (number_in_range z) k.0)
        none (restore o) (withdrawing d n s b) k = below o.number n (not_not (number_in_range o.number) k.0)

    module _ (low : 1 ≤ m) where
      pub tries_out : {b : Bool} {flags' : List Bool} {r : Option ℕ} → Decides b (word w a ≡ pos posted) → b ≡ true →
          Undoing flags flags' room (unpost (pos m)) r → Tries w i flags flags' room r
      tries_out d t U =
          tries_by (unpost (pos m)) (posting (first_word w a ∙ d.sound t) (number_is _ em low)) (number_clear _ em low, tt) U

      pub tries_back : {b : Bool} {flags' : List Bool} {r : Option ℕ} → Decides b (Restorable w a) → b ≡ true →
          ((o : Offer) → o.number ≡ pos m → Undoing flags flags' room (restore o) r) → Tries w i flags flags' room r
      tries_back d t U =
          tries_by (restore o) (withdrawing (first_word w a ∙ q.withdrawal) (number_is _ em low) refl refl)
          (number_clear _ em low, (twice (rate_in_range o.rate) q.rate, (twice (base_in_range o.base) q.base, tt))) (U o refl)
        where
          q : Restorable w a
          q = d.sound t

          o : Offer
          o = record { number = pos m; rate = word w (a + entry_rate_word); base = word w (a + entry_base_word) }

  pub tries_neither : {b b' : Bool} → Decides b (word w a ≡ pos posted) → b ≡ false → Decides b' (Restorable w a) → b' ≡ false →
      Tries w i flags flags room None
  tries_neither d e d' e' = tries_not none
    where
      none : (u : Undo) → EntryIn w a u → ¬ Clear (range_trials (undoing u))
      none (unpost z) (posting p n) k = never (d.complete (sym (first_word w a) ∙ p)) e
      none (restore o) (withdrawing p n s t) k =
          never
          (d'.complete (record {
            withdrawal = sym (first_word w a) ∙ p;
            rate = rw s (not_not (rate_in_range o.rate) k.1.0);
            base = rw t (not_not (base_in_range o.base) k.1.1.0);
          })) e'
