-- The entries from one place of the ring back, undone one after the other.
use Rattle.std.specs.Prelude.{◌≡◌, refl, Bool, true, false, None, Some, List, [], ◌∷◌, ℕ, zero, suc, ◌-◌, ◌≤◌, ◌<◌, length}
use Rattle.std.proofs.Common.{ap, subst, arith}
use Rattle.lists.specs.Bools.{never}
use Rattle.offers.specs.Offers.{Offer}
use Rattle.plain.specs.Book.{Undo, undone, Undoable}
use Rattle.plain.specs.Sound.{tried_recalling}
use Rattle.table.specs.Words.{Words}
use Rattle.table.specs.Layout.{cap}
use Rattle.form.specs.Memory.{earlier, EntriesIn}
use Rattle.check_trees.specs.Deciding.{Decides, decides_no}
use Rattle.form.specs.Rings.{entry_once}
use Rattle.check_memory.specs.Flags.{Tracks}
use Rattle.check_memory.specs.Trying.{bare}
use Rattle.check_memory.specs.Entries.{Undoes, Tries}

-- k entries from place i back can be undone from these offers
pub data Walks (w : Words) : ℕ → ℕ → List Offer → Type 0 where
  ended : {i : ℕ} {os : List Offer} → Walks w i zero os
  onward : {i k : ℕ} {os : List Offer} (u : Undo) → Undoes w i os u → Walks w (earlier i) k (undone u os) → Walks w i (suc k) os

-- ---- as a list of entries

pub record Listed (w : Words) (i k : ℕ) (os : List Offer) : Type 0 where
  pub entries : List Undo
  pub long : length entries ≡ k
  pub there : EntriesIn w i entries
  pub undoable : Undoable (cap w) os entries

pub listed : {w : Words} {i k : ℕ} {os : List Offer} → Walks w i k os → Listed w i k os
listed ended = record { entries = []; long = refl; there = tt; undoable = tt }
listed {w} {os} (onward u h p) =
    let q = listed p in
    record {
      entries = u ∷ q.entries;
      long = ap suc q.long;
      there = (h.entry, q.there);
      undoable = (tried_recalling (bare (cap w) os) [] q.entries u h.clear, q.undoable);
    }

pub walks : {w : Words} {i : ℕ} {os : List Offer} (us : List Undo) → EntriesIn w i us → Undoable (cap w) os us → Walks w i (length us) os
walks [] e d = ended
walks {w = w} {i = i} {os = os} (u ∷ us) (e, es) (d, ds) = onward u (record { entry = e; clear = tried_recalling (bare (cap w) os) us [] u d }) (walks {i = earlier i} us es ds)

-- ---- the loop

pub record Walked (w : Words) (flags : List Bool) (room last count : ℕ) (r : Bool) : Type 0 where
  pub told : (os : List Offer) → Tracks (cap w) flags room os → Decides r (Walks w last count os)

-- what is left to see: k entries from place i back, on the offers that the flags now tell
pub record Now (w : Words) (flags : List Bool) (room i k : ℕ) (P : Type 0) : Type 0 where
  pub os : List Offer
  pub tracks : Tracks (cap w) flags room os
  pub there : P → Walks w i k os
  pub back : Walks w i k os → P

pub record Going (w : Words) (flags₀ : List Bool) (room₀ last count : ℕ) (flags : List Bool) (room i k : ℕ) : Type 0 where
  pub so_far : (os : List Offer) → Tracks (cap w) flags₀ room₀ os → Now w flags room i k (Walks w last count os)

pub going_all : {w : Words} {flags : List Bool} {room last count : ℕ} → Going w flags room last count flags room last count
going_all = record { so_far = λ os G. record { os = os; tracks = G; there = λ p. p; back = λ p. p } }

-- the first of the entries that are left
first : {w : Words} {i k : ℕ} {os : List Offer} → 0 < k → Walks w i k os → (u : Undo) × Undoes w i os u × Walks w (earlier i) (k - 1) (undone u os)
first h ended = absurd (omega arith)
first {w} {i} h (onward {k} {os} u d p) = let e : k ≡ suc k - 1 = omega arith in (u, d, subst (λ (n : ℕ). Walks w (earlier i) n (undone u os)) e p)

module _ {w : Words} {flags₀ flags flags' : List Bool} {room₀ last count room i k : ℕ} (g : Going w flags₀ room₀ last count flags room i k) (more : 0 < k) where
  pub going_not : Tries w i flags flags' room None → Walked w flags₀ room₀ last count false
  going_not S = record {
    told = λ os₀ G. let N = g.so_far os₀ G in decides_no (λ p. let (u, d, q) = first more (N.there p) in
        never ((S.told N.os N.tracks).complete (u, d)) refl);
  }

  pub going_more : {n i' : ℕ} → Tries w i flags flags' room (Some n) → i' ≡ earlier i → Going w flags₀ room₀ last count flags' n i' (k - 1)
  going_more {n} {i'} S ei = record { so_far = λ os₀ G. step (g.so_far os₀ G) }
    where
      step : {P : Type 0} → Now w flags room i k P → Now w flags' n i' (k - 1) P
      step {P} N = go ((S.told N.os N.tracks).sound refl)
        where
          go : (u : Undo) × Undoes w i N.os u → Now w flags' n i' (k - 1) P
          go (u, d) =
              record {
                os = undone u N.os;
                tracks = S.after N.os N.tracks u d.entry;
                there = λ p. onto (first more (N.there p));
                back = λ p. N.back (subst (λ (j : ℕ). Walks w i j N.os) (omega arith) (onward u d (rw ei at p)));
              }
            where
              onto : (v : Undo) × Undoes w i N.os v × Walks w (earlier i) (k - 1) (undone v N.os) → Walks w i' (k - 1) (undone u N.os)
              onto (v, f, p) = rw (ei, entry_once d.entry f.entry) p

pub going_done : {w : Words} {flags₀ flags : List Bool} {room₀ last count room i k : ℕ} → k ≤ 0 → Going w flags₀ room₀ last count flags room i k →
    Walked w flags₀ room₀ last count true
going_done {w} {i} {k} h g = record {
  told = λ os₀ G. let N = g.so_far os₀ G in record {
    sound = λ t. N.back (subst (λ (n : ℕ). Walks w i n N.os) (omega arith) ended);
    complete = λ p. refl;
  };
}
