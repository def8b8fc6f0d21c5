-- The free slots: a chain from `firstFreeWord` on, each slot with 0 in `numberField` and the next one in `nextFreeField`: the word itself,
-- so that the last has a 0 there and no other word that is read as 0.
use Rattle.std.specs.Prelude.{◌≡◌, refl, ◌≢◌, ℕ, ◌≤◌, ◌<◌, length, pos}
use Rattle.std.proofs.Common.{◌∙◌, ap, arith}
use mathlib.Core.List.{List, [], ◌∷◌, Memᴰ}
use Rattle.table.specs.Fields.{first_free_word, most_nodes, most_slots, next_free_field, number_field}
use Rattle.table.specs.Words.{Words, word, wset, wset_length, wset_same, wset_other, up_to, up_to_in}
use Rattle.table.specs.Layout.{cap, cap_most, cell, cset, link_at, Outside, outside_of, place_low, place_in, cset_length, cset_cap, cset_rest}
use Rattle.table.specs.Layout.{cset_same, header_cap, header_cell}

-- the first of a list, and 0 of none
abbrev pub head0 : List ℕ → ℕ
head0 [] = 0
head0 (s ∷ ss) = s

pub data FreeChain (w : Words) : List ℕ → Type 0 where
  free_none : FreeChain w []
  free_more : {s : ℕ} {ss : List ℕ} → 1 ≤ s → s ≤ cap w → cell w number_field s ≡ pos 0 → cell w next_free_field s ≡ pos (head0 ss) → FreeChain w ss →
      FreeChain w (s ∷ ss)

-- the free slots are ss
pub record FreeSlots (w : Words) (ss : List ℕ) : Type 0 where
  pub first : word w first_free_word ≡ pos (head0 ss)
  pub chain : FreeChain w ss

pub head_most : {w : Words} (ss : List ℕ) → FreeChain w ss → head0 ss ≤ most_slots
head_most [] f = omega arith
head_most {w} (s ∷ ss) (free_more l h z n f) = omega (arith, cap_most w)

-- the word that leads on in a chain, read as a link
pub free_link : {w : Words} {ss : List ℕ} (s : ℕ) → FreeChain w ss → cell w next_free_field s ≡ pos (head0 ss) → link_at w next_free_field s ≡ head0 ss
free_link {ss} s f n = ap (up_to most_nodes) n ∙ up_to_in most_nodes (head0 ss) (omega (arith, head_most ss f))

-- a chain whose slots were not touched
pub chain_still : {w w' : Words} {ss : List ℕ} → FreeChain w ss → cap w' ≡ cap w → ((s : ℕ) → Memᴰ s ss → cell w' number_field s ≡ cell w number_field s)
    → ((s : ℕ) → Memᴰ s ss → cell w' next_free_field s ≡ cell w next_free_field s) → FreeChain w' ss
chain_still free_none c e d = free_none
chain_still (free_more {s} l h z n f) c e d =
    free_more l (omega (arith, c)) (e s (Memᴰ.head refl) ∙ z) (d s (Memᴰ.head refl) ∙ n)
    (chain_still f c (λ t m. e t (Memᴰ.tail m)) (λ t m. d t (Memᴰ.tail m)))

-- ---- a slot is taken

abbrev pub first_free : Words → ℕ
first_free w = up_to most_nodes (word w first_free_word)

abbrev pub taken : Words → Words
taken w = wset w first_free_word (pos (link_at w next_free_field (first_free w)))

-- what a part with a slot has
pub long : (w : Words) {s : ℕ} → 1 ≤ s → s ≤ cap w → first_free_word < length w
long w {s} l h = omega (arith, place_low (cap w) number_field s, place_in {w = w} {f = number_field} {s = s} (record { low = l; high = h; field = omega arith }))

pub first_free_lem : {w : Words} {ss : List ℕ} → FreeSlots w ss → first_free w ≡ head0 ss
first_free_lem {w} {ss} f = ap (up_to most_nodes) f.first ∙ up_to_in most_nodes (head0 ss) (omega (arith, head_most ss f.chain))

pub took : {w : Words} {s : ℕ} {ss : List ℕ} → FreeSlots w (s ∷ ss) → FreeSlots (taken w) ss
took {w} {s} {ss} f = go f.chain
  where
    go : FreeChain w (s ∷ ss) → FreeSlots (taken w) ss
    go (free_more l h z n g) =
        record {
          first = wset_same w first_free_word _ (long w l h) ∙ ap pos (ap (link_at w next_free_field) (first_free_lem f) ∙ free_link s g n);
          chain = chain_still g (header_cap w first_free_word _ (omega arith) (omega arith)) (λ t m. header_cell w first_free_word _ (omega arith) (omega arith)
              number_field t) (λ t m. header_cell w first_free_word _ (omega arith) (omega arith) next_free_field t);
        }

-- every other word is as before
pub taken_cell : (w : Words) (f s : ℕ) → cell (taken w) f s ≡ cell w f s
taken_cell w f s = header_cell w first_free_word _ (omega arith) (omega arith) f s

pub taken_word : (w : Words) {i : ℕ} → i ≢ first_free_word → word (taken w) i ≡ word w i
taken_word w d = wset_other w first_free_word _ _ d

-- ---- a slot is given back

abbrev pub given : Words → ℕ → Words
given w s = wset (cset (cset w number_field s (pos 0)) next_free_field s (pos (first_free w))) first_free_word (pos s)

pub given_cap : (w : Words) (s : ℕ) → cap (given w s) ≡ cap w
given_cap w s = header_cap _ first_free_word _ (omega arith) (omega arith) ∙ cset_cap _ next_free_field s _ ∙ cset_cap w number_field s _

pub given_length : (w : Words) (s : ℕ) → length (given w s) ≡ length w
given_length w s = wset_length _ first_free_word _ ∙ cset_length _ next_free_field s _ ∙ cset_length w number_field s _

pub given_word : (w : Words) (s : ℕ) {i : ℕ} → Outside w i → i ≢ first_free_word → word (given w s) i ≡ word w i
given_word w s {i} o d = wset_other _ first_free_word i _ d ∙ cset_rest w₁ next_free_field s _ further ∙ cset_rest w number_field s _ o
  where
    w₁ : Words
    w₁ = cset w number_field s (pos 0)

    further : Outside w₁ i
    further = outside_of (cset_cap w number_field s (pos 0)) o
