-- Where a part keeps what. The first 64 words are the header, and word 0 is the capacity c. Then come planes of four words for each slot
-- from 0 to c: field f of slot s is word f % 4 of that slot in plane f / 4. Slot 0 is never used. From word 64 × (c + 1) on are the 1,024 words of the memory.
--     plane 0   number (0: free), rate, base, rank (free: the next free slot)
--     plane 1   piece tree: left, right; crossing with the next piece: numerator, denominator
--     plane 2   offer tree: left, right; the bridge's two ends
--     plane 3   number tree: left, right
--     plane 4   order: left, right; next piece
--     plane 5   the part stored with the inner node, with the leaf
--     plane 6   heights of the four trees
-- Reading and writing a field are total: a field that the part lacks reads 0, and a write to it does nothing.
use Rattle.std.specs.Prelude.{◌≡◌, refl, ◌≢◌, Bool, true, false, cond, ℕ, ◌+◌, ◌*◌, ◌/◌, ◌%◌, ◌≤◌, ◌<◌, length, ℤ, leb}
use Rattle.std.proofs.Math.Path.{sym, ap}
use Rattle.std.proofs.Common.{◌∙◌, mul-le-mul_right, arith, le-leb, leb-true}
use Rattle.std.proofs.Math.Decide.{dec_le, dec_lt}
use Rattle.std.proofs.lemmas.Bool.{lt-leb}
use Rattle.table.specs.Fields.{capacity_word, most_nodes, most_slots}
use Rattle.table.specs.Words.{Words, word, wset, word_out, wset_length, wset_same, wset_other, wset_out, up_to, up_to_most}

-- ---- the capacity

-- where the words of the header and the slots end, and the memory begins; and where it ends
abbrev pub slots_end : ℕ → ℕ
slots_end c = 64 * (c + 1)

abbrev pub part_end : ℕ → ℕ
part_end c = slots_end c + 1_024

-- c, where a part of that capacity fits into n words
abbrev pub fitting : ℕ → ℕ → ℕ
fitting n c = cond (leb (part_end c) n) c 0

-- the capacity that word 0 tells; 0 where there is no book
unfoldable pub cap : Words → ℕ
cap w = fitting (length w) (up_to most_slots (word w capacity_word))

pub cap_of : (w w' : Words) → length w' ≡ length w → word w' capacity_word ≡ word w capacity_word → cap w' ≡ cap w
unfolding cap
cap_of w w' n z = rw (n, z)

-- by the test that the code makes
pub cap_cut : (w : Words) (told : ℕ) → told ≡ up_to most_slots (word w capacity_word) → length w < part_end told → 0 ≡ cap w
unfolding cap
cap_cut w told e h = rw (← e, lt-leb (part_end told) (length w) h)

pub cap_whole : (w : Words) (told : ℕ) → told ≡ up_to most_slots (word w capacity_word) → part_end told ≤ length w → told ≡ cap w
unfolding cap
cap_whole w told e h = rw (← e, le-leb (part_end told) (length w) h)

pub cap_most : (w : Words) → cap w ≤ most_slots
unfolding cap
cap_most w = go (leb (part_end (up_to most_slots (word w capacity_word))) (length w))
  where
    go : (b : Bool) → cond b (up_to most_slots (word w capacity_word)) 0 ≤ most_slots
    go true = up_to_most most_slots (word w capacity_word)
    go false = omega arith

-- ---- the places

unfoldable pub place : ℕ → ℕ → ℕ → ℕ
place c f s = 64 + 4 * (f / 4 * (c + 1) + s) + f % 4

-- the part has a field f of slot s
pub record Valid (w : Words) (f s : ℕ) : Type 0 where
  pub low : 1 ≤ s
  pub high : s ≤ cap w
  pub field : f < 32

pub decide_valid : (w : Words) (f s : ℕ) → Dec (Valid w f s)
decide_valid w f s = go (dec_le 1 s) (dec_le s (cap w)) (dec_lt f 32)
  where
    go : Dec (1 ≤ s) → Dec (s ≤ cap w) → Dec (f < 32) → Dec (Valid w f s)
    go (yes a) (yes b) (yes d) = yes (record { low = a; high = b; field = d })
    go (yes a) (yes b) (no d) = no (λ v. d v.field)
    go (yes a) (no b) d = no (λ v. b v.high)
    go (no a) b d = no (λ v. a v.low)

-- the header lies below every place
pub place_low : (c f s : ℕ) → 64 ≤ place c f s
unfolding place
place_low c f s = omega arith

-- every place lies before the memory
pub place_high : {w : Words} {f s : ℕ} → Valid w f s → place (cap w) f s < slots_end (cap w)
unfolding place
place_high {w} {f} {s} v = omega (arith, mul-le-mul_right (cap w + 1) plane)
  where
    plane : f / 4 ≤ 7
    plane = omega arith

-- one plane further is a whole row of slots further
row_below : (m q q' s s' : ℕ) → s < m → q < q' → q * m + s ≢ q' * m + s'
row_below m q q' s s' h lt e = omega (arith, mul-le-mul_right m lt)

row_apart : (m q q' s s' : ℕ) → s < m → s' < m → q * m + s ≡ q' * m + s' → (q ≡ q') × (s ≡ s')
row_apart m q q' s s' h h' e = go (dec_lt q q') (dec_lt q' q)
  where
    same : q ≡ q' → (q ≡ q') × (s ≡ s')
    same p = (p, omega (arith, ap (λ (k : ℕ). k * m) p))

    go : Dec (q < q') → Dec (q' < q) → (q ≡ q') × (s ≡ s')
    go (yes a) d = absurd (row_below m q q' s s' h a e)
    go (no a) (yes b) = absurd (row_below m q' q s' s h' b (sym e))
    go (no a) (no b) = same (omega arith)

-- two fields have two places
pub place_apart : {w : Words} {f s f' s' : ℕ} → Valid w f s → Valid w f' s' → place (cap w) f s ≡ place (cap w) f' s' → (f ≡ f') × (s ≡ s')
unfolding place
place_apart {w} {f} {s} {f'} {s'} v v' e =
    let r = row_apart (cap w + 1) (f / 4) (f' / 4) s s' (omega arith) (omega arith) (omega arith) in
    (omega arith, r.1)

-- a part of the capacity that the words tell lies within them
cap_fits : {w : Words} {f s : ℕ} → Valid w f s → part_end (cap w) ≤ length w
unfolding cap
cap_fits {w} {f} {s} v = go (leb (part_end (up_to most_slots (word w capacity_word))) (length w)) refl v.low v.high
  where
    c : ℕ
    c = up_to most_slots (word w capacity_word)

    go : (b : Bool) → leb (part_end c) (length w) ≡ b → 1 ≤ s → s ≤ cond b c 0 → part_end (cond b c 0) ≤ length w
    go true e l h = leb-true (part_end c) (length w) e
    go false e l h = absurd (omega arith)

pub place_in : {w : Words} {f s : ℕ} → Valid w f s → place (cap w) f s < length w
place_in v = omega (arith, place_high v, cap_fits v)

-- ---- fields

-- where field f of slot s is kept, and the end of the words where the part has no such field
unfoldable pub spot : Words → ℕ → ℕ → ℕ
spot w f s = elim (decide_valid w f s) [ yes v ↦ place (cap w) f s | no v ↦ length w ]

pub spot_in : {w : Words} {f s : ℕ} → Valid w f s → spot w f s ≡ place (cap w) f s
unfolding spot
spot_in {w} {f} {s} v = go (decide_valid w f s)
  where
    go : (d : Dec (Valid w f s)) → elim d [ yes v ↦ place (cap w) f s | no v ↦ length w ] ≡ place (cap w) f s
    go (yes u) = refl
    go (no u) = absurd (u v)

pub spot_out : {w : Words} {f s : ℕ} → ¬ Valid w f s → spot w f s ≡ length w
unfolding spot
spot_out {w} {f} {s} v = go (decide_valid w f s)
  where
    go : (d : Dec (Valid w f s)) → elim d [ yes v ↦ place (cap w) f s | no v ↦ length w ] ≡ length w
    go (yes u) = absurd (v u)
    go (no u) = refl

-- field f of slot s
unfoldable pub cell : Words → ℕ → ℕ → ℤ
cell w f s = word w (spot w f s)

-- the words with z in field f of slot s
unfoldable pub cset : Words → ℕ → ℕ → ℤ → Words
cset w f s z = wset w (spot w f s) z

-- a field as the number of a node, or as a height
abbrev pub link_at : Words → ℕ → ℕ → ℕ
link_at w f s = up_to most_nodes (cell w f s)

-- a word that is no slot's field: the header's, slot 0's, and those past the planes
pub record Outside (w : Words) (i : ℕ) : Type 0 where
  pub apart : (f s : ℕ) → Valid w f s → i ≢ place (cap w) f s

pub header_outside : (w : Words) {i : ℕ} → i < 64 → Outside w i
header_outside w {i} h = record { apart = λ f s v e. omega (arith, place_low (cap w) f s) }

pub beyond_outside : (w : Words) {i : ℕ} → slots_end (cap w) ≤ i → Outside w i
beyond_outside w {i} h = record { apart = λ f s v e. omega (arith, place_high v) }

-- ---- laws of a write

pub cset_length : (w : Words) (f s : ℕ) (z : ℤ) → length (cset w f s z) ≡ length w
unfolding cset
cset_length w f s z = wset_length w (spot w f s) z

-- a write to a field that is not there
pub cset_out : {w : Words} {f s : ℕ} (z : ℤ) → ¬ Valid w f s → cset w f s z ≡ w
unfolding cset
cset_out {w} {f} {s} z v = wset_out w (spot w f s) z (omega (arith, spot_out v))

pub cset_rest : (w : Words) (f s : ℕ) (z : ℤ) {i : ℕ} → Outside w i → word (cset w f s z) i ≡ word w i
unfolding cset
cset_rest w f s z {i} o = go (decide_valid w f s)
  where
    go : Dec (Valid w f s) → word (wset w (spot w f s) z) i ≡ word w i
    go (yes v) = wset_other w (spot w f s) i z (λ e. o.apart f s v (e ∙ spot_in v))
    go (no v) = ap (λ (u : Words). word u i) (cset_out z v)

pub cset_cap : (w : Words) (f s : ℕ) (z : ℤ) → cap (cset w f s z) ≡ cap w
cset_cap w f s z = cap_of w (cset w f s z) (cset_length w f s z) (cset_rest w f s z (header_outside w (omega arith)))

-- places depend on the capacity and on nothing else
pub valid_of : {w w' : Words} {f s : ℕ} → cap w ≡ cap w' → Valid w f s → Valid w' f s
valid_of e v = record { low = v.low; high = omega arith; field = v.field }

pub outside_of : {w w' : Words} {i : ℕ} → cap w' ≡ cap w → Outside w i → Outside w' i
outside_of e o = record { apart = λ f s v d. o.apart f s (valid_of e v) (d ∙ ap (λ c. place c f s) e) }

pub spot_of : (w w' : Words) (f s : ℕ) → length w' ≡ length w → cap w' ≡ cap w → spot w' f s ≡ spot w f s
spot_of w w' f s n e = go (decide_valid w f s)
  where
    go : Dec (Valid w f s) → spot w' f s ≡ spot w f s
    go (yes v) = spot_in (valid_of (sym e) v) ∙ ap (λ (c : ℕ). place c f s) e ∙ sym (spot_in v)
    go (no v) = spot_out (λ u. v (valid_of e u)) ∙ n ∙ sym (spot_out v)

-- a write moves no place
pub cset_spot : (w : Words) (f s : ℕ) (z : ℤ) (f' s' : ℕ) → spot (cset w f s z) f' s' ≡ spot w f' s'
cset_spot w f s z f' s' = spot_of w (cset w f s z) f' s' (cset_length w f s z) (cset_cap w f s z)

-- a write at the place that was found for it
pub written_at : (w w' : Words) (f s at : ℕ) (z : ℤ) → at ≡ spot w f s → w' ≡ wset w at z → w' ≡ cset w f s z
unfolding cset
written_at w w' f s at z e h = h ∙ ap (λ (k : ℕ). wset w k z) e

-- after a write a place is still the one found before it
found_still : (w w₁ : Words) (f s : ℕ) (a : ℤ) (g y : ℕ) → w₁ ≡ cset w f s a → y ≡ spot w g s → y ≡ spot w₁ g s
found_still w w₁ f s a g y h e = e ∙ sym (cset_spot w f s a g s) ∙ ap (λ (v : Words). spot v g s) (sym h)

-- three writes to one slot, at places that were all found before the first
pub three_written :
    (w w₁ w₂ w₃ : Words) (s f g h x y z : ℕ) (a b d : ℤ) →
    x ≡ spot w f s → y ≡ spot w g s → z ≡ spot w h s →
    w₁ ≡ wset w x a → w₂ ≡ wset w₁ y b → w₃ ≡ wset w₂ z d →
    w₃ ≡ cset (cset (cset w f s a) g s b) h s d
three_written w w₁ w₂ w₃ s f g h x y z a b d ex ey ez h₁ h₂ h₃ =
    let p₁ = written_at w w₁ f s x a ex h₁ in
    let p₂ = written_at w₁ w₂ g s y b (found_still w w₁ f s a g y p₁ ey) h₂ in
    let p₃ = written_at w₂ w₃ h s z d (found_still w₁ w₂ g s b h z p₂ (found_still w w₁ f s a h z p₁ ez)) h₃ in
    p₃ ∙ ap (λ (v : Words). cset v h s d) (p₂ ∙ ap (λ (v : Words). cset v g s b) p₁)

pub cset_same : {w : Words} {f s : ℕ} (z : ℤ) → Valid w f s → cell (cset w f s z) f s ≡ z
unfolding cell cset
cset_same {w} {f} {s} z v =
    ap (word (cset w f s z)) (cset_spot w f s z f s)
    ∙ wset_same w (spot w f s) z (omega (arith, spot_in v, place_in v))

pub link_of : {f f' s s' r : ℕ} (w : Words) → f ≡ f' → s ≡ s' → r ≡ link_at w f s → r ≡ link_at w f' s'
link_of w d e h = rw (← d, ← e) h

pub link_most : (w : Words) (f s : ℕ) → link_at w f s ≤ most_nodes
link_most w f s = up_to_most most_nodes (cell w f s)

-- ---- a write to the header, but for the capacity

module _ (w : Words) (i : ℕ) (z : ℤ) (low : 1 ≤ i) (high : i < 64) where
  pub header_cap : cap (wset w i z) ≡ cap w
  header_cap = cap_of w (wset w i z) (wset_length w i z) (wset_other w i capacity_word z (λ e. omega (arith, e, low)))

  -- no field is there
  pub header_cell : (f s : ℕ) → cell (wset w i z) f s ≡ cell w f s
  unfolding cell
  header_cell f s = ap (word (wset w i z)) (spot_of w (wset w i z) f s (wset_length w i z) header_cap) ∙ go (decide_valid w f s)
    where
      go : Dec (Valid w f s) → word (wset w i z) (spot w f s) ≡ word w (spot w f s)
      go (yes v) = wset_other w i (spot w f s) z (λ e. omega (arith, e, spot_in v, place_low (cap w) f s, high))
      go (no v) = word_out (wset w i z) _ (omega (arith, wset_length w i z, spot_out v)) ∙ sym (word_out w _ (omega (arith, spot_out v)))
