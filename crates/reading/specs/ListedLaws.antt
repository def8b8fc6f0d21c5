-- What a reading hands out, piece by piece: each piece with its crossing with the next, and from the last on the end.
use Rattle.std.specs.Prelude.{ℕ, zero, suc, ◌*◌, ◌≤◌, ◌<◌, ◌≡◌, refl, List, [], ◌∷◌, length, take, drop, get_or, ℤ, pos}
use Rattle.std.proofs.Common.{arith, ◌∙◌, ap, drop_of_length-le}
use Rattle.offers.specs.Offers.{Offer, crossing_numerator, crossing_denominator}
use Rattle.plain.specs.Book.{envelope, piece_words}
use Rattle.plain.specs.Rules.{words_length}
use Rattle.reading.specs.Promises.{piece, ended, piece_of, listed_at}

-- from the last piece on it is the end, for ever
pub listed_end : (os : List Offer) (n : ℕ) → length (envelope os) ≤ n → listed_at os n ≡ ended
listed_end os n h = ap (λ (ws : List ℤ). piece_of (take 3 ws)) (drop_of_length-le (piece_words (envelope os)) {i =
    3 * n} (omega (arith, words_length (envelope os))))

-- before it the pieces' numbers, each with its crossing with the next; the last carries 0 and 0
threes : (n : ℕ) (a b c : ℤ) (ws : List ℤ) → drop (3 * suc n) (a ∷ b ∷ c ∷ ws) ≡ drop (3 * n) ws
threes n a b c ws = let e : 3 * suc n ≡ suc (suc (suc (3 * n))) = omega arith in ap (λ (i : ℕ). drop i (a ∷ b ∷ c ∷ ws)) e

inner_at : (es : List Offer) (n : ℕ) (d : Offer) → suc n < length es
    → take 3 (drop (3 * n) (piece_words es)) ≡ (get_or es n d).number ∷ crossing_numerator (get_or es n d) (get_or es (suc n) d) ∷ crossing_denominator (get_or es n d)
    (get_or es (suc n) d) ∷ []
inner_at [] n d h = absurd (omega arith)
inner_at (o ∷ []) n d h = absurd (omega arith)
inner_at (o ∷ p ∷ es) zero d h = refl
inner_at (o ∷ p ∷ es) (suc n) d h = ap (take 3) (threes n _ _ _ (piece_words (p ∷ es))) ∙ inner_at (p ∷ es) n d (omega arith)

last_at : (es : List Offer) (n : ℕ) (d : Offer) → suc n ≡ length es → take 3 (drop (3 * n) (piece_words es)) ≡ (get_or es n d).number ∷ pos 0 ∷ pos 0 ∷ []
last_at [] n d h = absurd (omega arith)
last_at (o ∷ []) zero d h = refl
last_at (o ∷ []) (suc n) d h = absurd (omega arith)
last_at (o ∷ p ∷ es) zero d h = absurd (omega arith)
last_at (o ∷ p ∷ es) (suc n) d h = ap (take 3) (threes n _ _ _ (piece_words (p ∷ es))) ∙ last_at (p ∷ es) n d (omega arith)

pub listed_inner : (os : List Offer) (n : ℕ) (d : Offer) → suc n < length (envelope os)
    → listed_at os n ≡ piece (get_or (envelope os) n d).number (crossing_numerator (get_or (envelope os) n d) (get_or (envelope os) (suc n) d))
    (crossing_denominator (get_or (envelope os) n d) (get_or (envelope os) (suc n) d))
listed_inner os n d h = ap piece_of (inner_at (envelope os) n d h)

pub listed_last : (os : List Offer) (n : ℕ) (d : Offer) → suc n ≡ length (envelope os) → listed_at os n ≡ piece (get_or (envelope os) n d).number (pos 0) (pos 0)
listed_last os n d h = ap piece_of (last_at (envelope os) n d h)
