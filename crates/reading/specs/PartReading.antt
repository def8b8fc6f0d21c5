-- A reading of a part, by what the code reads of its words.
use Rattle.std.specs.Prelude.{◌≡◌, refl, ◌≢◌, Bool, true, false, ℕ, suc, ◌+◌, ◌*◌, ◌-◌, ◌≤◌, ◌<◌, length, take, drop, ℤ, pos, Ok, Err, Option as Maybe, Some}
use Rattle.std.proofs.Common.{sym, ◌∙◌, ap, subst, arith, length-append, drop_of_length-le}
use mathlib.Core.List.Memᴰ
use mathlib.Core.List.{List, [], ◌∷◌, ◌++◌, map, map-append, Memᴰ}
use Rattle.std.proofs.Math.Option.{Option, none, some}
use mathlib.Mathlib.Data.List.Chain.{IsChain-append-cons-cons}
use Rattle.std.proofs.lemmas.List.{length-map}
use Rattle.lists.specs.Bools.{denied}
use Rattle.offers.specs.Offers.{Offer, crossing_numerator}
use Rattle.plain.specs.Book.{State, envelope, piece_words, no_book_at}
use Rattle.plain.specs.Causes.{Cause, FirstOf}
use Rattle.plain.specs.Rules.{words_length}
use Rattle.trees.specs.Tree.{Tree, leaves, first}
use Rattle.trees.specs.Leaves.{rest, leaves_first}
use Rattle.trees.specs.Operations.{Part, part_leaves}
use Rattle.dynamic.specs.OfferTree.{Held}
use Rattle.dynamic.specs.Valid.{book_lines}
use Rattle.table.specs.Fields.{capacity_word, denominator_field, envelope_root_word, most_nodes, next_piece_field, number_field, numerator_field, piece_tree}
use Rattle.table.specs.Words.{Words, word, up_to}
use Rattle.table.specs.Layout.{cell, link_at}
use Rattle.table.specs.Items.{Item}
use Rattle.table.specs.Threads.{Next, Threaded}
use Rattle.descents.specs.Ends.{Ended}
use Rattle.form.specs.Form.{Book}
use Rattle.query.specs.QueriedPieces.{Pieces}
use Rattle.query.specs.Plain.{offer_of, pieces_plain}
use Rattle.listing.specs.Listing.{crossing_word}
use Rattle.listing.specs.PieceCounts.{Passed, all_passed, not_all, go_on}
use Rattle.form.specs.Live.{first_offers, lines_ordered, no_offers}
use Rattle.promises.specs.Promises.{part_of, no_book_trial}
use Rattle.promises.specs.LentPart.{whole_part, no_form, no_book_cause}
use Rattle.promises.specs.OneCause.{not_clear}
use Rattle.promises.specs.Rooted.{Root, bare, topped, Top, root_of}
use Rattle.causes.specs.declared.Declined.TheVariants.{NoBook}
use Rattle.reading.specs.declared.Piece.{Piece}
use Rattle.reading.specs.Promises.{ended, refused, told, piece_of, listed_at, root_pieces, PlaceOf, at_piece, past_last, Before, Starts, Moves, Hands}

pub record PartMoves (w : Words) (place r : ℕ) : Type 0 where
  pub on : (n : ℕ) → Before w n place → Before w (n + 1) r

pub record PartHands (w : Words) (place : ℕ) (r : Maybe Piece) : Type 0 where
  pub answers : (n : ℕ) → Before w n place → (s : State) (held : Option (Held Item)) → Book w s held → told (Ok r) ≡ listed_at s.offers n

-- ---- what the root's envelope is

-- a piece has a slot
some_slot : {w : Words} {x p n : ℕ} {t : Tree Item} → Pieces w x t → Passed p n (leaves t) → 1 ≤ p
some_slot q k = omega (arith, k.slot, q.rep.slots.low (subst (Memᴰ k.here) (sym k.split) (Memᴰ.append_right k.seen (Memᴰ.head refl))))

no_piece : {p n : ℕ} → Passed p n [] → ⊥
no_piece k = omega (arith, ap length k.split, length-append k.seen (k.here ∷ k.ahead))

-- ---- the n-th words of a listing

words_behind : (xs : List Offer) (a : Offer) (ys : List Offer) → drop (3 * length xs) (piece_words (xs ++ a ∷ ys)) ≡ piece_words (a ∷ ys)
words_behind [] a ys = refl
words_behind (x ∷ xs) a ys = let e : 3 * suc (length xs) ≡ suc (suc (suc (3 * length xs))) = omega arith in
    ap (λ (n : ℕ). drop n (piece_words (x ∷ (xs ++ a ∷ ys)))) e ∙ step xs (words_behind xs a ys)
  where
    step : (xs : List Offer) → drop (3 * length xs) (piece_words (xs ++ a ∷ ys)) ≡ piece_words (a ∷ ys) →
        drop (suc (suc (suc (3 * length xs)))) (piece_words (x ∷ (xs ++ a ∷ ys))) ≡ piece_words (a ∷ ys)
    step [] h = h
    step (y ∷ xs) h = h

module _ {p : ℕ} (n : ℕ) {xs : List Item} (k : Passed p (n + 1) xs) where
  words_at : (ys : List Item) → xs ≡ k.seen ++ k.here ∷ ys → drop (3 * n) (piece_words (map offer_of xs)) ≡ piece_words (map offer_of (k.here ∷ ys))
  words_at ys e =
      let m : n ≡ length (map offer_of k.seen) = omega (arith, k.count, length-map k.seen offer_of) in
      ap (λ (l : List Item). drop (3 * n) (piece_words (map offer_of l))) e
      ∙ ap (λ (l : List Offer). drop (3 * n) (piece_words l)) (map-append offer_of k.seen (k.here ∷ ys))
      ∙ ap (λ (i : ℕ). drop (3 * i) (piece_words (map offer_of k.seen ++ map offer_of (k.here ∷ ys)))) m
      ∙ words_behind (map offer_of k.seen) k.here.offer (map offer_of ys)

-- ---- moving on

module _ {w : Words} {root : ℕ} (er : root ≡ up_to most_nodes (word w envelope_root_word)) where
  -- by cases of the root
  by_root : (A : List Item → Type 0) {s : State} {held : Option (Held Item)} → Book w s held → (root ≡ 0 → A []) →
      ((t : Tree Item) → Top w root (book_lines held) t → A (leaves t)) → A (root_pieces held)
  by_root A {s} {held} b f g = go held (root_of b er) g
    where
      go : (held : Option (Held Item)) → Root w root held → ((t : Tree Item) → Top w root (book_lines held) t → A (leaves t)) → A (root_pieces held)
      go none (bare z) g = f z
      go (some h) (topped t e p) g = subst (λ (q : Part Item). A (part_leaves q)) (sym e) (g t p)

  pub first_begins : {r : ℕ} → Ended w piece_tree false root r → Before w 0 r
  first_begins {r} e = record { stands = λ s held b. by_root (λ xs. PlaceOf xs 0 r) b (λ z. past_last (omega arith) (e.none z)) begin }
    where
      begin : {ls : List Item} (t : Tree Item) → Top w root ls t → PlaceOf (leaves t) 0 r
      begin t p = at_piece (record {
        seen = [];
        here = first t;
        ahead = rest t;
        split = leaves_first t;
        slot = e.is t p.pieces.rep p.balanced;
        count = refl;
      })

  -- a place that is none is past the last
  pub none_past : {s : State} {n p : ℕ} {held : Option (Held Item)} → Book w s held → p < 1 → Before w n p → length (root_pieces held) ≤ n
  none_past {s} {n} {p} {held} b h k = by_root (λ xs. PlaceOf xs n p → length xs ≤ n) b (λ z q. omega arith) over (k.stands s held b)
    where
      over : {ls : List Item} (t : Tree Item) → Top w root ls t → PlaceOf (leaves t) n p → length (leaves t) ≤ n
      over t q (at_piece k) = absurd (omega (arith, h, some_slot q.pieces k))
      over t q (past_last l e) = l

  module _ {z p : ℕ} (end : Ended w piece_tree true root z) where
    pub after_last : p ≡ z → PartMoves w p 0
    after_last d = record {
      on = λ n k. record {
        stands = λ s held b. by_root (λ xs. PlaceOf xs n p →
            PlaceOf xs (n + 1) 0) b (λ y q. past_last (omega arith) refl) (over n) (k.stands s held b);
      };
    }
      where
        over : (n : ℕ) {ls : List Item} (t : Tree Item) → Top w root ls t → PlaceOf (leaves t) n p → PlaceOf (leaves t) (n + 1) 0
        over n t q (at_piece k) = past_last (omega (arith, all_passed q.pieces (end.is t q.pieces.rep q.balanced) k d)) refl
        over n t q (past_last l e) = past_last (omega arith) refl

    pub after_next : {r : ℕ} → 1 ≤ p → p ≢ z → r ≡ link_at w next_piece_field p → PartMoves w p r
    after_next {r} h d f =
        record {
          on = λ n k. record {
            stands = λ s held b. by_root (λ xs. PlaceOf xs n p → PlaceOf xs (n + 1) r) b (λ y q. nowhere n q) (over n)
                (k.stands s held b);
          };
        }
      where
        nowhere : (n : ℕ) → PlaceOf [] n p → PlaceOf [] (n + 1) r
        nowhere n (at_piece k) = absurd (no_piece k)
        nowhere n (past_last l e) = absurd (omega (arith, h, e))

        over : (n : ℕ) {ls : List Item} (t : Tree Item) → Top w root ls t → PlaceOf (leaves t) n p → PlaceOf (leaves t) (n + 1) r
        over n t q (at_piece k) = at_piece (subst (λ (u : ℕ). Passed u (n + 1 + 1) (leaves t)) (sym f)
            (go_on q.pieces (end.is t q.pieces.rep q.balanced) k d))
        over n t q (past_last l e) = absurd (omega (arith, h, e))

pub after_none : {w : Words} {p : ℕ} → p < 1 → PartMoves w p 0
after_none {w} {p} h =
    record {
      on = λ n k. record {
        stands = λ s held b. past_last
            (omega (arith, none_past {w = w} {root = up_to most_nodes (word w envelope_root_word)} refl b h k)) refl;
      };
    }

-- at the end a reading stays
pub stays_past : {w : Words} {n p : ℕ} (m : ℕ) → n ≤ m → p < 1 → Before w n p → Before w m 0
stays_past {w} {n} {p} m l h k =
    record { stands = λ s held b. past_last (omega (arith, none_past {w = w} {root = up_to most_nodes (word w envelope_root_word)} refl b h k)) refl }

-- ---- handing out

-- the plain listing is of those pieces
pub listed_is : {w : Words} {s : State} {held : Option (Held Item)} → Book w s held → envelope s.offers ≡ map offer_of (root_pieces held)
listed_is {w} {s} {held} b = go held b (root_of {root = up_to most_nodes (word w envelope_root_word)} b refl)
  where
    go : (held : Option (Held Item)) → Book w s held → Root w (up_to most_nodes (word w envelope_root_word)) held →
        envelope s.offers ≡ map offer_of (root_pieces held)
    go none b (bare z) = ap envelope (no_offers b refl)
    go (some h) b (topped t e p) =
        subst (λ (q : Part Item). envelope s.offers ≡ map offer_of (part_leaves q)) (sym e)
        (sym (pieces_plain (book_lines (some h)) (leaves t) s.offers (first_offers b) (lines_ordered b) p.env))

-- past the last piece
no_words : (es : List Offer) (n : ℕ) → length es ≤ n → take 3 (drop (3 * n) (piece_words es)) ≡ []
no_words es n h = ap (take 3) (drop_of_length-le (piece_words es) {i = 3 * n} (omega (arith, words_length es)))

pub hands_end : {w : Words} {p : ℕ} {r : Maybe Piece} → told (Ok r) ≡ ended → p < 1 → PartHands w p r
hands_end {w} {p} e h = record {
  answers = λ n k s held b. e
      ∙ ap piece_of (sym (no_words (envelope s.offers) n (omega (
        arith,
        ap length (listed_is b),
        length-map (root_pieces held) offer_of,
        none_past {w = w} {root = up_to most_nodes (word w envelope_root_word)} refl b h k,
      ))));
}

-- at a piece
module _ {w : Words} {root z p : ℕ} {last : Bool} {number u v : ℤ} (er : root ≡ up_to most_nodes (word w envelope_root_word))
    (end : Ended w piece_tree true root z) (low : 1 ≤ p)
    (yes-last : last ≡ true → p ≡ z) (not_last : last ≡ false → p ≢ z)
    (en : number ≡ cell w number_field p) (eu : u ≡ crossing_word w numerator_field p last) (ev : v ≡ crossing_word w denominator_field p last) where
  module _ (n : ℕ) {ls : List Item} (t : Tree Item) (q : Top w root ls t) (k : Passed p (n + 1) (leaves t)) where
    number_is : number ≡ k.here.offer.number
    number_is = en ∙ ap (cell w number_field) k.slot ∙ (q.pieces.holds.held
        (subst (Memᴰ k.here) (sym k.split) (Memᴰ.append_right k.seen (Memᴰ.head refl)))).number

    three : (b : Bool) (ys : List Item) → last ≡ b → leaves t ≡ k.seen ++ k.here ∷ ys → number ∷ u ∷ v ∷ [] ≡ take 3 (piece_words (map offer_of (k.here ∷ ys)))
    three true [] e d = ap (λ (x : ℤ). x ∷ u ∷ v ∷ []) number_is
        ∙ ap (λ (x : ℤ). k.here.offer.number ∷ x ∷ v ∷ []) (eu ∙ ap (crossing_word w numerator_field p) e)
        ∙ ap (λ (x : ℤ). k.here.offer.number ∷ pos 0 ∷ x ∷ []) (ev ∙ ap (crossing_word w denominator_field p) e)
    three true (y ∷ ys) e d = absurd (omega (
      arith,
      all_passed q.pieces (end.is t q.pieces.rep q.balanced) k (yes-last e),
      ap length d,
      length-append k.seen (k.here ∷ y ∷ ys),
      k.count,
    ))
    three false [] e d = absurd (omega (
      arith,
      not_all q.pieces (end.is t q.pieces.rep q.balanced) k (not_last e),
      ap length d,
      length-append k.seen (k.here ∷ []),
      k.count,
    ))
    three false (y ∷ ys) e d =
        ap (λ (x : ℤ). x ∷ u ∷ v ∷ []) number_is
        ∙ ap (λ (x : ℤ). k.here.offer.number ∷ x ∷ v ∷ [])
        (eu ∙ ap (crossing_word w numerator_field p) e ∙ ap (cell w numerator_field) k.slot ∙ next.numerator)
        ∙ ap (λ (x : ℤ). k.here.offer.number ∷ crossing_numerator k.here.offer y.offer ∷ x ∷ [])
        (ev ∙ ap (crossing_word w denominator_field p) e ∙ ap (cell w denominator_field) k.slot ∙ next.denominator)
      where
        next : Next w k.here y
        next = ((IsChain-append-cons-cons k.here k.seen).0 (subst (Threaded w) d q.pieces.thread)).1

    here_words : number ∷ u ∷ v ∷ [] ≡ take 3 (drop (3 * n) (piece_words (map offer_of (leaves t))))
    here_words = three last k.ahead refl k.split ∙ ap (take 3) (sym (words_at n k k.ahead k.split))

  pub hands_piece : PartHands w p (Some (record { number = number; numerator = u; denominator = v }))
  hands_piece = record {
    answers = λ n k s held b. ap piece_of
        (words n (by_root er (λ xs. PlaceOf xs n p → number ∷ u ∷ v ∷ [] ≡ take 3 (drop (3 * n) (piece_words (map offer_of xs)))) b (λ y q. nowhere n q)
        (over n) (k.stands s held b)) (listed_is b));
  }
    where
      words : (n : ℕ) {os es : List Offer} → number ∷ u ∷ v ∷ [] ≡ take 3 (drop (3 * n) (piece_words es)) → os ≡ es →
          number ∷ u ∷ v ∷ [] ≡ take 3 (drop (3 * n) (piece_words os))
      words n e d = e ∙ ap (λ (l : List Offer). take 3 (drop (3 * n) (piece_words l))) (sym d)

      nowhere : (n : ℕ) → PlaceOf [] n p → number ∷ u ∷ v ∷ [] ≡ take 3 (drop (3 * n) [])
      nowhere n (at_piece k) = absurd (no_piece k)
      nowhere n (past_last l e) = absurd (omega (arith, low, e))

      over : (n : ℕ) {ls : List Item} (t : Tree Item) → Top w root ls t → PlaceOf (leaves t) n p →
          number ∷ u ∷ v ∷ [] ≡ take 3 (drop (3 * n) (piece_words (map offer_of (leaves t))))
      over n t q (at_piece k) = here_words n t q k
      over n t q (past_last l e) = absurd (omega (arith, low, e))

-- ---- on a table

module _ (start : ℕ) (t : List ℤ) {no : Bool} (e : no ≡ no_book_at (length t) start (word (part_of t start) capacity_word)) where
  module _ (d : no ≡ true) where
    pub first_no_book : Starts start t 0
    first_no_book = record { nowhere = λ z g. refl; before = record { stands = λ s held b. absurd (no_form t start e d b) } }

    pub after_no_book : (p : ℕ) → Moves start t p 0
    after_no_book p = record { nowhere = λ z g. refl; on = λ n k. record { stands = λ s held b. absurd (no_form t start e d b) } }

    pub hands_no_book : (p : ℕ) → Hands start t p (Err NoBook)
    hands_no_book p = record {
      declined = λ z g. ap (λ (n : ℕ). refused (pos n)) (sym (no_book_cause t start g));
      answers =
          λ n k s held b. absurd (no_form t start e d b);
    }

  module _ (d : no ≡ false) where
    -- there is a book
    not_nowhere : (z : Cause) → FirstOf (no_book_trial t start ∷ []) z → ⊥
    not_nowhere z f = not_clear f (denied e d, tt)

    pub hands_there : {p : ℕ} {r : Maybe Piece} → PartHands (take (length t - start) (drop start t)) p r → Hands start t p (Ok r)
    hands_there {p} {r} k = record {
      declined = λ z f. absurd (not_nowhere z f);
      answers =
          (subst (λ (w : Words). PartHands w p r) (whole_part t start) k).answers;
    }

    pub first_there : {p : ℕ} → Before (take (length t - start) (drop start t)) 0 p → Starts start t p
    first_there {p} k = record { nowhere = λ z f. absurd (not_nowhere z f); before = subst (λ (w : Words). Before w 0 p) (whole_part t start) k }

    pub after_there : {p r : ℕ} → PartMoves (take (length t - start) (drop start t)) p r → Moves start t p r
    after_there {p} {r} k = record { nowhere = λ z f. absurd (not_nowhere z f); on = (subst (λ (w : Words). PartMoves w p r) (whole_part t start) k).on }

-- ---- on the way to place n

pub record Nearing (w : Words) (n place i : ℕ) : Type 0 where
  pub within : i ≤ n
  pub here : Before w i place

pub nearing_begins : {w : Words} {p : ℕ} (n : ℕ) → Before w 0 p → Nearing w n p 0
nearing_begins n b = record { within = omega arith; here = b }

pub nearing_on : (start : ℕ) (t : List ℤ) {n p q i : ℕ} → Nearing (part_of t start) n p i → i < n → Moves start t p q → Nearing (part_of t start) n q (i + 1)
nearing_on start t {i} g h m = record { within = omega arith; here = m.on i g.here }

pub nearing_past : {w : Words} {n p i : ℕ} → Nearing w n p i → p < 1 → Before w n 0
nearing_past {n} g h = stays_past n g.within h g.here

pub nearing_ends : {w : Words} {n p i : ℕ} → Nearing w n p i → n ≤ i → Before w n p
nearing_ends {w} {n} {p} {i} g h = let e : i ≡ n = omega (arith, g.within) in subst (λ (k : ℕ). Before w k p) e g.here
