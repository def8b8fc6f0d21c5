-- A listing's lines, piece after piece.
use Rattle.std.specs.Prelude.{◌≡◌, refl, List, ◌∷◌, ◌++◌, ℕ, suc, ◌+◌, ◌*◌, ◌-◌, ◌≤◌, length, take, drop, ℤ, pos, negsuc}
use Rattle.std.proofs.Common.{sym, ◌∙◌, ap, subst, append_assoc, append-nil, arith, length-append, length-drop, drop_of_length-le, take_all, drop-cons, drop-drop, take-add, length-take-le, take_at, drop_at}
use Rattle.plain.specs.Book.{listed}
use Rattle.table.specs.Words.{word, up_to, up_to_in, up_to_most}
use Rattle.counter_print.specs.Texts.{FitsIn, answer_line}
use Rattle.counter_print.specs.Printed.{Answers}
use Rattle.promises.specs.Promises.{counted}
use Rattle.counter_reply.specs.Answered.{piece_lines, Prints}
use Rattle.counter_reply.specs.Replies.{PiecesFit, Replies, zero_fits, one_line}

-- ---- bytes lent from a place on

lent : (l : List ℕ) (i : ℕ) → take (length l - i) (drop i l) ≡ drop i l
lent l i = take_all (length l - i) (drop i l) (omega (arith, length-drop i l))

pub part_long : (l : List ℕ) (i k : ℕ) → i + k ≤ length l → k ≤ length (take (length l - i) (drop i l))
part_long l i k h = rw (lent l i, length-drop i l) (omega arith)

-- as they come back
abbrev pub put_back : ℕ → List ℕ → List ℕ → List ℕ
put_back i l part = take i l ++ (part ++ drop (length l - i) (drop i l))

back : (l part : List ℕ) (i : ℕ) → put_back i l part ≡ take i l ++ part
back l part i = ap (λ (t : List ℕ). take i l ++ t) (ap (λ (t : List ℕ). part ++ t) (drop_of_length-le (drop i l) {i =
    length l - i} (omega (arith, length-drop i l))) ∙ append-nil part)

-- ---- a listing's lines

-- Piece i's line stands behind the lines before it.
pub record PieceLine (ws : List ℤ) (i : ℕ) (before after : List ℕ) : Type 0 where
  pub front : take (39 * i) after ≡ take (39 * i) before
  pub line : Answers 69 (pos 0) (word ws (3 * i)) (word ws (3 * i + 1)) (word ws (3 * i + 2)) (drop (39 * i) before) (drop (39 * i) after)

pub piece_line : {ws : List ℤ} {i : ℕ} {before part : List ℕ} {a b d : ℤ} → 39 * i + 39 ≤ length before
    → a ≡ word ws (3 * i) → b ≡ word ws (3 * i + 1) → d ≡ word ws (3 * i + 2) →
    Answers 69 (pos 0) a b d (take (length before - 39 * i) (drop (39 * i) before)) part → PieceLine ws i before (put_back (39 * i) before part)
piece_line {ws} {i} {before} {part} h ea eb ed answers =
    record {
      front = rw (back before part (39 * i)) (take_at (take (39 * i) before) part (39 * i) e);
      line = rw (back before part (39 * i), drop_at (take (39 * i) before) part (39 * i) e) (rw (lent before (39 * i), ea, eb, ed) at answers);
    }
  where
    e : length (take (39 * i) before) ≡ 39 * i
    e = length-take-le (39 * i) before (omega arith)

-- The lines of the first i pieces stand in front.
pub record PiecesTo (ws : List ℤ) (before after : List ℕ) (i : ℕ) : Type 0 where
  pub long : length after ≡ length before
  pub fits : PiecesFit ws → PiecesFit (drop (3 * i) ws)
  pub text : PiecesFit ws → piece_lines ws ≡ take (39 * i) after ++ piece_lines (drop (3 * i) ws)
  pub rest : drop (39 * i) after ≡ drop (39 * i) before

pub pieces_none : (ws : List ℤ) (before : List ℕ) → PiecesTo ws before before 0
pieces_none ws before = record { long = refl; fits = λ f. f; text = λ f. refl; rest = refl }

-- the three words of piece i
three : (ws : List ℤ) (j : ℕ) → j + 3 ≤ length ws → drop j ws ≡ word ws j ∷ word ws (j + 1) ∷ word ws (j + 2) ∷ drop (j + 3) ws
unfolding word
three ws j h =
    drop-cons ws j (pos 0) (omega arith)
    ∙ ap (λ (l : List ℤ). word ws j ∷ l) (one (suc j) (j + 1) (omega arith) (drop-cons ws (suc j) (pos 0) (omega arith))
    ∙ ap (λ (l : List ℤ). word ws (j + 1) ∷ l) (one (suc (suc j)) (j + 2) (omega arith) (drop-cons ws (suc (suc j)) (pos 0) (omega arith))
    ∙ ap (λ (l : List ℤ). word ws (j + 2) ∷ l) (ap (λ (i : ℕ). drop i ws) (last j))))
  where
    one : (a b : ℕ) → a ≡ b → drop a ws ≡ word ws a ∷ drop (suc a) ws → drop a ws ≡ word ws b ∷ drop (suc a) ws
    one a b e p = p ∙ ap (λ (i : ℕ). word ws i ∷ drop (suc a) ws) e

    last : (j : ℕ) → suc (suc (suc j)) ≡ j + 3
    last j = omega arith

pub pieces_more : {ws : List ℤ} {before mid after : List ℕ} {i : ℕ} → 3 * i + 3 ≤ length ws
    → PiecesTo ws before mid i → PieceLine ws i mid after → length after ≡ length mid → PiecesTo ws before after (i + 1)
unfolding PiecesFit piece_lines
pieces_more {ws} {before} {mid} {after} {i} hw p q l =
    record {
      long = l ∙ p.long;
      fits = λ f. subst PiecesFit (ap (λ (j : ℕ). drop j ws) next) (piece f).3;
      text = λ f.
          p.text f
          ∙ ap (λ (v : List ℤ). take (39 * i) mid ++ piece_lines v) (three ws (3 * i) hw)
          ∙ sym (append_assoc (take (39 * i) mid) own (piece_lines (drop (3 * i + 3) ws)))
          ∙ (λ k. sym (taken (piece f)) k ++ piece_lines (drop (next k) ws));
      rest = ap (λ (j : ℕ). drop j after) (sym wider) ∙ sym (drop-drop 39 (39 * i) after) ∙ q.line.rest ∙ ap (drop 39) p.rest
          ∙ drop-drop 39 (39 * i) before ∙ ap (λ (j : ℕ). drop j before) wider;
    }
  where
    next : 3 * i + 3 ≡ 3 * (i + 1)
    next = omega arith

    wider : 39 * i + 39 ≡ 39 * (i + 1)
    wider = omega arith

    own : List ℕ
    own = answer_line 69 (pos 0) (word ws (3 * i)) (word ws (3 * i + 1)) (word ws (3 * i + 2))

    piece : PiecesFit ws → PiecesFit (word ws (3 * i) ∷ word ws (3 * i + 1) ∷ word ws (3 * i + 2) ∷ drop (3 * i + 3) ws)
    piece f = subst PiecesFit (three ws (3 * i) hw) (p.fits f)

    taken : FitsIn 6 (word ws (3 * i)) × FitsIn 14 (word ws (3 * i + 1)) × FitsIn 14 (word ws (3 * i + 2)) × PiecesFit (drop (3 * i + 3) ws) →
        take (39 * (i + 1)) after ≡ take (39 * i) mid ++ own
    taken g = ap (λ (j : ℕ). take j after) (sym wider) ∙ take-add (39 * i) 39 after
        ∙ (λ k. q.front k ++ q.line.text (zero_fits 3 (omega arith)) g.0 g.1 g.2 k)

-- ---- all of them, and the listing's own line

-- After the lines of all pieces.
pieces_all : {ws : List ℤ} {before after : List ℕ} {m : ℕ} → PiecesTo ws before after m → length ws ≡ 3 * m → PiecesFit ws → take (39 * m) after ≡ piece_lines ws
unfolding piece_lines
pieces_all {ws} {after = after} {m} p e f = sym (p.text f ∙ ap (λ (v : List ℤ). take (39 * m) after ++ piece_lines v)
    (drop_of_length-le ws {i = 3 * m} (omega arith)) ∙ append-nil (take (39 * m) after))

pieces_listed : {ws : List ℤ} {before mid last : List ℕ} (m : ℕ) → length ws ≡ 3 * m → 39 * m + 39 ≤ length before → PiecesTo ws before mid m
    → Answers 76 (pos 0) (pos 0) (pos m) (pos 0) (drop (39 * m) mid) last → Replies 76 (pos 0) (listed m ws) before (take (39 * m) mid ++ last) (39 * m + 39)
pieces_listed {ws} {before} {mid} {last} m e h p a = record { within = h; prints = λ f. prints f.0 f.1 }
  where
    own : List ℕ
    own = answer_line 76 (pos 0) (pos 0) (pos m) (pos 0)

    prints : PiecesFit ws → FitsIn 14 (pos m) → Prints (piece_lines ws ++ own) before (take (39 * m) mid ++ last) (39 * m + 39)
    prints f g =
        let o = one_line a (zero_fits 3 (omega arith)) (zero_fits 6 (omega arith)) g (zero_fits 14 (omega arith)) in
        let n : 39 * m + 39 ≡ length (piece_lines ws ++ own) = sym (length-append (piece_lines ws) own
        ∙ omega (arith, o.count, ap length (pieces_all p e f), length-take-le (39 * m) mid (omega (arith, p.long)))) in
        record {
          whole =
              (λ k. pieces_all p e f k ++ o.whole k)
              ∙ sym (append_assoc (piece_lines ws) own (drop (length own) (drop (39 * m) mid)))
              ∙ ap (λ (t : List ℕ). (piece_lines ws ++ own) ++ t) (ap (λ (j : ℕ). drop j (drop (39 * m) mid)) (sym o.count) ∙ ap (drop 39) p.rest
              ∙ drop-drop 39 (39 * m) before ∙ ap (λ (j : ℕ). drop j before) n);
          count = n;
        }

-- More pieces than there can be, or fewer than none, are no answer of the plain book.
pub listed_line : (z : ℤ) (pieces : List ℤ) {before mid last : List ℕ} → length pieces ≡ 192 → 2535 ≤ length before → (n : ℕ) → n ≡ up_to 64 z
    → PiecesTo (take (3 * n) pieces) before mid n → Answers 76 (pos 0) (pos 0) z (pos 0) (take (length mid - 39 * n) (drop (39 * n) mid)) last
    → Replies 76 (pos 0) (counted (λ m. listed m (take (3 * m) pieces)) z) before (put_back (39 * n) mid last) (39 * n + 39)
listed_line z pieces {before} {mid} {last} e h n q p a = rw (back mid last (39 * n)) (go z q (rw (lent mid (39 * n)) at a))
  where
    Own : ℕ → Type 0
    Own m = Answers 76 (pos 0) (pos 0) (pos m) (pos 0) (drop (39 * n) mid) last

    few : n ≤ 64
    few = omega (arith, q, up_to_most 64 z)

    exact : (m : ℕ) → n ≡ m → Own m → Replies 76 (pos 0) (listed m (take (3 * m) pieces)) before (take (39 * n) mid ++ last) (39 * n + 39)
    exact m d a =
        subst (λ (j : ℕ). Replies 76 (pos 0) (listed j (take (3 * j) pieces)) before (take (39 * n) mid ++ last) (39 * n + 39)) d
        (pieces_listed n (length-take-le (3 * n) pieces (omega (arith, few))) (omega (arith, few)) p (subst Own (sym d) a))

    go : (z : ℤ) → n ≡ up_to 64 z → Answers 76 (pos 0) (pos 0) z (pos 0) (drop (39 * n) mid) last →
        Replies 76 (pos 0) (counted (λ m. listed m (take (3 * m) pieces)) z) before (take (39 * n) mid ++ last) (39 * n + 39)
    go (pos m) q a = record { within = omega (arith, few); prints = λ f. (exact m (q ∙ up_to_in 64 m f.2) a).prints f }
    go (negsuc m) q a = record { within = omega (arith, few); prints = λ f. absurd (omega (arith, f.0)) }
