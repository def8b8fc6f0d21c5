-- Pieces and bridges of lines that are the same.
use Rattle.std.specs.Prelude.{ℕ, zero, suc, ◌<◌, ◌≡◌}
use Rattle.std.proofs.Common.{arith}
use Rattle.envelopes.specs.PseudoLines.{Figure, mirror}
use Rattle.envelopes.specs.Bridge.{PastOuter, InPiece, Bridge}

module _ (S : Figure) {a b : ℕ → S.Line} {n : ℕ} (e : (k : ℕ) → k < n → a k ≡ b k) where
  past_same : (i : ℕ) → i < n → (x : S.Point) → PastOuter S a i x → PastOuter S b i x
  past_same zero h x p = p
  past_same (suc i) h x p = rw (← e i (omega arith), ← e (suc i) h) p

  pub piece_same : {i : ℕ} {x : S.Point} → InPiece S a n i x → InPiece S b n i x
  piece_same {i} {x} P =
      record {
        inside = P.inside;
        outer = past_same i P.inside x P.outer;
        inner = λ q. rw (← e i P.inside, ← e (suc i) q) (P.inner q);
      }

module _ (S : Figure) {a b c d : ℕ → S.Line} {m n i j : ℕ} where
  pub bridge_same : ((k : ℕ) → k < m → a k ≡ b k) → ((k : ℕ) → k < n → c k ≡ d k) → Bridge S a m c n i j → Bridge S b m d n i j
  bridge_same e f B =
      record {
        on_left = rw (← e i B.on_left.inside, ← f j B.on_right.inside) (piece_same S e B.on_left);
        on_right = rw (← e i B.on_left.inside, ← f j B.on_right.inside) (piece_same (mirror S) f B.on_right);
      }
