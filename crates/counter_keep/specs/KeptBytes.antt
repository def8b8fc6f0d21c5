-- A line so far: its first 28 bytes are kept.
use Rattle.std.specs.Prelude.{◌≡◌, List, [], ◌∷◌, ◌++◌, ℕ, ◌+◌, ◌≤◌, ◌<◌, length, take, set}
use Rattle.std.proofs.Common.{sym, ◌∙◌, ap, add-one, arith, length-append, length-set, take_all, take-suc-set, length-take-le}
use Rattle.std.proofs.Math.Decide.{dec_le}
use Rattle.std.proofs.lemmas.List.{take-append-le}
use Rattle.counter_keep.specs.declared.Line.{Line}

-- Of the bytes of a line the first 28 are kept.
pub record Keeps (line : Line) (text : List ℕ) : Type 0 where
  pub room : length line.bytes ≡ 28
  pub few : line.length ≤ 28
  pub front : take line.length line.bytes ≡ take 28 text

pub record Pushes (line : Line) (byte : ℕ) (line' : Line) : Type 0 where
  pub keeps : (text : List ℕ) → Keeps line text → Keeps line' (text ++ byte ∷ [])

-- how many are kept
pub kept_length : {line : Line} {text : List ℕ} → Keeps line text → line.length ≡ length (take 28 text)
kept_length {line} k = sym (length-take-le line.length line.bytes (omega (arith, k.room, k.few))) ∙ ap length k.front

pub kept_all : {line : Line} {text : List ℕ} → Keeps line text → line.length < 28 → length text ≡ line.length
kept_all {line} {text} k h = go (dec_le 28 (length text))
  where
    go : Dec (28 ≤ length text) → length text ≡ line.length
    go (yes g) = absurd (omega (arith, kept_length k, length-take-le 28 text g))
    go (no g) = ap length (sym (take_all 28 text (omega arith))) ∙ sym (kept_length k)

kept_some : {line : Line} {text : List ℕ} → Keeps line text → 28 ≤ line.length → 28 ≤ length text
kept_some {line} {text} k h = go (dec_le 28 (length text))
  where
    go : Dec (28 ≤ length text) → 28 ≤ length text
    go (yes g) = g
    go (no g) = absurd (omega (arith, kept_length k, ap length (take_all 28 text (omega arith))))

pub pushes_full : (line : Line) (byte : ℕ) → 28 ≤ line.length → Pushes line byte line
pushes_full line byte h =
    record { keeps = λ text k. record { room = k.room; few = k.few; front = k.front ∙ sym (take-append-le 28 text (byte ∷ []) (kept_some k h)) } }

pub pushes_one : (line : Line) (byte : ℕ) → line.length < 28 →
    Pushes line byte (record { bytes = set line.bytes line.length byte; length = line.length + 1 })
pushes_one line byte h = record { keeps = λ text k. keeps text k (kept_all k h) }
  where
    keeps : (text : List ℕ) → Keeps line text → length text ≡ line.length →
        Keeps (record { bytes = set line.bytes line.length byte; length = line.length + 1 }) (text ++ byte ∷ [])
    keeps text k e =
        record {
          room = length-set line.bytes line.length byte ∙ k.room;
          few = omega arith;
          front =
              ap (λ (n : ℕ). take n (set line.bytes line.length byte)) (add-one line.length)
              ∙ take-suc-set line.bytes line.length byte (omega (arith, k.room))
              ∙ ap (λ (l : List ℕ). l ++ byte ∷ []) (k.front ∙ take_all 28 text (omega arith))
              ∙ sym (take_all 28 (text ++ byte ∷ []) (omega (arith, length-append text (byte ∷ []))));
        }
