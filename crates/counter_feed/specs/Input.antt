-- The input, byte by byte: at its newline a line is answered.
use Rattle.std.specs.Prelude.{None, ◌≡◌, refl, ◌≢◌, List, [], ◌∷◌, ℕ, ◌≤◌, ◌<◌, length, take, ℤ}
use Rattle.std.proofs.Common.{◌∙◌, ap, arith, take_all, length-take-le}
use Rattle.std.proofs.Math.Decide.{dec_le}
use Rattle.counter_print.specs.Texts.{newline}
use Rattle.counter_columns.specs.Commands.{parsed_unique, command_of, command_parsed, wrong_length}
use Rattle.table.specs.Fields.{capacity_word}
use Rattle.table.specs.Words.{word}
use Rattle.promises.specs.Promises.{part_of, capacity_at, OnlyPart}
use Rattle.counter_keep.specs.declared.Line.{Line}
use Rattle.counter_keep.specs.KeptBytes.{Keeps, Pushes, kept_length, kept_all}
use Rattle.counter_line.specs.Promises.{Counts}
use Rattle.counter_line.specs.Answering.{untouched, counts_alike}

-- ---- the line that was kept

-- Its command is the whole line's: beyond 27 bytes no line can be read.
kept_command : (text : List ℕ) → command_of (take 28 text) ≡ command_of text
kept_command text = go (dec_le (length text) 28)
  where
    go : Dec (length text ≤ 28) → command_of (take 28 text) ≡ command_of text
    go (yes h) = ap command_of (take_all 28 text h)
    go (no h) =
        parsed_unique (take 28 text) _ None (command_parsed (take 28 text))
        (wrong_length (take 28 text) (λ e. omega (arith, length-take-le 28 text (omega arith))))
        ∙ parsed_unique text None _ (wrong_length text (λ e. omega arith)) (command_parsed text)

-- the line in the first `kept` of some bytes
pub record CountsFront (bytes : List ℕ) (kept : ℕ) (t t' : List ℤ) (out out' : List ℕ) (n : ℕ) : Type 0 where
  pub within : n ≤ length out
  pub outside : OnlyPart (capacity_at t 0) 0 t t'
  pub same_part : word (part_of t' 0) capacity_word ≡ word (part_of t 0) capacity_word
  pub counts : kept ≤ length bytes → Counts (take kept bytes) t t' out out' n

-- the whole line is answered
pub record CountsKept (line : Line) (t t' : List ℤ) (out out' : List ℕ) (n : ℕ) : Type 0 where
  pub within : n ≤ length out
  pub outside : OnlyPart (capacity_at t 0) 0 t t'
  pub same_part : word (part_of t' 0) capacity_word ≡ word (part_of t 0) capacity_word
  pub counts : (text : List ℕ) → Keeps line text → Counts text t t' out out' n

pub front_none : (bytes : List ℕ) (kept : ℕ) (t : List ℤ) (out : List ℕ) → length bytes < kept → CountsFront bytes kept t t out out 0
front_none bytes kept t out h = record { within = omega arith; outside = untouched (capacity_at t 0) 0 t; same_part = refl; counts = λ k. absurd (omega arith) }

pub front_all : {bytes : List ℕ} {kept : ℕ} {t t' : List ℤ} {out out' : List ℕ} {n : ℕ} → Counts (take kept bytes) t t' out out' n →
    CountsFront bytes kept t t' out out' n
front_all c = record { within = c.within; outside = c.outside; same_part = c.same_part; counts = λ k. c }

pub counts_kept : {line : Line} {t t' : List ℤ} {out out' : List ℕ} {n : ℕ} → CountsFront line.bytes line.length t t' out out' n →
    CountsKept line t t' out out' n
counts_kept c =
    record {
      within = c.within;
      outside = c.outside;
      same_part = c.same_part;
      counts = λ text k. counts_alike (ap command_of k.front ∙ kept_command text) (c.counts (omega (arith, k.room, k.few)));
    }

-- ---- one byte more

pub record Feeds (byte : ℕ) (line line' : Line) (t t' : List ℤ) (out out' : List ℕ) (n : ℕ) : Type 0 where
  pub within : n ≤ length out
  pub outside : OnlyPart (capacity_at t 0) 0 t t'
  pub same_part : word (part_of t' 0) capacity_word ≡ word (part_of t 0) capacity_word
  pub grows : byte ≢ newline → Pushes line byte line' × (t' ≡ t) × (out' ≡ out) × (n ≡ 0)
  pub ends : byte ≡ newline → Keeps line' [] × CountsKept line t t' out out' n

pub feeds_on : {byte : ℕ} {line line' : Line} (t : List ℤ) (out : List ℕ) → byte ≢ newline → Pushes line byte line' → Feeds byte line line' t t out out 0
feeds_on t out h p = record {
  within = omega arith;
  outside = untouched (capacity_at t 0) 0 t;
  same_part = refl;
  grows = λ _. (p, refl, refl, refl);
  ends =
      λ e. absurd (h e);
}

pub feeds_line : {byte : ℕ} {line line' : Line} {t t' : List ℤ} {out out' : List ℕ} {n : ℕ} → byte ≡ newline → Keeps line' [] →
    CountsKept line t t' out out' n → Feeds byte line line' t t' out out' n
feeds_line e k c = record { within = c.within; outside = c.outside; same_part = c.same_part; grows = λ h. absurd (h e); ends = λ _. (k, c) }

-- ---- the end of the input

-- A last line without its newline is answered, and a line of no bytes is none.
pub record Finishes (line : Line) (t t' : List ℤ) (out out' : List ℕ) (n : ℕ) : Type 0 where
  pub within : n ≤ length out
  pub outside : OnlyPart (capacity_at t 0) 0 t t'
  pub same_part : word (part_of t' 0) capacity_word ≡ word (part_of t 0) capacity_word
  pub no_more : Keeps line [] → (t' ≡ t) × (out' ≡ out) × (n ≡ 0)
  pub last : (b : ℕ) (text : List ℕ) → Keeps line (b ∷ text) → Counts (b ∷ text) t t' out out' n

pub finishes_none : {line : Line} (t : List ℤ) (out : List ℕ) → line.length ≡ 0 → Finishes line t t out out 0
finishes_none t out e =
    record {
      within = omega arith;
      outside = untouched (capacity_at t 0) 0 t;
      same_part = refl;
      no_more = λ _. (refl, refl, refl);
      last = λ b text k. absurd (omega (arith, kept_all k (omega arith)));
    }

pub finishes_line : {line : Line} {t t' : List ℤ} {out out' : List ℕ} {n : ℕ} → line.length ≢ 0 → CountsKept line t t' out out' n →
    Finishes line t t' out out' n
finishes_line some c =
    record {
      within = c.within;
      outside = c.outside;
      same_part = c.same_part;
      no_more = λ k. absurd (some (kept_length k));
      last = λ b text k. c.counts (b ∷ text) k;
    }
