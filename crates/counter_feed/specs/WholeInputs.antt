-- Whole inputs: whatever is read from the opening on, what is printed in all is the plain counter's output.
use Rattle.std.specs.Prelude.{◌≡◌, refl, List, [], ◌∷◌, ◌++◌, ℕ, ◌≤◌, length, take, drop, ℤ, pos, Result}
use Rattle.std.proofs.Common.{sym, ◌∙◌, ap, subst, append-nil, take_at, eq-eqb, ne_eqb}
use Rattle.std.proofs.Math.Option.{Option, none}
use Rattle.std.proofs.Math.Decide.{ℕ_discrete}
use Rattle.plain.specs.Book.{State, opened, open_trials}
use Rattle.plain.specs.Causes.{Clear}
use Rattle.counter_print.specs.Texts.{newline}
use Rattle.dynamic.specs.OfferTree.{Held}
use Rattle.table.specs.Items.{Item}
use Rattle.form.specs.Form.{Form}
use Rattle.causes.specs.declared.Declined.{Declined}
use Rattle.promises.specs.Promises.{part_of, Opens}
use Rattle.counter_keep.specs.declared.Line.{Line}
use Rattle.counter_keep.specs.KeptBytes.{Keeps}
use Rattle.counter_line.specs.Promises.{capacity, told, told_all, lines_from, output, most, Stands, Counts}
use Rattle.counter_reply.specs.Answered.{Prints}
use Rattle.counter_feed.specs.Input.{Feeds, Finishes}

-- the bytes printed are those in front
printed : {text before after : List ℕ} {n : ℕ} → Prints text before after n → take n after ≡ text
printed {text} {before} {n = n} p = ap (take n) p.whole ∙ take_at text (drop (length text) before) n (sym p.count)

-- one line more
line_told : (line : List ℕ) (lines : List (List ℕ)) {t' : List ℤ} {out out' bytes : List ℕ} {n : ℕ} (s : State) → Stands (told s line) t' out out' n
    → bytes ≡ told_all (told s line).state lines → take n out' ++ bytes ≡ told_all s (line ∷ lines)
line_told line lines s p e = λ i. printed p.prints i ++ e i

-- ---- lines

-- Lines that are answered one after the other, and what is printed in all. Each call is told by its own promise.
pub data Lines : List ℤ → List (List ℕ) → List ℕ → Type 0 where
  no_lines : {t : List ℤ} → Lines t [] []
  line_more :
      {t t' : List ℤ} {line : List ℕ} {lines : List (List ℕ)} {out out' bytes : List ℕ} {n : ℕ} →
      most ≤ length out →
      Counts line t t' out out' n →
      Lines t' lines bytes →
      Lines t (line ∷ lines) (take n out' ++ bytes)

lines_told : {t : List ℤ} {lines : List (List ℕ)} {bytes : List ℕ} → Lines t lines bytes → (s : State) (held : Option (Held Item)) →
    Form (part_of t 0) s held → bytes ≡ told_all s lines
lines_told no_lines s held book = refl
lines_told (line_more {line = line} {lines} h counts rest) s held book =
    let p = (counts.obeys h).follows s held book in
    line_told line lines s p (lines_told rest (told s line).state p.after p.stands)

pub every_line : {t t₀ : List ℤ} {lines : List (List ℕ)} {bytes : List ℕ} (r : Result (Unit {0}) Declined) → Opens (pos capacity) 0 t t₀ r →
    Clear (open_trials (length t) 0 (pos capacity))
    → Lines t₀ lines bytes → bytes ≡ told_all (opened (pos capacity)) lines
every_line r o clear l = lines_told l (opened (pos capacity)) none (o.accepted clear).1

-- ---- bytes

-- An input that is fed byte by byte and finished, and what is printed in all.
pub data Input : List ℤ → Line → List ℕ → List ℕ → Type 0 where
  at_end :
      {t t' : List ℤ} {line : Line} {out out' : List ℕ} {n : ℕ} →
      most ≤ length out →
      Finishes line t t' out out' n →
      Input t line [] (take n out')
  byte_more :
      {t t' : List ℤ} {line line' : Line} {byte : ℕ} {input out out' bytes : List ℕ} {n : ℕ} →
      most ≤ length out →
      Feeds byte line line' t t' out out' n →
      Input t' line' input bytes →
      Input t line (byte ∷ input) (take n out' ++ bytes)

input_told : {t : List ℤ} {line : Line} {input bytes : List ℕ} → Input t line input bytes → (text : List ℕ) → Keeps line text →
    (s : State) (held : Option (Held Item)) → Form (part_of t 0) s held
    → bytes ≡ told_all s (lines_from text input)
input_told (at_end {out' = out'} h f) [] k s held book = ap (λ (n : ℕ). take n out') (f.no_more k).2
input_told (at_end h f) (b ∷ text) k s held book =
    let p = ((f.last b text k).obeys h).follows s held book in
    printed p.prints ∙ sym (append-nil (told s (b ∷ text)).bytes)
input_told (byte_more {t} {t'} {line} {line'} {byte = b} {input} {out} {out'} {bytes} {n} h f rest) text k s held book =
    go (ℕ_discrete b newline) (λ text k s held book. input_told rest text k s held book)
  where
    More : Type 0
    More = (text : List ℕ) → Keeps line' text → (s : State) (held : Option (Held Item)) → Form (part_of t' 0) s held → bytes ≡ told_all s (lines_from text input)

    go : Dec (b ≡ newline) → More → take n out' ++ bytes ≡ told_all s (lines_from text (b ∷ input))
    go (yes e) more =
        let q = f.ends e in
        let p = ((q.1.counts text k).obeys h).follows s held book in
        rw (eq-eqb b newline e) (line_told text (lines_from [] input) s p (more [] q.0 (told s text).state p.after p.stands))
    go (no e) more =
        let q = f.grows e in
        rw (ne_eqb b newline e, q.3) (more (text ++ b ∷ []) (q.0.keeps text k) s held (subst (λ (w : List ℤ). Form (part_of w 0) s held) (sym q.1) book))

-- From an accepted opening and no line yet.
pub every_input : {t t₀ : List ℤ} {line : Line} {input bytes : List ℕ} (r : Result (Unit {0}) Declined) → Opens (pos capacity) 0 t t₀ r →
    Clear (open_trials (length t) 0 (pos capacity))
    → Keeps line [] → Input t₀ line input bytes → bytes ≡ output input
every_input r o clear k i = input_told i [] k (opened (pos capacity)) none (o.accepted clear).1
