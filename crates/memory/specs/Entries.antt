-- The ring of entries read and written, word by word. A new entry comes behind the last one: the 255 entries before it all stand at other places.
use Rattle.std.specs.Prelude.{◌≡◌, refl, ◌≢◌, List, [], ◌∷◌, ℕ, zero, suc, ◌+◌, ◌*◌, ◌-◌, ◌%◌, ◌≤◌, ◌<◌, min, length, take, ℤ, pos}
use Rattle.std.proofs.Common.{sym, ◌∙◌, ap, subst, arith, length-take, SFits}
use Rattle.std.proofs.Math.Decide.{dec_le}
use Rattle.std.specs.Int.{w64}
use Rattle.plain.specs.Book.{Undo, most_remembered}
use Rattle.table.specs.Fields.{last_entry_word, remembered_word}
use Rattle.table.specs.Words.{Words, word, word_out, wset, wset_length, wset_same, wset_other, up_to, up_to_in, up_to_most}
use Rattle.table.specs.Layout.{cap, slots_end, part_end}
use Rattle.form.specs.Memory.{EntryIn, posting, withdrawing, EntriesIn, Ring, entry_at, earlier, earlier_place, withdrawn}
use Rattle.form.specs.Memory.{done_word, entry_number_word, entry_rate_word, entry_base_word}
use Rattle.form.specs.Local.{alike_cap}
use Rattle.form.specs.There.{cap_there}
use Rattle.memory.specs.Ring.{Reads, LastOf, OnlyMemory, Entered, of_post, of_withdrawal, Emptying, Remembering, Forgetting}
use Rattle.memory.specs.declared.Entry.{Entry}

-- ---- places

abbrev pub last_place : ℕ
last_place = 255

-- p is the place behind place i
pub record Behind (i p : ℕ) : Type 0 where
  pub place : p < most_remembered
  pub back : i < most_remembered → earlier p ≡ i

pub behind_round : (i : ℕ) → Behind i ((i + 1) % most_remembered)
behind_round i = record { place = omega arith; back = back ((i + 1) % most_remembered) refl }
  where
    back : (p : ℕ) → p ≡ (i + 1) % most_remembered → i < most_remembered → earlier p ≡ i
    back zero e h = omega arith
    back (suc p) e h = omega arith

-- going back from place j, place p comes after d steps
data Back (p j d : ℕ) : Type 0 where
  straight : j ≡ p + d → Back p j d
  round : j + most_remembered ≡ p + d → Back p j d

back_all : (p : ℕ) → p < most_remembered → Back p (earlier p) last_place
back_all zero h = straight refl
back_all (suc p) h = round (omega arith)

back_step : {p d : ℕ} (j : ℕ) → Back p j (suc d) → Back p (earlier j) d
back_step zero (straight e) = absurd (omega arith)
back_step zero (round e) = straight (omega arith)
back_step (suc j) (straight e) = straight (omega arith)
back_step (suc j) (round e) = round (omega arith)

back_apart : {p j d : ℕ} → suc d < most_remembered → Back p j (suc d) → j ≢ p
back_apart h (straight e) q = omega arith
back_apart h (round e) q = omega arith

-- ---- entries whose words stay

entry_kept : {w w' : Words} {u : Undo} (i : ℕ) → cap w' ≡ cap w → ((k : ℕ) → k < 4 → word w' (entry_at w i + k) ≡ word w (entry_at w i + k)) →
    EntryIn w (entry_at w i) u → EntryIn w' (entry_at w' i) u
entry_kept {w} {w'} i room same e = go e
  where
    at : (k : ℕ) → k < 4 → word w' (entry_at w' i + k) ≡ word w (entry_at w i + k)
    at k h = ap (λ (c : ℕ). word w' (slots_end c + 4 * i + k)) room ∙ same k h

    go : {u : Undo} → EntryIn w (entry_at w i) u → EntryIn w' (entry_at w' i) u
    go (posting d n) = posting (at done_word (omega arith) ∙ d) (at entry_number_word (omega arith) ∙ n)
    go (withdrawing d n r b) =
        withdrawing (at done_word (omega arith) ∙ d) (at entry_number_word (omega arith) ∙ n) (at entry_rate_word (omega arith) ∙ r)
        (at entry_base_word (omega arith) ∙ b)

-- ---- what is read

pub count_most : {k : ℕ} (w : Words) → k ≡ up_to most_remembered (word w remembered_word) → k ≤ most_remembered
count_most w q = omega (arith, q, up_to_most most_remembered (word w remembered_word))

count_read : {w : Words} {us : List Undo} → Ring w us → up_to most_remembered (word w remembered_word) ≡ length us
count_read {us = us} r = ap (up_to most_remembered) r.count_word ∙ up_to_in most_remembered (length us) r.few

last_read : {w : Words} {us : List Undo} (r : Ring w us) → up_to last_place (word w last_entry_word) ≡ r.last
last_read r = ap (up_to last_place) r.last_word ∙ up_to_in last_place r.last (omega (arith, r.last_place))

pub last_none : {w : Words} {n : ℕ} {e : Entry} → n ≡ up_to most_remembered (word w remembered_word) → n < 1 → e.done ≡ 0 →
    SFits w64 e.number × SFits w64 e.rate × SFits w64 e.base → LastOf w e
last_none {w} {n} {e} q h z f = record { reads = go; fits = f }
  where
    go : (us : List Undo) → Ring w us → Reads us e
    go [] r = z
    go (u ∷ us) r = absurd (omega (arith, q, h, count_read r))

pub last_some :
    {w : Words} {n i at : ℕ} {e : Entry} → n ≡ up_to most_remembered (word w remembered_word) → 1 ≤ n → i ≡ up_to last_place (word w last_entry_word) →
    at ≡ entry_at w i → e.done ≡ up_to withdrawn (word w (at + done_word)) → e.number ≡ word w (at + entry_number_word) →
    e.rate ≡ word w (at + entry_rate_word) → e.base ≡ word w (at + entry_base_word) →
    SFits w64 e.number × SFits w64 e.rate × SFits w64 e.base → LastOf w e
last_some {w} {n} {i} {at} {e} q h qi qa qd qn qr qb f = record { reads = go; fits = f }
  where
    done : {k : ℕ} → k ≤ withdrawn → word w (at + done_word) ≡ pos k → e.done ≡ k
    done {k} l d = qd ∙ ap (up_to withdrawn) d ∙ up_to_in withdrawn k l

    read : {u : Undo} (us : List Undo) → EntryIn w at u → Reads (u ∷ us) e
    read us (posting d x) = (done (omega arith) d, qn ∙ x)
    read us (withdrawing d x y z) = (done (omega arith) d, λ j. record { number = (qn ∙ x) j; rate = (qr ∙ y) j; base = (qb ∙ z) j })

    here : {us : List Undo} (r : Ring w us) → entry_at w r.last ≡ at
    here r = omega (arith, qa, qi, last_read r)

    go : (us : List Undo) → Ring w us → Reads us e
    go [] r = absurd (omega (arith, q, h, count_read r))
    go (u ∷ us) r = read us (subst (λ (j : ℕ). EntryIn w j u) (here r) r.entries.0)

-- ---- one word written

record Written (i : ℕ) (z : ℤ) (w w' : Words) : Type 0 where
  long : length w' ≡ length w
  same : i < length w → word w' i ≡ z
  other : (j : ℕ) → j ≢ i → word w' j ≡ word w j

written : (w : Words) (i : ℕ) (z : ℤ) {w' : Words} → w' ≡ wset w i z → Written i z w w'
written w i z e =
    record {
      long = ap length e ∙ wset_length w i z;
      same = λ h. ap (λ (v : Words). word v i) e ∙ wset_same w i z h;
      other = λ j h. ap (λ (v : Words). word v j) e ∙ wset_other w i j z h;
    }

-- ---- the header's two words: the last entry's place, and how many there are

module _ {w w₁ w₂ : Words} {p m : ℕ} (first : Written last_entry_word (pos p) w w₁) (second : Written remembered_word (pos m) w₁ w₂) where
  headed_rest : (j : ℕ) → j ≢ last_entry_word → j ≢ remembered_word → word w₂ j ≡ word w j
  headed_rest j d f = second.other j f ∙ first.other j d

  headed_last : remembered_word < length w → word w₂ last_entry_word ≡ pos p
  headed_last h = second.other last_entry_word (omega arith) ∙ first.same (omega (arith, h))

  headed_count : remembered_word < length w → word w₂ remembered_word ≡ pos m
  headed_count h = second.same (omega (arith, h, first.long))

  headed_only : OnlyMemory w w₂
  headed_only =
      record {
        offers = record {
          long = second.long ∙ first.long;
          header = λ j h. headed_rest j (omega arith) (omega arith);
          slots = λ j l h. headed_rest j (omega arith) (omega arith);
        };
        beyond = λ j h. headed_rest j (omega arith) (omega arith);
      }

-- no entry

pub emptying : {w w₁ w₂ : Words} → w₁ ≡ wset w last_entry_word (pos last_place) → w₂ ≡ wset w₁ remembered_word (pos 0) → Emptying w w₂
emptying {w} {w₁} e₁ e₂ =
    let s₁ = written w last_entry_word (pos last_place) e₁ in
    let s₂ = written w₁ remembered_word (pos 0) e₂ in
    record {
      only = headed_only s₁ s₂;
      ring = λ low.
          let room = (cap_there w refl low).room in
          record {
            last = last_place;
            last_place = omega arith;
            last_word = headed_last s₁ s₂ (omega (arith, room));
            count_word = headed_count s₁ s₂ (omega (arith, room));
            few = omega arith;
            entries = tt;
          };
    }

-- ---- one entry less

pub forgetting : {w w₁ w₂ : Words} {i p n m : ℕ} → i ≡ up_to last_place (word w last_entry_word) → p ≡ earlier i →
    n ≡ up_to most_remembered (word w remembered_word) → m ≡ n - 1 → w₁ ≡ wset w last_entry_word (pos p) → w₂ ≡ wset w₁ remembered_word (pos m) →
    Forgetting w w₂
forgetting {w} {w₁} {w₂} {i} {p} {n} {m} qi qp qn qm e₁ e₂ = record { only = headed_only s₁ s₂; ring = ring }
  where
    s₁ : Written last_entry_word (pos p) w w₁
    s₁ = written w last_entry_word (pos p) e₁

    s₂ : Written remembered_word (pos m) w₁ w₂
    s₂ = written w₁ remembered_word (pos m) e₂

    entries : (j : ℕ) (us : List Undo) → EntriesIn w j us → EntriesIn w₂ j us
    entries j [] es = tt
    entries j (u ∷ us) (e, es) = (
      entry_kept j (alike_cap refl (headed_only s₁ s₂).offers) (λ k h. headed_rest s₁ s₂ (entry_at w j + k) (omega arith) (omega arith)) e,
      entries (earlier j) us es,
    )

    room : {u : Undo} {us : List Undo} → Ring w (u ∷ us) → remembered_word < length w
    room {us = us} r = go (dec_le (length w) remembered_word)
      where
        go : Dec (length w ≤ remembered_word) → remembered_word < length w
        go (yes h) = absurd (omega (arith, count_read r, ap (up_to most_remembered) (word_out w remembered_word h), up_to_in most_remembered 0 (omega arith)))
        go (no h) = omega arith

    ring : (u : Undo) (us : List Undo) → Ring w (u ∷ us) → Ring w₂ us
    ring u us r =
        let back : p ≡ earlier r.last = qp ∙ ap earlier (qi ∙ last_read r) in
        record {
          last = p;
          last_place = omega (arith, back, earlier_place r.last r.last_place);
          last_word = headed_last s₁ s₂ (room r);
          count_word = headed_count s₁ s₂ (room r) ∙ ap pos (omega (arith, qm, qn, count_read r));
          few = omega (arith, r.few);
          entries = entries p us (subst (λ (j : ℕ). EntriesIn w j us) (sym back) r.entries.1);
        }

-- ---- one entry more

-- the words of an entry, the place of the last one and the count are written
record Wrote (at done : ℕ) (n r b : ℤ) (p m : ℕ) (w w' : Words) : Type 0 where
  long : length w' ≡ length w
  rest : (j : ℕ) → j ≢ last_entry_word → j ≢ remembered_word → ((k : ℕ) → k < 4 → j ≢ at + k) → word w' j ≡ word w j
  last : at + 4 ≤ length w → word w' last_entry_word ≡ pos p
  count : at + 4 ≤ length w → word w' remembered_word ≡ pos m
  done_word : at + 4 ≤ length w → word w' (at + done_word) ≡ pos done
  number : at + 4 ≤ length w → word w' (at + entry_number_word) ≡ n
  rate : at + 4 ≤ length w → word w' (at + entry_rate_word) ≡ r
  base : at + 4 ≤ length w → word w' (at + entry_base_word) ≡ b

wrote : {w w₁ w₂ w₃ w₄ w₅ w₆ : Words} {at done p m : ℕ} {n r b : ℤ} → 64 ≤ at → w₁ ≡ wset w (at + done_word) (pos done) →
    w₂ ≡ wset w₁ (at + entry_number_word) n → w₃ ≡ wset w₂ (at + entry_rate_word) r → w₄ ≡ wset w₃ (at + entry_base_word) b →
    w₅ ≡ wset w₄ last_entry_word (pos p) → w₆ ≡ wset w₅ remembered_word (pos m) → Wrote at done n r b p m w w₆
wrote {w} {w₁} {w₂} {w₃} {w₄} {w₅} {w₆} {at} {done} {p} {m} {n} {r} {b} low e₁ e₂ e₃ e₄ e₅ e₆ =
    let s₁ = written w (at + done_word) (pos done) e₁ in
    let s₂ = written w₁ (at + entry_number_word) n e₂ in
    let s₃ = written w₂ (at + entry_rate_word) r e₃ in
    let s₄ = written w₃ (at + entry_base_word) b e₄ in
    let s₅ = written w₄ last_entry_word (pos p) e₅ in
    let s₆ = written w₅ remembered_word (pos m) e₆ in
    record {
      long = s₆.long ∙ s₅.long ∙ s₄.long ∙ s₃.long ∙ s₂.long ∙ s₁.long;
      rest = λ j d f a. s₆.other j f ∙ s₅.other j d ∙ s₄.other j (a entry_base_word (omega arith)) ∙ s₃.other j (a entry_rate_word (omega arith))
          ∙ s₂.other j (a entry_number_word (omega arith)) ∙ s₁.other j (a done_word (omega arith));
      last = λ h. s₆.other last_entry_word (omega arith) ∙ s₅.same (omega arith);
      count = λ h. s₆.same (omega arith);
      done_word = λ h. s₆.other (at + done_word) (omega arith) ∙ s₅.other (at + done_word) (omega arith) ∙ s₄.other (at + done_word) (omega arith)
          ∙ s₃.other (at + done_word) (omega arith) ∙ s₂.other (at + done_word) (omega arith) ∙ s₁.same (omega arith);
      number = λ h. s₆.other (at + entry_number_word) (omega arith) ∙ s₅.other (at + entry_number_word) (omega arith)
          ∙ s₄.other (at + entry_number_word) (omega arith) ∙ s₃.other (at + entry_number_word) (omega arith) ∙ s₂.same (omega arith);
      rate = λ h. s₆.other (at + entry_rate_word) (omega arith) ∙ s₅.other (at + entry_rate_word) (omega arith)
          ∙ s₄.other (at + entry_rate_word) (omega arith) ∙ s₃.same (omega arith);
      base = λ h. s₆.other (at + entry_base_word) (omega arith) ∙ s₅.other (at + entry_base_word) (omega arith) ∙ s₄.same (omega arith);
    }

-- the words of an entry are one
entered_in :
    {w : Words} {u : Undo} {done : ℕ} {n r b : ℤ} (at : ℕ) → Entered u done n r b → word w (at + done_word) ≡ pos done → word w (at + entry_number_word) ≡ n →
    word w (at + entry_rate_word) ≡ r → word w (at + entry_base_word) ≡ b → EntryIn w at u
entered_in at of_post d x y z = posting d x
entered_in at of_withdrawal d x y z = withdrawing d x y z

module _ {w w' : Words} {done p m : ℕ} {n r b : ℤ} (place : p < most_remembered) (x : Wrote (entry_at w p) done n r b p m w w') where
  wrote_only : OnlyMemory w w'
  wrote_only =
      record {
        offers = record {
          long = x.long;
          header = λ j h. x.rest j (omega arith) (omega arith) (λ k l e. omega arith);
          slots = λ j l h. x.rest j (omega arith) (omega arith) (λ k l e. omega arith);
        };
        beyond = λ j h. x.rest j (omega arith) (omega arith) (λ k l e. omega arith);
      }

  -- the new entry
  wrote_entry : {u : Undo} → Entered u done n r b → part_end (cap w) ≤ length w → EntryIn w' (entry_at w' p) u
  wrote_entry {u} d h =
      let fits : entry_at w p + 4 ≤ length w = omega arith in
      subst (λ (c : ℕ). EntryIn w' (slots_end c + 4 * p) u) (sym (alike_cap refl wrote_only.offers))
      (entered_in (entry_at w p) d (x.done_word fits) (x.number fits) (x.rate fits) (x.base fits))

  -- d entries back from place j, where place p comes after d steps
  wrote_before : (d j : ℕ) (us : List Undo) → d < most_remembered → Back p j d → EntriesIn w j us → EntriesIn w' j (take d us)
  wrote_before zero j us h a es = tt
  wrote_before (suc d) j [] h a es = tt
  wrote_before (suc d) j (u ∷ us) h a (e, es) =
      let apart = back_apart h a in (
        entry_kept j (alike_cap refl wrote_only.offers) (λ k l. x.rest (entry_at w j + k) (omega arith) (omega arith) (λ k' l' q. omega arith)) e,
        wrote_before d (earlier j) us (omega arith) (back_step j a) es,
      )

pub remembering :
    {w w₁ w₂ w₃ w₄ w₅ w₆ : Words} {i p k m at done : ℕ} {n r b : ℤ} → i ≡ up_to last_place (word w last_entry_word) → Behind i p →
    k ≡ up_to most_remembered (word w remembered_word) → m ≡ min most_remembered (k + 1) → at ≡ entry_at w p →
    w₁ ≡ wset w (at + done_word) (pos done) → w₂ ≡ wset w₁ (at + entry_number_word) n → w₃ ≡ wset w₂ (at + entry_rate_word) r →
    w₄ ≡ wset w₃ (at + entry_base_word) b → w₅ ≡ wset w₄ last_entry_word (pos p) → w₆ ≡ wset w₅ remembered_word (pos m) → Remembering done n r b w w₆
remembering {w} {w₆ = w₆} {i} {p} {k} {m} {at = at} {done} {n} {r} {b} qi qp qk qm qa e₁ e₂ e₃ e₄ e₅ e₆ =
    record { only = wrote_only place x; ring = ring }
  where
    place : p < most_remembered
    place = qp.place

    here : at ≡ entry_at w p
    here = omega (arith, qa)

    x : Wrote (entry_at w p) done n r b p m w w₆
    x = subst (λ (j : ℕ). Wrote j done n r b p m w w₆) here (wrote (omega (arith, here)) e₁ e₂ e₃ e₄ e₅ e₆)

    ring : (u : Undo) (us : List Undo) → Entered u done n r b → 1 ≤ cap w → Ring w us → Ring w₆ (u ∷ take last_place us)
    ring u us d low g =
        let room = (cap_there w refl low).room in
        let back : earlier p ≡ g.last = qp.back (omega (arith, qi, last_read g, g.last_place)) ∙ qi ∙ last_read g in
        record {
          last = p;
          last_place = place;
          last_word = x.last (omega (arith, room, place));
          count_word = x.count (omega (arith, room, place)) ∙ ap pos (omega (arith, qm, qk, count_read g, length-take last_place us));
          few = omega (arith, length-take last_place us);
          entries = (
            wrote_entry place x d room,
            wrote_before place x last_place (earlier p) us (omega arith) (back_all p place)
                (subst (λ (j : ℕ). EntriesIn w j us) (sym back) g.entries),
          );
        }
