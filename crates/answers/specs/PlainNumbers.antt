-- On tables that pass the check each number, and what goes with it, is the plain book's.
use Rattle.std.specs.Prelude.{◌≡◌, refl, List, [], ◌∷◌, ℕ, suc, ◌≤◌, length, drop, ℤ, pos, negsuc, neg_ℤ, Float, Result, Ok, Err}
use Rattle.std.proofs.Common.{ap, ◌∙◌, arith}
use Rattle.std.proofs.Math.Option.{Option}
use Rattle.std.proofs.lemmas.List.{length-map}
use Rattle.plain.specs.Causes.{Cause, cause_number, FirstOf, Clear}
use Rattle.plain.specs.Book.{State, query, Answer, refused, live, found, listed, reported, step, envelope}
use Rattle.trees.specs.Tree.{height}
use Rattle.meeting.specs.Machine.{meet}
use Rattle.dynamic.specs.OfferTree.{Held}
use Rattle.table.specs.Words.{Words}
use Rattle.table.specs.Items.{Item, offer_of}
use Rattle.pieces.specs.Pieces.{items}
use Rattle.form.specs.Form.{Book, number_of}
use Rattle.causes.specs.declared.Declined.{Declined}
use Rattle.causes.specs.Numbers.{number_of as cause_told}
use Rattle.promises.specs.declared.Found.{Found}
use Rattle.promises.specs.Promises.{part_of, counted, found_answer}
use Rattle.meet_books.specs.declared.Meeting.{Meeting}
use Rattle.meet_books.specs.Promises.{meet_trials, Found as MeetsAt}
use Rattle.chart.specs.Promises.{plain_mark}
use Rattle.vouchers.specs.Span.{due}
use Rattle.vouchers.proofs.Span.{only_due}
use Rattle.reading.specs.Promises.{piece_of as handed_of, root_pieces, Before}
use Rattle.reading.specs.PartReading.{listed_is}
use Rattle.answers.specs.Promises.{refusal, meet_number, mark_number, place_number}
use Rattle.answers.specs.Promises.{found_of, met_of, over}
use Rattle.answers.specs.Promises.{Queried, MetBooks, MarkAsked, Vouchered, Begun, Pieced, place_of}

-- an answer of the plain book as one number
abbrev pub answer_number : Answer → ℤ
answer_number (refused n) = neg_ℤ (pos n)
answer_number (live n) = pos n
answer_number (found number price second) = number
answer_number (listed n ws) = pos n
answer_number (reported n ws) = pos n

pub found_words_lem : (f : Result Found Declined) (number price second : ℤ) → found_answer f ≡ found number price second →
    (probes : ℤ) × (found_of f ≡ price ∷ second ∷ probes ∷ [])
found_words_lem (Ok f) number price second e =
    let a : f.price ≡ price = cc in
    let b : f.second ≡ second = cc in
    (f.probes, λ i. a i ∷ b i ∷ f.probes ∷ [])
found_words_lem (Err c) number price second e = absurd (not_found (cause_told c) e)
  where
    not_found : (z : ℤ) → counted refused z ≡ found number price second → ⊥
    not_found (pos m) d = let z : ◌≡◌ {A = ℕ} 0 1 = cc in omega arith
    not_found (negsuc m) d = let z : ◌≡◌ {A = ℕ} 0 1 = cc in omega arith

module _ {start : ℕ} {t : List ℤ} (plain : State) (held : Option (Held Item)) (book : Book (part_of t start) plain held) where
  -- .. and the words: the price, the second offer's number and the probes, over the first three
  pub queried_words :
      {load number price second : ℤ} {out out' : List ℤ} {r : ℤ} → Queried load start t out out' r → 3 ≤ length out →
      (step plain (query load)).answer ≡ found number price second → (probes : ℤ) × (out' ≡ price ∷ second ∷ probes ∷ drop 3 out)
  queried_words {number = n} {price} {second} {out} p h e =
      let q = p.long h in
      let w = found_words_lem q.0 n price second (q.1.answers plain held book ∙ e) in
      (w.0, q.2.words ∙ ap (λ (vs : List ℤ). over vs out) w.1)

  pub marked_plainly : {index : ℤ} {mark mark' : List Float} {r : ℤ} → MarkAsked start t index mark mark' r → 2 ≤ length mark
      → (r ≡ mark_number (plain_mark plain.offers index).number (plain_mark plain.offers index).values)
      × (mark' ≡ over (plain_mark plain.offers index).values mark)
  marked_plainly {mark} p h =
      let q = p.long h in
      let e = q.1.answers plain held book in
      (q.2.number ∙ ap (λ x. mark_number x.number x.values) e, q.2.words ∙ ap (λ x. over x.values mark) e)

-- a voucher needs no book
pub vouchered_plainly : (price : ℤ) {units units' : List ℤ} {r : ℤ} → Vouchered price units units' r → 1 ≤ length units
    → (r ≡ refusal (due price).number) × (units' ≡ over (due price).values units)
vouchered_plainly price {units} p h =
    let q = p.long h in
    let e = only_due price q.0 q.1 in
    (q.2.number ∙ ap (λ x. refusal x.number) e, q.2.words ∙ ap (λ x. over x.values units) e)

-- ---- the meeting of two books

-- u's offer, and behind it v's, the steps and the heights, of the meeting that is there
pub record MetAt (plain plain' : State) (held held' : Option (Held Item)) (out out' : List ℤ) (r : ℤ) : Type 0 where
  pub m : Result Meeting Declined
  pub found : MeetsAt plain plain' held held' m
  pub number : r ≡ number_of found.bridged.u
  pub words :
      out' ≡ number_of found.bridged.v ∷ pos (meet items found.left found.right).steps ∷ pos (height found.left) ∷ pos (height found.right)
      ∷ drop 4 out

module _ {t t' : List ℤ} {start start' : ℕ} (plain plain' : State) (held held' : Option (Held Item))
    (book : Book (part_of t start) plain held) (book' : Book (part_of t' start') plain' held')
    {out out' : List ℤ} {r : ℤ} (p : MetBooks t start t' start' out out' r) (room : 4 ≤ length out) where
  pub met_declined : (z : Cause) → FirstOf (meet_trials plain.offers plain'.offers) z → (r ≡ neg_ℤ (pos (cause_number z))) × (out' ≡ out)
  met_declined z f =
      let q = p.long room in
      let e = (q.1.answers plain plain' held held' book book').declined z f in
      (q.2.number ∙ ap meet_number e, q.2.words ∙ ap (λ x. over (met_of x) out) e)

  pub met_plainly : Clear (meet_trials plain.offers plain'.offers) → MetAt plain plain' held held' out out' r
  met_plainly k =
      let q = p.long room in
      let f = (q.1.answers plain plain' held held' book book').accepted k in
      record { m = q.0; found = f; number = q.2.number ∙ ap meet_number f.answer; words = q.2.words ∙ ap (λ x. over (met_of x) out) f.answer }

-- ---- a reading

-- the word is the place to which a reading has come after n steps
pub data ReadTo (start : ℕ) (t : List ℤ) : ℕ → ℤ → Type 0 where
  begun : {r : ℤ} → Begun start t r → ReadTo start t 0 r
  onward : {n : ℕ} {r r' : ℤ} {out out' : List ℤ} → ReadTo start t n r → Pieced start t r out out' r' → 3 ≤ length out → ReadTo start t (suc n) r'

-- no listing hands out a refusal
pub place_is : (p : ℕ) (ws : List ℤ) → place_number p (handed_of ws) ≡ pos p
place_is p [] = refl
place_is p (a ∷ []) = refl
place_is p (a ∷ b ∷ []) = refl
place_is p (a ∷ b ∷ d ∷ ws) = refl

-- as many pieces as are listed
pub many : {w : Words} {plain : State} {held : Option (Held Item)} → Book w plain held → length (envelope plain.offers) ≡ length (root_pieces held)
many {held} book = ap length (listed_is book) ∙ length-map (root_pieces held) offer_of

-- so it stands at a place before piece n
pub record Stands (start : ℕ) (t : List ℤ) (n : ℕ) (r : ℤ) : Type 0 where
  pub place : ℕ
  pub number : r ≡ pos place
  pub back : place_of r ≡ place
  pub before : Before (part_of t start) n place
