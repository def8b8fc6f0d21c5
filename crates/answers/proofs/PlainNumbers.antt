-- Theorems on specs/PlainNumbers.
use Rattle.std.specs.Prelude.{◌≡◌, refl, ◌≢◌, List, [], ◌∷◌, ℕ, suc, ◌*◌, ◌≤◌, length, take, drop, ℤ, pos, negsuc, Result, Ok, Err}
use Rattle.std.proofs.Common.{ap, sym, ◌∙◌, subst, add-one, arith, length-append}
use Rattle.std.proofs.Math.Option.{Option}
use Rattle.plain.specs.Book.{State, Call, query, listing, report, Answer, refused, live, listed, reported, step, envelope, piece_words}
use Rattle.dynamic.specs.OfferTree.{Held}
use Rattle.table.specs.Fields.{envelope_root_word, most_nodes}
use Rattle.table.specs.Words.{Words, word, up_to, up_to_in}
use Rattle.table.specs.Items.{Item}
use Rattle.form.specs.Form.{Book, Form}
use Rattle.causes.specs.declared.Declined.{Declined}
use Rattle.causes.specs.Numbers.{number_of as cause_told}
use Rattle.promises.specs.declared.Update.{Update}
use Rattle.promises.specs.declared.Found.{Found}
use Rattle.promises.specs.Promises.{part_of, counted_by, update_told, count_told, update_answer, found_answer, listing_answer, report_answer}
use Rattle.promises.specs.Numbered.{numbered}
use Rattle.reading.specs.Promises.{listed_at, root_pieces, PlaceOf, at_piece, past_last, Before}
use Rattle.reading.specs.PartReading.{none_past}
use Rattle.answers.specs.Promises.{first_or, update_number, found_number, count_number, place_number, piece_of, over}
use Rattle.answers.specs.Promises.{Updated, Queried, Listing, Report, Steps, Pieced, place_of}
use Rattle.answers.specs.PlainNumbers.{ReadTo, Stands, answer_number, begun, many, onward, place_is}

-- a count, or a refusal's number below 0
counted_number : (f : ℕ → Answer) → ((n : ℕ) → answer_number (f n) ≡ pos n) → (c : ℤ) (values : List ℤ) (a : Answer) → a ≢ refused 0 →
    counted_by f c values ≡ a → first_or c values ≡ answer_number a
counted_number f g (pos n) [] a d e = ap answer_number e
counted_number f g (negsuc n) [] a d e = absurd (d (sym e))
counted_number f g c (pos n ∷ more) a d e = sym (g n) ∙ ap answer_number e
counted_number f g c (negsuc n ∷ more) a d e = absurd (d (sym e))

pub update_number_lem : (u : Result Update Declined) (a : Answer) → a ≢ refused 0 → update_answer u ≡ a → update_number u ≡ answer_number a
update_number_lem u = counted_number live (λ n. refl) (update_told u).number (update_told u).values

pub found_number_lem : (f : Result Found Declined) (a : Answer) → a ≢ refused 0 → found_answer f ≡ a → found_number f ≡ answer_number a
found_number_lem (Ok f) a d e = ap answer_number e
found_number_lem (Err c) a d e = counted_number live (λ n. refl) (cause_told c) [] a d e

pub listed_number_lem : (l : Result ℤ Declined) (out : List ℤ) (a : Answer) → a ≢ refused 0 → listing_answer l out ≡ a → count_number l ≡ answer_number a
listed_number_lem l out = counted_number (λ n. listed n (take (3 * n) out)) (λ n. refl) (count_told l).number (count_told l).values

pub reported_number_lem : (m : Result ℤ Declined) (out : List ℤ) (a : Answer) → a ≢ refused 0 → report_answer m out ≡ a → count_number m ≡ answer_number a
reported_number_lem m out = counted_number (λ n. reported n (take (3 * n) out)) (λ n. refl) (count_told m).number (count_told m).values

pub updated_plainly :
    {start : ℕ} {t : List ℤ} (plain : State) (held : Option (Held Item)) → Form (part_of t start) plain held → {k : Call} {t' counts counts' : List ℤ} {r : ℤ} →
    Updated k start t t' counts counts' r → 3 ≤ length counts → r ≡ answer_number (step plain k).answer
updated_plainly plain held form {k} p h =
    let q = p.lent.long h in
    q.2.number ∙ update_number_lem q.0 _ (numbered plain k) (q.1.follows plain held form).answers

module _ {start : ℕ} {t : List ℤ} (plain : State) (held : Option (Held Item)) (book : Book (part_of t start) plain held) where
  pub queried_plainly :
      {load : ℤ} {found found' : List ℤ} {r : ℤ} → Queried load start t found found' r → 3 ≤ length found → r ≡ answer_number (step plain (query load)).answer
  queried_plainly {load} p h =
      let q = p.long h in
      q.2.number ∙ found_number_lem q.0 _ (numbered plain (query load)) (q.1.answers plain held book)

  pub listing_plainly : {out out' : List ℤ} {r : ℤ} → Listing start t out out' r → r ≡ answer_number (step plain (listing (length out))).answer
  listing_plainly {out} {out'} p =
      p.number ∙ listed_number_lem p.listed out' _ (numbered plain (listing (length out))) (p.lists.answers plain held book)

  pub report_plainly :
      {load price : ℤ} {out out' : List ℤ} {r : ℤ} → Report load price start t out out' r →
      r ≡ answer_number (step plain (report load price (length out))).answer
  report_plainly {load} {price} {out} {out'} p =
      p.number ∙ reported_number_lem p.reported out' _ (numbered plain (report load price (length out))) (p.reports.answers plain held book)

module _ {start : ℕ} {t : List ℤ} (plain : State) (held : Option (Held Item)) (book : Book (part_of t start) plain held) where
  stood : (n m place : ℕ) {r : ℤ} → place ≤ 4_294_967_295 → r ≡ place_number place (listed_at plain.offers m) → Before (part_of t start) n place →
      Stands start t n r
  stood n m place h e b =
      let k = e ∙ place_is place (take 3 (drop (3 * m) (piece_words (envelope plain.offers)))) in
      record { place = place; number = k; back = ap place_of k ∙ up_to_in 4_294_967_295 place h; before = b }

  stands : {n : ℕ} {r : ℤ} → ReadTo start t n r → Stands start t n r
  stands (begun {r} b) =
      stood 0 0 b.place (omega (arith, b.small))
      (b.number ∙ ap (place_number b.place) (b.hands.answers 0 b.starts.before plain held book)) b.starts.before
  stands (onward {n} {r} {r'} m p h) =
      let k = stands m in
      let q = p.long h in
      let s = q.0 in
      let j : Steps start t k.place s = subst (λ (i : ℕ). Steps start t i s) k.back q.1 in
      stood (suc n) n s.next (omega (arith, j.small))
      (q.2.number ∙ ap (place_number s.next) (j.hands.answers n k.before plain held book))
      (subst (λ (i : ℕ). Before (part_of t start) i s.next) (add-one n) (j.moves.on n k.before))

  -- after n steps the next writes the n-th three words of the plain listing, and none past the last
  pub piece_plainly : {n : ℕ} {r r' : ℤ} {out out' : List ℤ} → ReadTo start t n r → Pieced start t r out out' r' → 3 ≤ length out
      → out' ≡ over (piece_of (listed_at plain.offers n)) out
  piece_plainly {n} {out} m p h =
      let k = stands m in
      let q = p.long h in
      let j : Steps start t k.place q.0 = subst (λ (i : ℕ). Steps start t i q.0) k.back q.1 in
      q.2.words ∙ ap (λ x. over (piece_of x) out) (j.hands.answers n k.before plain held book)

  -- the place is 0 past the last piece, and there alone
  pub place_ends : {n : ℕ} {r : ℤ} → ReadTo start t n r → length (envelope plain.offers) ≤ n → r ≡ pos 0
  place_ends {n} m h = let k = stands m in go k.number (k.before.stands plain held book)
    where
      go : {p : ℕ} {r : ℤ} → r ≡ pos p → PlaceOf (root_pieces held) n p → r ≡ pos 0
      go e (at_piece k) = absurd (omega (arith, h, many book, ap length k.split, length-append k.seen (k.here ∷ k.ahead), k.count))
      go e (past_last l d) = e ∙ ap pos d

  pub place_goes_on : {n : ℕ} {r : ℤ} → ReadTo start t n r → r ≡ pos 0 → length (envelope plain.offers) ≤ n
  place_goes_on {n} m e =
      let k = stands m in
      let z : k.place ≡ 0 = sym k.back ∙ ap place_of e ∙ up_to_in 4_294_967_295 0 (omega arith) in
      let w : Words = part_of t start in
      omega (arith, many book, none_past {w = w} {root = up_to most_nodes (word w envelope_root_word)} refl book (omega arith) k.before)
