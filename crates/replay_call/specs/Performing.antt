-- How each kind of call is performed: the words of its answer are the encoding of the very value that the call returned.
use Rattle.std.specs.Prelude.{◌≡◌, refl, List, ◌++◌, ℕ, ◌+◌, ◌-◌, ◌≤◌, length, take, drop, ℤ, Result, Ok, Err}
use Rattle.std.proofs.Common.{sym, ◌∙◌, ap, arith, length-append, length-drop, take_at, drop_at, drop-drop, length-take-le}
use Rattle.plain.specs.Book.{Call, post, withdraw, query, listing, take_back, report}
use Rattle.causes.specs.declared.Declined.{Declined}
use Rattle.promises.specs.declared.Update.{Update}
use Rattle.promises.specs.declared.Found.{Found}
use Rattle.promises.specs.Promises.{Updates, Queries, Lists, Reports, update_answer, found_answer, listing_answer, report_answer}
use Rattle.history.specs.History.{Changes, by_update, by_query, by_listing, by_report}
use Rattle.replay_words.specs.Encoding.{stretch, update_words, found_words, count_words}
use Rattle.replay_call.specs.OneCall.{Performed}

-- ---- the kinds of calls

update_five : (u : Result Update Declined) → length (update_words u) ≡ 5
update_five (Ok u) = refl
update_five (Err c) = refl

found_five : (f : Result Found Declined) → length (found_words f) ≡ 5
found_five (Ok f) = refl
found_five (Err c) = refl

count_five : (r : Result ℤ Declined) → length (count_words r) ≡ 5
count_five (Ok m) = refl
count_five (Err c) = refl

module _ (ws : List ℤ) {ws' : List ℤ} (five : List ℤ) (n : length five ≡ 5) (h : 5 ≤ length ws) (e : ws' ≡ five ++ drop 5 ws) where
  five_take : take 5 ws' ≡ five
  five_take = ap (take 5) e ∙ take_at five (drop 5 ws) 5 n

  five_drop : drop 5 ws' ≡ drop 5 ws
  five_drop = ap (drop 5) e ∙ drop_at five (drop 5 ws) 5 n

  five_long : length ws' ≡ length ws
  five_long = ap length e ∙ length-append five (drop 5 ws) ∙ omega (arith, n, length-drop 5 ws)

module _ {start : ℕ} {t : List ℤ} (ws : List ℤ) {ws' : List ℤ} (h : 5 ≤ length ws) where
  -- a post, a withdrawal or a take-back
  pub changes : {k : Call} {t' : List ℤ} {u : Result Update Declined} → Changes k → stretch k ≡ 5 → Updates k start t t' u → ws' ≡ update_words u ++ drop 5 ws →
      Performed k start t t' ws ws'
  changes {k} {t'} {u} c five p e =
      record {
        answer = update_answer u;
        happens = by_update c u p refl;
        tells = five_take ws (update_words u) (update_five u) h e;
        long = five_long ws (update_words u) (update_five u) h e;
        later = rw five (five_drop ws (update_words u) (update_five u) h e);
      }

  pub asks : {f : Result Found Declined} (q : ℤ) → Queries q start t f → ws' ≡ found_words f ++ drop 5 ws → Performed (query q) start t t ws ws'
  asks {f} q p e =
      record {
        answer = found_answer f;
        happens = by_query q f p refl refl;
        tells = five_take ws (found_words f) (found_five f) h e;
        long = five_long ws (found_words f) (found_five f) h e;
        later = five_drop ws (found_words f) (found_five f) h e;
      }

-- The output lent to a listing or a report, with the words behind it, and all words with what comes back. Its end is told as five and the room.
abbrev behind : ℕ → List ℤ → List ℤ
behind room ws = drop (5 + room - 5) (drop 5 ws)

abbrev lent_to : ℕ → List ℤ → List ℤ
lent_to room ws = take (5 + room - 5) (drop 5 ws)

abbrev lent_back : ℕ → List ℤ → List ℤ → List ℤ
lent_back room ws out' = take 5 ws ++ (out' ++ behind room ws)

record Written (ws ws' five out out' : List ℤ) (room : ℕ) : Type 0 where
  lent : room ≡ length out
  told : (take 5 ws' ≡ five) × (take room (drop 5 ws) ≡ out) × (take room (drop 5 ws') ≡ out')
  long : length ws' ≡ length ws
  later : drop (5 + room) ws' ≡ drop (5 + room) ws

written :
    (ws : List ℤ) {ws₁ ws' out' : List ℤ} (five : List ℤ) (room : ℕ) → length five ≡ 5 → 5 + room ≤ length ws → length out' ≡ length (lent_to room ws) →
    ws₁ ≡ lent_back room ws out' → ws' ≡ five ++ drop 5 ws₁ → Written ws ws' five (lent_to room ws) out' room
written ws {ws₁} {ws'} {out'} five room n h long e₁ e =
    record {
      lent = sym lent;
      told = (
        five_take ws₁ five n h₁ e,
        ap (λ (m : ℕ). take m (drop 5 ws)) (sym same),
        ap (take room) back ∙ take_at out' (behind room ws) room kept,
      );
      long = five_long ws₁ five n h₁ e ∙ long₁;
      later = sym (drop-drop room 5 ws') ∙ ap (drop room) back ∙ drop_at out' (behind room ws) room kept ∙ ap (λ (m : ℕ). drop m (drop 5 ws)) same
          ∙ drop-drop room 5 ws;
    }
  where
    same : 5 + room - 5 ≡ room
    same = omega arith

    lent : length (lent_to room ws) ≡ room
    lent = length-take-le (5 + room - 5) (drop 5 ws) (omega (arith, length-drop 5 ws)) ∙ same

    kept : length out' ≡ room
    kept = long ∙ lent

    front : length (take 5 ws) ≡ 5
    front = length-take-le 5 ws (omega arith)

    long₁ : length ws₁ ≡ length ws
    long₁ =
        ap length e₁ ∙ length-append (take 5 ws) (out' ++ behind room ws)
        ∙ omega (arith, length-append out' (behind room ws), kept, length-drop (5 + room - 5) (drop 5 ws), length-drop 5 ws, front)

    h₁ : 5 ≤ length ws₁
    h₁ = omega (arith, long₁)

    back : drop 5 ws' ≡ out' ++ behind room ws
    back = five_drop ws₁ five n h₁ e ∙ ap (drop 5) e₁ ∙ drop_at (take 5 ws) (out' ++ behind room ws) 5 front

module _ {start : ℕ} {t : List ℤ} (ws : List ℤ) {ws₁ ws' out' : List ℤ} (room : ℕ) (h : 5 + room ≤ length ws) where
  pub lists : {l : Result ℤ Declined} → Lists start t (lent_to room ws) out' l → ws₁ ≡ lent_back room ws out' →
      ws' ≡ count_words l ++ drop 5 ws₁ → Performed (listing room) start t t ws ws'
  lists {l} p e₁ e =
      let w = written ws (count_words l) room (count_five l) h p.long e₁ e in
      record {
        answer = listing_answer l out';
        happens = by_listing (lent_to room ws) out' l p w.lent refl refl;
        tells = w.told;
        long = w.long;
        later = w.later;
      }

  pub reports : {r : Result ℤ Declined} (q p : ℤ) → Reports q p start t (lent_to room ws) out' r → ws₁ ≡ lent_back room ws out' →
      ws' ≡ count_words r ++ drop 5 ws₁ → Performed (report q p room) start t t ws ws'
  reports {r} q p k e₁ e =
      let w = written ws (count_words r) room (count_five r) h k.long e₁ e in
      record {
        answer = report_answer r out';
        happens = by_report q p (lent_to room ws) out' r k w.lent refl refl;
        tells = w.told;
        long = w.long;
        later = w.later;
      }

-- no answer takes 0 words
pub some_words : (k : Call) → 5 ≤ stretch k
some_words (post n r b) = omega arith
some_words (withdraw n) = omega arith
some_words (query q) = omega arith
some_words (listing room) = omega arith
some_words take_back = omega arith
some_words (report q p room) = omega arith
