-- A listing's answer on a part, and on a table, by what the code counts and writes.
use Rattle.std.specs.Prelude.{◌≡◌, refl, Bool, true, false, List, [], ◌++◌, map, ℕ, ◌*◌, ◌-◌, ◌≤◌, ◌<◌, length, take, drop, ℤ, pos, Result, Ok, Err}
use Rattle.std.proofs.Common.{sym, ◌∙◌, ap, subst, arith, take_at, drop_at}
use Rattle.std.proofs.Math.Option.{Option}
use Rattle.std.proofs.lemmas.List.{length-map}
use Rattle.lists.specs.Bools.{said, denied}
use Rattle.envelopes.specs.Envelope.{ordered_nil}
use Rattle.envelopes.specs.Small.{env_nil}
use Rattle.plain.specs.Causes.{no_book, FirstOf, at_once}
use Rattle.plain.specs.Book.{State, listing, Outcome, listed, refused, piece_words, no_book_at, step}
use Rattle.plain.specs.Rules.{words_length}
use Rattle.trees.specs.Tree.{leaves}
use Rattle.dynamic.specs.OfferTree.{Held}
use Rattle.table.specs.Fields.{capacity_word, envelope_root_word, most_nodes}
use Rattle.table.specs.Words.{Words, word, up_to}
use Rattle.table.specs.Items.{Item}
use Rattle.pieces.specs.Pieces.{items}
use Rattle.form.specs.Form.{Book}
use Rattle.query.specs.Plain.{offer_of, listing_plain, listing_short}
use Rattle.listing.specs.Listing.{Written}
use Rattle.promises.specs.Promises.{part_of, table_trials, listing_answer, written_words, Lists}
use Rattle.form.specs.Live.{first_offers, lines_ordered}
use Rattle.promises.specs.Plainly.{table_declined}
use Rattle.promises.specs.LentPart.{whole_part}
use Rattle.promises.specs.Rooted.{Root, bare, topped, root_of}
use Rattle.promises.specs.OneCause.{one_cause, not_clear}
use Rattle.causes.specs.declared.Declined.{Declined}
use Rattle.causes.specs.declared.Declined.TheVariants.{NoBook, OutputTooShort}

-- ---- on a part

pub record Shown (w : Words) (out out' : List ℤ) (r : Result ℤ Declined) : Type 0 where
  pub refusal : (c : Declined) → r ≡ Err c → out' ≡ out
  pub long : length out' ≡ length out
  pub answers : (plain : State) (held : Option (Held Item)) → Book w plain held → listing_answer r out' ≡ (step plain (listing (length out))).answer
  pub later : (plain : State) (held : Option (Held Item)) → Book w plain held →
      drop (written_words (listing_answer r out')) out' ≡ drop (written_words (listing_answer r out')) out

-- the output begins with the words of these pieces, and goes on as before
record Laid (n : ℕ) (out out' : List ℤ) (es : List Item) : Type 0 where
  count : n ≡ length es
  words : out' ≡ piece_words (map offer_of es) ++ drop (3 * n) out

module _ {n : ℕ} {out out' : List ℤ} {es : List Item} (l : Laid n out out' es) where
  size : length (piece_words (map offer_of es)) ≡ 3 * n
  size = omega (arith, words_length (map offer_of es), length-map es offer_of, l.count)

  begins : take (3 * n) out' ≡ piece_words (map offer_of es)
  begins = ap (take (3 * n)) l.words ∙ take_at (piece_words (map offer_of es)) (drop (3 * n) out) (3 * n) size

  laid_answer : listed n (take (3 * n) out') ≡ listed (length es) (piece_words (map offer_of es))
  laid_answer = ap (listed n) begins ∙ ap (λ (m : ℕ). listed m (piece_words (map offer_of es))) l.count

  laid_later : drop (length (take (3 * n) out')) out' ≡ drop (length (take (3 * n) out')) out
  laid_later =
      subst (λ (k : ℕ). drop k out' ≡ drop k out) (sym (ap length begins ∙ size))
      (ap (drop (3 * n)) l.words ∙ drop_at (piece_words (map offer_of es)) (drop (3 * n) out) (3 * n) size)

module _ {w : Words} {root n : ℕ} {out out' : List ℤ} (e : root ≡ up_to most_nodes (word w envelope_root_word)) (k : Written w root out out' n) where
  -- too short an output
  pub shown_short : length out < 3 * n → Shown w out out' (Err OutputTooShort)
  shown_short h = record {
    refusal = λ c d. k.short h;
    long = k.long;
    answers = λ plain held b. go plain b (root_of b e);
    later =
        λ plain held b. ap (drop 0) (k.short h);
  }
    where
      go : (plain : State) {held : Option (Held Item)} → Book w plain held → Root w root held → refused 10 ≡ (step plain (listing (length out))).answer
      go plain b (bare z) = absurd (omega (arith, k.counted.none z))
      go plain b (topped t f p) = sym (listing_short plain (first_offers b) (lines_ordered b) p.env (length out)
          (omega (arith, k.counted.is t p.pieces p.balanced)))

  -- every piece
  pub shown_all : 3 * n ≤ length out → Shown w out out' (Ok (pos n))
  shown_all h = record {
    refusal = λ c d. cc;
    long = k.long;
    answers = λ plain held b. go plain b (root_of b e);
    later =
        λ plain held b. behind (root_of b e);
  }
    where
      nothing : root ≡ 0 → Laid n out out' []
      nothing z = record { count = k.counted.none z; words = k.none z ∙ ap (λ (m : ℕ). drop (3 * m) out) (sym (k.counted.none z)) }

      go : (plain : State) {held : Option (Held Item)} → Book w plain held → Root w root held →
          listed n (take (3 * n) out') ≡ (step plain (listing (length out))).answer
      go plain b (bare z) = laid_answer (nothing z) ∙ sym (listing_plain {ls = []} {es = []} plain (first_offers b) ordered_nil (env_nil items)
          (length out) (omega arith))
      go plain b (topped t f p) =
          let l : Laid n out out' (leaves t) = record { count = k.counted.is t p.pieces p.balanced; words = k.words t p.pieces p.balanced h } in
          laid_answer l ∙ sym (listing_plain plain (first_offers b) (lines_ordered b) p.env (length out) (omega (arith, l.count)))

      behind : {held : Option (Held Item)} → Root w root held → drop (length (take (3 * n) out')) out' ≡ drop (length (take (3 * n) out')) out
      behind (bare z) = laid_later {es = []} (nothing z)
      behind (topped t f p) = laid_later {es = leaves t} (record {
        count = k.counted.is t p.pieces p.balanced;
        words =
            k.words t p.pieces p.balanced h;
      })

-- ---- on a table

module _ (start : ℕ) (t out : List ℤ) {no : Bool} (e : no ≡ no_book_at (length t) start (word (part_of t start) capacity_word)) where
  pub listing_no_book : no ≡ true → Lists start t out out (Err NoBook)
  listing_no_book d =
      record {
        declined = λ z g. (ap refused (sym (one_cause none_there g)), refl);
        refusal = λ c d. refl;
        long = refl;
        answers = λ plain held b. sym (ap (λ (o : Outcome). o.answer) (table_declined start t (listing (length out)) b none_there));
        later = λ plain held b. refl;
      }
    where
      none_there : FirstOf (table_trials t start (listing (length out))) no_book
      none_there = at_once (said e d)

  pub listing_done : {out' : List ℤ} {r : Result ℤ Declined} → no ≡ false → Shown (take (length t - start) (drop start t)) out out' r → Lists start t out out' r
  listing_done {out'} {r} d k =
      let s : Shown (part_of t start) out out' r = subst (λ (w : Words). Shown w out out' r) (whole_part t start) k in
      record {
        declined = λ z f. absurd (not_clear f (denied e d, tt));
        refusal = s.refusal;
        long = s.long;
        answers = s.answers;
        later = s.later;
      }
