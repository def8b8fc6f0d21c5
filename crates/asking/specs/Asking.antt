-- A query, step by step: what the code's parts promise, and put together.
use Rattle.std.specs.Prelude.{◌≡◌, refl, Bool, true, false, not, List, ℕ, ◌-◌, ◌<◌, length, take, drop, T, ℤ, pos, Result, Err}
use Rattle.std.proofs.Common.{sym, ◌∙◌, ap, subst, arith, le→leb}
use Rattle.std.proofs.Math.Option.{Option, none, some}
use Rattle.lists.specs.Bools.{not_not, twice, said, denied}
use Rattle.offers.specs.Offers.{load_in_range, price_at}
use Rattle.plain.specs.Causes.{Cause, book_empty, cause_number, at_once, further, FirstOf}
use Rattle.plain.specs.Book.{State, query, found, refused, Outcome, step}
use Rattle.plain.proofs.Rules.{step_declined}
use Rattle.trees.specs.Tree.{Tree, leaves}
use Rattle.trees.specs.Operations.{Part, part_leaves}
use Rattle.dynamic.specs.OfferTree.{Held}
use Rattle.dynamic.specs.Valid.{book_lines}
use Rattle.dynamic.specs.Lower.{valid_env}
use Rattle.envelopes.specs.Envelope.{Env}
use Rattle.table.specs.Fields.{capacity_word, envelope_root_word, live_count_word, most_nodes, number_field}
use Rattle.table.specs.Words.{Words, word, up_to}
use Rattle.table.specs.Layout.{cell}
use Rattle.table.specs.Items.{Item}
use Rattle.pieces.specs.Pieces.{items, item_laws_lem, Standing}
use Rattle.form.specs.Form.{Book}
use Rattle.form.specs.Frames.{whole_standing}
use Rattle.table.specs.PartTrees.{low, part_ref}
use Rattle.query.specs.Lookup.{lookup, walk_leaf, LeafAt, leaf_mem}
use Rattle.query.proofs.Answer.{second_leaf}
use Rattle.query.specs.QueriedPieces.{Pieces, price_kept}
use Rattle.query.specs.Readings.{price_in}
use Rattle.query.specs.Descent.{Descended, Finds}
use Rattle.query.proofs.Plain.{lookup_plain}
use Rattle.promises.specs.declared.Found.{Found}
use Rattle.causes.specs.declared.Declined.{Declined}
use Rattle.causes.specs.declared.Declined.TheVariants.{NoBook, LoadOutOfRange, Empty}
use Rattle.causes.specs.Numbers.{number_of}
use Rattle.plain.specs.Book.{no_book_at}
use Rattle.promises.specs.Promises.{part_of, table_trials, counted, found_told, found_answer, Probes, ProbesIn, Queries}
use Rattle.promises.specs.Plainly.{table_declined}
use Rattle.promises.specs.LentPart.{whole_part}
use Rattle.promises.specs.OneCause.{one_cause, not_clear}
use Rattle.form.specs.Live.{live_length, book_sound, first_offers}
use Rattle.form.specs.HeaderWords.{count_read, envelope_read}

-- a load in range, on words that stand for a plain book
pub record Asks (q : ℤ) (w : Words) (r : Result Found Declined) : Type 0 where
  pub answers : (plain : State) (held : Option (Held Item)) → Book w plain held → T (load_in_range q) → found_answer r ≡ (step plain (query q)).answer
  pub probes : (plain : State) (held : Option (Held Item)) → Book w plain held → T (load_in_range q) →
      Probes held (found_told r).values

pub asks_empty : {q : ℤ} {w : Words} {n : ℕ} → n ≡ up_to most_nodes (word w live_count_word) → n < 1 → Asks q w (Err Empty)
asks_empty {q} {w} {n} e h =
    record {
      answers = λ plain held b t. sym (ap (λ (o : Outcome). o.answer)
          (step_declined plain (query q) book_empty (further (twice (load_in_range q) t)
          (at_once (le→leb (length plain.offers) 0 (omega (arith, e, h, count_read b, live_length b)))))));
      probes = λ plain held b t. tt;
    }

-- what the code has read
pub record Reads (q : ℤ) (w : Words) (root slot other probes : ℕ) (number price second : ℤ) : Type 0 where
  pub at_root : root ≡ up_to most_nodes (word w envelope_root_word)
  pub down : Descended w root q slot other probes
  pub named : number ≡ cell w number_field slot
  pub priced : price ≡ price_in w slot q
  pub beside : second ≡ cell w number_field other

abbrev pub Answered : (q number price second : ℤ) (plain : State) (probes : ℕ) → Option (Held Item) → Type 0
Answered q number price second plain probes held = (found number price second ≡ (step plain (query q)).answer) × ProbesIn held number (pos probes)

module _ (plain : State) {q : ℤ} {w : Words} {root slot other probes : ℕ} {number price second : ℤ}
    (f : Reads q w root slot other probes number price second) (range : T (load_in_range q)) where
  module _ (h : Held Item) (b : Book w plain (some h)) where
    pub env : (t : Tree Item) → h.whole ≡ some t → Env items (book_lines (some h)) (leaves t)
    env t e = subst (λ (p : Part Item). Env items (book_lines (some h)) (part_leaves p)) e (valid_env items item_laws_lem b.offers.offers_in.right.valid)

    pub reached : (t : Tree Item) → h.whole ≡ some t → Answered q number price second plain probes (some h)
    reached t e = (
      ap (λ (z : ℤ). found z price second) number_is ∙ ap (λ (z : ℤ). found a.offer.number z second) price_is
          ∙ ap (found a.offer.number (price_at a.offer q)) second_is
          ∙ sym (lookup_plain t plain q (book_sound b) (first_offers b) (env t e) range),
      (t, a, probes, e, subst (λ (d : ℕ). LeafAt a d t) (sym got.depth) (walk_leaf q none t), sym number_is, refl),
    )
      where
        a : Item
        a = (lookup q t).item

        stand : Standing w (part_ref (some t)) (some t)
        stand = subst (λ (p : Part Item). Standing w (part_ref p) p) e (whole_standing b.offers.offers_in)

        pieces : Pieces w root t
        pieces = record {
          rep = record {
            kind = omega arith;
            root = f.at_root ∙ envelope_read b ∙ ap part_ref e;
            slots = stand.slots;
            tied =
                stand.pieces.0;
          };
          thread = stand.pieces.1;
          holds = stand.holds;
        }

        got : Finds q t slot other probes
        got = f.down.finds t pieces (low w stand.slots stand.balanced) range

        number_is : number ≡ a.offer.number
        number_is = f.named ∙ ap (cell w number_field) got.item ∙ (stand.holds.held (leaf_mem (walk_leaf q none t))).number

        price_is : price ≡ price_at a.offer q
        price_is = f.priced ∙ ap (λ (s : ℕ). price_in w s q) got.item ∙ price_kept q (stand.holds.held (leaf_mem (walk_leaf q none t))) range

        second_is : second ≡ (lookup q t).second.offer.number
        second_is = f.beside ∙ ap (cell w number_field) got.other ∙ (stand.holds.held (second_leaf t (env t e) q)).number

-- ---- on the table

module _ (q : ℤ) (t : List ℤ) (start : ℕ) where
  pub queries_declined : {c : Declined} {k : Cause} → FirstOf (table_trials t start (query q)) k → number_of c ≡ pos (cause_number k) →
      Queries q start t (Err c)
  queries_declined f e =
      record {
        declined = λ z g. ap (counted refused) e ∙ ap refused (sym (one_cause f g));
        answers = λ plain held b. ap (counted refused) e ∙ sym (ap (λ (o : Outcome). o.answer) (table_declined start t (query q) b f));
        probes = λ plain held b. tt;
      }

  pub queries_none : {b : Bool} → b ≡ no_book_at (length t) start (word (part_of t start) capacity_word) → b ≡ true → Queries q start t (Err NoBook)
  queries_none e h = queries_declined (at_once (said e h)) refl

  module _ {b d : Bool} (e : b ≡ no_book_at (length t) start (word (part_of t start) capacity_word)) (h : b ≡ false) (e' : d ≡ not (load_in_range q)) where
    pub queries_range : d ≡ true → Queries q start t (Err LoadOutOfRange)
    queries_range h' = queries_declined (further (denied e h) (at_once (said e' h'))) refl

    pub queries_asked : d ≡ false → {r : Result Found Declined} → Asks q (take (length t - start) (drop start t)) r → Queries q start t r
    queries_asked h' {r} a =
        record {
          declined = λ z g. absurd (not_clear g (denied e h, (denied e' h', tt)));
          answers = λ plain held b. asked.answers plain held b range;
          probes = λ plain held b. asked.probes plain held b range;
        }
      where
        range : T (load_in_range q)
        range = not_not (load_in_range q) (denied e' h')

        asked : Asks q (part_of t start) r
        asked = subst (λ (u : Words). Asks q u r) (whole_part t start) a
