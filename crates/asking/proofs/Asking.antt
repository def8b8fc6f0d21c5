-- Theorems on specs/Asking.
use Rattle.std.specs.Prelude.{◌≡◌, refl, ℕ, ◌≤◌, length, T, ℤ, pos, Ok}
use Rattle.std.proofs.Common.{ap, subst, arith}
use Rattle.std.proofs.Math.Option.{Option, none, some}
use Rattle.offers.specs.Offers.{load_in_range}
use Rattle.plain.specs.Book.{State}
use Rattle.trees.specs.Tree.{first}
use Rattle.trees.specs.Leaves.{first_leaf}
use Rattle.trees.specs.Operations.{Part, part_leaves}
use Rattle.dynamic.specs.OfferTree.{Held, held_shape}
use Rattle.dynamic.specs.Valid.{book_lines}
use Rattle.dynamic.specs.Lower.{valid_env}
use Rattle.envelopes.specs.Envelope.{Env}
use Rattle.envelopes.specs.Small.{env_some}
use Rattle.table.specs.Fields.{live_count_word, most_nodes}
use Rattle.table.specs.Words.{Words, word, up_to}
use Rattle.table.specs.Items.{Item}
use Rattle.pieces.specs.Pieces.{items, item_laws_lem}
use Rattle.form.specs.Form.{Book}
use Rattle.form.specs.Live.{live_length, no_offers}
use Rattle.form.specs.HeaderWords.{count_read}
use Rattle.asking.specs.Asking.{Answered, Asks, Reads, reached}

module _ (plain : State) {q : ℤ} {w : Words} {root slot other probes : ℕ} {number price second : ℤ}
    (f : Reads q w root slot other probes number price second) (range : T (load_in_range q)) where
  module _ (h : Held Item) (b : Book w plain (some h)) where
    some_piece : (p : Part Item) → h.whole ≡ p → Answered q number price second plain probes (some h)
    some_piece none e = let k = env_some items item_laws_lem (subst (λ (p : Part Item). Env items (book_lines (some h)) (part_leaves p)) e
        (valid_env items item_laws_lem b.offers.offers_in.right.valid)) (first (held_shape h)) (first_leaf (held_shape h)) in absurd (omega (arith, k))
    some_piece (some t) e = (reached plain f range h b) t e

  pub answered : {n : ℕ} → n ≡ up_to most_nodes (word w live_count_word) → 1 ≤ n → (held : Option (Held Item)) → Book w plain held →
      Answered q number price second plain probes held
  answered e h none b = absurd (omega (arith, e, h, count_read b, live_length b, ap length (no_offers b refl)))
  answered e h (some g) b = some_piece g b g.whole refl

pub asks_found : {q : ℤ} {w : Words} {n root slot other probes : ℕ} {number price second : ℤ} → n ≡ up_to most_nodes (word w live_count_word) → 1 ≤ n →
    Reads q w root slot other probes number price second → Asks q w (Ok (record { number = number; price = price; second = second; probes = pos probes }))
asks_found e h f =
    record { answers = λ plain held b t. (answered plain f t e h held b).0; probes = λ plain held b t. (_, _, _, refl, (answered plain f t e h held b).1) }
