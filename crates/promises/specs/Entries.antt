-- An entry out of range is named (`Names`) on a table of any content, where cause 3 does not apply; and examples on a part that no opening made.
use Rattle.std.specs.Prelude.{◌≡◌, refl, not, List, [], ◌∷◌, map, ℕ, ◌+◌, length, replicate, ℤ, pos, T, Result}
use Rattle.std.proofs.Common.{◌∙◌, ap, arith}
use Rattle.std.proofs.Math.Option.{Option}
use Rattle.plain.specs.Causes.{declined, further}
use Rattle.plain.specs.Book.{State, Call, post, withdraw, query, report, refused, no_book_at, opening_by as number_by}
use Rattle.plain.specs.Entries.{Names, names_first}
use Rattle.trees.specs.Operations.{part_leaves}
use Rattle.dynamic.specs.OfferTree.{Held}
use Rattle.table.specs.Fields.{capacity_word}
use Rattle.table.specs.Words.{word}
use Rattle.table.specs.Layout.{cap}
use Rattle.table.specs.Items.{Item}
use Rattle.form.specs.Form.{Book, head0}
use Rattle.promises.specs.declared.Update.{Update}
use Rattle.promises.specs.declared.Found.{Found}
use Rattle.causes.specs.declared.Declined.{Declined}
use Rattle.promises.specs.LentPart.{book_cap}
use Rattle.promises.specs.Promises.{part_of, table_trials, update_answer, found_answer, report_answer, Updates, Queries, Reports}

-- ---- on a table of any content

module _ (t : List ℤ) (start : ℕ) (there : T (not (no_book_at (length t) start (word (part_of t start) capacity_word)))) {m : ℕ} where
  -- refused with that number, and every word as it was
  pub update_names : {k : Call} {t' : List ℤ} {u : Result Update Declined} → Names m k → Updates k start t t' u → (update_answer u ≡ refused m) × (t' ≡ t)
  update_names n p = let (z, f, e) = names_first n in let (told, kept) = p.declined z (further there f) in (told ∙ ap refused e, kept)

  pub query_names : {q : ℤ} {r : Result Found Declined} → Names m (query q) → Queries q start t r → found_answer r ≡ refused m
  query_names n p = let (z, f, e) = names_first n in p.declined z (further there f) ∙ ap refused e

  pub report_names : {q p : ℤ} {out out' : List ℤ} {r : Result ℤ Declined} → Names m (report q p (length out)) → Reports q p start t out out' r →
      (report_answer r out' ≡ refused m) × (out' ≡ out)
  report_names n k = let (z, f, e) = names_first n in let (told, kept) = k.declined z (further there f) in (told ∙ ap refused e, kept)

-- ---- a part that no opening made

-- A capacity of 1, and each other word 1 too: slot 1 is both live, with number 1 and rate 1, and the first free one.
abbrev pub ones : List ℤ
ones = replicate 1_152 (pos 1)

pub ones_no_book : (s : State) (held : Option (Held Item)) → Book (part_of ones 0) s held → ⊥
unfolding word
ones_no_book s held b = go b.free.free b.free.first_free b.free.slots_used
  where
    one_slot : cap (part_of ones 0) ≡ 1
    one_slot = (book_cap ones 0 tt).0

    one_live : length (part_leaves b.order) ≡ 1
    one_live = let e : ◌≡◌ {A = ℤ} (pos 1) (pos (length (part_leaves b.order))) = b.in_order.live_count in cc

    go : (free : List ℕ) → ◌≡◌ {A = ℤ} (pos 1) (pos (head0 free)) → length free + length (part_leaves b.order) ≡ cap (part_of ones 0) → ⊥
    go [] e n = let z : ◌≡◌ {A = ℕ} 1 0 = cc in omega arith
    go (i ∷ is) e n = omega (arith, n, one_slot, one_live)

-- the number of the cause that declines a call at `start` there, 0 where none does
abbrev pub told_there : ℕ → Call → ℕ
told_there start k = number_by (declined (table_trials ones start k))

-- A post with all three entries out of range, and with rate and base; the same with a number that is live there, and the base with such a number and
-- rate; a withdrawal, a query, and a post in range.
pub entries_there :
    map (told_there 0) (post (pos 10_000) (pos 100_001) (pos 1_000_000_001) ∷ post (pos 2) (pos 100_001) (pos 1_000_000_001) ∷
    post (pos 1) (pos 100_001) (pos 1_000_000_001) ∷ post (pos 1) (pos 1) (pos 1_000_000_001) ∷ withdraw (pos 0) ∷ query (pos 1_000_001) ∷
    post (pos 1) (pos 1) (pos 1) ∷ []) ≡
    4 ∷ 14 ∷ 14 ∷ 15 ∷ 4 ∷ 16 ∷ 0 ∷ []
unfolding word
entries_there = refl

-- from word 1 on the part is cut short: 3 comes before them all
pub entries_nowhere :
    map (told_there 1) (post (pos 0) (pos 1) (pos 1) ∷ post (pos 1) (pos 100_001) (pos 1) ∷ post (pos 1) (pos 1) (pos 1_000_000_001) ∷ withdraw (pos 0) ∷
    query (pos 1_000_001) ∷ []) ≡
    3 ∷ 3 ∷ 3 ∷ 3 ∷ 3 ∷ []
unfolding word
entries_nowhere = refl
