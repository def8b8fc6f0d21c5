-- The words of a memory tell its entries: no two lists stand in one ring.
use Rattle.std.specs.Prelude.{◌≡◌, refl, List, [], ◌∷◌, ℕ, length, ℤ, pos}
use Rattle.std.proofs.Common.{sym, ◌∙◌, ap, arith}
use Rattle.plain.specs.Book.{Undo, unpost, restore}
use Rattle.table.specs.Words.{Words}
use Rattle.form.specs.Memory.{EntryIn, posting, withdrawing, EntriesIn, Ring, earlier, posted, withdrawn}

pos_one : {m n : ℕ} → pos m ≡ pos n → m ≡ n
pos_one e = cc

pub entry_once : {w : Words} {at : ℕ} {u v : Undo} → EntryIn w at u → EntryIn w at v → u ≡ v
entry_once (posting d n) (posting d' n') = ap unpost (sym n ∙ n')
entry_once (posting d n) (withdrawing d' n' r' b') = let e : posted ≡ withdrawn = pos_one (sym d ∙ d') in absurd (omega arith)
entry_once (withdrawing d n r b) (posting d' n') = let e : posted ≡ withdrawn = pos_one (sym d' ∙ d) in absurd (omega arith)
entry_once (withdrawing d n r b) (withdrawing d' n' r' b') =
    λ i. restore (record { number = (sym n ∙ n') i; rate = (sym r ∙ r') i; base = (sym b ∙ b') i })

pub entries_once : (w : Words) (i : ℕ) (us vs : List Undo) → length us ≡ length vs → EntriesIn w i us → EntriesIn w i vs → us ≡ vs
entries_once w i [] [] e p q = refl
entries_once w i [] (v ∷ vs) e p q = absurd (omega arith)
entries_once w i (u ∷ us) [] e p q = absurd (omega arith)
entries_once w i (u ∷ us) (v ∷ vs) e (p, ps) (q, qs) =
    let head = entry_once p q in
    let rest = entries_once w (earlier i) us vs (omega arith) ps qs in
    λ j. head j ∷ rest j

pub ring_once : {w : Words} {us vs : List Undo} → Ring w us → Ring w vs → us ≡ vs
ring_once {w} {us} {vs} r q =
    entries_once w r.last us vs (pos_one (sym r.count_word ∙ q.count_word)) r.entries
    (rw (pos_one (sym r.last_word ∙ q.last_word)) q.entries)
