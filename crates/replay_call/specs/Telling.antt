-- The words of a history's answers, one stretch of words a call.
use Rattle.std.specs.Prelude.{◌≡◌, List, ℕ, take, drop, ℤ}
use Rattle.plain.specs.Book.{Call, Answer}
use Rattle.history.specs.History.{Happens, by_update, by_query, by_listing, by_report, History, finished, next}
use Rattle.replay_words.specs.Encoding.{stretch, update_words, found_words, count_words}

-- One call's words, `ws` before it and `ws'` after it. The output of a listing or a report is the stretch behind the five words.
abbrev pub TellsOne : {start : ℕ} {t : List ℤ} {k : Call} {t' : List ℤ} {a : Answer} → Happens start t k t' a → (ws ws' : List ℤ) → Type 0
TellsOne (by_update c u p e) ws ws' = take 5 ws' ≡ update_words u
TellsOne (by_query q f p d e) ws ws' = take 5 ws' ≡ found_words f
TellsOne (by_listing {room} out out' l p m d e) ws ws' = (take 5 ws' ≡ count_words l) × (take room (drop 5 ws) ≡ out) × (take room (drop 5 ws') ≡ out')
TellsOne (by_report {room} q p out out' r k m d e) ws ws' = (take 5 ws' ≡ count_words r) × (take room (drop 5 ws) ≡ out) × (take room (drop 5 ws') ≡ out')

-- The words of a whole history: one stretch behind the other, and what is behind the last stays.
abbrev pub Tells : {c start : ℕ} {t : List ℤ} {ks : List Call} {as' : List Answer} {t' : List ℤ} → History c start t ks as' t' → (ws ws' : List ℤ) → Type 0
Tells finished ws ws' = ws' ≡ ws
Tells (next {k} alike p rest) ws ws' = TellsOne p ws ws' × Tells rest (drop (stretch k) ws) (drop (stretch k) ws')
