-- A list of calls on one table, and the claim about it (docs/REQUIREMENTS.md, 8). Each call is told by its function's own promise; between two calls
-- anybody may write words outside the part, and nobody writes the part.
use Rattle.std.specs.Prelude.{◌≡◌, ℕ, ◌*◌, ◌≤◌, length, ℤ, Result}
use mathlib.Core.List.{List, [], ◌∷◌, Memᴰ}
use Rattle.std.proofs.Math.Option.{Option, none, some}
use Rattle.integers.specs.Log.{log_up}
use Rattle.plain.specs.Book.{State, Call, post, withdraw, query, listing, take_back, report, Answer, step, after, answers}
use Rattle.trees.specs.Operations.{Part, part_leaves, part_height}
use Rattle.dynamic.specs.OfferTree.{Held, held_shape, Pair}
use Rattle.dynamic.specs.Rearranged.{piece_trees}
use Rattle.table.specs.Items.{Item}
use Rattle.causes.specs.declared.Declined.{Declined}
use Rattle.promises.specs.declared.Update.{Update}
use Rattle.promises.specs.declared.Found.{Found}
use Rattle.form.specs.Form.{Form}
use Rattle.form.specs.Local.{Alike}
use Rattle.promises.specs.Promises.{part_of, Updates, Follows, Queries, Probes, Lists, Reports, found_told, update_answer, found_answer, listing_answer}
use Rattle.promises.specs.Promises.{report_answer}

-- The calls that change a book: each is an update.
pub data Changes : Call → Type 0 where
  posting : (n r b : ℤ) → Changes (post n r b)
  withdrawing : (n : ℤ) → Changes (withdraw n)
  taking_back : Changes take_back

-- One call: the words before and after it, and its answer.
pub data Happens (start : ℕ) (t : List ℤ) : Call → List ℤ → Answer → Type 0 where
  by_update : {k : Call} {t' : List ℤ} {a : Answer} → Changes k → (u : Result Update Declined) → Updates k start t t' u →
      a ≡ update_answer u → Happens start t k t' a
  by_query : {t' : List ℤ} {a : Answer} (q : ℤ) (f : Result Found Declined) → Queries q start t f →
      t' ≡ t → a ≡ found_answer f → Happens start t (query q) t' a
  by_listing : {t' : List ℤ} {a : Answer} {room : ℕ} (out out' : List ℤ) (l : Result ℤ Declined) → Lists start t out out' l → room ≡ length out →
      t' ≡ t → a ≡ listing_answer l out' → Happens start t (listing room) t' a
  by_report : {t' : List ℤ} {a : Answer} {room : ℕ} (q p : ℤ) (out out' : List ℤ) (r : Result ℤ Declined) → Reports q p start t out out' r →
      room ≡ length out → t' ≡ t → a ≡ report_answer r out' → Happens start t (report q p room) t' a

-- A list of calls with their answers, from the words `t` to the words `t'`.
pub data History (c start : ℕ) : List ℤ → List Call → List Answer → List ℤ → Type 0 where
  finished : {t : List ℤ} → History c start t [] [] t
  next :
      {t t₁ t₂ t' : List ℤ} {k : Call} {ks : List Call} {a : Answer} {as' : List Answer} →
      Alike c (part_of t start) (part_of t₁ start) →
      Happens start t₁ k t₂ a →
      History c start t₂ ks as' t' →
      History c start t (k ∷ ks) (a ∷ as') t'

-- A tree is at most 2 × log_up(n) high over its n leaves.
abbrev pub LowTree : Part Item → Type 0
LowTree p = part_height p ≤ 2 * log_up (length (part_leaves p))

-- every tree that went into a search
abbrev pub LowPairs : List (Pair Item) → Type 0
LowPairs log = (p : Pair Item) → Memᴰ p log → LowTree (some p.front) × LowTree (some p.back)

-- What each call of a history is held to, from one offer tree to the next: an update's log of searched pairs with k, s, H and the floor,
-- a query's probes.
abbrev pub Kept : (s : State) (start : ℕ) {t : List ℤ} {k : Call} {t' : List ℤ} {a : Answer} → Happens start t k t' a →
    (before after : Option (Held Item)) → Type 0
Kept s start {t} {k} {t'} (by_update c u p e) held held' = (f : Follows k s held start t t' u) × (f.after ≡ held') × LowPairs f.log
Kept s start (by_query q f p d e) held held' = Probes held (found_told f).values × (held ≡ held')
Kept s start (by_listing out out' l p m d e) held held' = held ≡ held'
Kept s start (by_report q p out out' r k m d e) held held' = held ≡ held'

-- each on the plain book that the calls before it left
abbrev pub EachCall : {c start : ℕ} {t : List ℤ} {ks : List Call} {as' : List Answer} {t' : List ℤ} (s : State) → History c start t ks as' t' →
    (before after : Option (Held Item)) → Type 0
EachCall s finished held held' = held ≡ held'
EachCall {start = start} s (next {k = k} q p rest) held held' = (mid : Option (Held Item)) × Kept s start p held mid × EachCall (step s k).state rest mid held'

-- ---- demand 3: one claim about a whole list of calls

-- the tree of offers, and every tree of pieces
abbrev pub Low : Option (Held Item) → Type 0
Low none = Unit {0}
Low (some h) = LowTree (some (held_shape h)) × ((p : Part Item) → Memᴰ p (piece_trees h) → LowTree p)

-- The part passes the check and stands for the plain book, the answers in order are the plain book's, every tree is low, and each update has its list
-- of searched pairs. `every-history` (Claim) proves it from an accepted opening on; `Remains` tells the offers by the calls that remain.
pub record Claim {c start : ℕ} {t : List ℤ} {ks : List Call} {as' : List Answer} {t' : List ℤ} (s : State) (before : Option (Held Item))
    (h : History c start t ks as' t') : Type 0 where
  pub held : Option (Held Item)
  -- the part passes the check, the leaves of its order tree hold exactly the plain book's offers, in order, and its memory what the plain book remembers
  pub stands : Form (part_of t' start) (after s ks) held
  -- refusals' numbers, live counts, prices, offers named, piece counts and words written
  pub told : as' ≡ answers s ks
  pub low : Low held
  pub low_numbers : LowTree stands.book.numbers.numbers
  pub low_order : LowTree stands.book.order
  pub each : EachCall s h before held
