-- What each call on a lent table promises. `t` are the table's words before the call and `t'` those after it.
-- On words of any content causes 1 to 4 and 14 to 16 hold as tabled, and no word outside the part changes. Where the part passes the check
-- (`Form`), the answer is the plain book's, and the part stands for the plain book afterwards, its offers and its memory. A call that only reads
-- asks for less: that the part stands for the offers (`Book`). 17 is promised where the part passes.
use Rattle.std.specs.Prelude.{◌≡◌, Bool, true, List, [], ◌∷◌, ℕ, ◌+◌, ◌*◌, length, take, drop, ℤ, pos, negsuc, nat_abs, Result, Ok, Err}
use Rattle.std.proofs.Math.Option.{Option, none, some}
use Rattle.plain.specs.Causes.{Cause, no_book, Trial, ◌when◌, cause_number, FirstOf, Clear}
use Rattle.plain.specs.Book.{State, Call, query, listing, report, Answer, refused, live, found, listed, reported}
use Rattle.plain.specs.Book.{first_of_each, opening, opened, open_trials, range_trials, no_book_at, part_length, step}
use Rattle.trees.specs.Tree.{Tree}
use Rattle.trees.specs.Operations.{Part}
use Rattle.dynamic.specs.OfferTree.{Held, Pair}
use Rattle.dynamic.specs.Work.{Work, steps_of, heights_of}
use Rattle.table.specs.Fields.{capacity_word}
use Rattle.table.specs.Words.{Words, word}
use Rattle.table.specs.Items.{Item}
use Rattle.pieces.specs.Pieces.{items}
use Rattle.form.specs.Form.{Book, Form}
use Rattle.query.specs.Lookup.{LeafAt}
use Rattle.causes.specs.declared.Declined.{Declined}
use Rattle.causes.specs.Numbers.{number_of}
use Rattle.promises.specs.declared.Update.{Update}
use Rattle.promises.specs.declared.Found.{Found}

-- ---- the part of a table

abbrev pub part_of : List ℤ → ℕ → Words
part_of t start = drop start t

-- the first word there, as a capacity
abbrev pub capacity_at : List ℤ → ℕ → ℕ
capacity_at t start = nat_abs (word (part_of t start) capacity_word)

-- no word outside the part of capacity c has changed
pub record OnlyPart (c start : ℕ) (t t' : List ℤ) : Type 0 where
  pub long : length t' ≡ length t
  pub front : take start t' ≡ take start t
  pub back : drop (start + part_length c) t' ≡ drop (start + part_length c) t

-- ---- the trials of a call on words of any content

-- every call's but open's
abbrev pub no_book_trial : List ℤ → ℕ → Trial
no_book_trial t start = no_book when no_book_at (length t) start (word (part_of t start) capacity_word)

abbrev pub table_trials : List ℤ → ℕ → Call → List Trial
table_trials t start k = no_book_trial t start ∷ range_trials k

-- ---- answers in the requirements' numbers and values (16.5)

-- A number or a count as the requirements give it (3.2). A word below 0 is none: `refused 0` is no answer of the plain book (`numbered`).
abbrev pub counted : (ℕ → Answer) → ℤ → Answer
counted f (pos n) = f n
counted f (negsuc n) = refused 0

-- An answer as a number and values: a refusal's number and none, or 0 and what the call hands out. One definition for each call's result: the
-- promises' answers go by it, and so does what tells an answer as numbers.
pub record Told : Type 0 where
  pub number : ℤ
  pub values : List ℤ

-- a call is declined for the cause with this number
abbrev pub IsRefusal : {A : Type 0} → Result A Declined → ℤ → Type 0
IsRefusal r z = (c : Declined) × (r ≡ Err c) × (number_of c ≡ z)

-- the live count, k, s and H
abbrev pub update_told : Result Update Declined → Told
update_told (Ok u) = record { number = pos 0; values = u.live ∷ u.k ∷ u.s ∷ u.h ∷ [] }
update_told (Err c) = record { number = number_of c; values = [] }

-- the offer named first, its price, the second offer and the probes
abbrev pub found_told : Result Found Declined → Told
found_told (Ok f) = record { number = pos 0; values = f.number ∷ f.price ∷ f.second ∷ f.probes ∷ [] }
found_told (Err c) = record { number = number_of c; values = [] }

-- a listing's count of pieces, or a report's of offers
abbrev pub count_told : Result ℤ Declined → Told
count_told (Ok m) = record { number = pos 0; values = m ∷ [] }
count_told (Err c) = record { number = number_of c; values = [] }

-- an opening's: 0 alone, or a refusal's number
abbrev pub opening_answer : Result (Unit {0}) Declined → ℤ
opening_answer (Ok u) = pos 0
opening_answer (Err c) = number_of c

-- The plain book's answer of a number and values: a refusal where there are none, or a count. The values that follow it the plain book leaves open.
abbrev pub counted_by : (ℕ → Answer) → ℤ → List ℤ → Answer
counted_by f c [] = counted refused c
counted_by f c (n ∷ more) = counted f n

-- an offer, its price and the second offer
abbrev pub priced_by : ℤ → List ℤ → Answer
priced_by c [] = counted refused c
priced_by c (number ∷ []) = counted refused c
priced_by c (number ∷ price ∷ []) = counted refused c
priced_by c (number ∷ price ∷ second ∷ more) = found number price second

abbrev pub update_answer : Result Update Declined → Answer
update_answer r = counted_by live (update_told r).number (update_told r).values

abbrev pub found_answer : Result Found Declined → Answer
found_answer r = priced_by (found_told r).number (found_told r).values

-- with the words that the output then begins with
abbrev pub listing_answer : Result ℤ Declined → List ℤ → Answer
listing_answer r out = counted_by (λ n. listed n (take (3 * n) out)) (count_told r).number (count_told r).values

abbrev pub report_answer : Result ℤ Declined → List ℤ → Answer
report_answer r out = counted_by (λ n. reported n (take (3 * n) out)) (count_told r).number (count_told r).values

-- ---- open

pub record Opens (c : ℤ) (start : ℕ) (t t' : List ℤ) (r : Result (Unit {0}) Declined) : Type 0 where
  pub answers : opening_answer r ≡ pos (opening (length t) start c)
  pub declined : (k : Cause) → FirstOf (open_trials (length t) start c) k → IsRefusal r (pos (cause_number k)) × (t' ≡ t)
  pub accepted : Clear (open_trials (length t) start c) → (r ≡ Ok tt) × Form (part_of t' start) (opened c) none × OnlyPart (nat_abs c) start t t'

-- ---- post, withdraw and take-back

-- the values of an update: behind the live count k, s and H, which are those of the log; a declined call has none, and no log
abbrev pub Counts : List ℤ → List (Pair Item) → Type 0
Counts [] log = log ≡ []
Counts (n ∷ more) log = more ≡ pos (length log) ∷ pos (steps_of items log) ∷ pos (heights_of log) ∷ []

-- on a part that stands for the plain book s
pub record Follows (k : Call) (s : State) (held : Option (Held Item)) (start : ℕ) (t t' : List ℤ) (r : Result Update Declined) : Type 0 where
  pub after : Option (Held Item)
  pub log : List (Pair Item)
  pub answers : update_answer r ≡ (step s k).answer
  pub stands : Form (part_of t' start) (step s k).state after
  pub refusal : (n : ℕ) → update_answer r ≡ refused n → t' ≡ t
  pub work : Work items held after log
  -- where the first of each rate stays, nothing was searched: k, s and H are 0
  pub spared : first_of_each s.offers ≡ first_of_each (step s k).state.offers → log ≡ []
  pub counts : Counts (update_told r).values log

pub record Updates (k : Call) (start : ℕ) (t t' : List ℤ) (r : Result Update Declined) : Type 0 where
  pub declined : (z : Cause) → FirstOf (table_trials t start k) z → (update_answer r ≡ refused (cause_number z)) × (t' ≡ t)
  -- a refusal leaves every word, whatever the words are
  pub refusal : (c : Declined) → r ≡ Err c → t' ≡ t
  pub outside : OnlyPart (capacity_at t start) start t t'
  -- nor does the part's length change
  pub same_part : word (part_of t' start) capacity_word ≡ word (part_of t start) capacity_word
  pub follows : (s : State) (held : Option (Held Item)) → Form (part_of t start) s held → Follows k s held start t t' r

-- ---- query

-- the root's piece tree
abbrev pub root_part : Option (Held Item) → Part Item
root_part none = none
root_part (some h) = h.whole

-- it has a leaf at the depth of the probes, with the offer named first
abbrev pub ProbesIn : Option (Held Item) → ℤ → ℤ → Type 0
ProbesIn held number probes =
    (t : Tree Item) × (a : Item) × (n : ℕ) × (root_part held ≡ some t) × LeafAt a n t × (a.offer.number ≡ number) × (probes ≡ pos n)

-- the values of a query: where an offer is named, its price, the second offer and the probes behind it
abbrev pub Probes : Option (Held Item) → List ℤ → Type 0
Probes held [] = Unit {0}
Probes held (number ∷ more) = (price second probes : ℤ) × (more ≡ price ∷ second ∷ probes ∷ []) × ProbesIn held number probes

pub record Queries (q : ℤ) (start : ℕ) (t : List ℤ) (r : Result Found Declined) : Type 0 where
  pub declined : (z : Cause) → FirstOf (table_trials t start (query q)) z → found_answer r ≡ refused (cause_number z)
  pub answers : (s : State) (held : Option (Held Item)) → Book (part_of t start) s held → found_answer r ≡ (step s (query q)).answer
  pub probes : (s : State) (held : Option (Held Item)) → Book (part_of t start) s held → Probes held (found_told r).values

-- ---- listing and report, into an output lent with them

abbrev pub written_words : Answer → ℕ
written_words (refused n) = 0
written_words (live n) = 0
written_words (found n p m) = 0
written_words (listed m ws) = length ws
written_words (reported m ws) = length ws

pub record Lists (start : ℕ) (t out out' : List ℤ) (r : Result ℤ Declined) : Type 0 where
  pub declined : (z : Cause) → FirstOf (table_trials t start (listing (length out))) z → (listing_answer r out' ≡ refused (cause_number z)) × (out' ≡ out)
  -- a refusal leaves every word of the output, whatever the table's words are
  pub refusal : (c : Declined) → r ≡ Err c → out' ≡ out
  pub long : length out' ≡ length out
  pub answers : (s : State) (held : Option (Held Item)) → Book (part_of t start) s held → listing_answer r out' ≡ (step s (listing (length out))).answer
  -- later output words keep their contents
  pub later : (s : State) (held : Option (Held Item)) → Book (part_of t start) s held →
      drop (written_words (listing_answer r out')) out' ≡ drop (written_words (listing_answer r out')) out

-- What a listing promises of its output a report does too, of a load q and a price p.
pub record Reports (q p : ℤ) (start : ℕ) (t out out' : List ℤ) (r : Result ℤ Declined) : Type 0 where
  pub declined : (z : Cause) → FirstOf (table_trials t start (report q p (length out))) z → (report_answer r out' ≡ refused (cause_number z)) × (out' ≡ out)
  pub refusal : (c : Declined) → r ≡ Err c → out' ≡ out
  pub long : length out' ≡ length out
  pub answers : (s : State) (held : Option (Held Item)) → Book (part_of t start) s held → report_answer r out' ≡ (step s (report q p (length out))).answer
  pub later : (s : State) (held : Option (Held Item)) → Book (part_of t start) s held →
      drop (written_words (report_answer r out')) out' ≡ drop (written_words (report_answer r out')) out

-- ---- check

-- the part has the form, with every envelope the lower envelope of the offers below, and what it remembers can be undone
abbrev pub Passes : ℕ → List ℤ → Type 0
Passes start t = (s : State) × (held : Option (Held Item)) × Form (part_of t start) s held

pub record Checks (start : ℕ) (t : List ℤ) (yes-it-does : Bool) : Type 0 where
  pub sound : yes-it-does ≡ true → Passes start t
  pub complete : Passes start t → yes-it-does ≡ true
