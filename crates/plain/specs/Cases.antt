-- Prices to prove (docs/REQUIREMENTS.md, 15.1): ten cases, each through the calls of a freshly opened book of capacity 64, as one table that the
-- checker computes.
use Rattle.std.specs.Prelude.{◌≡◌, refl, List, [], ◌∷◌, ◌++◌, map, ℕ, pos, neg_ℤ}
use Rattle.offers.specs.Offers.{Offer}
use Rattle.plain.specs.Book.{Call, post, withdraw, query, listing, take_back, report, Answer, refused, live, found, listed, reported}
use Rattle.plain.specs.Book.{opened, opening, after, answers, unpost, restore, Undoable}
use Rattle.plain.specs.Remaining.{remaining}

-- Calls that make a book, and the answers of the calls asked of it then.
pub record Row : Type 0 where
  pub made : List Call
  pub asked : List Call
  pub told : List Answer

abbrev pub answered : Row → List Answer
answered r = answers (after (opened (pos 64)) r.made) r.asked

-- (3, 0), (1, 10), (0, 40)
abbrev pub three : List Call
three = post (pos 1) (pos 3) (pos 0) ∷ post (pos 2) (pos 1) (pos 10) ∷ post (pos 3) (pos 0) (pos 40) ∷ []

-- (2, 0), (1, 5), (0, 10): the second only touches a crossing
abbrev pub touching : List Call
touching = post (pos 1) (pos 2) (pos 0) ∷ post (pos 2) (pos 1) (pos 5) ∷ post (pos 3) (pos 0) (pos 10) ∷ []

-- (2, 0), (1, 11), (0, 10), first withdrawn
abbrev pub uncovered : List Call
uncovered = post (pos 1) (pos 2) (pos 0) ∷ post (pos 2) (pos 1) (pos 11) ∷ post (pos 3) (pos 0) (pos 10) ∷ withdraw (pos 1) ∷ []

-- (0, 0), (−3, 7): they cross at 7/3
abbrev pub falling : List Call
falling = post (pos 1) (pos 0) (pos 0) ∷ post (pos 2) (neg_ℤ (pos 3)) (pos 7) ∷ []

abbrev pub row : List Call → Call → Answer → Row
row made asked told = record { made = made; asked = asked ∷ []; told = told ∷ [] }

abbrev pub table : List Row
table =
    row three (listing 9) (listed 3 (pos 1 ∷ pos 10 ∷ pos 2 ∷ pos 2 ∷ pos 30 ∷ pos 1 ∷ pos 3 ∷ pos 0 ∷ pos 0 ∷ []))
    ∷ row three (query (pos 5)) (found (pos 2) (pos 15) (pos 1))
    ∷ row three (query (pos 6)) (found (pos 2) (pos 16) (pos 2))
    ∷ row three (query (pos 30)) (found (pos 3) (pos 40) (pos 2))
    ∷ row three (query (pos 31)) (found (pos 3) (pos 40) (pos 3))
    ∷ row touching (listing 6) (listed 2 (pos 1 ∷ pos 10 ∷ pos 2 ∷ pos 3 ∷ pos 0 ∷ pos 0 ∷ []))
    ∷ row (touching ++ (withdraw (pos 3) ∷ [])) (listing 6) (listed 2 (pos 1 ∷ pos 5 ∷ pos 1 ∷ pos 2 ∷ pos 0 ∷ pos 0 ∷ []))
    ∷ row uncovered (listing 6) (listed 2 (pos 2 ∷ neg_ℤ (pos 1) ∷ pos 1 ∷ pos 3 ∷ pos 0 ∷ pos 0 ∷ []))
    ∷ row falling (query (pos 2)) (found (pos 1) (pos 0) (pos 1))
    ∷ row falling (query (pos 3)) (found (pos 2) (neg_ℤ (pos 2)) (pos 2))
    ∷ []

pub prices_to_prove : map answered table ≡ map (λ r. r.told) table
prices_to_prove = refl

-- Three offers at one price: (2, 0), (1, 5), (0, 10) at load 5. The one between, which is no piece, is named neither first nor second.
abbrev pub three_at_once : Row
three_at_once = row touching (query (pos 5)) (found (pos 3) (pos 10) (pos 1))

pub three_told : answered three_at_once ≡ three_at_once.told
three_told = refl

-- ---- several offers of one rate

-- (3, 5), (3, 0): the later is cheaper
abbrev pub undercut : List Call
undercut = post (pos 1) (pos 3) (pos 5) ∷ post (pos 2) (pos 3) (pos 0) ∷ []

-- (3, 0) twice, the higher number first
abbrev pub alike : List Call
alike = post (pos 2) (pos 3) (pos 0) ∷ post (pos 1) (pos 3) (pos 0) ∷ []

-- Within one rate the first in order is named, here the one posted second.
abbrev pub one_rate_twice : Row
one_rate_twice = row alike (query (pos 5)) (found (pos 1) (pos 15) (pos 1))

pub earlier_named : answered one_rate_twice ≡ one_rate_twice.told
earlier_named = refl

-- (2, 0) and (0, 10), twice each: at load 5 all four have one price
abbrev pub pairs : List Call
pairs =
    post (pos 5) (pos 2) (pos 0) ∷ post (pos 1) (pos 2) (pos 0) ∷ post (pos 4) (pos 0) (pos 10) ∷ post (pos 3) (pos 0) (pos 10) ∷ []

abbrev pub shared : List Row
shared =
    -- the lower base is named and listed, and the other not; once it is withdrawn, its follower
    row undercut (query (pos 5)) (found (pos 2) (pos 15) (pos 2))
    ∷ row undercut (listing 3) (listed 1 (pos 2 ∷ pos 0 ∷ pos 0 ∷ []))
    ∷ row (undercut ++ (withdraw (pos 2) ∷ [])) (query (pos 5)) (found (pos 1) (pos 20) (pos 1))
    ∷ row (undercut ++ (withdraw (pos 2) ∷ [])) (listing 3) (listed 1 (pos 1 ∷ pos 0 ∷ pos 0 ∷ []))
    -- of one base the lower number
    ∷ row alike (listing 3) (listed 1 (pos 1 ∷ pos 0 ∷ pos 0 ∷ []))
    ∷ row (alike ++ (withdraw (pos 1) ∷ [])) (listing 3) (listed 1 (pos 2 ∷ pos 0 ∷ pos 0 ∷ []))
    -- the lower base counts before the lower number
    ∷ row (alike ++ (post (pos 3) (pos 3) (neg_ℤ (pos 1)) ∷ [])) (query (pos 5)) (found (pos 3) (pos 14) (pos 3))
    -- of two rates at one price the first of the lower rate and the first of the higher
    ∷ row pairs (query (pos 5)) (found (pos 3) (pos 10) (pos 1))
    ∷ row pairs (listing 6) (listed 2 (pos 1 ∷ pos 10 ∷ pos 2 ∷ pos 3 ∷ pos 0 ∷ pos 0 ∷ []))
    -- the first of a rate that is nowhere strictly cheaper than the others: neither it nor its follower
    ∷ row (touching ++ (post (pos 4) (pos 1) (pos 6) ∷ [])) (listing 6) (listed 2 (pos 1 ∷ pos 10 ∷ pos 2 ∷ pos 3 ∷ pos 0 ∷ pos 0 ∷ []))
    -- .. until one of that rate is
    ∷ row (touching ++ (post (pos 4) (pos 1) (pos 4) ∷ [])) (listing 9)
    (listed 3 (pos 1 ∷ pos 4 ∷ pos 1 ∷ pos 4 ∷ pos 6 ∷ pos 1 ∷ pos 3 ∷ pos 0 ∷ pos 0 ∷ []))
    ∷ []

-- a follower is withdrawn, and the first stays; five of one rate, in order
pub followers_told : answers (after (opened (pos 64)) undercut) (withdraw (pos 1) ∷ withdraw (pos 1) ∷ query (pos 5) ∷ listing 3 ∷ []) ≡
    live 1 ∷ refused 8 ∷ found (pos 2) (pos 15) (pos 2) ∷ listed 1 (pos 2 ∷ pos 0 ∷ pos 0 ∷ []) ∷ []
followers_told = refl

pub five_told : answers (after (opened (pos 64)) alike) (post (pos 5) (pos 3) (pos 0) ∷ post (pos 4) (pos 3) (pos 0) ∷ post (pos 3) (pos 3) (pos 0) ∷
    withdraw (pos 2) ∷ withdraw (pos 1) ∷ query (pos 5) ∷ []) ≡ live 3 ∷ live 4 ∷ live 5 ∷ live 4 ∷ live 3 ∷ found (pos 3) (pos 15) (pos 3) ∷ []
five_told = refl

pub shared_told : map answered shared ≡ map (λ r. r.told) shared
shared_told = refl

-- ---- between whole loads

-- Crossings are not rounded: (0, 0), (−3, 7), (−6, 15) cross at 7/3 and 8/3, so the second is the cheapest only between two whole loads.
abbrev pub between_loads : Row
between_loads = row (falling ++ (post (pos 3) (neg_ℤ (pos 6)) (pos 15) ∷ [])) (listing 9)
    (listed 3 (pos 1 ∷ pos 7 ∷ pos 3 ∷ pos 2 ∷ pos 8 ∷ pos 3 ∷ pos 3 ∷ pos 0 ∷ pos 0 ∷ []))

pub listed_between_loads : answered between_loads ≡ between_loads.told
listed_between_loads = refl

-- ---- the counter program's sample, and one refusal of each number that a post, a withdrawal, a query or a listing can meet

-- the sample's six lines in a row: every call sees what those before it left
abbrev pub sample : Row
sample =
    record {
      made = [];
      asked = post (pos 1) (pos 3) (pos 0) ∷ post (pos 2) (pos 1) (pos 10) ∷ query (pos 5) ∷ listing 192 ∷ withdraw (pos 1) ∷ query (pos 5) ∷ [];
      told =
          live 1
          ∷ live 2
          ∷ found (pos 2) (pos 15) (pos 1)
          ∷ listed 2 (pos 1 ∷ pos 10 ∷ pos 2 ∷ pos 2 ∷ pos 0 ∷ pos 0 ∷ [])
          ∷ live 1
          ∷ found (pos 2) (pos 15) (pos 2)
          ∷ [];
    }

pub sample_told : answered sample ≡ sample.told
sample_told = refl

-- where several causes apply, the first that is tried counts; a refused call leaves the book as it was. A live number is refused, a live rate is not
abbrev pub refusals : Row
refusals =
    record {
      made = three;
      asked =
          post (pos 0) (pos 3) (pos 0)
          ∷ post (pos 10_000) (pos 100_001) (pos 0)
          ∷ post (pos 4) (pos 100_001) (pos 0)
          ∷ post (pos 4) (pos 5) (neg_ℤ (pos 1_000_000_001))
          ∷ withdraw (pos 10_000)
          ∷ query (pos 1_000_001)
          ∷ post (pos 1) (pos 3) (pos 7)
          ∷ post (pos 4) (pos 3) (pos 7)
          ∷ withdraw (pos 5)
          ∷ listing 8
          ∷ withdraw (pos 2)
          ∷ withdraw (pos 2)
          ∷ listing 6
          ∷ [];
      told =
          refused 4
          ∷ refused 4
          ∷ refused 14
          ∷ refused 15
          ∷ refused 4
          ∷ refused 16
          ∷ refused 5
          ∷ live 4
          ∷ refused 8
          ∷ refused 10
          ∷ live 3
          ∷ refused 8
          ∷ listed 2 (pos 1 ∷ pos 40 ∷ pos 3 ∷ pos 3 ∷ pos 0 ∷ pos 0 ∷ [])
          ∷ [];
    }

pub refusals_told : answered refusals ≡ refusals.told
refusals_told = refl

-- Which entry is out of range: the number before the rate, the rate before the base, and each before what the book holds. In the third and the
-- fourth post the number is live.
abbrev pub entries : Row
entries =
    record {
      made = three;
      asked =
          post (pos 10_000) (pos 100_001) (pos 1_000_000_001)
          ∷ post (pos 4) (pos 100_001) (pos 1_000_000_001)
          ∷ post (pos 1) (neg_ℤ (pos 100_001)) (pos 1_000_000_001)
          ∷ post (pos 1) (pos 3) (neg_ℤ (pos 1_000_000_001))
          ∷ withdraw (pos 0)
          ∷ query (neg_ℤ (pos 1_000_001))
          ∷ [];
      told = refused 4 ∷ refused 14 ∷ refused 14 ∷ refused 15 ∷ refused 4 ∷ refused 16 ∷ [];
    }

pub entries_told : answered entries ≡ entries.told
entries_told = refl

-- the ends of the ranges are in range
abbrev pub ends : Row
ends =
    record {
      made = [];
      asked =
          post (pos 9_999) (pos 100_000) (pos 1_000_000_000)
          ∷ post (pos 1) (neg_ℤ (pos 100_000)) (neg_ℤ (pos 1_000_000_000))
          ∷ query (pos 1_000_000)
          ∷ query (neg_ℤ (pos 1_000_000))
          ∷ withdraw (pos 9_999)
          ∷ withdraw (neg_ℤ (pos 9))
          ∷ [];
      told =
          live 1
          ∷ live 2
          ∷ found (pos 1) (neg_ℤ (pos 101_000_000_000)) (pos 1)
          ∷ found (pos 9_999) (neg_ℤ (pos 99_000_000_000)) (pos 9_999)
          ∷ live 1
          ∷ refused 4
          ∷ [];
    }

pub ends_told : answered ends ≡ ends.told
ends_told = refl

-- a book of one slot: full, then empty; nothing listed takes no room
pub one_slot : answers (opened (pos 1)) (query (pos 0) ∷ listing 0 ∷ post (pos 9) (pos 1) (pos 2) ∷ post (pos 9) (pos 1) (pos 2) ∷ post (pos 8) (pos 2)
    (pos 2) ∷ post (pos 8) (pos 1) (pos 2) ∷ withdraw (pos 9) ∷ query (pos 0) ∷ []) ≡
    refused 9 ∷ listed 0 [] ∷ live 1 ∷ refused 5 ∷ refused 7 ∷ refused 7 ∷ live 0 ∷ refused 9 ∷ []
one_slot = refl

-- .. and an entry out of range is told before a full book, and before an empty one
pub one_slot_entries : answers (opened (pos 1)) (query (pos 1_000_001) ∷ post (pos 9) (pos 1) (pos 2) ∷ post (pos 8) (pos 100_001) (pos 2) ∷
    post (pos 8) (pos 2) (pos 1_000_000_001) ∷ []) ≡ refused 16 ∷ live 1 ∷ refused 14 ∷ refused 15 ∷ []
one_slot_entries = refl

-- four pieces, and an opening of each kind
pub four_pieces :
    answers (opened (pos 4)) (post (pos 1) (pos 3) (pos 0) ∷ post (pos 2) (pos 2) (pos 1) ∷ post (pos 3) (pos 1) (pos 3) ∷ post (pos 4) (pos 0) (pos 6) ∷
    listing 12 ∷ []) ≡
    live 1 ∷ live 2 ∷ live 3 ∷ live 4 ∷ listed 4 (pos 1 ∷ pos 1 ∷ pos 1 ∷ pos 2 ∷ pos 2 ∷ pos 1 ∷ pos 3 ∷ pos 3 ∷ pos 1 ∷ pos 4 ∷ pos 0 ∷ pos 0 ∷ []) ∷ []
four_pieces = refl

pub openings :
    opening 1_152 0 (pos 0) ∷ opening 1_152 1 (pos 4_097) ∷ opening 1_152 1 (pos 1) ∷ opening 1_151 0 (pos 1) ∷ opening 10 11 (pos 1) ∷
    opening 1_152 0 (pos 1) ∷ opening 263_231 0 (pos 4_096) ∷ opening 263_232 0 (pos 4_096) ∷ [] ≡ 1 ∷ 1 ∷ 2 ∷ 2 ∷ 2 ∷ 0 ∷ 2 ∷ 0 ∷ []
openings = refl

-- ---- taking back

-- (3, 0) and (1, 10), the first withdrawn: the first take-back restores it, the second undoes the second post
abbrev pub regretted : List Call
regretted =
    post (pos 1) (pos 3) (pos 0)
    ∷ post (pos 2) (pos 1) (pos 10)
    ∷ withdraw (pos 1)
    ∷ query (pos 5)
    ∷ take_back
    ∷ query (pos 5)
    ∷ take_back
    ∷ query (pos 5)
    ∷ []

abbrev pub regrets : Row
regrets =
    record {
      made = [];
      asked = regretted;
      told =
          live 1
          ∷ live 2
          ∷ live 1
          ∷ found (pos 2) (pos 15) (pos 2)
          ∷ live 2
          ∷ found (pos 2) (pos 15) (pos 1)
          ∷ live 1
          ∷ found (pos 1) (pos 15) (pos 1)
          ∷ [];
    }

pub regrets_told : answered regrets ≡ regrets.told
regrets_told = refl

-- of these the first post remains
pub regrets_leave : remaining regretted regrets.told ≡ post (pos 1) (pos 3) (pos 0) ∷ []
regrets_leave = refl

-- nothing was posted yet
pub fresh_told : answers (opened (pos 64)) (take_back ∷ []) ≡ refused 17 ∷ []
fresh_told = refl

-- a take-back undoes no take-back, but the update before the one that was taken back
pub back_and_back : answers (opened (pos 64)) (post (pos 1) (pos 3) (pos 0) ∷ post (pos 2) (pos 1) (pos 10) ∷ take_back ∷ take_back ∷ take_back ∷ []) ≡
    live 1 ∷ live 2 ∷ live 1 ∷ live 0 ∷ refused 17 ∷ []
back_and_back = refl

-- refused posts and withdrawals are not remembered, nor are a query and a listing
pub refused_forgotten : answers (opened (pos 64)) (post (pos 1) (pos 3) (pos 0) ∷ post (pos 1) (pos 2) (pos 0) ∷ post (pos 0) (pos 2) (pos 0) ∷
    withdraw (pos 2) ∷ query (pos 5) ∷ listing 3 ∷ take_back ∷ take_back ∷ []) ≡
    live 1 ∷ refused 5 ∷ refused 4 ∷ refused 8 ∷ found (pos 1) (pos 15) (pos 1) ∷ listed 1 (pos 1 ∷ pos 0 ∷ pos 0 ∷ []) ∷ live 0 ∷ refused 17 ∷ []
refused_forgotten = refl

-- a withdrawn offer comes back with its rate and base, to its place in the order
pub restored : answers (after (opened (pos 64)) undercut) (withdraw (pos 2) ∷ query (pos 5) ∷ take_back ∷ query (pos 5) ∷ listing 3 ∷ []) ≡
    live 1 ∷ found (pos 1) (pos 20) (pos 1) ∷ live 2 ∷ found (pos 2) (pos 15) (pos 2) ∷ listed 1 (pos 2 ∷ pos 0 ∷ pos 0 ∷ []) ∷ []
restored = refl

-- one slot: what was withdrawn comes back once the slot is free again; a refused take-back is not remembered, nor does it forget
pub one_slot_back : answers (opened (pos 1)) (take_back ∷ post (pos 9) (pos 1) (pos 2) ∷ withdraw (pos 9) ∷ post (pos 8) (pos 1) (pos 2) ∷
    take_back ∷ take_back ∷ take_back ∷ take_back ∷ []) ≡
    refused 17 ∷ live 1 ∷ live 0 ∷ live 1 ∷ live 0 ∷ live 1 ∷ live 0 ∷ refused 17 ∷ []
one_slot_back = refl

-- ---- reports

-- (3, 0), two of rate 2 and (0, 6): at load 1 they cost 3, 4, 6 and 6
abbrev four_offers : List Call
four_offers = post (pos 4) (pos 0) (pos 6) ∷ post (pos 3) (pos 2) (pos 4) ∷ post (pos 1) (pos 3) (pos 0) ∷ post (pos 2) (pos 2) (pos 2) ∷ []

-- strictly below: none, the first alone, then with it a rate's first, and at last all four in order; what costs the price itself is not among them
pub below_a_price : answers (after (opened (pos 4)) four_offers) (report (pos 1) (pos 3) 0 ∷ report (pos 1) (pos 4) 3 ∷ report (pos 1) (pos 6) 6 ∷
    report (pos 1) (pos 7) 12 ∷ []) ≡
    reported 0 []
    ∷ reported 1 (pos 1 ∷ pos 3 ∷ pos 0 ∷ [])
    ∷ reported 2 (pos 1 ∷ pos 3 ∷ pos 0 ∷ pos 2 ∷ pos 2 ∷ pos 2 ∷ [])
    ∷ reported 4 (pos 1 ∷ pos 3 ∷ pos 0 ∷ pos 2 ∷ pos 2 ∷ pos 2 ∷ pos 3 ∷ pos 2 ∷ pos 4 ∷ pos 4 ∷ pos 0 ∷ pos 6 ∷ [])
    ∷ []
below_a_price = refl

-- price, load and room, each tried before the next; an empty book yields none
pub reports_refused : answers (after (opened (pos 4)) four_offers) (report (pos 1_000_001) (pos 101_000_000_001) 0 ∷
    report (pos 1_000_001) (pos 101_000_000_000) 0 ∷ report (pos 1_000_000) (pos 101_000_000_000) 11 ∷ []) ≡ refused 4 ∷ refused 16 ∷ refused 10 ∷ []
reports_refused = refl

pub nothing_below : answers (opened (pos 4)) (report (pos 0) (pos 101_000_000_000) 0 ∷ report (pos 0) (neg_ℤ (pos 101_000_000_001)) 0 ∷ []) ≡
    reported 0 [] ∷ refused 4 ∷ []
nothing_below = refl

-- ---- what cannot be undone

abbrev carrier : (number rate base : ℕ) → Offer
carrier n r b = record { number = pos n; rate = pos r; base = pos b }

-- by each cause: the number out of range or not live, the rate, the base, the number live, the book full; and a second entry after a first
pub not_undoable :
    (Undoable 2 [] (restore (carrier 0 1 1) ∷ []) → ⊥)
    × (Undoable 2 [] (restore (carrier 10_000 1 1) ∷ []) → ⊥)
    × (Undoable 2 [] (restore (carrier 1 100_001 1) ∷ []) → ⊥)
    × (Undoable 2 [] (restore (carrier 1 1 1_000_000_001) ∷ []) → ⊥)
    × (Undoable 2 (carrier 1 1 1 ∷ []) (restore (carrier 1 2 2) ∷ []) → ⊥)
    × (Undoable 1 (carrier 1 1 1 ∷ []) (restore (carrier 2 2 2) ∷ []) → ⊥)
    × (Undoable 2 (carrier 1 1 1 ∷ []) (unpost (pos 2) ∷ []) → ⊥)
    × (Undoable 2 (carrier 1 1 1 ∷ []) (unpost (pos 1) ∷ unpost (pos 1) ∷ []) → ⊥)
not_undoable = (
  λ u. u.0.0,
  λ u. u.0.0,
  λ u. u.0.1.0,
  λ u. u.0.1.1.0,
  λ u. u.0.1.1.1.0,
  λ u. u.0.1.1.1.1.0,
  λ u. u.0.1.0,
  λ u. u.1.0.1.0,
)

-- an offer goes out of a full book, and another comes back to it
pub undoable : Undoable 1 (carrier 1 1 1 ∷ []) (unpost (pos 1) ∷ restore (carrier 2 2 2) ∷ [])
undoable = ((tt, (tt, tt)), ((tt, (tt, (tt, (tt, (tt, tt))))), tt))
