-- A history that went wrong once, computed. Eleven offers stay; four more are posted and withdrawn along the way. One of these, (31, 4560), is hidden
-- under (35, 3000) and (29, 5330) in a lower branch when it leaves. When (29, 5330) leaves too, what lies under it comes up between 410 and 455 kg:
-- (30, 5050), and not the hidden offer that is gone. The tree after that history and the tree of a fresh book of the same eleven list the same.
use Rattle.std.specs.Prelude.{◌≡◌, refl, List, [], ◌∷◌, ◌++◌, ℕ, pos}
use Rattle.std.proofs.Common.{sym, ◌∙◌}
use Rattle.std.proofs.Math.Option.{Option, none, some}
use Rattle.offers.specs.Offers.{Offer, crossing_numerator, crossing_denominator}
use Rattle.lines.specs.OfferLines.{offer_figure}
use Rattle.trees.specs.Operations.{split, split_p, join, join_r, join_l, balance, rotate_right, rotate_left, double_right, double_left}
use Rattle.meeting.specs.Machine.{meet, run, step, compare, on_or_above, advance, retreat, pop, recede, ended, counted}
use Rattle.dynamic.specs.OfferTree.{Held, lower_tree, raise_by}
use Rattle.dynamic.specs.Updates.{posted, withdrawn, insert, remove, rebalance, rotate}
use Rattle.dynamic.specs.Valid.{book_envelope}

pub data Event : Type 0 where
  posts leaves : Offer → Event

-- the book after some events
unfoldable pub book : Option (Held Offer) → List Event → Option (Held Offer)
unfolding insert remove rebalance rotate raise_by lower_tree split split_p join join_r join_l balance rotate_right rotate_left double_right double_left meet run step
    compare on_or_above advance retreat pop recede ended counted
book h [] = h
book h (posts o ∷ es) = book (some (posted offer_figure o h).held) es
book h (leaves o ∷ es) = book (withdrawn offer_figure o h).rest es

abbrev pub offer : (number rate base : ℕ) → Offer
offer n r b = record { number = pos n; rate = pos r; base = pos b }

abbrev pub a1 : Offer
a1 = offer 1 50 0

abbrev pub a2 : Offer
a2 = offer 2 45 500

abbrev pub a3 : Offer
a3 = offer 3 40 1500

abbrev pub a4 : Offer
a4 = offer 4 35 3000

abbrev pub a5 : Offer
a5 = offer 5 30 5050

abbrev pub a6 : Offer
a6 = offer 6 25 7325

abbrev pub a7 : Offer
a7 = offer 7 20 9925

abbrev pub a8 : Offer
a8 = offer 8 15 12925

abbrev pub a9 : Offer
a9 = offer 9 10 16425

abbrev pub a10 : Offer
a10 = offer 10 5 20425

abbrev pub a11 : Offer
a11 = offer 11 0 24925

abbrev pub hidden : Offer
hidden = offer 12 31 4560

abbrev pub cover : Offer
cover = offer 13 29 5330

abbrev pub early : Offer
early = offer 14 42 900

abbrev pub late : Offer
late = offer 15 12 15000

abbrev pub eleven : List Offer
eleven = a1 ∷ a2 ∷ a3 ∷ a4 ∷ a5 ∷ a6 ∷ a7 ∷ a8 ∷ a9 ∷ a10 ∷ a11 ∷ []

-- up to where the cover leaves
abbrev pub before_last : List Event
before_last =
    posts a1
    ∷ posts a6
    ∷ posts early
    ∷ posts a3
    ∷ posts cover
    ∷ posts hidden
    ∷ posts a4
    ∷ posts a5
    ∷ posts a8
    ∷ leaves early
    ∷ posts a2
    ∷ leaves hidden
    ∷ posts a7
    ∷ posts late
    ∷ posts a9
    ∷ posts a10
    ∷ posts a11
    ∷ leaves late
    ∷ []

abbrev pub fresh : List Event
fresh = posts a1 ∷ posts a2 ∷ posts a3 ∷ posts a4 ∷ posts a5 ∷ posts a6 ∷ posts a7 ∷ posts a8 ∷ posts a9 ∷ posts a10 ∷ posts a11 ∷ []

-- with the cover there, it stands where (30, 5050) would
pub covered : book_envelope (book none before_last) ≡ a1 ∷ a2 ∷ a3 ∷ a4 ∷ cover ∷ a6 ∷ a7 ∷ a8 ∷ a9 ∷ a10 ∷ a11 ∷ []
unfolding book
covered = refl

pub uncovered : book_envelope (book none (before_last ++ (leaves cover ∷ []))) ≡ eleven
unfolding book
uncovered = refl

pub freshly_listed : book_envelope (book none fresh) ≡ eleven
unfolding book
freshly_listed = refl

pub same_listing : book_envelope (book none (before_last ++ (leaves cover ∷ []))) ≡ book_envelope (book none fresh)
same_listing = uncovered ∙ sym freshly_listed

-- 410 and 455 kg, unreduced
pub between_410_and_455 : crossing_numerator a4 a5 ∷ crossing_denominator a4 a5 ∷ crossing_numerator a5 a6 ∷ crossing_denominator a5 a6 ∷ [] ≡ pos 2050 ∷ pos 5
    ∷ pos 2275 ∷ pos 5 ∷ []
between_410_and_455 = refl
