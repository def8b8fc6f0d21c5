-- Theorems on specs/FirstLaws.
use Rattle.std.proofs.Common.{arith, sym, ◌∙◌, ap, ap₂, subst, inl, inr, ⊎_elim, T_not}
use Rattle.std.specs.Prelude.{◌≡◌, refl, ◌⊎◌, ◌↔◌, ◌≢◌, not, T, ℤ}
use mathlib.Core.List.Memᴰ
use mathlib.Core.List.{List, [], ◌∷◌, map, Memᴰ, Sublistᴰ}
use mathlib.Core.List.Pairwise
use mathlib.Core.List.{Pairwise}
use Rattle.std.proofs.Math.Dec.{T_prop, not_T}
use Rattle.std.specs.Int.Signed.{lt_z}
use Rattle.lists.specs.Filter.{keep_in}
use Rattle.lists.specs.Firsts.{firsts, firsts_sub, firsts_pairs}
use Rattle.lists.specs.Members.{decide_true, pairs_cons}
use Rattle.lists.specs.Places.{sublist_mem}
use Rattle.integers.specs.Parts.{int_rules}
use Rattle.offers.specs.Offers.{Offer, ahead}
use Rattle.offers.specs.Order.{Ahead, ahead_said, ahead_meant, ahead_asym, ahead_other, compare_offers, rate_falls}
use Rattle.envelopes.specs.PseudoLines.{Figure, PseudoLines}
use Rattle.envelopes.specs.Envelope.{Ordered, ordered_nil, ordered_cons}
use Rattle.envelopes.specs.EnvelopeLaws.{compare_lines, same_members}
use Rattle.lines.specs.Lines.{line_figure}
use Rattle.lines.proofs.Lines.{line_laws}
use Rattle.plain.specs.Book.{join}
use Rattle.plain.specs.Meaning.{FirstOfRate}
use Rattle.plain.proofs.Sound.{join_ordered}
use Rattle.plain.specs.FirstLaws.{Standing, pairs_standing, self, standing_pairs}

-- ---- offers
-- a posted offer joins in order
pub join_standing : (o : Offer) {os : List Offer} → Standing Offer self os → ((x : Offer) → Memᴰ x os → Ahead o x ⊎ Ahead x o) →
    Standing Offer self (join o os)
join_standing o {os} s new = pairs_standing Offer self (join_ordered o os (standing_pairs Offer self s) new)
