-- The lower envelope of a list of lines, and the listing (docs/REQUIREMENTS.md, 3.3).
use Rattle.std.specs.Prelude.{◌≢◌, Bool, not, ◌&&◌, T, length, get_or}
use mathlib.Core.List.{List, [], ◌∷◌, Memᴰ, Sublistᴰ}
use Rattle.lists.specs.Filter.{every, keep}
use Rattle.envelopes.specs.PseudoLines.{Figure, Below}
use Rattle.envelopes.specs.Bridge.{Chain}

-- The lines stand in order, each before all later ones.
pub data Ordered (S : Figure) : List S.Line → Type 0 where
  ordered_nil : Ordered S []
  ordered_cons : {a : S.Line} {ls : List S.Line} → ((b : S.Line) → Memᴰ b ls → T (S.before a b)) → Ordered S ls → Ordered S (a ∷ ls)

-- es is the lower envelope of ls: some of its lines, a chain, and at every point one of them is at or below each line of ls.
pub record Env (S : Figure) (ls es : List S.Line) : Type 0 where
  pub sub : Sublistᴰ es ls
  pub chain : (d : S.Line) → Chain S (λ i. get_or es i d) (length es)
  pub low : (x : S.Point) (l : S.Line) → Memᴰ l ls → (e : S.Line) × Memᴰ e es × T (S.at_most e l x)

-- One of the lines, at the point strictly below every other.
pub record Cheapest (S : Figure) (ls : List S.Line) (e : S.Line) (x : S.Point) : Type 0 where
  pub one_of : Memᴰ e ls
  pub below : (l : S.Line) → Memᴰ l ls → l ≢ e → Below S e l x

-- One of the lines, at the point the first in order among those of the least price.
pub record First (S : Figure) (ls : List S.Line) (e : S.Line) (x : S.Point) : Type 0 where
  pub one_of : Memᴰ e ls
  pub least : (l : S.Line) → Memᴰ l ls → T (S.at_most e l x)
  pub earlier : (l : S.Line) → Memᴰ l ls → T (S.before l e) → Below S e l x

-- A line stays if every crossing with an earlier one lies strictly left of every crossing with a later one.
abbrev pub stays : (S : Figure) → List S.Line → S.Line → Bool
stays S ls e = every (λ a. every (λ b. not (S.before a e && S.before e b && S.up_to (S.cross e b) (S.cross a e))) ls) ls

-- The lines that stay. `listed-exact` says that they are those which at some point are strictly below every other.
unfoldable pub listed : (S : Figure) → List S.Line → List S.Line
listed S ls = keep (stays S ls) ls
