-- A row of subtrees in hand, from left to right. An update takes trees apart and puts neighbours together; the lines of the row stay as they are,
-- and its inner nodes but for the one that goes or comes.
use Rattle.std.specs.Prelude.{◌≡◌, refl}
use Rattle.std.proofs.Common.{sym, ap, subst, ◌∙◌, ⊎_elim}
use mathlib.Core.List.Memᴰ
use mathlib.Core.List.{List, [], ◌∷◌, ◌++◌, append_assoc, append-nil, Memᴰ, Sublistᴰ}
use mathlib.Core.List.Sublistᴰ
use Rattle.std.proofs.Math.Option.{Option, none, some}
use Rattle.lists.specs.Places.{prefix_sub}
use Rattle.trees.specs.Tree.{node, leaves}
use Rattle.meeting.specs.Machine.{Side, left, right}
use Rattle.dynamic.specs.OfferTree.{Held, held_shape}
use Rattle.dynamic.specs.Valid.{book_lines}
use Rattle.dynamic.specs.Work.{Inner, inners, book_inners}
use Rattle.dynamic.specs.Floors.{Added, added_here, added_there, added_between, added_behind}

module _ {A : Type 0} where
  abbrev pub lines_of : List (Held A) → List A
  lines_of [] = []
  lines_of (h ∷ hs) = leaves (held_shape h) ++ lines_of hs

  abbrev pub inners_of : List (Held A) → List (Inner A)
  inners_of [] = []
  inners_of (h ∷ hs) = inners (held_shape h) ++ inners_of hs

  -- a book as a row
  abbrev pub row_of : Option (Held A) → List (Held A)
  row_of none = []
  row_of (some h) = h ∷ []

  pub lines_row : (st : Option (Held A)) → lines_of (row_of st) ≡ book_lines st
  lines_row none = refl
  lines_row (some h) = append-nil (leaves (held_shape h))

  pub inners_row : (st : Option (Held A)) → inners_of (row_of st) ≡ book_inners st
  inners_row none = refl
  inners_row (some h) = append-nil (inners (held_shape h))

  pub lines_append : (xs ys : List (Held A)) → lines_of (xs ++ ys) ≡ lines_of xs ++ lines_of ys
  lines_append [] ys = refl
  lines_append (x ∷ xs) ys = rw (lines_append xs ys, append_assoc)

  -- the lines between two others, part of them moved to the row behind or in front
  pub lines_left : {live ls : List A} (ps ms rs qs : List A) → ps ++ (ls ++ qs) ≡ live → ls ≡ ms ++ rs → ps ++ (ms ++ (rs ++ qs)) ≡ live
  lines_left ps ms rs qs e d = ap (λ l. ps ++ l) (sym (append_assoc ms rs qs) ∙ ap (λ l. l ++ qs) (sym d)) ∙ e

  pub lines_right :
      {live ls : List A} (xs : List (Held A)) (h : Held A) (rs qs : List A) →
      lines_of xs ++ (ls ++ qs) ≡ live →
      ls ≡ leaves (held_shape h) ++ rs →
      lines_of (xs ++ h ∷ []) ++ (rs ++ qs) ≡ live
  lines_right xs h rs qs e d =
      ap (λ l. l ++ (rs ++ qs)) (lines_append xs (h ∷ []) ∙ ap (λ l. lines_of xs ++ l) (append-nil (leaves (held_shape h))))
      ∙ append_assoc (lines_of xs) (leaves (held_shape h)) (rs ++ qs)
      ∙ lines_left (lines_of xs) (leaves (held_shape h)) rs qs e d

  -- the inner node above two subtrees
  abbrev pub above : Held A → Held A → Inner A
  above l r = record { front = leaves (held_shape l); back = leaves (held_shape r) }

module _ {A : Type 0} {h : Held A} where
  -- a single line more has no inner node
  pub single_inners : {hs ks : List (Held A)} → inners (held_shape h) ≡ [] → Added h hs ks → inners_of ks ≡ inners_of hs
  single_inners {hs} e (added_here d) = ap (λ ns. ns ++ inners_of hs) (ap (λ x. inners (held_shape x)) (sym d) ∙ e)
  single_inners e (added_there {x} m) = ap (λ ns. inners (held_shape x) ++ ns) (single_inners e m)

  pub added_all : {P : Held A → Type 0} {hs ks : List (Held A)} → Added h hs ks → P h → ((x : Held A) → Memᴰ x hs → P x) → (x : Held A) →
      Memᴰ x ks → P x
  added_all {P} (added_here d) p f x i = ⊎_elim (λ e. subst P (d ∙ sym e) p) (f x) (Memᴰ.cases_cons i)
  added_all {P} (added_there m) p f x i =
      ⊎_elim (λ e. f x (Memᴰ.head e)) (λ j. added_all {P = P} m p (λ y k. f y (Memᴰ.tail k)) x j) (Memᴰ.cases_cons i)

  pub added_in : {hs ks : List (Held A)} → Added h hs ks → {x : Held A} → Memᴰ x hs → Memᴰ x ks
  added_in (added_here d) i = Memᴰ.tail i
  added_in (added_there m) i = ⊎_elim Memᴰ.head (λ j. Memᴰ.tail (added_in m j)) (Memᴰ.cases_cons i)

-- The second row is the first with the neighbours l and r replaced by h.
pub data Merged {A : Type 0} (l r h : Held A) : List (Held A) → List (Held A) → Type 0 where
  merged_here : {hs : List (Held A)} → Merged l r h (l ∷ r ∷ hs) (h ∷ hs)
  merged_there : {x : Held A} {hs ks : List (Held A)} → Merged l r h hs ks → Merged l r h (x ∷ hs) (x ∷ ks)

module _ {A : Type 0} {l r h : Held A} where
  pub merged_behind : (xs : List (Held A)) {hs ks : List (Held A)} → Merged l r h hs ks → Merged l r h (xs ++ hs) (xs ++ ks)
  merged_behind [] m = m
  merged_behind (x ∷ xs) m = merged_there (merged_behind xs m)

  -- ---- members

  pub left_in : {hs ks : List (Held A)} → Merged l r h hs ks → Memᴰ l hs
  left_in merged_here = Memᴰ.head refl
  left_in (merged_there m) = Memᴰ.tail (left_in m)

  pub right_in : {hs ks : List (Held A)} → Merged l r h hs ks → Memᴰ r hs
  right_in merged_here = Memᴰ.tail (Memᴰ.head refl)
  right_in (merged_there m) = Memᴰ.tail (right_in m)

  pub whole_in : {hs ks : List (Held A)} → Merged l r h hs ks → Memᴰ h ks
  whole_in merged_here = Memᴰ.head refl
  whole_in (merged_there m) = Memᴰ.tail (whole_in m)

  -- what holds of all but the two holds of all but the one
  pub merge_all : {P : Held A → Type 0} {hs ks : List (Held A)} → Merged l r h hs ks → P h → ((x : Held A) → Memᴰ x hs → P x) → (x : Held A) →
      Memᴰ x ks → P x
  merge_all {P} merged_here p f x i = ⊎_elim (λ (e : x ≡ h). subst P (sym e) p) (λ j. f x (Memᴰ.tail (Memᴰ.tail j))) (Memᴰ.cases_cons i)
  merge_all {P} (merged_there {x = y} m) p f x i =
      ⊎_elim (λ (e : x ≡ y). f x (Memᴰ.head e)) (λ k. merge_all m p (λ z j. f z (Memᴰ.tail j)) x k) (Memᴰ.cases_cons i)

  pub part_all : {P : Held A → Type 0} {hs ks : List (Held A)} → Merged l r h hs ks → P l → P r → ((x : Held A) → Memᴰ x ks → P x) → (x : Held A) →
      Memᴰ x hs → P x
  part_all {P} merged_here p q f x i =
      ⊎_elim
      (λ (e : x ≡ l). subst P (sym e) p)
      (λ j. ⊎_elim (λ (e : x ≡ r). subst P (sym e) q) (λ k. f x (Memᴰ.tail k)) (Memᴰ.cases_cons j))
      (Memᴰ.cases_cons i)
  part_all {P} (merged_there {x = y} m) p q f x i =
      ⊎_elim (λ (e : x ≡ y). f x (Memᴰ.head e)) (λ k. part_all m p q (λ z j. f z (Memᴰ.tail j)) x k) (Memᴰ.cases_cons i)

  -- ---- lines and inner nodes

  -- the lines of the two stand side by side
  pub merged_sub : {hs ks : List (Held A)} → Merged l r h hs ks → Sublistᴰ (leaves (held_shape l) ++ leaves (held_shape r)) (lines_of hs)
  merged_sub (merged_here {hs}) =
      Sublistᴰ.append (Sublistᴰ.refl (leaves (held_shape l))) (prefix_sub (leaves (held_shape r)) (lines_of hs))
  merged_sub (merged_there {x} m) = Sublistᴰ.append (Sublistᴰ.nil-sublist (leaves (held_shape x))) (merged_sub m)

  pub merged_lines : {hs ks : List (Held A)} → held_shape h ≡ node (held_shape l) (held_shape r) → Merged l r h hs ks → lines_of ks ≡ lines_of hs
  merged_lines e merged_here = rw (e, append_assoc)
  merged_lines e (merged_there {x} m) = ap (λ ls. leaves (held_shape x) ++ ls) (merged_lines e m)

  pub merged_inners : {hs ks : List (Held A)} → held_shape h ≡ node (held_shape l) (held_shape r) → Merged l r h hs ks →
      Added (above l r) (inners_of hs) (inners_of ks)
  merged_inners e merged_here = rw (e, append_assoc) (added_between (inners (held_shape l)) _)
  merged_inners e (merged_there {x} m) = added_behind (inners (held_shape x)) (merged_inners e m)

-- ---- seen from a side: the outermost first

module _ {A : Type 0} where
  -- a row, listed from the side's outer end, in front of the given one
  abbrev pub row_on : Side → List (Held A) → List (Held A) → List (Held A)
  row_on left hs ys = hs ++ ys
  row_on right [] ys = ys
  row_on right (h ∷ hs) ys = row_on right hs (h ∷ ys)

  abbrev pub MergedOn : Side → (o i h : Held A) → List (Held A) → List (Held A) → Type 0
  MergedOn left o i h = Merged o i h
  MergedOn right o i h = Merged i o h

  merged_row : {l r h : Held A} (hs : List (Held A)) {ys zs : List (Held A)} → Merged l r h ys zs → Merged l r h (row_on right hs ys) (row_on right hs zs)
  merged_row [] m = m
  merged_row (h ∷ hs) m = merged_row hs (merged_there m)

  merged_seen : (side : Side) {o i h : Held A} {hs ks : List (Held A)} → Merged o i h hs ks → (ys : List (Held A)) →
      MergedOn side o i h (row_on side hs ys) (row_on side ks ys)
  merged_seen left merged_here ys = merged_here
  merged_seen left (merged_there m) ys = merged_there (merged_seen left m ys)
  merged_seen right (merged_here {hs}) ys = merged_row hs merged_here
  merged_seen right (merged_there {x} m) ys = merged_seen right m (x ∷ ys)

  pub merged_on :
      (side : Side) (xs : List (Held A)) {o i h : Held A} {hs ks : List (Held A)} →
      Merged o i h hs ks →
      (ys : List (Held A)) →
      MergedOn side o i h (xs ++ row_on side hs ys) (xs ++ row_on side ks ys)
  merged_on left xs m ys = merged_behind xs (merged_seen left m ys)
  merged_on right xs m ys = merged_behind xs (merged_seen right m ys)
