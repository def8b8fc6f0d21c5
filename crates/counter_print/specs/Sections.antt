-- Sections of a list, as code cuts them out, and a list put together from them.
use Rattle.std.specs.Prelude.{ℕ, ◌+◌, ◌-◌, ◌≡◌, List, ◌++◌, length, take, drop}
use Rattle.std.proofs.Common.{sym, ◌∙◌, ap, arith, take_at, drop_at, drop-drop, take-add, take_all}

-- The bytes from `from` to `to`.
abbrev pub between : (from to : ℕ) → List ℕ → List ℕ
between from to l = take (to - from) (drop from l)

-- The middle of a list in three parts.
module _ (left middle right : List ℕ) (from width : ℕ) (l : length left ≡ from) (m : length middle ≡ width) where
  pub parts_left : take from (left ++ (middle ++ right)) ≡ left
  parts_left = take_at left (middle ++ right) from l

  parts_rest : drop from (left ++ (middle ++ right)) ≡ middle ++ right
  parts_rest = drop_at left (middle ++ right) from l

  pub parts_middle : take width (drop from (left ++ (middle ++ right))) ≡ middle
  parts_middle = rw parts_rest (take_at middle right width m)

  pub parts_right : drop (from + width) (left ++ (middle ++ right)) ≡ right
  parts_right = rw (← drop-drop width from, parts_rest) (drop_at middle right width m)

-- A list is its sections in a row.
pub two_parts : (a b : ℕ) (l : List ℕ) → length l ≡ a + b → l ≡ take a l ++ take b (drop a l)
two_parts a b l e = sym (take_all (a + b) l (omega arith)) ∙ take-add a b l

pub three_parts : (a b c : ℕ) (l : List ℕ) → length l ≡ a + b + c → l ≡ take a l ++ take b (drop a l) ++ take c (drop (a + b) l)
three_parts a b c l e = two_parts (a + b) c l e ∙ ap (λ (t : List ℕ). t ++ take c (drop (a + b) l)) (take-add a b l)
