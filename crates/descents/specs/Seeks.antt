-- A leaf sought by key: the way down goes right by a test of the seam's key, and what is told of the leaf at its end is told of the tree.
use Rattle.std.specs.Prelude.{◌≡◌, refl, Bool, true, false, ℕ, ◌-◌, ◌≤◌, ◌<◌, ℤ}
use Rattle.std.proofs.Common.{◌∙◌, ap, arith}
use Rattle.std.proofs.Math.Option.{Option, none, some}
use mathlib.Core.List.Memᴰ
use native.Mathlib.Numerals.{unary_clauses}
use Rattle.trees.specs.Tree.{Tree, leaf, node, height, leaves, last, Avl}
use Rattle.trees.specs.Leaves.{last_leaf}
use Rattle.table.specs.Fields.{most_levels, most_slots}
use Rattle.table.specs.Words.{Words}
use Rattle.table.specs.Layout.{cell}
use Rattle.table.specs.Items.{Item}
use Rattle.table.specs.Rep.{child_at, Rep}
use Rattle.table.specs.Nodes.{parents, leaf_low, not_spent}
use Rattle.table.specs.PartTrees.{low}
use Rattle.table.specs.Keys.{Keyed, keyed_left, keyed_right}
use Rattle.shape.specs.Splices.{inner_ref}
use Rattle.descents.specs.Downs.{Down, at_leaf, goes, over}
use Rattle.descents.specs.Ends.{pick, down, down_low}

-- what a key finds in a tree
abbrev pub Answer : Type 0
Answer = (Item → ℤ) → ℤ → Tree Item → Option Item

-- the slot of what was found, 0 for nothing
abbrev pub found_at : Option Item → ℕ
found_at none = 0
found_at (some a) = a.slot

pub record Answered (answer : Answer) (w : Words) (k f : ℕ) (sought : ℤ) (x r : ℕ) : Type 0 where
  pub is : (t : Tree Item) (key : Item → ℤ) → Rep w k x t → Avl t → Keyed w f key (leaves t) → r ≡ found_at (answer key sought t)
  pub nothing : x ≡ 0 → r ≡ 0

-- ---- the way down

-- node y, at most `limit` high, has what is sought if t has it
pub record Closer (answer : Answer) (w : Words) (k f : ℕ) (sought : ℤ) (y limit : ℕ) (t : Tree Item) (key : Item → ℤ) : Type 0 where
  pub here : Tree Item
  pub rep : Rep w k y here
  pub keyed : Keyed w f key (leaves here)
  pub same : answer key sought here ≡ answer key sought t
  pub high : height here ≤ limit

pub record Looking (answer : Answer) (w : Words) (k f : ℕ) (sought : ℤ) (x y limit : ℕ) : Type 0 where
  pub is : (t : Tree Item) (key : Item → ℤ) → Rep w k x t → Avl t → Keyed w f key (leaves t) → Closer answer w k f sought y limit t key
  pub nothing : x ≡ 0 → y ≡ 0

-- at a node the answer is that of the child to which the seam's key leads
abbrev pub Leads : Answer → (ℤ → ℤ → Bool) → Type 0
Leads answer right =
    (key : Item → ℤ) (sought : ℤ) (b : Bool) (l r : Tree Item) → b ≡ right sought (key (last l)) →
    answer key sought (pick b l r) ≡ answer key sought (node l r)

pub looking_begins : (answer : Answer) (w : Words) (k f : ℕ) (sought : ℤ) (x : ℕ) → Looking answer w k f sought x x most_levels
looking_begins answer w k f sought x =
    record { is = λ t key r a q. record { here = t; rep = r; keyed = q; same = refl; high = low w r.slots a }; nothing = λ e. e }

down_keyed : {w : Words} {f : ℕ} {key : Item → ℤ} (side : Bool) (l r : Tree Item) → Keyed w f key (leaves (node l r)) → Keyed w f key (leaves (pick side l r))
down_keyed false l r q = keyed_left (leaves r) q
down_keyed true l r q = keyed_right (leaves l) q

pub looking_on : {answer : Answer} {w : Words} {k f x y limit g z : ℕ} {b : Bool} (right : ℤ → ℤ → Bool) → Leads answer right → (sought : ℤ) →
    Looking answer w k f sought x y limit → most_slots < y → g ≡ y - most_slots → b ≡ right sought (cell w f g) → z ≡ child_at w k b y
    → Looking answer w k f sought x z (limit - 1)
looking_on {answer} {w} {k} {f} {x} {y} {limit} {g} {z} {b} right leads sought j h eg eb e =
    record {
      is = λ t key r a q. step t key (j.is t key r a q).here (j.is t key r a q).rep (j.is t key r a q).keyed (j.is t key r a q).same
          (j.is t key r a q).high;
      nothing = λ d. absurd (omega (arith, h, j.nothing d));
    }
  where
    step : (t : Tree Item) (key : Item → ℤ) (u : Tree Item) → Rep w k y u → Keyed w f key (leaves u) → answer key sought u ≡ answer key sought t →
        height u ≤ limit → Closer answer w k f sought z (limit - 1) t key
    step t key (leaf a) r q d n = absurd (omega (arith, h, leaf_low r))
    step t key (node l s) r q d n =
        record {
          here = pick b l s;
          rep = down b r e;
          keyed = down_keyed b l s q;
          same = leads key sought b l s told ∙ d;
          high = omega (arith, n, down_low b l s);
        }
      where
        told : b ≡ right sought (key (last l))
        told = eb ∙ ap (right sought) (ap (cell w f) (eg ∙ (parents r).seam_at) ∙ q.read (Memᴰ.append_left (leaves s) (last_leaf l)))

-- the limit is used up, which no balanced tree comes to
pub looking_over : {answer : Answer} {w : Words} {k f x y limit r : ℕ} {sought : ℤ} → Looking answer w k f sought x y limit → most_slots < y → limit ≡ 0 →
    Answered answer w k f sought x r
looking_over j h e =
    record {
      is = λ t key r a q. absurd (not_spent (j.is t key r a q).here h e (j.is t key r a q).rep (j.is t key r a q).high);
      nothing = λ d. absurd (omega (arith, h, j.nothing d));
    }

-- .. so that node 0 will do
looking_nowhere : {answer : Answer} {w : Words} {k f x y limit : ℕ} {sought : ℤ} → Looking answer w k f sought x y limit → most_slots < y → limit ≡ 0 →
    Looking answer w k f sought x 0 0
looking_nowhere j h e =
    record {
      is = λ t key r a q. absurd (not_spent (j.is t key r a q).here h e (j.is t key r a q).rep (j.is t key r a q).high);
      nothing = λ d. refl;
    }

-- the way down comes to a leaf, or to none
pub record Arrived (answer : Answer) (w : Words) (k f : ℕ) (sought : ℤ) (x r : ℕ) : Type 0 where
  pub low : r ≤ most_slots
  pub left : ℕ
  pub looking : Looking answer w k f sought x r left

pub looking_down : {step : ℕ → ℕ → Type 0} {answer : Answer} {w : Words} {k f x y limit r : ℕ} (right : ℤ → ℤ → Bool) → Leads answer right → (sought : ℤ) →
    ((u z : ℕ) → step u z → z ≡ child_at w k (right sought (cell w f (u - most_slots))) u) → Looking answer w k f sought x y limit →
    Down step limit y r → Arrived answer w k f sought x r
looking_down right leads sought steps j (at_leaf {limit = n} s) = record { low = s; left = n; looking = j }
looking_down right leads sought steps j (goes s c d) =
    looking_down right leads sought steps (simp unary_clauses at (looking_on right leads sought j s refl refl (steps _ _ c))) d
looking_down right leads sought steps j (over s) = record { low = omega arith; left = 0; looking = looking_nowhere j s refl }

-- at a leaf
pub looking_ends : {answer : Answer} {w : Words} {k f x y limit : ℕ} {sought : ℤ} (r : ℕ) → Looking answer w k f sought x y limit → y ≤ most_slots →
    (y ≡ 0 → r ≡ 0) → ((key : Item → ℤ) (a : Item) → y ≡ a.slot → cell w f y ≡ key a → r ≡ found_at (answer key sought (leaf a)))
    → Answered answer w k f sought x r
looking_ends {answer} {w} {k} {f} {x} {y} {limit} {sought} r j h zero told =
    record {
      is = λ t key r a q. stop t key (j.is t key r a q).here (j.is t key r a q).rep (j.is t key r a q).keyed (j.is t key r a q).same;
      nothing = λ i. zero (j.nothing i);
    }
  where
    stop : (t : Tree Item) (key : Item → ℤ) (u : Tree Item) → Rep w k y u → Keyed w f key (leaves u) → answer key sought u ≡ answer key sought t →
        r ≡ found_at (answer key sought t)
    stop t key (leaf a) p q i = told key a p.root (ap (cell w f) p.root ∙ q.read (Memᴰ.head refl)) ∙ ap found_at i
    stop t key (node l s) p q i = absurd (omega (arith, h, inner_ref p (omega arith)))
