-- The whole search: on two trees of envelopes that face each other it ends where the machine ends, after as many steps.
use Prim.Native.Nat.{ℕ, zero, suc, ◌+◌, ◌*◌, ◌-◌, ◌≤◌, ◌<◌}
use Rattle.std.proofs.Common.{arith, ◌∙◌, subst₂, true≢false}
use Rattle.std.specs.Prelude.{◌≡◌, false, ◌⊎◌, length, get_or, replicate}
use Rattle.std.proofs.Math.Path.{refl, sym, ap}
use Rattle.std.proofs.Math.Bool.{true}
use Rattle.std.proofs.Math.Logic.{inl, inr}
use mathlib.Core.List.{List, [], ◌∷◌, IsChain}
use Rattle.std.proofs.Math.Option.{Option, none, some}
use Rattle.envelopes.specs.Bridge.{Facing}
use Rattle.envelopes.proofs.Search.{facts}
use Rattle.envelopes.proofs.Exists.{bridge}
use Rattle.trees.specs.Tree.{Tree, leaf, height, leaves, first}
use Rattle.trees.specs.Leaves.{some_leaf}
use Rattle.meeting.specs.Machine.{left, right, State, step, Result, ended, counted, start, run, meet}
use Rattle.meeting.specs.Moves.{half, owes_root}
use Rattle.meeting.specs.Verdicts.{Meeting, aim}
use Rattle.meeting.specs.Bridging.{Sound, potential, Stepped as Progress}
use Rattle.meeting.proofs.Bridging.{step_sound}
use Rattle.meeting.specs.Meets.{size, line_from, limit, spans_tree, root_stands}
use Rattle.meeting.specs.Reach.{later}
use Rattle.table.specs.Fields.{most_levels, piece_tree}
use Rattle.table.specs.Words.{Words}
use Rattle.table.specs.Items.{Item}
use Rattle.table.specs.Rep.{Rep, ref_of}
use Rattle.table.specs.Threads.{Holds, Threaded}
use Rattle.search.specs.declared.Search.{Search}
use Rattle.search.specs.declared.Met.{Met}
use Rattle.walks.specs.ItemLines.{item_figure, item_laws, Falls}
use Rattle.walks.specs.SearchedPieces.{Pieces}
use Rattle.walks.specs.Walks.{empty, Fares}
use Rattle.search.specs.SearchSteps.{u_of, v_of, Searches, After, Stepped}

-- ---- what the search is given

-- a tree of pieces kept in a table, its offers held and threaded
pub record Kept (w : Words) (x : ℕ) (t : Tree Item) : Type 0 where
  pub rep : Rep w piece_tree x t
  pub holds : Holds w (leaves t)
  pub threaded : Threaded w (leaves t)
  pub low : height t ≤ most_levels

-- two of them whose leaves are chains, all of the left before all of the right
pub record Faced (wl wr : Words) (x y : ℕ) (tl tr : Tree Item) : Type 0 where
  pub left_kept : Kept wl x tl
  pub right_kept : Kept wr y tr
  pub facing : Facing item_figure (line_from left tl (first tl)) (size tl) (line_from right tr (first tl)) (size tr)

-- ---- what it is held to

-- the search has ended where the machine ends: at two leaves, of which it tells the slots
pub record Answers (r : Met) (m : Result Item) : Type 0 where
  pub done : r.done ≡ true
  pub finished : m.finished ≡ true
  pub left : Item
  pub right : Item
  pub at_left : m.u.tree ≡ leaf left
  pub at_right : m.v.tree ≡ leaf right
  pub u : r.u ≡ ref_of m.u.tree
  pub v : r.v ≡ ref_of m.v.tree
  pub steps : r.steps ≡ m.steps

-- What is promised of the search's answer, on any words and any roots.
pub record Meets (wl wr : Words) (x y : ℕ) (r : Met) : Type 0 where
  pub few : r.steps ≤ 145
  pub met : {tl tr : Tree Item} → Faced wl wr x y tl tr → Answers r (meet item_figure tl tr)

-- ---- both trees are in order

-- a chain by its places
chain_by : {A : Type 0} {R : A → A → Type 0} (d : A) (xs : List A) → ((i : ℕ) → suc i < length xs → R (get_or xs i d) (get_or xs (suc i) d)) → IsChain R xs
chain_by d [] f = IsChain.nil
chain_by d (a ∷ []) f = IsChain.singleton a
chain_by d (a ∷ b ∷ xs) f = IsChain.cons-cons (f 0 (omega arith)) (chain_by d (b ∷ xs) (λ i h. f (suc i) (omega arith)))

module _ {wl wr : Words} {x y : ℕ} {tl tr : Tree Item} (F : Faced wl wr x y tl tr) where
  falls_left : IsChain Falls (leaves tl)
  falls_left = chain_by (first tl) (leaves tl) (λ i h. F.facing.left.ordered i h)

  -- the right one is counted from its last line
  falls_right : IsChain Falls (leaves tr)
  falls_right = chain_by (first tl) (leaves tr) (λ i h. at i h)
    where
      at : (i : ℕ) → suc i < size tr → Falls (get_or (leaves tr) i (first tl)) (get_or (leaves tr) (suc i) (first tl))
      at i h =
          let j : ℕ = size tr - suc (suc i) in
          let p : size tr - suc (suc j) ≡ i = omega arith in
          let q : size tr - suc j ≡ suc i = omega arith in
          subst₂ (λ (s t : ℕ). Falls (get_or (leaves tr) s (first tl)) (get_or (leaves tr) t (first tl))) p q (F.facing.right.ordered j (omega arith))

  pub left_pieces : Pieces wl x tl
  left_pieces = record { rep = F.left_kept.rep; holds = F.left_kept.holds; threaded = F.left_kept.threaded; falling = falls_left }

  pub right_pieces : Pieces wr y tr
  right_pieces = record { rep = F.right_kept.rep; holds = F.right_kept.holds; threaded = F.right_kept.threaded; falling = falls_right }

-- ---- the search under way

module _ {A : Type 0} where
  stepped_as : (r : Result A) (k : ℕ) (z : Result A) → r.finished ≡ z.finished → r.u ≡ z.u → r.v ≡ z.v → r.steps ≡ k + z.steps → r ≡ later k z
  stepped_as r k z a b c d = λ i. record { finished = a i; u = b i; v = c i; steps = d i }

-- k steps are done: the state stands for the machine's, which is sound and has more steps left than it owes
pub record Underway (wl wr : Words) (tl tr : Tree Item) (s : Search) (k : ℕ) : Type 0 where
  pub meeting : Meeting item_figure
  pub left_tall : meeting.left_aim.tall ≤ most_levels
  pub right_tall : meeting.right_aim.tall ≤ most_levels
  pub state : State Item
  pub left_over : ℕ
  pub budget : left_over + k ≡ limit tl tr
  pub sound : Sound meeting left state.u state.v
  pub owed : potential sound < left_over
  pub stood : Searches wl wr s state
  pub same : meet item_figure tl tr ≡ later k (run item_figure left_over state)

-- what the loop keeps
pub record Going (wl wr : Words) (x y : ℕ) (s : Search) (k : ℕ) : Type 0 where
  pub going : {tl tr : Tree Item} → Faced wl wr x y tl tr → Underway wl wr tl tr s k

-- at the roots no more is owed than three for each level
root_owed : {M : Meeting item_figure} {l r : Tree Item} (i : Sound M left (half l none []) (half r none [])) → potential i ≤ 3 * (height l + height r)
unfolding potential
root_owed i = omega (arith, owes_root i.us, owes_root i.them)

-- a search at its start
abbrev pub started : ℕ → ℕ → Search
started x y =
    record {
      u = x;
      v = y;
      us = replicate most_levels 0;
      ud = 0;
      vs = replicate most_levels 0;
      vd = 0;
      done = false;
    }

begun : {wl wr : Words} {x y : ℕ} {tl tr : Tree Item} → Faced wl wr x y tl tr → Underway wl wr tl tr (started x y) 0
unfolding meet
begun {wl} {wr} {x} {y} {tl} {tr} F =
    let a : ℕ → Item = line_from left tl (first tl) in
    let c : ℕ → Item = line_from right tr (first tl) in
    let (i, j, B) = bridge item_figure item_laws a (size tl) c (size tr) F.facing (some_leaf tl) (some_leaf tr) in
    let M : Meeting item_figure =
    record {
      left_aim = record { line = a; count = size tl; star = i; tall = height tl };
      right_aim = record { line = c; count = size tr; star = j; tall = height tr };
      facts = facts item_figure item_laws a (size tl) c (size tr) F.facing i j B;
    } in
    let z : Sound M left (half tl none []) (half tr none []) =
    record {
      us = root_stands left tl M.left_aim refl B.on_left.inside (spans_tree left tl (first tl));
      them = root_stands right tr M.right_aim refl B.on_right.inside (spans_tree right tr (first tl));
      held = inl (omega arith);
    } in
    record {
      meeting = M;
      left_tall = F.left_kept.low;
      right_tall = F.right_kept.low;
      state = start tl tr;
      left_over = limit tl tr;
      budget = omega arith;
      sound = z;
      owed = omega (arith, root_owed z);
      stood =
          record {
            u = record { here = left_pieces F; stacks = empty; room = refl };
            v = record { here = right_pieces F; stacks = empty; room = refl };
          };
      same = stepped_as (meet item_figure tl tr) 0 (meet item_figure tl tr) refl refl refl (omega arith);
    }

pub going_start : {wl wr : Words} {x y : ℕ} {s : Search} → s ≡ started x y → Going wl wr x y s 0
going_start e = record { going = λ F. rw e (begun F) }

-- ---- a turn of the loop

-- what a step makes of a search under way
abbrev Turned : Words → Words → Tree Item → Tree Item → Search → ℕ → Type 0
Turned wl wr tl tr r k = ((r.done ≡ true) × Answers (record { u = r.u; v = r.v; steps = k; done = true }) (meet item_figure tl tr)) ⊎
    ((r.done ≡ false) × Underway wl wr tl tr r k)

module _ {wl wr : Words} {tl tr : Tree Item} {s : Search} {k : ℕ} (g : Underway wl wr tl tr s k) where
  fares_u : Fares wl false (u_of s) g.state.u
  fares_u = record { aim = g.meeting.left_aim; low = g.left_tall; stands = g.sound.us; stood = g.stood.u }

  fares_v : Fares wr true (v_of s) g.state.v
  fares_v = record { aim = g.meeting.right_aim; low = g.right_tall; stands = g.sound.them; stood = g.stood.v }

  -- one step of the machine is one of the steps that are left
  turned_by : {r : Search} (n : ℕ) → n + k ≡ limit tl tr → potential g.sound < n → meet item_figure tl tr ≡ later k (run item_figure n g.state) →
      (o : Option (State Item)) → step item_figure g.state ≡ o → Progress g.meeting g.sound o → After wl wr s r o → Turned wl wr tl tr r (k + 1)
  unfolding run ended counted
  turned_by zero b p e o q z a = absurd (omega arith)
  turned_by {r} (suc n) b p e none q z a =
      let f : meet item_figure tl tr ≡ later k (ended true g.state 1) =
      e ∙ ap (λ (o : Option (State Item)). later k (elim o [ none ↦ ended true g.state 1 | some s' ↦ counted (run item_figure n s') ])) q in
      inl (
        a.0,
        record {
          done = refl;
          finished = ap (λ (m : Result Item). m.finished) f;
          left = (aim g.meeting left).line (aim g.meeting left).star;
          right = (aim g.meeting right).line (aim g.meeting right).star;
          at_left = ap (λ (m : Result Item). m.u.tree) f ∙ z.0.line;
          at_right = ap (λ (m : Result Item). m.v.tree) f ∙ z.1.line;
          u = a.1 ∙ g.stood.u.here.rep.root ∙ sym (ap (λ (m : Result Item). ref_of m.u.tree) f);
          v = a.2 ∙ g.stood.v.here.rep.root ∙ sym (ap (λ (m : Result Item). ref_of m.v.tree) f);
          steps = sym (ap (λ (m : Result Item). m.steps) f);
        },
      )
  turned_by {r} (suc n) b p e (some s') q (j, less) a =
      let f : meet item_figure tl tr ≡ later k (counted (run item_figure n s')) =
      e ∙ ap (λ (o : Option (State Item)). later k (elim o [ none ↦ ended true g.state 1 | some s' ↦ counted (run item_figure n s') ])) q in
      inr (
        a.0,
        record {
          meeting = g.meeting;
          left_tall = g.left_tall;
          right_tall = g.right_tall;
          state = s';
          left_over = n;
          budget = omega arith;
          sound = j;
          owed = omega arith;
          stood = a.1;
          same = f ∙ stepped_as (later k (counted (run item_figure n s'))) (k + 1) (run item_figure n s') refl refl refl (omega arith);
        },
      )

  turned : {r : Search} → Stepped wl wr s r → Turned wl wr tl tr r (k + 1)
  turned {r} z =
      turned_by g.left_over g.budget g.owed g.same (step item_figure g.state) refl (step_sound g.meeting g.state g.sound)
      (z.moved fares_u fares_v)

-- ---- each answer of the loop

module _ {wl wr : Words} {x y : ℕ} {s : Search} {k : ℕ} (g : Going wl wr x y s k) where
  module _ {r : Search} (z : Stepped wl wr s r) where
    pub going_on : r.done ≡ false → Going wl wr x y r (k + 1)
    going_on e = record { going = λ {tl} {tr} F. go tl tr (turned (g.going F) z) }
      where
        go : (tl tr : Tree Item) → Turned wl wr tl tr r (k + 1) → Underway wl wr tl tr r (k + 1)
        go tl tr (inl (d, a)) = absurd (true≢false (sym d ∙ e))
        go tl tr (inr (d, a)) = a

    pub going_done : r.done ≡ true → k < 145 → Meets wl wr x y (record { u = r.u; v = r.v; steps = k + 1; done = true })
    going_done e h = record { few = omega arith; met = λ {tl} {tr} F. go tl tr (turned (g.going F) z) }
      where
        go : (tl tr : Tree Item) → Turned wl wr tl tr r (k + 1) → Answers (record { u = r.u; v = r.v; steps = k + 1; done = true }) (meet item_figure tl tr)
        go tl tr (inl (d, a)) = a
        go tl tr (inr (d, a)) = absurd (true≢false (sym e ∙ d))

  -- the budget suffices
  pub going_over : 145 ≤ k → k ≤ 145 → Meets wl wr x y (record { u = s.u; v = s.v; steps = k; done = false })
  going_over h b = record { few = b; met = λ {tl} {tr} F. absurd (over tl tr F (g.going F)) }
    where
      over : (tl tr : Tree Item) → Faced wl wr x y tl tr → Underway wl wr tl tr s k → ⊥
      over tl tr F z = omega (arith, z.budget, z.owed, F.left_kept.low, F.right_kept.low)
