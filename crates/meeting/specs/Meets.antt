-- The search on two trees whose leaves are envelopes: it finishes at the bridge within 3 × (hl + hr) + 1 steps.
use Rattle.std.specs.Prelude.{ℕ, suc, ◌+◌, ◌*◌, ◌-◌, ◌≤◌, ◌<◌, ◌≡◌, true, [], length, get_or}
use Rattle.std.proofs.Common.{arith, sym, ◌∙◌, ap, length-append, get_or-append-add}
use Rattle.std.proofs.Math.Path.{refl}
use Rattle.std.proofs.Math.Logic.{inl}
use Rattle.std.proofs.Math.Option.{none}
use Rattle.std.proofs.Math.ListN.{get_or-append}
use Rattle.envelopes.specs.PseudoLines.{Figure, PseudoLines}
use Rattle.envelopes.specs.Bridge.{Facing, Bridge}
use Rattle.envelopes.proofs.Search.{facts}
use Rattle.trees.specs.Tree.{Tree, leaf, node, height, leaves}
use Rattle.meeting.specs.Machine.{Side, left, right, away, toward, start, meet, Result}
use Rattle.meeting.specs.Located.{Spans, one, two, bottom, Aim, Stands}
use Rattle.meeting.specs.Moves.{half, owes_root}
use Rattle.meeting.specs.Verdicts.{Meeting, FactsOf}
use Rattle.meeting.specs.Bridging.{Sound, potential}

-- ---- a tree's lines, counted from the outer end

abbrev pub place_from : Side → ℕ → ℕ → ℕ
place_from left n i = i
place_from right n i = n - suc i

module _ {A : Type 0} where
  abbrev pub size : Tree A → ℕ
  size t = length (leaves t)

  abbrev pub line_from : Side → Tree A → A → ℕ → A
  line_from side t d i = get_or (leaves t) (place_from side (size t) i) d

module _ {A : Type 0} (a : ℕ → A) (d : A) where
  -- from lo on, a counts the tree's lines
  abbrev pub Counts : Side → ℕ → Tree A → Type 0
  Counts side lo t = (i : ℕ) → i < size t → a (lo + i) ≡ line_from side t d i

  pub front : (l r : Tree A) (k i : ℕ) → k ≡ i → i < size l → get_or (leaves (node l r)) k d ≡ get_or (leaves l) i d
  front l r k i e h = ap (λ (z : ℕ). get_or (leaves (node l r)) z d) e ∙ get_or-append (leaves l) (leaves r) d i h

  pub back : (l r : Tree A) (k i : ℕ) → k ≡ size l + i → get_or (leaves (node l r)) k d ≡ get_or (leaves r) i d
  back l r k i e = ap (λ (z : ℕ). get_or (leaves (node l r)) z d) e ∙ get_or-append-add (leaves l) (leaves r) i d

  pub counts_away : (side : Side) (lo : ℕ) (l r : Tree A) → Counts side lo (node l r) → Counts side lo (away side l r)
  counts_away left lo l r c i h = c i (omega (arith, length-append (leaves l) (leaves r))) ∙ front l r i i refl h
  counts_away right lo l r c i h =
      let e : size (node l r) ≡ size l + size r = length-append (leaves l) (leaves r) in
      c i (omega arith) ∙ back l r _ (size r - suc i) (omega arith)

  pub counts_toward : (side : Side) (lo : ℕ) (l r : Tree A) → Counts side lo (node l r) → Counts side (lo + size (away side l r)) (toward side l r)
  counts_toward left lo l r c i h =
      let e : size (node l r) ≡ size l + size r = length-append (leaves l) (leaves r) in
      ap a (omega arith) ∙ c (size l + i) (omega arith) ∙ back l r _ i refl
  counts_toward right lo l r c i h =
      let e : size (node l r) ≡ size l + size r = length-append (leaves l) (leaves r) in
      ap a (omega arith) ∙ c (size r + i) (omega arith) ∙ front l r _ (size l - suc i) (omega arith) (omega arith)

  pub size_node : (side : Side) (l r : Tree A) → size (node l r) ≡ size (away side l r) + size (toward side l r)
  size_node left l r = length-append (leaves l) (leaves r)
  size_node right l r = omega (arith, length-append (leaves l) (leaves r))

  abbrev pub Spanned : Side → Tree A → Type 0
  Spanned side t = (lo hi : ℕ) → hi ≡ lo + size t → Counts side lo t → Spans side a lo t hi

  pub spans_node : (side : Side) (l r : Tree A) → Spanned side (away side l r) → Spanned side (toward side l r) → Spanned side (node l r)
  spans_node side l r f g lo hi e c =
      two (f lo (lo + size (away side l r)) refl (counts_away side lo l r c)) (g (lo + size (away side l r)) hi (omega (arith, size_node side l r))
      (counts_toward side lo l r c))

  pub leaf_line : (side : Side) (x : A) → line_from side (leaf x) d 0 ≡ x
  leaf_line left x = refl
  leaf_line right x = refl

  pub spans_leaf : (side : Side) (x : A) → Spanned side (leaf x)
  spans_leaf side x lo hi e c =
      let q : hi ≡ suc lo = omega arith in
      let p : a lo ≡ x = ap a (omega arith) ∙ c 0 (omega arith) ∙ leaf_line side x in
      rw q (one (sym p))

  pub spans_of : (side : Side) (t : Tree A) → Spanned side t
  spans_of side (leaf x) = spans_leaf side x
  spans_of left (node l r) = spans_node left l r (spans_of left l) (spans_of left r)
  spans_of right (node l r) = spans_node right l r (spans_of right r) (spans_of right l)

-- A tree spans its lines.
pub spans_tree : {A : Type 0} (side : Side) (t : Tree A) (d : A) → Spans side (line_from side t d) 0 t (size t)
spans_tree side t d = spans_of (line_from side t d) d side t 0 (size t) (omega arith) (λ i h. ap (line_from side t d) (omega arith))

-- ---- the search from the roots

-- The search finished at these two lines, within the steps allowed.
pub record Met {A : Type 0} (limit : ℕ) (u v : A) (r : Result A) : Type 0 where
  pub finished : r.finished ≡ true
  pub at_left : r.u.tree ≡ leaf u
  pub at_right : r.v.tree ≡ leaf v
  pub steps : r.steps ≤ limit

abbrev pub limit : {A : Type 0} → Tree A → Tree A → ℕ
limit l r = 3 * (height l + height r) + 1

abbrev pub root_stands : {A : Type 0} (side : Side) (t : Tree A) (g : Aim A) → g.tall ≡ height t → g.star < g.count →
    Spans side g.line 0 t g.count → Stands side g (half t none [])
root_stands side t g e h s =
    record {
      lo = 0;
      hi = g.count;
      stacked = bottom;
      spans = s;
      edged = refl;
      shallow = omega arith;
      bounded = omega arith;
      covers = h;
    }

-- A search from the roots is sound, and what it has to pay is within the limit.
pub record Ready {S : Figure} (M : Meeting S) (l r : Tree S.Line) : Type 0 where
  pub sound : Sound M left (start l r).u (start l r).v
  pub afford : potential sound < limit l r
  pub tall_left : M.left_aim.tall ≡ height l
  pub tall_right : M.right_aim.tall ≡ height r

abbrev pub sides : (S : Figure) (l r : Tree S.Line) (a : ℕ → S.Line) (m : ℕ) (c : ℕ → S.Line) (n i j : ℕ) → FactsOf S a m c n i j → Meeting S
sides S l r a m c n i j f =
    record {
      left_aim = record { line = a; count = m; star = i; tall = height l };
      right_aim = record { line = c; count = n; star = j; tall = height r };
      facts = f;
    }

-- From the five facts alone.
module _ (S : Figure) (l r : Tree S.Line) (a : ℕ → S.Line) (m : ℕ) (c : ℕ → S.Line) (n i j : ℕ) where
  pub ready_by : Spans left a 0 l m → Spans right c 0 r n → i < m → j < n → (f : FactsOf S a m c n i j) → Ready (sides S l r a m c n i j f) l r
  unfolding potential
  ready_by p q h k f =
      let M : Meeting S = sides S l r a m c n i j f in
      let us = root_stands left l M.left_aim refl h p in
      let them = root_stands right r M.right_aim refl k q in
      let s : Sound M left (half l none []) (half r none []) = record { us = us; them = them; held = inl (omega arith) } in
      record { sound = s; afford = omega (arith, owes_root us, owes_root them); tall_left = refl; tall_right = refl }

-- Two trees whose leaves are envelopes that face each other, each counted from its outer end.
abbrev pub FacingTrees : (S : Figure) (l r : Tree S.Line) (d : S.Line) → Type 0
FacingTrees S l r d = Facing S (line_from left l d) (size l) (line_from right r d) (size r)

abbrev pub BridgeOf : (S : Figure) (l r : Tree S.Line) (d : S.Line) (i j : ℕ) → Type 0
BridgeOf S l r d i j = Bridge S (line_from left l d) (size l) (line_from right r d) (size r) i j

-- The search finds their bridge.
module _ (S : Figure) (L : PseudoLines S) (l r : Tree S.Line) (d : S.Line) (i j : ℕ) (F : FacingTrees S l r d) (B : BridgeOf S l r d i j) where
  pub five : FactsOf S (line_from left l d) (size l) (line_from right r d) (size r) i j
  five = facts S L (line_from left l d) (size l) (line_from right r d) (size r) F i j B

  pub meeting_of : (M : Meeting S) × Ready M l r
  meeting_of = (_, ready_by S l r _ _ _ _ i j (spans_tree left l d) (spans_tree right r d) B.on_left.inside B.on_right.inside five)
