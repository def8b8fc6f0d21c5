-- A listing's words, written piece by piece along the thread, are the plain listing's.
use Rattle.std.specs.Prelude.{◌≡◌, refl, Bool, true, false, cond, ℕ, suc, ◌+◌, ◌*◌, ◌≤◌, ◌<◌, length, drop, ℤ, pos}
use Rattle.std.proofs.Common.{sym, ◌∙◌, ap, subst, arith, add-one, length-append, length-drop, take_at, drop-drop}
use mathlib.Core.List.Memᴰ
use mathlib.Core.List.IsChain
use mathlib.Core.List.{List, [], ◌∷◌, ◌++◌, append_assoc, append-nil, map}
use Rattle.std.proofs.Math.Numerals.{add-two}
use Rattle.std.proofs.lemmas.List.Edits.{sets-eq}
use Rattle.std.proofs.Math.Seq.{drop-append-add}
use Rattle.plain.specs.Book.{piece_words}
use Rattle.trees.specs.Tree.{Tree, leaves, first, Avl}
use Rattle.trees.specs.Leaves.{leaves_first}
use Rattle.table.specs.Fields.{denominator_field, next_piece_field, number_field, numerator_field, piece_tree}
use Rattle.table.specs.Words.{Words, wset, wset_length}
use Rattle.table.specs.Layout.{cell, link_at}
use Rattle.table.specs.Items.{Item}
use Rattle.table.specs.Threads.{Holds, holds_right, Threaded}
use Rattle.descents.specs.Ends.{Ended}
use Rattle.query.specs.Plain.{offer_of}
use Rattle.query.specs.QueriedPieces.{Pieces}
use Rattle.listing.specs.PieceCounts.{Counted}

-- the promise: the count; where the output is too short, all of it stays; else the pieces' words, and later ones stay
pub record Written (w : Words) (root : ℕ) (out out' : List ℤ) (r : ℕ) : Type 0 where
  pub counted : Counted w root r
  pub long : length out' ≡ length out
  pub short : length out < 3 * r → out' ≡ out
  pub words : (t : Tree Item) → Pieces w root t → Avl t → 3 * r ≤ length out → out' ≡ piece_words (map offer_of (leaves t)) ++ drop (3 * r) out
  pub none : root ≡ 0 → out' ≡ out

-- ---- one piece

-- a word of the crossing with the next piece; the last piece has none
abbrev pub crossing_word : Words → ℕ → ℕ → Bool → ℤ
crossing_word w f s last = cond last (pos 0) (cell w f s)

-- the three words of the piece in slot s, from place k on
abbrev pub piece_at : Words → ℕ → Bool → List ℤ → ℕ → List ℤ
piece_at w s last out k =
    wset (wset (wset out k (cell w number_field s)) (k + 1) (crossing_word w numerator_field s last)) (k + 2) (crossing_word w denominator_field s last)

pub piece_put :
    (w : Words) (s : ℕ) (last : Bool) (out : List ℤ) (k : ℕ) {x y z : ℤ} {out₁ out₂ out₃ : List ℤ} → x ≡ cell w number_field s →
    y ≡ crossing_word w numerator_field s last → z ≡ crossing_word w denominator_field s last →
    out₁ ≡ wset out k x → out₂ ≡ wset out₁ (k + 1) y → out₃ ≡ wset out₂ (k + 2) z → out₃ ≡ piece_at w s last out k
piece_put w s last out k ex ey ez e₁ e₂ e₃ = rw (e₃, e₂, e₁, ex, ey, ez)

-- the words at k are put behind those that are done
pub three_words : (done base : List ℤ) (k : ℕ) (x y z : ℤ) → length done ≡ k → k + 3 ≤ length base
    → wset (wset (wset (done ++ drop k base) k x) (k + 1) y) (k + 2) z ≡ (done ++ x ∷ y ∷ z ∷ []) ++ drop (k + 3) base
unfolding wset
three_words done base k x y z e h =
    rw (add-one k, add-two k)
    (sets-eq (x ∷ y ∷ z ∷ []) (done ++ drop k base) k room ∙ ap (λ l. (l ++ x ∷ y ∷ z ∷ []) ++ drop (k + 3) (done ++ drop k base))
    (take_at done (drop k base) k e) ∙ ap (λ l. (done ++ x ∷ y ∷ z ∷ []) ++ l) later)
  where
    room : k + 3 ≤ length (done ++ drop k base)
    room = omega (arith, length-append done (drop k base), length-drop k base)

    later : drop (k + 3) (done ++ drop k base) ≡ drop (k + 3) base
    later = ap (λ n. drop (n + 3) (done ++ drop k base)) (sym e) ∙ drop-append-add done (drop k base) 3 ∙ drop-drop 3 k base

pub piece_length : (w : Words) (s : ℕ) (last : Bool) (out : List ℤ) (k : ℕ) → length (piece_at w s last out k) ≡ length out
piece_length w s last out k = wset_length _ _ _ ∙ wset_length _ _ _ ∙ wset_length _ _ _

-- ---- on the way

-- s is the slot of the first, if there is one
abbrev pub HeadAt : ℕ → List Item → Type 0
HeadAt s [] = Unit {0}
HeadAt s (a ∷ xs) = s ≡ a.slot

-- i pieces are written, and those of `todo` are to follow
pub record Halfway (w : Words) (xs : List Item) (base : List ℤ) (s i : ℕ) (out : List ℤ) : Type 0 where
  pub done : List ℤ
  pub todo : List Item
  pub thread : Threaded w todo
  pub holds : Holds w todo
  pub head : HeadAt s todo
  pub size : length done ≡ 3 * i
  pub left : i + length todo ≡ length xs
  pub total : done ++ piece_words (map offer_of todo) ≡ piece_words (map offer_of xs)
  pub now : out ≡ done ++ drop (3 * i) base

module _ {w : Words} {xs : List Item} {base : List ℤ} {s i : ℕ} {out : List ℤ} (h : Halfway w xs base s i out) (room : 3 * length xs ≤ length base)
    (more : i < length xs) where
  put : (x y z : ℤ) → wset (wset (wset out (3 * i) x) (3 * i + 1) y) (3 * i + 2) z ≡ (h.done ++ x ∷ y ∷ z ∷ []) ++ drop (3 * (i + 1)) base
  put x y z =
      let next : 3 * i + 3 ≡ 3 * (i + 1) = omega arith in
      ap (λ o. wset (wset (wset o (3 * i) x) (3 * i + 1) y) (3 * i + 2) z) h.now
      ∙ three_words h.done base (3 * i) x y z h.size (omega arith)
      ∙ ap (λ n. (h.done ++ x ∷ y ∷ z ∷ []) ++ drop n base) next

  -- the piece of a is written, whose words are x, y and z
  onward :
      (last : Bool) {x y z : ℤ} (a : Item) (ys : List Item) →
      cell w number_field s ≡ x → crossing_word w numerator_field s last ≡ y → crossing_word w denominator_field s last ≡ z →
      piece_words (map offer_of (a ∷ ys)) ≡ x ∷ y ∷ z ∷ piece_words (map offer_of ys) → Threaded w ys → Holds w (a ∷ ys) → HeadAt (link_at w next_piece_field s) ys →
      i + length (a ∷ ys) ≡ length xs → h.done ++ piece_words (map offer_of (a ∷ ys)) ≡ piece_words (map offer_of xs) →
      Halfway w xs base (link_at w next_piece_field s) (i + 1) (piece_at w s last out (3 * i))
  onward last {x} {y} {z} a ys ex ey ez e c k n l t =
      record {
        done = h.done ++ x ∷ y ∷ z ∷ [];
        todo = ys;
        thread = c;
        holds = holds_right (a ∷ []) k;
        head = n;
        size = omega (arith, length-append h.done (x ∷ y ∷ z ∷ []), h.size);
        left = omega arith;
        total = append_assoc h.done (x ∷ y ∷ z ∷ []) (piece_words (map offer_of ys)) ∙ ap (λ ws. h.done ++ ws) (sym e) ∙ t;
        now = rw (ex, ey, ez) (put x y z);
      }

  -- the last piece is told by the count
  pub halfway_step : (last : Bool) → (last ≡ true → suc i ≡ length xs) → (last ≡ false → suc i < length xs) →
      Halfway w xs base (link_at w next_piece_field s) (i + 1) (piece_at w s last out (3 * i))
  halfway_step last y n = go last y n h.todo h.thread h.holds h.head h.left h.total
    where
      number : (a : Item) (ys : List Item) → Holds w (a ∷ ys) → s ≡ a.slot → cell w number_field s ≡ a.offer.number
      number a ys k e = ap (cell w number_field) e ∙ (k.held (Memᴰ.head refl)).number

      go : (last : Bool) → (last ≡ true → suc i ≡ length xs) → (last ≡ false → suc i < length xs) → (todo : List Item) → Threaded w todo → Holds w todo →
          HeadAt s todo → i + length todo ≡ length xs → h.done ++ piece_words (map offer_of todo) ≡ piece_words (map offer_of xs) →
          Halfway w xs base (link_at w next_piece_field s) (i + 1) (piece_at w s last out (3 * i))
      go last y n [] c k e l t = absurd (omega arith)
      go true y n (a ∷ []) c k e l t = onward true a [] (number a [] k e) refl refl refl IsChain.nil k tt l t
      go false y n (a ∷ []) c k e l t = absurd (omega (arith, n refl))
      go true y n (a ∷ b ∷ ys) c k e l t = absurd (omega (arith, y refl))
      go false y n (a ∷ b ∷ ys) (IsChain.cons-cons g c) k e l t =
          onward false a (b ∷ ys) (number a (b ∷ ys) k e) (ap (cell w numerator_field) e ∙ g.numerator) (ap (cell w denominator_field) e ∙ g.denominator)
          refl c k (ap (link_at w next_piece_field) e ∙ g.next) l t

pub halfway_begins : {w : Words} {x s : ℕ} {t : Tree Item} (base : List ℤ) → Pieces w x t → s ≡ (first t).slot → Halfway w (leaves t) base s 0 base
halfway_begins {w} {x} {s} {t} base p e =
    record {
      done = [];
      todo = leaves t;
      thread = p.thread;
      holds = p.holds;
      head = rw (leaves_first t) e;
      size = refl;
      left = omega arith;
      total = refl;
      now = refl;
    }

pub halfway_ends : {w : Words} {xs : List Item} {base : List ℤ} {s i : ℕ} {out : List ℤ} → Halfway w xs base s i out → length xs ≤ i →
    out ≡ piece_words (map offer_of xs) ++ drop (3 * i) base
halfway_ends {w} {xs} {base} {s} {i} {out} h f = go h.todo h.left h.total
  where
    go : (todo : List Item) → i + length todo ≡ length xs → h.done ++ piece_words (map offer_of todo) ≡ piece_words (map offer_of xs) →
        out ≡ piece_words (map offer_of xs) ++ drop (3 * i) base
    go [] l t = h.now ∙ ap (λ ws. ws ++ drop (3 * i) base) (sym (append-nil h.done) ∙ t)
    go (a ∷ ys) l t = absurd (omega arith)

-- ---- the loop

pub record Writing (w : Words) (root n : ℕ) (base : List ℤ) (s i : ℕ) (out : List ℤ) : Type 0 where
  pub within : i ≤ n
  pub long : length out ≡ length base
  pub untouched : n ≡ 0 → out ≡ base
  pub halfway : (t : Tree Item) → Pieces w root t → Avl t → Halfway w (leaves t) base s i out

pub writing_begins : {w : Words} {root s : ℕ} (n : ℕ) (base : List ℤ) → Ended w piece_tree false root s → Writing w root n base s 0 base
writing_begins n base e =
    record { within = omega arith; long = refl; untouched = λ z. refl; halfway = λ t p a. halfway_begins base p (e.is t p.rep a) }

module _ {w : Words} {root n : ℕ} {base : List ℤ} (c : Counted w root n) (room : 3 * n ≤ length base) where
  pub writing_goes_on : {s s' i : ℕ} {out out' : List ℤ} (last : Bool) → Writing w root n base s i out → i < n → (last ≡ true → suc i ≡ n) →
      (last ≡ false → suc i < n) → out' ≡ piece_at w s last out (3 * i) → s' ≡ link_at w next_piece_field s → Writing w root n base s' (i + 1) out'
  writing_goes_on {s} {s'} {i} {out} {out'} last g f y z e d =
      record {
        within = omega arith;
        long = ap length e ∙ piece_length w s last out (3 * i) ∙ g.long;
        untouched = λ q. absurd (omega arith);
        halfway = λ t p a.
            let m = c.is t p a in
            subst (λ u. Halfway w (leaves t) base u (i + 1) out') (sym d)
            (subst (λ o. Halfway w (leaves t) base (link_at w next_piece_field s) (i + 1) o) (sym e)
            (halfway_step (g.halfway t p a) (omega (arith, m)) (omega (arith, m)) last (λ q. y q ∙ m) (λ q. omega (arith, m, z q))));
      }

  pub writing_ends : {s i : ℕ} {out : List ℤ} → Writing w root n base s i out → n ≤ i → Written w root base out n
  writing_ends {s} {i} {out} g f =
      record {
        counted = c;
        long = g.long;
        short = λ h. absurd (omega arith);
        words = λ t p a h.
            let q : i ≡ n = omega (arith, g.within) in
            halfway_ends (g.halfway t p a) (omega (arith, c.is t p a)) ∙ ap (λ k. piece_words (map offer_of (leaves t)) ++ drop (3 * k) base) q;
        none = λ d. g.untouched (c.none d);
      }

-- too short an output
pub writing_short : {w : Words} {root n : ℕ} (base : List ℤ) → Counted w root n → length base < 3 * n → Written w root base base n
writing_short base c f = record { counted = c; long = refl; short = λ h. refl; words = λ t p a h. absurd (omega arith); none = λ d. refl }
