-- A part's mark, by what the code reads: the count of its pieces, and the slot of one of them.
use Rattle.std.specs.Prelude.{◌≡◌, refl, Bool, true, false, not, ℕ, suc, ◌+◌, ◌-◌, ◌≤◌, ◌<◌, length, leb, ℤ, pos, negsuc, Result, Err}
use Rattle.std.proofs.Math.Path.{sym, ap}
use Rattle.std.proofs.Common.{◌∙◌, subst, arith, length-append}
use mathlib.Core.List.Memᴰ
use mathlib.Core.List.{List, [], ◌∷◌, ◌++◌, map, map-append, Memᴰ}
use Rattle.std.proofs.Math.Option.{Option, some}
use mathlib.Mathlib.Data.List.Chain.{IsChain-append-cons-cons}
use Rattle.std.proofs.Math.ListN.{get_or}
use Rattle.std.proofs.lemmas.List.{length-map}
use Rattle.std.proofs.Math.Dec.{T, T_not, not_T}
use Rattle.std.proofs.Math.Arith.{lt→nleb}
use Rattle.std.specs.Int.Signed.{le_z, lt_z}
use Rattle.lists.specs.Bools.{and_both}
use Rattle.integers.specs.Parts.{int_rules, range_parts}
use Rattle.offers.specs.Offers.{Offer, between, crossing_numerator, crossing_denominator}
use Rattle.envelopes.specs.Envelope.{Ordered}
use Rattle.envelopes.specs.EnvelopeLaws.{ordered_sublist, ordered_right, ordered_head}
use Rattle.plain.specs.Causes.{book_empty, no_such_mark, at_once, further}
use Rattle.plain.specs.Book.{State, envelope, no_book_at}
use Rattle.plain.specs.Trials.{declined_by, not_declined}
use Rattle.marks.specs.MarkTold.{Told, open_end, crossing}
use Rattle.marks.specs.Crossings.{scaled_price}
use Rattle.trees.specs.Tree.{Tree, leaves}
use Rattle.trees.specs.Leaves.{some_leaf}
use Rattle.dynamic.specs.OfferTree.{Held, held_shape}
use Rattle.dynamic.specs.Valid.{book_lines}
use Rattle.table.specs.Fields.{capacity_word, envelope_root_word, most_nodes, most_slots}
use Rattle.table.specs.Words.{Words, word, up_to, up_to_in}
use Rattle.table.specs.Items.{Item}
use Rattle.table.specs.Threads.{Held as InSlot, Next, Threaded}
use Rattle.walks.specs.ItemLines.{Falls}
use Rattle.prices.specs.Prices.{rate_at, numerator_at, denominator_at, crossing_price_at}
use Rattle.walks.specs.SearchedPieces.{read_rate, read_price, read_numerator, read_denominator}
use Rattle.pieces.specs.Pieces.{items}
use Rattle.form.specs.Form.{Book}
use Rattle.query.specs.QueriedPieces.{Pieces}
use Rattle.query.specs.Plain.{offer_of, pieces_plain}
use Rattle.listing.specs.PieceCounts.{Counted, Passed}
use Rattle.form.specs.Live.{first_offers, lines_ordered, lines_few, no_offers}
use Rattle.promises.specs.Promises.{part_of}
use Rattle.promises.specs.LentPart.{no_form, no_book_cause}
use Rattle.promises.specs.Rooted.{Root, bare, topped, Top, root_of}
use Rattle.causes.specs.declared.Declined.{Declined}
use Rattle.causes.specs.declared.Declined.TheVariants.{NoBook, Empty, NoSuchMark}
use Rattle.marks.specs.declared.Mark.{Mark}
use Rattle.chart.specs.Promises.{marks_behind, marks, refusal, mark_trials, mark_of, plain_mark, told, Marks}
use Rattle.chart.specs.ChartWalks.{SlotOf}

pub record PartMark (w : Words) (index : ℤ) (r : Result Mark Declined) : Type 0 where
  pub answers : (s : State) (held : Option (Held Item)) → Book w s held → told r ≡ plain_mark s.offers index

-- the crossing that a slot keeps
abbrev pub crossing_at : Words → ℕ → Told
crossing_at w s = crossing (numerator_at w s) (denominator_at w s) (crossing_price_at w s)

pub crossing_read : (w : Words) (s : ℕ) {n d p : ℤ} {x : Told} → n ≡ numerator_at w s → d ≡ denominator_at w s → p ≡ crossing_price_at w s →
    x ≡ crossing n d p → x ≡ crossing_at w s
crossing_read w s {n} {d} {p} a b c e =
    e ∙ ap (λ (z : ℤ). crossing z d p) a ∙ ap (λ (z : ℤ). crossing (numerator_at w s) z p) b ∙ ap (crossing (numerator_at w s) (denominator_at w s)) c

-- ---- the marks of a listing, by the pieces beside them

abbrev pub between_them : Offer → Offer → Told
between_them a b = crossing (crossing_numerator a b) (crossing_denominator a b) (scaled_price a b)

pub behind_inner : (o : Offer) (xs : List Offer) (a b : Offer) (ys : List Offer) (d : Told) →
    get_or (marks_behind o (xs ++ a ∷ b ∷ ys)) (suc (length xs)) d ≡ between_them a b
behind_inner o [] a b ys d = refl
behind_inner o (x ∷ xs) a b ys d = behind_inner x xs a b ys d

pub marks_inner : (xs : List Offer) (a b : Offer) (ys : List Offer) (d : Told) → get_or (marks (xs ++ a ∷ b ∷ ys)) (suc (length xs)) d ≡ between_them a b
marks_inner [] a b ys d = refl
marks_inner (x ∷ xs) a b ys d = behind_inner x xs a b ys d

pub behind_last : (o : Offer) (xs : List Offer) (a : Offer) (d : Told) → get_or (marks_behind o (xs ++ a ∷ [])) (suc (length xs)) d ≡ open_end a.rate
behind_last o [] a d = refl
behind_last o (x ∷ xs) a d = behind_last x xs a d

pub marks_last : (xs : List Offer) (a : Offer) (d : Told) → get_or (marks (xs ++ a ∷ [])) (suc (length xs)) d ≡ open_end a.rate
marks_last [] a d = refl
marks_last (x ∷ xs) a d = behind_last x xs a d

-- ---- at a piece of the root's envelope

-- it is the last of them
pub seen_last : {s n : ℕ} {xs : List Item} (k : Passed s n xs) → n ≡ length xs → xs ≡ k.seen ++ k.here ∷ []
seen_last {s} {n} {xs} k e = go k.ahead k.split
  where
    go : (ys : List Item) → xs ≡ k.seen ++ k.here ∷ ys → xs ≡ k.seen ++ k.here ∷ []
    go [] d = d
    go (y ∷ ys) d = absurd (omega (arith, ap length d, length-append k.seen (k.here ∷ y ∷ ys), k.count))

-- another follows
pub record Followed (xs seen : List Item) (here : Item) : Type 0 where
  pub next : Item
  pub later : List Item
  pub split : xs ≡ seen ++ here ∷ next ∷ later

pub seen_inner : {s n : ℕ} {xs : List Item} (k : Passed s n xs) → n < length xs → Followed xs k.seen k.here
seen_inner {s} {n} {xs} k h = go k.ahead k.split
  where
    go : (ys : List Item) → xs ≡ k.seen ++ k.here ∷ ys → Followed xs k.seen k.here
    go [] d = absurd (omega (arith, ap length d, length-append k.seen (k.here ∷ []), k.count))
    go (y ∷ ys) d = record { next = y; later = ys; split = d }

pub offers_of : List Item → List Offer
offers_of xs = map offer_of xs

-- mark n, where the n-th piece is the last, and where it is not
pub mark_last : {s n : ℕ} {xs : List Item} (k : Passed s n xs) → n ≡ length xs → (d : Told) → get_or (marks (offers_of xs)) n d ≡ open_end k.here.offer.rate
unfolding offers_of
mark_last {s} {n} {xs} k e d =
    ap (λ (l : List Item). get_or (marks (map offer_of l)) n d) (seen_last k e)
    ∙ ap (λ (l : List Offer). get_or (marks l) n d) (map-append offer_of k.seen (k.here ∷ []))
    ∙ ap (λ (i : ℕ). get_or (marks (map offer_of k.seen ++ offer_of k.here ∷ [])) i d) (k.count ∙ ap suc (sym (length-map k.seen offer_of)))
    ∙ marks_last (map offer_of k.seen) k.here.offer d

pub mark_inner : {s n : ℕ} {xs : List Item} (k : Passed s n xs) (f : Followed xs k.seen k.here) (d : Told) →
    get_or (marks (offers_of xs)) n d ≡ between_them k.here.offer f.next.offer
unfolding offers_of
mark_inner {s} {n} {xs} k f d =
    ap (λ (l : List Item). get_or (marks (map offer_of l)) n d) f.split
    ∙ ap (λ (l : List Offer). get_or (marks l) n d) (map-append offer_of k.seen (k.here ∷ f.next ∷ f.later))
    ∙ ap (λ (i : ℕ). get_or (marks (map offer_of k.seen ++ offer_of k.here ∷ offer_of f.next ∷ map offer_of f.later)) i d)
    (k.count ∙ ap suc (sym (length-map k.seen offer_of)))
    ∙ marks_inner (map offer_of k.seen) k.here.offer f.next.offer (map offer_of f.later) d

-- mark 0
pub mark_first : {s n : ℕ} {xs : List Item} (k : Passed s n xs) → n ≡ 1 → (d : Told) → get_or (marks (offers_of xs)) 0 d ≡ open_end k.here.offer.rate
unfolding offers_of
mark_first {s} {n} {xs} k e d = go k.seen k.split k.count
  where
    go : (seen : List Item) → xs ≡ seen ++ k.here ∷ k.ahead → n ≡ suc (length seen) → get_or (marks (map offer_of xs)) 0 d ≡ open_end k.here.offer.rate
    go [] f g = ap (λ (l : List Item). get_or (marks (map offer_of l)) 0 d) f
    go (y ∷ ys) f g = absurd (omega arith)

-- ---- what the words say of it

module _ {w : Words} {root s n : ℕ} {t : Tree Item} (p : Pieces w root t) (k : Passed s n (leaves t)) where
  pub held_here : InSlot w k.here
  held_here = p.holds.held (subst (Memᴰ k.here) (sym k.split) (Memᴰ.append_right k.seen (Memᴰ.head refl)))

  pub rate_here : rate_at w s ≡ k.here.offer.rate
  rate_here = ap (rate_at w) k.slot ∙ read_rate held_here

  pub crossing_here : Ordered items (leaves t) → (f : Followed (leaves t) k.seen k.here) → crossing_at w s ≡ between_them k.here.offer f.next.offer
  crossing_here o f =
      ap (crossing_at w) k.slot
      ∙ rw (read_numerator held_here held_next next falls, read_denominator held_here held_next next falls, read_price held_here)
    where
      held_next : InSlot w f.next
      held_next = p.holds.held (subst (Memᴰ f.next) (sym f.split) (Memᴰ.append_right k.seen (Memᴰ.tail (Memᴰ.head refl))))

      next : Next w k.here f.next
      next = ((IsChain-append-cons-cons k.here k.seen).0 (subst (Threaded w) f.split p.thread)).1

      falls : Falls k.here f.next
      falls = ordered_head items (ordered_right items k.seen (k.here ∷ f.next ∷ f.later) (subst (Ordered items) f.split o)) f.next
          (Memᴰ.head refl)

-- ---- the answers

module _ {w : Words} {root m : ℕ} (er : root ≡ up_to most_nodes (word w envelope_root_word)) (k : Counted w root m) where
  -- cause 9
  pub part_empty : (index : ℤ) → m < 1 → PartMark w index (Err Empty)
  part_empty index h = record { answers = λ s held b. go b (root_of b er) }
    where
      go : {s : State} {held : Option (Held Item)} → Book w s held → Root w root held → refusal book_empty ≡ plain_mark s.offers index
      go b (bare z) = ap (λ (os : List Offer). plain_mark os index) (sym (no_offers b refl))
      go b (topped t f p) = absurd (omega (arith, h, k.is t p.pieces p.balanced, some_leaf t))

  -- what the code knows of a book that has a piece
  pub record Topped (os : List Offer) (h : Held Item) : Type 0 where
    pub tree : Tree Item
    pub top : Top w root (leaves (held_shape h)) tree
    pub shown : envelope os ≡ map offer_of (leaves tree)
    pub many : length (envelope os) ≡ m
    pub ordered : Ordered items (leaves tree)
    pub live : T (not (leb (length os) 0))

  pub top_of : {s : State} {h : Held Item} → Book w s (some h) → (t : Tree Item) → Top w root (leaves (held_shape h)) t → Topped s.offers h
  top_of {s} {h} b t p =
      record {
        tree = t;
        top = p;
        shown = shown;
        many = ap length shown ∙ length-map (leaves t) offer_of ∙ sym (k.is t p.pieces p.balanced);
        ordered = ordered_sublist items p.env.sub (lines_ordered b);
        live = lt→nleb (length s.offers) 0 (omega (arith, lines_few b, some_leaf (held_shape h)));
      }
    where
      shown : envelope s.offers ≡ map offer_of (leaves t)
      shown = sym (pieces_plain (book_lines (some h)) (leaves t) s.offers (first_offers b) (lines_ordered b) p.env)

  pub at_tree : {os : List Offer} {h : Held Item} (q : Topped os h) → m ≡ length (leaves q.tree)
  at_tree q = k.is q.tree q.top.pieces q.top.balanced

  -- an answer about a book with a piece
  pub by_top : {index : ℤ} {r : Result Mark Declined} → 1 ≤ m → ((os : List Offer) (h : Held Item) → Topped os h → told r ≡ plain_mark os index) →
      PartMark w index r
  by_top {index} {r} some-of-it f = record { answers = λ s held b. go b (root_of b er) }
    where
      go : {s : State} {held : Option (Held Item)} → Book w s held → Root w root held → told r ≡ plain_mark s.offers index
      go b (bare z) = absurd (omega (arith, some-of-it, k.none z))
      go {s} b (topped {h} t e p) = f s.offers h (top_of b t p)

  -- cause 13
  pub part_outside : (index : ℤ) → 1 ≤ m → T (not (between (pos 0) (pos m) index)) → PartMark w index (Err NoSuchMark)
  part_outside index h o =
      by_top h (λ os g q. sym (ap (mark_of os index) (declined_by (mark_trials os index) no_such_mark
      (further q.live (at_once (subst (λ (n : ℕ). T (not (between (pos 0) (pos n) index))) (sym q.many) o))))))

  -- a mark that is there
  pub accepted : (n : ℕ) → n ≤ m → {os : List Offer} {h : Held Item} (q : Topped os h) →
      get_or (marks (offers_of (leaves q.tree))) n (refusal no_such_mark) ≡ plain_mark os (pos n)
  unfolding offers_of
  accepted n l {os} q =
      ap (λ (es : List Offer). get_or (marks es) n (refusal no_such_mark)) (sym q.shown)
      ∙ sym (ap (mark_of os (pos n)) (not_declined (mark_trials os (pos n)) (
        q.live,
        (
          not_T (not (between (pos 0) (pos (length (envelope os))) (pos n)))
              (λ t. T_not (between (pos 0) (pos (length (envelope os))) (pos n)) t inside),
          tt,
        ),
      )))
    where
      inside : T (between (pos 0) (pos (length (envelope os))) (pos n))
      inside = and_both (le_z (pos 0) (pos n)) (le_z (pos n) (pos (length (envelope os)))) (omega (arith, int_rules))
          (omega (arith, int_rules, q.many))

  module _ {s : ℕ} (f : 1 ≤ m) where
    -- mark 0
    pub part_first : {r : Result Mark Declined} → SlotOf w root 0 s → told r ≡ open_end (rate_at w s) → PartMark w (pos 0) r
    part_first h e =
        by_top f (λ os g q.
        let a = h.is q.tree q.top.pieces q.top.balanced (omega (arith, f, at_tree q)) in
        e ∙ ap open_end (rate_here q.top.pieces a) ∙ sym (mark_first a refl (refusal no_such_mark)) ∙ accepted 0 (omega arith) q)

    module _ (i : ℕ) (low : 1 ≤ i) (h : SlotOf w root (i - 1) s) where
      pub here_of : i ≤ m → {os : List Offer} {g : Held Item} (q : Topped os g) → Passed s i (leaves q.tree)
      here_of l q =
          let e : i - 1 + 1 ≡ i = omega arith in
          subst (λ (n : ℕ). Passed s n (leaves q.tree)) e (h.is q.tree q.top.pieces q.top.balanced (omega (arith, low, l, at_tree q)))

      -- mark m
      pub part_last : {r : Result Mark Declined} → i ≡ m → told r ≡ open_end (rate_at w s) → PartMark w (pos i) r
      part_last d e =
          by_top f (λ os g q.
          let a = here_of (omega arith) q in
          e ∙ ap open_end (rate_here q.top.pieces a) ∙ sym (mark_last a (d ∙ at_tree q) (refusal no_such_mark)) ∙ accepted i (omega arith) q)

      -- a mark between
      pub part_inner : {r : Result Mark Declined} → i < m → told r ≡ crossing_at w s → PartMark w (pos i) r
      part_inner d e =
          by_top f (λ os g q.
          let a = here_of (omega arith) q in
          let n = seen_inner a (omega (arith, d, at_tree q)) in
          e ∙ crossing_here q.top.pieces a q.ordered n ∙ sym (mark_inner a n (refusal no_such_mark)) ∙ accepted i (omega arith) q)

-- ---- the index

-- outside, by the code's two tests
pub index_below : (index : ℤ) (m : ℕ) → lt_z index (pos 0) ≡ true → T (not (between (pos 0) (pos m) index))
index_below index m h = not_T (between (pos 0) (pos m) index) (λ t. omega (arith, int_rules, range_parts (pos 0) index (pos m) t))

pub index_above : (index : ℤ) (m : ℕ) → lt_z (pos m) index ≡ true → T (not (between (pos 0) (pos m) index))
index_above index m h = not_T (between (pos 0) (pos m) index) (λ t. omega (arith, int_rules, range_parts (pos 0) index (pos m) t))

pub index_there : (index : ℤ) {i m : ℕ} → lt_z index (pos 0) ≡ false → lt_z (pos m) index ≡ false → m ≤ most_slots → i ≡ up_to most_slots index →
    (index ≡ pos i) × (i ≤ m)
index_there (pos n) {i} {m} a b h e =
    let l : n ≤ m = omega (arith, int_rules) in
    let u : i ≡ n = e ∙ up_to_in most_slots n (omega arith) in
    (ap pos (sym u), omega arith)
index_there (negsuc n) a b h e = absurd (omega (arith, int_rules))

-- ---- on a table

abbrev pub refused : ℕ → Told
refused n = record { number = pos n; values = [] }

module _ (start : ℕ) (t : List ℤ) (index : ℤ) {no : Bool} (e : no ≡ no_book_at (length t) start (word (part_of t start) capacity_word)) where
  pub mark_no_book : no ≡ true → Marks start t index (Err NoBook)
  mark_no_book d =
      record {
        declined = λ z g. ap refused (sym (no_book_cause t start g));
        answers = λ s held b. absurd (no_form t start e d b);
        rounded = λ s held b. absurd (no_form t start e d b);
      }
