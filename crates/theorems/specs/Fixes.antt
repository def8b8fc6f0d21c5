-- The sentences of demand 2 fix the answers: of a list of offers, one price and two numbers at a load, one listing, and one report of a load and a price,
-- word for word. A query's probes are free with the arrangement, and one number in each.
use Rattle.std.specs.Prelude.{◌≡◌, refl, ℕ, zero, suc, ◌+◌, ◌*◌, ◌/◌, ◌%◌, ◌<◌, length, get_or, T, ℤ, pos}
use Rattle.std.proofs.Common.{sym, ◌∙◌, ap, ap₂, subst, ⊎_elim, arith, ext_get_or}
use mathlib.Core.List.Memᴰ
use mathlib.Core.List.{List, [], ◌∷◌, Memᴰ}
use mathlib.Core.List.Pairwise
use mathlib.Core.List.{Pairwise, rel_of_Pairwise-cons}
use Rattle.std.proofs.Math.Option.{Option, none, some}
use Rattle.std.proofs.Math.Decide.{dec_lt}
use Rattle.lists.specs.Places.{sublist_mem}
use Rattle.lists.specs.Members.{Among}
use Rattle.integers.specs.Parts.{int_rules}
use Rattle.offers.specs.Offers.{Offer, ahead, crossing_numerator, crossing_denominator}
use Rattle.offers.specs.Order.{Ahead, ahead_said, ahead_asym, ahead_other}
use Rattle.envelopes.specs.Envelope.{Env}
use Rattle.envelopes.specs.EnvelopeLaws.{same_members}
use Rattle.lines.specs.OfferLines.{offer_figure}
use Rattle.lines.proofs.OfferLines.{offer_laws}
use Rattle.plain.specs.Book.{State}
use Rattle.plain.specs.Meaning.{Priced, Cheapest, PieceAt, Listing, Report}
use Rattle.plain.specs.QueryLaws.{earliest_live, earliest_once}
use Rattle.plain.proofs.ListingLaws.{in_order}
use Rattle.trees.specs.Tree.{leaves}
use Rattle.trees.specs.Operations.{Part, part_leaves}
use Rattle.dynamic.specs.OfferTree.{Held}
use Rattle.dynamic.specs.Valid.{book_lines}
use Rattle.dynamic.specs.Lower.{valid_env}
use Rattle.table.specs.Words.{Words}
use Rattle.table.specs.Layout.{cap}
use Rattle.table.specs.Items.{Item, Slots}
use Rattle.pieces.specs.Pieces.{items, item_laws_lem}
use Rattle.form.specs.Form.{Book}
use Rattle.form.specs.Frames.{whole_standing}
use Rattle.form.specs.Live.{line_live, number_tells}
use Rattle.query.specs.Lookup.{LeafAt, leaf_mem, one_depth}
use Rattle.promises.specs.Promises.{ProbesIn}

-- ---- a query

pub cheapest_once : {os : List Offer} {q n p m n' p' m' : ℤ} → Cheapest os q n p m → Cheapest os q n' p' m' → (n ≡ n') × (p ≡ p') × (m ≡ m')
cheapest_once {os} {q} {n} {p} {m} {n'} {p'} {m'} a b =
    (one_offer a.one b.one firsts, price, one_offer a.other b.other seconds)
  where
    live : {x y : ℤ} (c : Priced os q x y) → Memᴰ c.offer os
    live c = earliest_live c.earliest

    price : p ≡ p'
    price =
        let i = a.least b.one.offer (live b.one) in
        let j = b.least a.one.offer (live a.one) in
        let e = a.one.priced in
        let f = b.one.priced in
        omega (arith, int_rules)

    firsts : a.one.offer.rate ≡ b.one.offer.rate
    firsts =
        let i = a.lowest b.one.offer (live b.one) (sym b.one.priced ∙ sym price) in
        let j = b.lowest a.one.offer (live a.one) (sym a.one.priced ∙ price) in
        omega (arith, int_rules)

    seconds : a.other.offer.rate ≡ b.other.offer.rate
    seconds =
        let i = a.highest b.other.offer (live b.other) (sym b.other.priced ∙ sym price) in
        let j = b.highest a.other.offer (live a.other) (sym a.other.priced ∙ price) in
        omega (arith, int_rules)

    one_offer : {x x' : ℤ} (c : Priced os q x p) (d : Priced os q x' p') → c.offer.rate ≡ d.offer.rate → x ≡ x'
    one_offer c d e =
        c.named ∙ ap (λ (o : Offer). o.number) (earliest_once c.earliest d.earliest (sym c.priced ∙ price ∙ d.priced) e) ∙ sym d.named

-- the leaf of the offer named has one depth
pub probes_once : {w : Words} {plain : State} {held : Option (Held Item)} {number p p' : ℤ} → Book w plain held → ProbesIn held number p →
    ProbesIn held number p' → p ≡ p'
probes_once {held = none} b (t, a, n, e, leaf, m, d) other = let z : ◌≡◌ {A = ℕ} 0 1 = cc in absurd (omega arith)
probes_once {w} {held = some h} b (t, a, n, e, leaf, m, d) (t', a', n', e', leaf', m', d') =
    d ∙ ap pos (one_depth slots leaf there (ap (λ (x : Item). x.slot) same)) ∙ sym d'
  where
    there : LeafAt a' n' t
    there = let f : t' ≡ t = cc in subst (LeafAt a' n') f leaf'

    slots : Slots (cap w) (leaves t)
    slots = subst (λ (p : Part Item). Slots (cap w) (part_leaves p)) e (whole_standing b.offers.offers_in).slots

    env : Env items (book_lines (some h)) (leaves t)
    env = subst (λ (p : Part Item). Env items (book_lines (some h)) (part_leaves p)) e (valid_env items item_laws_lem b.offers.offers_in.right.valid)

    live : {x : Item} {d : ℕ} → LeafAt x d t → Memᴰ x (part_leaves b.order)
    live l = line_live b (sublist_mem env.sub (leaf_mem l))

    same : a ≡ a'
    same = number_tells b (live leaf) (live there) (m ∙ sym m')

-- ---- three words each

same_piece :
    {ws ws' : List ℤ} {i : ℕ} {n u v : ℤ} → PieceAt ws i n u v → PieceAt ws' i n u v → (r : ℕ) → r < 3 →
    get_or ws (3 * i + r) (pos 0) ≡ get_or ws' (3 * i + r) (pos 0)
same_piece {ws} {ws'} {i} a b zero h = let e : 3 * i + 0 ≡ 3 * i = omega arith in rw e (a.first ∙ sym b.first)
same_piece a b (suc zero) h = a.second ∙ sym b.second
same_piece a b (suc (suc zero)) h = a.third ∙ sym b.third
same_piece a b (suc (suc (suc r))) h = absurd (omega arith)

-- two lists of so many threes, each of which stands in both
same_words :
    {m m' : ℕ} {ws ws' : List ℤ} → m ≡ m' → length ws ≡ 3 * m → length ws' ≡ 3 * m' →
    ((i : ℕ) → i < m → (n u v : ℤ) × PieceAt ws i n u v × PieceAt ws' i n u v) → ws ≡ ws'
same_words {m} {m'} {ws} {ws'} e l l' threes = ext_get_or (pos 0) ws ws' (omega arith) word_at
  where
    word_at : (j : ℕ) → j < length ws → get_or ws j (pos 0) ≡ get_or ws' j (pos 0)
    word_at j h =
        let e : j ≡ 3 * (j / 3) + j % 3 = omega arith in
        let (n, u, v, x, y) = threes (j / 3) (omega (arith, l)) in
        rw e (same_piece x y (j % 3) (omega arith))

any_offer : Offer
any_offer = record { number = pos 0; rate = pos 0; base = pos 0 }

-- ---- a listing

pub listing_once : {os : List Offer} {m m' : ℕ} {ws ws' : List ℤ} → Listing os m ws → Listing os m' ws' → (m ≡ m') × (ws ≡ ws')
listing_once {os} {m} {m'} {ws} {ws'} a b = (many, same_words many a.long b.long piece_at_lem)
  where
    same : a.pieces ≡ b.pieces
    same =
        same_members offer_figure offer_laws a.pieces b.pieces (in_order a.in_order) (in_order b.in_order)
        (λ e k. (b.exact e).1 ((a.exact e).0 k)) (λ e k. (a.exact e).1 ((b.exact e).0 k))

    Inner : ℕ → List Offer → Type 0
    Inner i es =
        PieceAt ws' i (get_or es i any_offer).number (crossing_numerator (get_or es i any_offer) (get_or es (suc i) any_offer))
        (crossing_denominator (get_or es i any_offer) (get_or es (suc i) any_offer))

    Last : ℕ → List Offer → Type 0
    Last i es = PieceAt ws' i (get_or es i any_offer).number (pos 0) (pos 0)

    many : m ≡ m'
    many = sym a.many ∙ ap length same ∙ b.many

    piece_at_lem : (i : ℕ) → i < m → (n u v : ℤ) × PieceAt ws i n u v × PieceAt ws' i n u v
    piece_at_lem i h = go (dec_lt (suc i) m)
      where
        go : Dec (suc i < m) → (n u v : ℤ) × PieceAt ws i n u v × PieceAt ws' i n u v
        go (yes k) = (_, _, _, a.inner i any_offer k, subst (Inner i) (sym same) (b.inner i any_offer (omega (arith, many))))
        go (no k) = (_, _, _, a.last i any_offer (omega arith), subst (Last i) (sym same) (b.last i any_offer (omega (arith, many))))

-- ---- a report

abbrev Ordered : List Offer → Type 0
Ordered os = Pairwise (λ a b. T (ahead a b)) os

ahead_of : {o a : Offer} {os : List Offer} → Ordered (o ∷ os) → Memᴰ a os → Ahead o a
ahead_of {o} {a} h m = ahead_said o a (rel_of_Pairwise-cons h ∣ m ∣₁)

-- in order, the members are the list
same_offers : (os ps : List Offer) → Ordered os → Ordered ps → Among os ps → Among ps os → os ≡ ps
same_offers [] [] h k to from = refl
same_offers [] (p ∷ ps) h k to from = absurd (Memᴰ.not-nil (from p (Memᴰ.head refl)))
same_offers (o ∷ os) [] h k to from = absurd (Memᴰ.not-nil (to o (Memᴰ.head refl)))
same_offers (o ∷ os) (p ∷ ps) h k to from =
    ap₂ {C = List Offer} (λ (a : Offer) (l : List Offer). a ∷ l) heads
    (same_offers os ps (Pairwise.of_cons h) (Pairwise.of_cons k)
    (λ a m. ⊎_elim (λ (q : a ≡ p). absurd (ahead_other (ahead_of h m) (heads ∙ sym q))) (λ n. n) (Memᴰ.cases_cons (to a (Memᴰ.tail m))))
    (λ a m. ⊎_elim (λ (q : a ≡ o). absurd (ahead_other (ahead_of k m) (sym heads ∙ sym q))) (λ n. n) (Memᴰ.cases_cons (from a (Memᴰ.tail m)))))
  where
    heads : o ≡ p
    heads =
        ⊎_elim (λ (q : o ≡ p). q)
        (λ m. ⊎_elim (λ (q : p ≡ o). sym q) (λ n. absurd (ahead_asym (ahead_of h n) (ahead_of k m))) (Memᴰ.cases_cons (from p (Memᴰ.head refl))))
        (Memᴰ.cases_cons (to o (Memᴰ.head refl)))

pub report_once : {os : List Offer} {q p : ℤ} {m m' : ℕ} {ws ws' : List ℤ} → Report os q p m ws → Report os q p m' ws' → (m ≡ m') × (ws ≡ ws')
report_once {m} {m'} {ws} {ws'} a b = (many, same_words many a.long b.long offer_at_lem)
  where
    same : a.offers ≡ b.offers
    same =
        same_offers a.offers b.offers a.in_order b.in_order (λ o k. (b.exact o).1 ((a.exact o).0 k)) (λ o k. (a.exact o).1 ((b.exact o).0 k))

    many : m ≡ m'
    many = sym a.many ∙ ap length same ∙ b.many

    Told : ℕ → List Offer → Type 0
    Told i os = let o = get_or os i any_offer in PieceAt ws' i o.number o.rate o.base

    offer_at_lem : (i : ℕ) → i < m → (n u v : ℤ) × PieceAt ws i n u v × PieceAt ws' i n u v
    offer_at_lem i h = (_, _, _, a.told i any_offer h, subst (Told i) (sym same) (b.told i any_offer (omega (arith, many))))
