-- The meeting on two parts: the search from their roots, and put together with the trials.
use Rattle.std.specs.Prelude.{◌≡◌, refl, ◌⊎◌, Bool, true, false, not, ◌||◌, ℕ, ◌≤◌, T, leb, ltb, length, ℤ, pos, Result, Ok, Err}
use Rattle.std.proofs.Common.{sym, ◌∙◌, ap, ap₂, subst, ⊎_elim, arith, le→leb, ltb→lt, nltb→le}
use mathlib.Core.List.Memᴰ
use mathlib.Core.List.{List, ◌∷◌, ◌++◌, map, Memᴰ, map-append}
use Rattle.std.proofs.Math.Option.{Option, none, some}
use Rattle.std.proofs.Math.Arith.{lt→nleb}
use Rattle.std.specs.Int.Signed.{lt_z}
use Rattle.lists.specs.Tests.{any}
use Rattle.lists.specs.Bools.{or_left, or_right, not_either, denied}
use Rattle.offers.specs.Offers.{Offer}
use Rattle.envelopes.specs.Envelope.{Ordered}
use Rattle.envelopes.specs.EnvelopeLaws.{ordered_append}
use Rattle.plain.specs.Causes.{Cause, cause_number, FirstOf, at_once, further}
use Rattle.plain.specs.Book.{State, envelope, first_of_each}
use Rattle.trees.specs.Tree.{Tree, leaves, first}
use Rattle.meeting.specs.Machine.{meet}
use Rattle.dynamic.specs.OfferTree.{Held, held_shape}
use Rattle.dynamic.specs.Valid.{book_lines}
use Rattle.dynamic.specs.SearchEnd.{Bridged}
use Rattle.dynamic.specs.Bridged.{faces, search_bridges}
use Rattle.table.specs.Fields.{envelope_root_word, live_count_word, most_nodes, number_field, piece_tree}
use Rattle.table.specs.Words.{Words, word, up_to}
use Rattle.table.specs.Layout.{cell}
use Rattle.table.specs.Items.{Item}
use Rattle.table.specs.Rep.{ref_of, height_at}
use Rattle.table.specs.Nodes.{rep_height}
use Rattle.table.specs.PartTrees.{low}
use Rattle.search.specs.declared.Met.{Met as Ended}
use Rattle.search.specs.Runs.{Kept, Meets, Answers as SearchAnswers}
use Rattle.pieces.specs.Pieces.{items, item_laws_lem}
use Rattle.query.specs.Plain.{offer_of, pieces_plain}
use Rattle.form.specs.Form.{Book, number_of}
use Rattle.form.specs.Live.{live_length, first_offers, no_offers}
use Rattle.form.specs.HeaderWords.{count_read}
use Rattle.promises.specs.OneCause.{one_cause, not_clear}
use Rattle.promises.specs.Rooted.{Root, topped, Top, root_of}
use Rattle.causes.specs.declared.Declined.{Declined}
use Rattle.causes.specs.declared.Declined.TheVariants.{Empty, RatesNotApart}
use Rattle.causes.specs.Numbers.{number_of as cause_told}
use Rattle.meet_books.specs.declared.Meeting.{Meeting}
use Rattle.meet_books.specs.Promises.{meet_trials, refused, met, Found, Answers}
use Rattle.meet_books.specs.Apart.{AllBefore, AllAbove, SetsApart, not_mixed, offers_above, firsts_apart}

-- ---- the search from the roots

pub record Searches (w w' : Words) (m : Meeting) : Type 0 where
  pub finds : {s s' : State} {h h' : Held Item} → Book w s (some h) → Book w' s' (some h') → AllBefore (book_lines (some h)) (book_lines (some h')) →
      Found s s' (some h) (some h') (Ok m)

-- what the code has read
pub record Reads (w w' : Words) (l r : ℕ) (m : Ended) (u v : ℤ) (hl hr : ℕ) : Type 0 where
  pub left_root : l ≡ up_to most_nodes (word w envelope_root_word)
  pub right_root : r ≡ up_to most_nodes (word w' envelope_root_word)
  pub searched : Meets w w' l r m
  pub left_number : u ≡ cell w number_field m.u
  pub right_number : v ≡ cell w' number_field m.v
  pub left_height : hl ≡ height_at w piece_tree l
  pub right_height : hr ≡ height_at w' piece_tree r

kept : {w : Words} {x : ℕ} {ls : List Item} {t : Tree Item} → Top w x ls t → Kept w x t
kept {w} p =
    record { rep = p.pieces.rep; holds = p.pieces.holds; threaded = p.pieces.thread; low = low w p.pieces.rep.slots p.balanced }

among : {a : Item} {zs : List Item} (xs ys : List Item) → zs ≡ xs ++ a ∷ ys → Memᴰ a zs
among {a} xs ys e = subst (Memᴰ a) (sym e) (Memᴰ.append_right xs (Memᴰ.head refl))

module _ {w w' : Words} {l r : ℕ} {m : Ended} {u v : ℤ} {hl hr : ℕ} (f : Reads w w' l r m u v hl hr) where
  module _ {ls rs : List Item} {tl tr : Tree Item} (p : Top w l ls tl) (q : Top w' r rs tr) (o : Ordered items (ls ++ rs)) where
    about : Bridged items ls rs tl tr
    about = search_bridges items item_laws_lem ls rs o tl tr p.env q.env

    ends : SearchAnswers m (meet items tl tr)
    ends =
        f.searched.met {tl = tl} {tr = tr}
        (record { left_kept = kept p; right_kept = kept q; facing = faces items item_laws_lem ls rs o tl tr p.env q.env (first tl) })

    number_u : u ≡ number_of about.u
    number_u =
        f.left_number ∙ ap (cell w number_field) (ends.u ∙ ap ref_of about.met.at_left)
        ∙ (p.pieces.holds.held (among about.up_to about.beyond about.left_pieces)).number

    number_v : v ≡ number_of about.v
    number_v =
        f.right_number ∙ ap (cell w' number_field) (ends.v ∙ ap ref_of about.met.at_right)
        ∙ (q.pieces.holds.held (among about.short about.from about.right_pieces)).number

    -- the envelope of both, as plain offers
    plain_envelope : {os os' : List Offer} → map offer_of ls ≡ first_of_each os → map offer_of rs ≡ first_of_each os' → AllAbove os os' →
        envelope (os ++ os') ≡ map offer_of (about.up_to ++ about.u ∷ about.v ∷ about.from)
    plain_envelope {os} {os'} d e h =
        sym (pieces_plain (ls ++ rs) (about.up_to ++ about.u ∷ about.v ∷ about.from) (os ++ os')
        (map-append offer_of ls rs ∙ ap₂ (λ (x y : List Offer). x ++ y) d e ∙ sym (firsts_apart os os' h)) o about.merged)

  pub searches : Searches w w' (record { u = u; v = v; steps = pos m.steps; hl = pos hl; hr = pos hr })
  searches = record { finds = λ b b' apart. go b b' apart (root_of b f.left_root) (root_of b' f.right_root) }
    where
      go : {s s' : State} {h h' : Held Item} → Book w s (some h) → Book w' s' (some h') → AllBefore (book_lines (some h)) (book_lines (some h')) →
          Root w l (some h) → Root w' r (some h') → Found s s' (some h) (some h') (Ok (record { u = u; v = v; steps = pos m.steps; hl = pos hl; hr = pos hr }))
      go {h = h} {h' = h'} b b' apart (topped tl d p) (topped tr e q) =
          let o : Ordered items (leaves (held_shape h) ++ leaves (held_shape h')) =
          ordered_append items (leaves (held_shape h)) (leaves (held_shape h')) b.offers.offers_in.right.ordered
          b'.offers.offers_in.right.ordered apart in
          record {
            left = tl;
            right = tr;
            left_root = d;
            right_root = e;
            bridged = about p q o;
            answer = λ i. met (number_u p q o i) (number_v p q o i) (pos ((ends p q o).steps i)) (pos ((f.left_height ∙ rep_height p.pieces.rep) i))
                (pos ((f.right_height ∙ rep_height q.pieces.rep) i));
            plainly = plain_envelope p q o (first_offers b) (first_offers b') (offers_above b b' apart);
          }

-- ---- the trials

pub record MeetsParts (w w' : Words) (r : Result Meeting Declined) : Type 0 where
  pub answers : (s s' : State) (held held' : Option (Held Item)) → Book w s held → Book w' s' held' → Answers s s' held held' r

-- declined by the first trial that applies
declines : {s s' : State} {held held' : Option (Held Item)} {k : Cause} {c : Declined} → cause_told c ≡ pos (cause_number k) →
    FirstOf (meet_trials s.offers s'.offers) k → Answers s s' held held' (Err c)
declines e f =
    record { declined = λ z g. ap refused e ∙ ap (λ (n : ℕ). refused (pos n)) (sym (one_cause f g)); accepted = λ g. absurd (not_clear f g) }

-- what the count says of a book: no offer is live, or some are
bare_book : {w : Words} {s : State} {held : Option (Held Item)} → Book w s held → T (ltb (up_to most_nodes (word w live_count_word)) 1) →
    T (leb (length s.offers) 0)
bare_book {w} {s} b h = le→leb (length s.offers) 0 (omega (arith, ltb→lt (up_to most_nodes (word w live_count_word)) 1 h, count_read b, live_length b))

module _ {w : Words} {s : State} {held : Option (Held Item)} (b : Book w s held) {e : Bool} (t : e ≡ ltb (up_to most_nodes (word w live_count_word)) 1) where
  some_offer : e ≡ false → 1 ≤ length s.offers
  some_offer h = omega (arith, nltb→le (up_to most_nodes (word w live_count_word)) 1 (denied t h), count_read b, live_length b)

  live_book : e ≡ false → T (not (leb (length s.offers) 0))
  live_book h = lt→nleb (length s.offers) 0 (some_offer h)

pub one_empty : {w w' : Words} → T (ltb (up_to most_nodes (word w live_count_word)) 1) ⊎ T (ltb (up_to most_nodes (word w' live_count_word)) 1) →
    MeetsParts w w' (Err Empty)
one_empty k = record {
  answers = λ s s' held held' b b'. declines refl
      (at_once (⊎_elim (λ h. or_left (leb (length s.offers) 0) (leb (length s'.offers) 0) (bare_book b h))
      (λ h. or_right (leb (length s.offers) 0) (leb (length s'.offers) 0) (bare_book b' h)) k));
}

module _ {w w' : Words} {e e' : Bool} (t : e ≡ ltb (up_to most_nodes (word w live_count_word)) 1) (t' : e' ≡ ltb (up_to most_nodes (word w' live_count_word)) 1) where
  module _ {d : Bool} (s : SetsApart w w' d) (h : e ≡ false) (h' : e' ≡ false) where
    neither_empty : {s s' : State} {held held' : Option (Held Item)} → Book w s held → Book w' s' held' →
        T (not (leb (length s.offers) 0 || leb (length s'.offers) 0))
    neither_empty {s} {s'} b b' = not_either (leb (length s.offers) 0) (leb (length s'.offers) 0) (live_book b t h)
        (live_book b' t' h')

    pub not_apart : d ≡ false → MeetsParts w w' (Err RatesNotApart)
    not_apart n = record { answers = λ s s' held held' b b'. go held held' b b' }
      where
        go : {s s' : State} (held held' : Option (Held Item)) → Book w s held → Book w' s' held' → Answers s s' held held' (Err RatesNotApart)
        go none held' b b' = absurd (omega (arith, some_offer b t h, ap length (no_offers b refl)))
        go (some g) none b b' = absurd (omega (arith, some_offer b' t' h', ap length (no_offers b' refl)))
        go (some g) (some g') b b' = declines {held = some g} {held' = some g'} refl (further (neither_empty b b') (at_once (s.mixed n b b')))

    pub apart_found : d ≡ true → {m : Meeting} → Searches w w' m → MeetsParts w w' (Ok m)
    apart_found n {m} f = record { answers = λ s s' held held' b b'. go held held' b b' }
      where
        -- all rates apart: the trial does not apply
        clear : {s s' : State} (g g' : Held Item) → Book w s (some g) → Book w' s' (some g') →
            T (not (any (λ a. any (λ b. not (lt_z b.rate a.rate)) s'.offers) s.offers))
        clear {s = plain} {s' = plain'} g g' b b' = not_mixed plain.offers plain'.offers (offers_above b b' (s.apart n b b'))

        go : {s s' : State} (held held' : Option (Held Item)) → Book w s held → Book w' s' held' → Answers s s' held held' (Ok m)
        go none held' b b' = absurd (omega (arith, some_offer b t h, ap length (no_offers b refl)))
        go (some g) none b b' = absurd (omega (arith, some_offer b' t' h', ap length (no_offers b' refl)))
        go (some g) (some g') b b' =
            record {
              declined = λ z k. absurd (not_clear k (neither_empty b b', (clear g g' b b', tt)));
              accepted = λ k. f.finds b b' (s.apart n b b');
            }
