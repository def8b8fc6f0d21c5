-- What a post and a withdrawal do to the tree of the firsts: one of three things each, with the searches that it costs.
use Rattle.std.specs.Prelude.{◌≡◌, refl, ◌≢◌}
use Rattle.std.proofs.Common.{sym, ◌∙◌, ap, subst, inl}
use mathlib.Core.List.Memᴰ
use mathlib.Core.List.{List, [], map, Memᴰ}
use Rattle.std.proofs.Math.Option.{Option, none, some}
use Rattle.lists.specs.Firsts.{firsts_sub}
use Rattle.lists.specs.Places.{sublist_mem}
use Rattle.offers.specs.Offers.{Offer}
use Rattle.offers.specs.Order.{Ahead, ahead_other}
use Rattle.envelopes.specs.Envelope.{Ordered}
use Rattle.lines.specs.Lines.{before_total}
use Rattle.plain.specs.FirstLaws.{by_rate, laws, standing_one, FirstOf, firsts_ordered, one_of_rate}
use Rattle.dynamic.specs.OfferTree.{Held, Pair}
use Rattle.dynamic.specs.Updates.{posted, vacated}
use Rattle.dynamic.specs.Valid.{WholeBook, book_lines, placed, instead, without}
use Rattle.dynamic.specs.Placed.{New, in_placed, in_instead}
use Rattle.dynamic.proofs.Updated.{idle_work, posted_whole, posted_lines, posted_work, withdrawn_whole, withdrawn_lines, withdrawn_work}
use Rattle.dynamic.proofs.Updated.{replaced_whole, replaced_lines, replaced_work}
use Rattle.dynamic.specs.Work.{Work}
use Rattle.firsts.specs.Joins.{firsts_of, same_place, Joins, joins_new, joins_ahead, joins_behind, Leaves, leaves_behind, leaves_to, leaves_alone}

module _ (A : Type 0) (of : A → Offer) where
  -- from one tree of firsts to that of os, by a log of searches
  pub record Filed (st st' : Option (Held A)) (os : List A) (log : List (Pair A)) : Type 0 where
    pub whole : WholeBook (by_rate A of) st'
    pub lines : book_lines st' ≡ firsts_of A of os
    pub work : Work (by_rate A of) st st' log
    -- where the first offer of each rate stays, nothing was searched
    pub spared : map of (book_lines st) ≡ map of (book_lines st') → log ≡ []

  -- where two lists have the same offers, a line of one has its offer in the other
  alike : {xs ys : List A} {x : A} → map of xs ≡ map of ys → Memᴰ x xs → (y : A) × Memᴰ y ys × (of y ≡ of x)
  alike {ys} {x} q m = Memᴰ.of_map of ys (subst (Memᴰ (of x)) q (Memᴰ.map of m))

  module _ {os : List A} (st : Option (Held A)) (w : WholeBook (by_rate A of) st) (e : book_lines st ≡ firsts_of A of os) where
    module _ {o : A} {os' : List A} (j : Joins A of o os os') where
      -- the rate is new
      pub new_line : ((x : A) → Memᴰ x (book_lines st) → (of x).rate ≢ (of o).rate) → New (by_rate A of) o (book_lines st)
      new_line n x m = before_total A (λ a. (of a).rate) (λ a. (of a).base) o x (λ d. n x m (sym d))

      pub filed_new :
          ((x : A) → Memᴰ x os → (of x).rate ≢ (of o).rate) → Filed st (some (posted (by_rate A of) o st).held) os' (posted (by_rate A of) o st).log
      filed_new n =
          record {
            whole = posted_whole (by_rate A of) (laws A of) o st w new;
            lines = posted_lines (by_rate A of) (laws A of) o st w new ∙ ap (placed (by_rate A of) o) e
                ∙ sym (joins_new A of j n (subst (New (by_rate A of) o) e new));
            work = posted_work (by_rate A of) (laws A of) o st w new;
            spared = λ q. let (y, i, d) = alike (sym q) new_there in absurd (n y (line_of i) (ap (λ x. x.rate) d));
          }
        where
          line_of : {x : A} → Memᴰ x (book_lines st) → Memᴰ x os
          line_of {x} m = sublist_mem (firsts_sub (by_rate A of).before os) (subst (Memᴰ x) e m)

          new : New (by_rate A of) o (book_lines st)
          new = new_line (λ x m. n x (line_of m))

          new_there : Memᴰ o (book_lines (some (posted (by_rate A of) o st).held))
          new_there = subst (Memᴰ o) (sym (posted_lines (by_rate A of) (laws A of) o st w new)) (in_placed (by_rate A of) o (book_lines st) o (inl refl))

      -- the line goes ahead of its rate's first
      pub filed_ahead : (f : A) → Memᴰ f (book_lines st) → (of f).rate ≡ (of o).rate → Ahead (of o) (of f) →
          Filed st (vacated (by_rate A of) f (some o) st).rest os' (vacated (by_rate A of) f (some o) st).log
      filed_ahead f m r k =
          record {
            whole = replaced_whole (by_rate A of) (laws A of) f o (same_place A of f o r) st w m;
            lines = replaced_lines (by_rate A of) (laws A of) f o (same_place A of f o r) st w m ∙ ap (instead (by_rate A of) f (some o)) e
                ∙ sym (joins_ahead A of j f (subst (Memᴰ f) e m) r k);
            work = replaced_work (by_rate A of) (laws A of) f o (same_place A of f o r) st w m;
            spared = λ q. let (y, i, d) = alike (sym q) new_there in absurd (no_such y i d);
          }
        where
          lines_ordered : Ordered (by_rate A of) (book_lines st)
          lines_ordered = subst (Ordered (by_rate A of)) (sym e) (firsts_ordered A of os)

          new_there : Memᴰ o (book_lines (vacated (by_rate A of) f (some o) st).rest)
          new_there =
              subst (Memᴰ o) (sym (replaced_lines (by_rate A of) (laws A of) f o (same_place A of f o r) st w m))
              ((in_instead (by_rate A of) (laws A of) f (some o) lines_ordered m o).1 (inl (Memᴰ.head refl)))

          -- a line with its offer would be f
          no_such : (y : A) → Memᴰ y (book_lines st) → of y ≢ of o
          no_such y i d =
              let q : y ≡ f = one_of_rate A of os (subst (Memᴰ y) e i) (subst (Memᴰ f) e m) (ap (λ x. x.rate) d ∙ sym r) in
              ahead_other k (sym d ∙ ap of q)

      -- or behind it
      pub filed_behind : (f : A) → Memᴰ f (book_lines st) → (of f).rate ≡ (of o).rate → Ahead (of f) (of o) → Filed st st os' []
      filed_behind f m r k =
          record { whole = w; lines = e ∙ sym (joins_behind A of j f (subst (Memᴰ f) e m) r k); work = idle_work (by_rate A of) st; spared = λ q. refl }

    module _ {a : A} {os' : List A} (l : Leaves A of a os os') where
      -- the offer of a line that has left is none of the firsts'
      gone : {log : List (Pair A)} → Memᴰ a (book_lines st) → map of (book_lines st) ≡ map of (firsts_of A of os') → log ≡ []
      gone m q =
          let (y, i, d) = alike q m in
          let t = l.there y (sublist_mem (firsts_sub (by_rate A of).before os') i) in
          absurd (t.1 (standing_one A of l.standing t.0 l.live d))

      -- the line is not its rate's first
      pub unfiled_behind : (f : A) → Memᴰ f (book_lines st) → (of f).rate ≡ (of a).rate → f ≢ a → Filed st st os' []
      unfiled_behind f m r d =
          record { whole = w; lines = e ∙ sym (leaves_behind A of l f (subst (Memᴰ f) e m) r d); work = idle_work (by_rate A of) st; spared = λ q. refl }

      -- it is, and another follows
      pub unfiled_to : Memᴰ a (book_lines st) → (b : A) → FirstOf A of os' b → (of a).rate ≡ (of b).rate →
          Filed st (vacated (by_rate A of) a (some b) st).rest os' (vacated (by_rate A of) a (some b) st).log
      unfiled_to m b h r =
          record {
            whole = replaced_whole (by_rate A of) (laws A of) a b (same_place A of a b r) st w m;
            lines = lines;
            work = replaced_work (by_rate A of) (laws A of) a b (same_place A of a b r) st w m;
            spared = λ q. gone m (q ∙ ap (map of) lines);
          }
        where
          lines : book_lines (vacated (by_rate A of) a (some b) st).rest ≡ firsts_of A of os'
          lines =
              replaced_lines (by_rate A of) (laws A of) a b (same_place A of a b r) st w m ∙ ap (instead (by_rate A of) a (some b)) e
              ∙ sym (leaves_to A of l (subst (Memᴰ a) e m) b h r)

      -- it is, and alone in its rate
      pub unfiled_alone : Memᴰ a (book_lines st) → ((x : A) → Memᴰ x os' → (of a).rate ≢ (of x).rate) →
          Filed st (vacated (by_rate A of) a none st).rest os' (vacated (by_rate A of) a none st).log
      unfiled_alone m n =
          record {
            whole = withdrawn_whole (by_rate A of) (laws A of) a st w m;
            lines = lines;
            work = withdrawn_work (by_rate A of) (laws A of) a st w m;
            spared = λ q. gone m (q ∙ ap (map of) lines);
          }
        where
          lines : book_lines (vacated (by_rate A of) a none st).rest ≡ firsts_of A of os'
          lines =
              withdrawn_lines (by_rate A of) (laws A of) a st w m ∙ ap (without (by_rate A of) a) e
              ∙ sym (leaves_alone A of l (subst (Memᴰ a) e m) n)
