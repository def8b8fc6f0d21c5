-- Post, withdraw and replace keep the book right: its lines, its envelopes, its balance, and what is promised of the searches.
use Rattle.std.specs.Prelude.{◌+◌, ◌*◌, ◌≤◌, max, ◌≡◌, length}
use Rattle.std.proofs.Common.{arith, sym, ap, subst, ◌∙◌}
use Rattle.std.proofs.Math.Path.{refl}
use mathlib.Core.List.Memᴰ
use mathlib.Core.List.{List, [], ◌∷◌, append-nil, Memᴰ}
use Rattle.std.proofs.Math.Option.{Option, none, some}
use Rattle.integers.specs.Log.{log_up, log_up_mono}
use Rattle.envelopes.specs.PseudoLines.{Figure, PseudoLines}
use Rattle.envelopes.specs.Envelope.{listed}
use Rattle.envelopes.proofs.Query.{env_listed}
use Rattle.trees.specs.Tree.{leaves}
use Rattle.trees.specs.Height.{log_height}
use Rattle.dynamic.specs.OfferTree.{Held, held_shape, Pair}
use Rattle.dynamic.specs.Updates.{posted, withdrawn, replaced}
use Rattle.dynamic.specs.Valid.{Whole, WholeBook, book_lines, book_envelope, placed, without, instead, SamePlace}
use Rattle.dynamic.specs.Work.{inners, book_inners, Searched, floor_none, Work}
use Rattle.dynamic.specs.Lower.{valid_env}
use Rattle.dynamic.specs.Floors.{floor_old}
use Rattle.dynamic.specs.Forests.{row_of, lines_row, inners_row}
use Rattle.dynamic.specs.Kept.{Kept, started}
use Rattle.dynamic.specs.Placed.{New, placed_ordered, without_ordered, instead_none, instead_ordered}
use Rattle.dynamic.specs.Inserted.{alone_whole}
use Rattle.dynamic.proofs.Inserted.{inserted}
use Rattle.dynamic.proofs.Removed.{removed}

-- An update as a whole: the book after it as a row of at most one tree, and a log of few searches.
pub record Updates (S : Figure) (before after : Option (Held S.Line)) (live : List S.Line) (log : List (Pair S.Line)) : Type 0 where
  pub kept : Kept S (book_inners before) live (row_of after) log
  pub few : length log ≤ 6 * log_up (length (book_lines before)) + 1

module _ (S : Figure) where
  -- a book before anything is done to it
  pub opened : (h : Held S.Line) → Whole S h → Kept S (inners (held_shape h)) (leaves (held_shape h)) (h ∷ []) []
  opened h w =
      started S w.ordered (append-nil (leaves (held_shape h))) (λ x m. subst (Whole S) (sym (Memᴰ.eq_of_singleton m)) w)
      (rw append-nil (floor_old S (inners (held_shape h)) (inners (held_shape h)) (λ n m. m)))

  -- nothing is done, and nothing searched
  pub idle_work : (st : Option (Held S.Line)) → Work S st st []
  idle_work st =
      record {
        searched = λ p m. absurd (Memᴰ.not-nil m);
        few_steps = omega arith;
        few_searches = omega arith;
        floor = floor_old S (book_inners st) (book_inners st) (λ n m. m);
      }

  -- ---- what a kept row of one tree says

  module _ {before after : Option (Held S.Line)} {live : List S.Line} {log : List (Pair S.Line)} (u : Updates S before after live log) where
    updated_lines : book_lines after ≡ live
    updated_lines = sym (lines_row after) ∙ u.kept.lines

    updated_work : Work S before after log
    updated_work =
        record {
          searched = λ p m. subst (λ ls. Searched S ls p) (sym updated_lines) (u.kept.searched p m);
          few_steps = u.kept.few_steps;
          few_searches =
              let log_up_more : log_up (length (book_lines before)) ≤ log_up (max (length (book_lines before)) (length (book_lines after))) = log_up_mono (omega arith) in
              omega (arith, u.few);
          floor = rw inners_row at u.kept.floor;
        }

  updated_whole : {before : Option (Held S.Line)} (after : Option (Held S.Line)) {live : List S.Line} {log : List (Pair S.Line)} →
      Updates S before after live log → WholeBook S after
  updated_whole none u = tt
  updated_whole (some h) u = u.kept.whole h (Memᴰ.head refl)

module _ (S : Figure) (L : PseudoLines S) where
  -- the root's envelope is the listing
  pub book_listed : (st : Option (Held S.Line)) → WholeBook S st → book_envelope st ≡ listed S (book_lines st)
  unfolding listed
  book_listed none w = refl
  book_listed (some h) w = env_listed S L (leaves (held_shape h)) _ w.ordered (valid_env S L w.valid)

  module _ (s : S.Line) where
    pub posts : (st : Option (Held S.Line)) → WholeBook S st → New S s (book_lines st) →
        Updates S st (some (posted S s st).held) (placed S s (book_lines st)) (posted S s st).log
    posts none w n =
        record {
          kept = started S (alone_whole S s).ordered refl (λ x m. subst (Whole S) (sym (Memᴰ.eq_of_singleton m)) (alone_whole S s)) floor_none;
          few = omega arith;
        }
    posts (some h) w n =
        let G = inserted S L (inners (held_shape h)) (placed S s (leaves (held_shape h))) (placed_ordered S L s (leaves (held_shape h)) w.ordered n) s
        h.tree h.whole [] [] (leaves (held_shape h)) (opened S h w) (append-nil _) in
        record { kept = G.kept; few = omega (arith, G.few, log_height w.balanced) }

    pub withdraws : (st : Option (Held S.Line)) → WholeBook S st → Memᴰ s (book_lines st) →
        Updates S st (withdrawn S s st).rest (without S s (book_lines st)) (withdrawn S s st).log
    withdraws none w m = absurd (Memᴰ.not-nil m)
    withdraws (some h) w m =
        let G = removed S L (inners (held_shape h)) (without S s (leaves (held_shape h))) (without_ordered S s w.ordered) s none h.tree h.whole [] []
        (leaves (held_shape h)) (opened S h w) m (append-nil _ ∙ instead_none S s (leaves (held_shape h))) in
        record { kept = rw append-nil at G.kept; few = omega (arith, G.few, log_height w.balanced) }

    pub replaces :
        (b : S.Line) → SamePlace S s b → (st : Option (Held S.Line)) → WholeBook S st → Memᴰ s (book_lines st) →
        Updates S st (replaced S s b st).rest (instead S s (some b) (book_lines st)) (replaced S s b st).log
    replaces b f none w m = absurd (Memᴰ.not-nil m)
    replaces b f (some h) w m =
        let G = removed S L (inners (held_shape h)) (instead S s (some b) (leaves (held_shape h))) (instead_ordered S L s (some b) w.ordered m f) s
        (some b) h.tree h.whole [] [] (leaves (held_shape h)) (opened S h w) m (append-nil _) in
        record { kept = rw append-nil at G.kept; few = omega (arith, G.few, log_height w.balanced) }

    -- ---- post

    module _ (st : Option (Held S.Line)) (w : WholeBook S st) (new : New S s (book_lines st)) where
      pub posted_whole : Whole S (posted S s st).held
      posted_whole = updated_whole S (some (posted S s st).held) (posts st w new)

      pub posted_lines : leaves (held_shape (posted S s st).held) ≡ placed S s (book_lines st)
      posted_lines = updated_lines S (posts st w new)

      pub posted_work : Work S st (some (posted S s st).held) (posted S s st).log
      posted_work = updated_work S (posts st w new)

      pub posted_listed : book_envelope (some (posted S s st).held) ≡ listed S (placed S s (book_lines st))
      posted_listed = book_listed (some (posted S s st).held) posted_whole ∙ ap (listed S) posted_lines

    -- ---- withdraw

    module _ (st : Option (Held S.Line)) (w : WholeBook S st) (live : Memᴰ s (book_lines st)) where
      pub withdrawn_whole : WholeBook S (withdrawn S s st).rest
      withdrawn_whole = updated_whole S (withdrawn S s st).rest (withdraws st w live)

      pub withdrawn_lines : book_lines (withdrawn S s st).rest ≡ without S s (book_lines st)
      withdrawn_lines = updated_lines S (withdraws st w live)

      pub withdrawn_work : Work S st (withdrawn S s st).rest (withdrawn S s st).log
      withdrawn_work = updated_work S (withdraws st w live)

      pub withdrawn_listed : book_envelope (withdrawn S s st).rest ≡ listed S (without S s (book_lines st))
      withdrawn_listed = book_listed (withdrawn S s st).rest withdrawn_whole ∙ ap (listed S) withdrawn_lines

    -- ---- replace

    module _ (b : S.Line) (place : SamePlace S s b) (st : Option (Held S.Line)) (w : WholeBook S st) (live : Memᴰ s (book_lines st)) where
      pub replaced_whole : WholeBook S (replaced S s b st).rest
      replaced_whole = updated_whole S (replaced S s b st).rest (replaces b place st w live)

      pub replaced_lines : book_lines (replaced S s b st).rest ≡ instead S s (some b) (book_lines st)
      replaced_lines = updated_lines S (replaces b place st w live)

      pub replaced_work : Work S st (replaced S s b st).rest (replaced S s b st).log
      replaced_work = updated_work S (replaces b place st w live)

      pub replaced_listed : book_envelope (replaced S s b st).rest ≡ listed S (instead S s (some b) (book_lines st))
      replaced_listed = book_listed (replaced S s b st).rest replaced_whole ∙ ap (listed S) replaced_lines
