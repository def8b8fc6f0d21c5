-- Two trees whose leaves are envelopes that face each other (`Bridged`, in SearchEnd): the search finds the lines between which the envelope of both is cut
-- and joined.
use Rattle.std.specs.Prelude.{ℕ, suc, ◌-◌, ◌<◌, refl, List, ◌∷◌, ◌++◌, reverse, get_or, take, drop}
use Rattle.std.proofs.Common.{arith, sym, ◌∙◌, length-drop, length-take-le}
use Rattle.std.proofs.Math.Seq.{split_at}
use Rattle.lists.specs.Places.{mem_at, sublist_mem, get_d_reverse}
use Rattle.envelopes.specs.PseudoLines.{Figure, PseudoLines}
use Rattle.envelopes.specs.Bridge.{Facing}
use Rattle.envelopes.proofs.Chains.{reversed}
use Rattle.envelopes.specs.SameLines.{bridge_same}
use Rattle.envelopes.specs.Envelope.{Ordered, Env}
use Rattle.envelopes.specs.EnvelopeLaws.{ordered_apart}
use Rattle.envelopes.proofs.Exists.{bridge}
use Rattle.envelopes.proofs.Merge.{merge_split}
use Rattle.trees.specs.Tree.{Tree, leaves, first}
use Rattle.trees.specs.Leaves.{some_leaf}
use Rattle.meeting.specs.Machine.{left, right}
use Rattle.meeting.specs.Meets.{size, line_from}
use Rattle.meeting.proofs.Meets.{meets}
use Rattle.dynamic.specs.SearchEnd.{Bridged}

module _ (S : Figure) (L : PseudoLines S) (ls rs : List S.Line) (o : Ordered S (ls ++ rs)) (tl tr : Tree S.Line) (E : Env S ls (leaves tl))
    (F : Env S rs (leaves tr)) where
  pub faces : (d : S.Line) → Facing S (line_from left tl d) (size tl) (line_from right tr d) (size tr)
  faces d =
      record {
        left = E.chain d;
        right = reversed S (λ i. get_or (leaves tr) i d) (size tr) (F.chain d);
        apart = λ i j h k.
            ordered_apart S ls rs o (line_from left tl d i) (line_from right tr d j) (sublist_mem E.sub (mem_at (leaves tl) i d h))
            (sublist_mem F.sub (mem_at (leaves tr) (size tr - suc j) d (omega arith)));
      }

  pub search_bridges : Bridged S ls rs tl tr
  search_bridges =
      let d : S.Line = first tl in
      let a : ℕ → S.Line = line_from left tl d in
      let c : ℕ → S.Line = line_from right tr d in
      let (i, j, G) = bridge S L a (size tl) c (size tr) (faces d) (some_leaf tl) (some_leaf tr) in
      let k : ℕ = size tr - suc j in
      let hi : i < size tl = G.on_left.inside in
      let hj : j < size tr = G.on_right.inside in
      let H = bridge_same S {b = a} {d = λ t. get_or (reverse (leaves tr)) t d} (λ t h. refl) (λ t h. sym (get_d_reverse (leaves tr) t d h)) G in
      record {
        u = a i;
        v = c j;
        up_to = take i (leaves tl);
        beyond = drop (suc i) (leaves tl);
        short = take k (leaves tr);
        from = drop (suc k) (leaves tr);
        left_pieces = split_at (leaves tl) i d hi;
        right_pieces = split_at (leaves tr) k d (omega arith);
        merged =
            (merge_split S L ls rs (leaves tl) (leaves tr) (take i (leaves tl) ++ a i ∷ c j ∷ drop (suc k) (leaves tr)) (take i (leaves tl))
            (drop (suc i) (leaves tl))
            (take k (leaves tr)) (drop (suc k) (leaves tr)) (a i) (c j) d i j (split_at (leaves tl) i d hi) (split_at (leaves tr) k d (omega arith)) refl
            (length-take-le i (leaves tl) (omega arith)) (length-drop (suc k) (leaves tr) ∙ omega arith) o E F).0 H;
        met = meets S L tl tr d i j (faces d) G;
      }
