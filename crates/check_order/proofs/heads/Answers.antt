-- `check_order::heads` meets its contract: what is left to compare decides the whole.
use mathlib.Core.Path.{◌∙◌, sym}
use Rattle.std.proofs.Common.{◌≡◌, ℕ, ◌+◌, ◌≤◌, ◌<◌, List, length, get_or, arith}
use Rattle.std.specs.List.{between}
use Rattle.check_trees.specs.Scratch.{scratch_length, second_half}
use Rattle.check_trees.proofs.Scans.{range_long, range_at}
use Rattle.check_order.specs.Heads.{goes_on, goes_new, refused_room, refused_other, ends}
use Rattle.check_order.proofs.heads.Goals as goal

-- the range of the order's slots, entry by entry
module _ (xs : List ℕ) (n : ℕ) (long : length xs ≡ scratch_length) (h : n ≤ second_half) where
  order_long : length (between second_half (second_half + n) xs) ≡ n
  order_long = omega (arith, range_long xs second_half (second_half + n) (omega arith))

  order_at : (i : ℕ) → i < n → get_or (between second_half (second_half + n) xs) i 0 ≡ get_or xs (second_half + i) 0
  order_at i l = range_at xs second_half (second_half + n) (omega arith) i 0 (omega arith)

pub loop-s-preserved-then-not-is_new : goal.loop-s-preserved-then-not-is_new
loop-s-preserved-then-not-is_new c =
    let long = order_long c.args.scratch.now c.args.n c.told-scratch c.requires.1 in
    let more : c.loop-s.s-index < c.args.n = omega arith in
    let e = order_at c.args.scratch.now c.args.n c.told-scratch c.requires.1 c.loop-s.s-index more in
    (c.loop-s.invariant.0, goes_on c.loop-s.invariant.1 more e (sym c.is_new.ensures ∙ c.if-not-is_new.true))

pub returns-then-m-j : goal.returns-then-m-j
returns-then-m-j c =
    let long = order_long c.args.scratch.now c.args.n c.told-scratch c.requires.1 in
    let more : c.loop-s.s-index < c.args.n = omega arith in
    let e = order_at c.args.scratch.now c.args.n c.told-scratch c.requires.1 c.loop-s.s-index more in
    refused_room c.loop-s.invariant.1 more e (sym c.is_new.ensures ∙ c.if-not-is_new.false) c.if-m-j.true

pub returns-then-entry-s : goal.returns-then-entry-s
returns-then-entry-s c =
    let long = order_long c.args.scratch.now c.args.n c.told-scratch c.requires.1 in
    let more : c.loop-s.s-index < c.args.n = omega arith in
    let e = order_at c.args.scratch.now c.args.n c.told-scratch c.requires.1 c.loop-s.s-index more in
    refused_other c.loop-s.invariant.1 more e (sym c.is_new.ensures ∙ c.if-not-is_new.false) c.if-m-j.false
    (λ q. c.if-entry-s.true (c.entry.ensures ∙ q))

pub loop-s-preserved : goal.loop-s-preserved
loop-s-preserved c =
    let long = order_long c.args.scratch.now c.args.n c.told-scratch c.requires.1 in
    let more : c.loop-s.s-index < c.args.n = omega arith in
    let e = order_at c.args.scratch.now c.args.n c.told-scratch c.requires.1 c.loop-s.s-index more in (
      omega (arith, c.if-m-j.false),
      goes_new c.loop-s.invariant.1 more e (sym c.is_new.ensures ∙ c.if-not-is_new.false) c.if-m-j.false
          (sym c.entry.ensures ∙ c.if-entry-s.false),
    )

pub returns : goal.returns
returns c =
    let long = order_long c.args.scratch.now c.args.n c.told-scratch c.requires.1 in
    ends c.loop-s.invariant.1 (omega (arith, long, c.loop-s-test.false))
