-- `settling::follower` meets its contract: the next in order, and a test of its rate.
use mathlib.Core.Path.{refl}
use mir.Facts.{to_z-of_z}
use mir.Syntax.{w64}
use Rattle.std.proofs.Common.{FitsSigned}
use Rattle.index.specs.Finding.{next_key}
use Rattle.settling.specs.Following.{finds_none, finds_its_rate, finds_another, next_at}
use Rattle.settling.proofs.follower.Goals as goal

pub returns-then-b-lt1 : goal.returns-then-b-lt1
returns-then-b-lt1 c = let f : FitsSigned w64 c.get-rank.result = record { sfits = c.get-rank.type_inv } in
    finds_none (next_at _ c.get-rank.ensures c.number_at-root.ensures (next_key (simp (to_z-of_z, f) at c.after-b.ensures))) c.if-b-lt1.true refl

pub returns-then-is_equal : goal.returns-then-is_equal
returns-then-is_equal c = let f : FitsSigned w64 c.get-rank.result = record { sfits = c.get-rank.type_inv } in
    let g : FitsSigned w64 c.get.result = record { sfits = c.get.type_inv } in
    finds_its_rate (next_at _ c.get-rank.ensures c.number_at-root.ensures (next_key (simp (to_z-of_z, f) at c.after-b.ensures))) c.if-b-lt1.false
    c.get.ensures (simp (to_z-of_z, g) at c.is_equal.ensures) c.if-is_equal.true refl

pub returns : goal.returns
returns c = let f : FitsSigned w64 c.get-rank.result = record { sfits = c.get-rank.type_inv } in
    let g : FitsSigned w64 c.get.result = record { sfits = c.get.type_inv } in
    finds_another (next_at _ c.get-rank.ensures c.number_at-root.ensures (next_key (simp (to_z-of_z, f) at c.after-b.ensures))) c.if-b-lt1.false
    c.get.ensures (simp (to_z-of_z, g) at c.is_equal.ensures) c.if-is_equal.false refl
