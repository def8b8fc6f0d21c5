-- `asking::show` meets its contract: by what the writing promises.
use mathlib.Core.Path.{◌≡◌}
use native.Mathlib.Omega.{arith}
use lib.IntN.{pos}
use mir.Syntax.{w64}
use mir.Val.{to_z}
use mir.Facts.{to_z_pos}
use Rattle.asking.specs.Showing.{shown_short, shown_all}
use Rattle.asking.proofs.show.Goals as goal

pub returns-then-room-n : goal.returns-then-room-n
returns-then-room-n c = shown_short c.envelope_root-root.ensures c.write-n.ensures c.if-room-n.true

pub returns : goal.returns
returns c = let n : to_z w64 c.write-n.result ≡ pos c.write-n.result = to_z_pos w64 (omega (arith, c.write-n.ensures.counted.few)) in
    simp n (shown_all c.envelope_root-root.ensures c.write-n.ensures c.if-room-n.false)
