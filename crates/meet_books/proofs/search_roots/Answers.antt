-- `meet_books::search_roots` meets its contract: by the search and what it read at its end.
use mathlib.Core.Path.{◌≡◌}
use native.Mathlib.Omega.{arith}
use lib.IntN.{pos}
use mir.Facts.{to_z-of_z, to_z_pos}
use mir.Syntax.{w64}
use mir.Val.{to_z}
use Rattle.meet_books.specs.Searching.{searches}
use Rattle.std.proofs.Common.{FitsSigned}
use Rattle.meet_books.proofs.search_roots.Goals as goal

pub returns : goal.returns
returns c = let g : FitsSigned w64 c.get-u.result = record { sfits = c.get-u.type_inv } in
    let g' : FitsSigned w64 c.get-v.result = record { sfits = c.get-v.type_inv } in
    let s : to_z w64 c.meet-m.result.steps ≡ pos c.meet-m.result.steps = to_z_pos w64 (omega arith) in
    let a : to_z w64 c.height-hl.result ≡ pos c.height-hl.result = to_z_pos w64 (omega arith) in
    let d : to_z w64 c.height-hr.result ≡ pos c.height-hr.result = to_z_pos w64 (omega arith) in
    simp (to_z-of_z, g, g', s, a, d)
    (searches
    (record {
      left_root = c.envelope_root-l.ensures;
      right_root = c.envelope_root-r.ensures;
      searched = rw (c.of.ensures, c.of-2.ensures) at c.meet-m.ensures;
      left_number = c.get-u.ensures;
      right_number = c.get-v.ensures;
      left_height = c.height-hl.ensures;
      right_height = c.height-hr.ensures;
    }))
