-- `search::step` meets its contract: the action chosen for each walk is what the walk does.
use mathlib.Core.Bool.{true, false}
use mathlib.Core.Path.{refl}
use Rattle.walks.specs.Actions.{Noted, noted_by, full_by, noted_top, stays_noted}
use Rattle.walks.specs.declared.Action.TheVariants.{Stay}
use Rattle.search.specs.SearchSteps.{u_of, v_of}
use Rattle.search.proofs.step.Goals as goal
use Rattle.search.proofs.step.Goals.{then-ud-lt-STACK, else-ud-lt-STACK, then-vd-lt-STACK, else-vd-lt-STACK}

pub returns-in_default : goal.returns-in_default
returns-in_default c =
    let s = c.args.s in
    let nu : Noted s.us s.ud s.u c.if-ud-lt-STACK.us = elim c.if-ud-lt-STACK.branch [
      | then-ud-lt-STACK w ↦ noted_by w.if-ud-lt-STACK.true w.us-is
      | else-ud-lt-STACK w ↦ full_by w.if-ud-lt-STACK.false w.us-is
    ] in
    let nv : Noted s.vs s.vd s.v c.if-vd-lt-STACK.vs = elim c.if-vd-lt-STACK.branch [
      | then-vd-lt-STACK w ↦ noted_by w.if-vd-lt-STACK.true w.vs-is
      | else-vd-lt-STACK w ↦ full_by w.if-vd-lt-STACK.false w.vs-is
    ] in
    let tu = noted_top {h = u_of s} nu refl in
    let tv = noted_top {h = v_of s} nv refl in
    (rw c.in_default.is at c.choose.ensures).next s.us s.ud s.vs s.vd s.done tu tv _ (refl, stays_noted _ false Stay refl nu, stays_noted _ true Stay refl nv)

pub returns : goal.returns
returns c =
    let s = c.args.s in
    let nu : Noted s.us s.ud s.u c.if-ud-lt-STACK.us = elim c.if-ud-lt-STACK.branch [
      | then-ud-lt-STACK w ↦ noted_by w.if-ud-lt-STACK.true w.us-is
      | else-ud-lt-STACK w ↦ full_by w.if-ud-lt-STACK.false w.us-is
    ] in
    let nv : Noted s.vs s.vd s.v c.if-vd-lt-STACK.vs = elim c.if-vd-lt-STACK.branch [
      | then-vd-lt-STACK w ↦ noted_by w.if-vd-lt-STACK.true w.vs-is
      | else-vd-lt-STACK w ↦ full_by w.if-vd-lt-STACK.false w.vs-is
    ] in
    let tu = noted_top {h = u_of s} nu refl in
    let tv = noted_top {h = v_of s} nv refl in
    (rw c.in-Some.is at c.choose.ensures).next s.us s.ud s.vs s.vd s.done tu tv _
    (refl, c.act-a.ensures.moved nu tu, c.act-b.ensures.moved nv tv)
