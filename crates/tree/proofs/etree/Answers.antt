use Prim.Native.Nat.{ℕ}
use mathlib.Core.List.{List}
use mathlib.Core.Path.{◌≡◌, sym, ap, ◌∙◌}
use native.Mathlib.Omega.{arith}
use lib.ListN.{replicate, length-replicate}
use Rattle.desk.specs.Lists.{over}
use Rattle.desk.proofs.Over.{over-over}
use Rattle.tree.specs.Strike.{entry, none, parents, counts}
use Rattle.tree.specs.Marks.{Setting, Next}
use Rattle.tree.proofs.Entries.{column-entries}
use Rattle.tree.proofs.Later.{length-counts, length-parents}
use Rattle.tree.proofs.Rows.{struck-none, struck-counts, struck-parents}
use Rattle.tree.proofs.etree.Goals as goal
use Rattle.tree.proofs.etree.Goals.{After-strike_column-arg-in-loop-j-2-1}

abbrev setting : ℕ → List ℕ → List ℕ → List ℕ → List ℕ → List ℕ → Setting
setting n colptr rowval work lnz etree = record { n = n; g = entry colptr rowval; work = work; lnz = lnz; etree = etree }

next : (c : After-strike_column-arg-in-loop-j-2-1) → Next (setting c.args.n c.args.a.now.colptr.now c.args.a.now.rowval.now c.fill.new.xs c.fill-2.new.xs c.fill-3.new.xs) c.loop-j.j c.rows.result.now c.loop-j.work c.loop-j.lnz c.loop-j.etree
next c =
    let more = c.loop-j-test.true in
    record {
      below = more;
      column = column-entries _ _ _ c.requires.upper _ more c.rows.ensures;
      struck = c.loop-j.invariant;
    }

pub loop-j-init : goal.loop-j-init
loop-j-init c =
    let pre = c.requires in
    struck-none _ _ _ _ _ _ _ _ pre.small pre.room_work pre.room_counts pre.room_parents c.fill.ensures c.fill-2.ensures c.fill-3.ensures

pub strike_column-requires : goal.strike_column-requires
strike_column-requires c =
    (setting c.args.n c.args.a.now.colptr.now c.args.a.now.rowval.now c.fill.new.xs c.fill-2.new.xs c.fill-3.new.xs, next (goal.at.strike_column-requires c).After-strike_column-arg-in-loop-j-2-1)

pub loop-j-preserved : goal.loop-j-preserved
loop-j-preserved c =
    c.strike_column.ensures (setting c.args.n c.args.a.now.colptr.now c.args.a.now.rowval.now c.fill.new.xs c.fill-2.new.xs c.fill-3.new.xs) (next (goal.at.loop-j-preserved c).After-strike_column-arg-in-loop-j-2-1)

pub returns : goal.returns
returns c =
    let n = c.args.n in
    let g = (setting c.args.n c.args.a.now.colptr.now c.args.a.now.rowval.now c.fill.new.xs c.fill-2.new.xs c.fill-3.new.xs).g in
    let done : c.loop-j.j ≡ n = omega (arith, c.loop-j.auto.j-end, c.loop-j-test.false) in
    record {
      struck_counts =
          struck-counts _ _ _ _ _ c.loop-j.invariant done
          ∙ ap (over (counts n g)) c.fill-2.ensures
          ∙ over-over (counts n g) (replicate n 0) _ (length-counts g n ∙ sym (length-replicate n 0));
      struck_parents =
          struck-parents _ _ _ _ _ c.loop-j.invariant done
          ∙ ap (over (parents n g)) c.fill-3.ensures
          ∙ over-over (parents n g) (replicate n none) _ (length-parents g n ∙ sym (length-replicate n none));
    }
