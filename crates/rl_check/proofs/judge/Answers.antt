-- What `load` refuses is refused (`refused_checks`), and what it leaves is ready for `check_loaded`, whose answer is passed on (`loaded_checks`).

use native.Mathlib.Omega.{arith}
use mathlib.Core.Path.{refl}
use Prim.Native.Nat.{◌≤◌}
use lib.ListN.{length}
use Rattle.image.specs.Answer.{slices}
use Rattle.rl_check.specs.Work.{check_work}
use Rattle.rl_check.proofs.Checking.{refused_checks, rows, ready, loaded_checks}
use Rattle.rl_check.proofs.judge.Goals as goal

pub invariant_of-check_loaded : goal.invariant_of-check_loaded
invariant_of-check_loaded c =
    let load = c.load in
    let a = c.args in
    let w = a.work.now in
    let d : 4096 ≤ length w.depths.now = omega (arith, c.requires, w.long_depths) in
    let t : 4096 ≤ length w.todo.now = omega (arith, c.requires, w.long_todo) in
    record {
      rows = rows a.image.now (check_work (slices a.bytes.now a.ends.now a.kinds.now a.payloads.now a.table.now) w.heights.now w.depths.now w.todo.now) c.requires d t (slices load.new.bytes load.new.ends
          load.new.kinds load.new.payloads load.new.table) load.result _ c.in-Ok.is load.ensures;
    }

pub check_loaded-requires : goal.check_loaded-requires
check_loaded-requires c =
    let load = c.load in
    let a = c.args in
    let w = a.work.now in
    let d : 4096 ≤ length w.depths.now = omega (arith, c.requires, w.long_depths) in
    let t : 4096 ≤ length w.todo.now = omega (arith, c.requires, w.long_todo) in
    ready a.image.now (check_work (slices a.bytes.now a.ends.now a.kinds.now a.payloads.now a.table.now) w.heights.now w.depths.now w.todo.now) c.requires d t (slices load.new.bytes load.new.ends
    load.new.kinds load.new.payloads load.new.table) load.result _ c.in-Ok.is load.ensures _ refl refl refl refl c.requires

pub returns-in-Ok : goal.returns-in-Ok
returns-in-Ok c =
    let load = c.load in
    let a = c.args in
    let w = a.work.now in
    let d : 4096 ≤ length w.depths.now = omega (arith, c.requires, w.long_depths) in
    let t : 4096 ≤ length w.todo.now = omega (arith, c.requires, w.long_todo) in
    loaded_checks a.image.now (check_work (slices a.bytes.now a.ends.now a.kinds.now a.payloads.now a.table.now) w.heights.now w.depths.now w.todo.now) c.requires d t (slices load.new.bytes load.new.ends
    load.new.kinds load.new.payloads load.new.table) load.result _ c.in-Ok.is load.ensures c.check_loaded.result c.check_loaded.ensures

pub returns-in-Err : goal.returns-in-Err
returns-in-Err c =
    let load = c.load in
    let a = c.args in
    let w = a.work.now in
    let d : 4096 ≤ length w.depths.now = omega (arith, c.requires, w.long_depths) in
    let t : 4096 ≤ length w.todo.now = omega (arith, c.requires, w.long_todo) in
    refused_checks a.image.now (check_work (slices a.bytes.now a.ends.now a.kinds.now a.payloads.now a.table.now) w.heights.now w.depths.now w.todo.now) c.requires d t (slices load.new.bytes load.new.ends
    load.new.kinds load.new.payloads load.new.table) load.result _ c.in-Err.is load.ensures
