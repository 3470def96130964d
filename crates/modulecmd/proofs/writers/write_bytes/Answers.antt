use Rattle.std.proofs.Common.{rules, arith, take, drop, length, ◌-◌}
use Rattle.std.proofs.Math.Seq.{take-add}
use Rattle.std.proofs.lemmas.List.{take_all, length-drop}
use Rattle.modulecmd.proofs.WriterLemmas.{appends_more}
use Rattle.modulecmd.proofs.writers.write_bytes.Goals as goal

pub loop-done-preserved : goal.loop-done-preserved
loop-done-preserved g c =
    let rest = take_all (length c.args.bytes.now - c.loop-done.done) (drop c.loop-done.done c.args.bytes.now) (simp length-drop (omega arith)) in
    let more = rw rest at c.in-Ok.ensures.bytes in
    record {
      within = search rules;
      so_far = rw (take-add c.loop-done.done c.in-Ok.n c.args.bytes.now)
          (appends_more (g.W.Write.contents c.args.to.now) (g.W.Write.contents c.loop-done.to)
          (g.W.Write.contents c.write.new.self) (take c.loop-done.done c.args.bytes.now)
          (take c.in-Ok.n (drop c.loop-done.done c.args.bytes.now)) c.loop-done.invariant.so_far more);
    }
