use Rattle.std.proofs.Common.{List, map, string_bytes, String, Err}
use Rattle.std.specs.declared.alloc.Global.{Global}
use Rattle.envvars.specs.Texts.{Text, texts_in}
use Rattle.filetree.specs.Agreement.{InEachPair}
use Rattle.requests.specs.Reasons.{RequestReason, still_needed_by}
use Rattle.requests.specs.Requests.{unload}
use Rattle.requests.specs.Steps.{RequestStep, request_context_in}
use Rattle.modules.specs.Answers.{cause_of}
use Rattle.modules.proofs.TreeAnswers.{reads_both}
use Rattle.module_auto.proofs.UnloadLemmas.{known_reason, longer_names, longer_need}
use Rattle.module_auto.proofs.refused.refused_unload.Goals as goal

pub needing-preserved : goal.needing-preserved
needing-preserved g c =
    let e = c.args.env.now in
    let asked : List Text = map (λ (s : String Global). string_bytes s) c.args.asked.now in
    let added = texts_in c.needing.added in
    let names = texts_in c.needing.names in
    let invariant = c.needing.invariant in
    let narrows = c.unload.ensures.reads.narrows in
    let put = c.in-Ok-put_in_front.ensures.put in
    let Step : RequestReason → Type 0 = λ r.
    InEachPair (g.T.Tree.agrees c.unload.new.tree) (λ files listings. RequestStep (request_context_in c.args.limits c.args.shell files listings) e (unload names) (Err r)) in
    let step = known_reason (cause_of c.in-Err.refusal) (still_needed_by put.needing) _ Step put.refused (rw c.as_slice.ensures.value at c.in-Err.ensures.over_tree) in
    record {
      reads = reads_both _ _ _ invariant.reads c.unload.ensures.reads;
      needing = λ files listings a.
          longer_need (request_context_in c.args.limits c.args.shell files listings) e asked added names invariant.names (invariant.needing files listings (narrows files listings a)) put.needing
          (step files listings a) _ _ put.back put.front;
      names = longer_names asked added names invariant.names put.needing _ _ put.back put.front;
    }
