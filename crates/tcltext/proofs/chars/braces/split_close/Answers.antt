use Rattle.std.proofs.Common.{◌≡◌, ◌+◌, ◌++◌, [], ℕ, List, Some, get_or, take, drop, false, sym, ap, ap₂, subst, ◌∙◌}
use Rattle.std.proofs.Common.{arith, append-nil}
use Rattle.std.proofs.Math.ListN.{drop_of_length-le}
use Rattle.tcltext.proofs.chars.RunLemmas.{mark_cut, drop_one}
use Rattle.tcltext.specs.chars.Braces.{braced_at}
use Rattle.tcltext.proofs.chars.BraceLemmas.{behind_all, brace-more, brace-closed, brace_step-None, brace_step-few}
use Rattle.tcltext.proofs.chars.BraceLemmas.{braced_at-nil}
use Rattle.tcltext.proofs.chars.braces.split_close.Goals as goal

pub split_at-requires-in-None : goal.split_at-requires-in-None
split_at-requires-in-None c =
    let is = brace_step-None _ _ _ (sym c.brace_step.ensures ∙ c.in-None.is) in
    let e = c.as_bytes-bytes.ensures.value in
    mark_cut c.args.text.now c.split_at.result.1.now c.loop-i.i 125 c.utf8.text c.split_at.ensures.back
    (rw (← e) c.loop-i-test.true) (subst (λ (bs : List ℕ). get_or bs c.loop-i.i 0 ≡ 125) e is) (omega arith)

pub returns-in-None : goal.returns-in-None
returns-in-None c =
    let bs = c.as_bytes-bytes.result.now in
    let i = c.loop-i.i in
    let e = c.as_bytes-bytes.ensures.value in
    let closed : braced_at false 0 bs ≡ Some (take i bs ++ [], drop (i + 1) bs) = brace-closed bs i _ _ _ (omega arith) (sym c.brace_step.ensures ∙ c.in-None.is) c.loop-i.invariant.found in
    let inner : c.split_at.result.0.now ≡ take i bs ++ [] = c.split_at.ensures.front ∙ ap (take i) (sym e) ∙ sym (append-nil (take i bs)) in
    let rest : c.split_at-in-None.result.1.now ≡ drop (i + 1) bs =
    c.split_at-in-None.ensures.back ∙ ap (drop 1) (c.split_at.ensures.back ∙ ap (drop i) (sym e)) ∙ drop_one bs i (omega arith)
    in
    ap₂ (λ (xs ys : List ℕ). Some (xs, ys)) inner rest ∙ sym closed ∙ ap (braced_at false 0) e

pub loop-i-preserved : goal.loop-i-preserved
loop-i-preserved c = record {
  few = omega (arith, brace_step-few c.loop-i.escaped c.in-Some.next c.loop-i.depth c.in-Some.open (get_or c.as_bytes-bytes.result.now c.loop-i.i 0) (sym c.brace_step.ensures ∙ c.in-Some.is));
  found = brace-more c.as_bytes-bytes.result.now c.loop-i.i c.loop-i.escaped c.in-Some.next c.loop-i.depth
      c.in-Some.open _ (omega arith) (sym c.brace_step.ensures ∙ c.in-Some.is) c.loop-i.invariant.found;
}

pub returns : goal.returns
returns c =
    let bs = c.as_bytes-bytes.result.now in
    let none : drop c.loop-i.i bs ≡ [] = drop_of_length-le bs (omega arith) in
    sym (ap (braced_at false 0) (sym c.as_bytes-bytes.ensures.value) ∙ c.loop-i.invariant.found
    ∙ ap (λ ys. behind_all (take c.loop-i.i bs) (braced_at c.loop-i.escaped c.loop-i.depth ys)) none
    ∙ ap (behind_all (take c.loop-i.i bs)) (braced_at-nil c.loop-i.escaped c.loop-i.depth))
