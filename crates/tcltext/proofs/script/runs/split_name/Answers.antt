use Rattle.std.proofs.Common.{◌≡◌, ◌+◌, ℕ, length, get_or, take, drop, sym, ap, subst, ◌∙◌, arith}
use Rattle.std.specs.Str.{IsUtf8}
use Rattle.tcltext.proofs.script.Scans.{scanned-none, scanned-more, scanned-stop, scanned-all, all_after}
use Rattle.tcltext.specs.chars.Runs.{Text}
use Rattle.tcltext.specs.script.ScanState.{Name, scan, is_in_name}
use Rattle.tcltext.proofs.script.runs.split_name.Goals as goal

pub loop-n-init : goal.loop-n-init
loop-n-init c = scanned-none c.as_bytes-bytes.result.now (subst IsUtf8 (sym c.as_bytes-bytes.ensures.value) c.utf8.text)

pub loop-n-preserved : goal.loop-n-preserved
loop-n-preserved c =
    let bs = c.as_bytes-bytes.result.now in
    let after = ap (is_in_name c.loop-n.after_colon (get_or bs c.loop-n.n 0)) (all_after bs (c.loop-n.n + 1)) in
    scanned-more bs c.loop-n.after_colon c.loop-n.n (subst IsUtf8 (sym c.as_bytes-bytes.ensures.value) c.utf8.text) (omega arith)
    (after ∙ sym c.is_in_name.ensures ∙ c.if-not-is_in_name.false) c.loop-n.invariant

stopped : (c : goal.After-split_at) → scan Name c.args.text.now ≡ (take c.loop-n.n c.args.text.now, drop c.loop-n.n c.args.text.now)
stopped c =
    let bs = c.as_bytes-bytes.result.now in
    let after = ap (is_in_name c.loop-n.after_colon (get_or bs c.loop-n.n 0)) (all_after bs (c.loop-n.n + 1)) in
    subst (λ (bs : Text). scan Name bs ≡ (take c.loop-n.n bs, drop c.loop-n.n bs)) c.as_bytes-bytes.ensures.value
    (scanned-stop bs c.loop-n.after_colon c.loop-n.n (omega arith) (after ∙ sym c.is_in_name.ensures ∙ c.if-not-is_in_name.true) c.loop-n.invariant)

pub returns-then-not-is_in_name-clause-run : goal.returns-then-not-is_in_name-clause-run
returns-then-not-is_in_name-clause-run c = c.split_at.ensures.front ∙ sym (ap (λ (p : Text × Text). p.0) (stopped c))

pub returns-then-not-is_in_name-clause-rest : goal.returns-then-not-is_in_name-clause-rest
returns-then-not-is_in_name-clause-rest c = c.split_at.ensures.back ∙ sym (ap (λ (p : Text × Text). p.1) (stopped c))

all : (c : goal.After-split_at-2) → scan Name c.args.text.now ≡ (take (length c.args.text.now) c.args.text.now, drop (length c.args.text.now) c.args.text.now)
all c =
    let bs = c.as_bytes-bytes.result.now in
    let end : c.loop-n.n ≡ length bs = omega arith in
    let found : scan Name bs ≡ (take c.loop-n.n bs, drop c.loop-n.n bs) = scanned-all bs c.loop-n.after_colon c.loop-n.n (omega arith) c.loop-n.invariant in
    subst (λ (bs : Text). scan Name bs ≡ (take (length bs) bs, drop (length bs) bs)) c.as_bytes-bytes.ensures.value
    (subst (λ (n : ℕ). scan Name bs ≡ (take n bs, drop n bs)) end found)

pub returns-clause-run : goal.returns-clause-run
returns-clause-run c = c.split_at-2.ensures.front ∙ sym (ap (λ (p : Text × Text). p.0) (all c))

pub returns-clause-rest : goal.returns-clause-rest
returns-clause-rest c = c.split_at-2.ensures.back ∙ sym (ap (λ (p : Text × Text). p.1) (all c))
