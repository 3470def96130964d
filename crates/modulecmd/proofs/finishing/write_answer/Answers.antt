use Rattle.std.proofs.Common.{[], inl, inr}
use Rattle.modulecmd.proofs.WriterLemmas.{appends_more, appends_none, keeps_same, on_err, on_err_so, on_ok_so}
use Rattle.modulecmd.proofs.WriterLemmas.{part_last, part_more}
use Rattle.modulecmd.proofs.finishing.write_answer.Goals as goal

pub returns-in_err-write_texts-clause-cut : goal.returns-in_err-write_texts-clause-cut
returns-in_err-write_texts-clause-cut g c =
    on_err _ _ (inl (keeps_same _, part_more (g.E.Write.contents c.args.err.now) _ _ [] _ c.args.report.now (appends_none _) c.in_err-write_texts.ensures.cut))

pub returns-in_err-write_bytes-clause-cut : goal.returns-in_err-write_bytes-clause-cut
returns-in_err-write_bytes-clause-cut g c =
    let part = rw c.as_bytes.ensures.value at c.in_err-write_bytes.ensures.cut in
    on_err _ _ (inl (keeps_same _, part_last (g.E.Write.contents c.args.err.now) _ _ _ _ c.in_ok-write_texts.ensures.whole part))

pub returns-clause-whole : goal.returns-clause-whole
returns-clause-whole g c =
    let report = rw c.as_bytes.ensures.value at c.in_ok-write_bytes.ensures.whole in
    let words = appends_more (g.E.Write.contents c.args.err.now) _ _ _ _ c.in_ok-write_texts.ensures.whole report in
    let text = rw c.as_bytes-2.ensures.value at c.write_bytes-2.ensures.whole in
    on_ok_so c.write_bytes-2.result _ _ (λ a. (a, words)) text

pub returns-clause-cut : goal.returns-clause-cut
returns-clause-cut g c =
    let report = rw c.as_bytes.ensures.value at c.in_ok-write_bytes.ensures.whole in
    let words = appends_more (g.E.Write.contents c.args.err.now) _ _ _ _ c.in_ok-write_texts.ensures.whole report in
    let text = rw c.as_bytes-2.ensures.value at c.write_bytes-2.ensures.cut in
    on_err_so c.write_bytes-2.result _ _ (λ a. inr (a, words)) text
