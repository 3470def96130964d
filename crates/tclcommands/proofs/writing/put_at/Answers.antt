use Rattle.std.proofs.Common.{◌<◌, ◌≤◌, length, ap, refl, arith}
use Rattle.std.proofs.lemmas.Result.{err_from_is_err_and}
use Rattle.tclrules.proofs.Leading.{starve}
use Rattle.tclforms.proofs.substitution.Leading.{sized_on, sized_stops}
use Rattle.tclcommands.proofs.writing.put_at.Goals as goal

pub returns-then-as_str-limit : goal.returns-then-as_str-limit
returns-then-as_str-limit c =
    let h : c.args.limit < length c.args.content = omega (arith, ap length c.as_str.ensures, c.if-as_str-limit.true) in
    record { continues = λ most remaining r k x. sized_stops _ _ _ h; written = tt }

pub returns-in_err-put : goal.returns-in_err-put
returns-in_err-put c =
    let p = err_from_is_err_and c.from_residual.result c.from_residual.ensures.1 in
    rw (p.1, p.2) (record { continues = λ most remaining r k x. starve; written = tt })

pub returns : goal.returns
returns c =
    let h : length c.args.content ≤ c.args.limit = omega (arith, ap length c.as_str.ensures, c.if-as_str-limit.false) in
    record { continues = λ most remaining r k x. rw c.in_ok-put.ensures.ok (sized_on _ _ _ h); written = c.in_ok-put.ensures.ok }

pub same-content : goal.same-content
same-content c = refl
