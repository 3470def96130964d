use Rattle.tclrules.specs.Variables.{State}
use Rattle.tclrules.proofs.Leading.{stay}
use Rattle.tcltext.specs.chars.Runs.{Text}
use Rattle.tclforms.proofs.substitution.Leading.{starved_end, starved_after, passed_on}
use Rattle.tclcommands.proofs.completion.store_caught.Goals as goal

pub returns-in_err-from_str-in-None : goal.returns-in_err-from_str-in-None
returns-in_err-from_str-in-None c = λ most remaining r k x. starved_end _ _ _ c.from_residual.ensures.1

pub returns-in_ok-from_str-in-None : goal.returns-in_ok-from_str-in-None
returns-in_ok-from_str-in-None c = λ most remaining r k x. rw (c.in-None.is, c.in_ok-from_str-in-None.ensures.ok) stay

pub returns-in_err-write-in-Some : goal.returns-in_err-write-in-Some
returns-in_err-write-in-Some c = λ most remaining r k x. rw c.in-Some.is
    (passed_on _ _ _ _ c.from_residual-in_err-write-in-Some.ensures.1
    (c.in_err-write-in-Some.ensures most remaining r (λ (t : Text) (s' : State). k c.args.caught.code.now s') x))

pub returns-in_err-from_str-in-Some : goal.returns-in_err-from_str-in-Some
returns-in_err-from_str-in-Some c = λ most remaining r k x. rw c.in-Some.is
    (starved_after _ _ _ (c.in_ok-write-in-Some.ensures most remaining r
    (λ (t : Text) (s' : State). k c.args.caught.code.now s') x) c.from_residual-in_err-from_str-in-Some.ensures.1)

pub returns-in_ok-from_str-in-Some : goal.returns-in_ok-from_str-in-Some
returns-in_ok-from_str-in-Some c = λ most remaining r k x. rw (c.in-Some.is, c.in_ok-from_str-in-Some.ensures.ok)
    (c.in_ok-write-in-Some.ensures most remaining r (λ (t : Text) (s' : State). k c.args.caught.code.now s') x)
