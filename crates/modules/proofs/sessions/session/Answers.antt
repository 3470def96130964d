use Rattle.std.proofs.Common.{◌≡◌, ◌+◌, ◌≤◌, List, [], ◌∷◌, ◌++◌, map, drop, sym, subst}
use Rattle.std.proofs.Math.ListN.{drop_of_length-le}
use Rattle.filetree.proofs.FailedPaths.{only_if, only_wider_in_each}
use Rattle.shelltext.specs.declared.shell.Shell.TheVariants.{Sh}
use Rattle.requests.specs.RequestViews.{request_view}
use Rattle.requests.specs.Requests.{Request}
use Rattle.requests.specs.Looked.{IsOwnResponse, OwnLooksAt}
use Rattle.requests.specs.Sessions.{Session, end_environment}
use Rattle.modules.proofs.EachLemmas.{split_at}
use Rattle.modules.specs.declared.sessions.Outcome.{Outcome}
use Rattle.requests.specs.Steps.{request_context_in}
use Rattle.modules.specs.Responses.{count_failed, response_of, responses}
use Rattle.modules.proofs.SessionLemmas.{failures_push, looks_on, session_done, session_fails, session_grows}
use Rattle.modules.proofs.SessionLemmas.{session_returning, session_taken}
use Rattle.modules.proofs.sessions.session.Goals as goal

pub loop-request-preserved : goal.loop-request-preserved
loop-request-preserved g c =
    let start = c.args.env in
    let before_it = c.loop-request.after in
    let new = c.respond-outcome.new.env in
    let outcome = c.respond-outcome.result in
    let sofar = c.loop-request.outcomes.items in
    let requests = c.args.requests.now in
    let i = c.loop-request.request-index in
    let items : c.push.new.self.items ≡ sofar ++ outcome ∷ [] = c.in_ok-push.ensures.items in
    let Counted : List Outcome → Type 0 = λ xs. g.T.Tree.failures c.args.tree.now + count_failed xs ≤ g.T.Tree.failures c.respond-outcome.new.tree in
    let End : List Outcome → Type 0 = λ xs. new ≡ end_environment start (responses start xs) in
    let split = split_at request_view requests i c.request-item.result c.loop-request-test.true c.request-item.is in
    record {
      narrows = λ files listings agreed. c.loop-request.invariant.narrows files listings (c.respond-outcome.ensures.narrows files listings agreed);
      failures = subst Counted (sym items) (failures_push _ _ _ sofar outcome c.loop-request.invariant.failures c.respond-outcome.ensures.failures);
      end = λ files listings agreed.
          let was = c.respond-outcome.ensures.narrows files listings agreed in
          subst End (sym items) (session_grows start before_it new sofar outcome (c.loop-request.invariant.end files listings was) (c.respond-outcome.ensures.end files listings agreed)).0;
      ran = λ files listings agreed shell os more.
          let was = c.respond-outcome.ensures.narrows files listings agreed in
          let context = request_context_in c.args.limits shell files listings in
          let all = map request_view c.args.requests.now in
          let Ran : List Outcome → Type 0 = λ xs. Session context start all (responses start xs ++ os) in
          let From : List Request → Type 0 = λ rs. Session context before_it rs (response_of before_it outcome ∷ os) in
          subst Ran (sym items)
          (session_taken context start before_it new (request_view c.request-item.result)
          (map request_view (drop (i + 1) requests)) all (responses start sofar)
          (responses start (sofar ++ outcome ∷ [])) (response_of before_it outcome) os
          (λ h. c.loop-request.invariant.ran files listings was shell (response_of before_it outcome ∷ os)
          (subst From (sym (split_at request_view requests i c.request-item.result c.loop-request-test.true
          c.request-item.is)) h))
          (c.respond-outcome.ensures.answer files listings agreed) (c.respond-outcome.ensures.end files listings agreed)
          (session_grows start before_it new sofar outcome (c.loop-request.invariant.end files listings was) (c.respond-outcome.ensures.end files listings agreed)).1 more);
      looks = λ files listings agreed shell at more.
          let context = request_context_in c.args.limits shell files listings in
          c.loop-request.invariant.looks files listings (c.respond-outcome.ensures.narrows files listings agreed) shell at
          (looks_on (OwnLooksAt context) (IsOwnResponse context) before_it new (map request_view (drop i requests))
          (request_view c.request-item.result) (map request_view (drop (i + 1) requests))
          (response_of before_it outcome) at split
          (c.respond-outcome.ensures.answer files listings agreed) (c.respond-outcome.ensures.end files listings agreed) more);
      failed =
          session_fails _ _ _ _ _ (λ files listings shell. request_context_in c.args.limits shell files listings) start
          before_it _ _ _ _ c.respond-outcome.ensures.narrows split c.loop-request.invariant.looks
          c.loop-request.invariant.failed (only_wider_in_each _ _ _ _ _ (λ files listings agreed at h shell. h) (only_if _ _ _ _ c.respond-outcome.ensures.failed));
    }

pub returns-clause-ran : goal.returns-clause-ran
returns-clause-ran g c =
    λ files listings agreed shell.
    session_done (request_context_in c.args.limits shell files listings) c.args.env c.loop-request.after
    (drop c.loop-request.request-index c.args.requests.now) (map request_view c.args.requests.now)
    (responses c.args.env c.loop-request.outcomes.items)
    (drop_of_length-le c.args.requests.now c.loop-request-test.false) (c.loop-request.invariant.ran files listings agreed shell)

pub returns-clause-returns : goal.returns-clause-returns
returns-clause-returns g c =
    λ files listings agreed.
    let context = request_context_in c.args.limits Sh files listings in
    session_returning c.session_returns.ensures context c.args.env (map request_view c.args.requests.now) (responses c.args.env c.loop-request.outcomes.items)
    (session_done context c.args.env c.loop-request.after (drop c.loop-request.request-index c.args.requests.now)
    (map request_view c.args.requests.now) (responses c.args.env c.loop-request.outcomes.items)
    (drop_of_length-le c.args.requests.now c.loop-request-test.false) (c.loop-request.invariant.ran files listings agreed Sh))

pub returns-in_err-push-clause-failed : goal.returns-in_err-push-clause-failed
returns-in_err-push-clause-failed g c =
    session_fails _ _ _ _ _ (λ files listings shell. request_context_in c.args.limits shell files listings) c.args.env c.loop-request.after _ _ _ _ c.respond-outcome.ensures.narrows
    (split_at request_view c.args.requests.now c.loop-request.request-index c.request-item.result
    c.loop-request-test.true c.request-item.is) c.loop-request.invariant.looks c.loop-request.invariant.failed
    (only_wider_in_each _ _ _ _ _ (λ files listings agreed at h shell. h) (only_if _ _ _ _ c.respond-outcome.ensures.failed))
