use Rattle.std.proofs.Common.{◌≡◌, ◌+◌, List, [], ◌∷◌, ◌++◌, Option, map, drop, ◌∙◌, ap, sym, subst, append-nil}
use Rattle.std.proofs.Math.ListN.{drop_of_length-le}
use Rattle.std.specs.declared.alloc.Global.{Global}
use Rattle.std.specs.declared.string.String.{String}
use Rattle.envvars.specs.Texts.{Text}
use Rattle.requests.specs.Looked.{IsOwnResponse, OwnLooksAt}
use Rattle.requests.specs.RequestViews.{request_view}
use Rattle.requests.specs.Requests.{Request}
use Rattle.requests.specs.Steps.{request_context_in}
use Rattle.modules.proofs.EachLemmas.{split_at}
use Rattle.modules.proofs.SessionLemmas.{looks_on, session_fails}
use Rattle.modules.specs.rehearsals.Rehearsals.{Rehearsal}
use Rattle.modules.specs.rehearsals.RehearsalParts.{print_view, prints}
use Rattle.modules.proofs.rehearsals.TextLemmas.{rehearsed_on, prints_push, no_requests}
use Rattle.modules.proofs.rehearsals.rehearsal.rehearse.Goals as goal

pub loop-request-preserved : goal.loop-request-preserved
loop-request-preserved g c =
    let before_it = c.loop-request.after in
    let new = c.print_request-text.new.env in
    let text = c.print_request-text.result in
    let sofar = c.loop-request.texts.items in
    let requests = c.args.requests.now in
    let i = c.loop-request.request-index in
    let all = map request_view c.args.requests.now in
    let first = g.T.Tree.failures c.args.tree.now in
    let was = g.T.Tree.failures c.loop-request.tree in
    let is = g.T.Tree.failures c.print_request-text.new.tree in
    let items : c.push.new.self.items ≡ sofar ++ text ∷ [] = c.in_ok-push.ensures.items in
    let split = split_at request_view requests i c.request-item.result c.loop-request-test.true c.request-item.is in
    record {
      narrows = λ files listings agreed. c.loop-request.invariant.narrows files listings (c.print_request-text.ensures.narrows files listings agreed);
      rehearsed = λ files listings agreed shell ps end n h.
          let context = request_context_in c.args.limits shell files listings in
          let p = print_view text in
          let Whole : List (Option Text) → Type 0 = λ xs. Rehearsal context c.args.env all xs end first n in
          let Rest : List Request → Type 0 = λ rs. Rehearsal context before_it rs (p ∷ ps) end was n in
          let more : prints sofar ++ p ∷ ps ≡ prints c.push.new.self.items ++ ps =
          prints_push sofar text ps ∙ ap (λ (ts : List (Option (String Global))). prints ts ++ ps) (sym items) in
          subst Whole more
          (c.loop-request.invariant.rehearsed files listings (c.print_request-text.ensures.narrows files listings agreed) shell (p ∷ ps) end n
          (subst Rest (sym (split_at request_view requests i c.request-item.result c.loop-request-test.true c.request-item.is))
          (rehearsed_on (g.T.Tree.agrees c.print_request-text.new.tree) c.args.limits files listings shell agreed (request_view c.request-item.result) before_it new p
          (map request_view (drop (i + 1) requests)) ps end was is n c.print_request-text.ensures.prints_for h)));
      looks = λ files listings agreed shell at more.
          let context = request_context_in c.args.limits shell files listings in
          let printed = c.print_request-text.ensures.prints_for in
          c.loop-request.invariant.looks files listings (c.print_request-text.ensures.narrows files listings agreed) shell at
          (looks_on (OwnLooksAt context) (IsOwnResponse context) before_it new (map request_view (drop i requests))
          (request_view c.request-item.result) (map request_view (drop (i + 1) requests)) printed.response at split
          (printed.answers files listings agreed) printed.end more);
      failed =
          session_fails _ _ _ _ _ (λ files listings shell. request_context_in c.args.limits shell files listings)
          c.args.env before_it _ _ _ _ c.print_request-text.ensures.narrows split c.loop-request.invariant.looks
          c.loop-request.invariant.failed c.print_request-text.ensures.failed;
    }

pub returns-clause-rehearsed : goal.returns-clause-rehearsed
returns-clause-rehearsed g c =
    λ files listings agreed shell.
    let context = request_context_in c.args.limits shell files listings in
    let last = g.T.Tree.failures c.loop-request.tree in
    let Whole : List (Option Text) → Type 0 = λ xs. Rehearsal context c.args.env (map request_view c.args.requests.now) xs c.loop-request.after (g.T.Tree.failures c.args.tree.now) last in
    subst Whole (append-nil (prints c.loop-request.texts.items))
    (c.loop-request.invariant.rehearsed files listings agreed shell [] c.loop-request.after last
    (no_requests context c.loop-request.after (drop c.loop-request.request-index c.args.requests.now) last (drop_of_length-le c.args.requests.now c.loop-request-test.false)))

pub returns-clause-makes : goal.returns-clause-makes
returns-clause-makes g c =
    λ files listings agreed shell.
    c.texts_make_session.ensures (request_context_in c.args.limits shell files listings) c.args.env (map request_view c.args.requests.now) (prints c.loop-request.texts.items) c.loop-request.after

pub returns-clause-returns_to_start : goal.returns-clause-returns_to_start
returns-clause-returns_to_start g c =
    λ files listings agreed shell.
    c.texts_return_to_start.ensures (request_context_in c.args.limits shell files listings) c.args.env (map request_view c.args.requests.now) (prints c.loop-request.texts.items) c.loop-request.after

pub returns-in_err-push-clause-failed : goal.returns-in_err-push-clause-failed
returns-in_err-push-clause-failed g c =
    session_fails _ _ _ _ _ (λ files listings shell. request_context_in c.args.limits shell files listings) c.args.env c.loop-request.after _ _ _ _ c.print_request-text.ensures.narrows
    (split_at request_view c.args.requests.now c.loop-request.request-index c.request-item.result
    c.loop-request-test.true c.request-item.is) c.loop-request.invariant.looks c.loop-request.invariant.failed
    c.print_request-text.ensures.failed
