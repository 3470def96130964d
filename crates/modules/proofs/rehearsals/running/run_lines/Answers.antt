use Rattle.std.proofs.Common.{◌≡◌, ◌+◌, ◌≤◌, List, [], ◌∷◌, ◌++◌, map, drop, sym, subst}
use Rattle.std.proofs.Math.ListN.{drop_of_length-le}
use Rattle.envvars.specs.Texts.{Text, texts_in}
use Rattle.requests.specs.Sessions.{end_environment}
use Rattle.modules.proofs.EachLemmas.{split_at}
use Rattle.modules.specs.declared.sessions.Outcome.{Outcome}
use Rattle.requests.specs.Steps.{request_context_in}
use Rattle.modules.specs.Responses.{count_failed, response_of, responses}
use Rattle.modules.proofs.SessionLemmas.{failures_push, looks_on, session_grows}
use Rattle.modules.specs.rehearsals.Sessions.{IsLineResponse, LineLooksAt, LineSession}
use Rattle.modules.proofs.rehearsals.RunLemmas.{lines_done, lines_fail, lines_taken}
use Rattle.modules.proofs.rehearsals.running.run_lines.Goals as goal

pub loop-words-preserved : goal.loop-words-preserved
loop-words-preserved g c =
    let start = c.args.env.now in
    let before_it = c.loop-words.env in
    let new = c.respond_to-outcome.new.env in
    let outcome = c.respond_to-outcome.result in
    let sofar = c.loop-words.outcomes.items in
    let lines = c.args.lines.now in
    let i = c.loop-words.words-index in
    let items : c.push.new.self.items ≡ sofar ++ outcome ∷ [] = c.in_ok-push.ensures.items in
    let Counted : List Outcome → Type 0 = λ xs. g.T.Tree.failures c.args.tree.now + count_failed xs ≤ g.T.Tree.failures c.respond_to-outcome.new.tree in
    let End : List Outcome → Type 0 = λ xs. new ≡ end_environment start (responses start xs) in
    let split = split_at texts_in lines i c.words-item.result c.loop-words-test.true c.words-item.is in
    record {
      narrows = λ files listings agreed. c.loop-words.invariant.narrows files listings (c.respond_to-outcome.ensures.narrows files listings agreed);
      failures = subst Counted (sym items) (failures_push _ _ _ sofar outcome c.loop-words.invariant.failures c.respond_to-outcome.ensures.failures);
      end = λ files listings agreed.
          let was = c.respond_to-outcome.ensures.narrows files listings agreed in
          subst End (sym items) (session_grows start before_it new sofar outcome (c.loop-words.invariant.end files listings was) (c.respond_to-outcome.ensures.end files listings agreed)).0;
      ran = λ files listings agreed os more.
          let was = c.respond_to-outcome.ensures.narrows files listings agreed in
          let context = request_context_in c.args.limits c.args.shell files listings in
          let all = map texts_in c.args.lines.now in
          let Ran : List Outcome → Type 0 = λ xs. LineSession context start all (responses start xs ++ os) in
          let From : List (List Text) → Type 0 = λ rs. LineSession context before_it rs (response_of before_it outcome ∷ os) in
          subst Ran (sym items)
          (lines_taken context start before_it new (texts_in c.words-item.result) (map texts_in (drop (i + 1) lines))
          all (responses start sofar) (responses start (sofar ++ outcome ∷ [])) (response_of before_it outcome) os
          (λ h. c.loop-words.invariant.ran files listings was (response_of before_it outcome ∷ os)
          (subst From (sym (split_at texts_in lines i c.words-item.result c.loop-words-test.true c.words-item.is))
          h))
          (rw c.as_slice.ensures.value at c.respond_to-outcome.ensures.answer files listings agreed) (c.respond_to-outcome.ensures.end files listings agreed)
          (session_grows start before_it new sofar outcome (c.loop-words.invariant.end files listings was) (c.respond_to-outcome.ensures.end files listings agreed)).1 more);
      looks = λ files listings agreed at more.
          let context = request_context_in c.args.limits c.args.shell files listings in
          c.loop-words.invariant.looks files listings (c.respond_to-outcome.ensures.narrows files listings agreed) at
          (looks_on (LineLooksAt context) (IsLineResponse context) before_it new (map texts_in (drop i lines))
          (texts_in c.words-item.result) (map texts_in (drop (i + 1) lines)) (response_of before_it outcome) at
          split
          (rw c.as_slice.ensures.value at c.respond_to-outcome.ensures.answer files listings agreed) (c.respond_to-outcome.ensures.end files listings agreed) more);
      failed =
          lines_fail _ _ _ _ _ (λ files listings. request_context_in c.args.limits c.args.shell files listings) start
          before_it _ _ _ _ c.respond_to-outcome.ensures.narrows split c.loop-words.invariant.looks
          c.loop-words.invariant.failed (rw c.as_slice.ensures.value at c.respond_to-outcome.ensures.failed);
    }

pub returns-clause-ran : goal.returns-clause-ran
returns-clause-ran g c =
    λ files listings agreed.
    lines_done texts_in (request_context_in c.args.limits c.args.shell files listings) c.args.env.now c.loop-words.env
    (drop c.loop-words.words-index c.args.lines.now) (map texts_in c.args.lines.now)
    (responses c.args.env.now c.loop-words.outcomes.items)
    (drop_of_length-le c.args.lines.now c.loop-words-test.false) (c.loop-words.invariant.ran files listings agreed)

pub returns-in_err-push-clause-failed : goal.returns-in_err-push-clause-failed
returns-in_err-push-clause-failed g c =
    lines_fail _ _ _ _ _ (λ files listings. request_context_in c.args.limits c.args.shell files listings) c.args.env.now c.loop-words.env _ _ _ _ c.respond_to-outcome.ensures.narrows
    (split_at texts_in c.args.lines.now c.loop-words.words-index c.words-item.result c.loop-words-test.true c.words-item.is) c.loop-words.invariant.looks c.loop-words.invariant.failed
    (rw c.as_slice.ensures.value at c.respond_to-outcome.ensures.failed)
