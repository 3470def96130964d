use Rattle.std.proofs.Common.{◌≡◌, ℕ, ◌+◌, List, [], ◌++◌, map, take, drop, string_bytes, String, refl, sym, ap, subst, ◌∙◌}
use Rattle.std.proofs.lemmas.List.{take-append-drop, map-append, append-nil}
use Rattle.std.specs.declared.alloc.Global.{Global}
use Rattle.envvars.specs.Texts.{Text, texts_in}
use Rattle.envvars.specs.Environment.{Environment}
use Rattle.requests.specs.Steps.{RequestContext, request_context_in}
use Rattle.modules.proofs.TreeAnswers.{same_tree}
use Rattle.module_auto.specs.Loads.{Completes}
use Rattle.module_auto.specs.Refused.{BeginsLoad}
use Rattle.module_auto.specs.Views.{IsPlan}
use Rattle.module_auto.specs.declared.plan.Plan.{Plan}
use Rattle.module_auto.proofs.PlanLemmas.{first_plan}
use Rattle.module_auto.proofs.refused.tried_names.Goals as goal

parted : (n : ℕ) (xs : List (String Global))
    → map (λ (s : String Global). string_bytes s) xs ≡ map (λ (s : String Global). string_bytes s) (take n xs) ++ map (λ (s : String Global). string_bytes s) (drop n xs)
parted n xs =
    ap (map (λ (s : String Global). string_bytes s)) (sym (take-append-drop n xs)) ∙ map-append (λ (s : String Global). string_bytes s) (take n xs) (drop n xs)

begins : (s : RequestContext) (e : Environment) (asked : List Text) (plan : Plan) (names : List Text) → names ≡ map (λ (x : String Global). string_bytes x) (take (plan.ready + 1) plan.names.items)
    → IsPlan s e asked plan → BeginsLoad s e asked names
begins s e asked plan names same is =
    let rest = map (λ (x : String Global). string_bytes x) (drop (plan.ready + 1) plan.names.items) in (
      texts_in plan.added,
      rest,
      subst (λ (l : List Text). Completes s e asked (texts_in plan.added) l)
          (parted (plan.ready + 1) plan.names.items ∙ ap (λ (l : List Text). l ++ rest) (sym same)) is.completed,
    )

whole : (s : RequestContext) (e : Environment) (asked : List Text) (plan : Plan) (names : List Text) → names ≡ texts_in plan.names → IsPlan s e asked plan → BeginsLoad s e asked names
whole s e asked plan names same is =
    (texts_in plan.added, [], subst (λ (l : List Text). Completes s e asked (texts_in plan.added) l) (sym same ∙ sym (append-nil names)) is.completed)

pub loop-plan-init : goal.loop-plan-init
loop-plan-init g c = record {
  reads = same_tree c.args.tree.now;
  plan = λ files listings a.
      first_plan (request_context_in c.args.limits c.args.shell files listings) c.args.env.now (map (λ (s : String Global). string_bytes s) c.args.asked.now) _ c.in_ok-copies.ensures refl
      c.in_ok-copy.ensures.ok (ap (map (λ (s : String Global). string_bytes s)) c.new.ensures.items);
}

pub returns-in-Err-clause-ends : goal.returns-in-Err-clause-ends
returns-in-Err-clause-ends g c =
    let same = rw c.deref.ensures.value at c.in_ok-names.ensures in
    λ files listings a.
    begins (request_context_in c.args.limits c.args.shell files listings) c.args.env.now (map (λ (s : String Global). string_bytes s) c.args.asked.now) c.loop-plan.plan (texts_in c.in_ok-names.names)
    same (c.loop-plan.invariant.plan files listings (c.advance.ensures.reads.narrows files listings a))

pub returns-clause-ends : goal.returns-clause-ends
returns-clause-ends g c =
    let same = rw c.as_slice.ensures.value at c.in_ok-names-2.ensures in
    λ files listings a.
    whole (request_context_in c.args.limits c.args.shell files listings) c.args.env.now (map (λ (s : String Global). string_bytes s) c.args.asked.now) c.loop-plan.plan (texts_in c.in_ok-names-2.names)
    same (c.loop-plan.invariant.plan files listings a)
