use Rattle.std.proofs.Common.{List, [], ◌∷◌, ◌++◌, ◌+◌, map, drop, string_bytes, String, Ok, Err, refl, ◌∙◌, subst, arith}
use Rattle.std.proofs.lemmas.Result.{err_from_is_err_and}
use Rattle.std.specs.declared.alloc.Global.{Global}
use Rattle.envvars.specs.Texts.{Text, texts_in}
use Rattle.filetree.specs.Agreement.{InEachPair}
use Rattle.module_restore.specs.forgetting.Answers.{cause_of}
use Rattle.module_restore.specs.forgetting.Forgets.{ForgetReason, Forgets, ForgetsEach, ForgetsName, Forgetting}
use Rattle.module_restore.specs.forgetting.Views.{forgetting_in}
use Rattle.module_restore.proofs.forgetting.ForgetLemmas.{each_on, each_refused, stands_as}
use Rattle.module_restore.proofs.forgetting.PrefixLemmas.{texts_pushed}
use Rattle.module_restore.proofs.forgetting.names.forget_each.Goals as goal

pub loop-name-preserved : goal.loop-name-preserved
loop-name-preserved g c =
    let inv = c.loop-name.invariant in
    let named = c.in_ok-forget_name.ensures in
    let stay = c.args.settings_stay in
    let text : String Global → Text = λ s. string_bytes s in
    let d : Forgetting = forgetting_in c.loop-name.env c.loop-name.forgotten in
    let env = c.forget_name.new.env in
    let owner = c.in_ok-forget_name.field-0 in
    let names = texts_in c.loop-name.forgotten ++ string_bytes owner ∷ [] in
    let mid : Forgetting = record { env = env; names = names } in
    let pushed = texts_pushed c.loop-name.forgotten.items c.push.new.self.items owner (string_bytes owner) c.in_ok-push.ensures.items refl in
    let rest : List Text = map text (drop (c.loop-name.name-index + 1) c.args.names.now) in
    record {
      reads = record {
        narrows = λ files listings x. inv.reads.narrows files listings (named.reads.narrows files listings x);
        counts_failures = omega (arith, inv.reads.counts_failures, named.reads.counts_failures);
      };
      comes = λ files listings a o k.
          let step = subst (λ (n : Text). ForgetsName stay files n d (Ok mid)) c.as_str.ensures.value (named.forgotten (texts_in c.loop-name.forgotten) files listings a) in
          let later = subst (λ (ns : List Text). ForgetsEach stay files rest (record { env = env; names = ns }) o) pushed k in
          inv.comes files listings (named.reads.narrows files listings a) o
          (each_on text stay files c.args.names.now c.loop-name.name-index c.name-item.result c.loop-name-test.true c.name-item.is d mid step o later);
      unfailed = named.failed ∙ inv.unfailed;
      recorded = λ at h. inv.recorded at (named.recorded at h);
    }

pub returns-in_err-forget_name-clause-forgotten : goal.returns-in_err-forget_name-clause-forgotten
returns-in_err-forget_name-clause-forgotten g c =
    let p = err_from_is_err_and c.from_residual.result c.from_residual.ensures.1 in
    let inv = c.loop-name.invariant in
    let named = c.in_err-forget_name.ensures in
    let stay = c.args.settings_stay in
    let text : String Global → Text = λ s. string_bytes s in
    let d : Forgetting = forgetting_in c.loop-name.env c.loop-name.forgotten in
    let agrees = g.T.Tree.agrees c.forget_name.new.tree in
    let One : ForgetReason → Type 0 = λ r. InEachPair agrees (λ files listings. ForgetsName stay files c.as_str.result.now d (Err r)) in
    let Whole : ForgetReason → Type 0 = λ r. InEachPair agrees (λ files listings. Forgets stay files c.args.env.now (map text c.args.names.now) (Err r)) in
    rw (p.1, p.2) (stands_as (cause_of c.in_err-forget_name.field-0.0) _ _ One Whole (λ q. omega (arith, q, inv.reads.counts_failures))
    (λ r k files listings a.
    let step = subst (λ (n : Text). ForgetsName stay files n d (Err r)) c.as_str.ensures.value (k files listings a) in
    inv.comes files listings (named.reads.narrows files listings a) (Err r)
    (each_refused text stay files c.args.names.now c.loop-name.name-index c.name-item.result c.loop-name-test.true c.name-item.is d r step))
    (named.forgotten (texts_in c.loop-name.forgotten)))
