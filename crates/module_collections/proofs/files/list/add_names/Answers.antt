use Rattle.std.proofs.Common.{◌≡◌, ◌+◌, Bool, true, ◌||◌, ◌&&◌, map, drop, refl, sym, ap, ◌∙◌, subst, string_bytes}
use Rattle.std.specs.Prelude.{bytes_eq}
use Rattle.std.specs.BTreeSet.{contains_text}
use Rattle.std.specs.List.{list_any}
use Rattle.std.proofs.lemmas.Result.{err_from_is_err_and}
use Rattle.envvars.specs.Texts.{Text, has}
use Rattle.module_collections.specs.files.Failures.{IsAtName, IsAtOne, failure_of}
use Rattle.module_collections.specs.files.Lists.{is_in}
use Rattle.module_collections.proofs.files.EndLemmas.{some_as}
use Rattle.module_collections.proofs.files.ListLemmas.{any_at, any_end, is_one, or_none, or_same}
use Rattle.module_collections.proofs.files.list.add_names.Goals as goal

pub loop-name-init : goal.loop-name-init
loop-name-init g c = (λ e b. b, λ e b q. refl)

pub returns-in_err-add_name-clause-narrows : goal.returns-in_err-add_name-clause-narrows
returns-in_err-add_name-clause-narrows g c = λ e b. c.loop-name.invariant.0 e (c.add_name.ensures.narrows e b)

pub loop-name-preserved : goal.loop-name-preserved
loop-name-preserved g c =
    let folder = c.args.folder.now in
    let names = c.args.names.now in
    let old = c.loop-name.found in (
      λ e b. c.loop-name.invariant.0 e (c.add_name.ensures.narrows e b),
      λ e b q.
          let p : Text → Bool = λ n. bytes_eq q n && is_in e folder n in
          let rest : Bool = list_any p (map string_bytes (drop (c.loop-name.name-index + 1) names)) in
          ap (λ (x : Bool). x || rest) (c.in_ok-add_name.ensures.added e b q ∙ ap (λ (x : Text). contains_text old q || p x) c.as_str.ensures.value)
          ∙ (or_same (contains_text old q) (p (string_bytes c.name-item.result)) rest
          ∙ (ap (λ (x : Bool). contains_text old q || x) (sym (any_at p names c.loop-name.name-index c.name-item.result c.loop-name-test.true c.name-item.is))
          ∙ c.loop-name.invariant.1 e (c.add_name.ensures.narrows e b) q)),
    )

pub returns-clause-narrows : goal.returns-clause-narrows
returns-clause-narrows g c = c.loop-name.invariant.0

pub returns-clause-added : goal.returns-clause-added
returns-clause-added g c = λ e b q.
    let folder = c.args.folder.now in
    let names = c.args.names.now in
    let p : Text → Bool = λ n. bytes_eq q n && is_in e folder n in
    or_none (contains_text c.loop-name.found q)
    ∙ (ap (λ (x : Bool). contains_text c.loop-name.found q || x) (sym (any_end p names c.loop-name.name-index c.loop-name-test.false))
    ∙ c.loop-name.invariant.1 e b q)

pub returns-in_err-add_name-clause-failure : goal.returns-in_err-add_name-clause-failure
returns-in_err-add_name-clause-failure g c =
    let names = c.args.names.now in
    let p = err_from_is_err_and c.from_residual.result c.from_residual.ensures.1 in
    rw (p.1, p.2) (some_as (failure_of c.in_err-add_name.field-0.0) (IsAtName c.args.folder.now c.as_str.result.now) (IsAtOne c.args.folder.now (map string_bytes names))
    (λ f h. (
      c.as_str.result.now,
      subst (λ (t : Text). has t (map string_bytes names) ≡ true) (sym c.as_str.ensures.value)
          (is_one names c.loop-name.name-index c.name-item.result c.loop-name-test.true c.name-item.is),
      h,
    ))
    c.in_err-add_name.ensures.failure)
