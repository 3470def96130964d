-- What a plan is after a try of its next name.
use Rattle.std.proofs.Common.{◌≡◌, ℕ, ◌+◌, ◌<◌, ◌≤◌, List, [], ◌∷◌, ◌++◌, length, map, take, string_bytes, String, Result, Ok, Err, sym, subst, arith}
use Rattle.std.proofs.lemmas.List.{take-map, take_all, length-map}
use Rattle.std.specs.Prelude.{insert, vec_len}
use Rattle.std.specs.declared.alloc.Global.{Global}
use Rattle.envvars.specs.Texts.{Text, texts_in}
use Rattle.envvars.specs.Environment.{Environment}
use Rattle.requests.specs.Looked.{RequestLooksAt}
use Rattle.requests.specs.Reasons.{RequestReason, prereq_missing}
use Rattle.requests.specs.Requests.{load}
use Rattle.requests.specs.Steps.{RequestContext, Done, RequestStep}
use Rattle.module_auto.specs.Loads.{AnyLooksAt, AutomaticLoadLooksAt, Completes, IsFinal, LoadsTo, RefusesLoad, as_asked}
use Rattle.module_auto.specs.Views.{IsPlan, IsUnmet, IsWhole, Loads, PutsIn}
use Rattle.module_auto.specs.declared.plan.Plan.{Plan}
use Rattle.module_auto.proofs.LoadLemmas as tries

-- the names that are tried
pub tried_texts : (n : ℕ) (xs : List (String Global)) → map (λ (s : String Global). string_bytes s) (take n xs) ≡ take n (map (λ (s : String Global). string_bytes s) xs)
tried_texts n xs = sym (take-map (λ (s : String Global). string_bytes s) n xs)

module _ (s : RequestContext) (e : Environment) (asked : List Text) (old : Plan) (fits : old.ready < vec_len old.names) (plan : IsPlan s e asked old) where
  within : old.ready < length (texts_in old.names)
  within = omega (arith, fits, length-map old.names.items (λ (x : String Global). string_bytes x))

  abbrev tried : List Text
  tried = map (λ (x : String Global). string_bytes x) (take (old.ready + 1) old.names.items)

  abbrev Step : List Text → Result Done RequestReason → Type 0
  Step names o = RequestStep s e (load names) o

  -- the next name is ready too
  pub one_ready : (after : Environment) → Loads s e tried after → (new : Plan) → texts_in new.names ≡ texts_in old.names → new.ready ≡ old.ready + 1 → new.after ≡ after → texts_in new.added ≡ texts_in old.added
      → IsPlan s e asked new
  one_ready after (d, step, made) new names ready same added = record {
    completed = subst (λ (l : List Text). Completes s e asked l (texts_in new.names)) (sym added)
        (subst (λ (l : List Text). Completes s e asked (texts_in old.added) l) (sym names) plan.completed);
    loaded =
        let first : LoadsTo s e (take (old.ready + 1) (texts_in old.names)) after =
        tries.loads_to s e after (take (old.ready + 1) (texts_in old.names)) d (subst (λ (l : List Text). Step l (Ok d)) (tried_texts (old.ready + 1) old.names.items) step) made in
        subst (λ (x : Environment). LoadsTo s e (take new.ready (texts_in new.names)) x) (sym same)
        (subst (λ (n : ℕ). LoadsTo s e (take n (texts_in new.names)) after) (sym ready)
        (subst (λ (l : List Text). LoadsTo s e (take (old.ready + 1) l) after) (sym names) first));
  }

  -- the name that it needs is put in
  pub one_put : (alternatives : List Text) (new : Plan) → Step tried (Err (prereq_missing alternatives)) → PutsIn s alternatives old new → IsPlan s e asked new
  one_put alternatives new step put =
      let refused = subst (λ (l : List Text). Step l (Err (prereq_missing alternatives))) (tried_texts (old.ready + 1) old.names.items) step in
      let longer = insert (texts_in old.names) old.ready put.needed in
      record {
        completed = subst (λ (l : List Text). Completes s e asked l (texts_in new.names)) (sym put.added)
            (subst (λ (l : List Text). Completes s e asked (texts_in old.added ++ put.needed ∷ []) l) (sym put.names)
            (tries.put_in s e asked (texts_in old.added) (texts_in old.names) old.ready old.after within plan.completed plan.loaded alternatives put.needed refused put.first put.unspent));
        loaded = subst (λ (x : Environment). LoadsTo s e (take new.ready (texts_in new.names)) x) (sym put.after)
            (subst (λ (n : ℕ). LoadsTo s e (take n (texts_in new.names)) old.after) (sym put.ready)
            (subst (λ (l : List Text). LoadsTo s e (take old.ready l) old.after) (sym put.names)
            (tries.still_ready s e asked (texts_in old.added) (texts_in old.names) old.ready old.after within plan.completed plan.loaded put.needed)));
      }

  pub refuses : (reason : RequestReason) → Step tried (Err reason) → ((l : List Text) → IsFinal s e (texts_in old.added) l reason) → RefusesLoad s e asked reason
  refuses reason step final =
      tries.refuses s e asked (texts_in old.added) (texts_in old.names) old.ready old.after within plan.completed plan.loaded reason
      (subst (λ (l : List Text). Step l (Err reason)) (tried_texts (old.ready + 1) old.names.items) step) (final (take (old.ready + 1) (texts_in old.names)))

  pub stuck : (alternatives : List Text) → Step tried (Err (prereq_missing alternatives)) → IsUnmet s old.after (texts_in old.added) alternatives → RefusesLoad s e asked (prereq_missing alternatives)
  stuck alternatives step unmet =
      tries.stuck s e asked (texts_in old.added) (texts_in old.names) old.ready old.after within plan.completed plan.loaded alternatives
      (subst (λ (l : List Text). Step l (Err (prereq_missing alternatives))) (tried_texts (old.ready + 1) old.names.items) step) unmet

  pub try_looks : (at : Text) → RequestLooksAt s e (load tried) at → AutomaticLoadLooksAt s e asked at
  try_looks at looks =
      tries.try_looks s e asked (texts_in old.added) (texts_in old.names) old.ready old.after within plan.completed plan.loaded at
      (subst (λ (l : List Text). RequestLooksAt s e (load l) at) (tried_texts (old.ready + 1) old.names.items) looks)

  pub need_looks : (alternatives : List Text) (at : Text) → Step tried (Err (prereq_missing alternatives)) → AnyLooksAt s old.after alternatives at → AutomaticLoadLooksAt s e asked at
  need_looks alternatives at step (alternative, among, looks) =
      tries.need_looks s e asked (texts_in old.added) (texts_in old.names) old.ready old.after within plan.completed plan.loaded alternatives alternative at
      (subst (λ (l : List Text). Step l (Err (prereq_missing alternatives))) (tried_texts (old.ready + 1) old.names.items) step) among looks

-- at the end all are ready
pub all_ready : (s : RequestContext) (e : Environment) (asked : List Text) (plan : Plan) → vec_len plan.names ≤ plan.ready → IsPlan s e asked plan → IsWhole s e asked plan
all_ready s e asked plan end is = record {
  completed = is.completed;
  loaded =
      let whole : take plan.ready (texts_in plan.names) ≡ texts_in plan.names =
      take_all plan.ready (texts_in plan.names) (omega (arith, end, length-map plan.names.items (λ (x : String Global). string_bytes x))) in
      subst (λ (l : List Text). LoadsTo s e l plan.after) whole is.loaded;
}

-- at first none is
pub first_plan : (s : RequestContext) (e : Environment) (asked : List Text) (plan : Plan) → texts_in plan.names ≡ asked → plan.ready ≡ 0 → plan.after ≡ e → texts_in plan.added ≡ [] → IsPlan s e asked plan
first_plan s e asked plan names ready after added = record {
  completed = subst (λ (l : List Text). Completes s e asked l (texts_in plan.names)) (sym added) (subst (λ (l : List Text). Completes s e asked [] l) (sym names) as_asked);
  loaded = subst (λ (n : ℕ). LoadsTo s e (take n (texts_in plan.names)) plan.after) (sym ready) after;
}
