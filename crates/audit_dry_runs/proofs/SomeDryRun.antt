-- A module has a dry run.
use Rattle.std.proofs.Common.{◌≡◌, inl, inr, Bool, true, false, List, [], ◌∷◌, ◌++◌, Result, Ok, Err, refl, sym}
use Rattle.std.proofs.Common.{ap, ◌∙◌, arith}
use Rattle.std.specs.Prelude.{bytes_eq}
use Rattle.std.proofs.lemmas.Slice.Eq.{bytes_eq-Decides}
use Rattle.envvars.specs.Texts.{Text}
use Rattle.envvars.specs.Environment.{Environment}
use Rattle.envvars.specs.Changes.{NewValue, AreChanges}
use Rattle.envvars.proofs.TextLemmas.{same_text}
use Rattle.filetree.specs.Causes.{because}
use Rattle.modulefile.specs.Moves.{Module, Loads}
use Rattle.requests.specs.Laws.{SomeOutcome}
use Rattle.requests.specs.Reasons.{RequestReason}
use Rattle.requests.specs.Requests.{load, unload}
use Rattle.requests.specs.Steps.{RequestContext, Done}
use Rattle.audit_dry_runs.specs.Laws.{IsDecided, SomeDryRun}
use Rattle.audit_dry_runs.specs.DryRuns.{DryRun, returns, leaves, load_refused, unload_refused, already_loaded, loads_another}
use Rattle.audit_dry_runs.specs.DryRuns.{HasDryRun, LoadStep, LoadsModule, UnloadStep, lost_among}
use Rattle.audit_dry_runs.proofs.LoadLemmas.{LoadsAtMostOne, loads_at_most_one, same_module}
use Rattle.audit_dry_runs.proofs.OrderLemmas.{names_in}
use Rattle.audit_dry_runs.proofs.SomeDifference.{some_difference}
use Rattle.audit_dry_runs.proofs.DryRunLemmas.{DifferenceApplies}

unequal : (x y : Text) → bytes_eq x y ≡ false → x ≡ y → ⊥
unequal x y h same = let k : bytes_eq x y ≡ true = (bytes_eq-Decides x y).1 same in absurd (cc)

module _ (law : SomeOutcome) (applies : DifferenceApplies) (s : RequestContext) (not_utf8 : List Text)
    (start : Environment) (name path : Text) where
  abbrev Tried : Type 0
  Tried = (t : DryRun) × IsDecided t × HasDryRun s not_utf8 start name path t

  by_difference : (d back : Done) (cs : List NewValue) (lost : List Text) → LoadsModule s start name name path d
      → UnloadStep s d.env name (Ok back) → AreChanges start back.env cs → lost ≡ lost_among not_utf8 d.env back.env
      → Tried
  by_difference d back [] [] loads step exact same =
      (returns, tt, (d, back, loads, step, sym (applies start back.env [] exact), sym same))
  by_difference d back [] (v ∷ vs) loads step exact same = (
    leaves (v ∷ vs),
    tt,
    (d, back, loads, step, record { some = omega arith; changes = []; exact = exact; named = same }),
  )
  by_difference d back (c ∷ cs) lost loads step exact same = (
    leaves (names_in (c ∷ cs) ++ lost),
    tt,
    (
      d,
      back,
      loads,
      step,
      record {
        some = omega arith;
        changes = c ∷ cs;
        exact = exact;
        named = ap (λ (l : List Text). names_in (c ∷ cs) ++ l) same;
      },
    ),
  )

  by_unload : (d : Done) (o : Result Done RequestReason) → LoadsModule s start name name path d
      → UnloadStep s d.env name o → Tried
  by_unload d (Err reason) loads step = (unload_refused (because reason), tt, (d, loads, step))
  by_unload d (Ok back) loads step =
      let found = some_difference start back.env in
      by_difference d back found.0 (lost_among not_utf8 d.env back.env) loads step found.1 refl

  this_loaded : (d : Done) → LoadsModule s start name name path d → Tried
  this_loaded d loads =
      let unloaded = law s d.env (unload (name ∷ [])) tt in
      by_unload d unloaded.0 loads unloaded.1

  another_loaded : (d : Done) (m : Module) → LoadStep s start name (Ok d) → d.moves ≡ Loads m ∷ []
      → ((m.name ≡ name) × (m.path ≡ path) → ⊥) → Tried
  another_loaded d m step one apart =
      (loads_another m.name m.path, tt, (d, record { accepted = step; records = m.records; alone = one }, apart))

  by_name : (d : Done) (m : Module) (named placed : Bool) → LoadStep s start name (Ok d) → d.moves ≡ Loads m ∷ []
      → bytes_eq m.name name ≡ named → bytes_eq m.path path ≡ placed → Tried
  by_name d m true true step one h k =
      let n : m.name ≡ name = same_text m.name name h in
      let p : m.path ≡ path = same_text m.path path k in
      let this = same_module m name path (sym n) (sym p) in
      this_loaded d (record { accepted = step; records = m.records; alone = one ∙ ap (λ (y : Module). Loads y ∷ []) this })
  by_name d m false placed step one h k = another_loaded d m step one (λ both. unequal m.name name h both.0)
  by_name d m true false step one h k = another_loaded d m step one (λ both. unequal m.path path k both.1)

  by_moves : (d : Done) → LoadStep s start name (Ok d) → LoadsAtMostOne d.moves → Tried
  by_moves d step (inl none) = (already_loaded, tt, (d, step, none))
  by_moves d step (inr (m, one)) = by_name d m (bytes_eq m.name name) (bytes_eq m.path path) step one refl refl

  by_load : (o : Result Done RequestReason) → LoadStep s start name o → Tried
  by_load (Err reason) step = (load_refused (because reason), tt, step)
  by_load (Ok d) step = by_moves d step (loads_at_most_one s start name d step)

pub some_dry_run : SomeOutcome → DifferenceApplies → SomeDryRun
some_dry_run law applies s not_utf8 e name path =
    let loaded = law s e (load (name ∷ [])) tt in
    by_load law applies s not_utf8 e name path loaded.0 loaded.1
