-- What is advised, by what the calls answer.
use Rattle.std.proofs.Common.{◌≡◌, ℕ, ◌+◌, ◌<◌, ◌≤◌, Bool, true, false, List, [], ◌∷◌, ◌++◌, ap, ◌∙◌, length, map, take, drop, get_or, option_map, String, string_bytes, Option, Some, None, Result, Ok, Err, IfOk, inl, inr, refl, sym, subst}
use Rattle.std.proofs.lemmas.List.{drop_more, map-append, take-append-drop, take_all, take_more}
use Rattle.std.proofs.lemmas.List.Elements.{All-push, All-weaker}
use Rattle.std.specs.Prelude.{All, IfNone, IfSome}
use Rattle.std.specs.declared.alloc.Global.{Global}
use Rattle.envvars.specs.Changes.{AreChanges, new_values_in}
use Rattle.envvars.specs.Environment.{Environment}
use Rattle.envvars.specs.Texts.{Text}
use Rattle.filetree.specs.Agreement.{Files, Listings, Narrows}
use Rattle.filetree.specs.Causes.{Applies, Cause, memory, device, because}
use Rattle.modules.specs.transient_failures.Causes.{is_transient}
use Rattle.shelltext.specs.declared.shell.Shell.{Shell}
use Rattle.tclrules.specs.declared.limits.Limits.{Limits}
use Rattle.modulefile.specs.Files.{FileStop}
use Rattle.modulefile_run.specs.Running.{file_reason_of, reason_of_file, stop_of}
use Rattle.modulefile_run.specs.declared.run_fault.RunFault.{RunFault}
use Rattle.modules.specs.Answers.{StepAnswersOverTree, by_reason, cause_of}
use Rattle.requests.specs.Reasons.{RequestReason, file_refused}
use Rattle.modules.specs.Replies.{changed_env, changed_view}
use Rattle.modules.specs.declared.refusal.Refusal.{Refusal}
use Rattle.modules.specs.declared.reply.RequestChanges.{RequestChanges}
use Rattle.requests.specs.RequestViews.{action_view}
use Rattle.requests.specs.Requests.{RequestedAction, switch, unload}
use Rattle.requests.specs.Steps.{RequestStep, request_context_in}
use Rattle.requests.specs.declared.action.Action.{Action}
use Rattle.module_explain.specs.Advised.{Instead, IsFirstSwitch, IsNotAccepted, IsRefused, NoSwitch}
use Rattle.module_explain.specs.Explained.{IsAccepted, StepIsDone}
use Rattle.module_explain.specs.Views.{IfBecause, IsNotSaid, IsSaid, IsSwitchOrNone, IsTried}
use Rattle.module_explain.specs.declared.advice.Advice.{Advice}

-- a list that is seen by a view, up to one of its elements, with it, and whole
module _ {A B : Type 0} (view : A → B) (xs : List A) (i : ℕ) (x : A) (below : i < length xs) (is : x ≡ get_or xs i x) where
  pub views_more : map view (take (i + 1) xs) ≡ map view (take i xs) ++ view x ∷ []
  views_more =
      ap (λ (l : List A). map view l) (take_more xs i x below) ∙ (map-append view (take i xs) (get_or xs i x ∷ [])
      ∙ ap (λ (y : A). map view (take i xs) ++ view y ∷ []) (sym is))

  pub views_parted : map view xs ≡ map view (take i xs) ++ view x ∷ map view (drop (i + 1) xs)
  views_parted =
      ap (λ (l : List A). map view l) (sym (take-append-drop i xs) ∙ ap (λ (l : List A). take i xs ++ l) (drop_more xs i x below))
      ∙ (map-append view (take i xs) (get_or xs i x ∷ drop (i + 1) xs)
      ∙ ap (λ (y : A). map view (take i xs) ++ view y ∷ map view (drop (i + 1) xs)) (sym is))

-- what holds of a stop holds of the reason of the file
pub of_file_stop : (f : RunFault) (P : RequestReason → Type 0) → IfSome (stop_of f.stop) (λ stop. P (file_refused (reason_of_file f.file stop)))
    → IfBecause (by_reason file_refused (file_reason_of f)) P
of_file_stop f P h = by (stop_of f.stop) h
  where
    by : (o : Option FileStop) → IfSome o (λ stop. P (file_refused (reason_of_file f.file stop)))
        → IfBecause (by_reason file_refused (option_map (reason_of_file f.file) o)) P
    by None k = tt
    by (Some stop) k = k

-- a cause that isn't given up is a reason
pub reason_of : {R : Type 0} (given_up : Cause R → Bool) → given_up memory ≡ true → given_up device ≡ true → (c : Cause R) (failed : Type 0)
    (P : R → Type 0) → given_up c ≡ false → Applies c failed P → (r : R) × P r
reason_of given_up m d memory failed P is h = absurd (cc)
reason_of given_up m d device failed P is h = absurd (cc)
reason_of given_up m d (because r) failed P is h = (r, h)

-- the same over fewer pairs of maps
module _ (before now : Files → Listings → Type 0) (limits : Limits) (shell : Shell) (e : Environment) (narrows : Narrows before now) where
  pub refused_later : (action : RequestedAction) → IsNotAccepted before limits shell e action → IsNotAccepted now limits shell e action
  refused_later action (inl h) = inl (record { reason = h.reason; refused = λ files listings a. h.refused files listings (narrows files listings a) })
  refused_later action (inr h) =
      inr (record { done = h.done; comes = λ files listings a. h.comes files listings (narrows files listings a); name = h.name; lacks = h.lacks })

  pub no_switch_later : (other : Text) (names : List Text) → NoSwitch before limits shell e other names → NoSwitch now limits shell e other names
  no_switch_later other names h =
      All-weaker (λ (name : Text). IsNotAccepted before limits shell e (switch (Some other) name)) (λ (name : Text). IsNotAccepted now limits shell e (switch (Some other) name))
      (λ name r. refused_later (switch (Some other) name) r) names h

  -- ---- the names in turn

  module _ (other : Text) (names : List (String Global)) (i : ℕ) (name : String Global) (below : i < length names) (is : name ≡ get_or names i name)
      (action : RequestedAction) (switches : action ≡ switch (Some other) (string_bytes name))
      (none : NoSwitch before limits shell e other (map (λ (s : String Global). string_bytes s) (take i names))) where
    -- the switch to one more is refused
    pub one_more : IsNotAccepted now limits shell e action → NoSwitch now limits shell e other (map (λ (s : String Global). string_bytes s) (take (i + 1) names))
    one_more h =
        let Refused : Text → Type 0 = λ name. IsNotAccepted now limits shell e (switch (Some other) name) in
        subst (λ (l : List Text). All Refused l) (sym (views_more (λ (s : String Global). string_bytes s) names i name below is))
        (All-push Refused (map (λ (s : String Global). string_bytes s) (take i names)) (string_bytes name) (no_switch_later other (map (λ (s : String Global). string_bytes s) (take i names)) none)
        (subst (λ (a : RequestedAction). IsNotAccepted now limits shell e a) switches h))

    -- or this is the first that isn't
    pub first_one : IsFirstSwitch now limits shell e other (map (λ (s : String Global). string_bytes s) names) action
    first_one = record {
      before = map (λ (s : String Global). string_bytes s) (take i names);
      name = string_bytes name;
      after = map (λ (s : String Global). string_bytes s) (drop (i + 1) names);
      parted = views_parted (λ (s : String Global). string_bytes s) names i name below is;
      refused = no_switch_later other (map (λ (s : String Global). string_bytes s) (take i names)) none;
      switches = switches;
    }

-- at the end it was all of them
pub none_switched : (agrees : Files → Listings → Type 0) (limits : Limits) (shell : Shell) (e : Environment) (other : Text) (names : List (String Global)) (i : ℕ) → length names ≤ i
    → NoSwitch agrees limits shell e other (map (λ (s : String Global). string_bytes s) (take i names)) → NoSwitch agrees limits shell e other (map (λ (s : String Global). string_bytes s) names)
none_switched agrees limits shell e other names i above h =
    subst (λ (l : List (String Global)). NoSwitch agrees limits shell e other (map (λ (s : String Global). string_bytes s) l)) (take_all i names above) h

-- what was refused, of an answer without advice
pub refused_if : (agrees : Files → Listings → Type 0) (limits : Limits) (shell : Shell) (e : Environment) (action : RequestedAction) (o : Option Advice) → o ≡ None
    → IfNone o (IsNotAccepted agrees limits shell e action) → IsNotAccepted agrees limits shell e action
refused_if agrees limits shell e action o is h = subst (λ (o : Option Advice). IfNone o (IsNotAccepted agrees limits shell e action)) is h

module _ (agrees : Files → Listings → Type 0) (limits : Limits) (shell : Shell) (e : Environment) where
  abbrev pub Answers : Type 0 → RequestedAction → Result RequestChanges Refusal → Type 0
  Answers failed action result = StepAnswersOverTree agrees failed (changed_view e) result (λ files listings.
      RequestStep (request_context_in limits shell files listings) e action)

  -- the step of what a call answers is done, or refused for a reason
  pub done_by : (failed : Type 0) (action : RequestedAction) (result : Result RequestChanges Refusal) (changed : RequestChanges)
      → result ≡ Ok changed → Answers failed action result → StepIsDone agrees limits shell e action
  done_by failed action result changed is h = (changed_view e changed, subst (λ (r : Result RequestChanges Refusal). Answers failed action r) is h)

  pub refused_by : (failed : Type 0) (action : RequestedAction) (result : Result RequestChanges Refusal) (refusal : Refusal)
      → result ≡ Err refusal → is_transient (cause_of refusal) ≡ false → Answers failed action result → IsRefused agrees limits shell e action
  refused_by failed action result refusal is reason h =
      let found = reason_of is_transient refl refl (cause_of refusal) failed _ reason (subst (λ (r : Result RequestChanges Refusal). Answers failed action r) is h) in
      record { reason = found.0; refused = found.1 }

  -- the changes of a request
  abbrev AreExact : Result RequestChanges Refusal → Type 0
  AreExact result = IfOk result (λ changed. AreChanges e (changed_env e changed) (new_values_in changed.changes))

  -- what is said is accepted, and else it isn't
  pub accepted_by : (failed : Type 0) (action : RequestedAction) (result : Result RequestChanges Refusal) (changed : RequestChanges)
      → result ≡ Ok changed → Answers failed action result → AreExact result → IsSaid shell (new_values_in changed.changes) → IsAccepted agrees limits shell e action
  accepted_by failed action result changed is h exact (text, says) = (
    changed_view e changed,
    subst (λ (r : Result RequestChanges Refusal). Answers failed action r) is h,
    (text, record { changes = new_values_in changed.changes; exact = subst AreExact is exact; says = says }),
  )

  pub unsaid_by : (failed : Type 0) (action : RequestedAction) (result : Result RequestChanges Refusal) (changed : RequestChanges)
      → result ≡ Ok changed → Answers failed action result → AreExact result → IsNotSaid shell (new_values_in changed.changes) → IsNotAccepted agrees limits shell e action
  unsaid_by failed action result changed is h exact (name, unsayable) =
      inr (record {
        done = changed_view e changed;
        comes = subst (λ (r : Result RequestChanges Refusal). Answers failed action r) is h;
        name = name;
        lacks = (new_values_in changed.changes, subst AreExact is exact, unsayable);
      })

  -- ---- a conflict

  pub by_switch : (other : Text) (names : List Text) (advice : Advice) → IsSwitchOrNone agrees limits shell e other names (Some advice)
      → Instead agrees limits shell e other names (Some advice)
  by_switch other names advice (action, tried, first) =
      subst (λ (a : Advice). Instead agrees limits shell e other names (Some a)) (sym tried) (inl first)

  by_unload : (other : Text) (names : List Text) (action : Action) → action_view action ≡ unload (other ∷ []) → NoSwitch agrees limits shell e other names
      → (o : Option Advice) → IfSome o (IsTried action) → IfNone o (IsNotAccepted agrees limits shell e (action_view action))
      → Instead agrees limits shell e other names o
  by_unload other names action is none None tried refused =
      (none, subst (λ (a : RequestedAction). IsNotAccepted agrees limits shell e a) is refused)
  by_unload other names action is none (Some advice) tried refused =
      subst (λ (a : Advice). Instead agrees limits shell e other names (Some a)) (sym tried) (inr (none, is))

  pub unloads : (other : Text) (names : List Text) (action : Action) → action_view action ≡ unload (other ∷ []) → NoSwitch agrees limits shell e other names
      → (r : Result (Option Advice) Refusal) → IfOk r (λ o. IfSome o (IsTried action)) → IfOk r (λ o. IfNone o (IsNotAccepted agrees limits shell e (action_view action)))
      → IfOk r (Instead agrees limits shell e other names)
  unloads other names action is none (Ok o) tried refused = by_unload other names action is none o tried refused
  unloads other names action is none (Err refusal) tried refused = tt
