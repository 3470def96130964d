-- Edits of path variables, put together from their parts.
use Rattle.std.proofs.Common.{◌≡◌, Bool, true, false, ℕ, List, refl, sym, ap, ◌∙◌, subst, Option, Some, None, Result}
use Rattle.std.proofs.Common.{Ok, Err, string_bytes}
use Rattle.std.specs.Prelude.{if◌then◌else◌}
use Rattle.std.specs.Option.{option_map, IfSome}
use Rattle.std.specs.Result.{OnOk, OnErr, IfErr}
use Rattle.envvars.specs.Texts.{Text}
use Rattle.envvars.specs.Names.{share_name}
use Rattle.envvars.specs.Environment.{Environment, lookup, with_value}
use Rattle.envstate.specs.paths.Paths.{PathState, add_all, drop_all}
use Rattle.envstate.specs.paths.PathTexts.{state_of, elements_text}
use Rattle.envstate.specs.paths.PathVariables.{path_in, with_path, path_reason, counters_fit, written_path, added_path}
use Rattle.envstate.specs.paths.PathVariables.{dropped_path}
use Rattle.envstate.specs.paths.PathEdits.{AreTexts, IsFull}
use Rattle.envvars.specs.Reasons.{EnvReason, reason_of, counter_full, unless, Edits}
use Rattle.envvars.specs.declared.fault.EnvFault.{EnvFault}
use Rattle.envvars.specs.declared.fault.EnvFault.TheVariants.{OutOfMemory}
use Rattle.envstate.specs.declared.paths.path.PathTexts.{PathTexts}
use Rattle.envstate.specs.declared.paths.adding.End.{End}

-- the state of the two texts that were looked up
pub looked_up : (e : Environment) (name share : Text) (delim : ℕ) (t u : Option Text) → t ≡ lookup e name → u ≡ lookup e share → share ≡ share_name name → state_of delim t u ≡ path_in e name delim
looked_up e name share delim t u a b s = ap (λ x. state_of delim x u) a ∙ ap (state_of delim (lookup e name)) (b ∙ ap (lookup e) s)

no_cause : (e : EnvFault) (P : EnvReason → Type 0) → e ≡ OutOfMemory → IfSome (reason_of e) P
no_cause e P h = subst (λ (f : EnvFault). IfSome (reason_of f) P) (sym h) tt

written : (old new : Environment) (name : Text) (delim : ℕ) (texts : PathTexts) (s : PathState) → AreTexts texts delim s
    → new ≡ with_value (with_value old name (option_map string_bytes texts.elements)) (share_name name) (option_map string_bytes texts.counters) → with_path old name delim s ≡ new
written old new name delim texts s a h =
    sym (h ∙ ap (λ t. with_value (with_value old name t) (share_name name) (option_map string_bytes texts.counters)) a.elements
    ∙ ap (with_value (with_value old name (elements_text delim s.elements)) (share_name name)) a.counters)

abbrev if_fits : Environment → Text → ℕ → PathState → Bool → Result Environment EnvReason
if_fits old name delim s b = if b then Ok (with_path old name delim s) else Err (counter_full name)

abbrev accepted : Environment → Result Environment EnvReason
accepted e = Ok e

pub add_edits : (r : Result (Unit {0}) EnvFault) (old new : Environment) (name : Text) (delim : ℕ) (xs : List Text)
    (end : End) (texts : PathTexts) (s : PathState) → path_reason name delim xs ≡ None → s ≡ path_in old name delim
    → counters_fit (add_all s xs end) ≡ true → AreTexts texts delim (add_all s xs end)
    → OnOk r (new ≡ with_value (with_value old name (option_map string_bytes texts.elements)) (share_name name)
    (option_map string_bytes texts.counters)) → OnErr r (new ≡ old) → IfErr r (λ e. e ≡ OutOfMemory)
    → Edits r old new (added_path old name delim xs end)
add_edits (Ok u) old new name delim xs end texts s p e f a ok err only =
    ap (λ o. unless o (written_path old name delim (add_all (path_in old name delim) xs end))) p ∙ ap (λ (t : PathState). written_path old name delim (add_all t xs end)) (sym e)
    ∙ ap (λ (b : Bool). if_fits old name delim (add_all s xs end) b) f ∙ ap accepted (written old new name delim texts (add_all s xs end) a ok)
add_edits (Err e) old new name delim xs end texts s p q f a ok err only = (err, no_cause e _ only)

pub add_refused : (e : EnvFault) (old : Environment) (name : Text) (delim : ℕ) (xs : List Text) (end : End)
    (s : PathState) → path_reason name delim xs ≡ None → s ≡ path_in old name delim → IsFull e name (add_all s xs end)
    → (old ≡ old) × IfSome (reason_of e) (λ r. added_path old name delim xs end ≡ Err r)
add_refused e old name delim xs end s p q f = (refl, each (reason_of e) f)
  where
    each : (o : Option EnvReason) → IfSome o (λ r. (r ≡ counter_full name) × (counters_fit (add_all s xs end) ≡ false)) → IfSome o (λ r. added_path old name delim xs end ≡ Err r)
    each None h = h
    each (Some r) h =
        ap (λ o. unless o (written_path old name delim (add_all (path_in old name delim) xs end))) p ∙ ap (λ (t : PathState). written_path old name delim (add_all t xs end)) (sym q)
        ∙ ap (λ (b : Bool). if_fits old name delim (add_all s xs end) b) h.1 ∙ ap Err (sym h.0)

pub drop_edits : (r : Result (Unit {0}) EnvFault) (old new : Environment) (name : Text) (delim : ℕ) (xs : List Text)
    (texts : PathTexts) (s : PathState) → path_reason name delim xs ≡ None → s ≡ path_in old name delim
    → AreTexts texts delim (drop_all s xs)
    → OnOk r (new ≡ with_value (with_value old name (option_map string_bytes texts.elements)) (share_name name)
    (option_map string_bytes texts.counters)) → OnErr r (new ≡ old) → IfErr r (λ e. e ≡ OutOfMemory)
    → Edits r old new (dropped_path old name delim xs)
drop_edits (Ok u) old new name delim xs texts s p e a ok err only =
    ap (λ o. unless o (accepted (with_path old name delim (drop_all (path_in old name delim) xs)))) p ∙ ap (λ (t : PathState). accepted (with_path old name delim (drop_all t xs))) (sym e)
    ∙ ap accepted (written old new name delim texts (drop_all s xs) a ok)
drop_edits (Err e) old new name delim xs texts s p q a ok err only = (err, no_cause e _ only)
