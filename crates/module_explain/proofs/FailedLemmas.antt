-- The path that a watched tree has kept, by what a call over it answers.
use Rattle.std.proofs.Common.{⊎_elim, ◌≡◌, ℕ, Bool, true, false, List, [], ◌∷◌, ◌++◌, map, String, string_bytes, vec_items, Option, Some, None, option_to_list, Result, Ok, Err, refl, sym, ap, subst, ◌∙◌, inl, inr, IfOk}
use Rattle.std.specs.Prelude.{IfErr, IfNone, IfSome, bytes_eq}
use Rattle.std.specs.List.{All, list_any}
use Rattle.std.specs.declared.vec.Vec.{Vec}
use Rattle.std.specs.declared.alloc.AllocError.{AllocError}
use Rattle.std.proofs.lemmas.Bool.{false≢true}
use Rattle.std.proofs.lemmas.List.Elements.{All-pop}
use Rattle.std.specs.declared.alloc.Global.{Global}
use Rattle.filetree.specs.Agreement.{FailsAt, FailsIf, Files, Listings}
use Rattle.filetree.proofs.CachedAnswers.{map_end, one_more}
use Rattle.filetree.specs.Causes.{Applies, Cause, memory, device, because}
use Rattle.modules.specs.Answers.{cause_of, is_failure, is_of_device}
use Rattle.modules.specs.declared.refusal.Refusal.{Refusal}
use Rattle.requests.specs.Reasons.{RequestReason}
use Rattle.envvars.specs.Environment.{Environment}
use Rattle.modules.specs.declared.reply.RequestChanges.{RequestChanges}
use Rattle.requests.specs.Requests.{RequestedAction}
use Rattle.shelltext.specs.declared.shell.Shell.{Shell}
use Rattle.tclrules.specs.declared.limits.Limits.{Limits}
use Rattle.modules.specs.transient_failures.Causes.{is_transient}
use Rattle.module_explain.specs.FailedPaths.{IsAnswer, IsLookedAt, is_kept}
use Rattle.module_explain.proofs.AdviceLemmas.{Answers, done_by, refused_by}

-- the path that was kept last is kept
last_kept : (kept : Vec (String Global) Global) (older : List (String Global)) (path : String Global) → vec_items kept ≡ older ++ path ∷ [] → is_kept kept (string_bytes path) ≡ true
last_kept kept older path items =
    ap (λ (l : List (String Global)). list_any (bytes_eq (string_bytes path)) (map string_bytes l)) items
    ∙ (ap (list_any (bytes_eq (string_bytes path))) (map_end string_bytes older path)
    ∙ (one_more (map string_bytes older) (string_bytes path)).here)

-- what is kept, where nothing was before, has failed
module _ (kept : Vec (String Global) Global) (older : List (String Global)) (path : String Global) (items : vec_items kept ≡ older ++ path ∷ []) (before now : List ℕ → Bool)
    (old : (p : List ℕ) → before p ≡ false) (new : (p : List ℕ) → now p ≡ is_kept kept p) where
  at_path : now (string_bytes path) ≡ true
  at_path = new (string_bytes path) ∙ last_kept kept older path items

  not_same : now ≡ before → ⊥
  not_same e = false≢true (sym (old (string_bytes path)) ∙ (ap (λ (f : List ℕ → Bool). f (string_bytes path)) (sym e) ∙ at_path))

  by_test : (t : Bool) (Where : List ℕ → Type 0) → FailsIf t before now Where → (t ≡ true) × Where (string_bytes path)
  by_test false Where h = absurd (not_same h)
  by_test true Where h =
      let same : string_bytes path ≡ h.0 = ⊎_elim (λ was. absurd (false≢true (sym (old (string_bytes path)) ∙ was))) (λ e. e) (h.1.alone (string_bytes path) at_path) in
      (refl, subst Where (sym same) h.2)

  -- the call failed by the device, at this path
  pub failed_there : {X : Type 0} (r : Result X Refusal) (Where : List ℕ → Type 0) → FailsAt is_failure before now r Where
      → (refusal : Refusal) × (r ≡ Err refusal) × (is_failure refusal ≡ true) × Where (string_bytes path)
  failed_there (Ok x) Where h = absurd (not_same h)
  failed_there (Err refusal) Where h = let f = by_test (is_failure refusal) Where h in (refusal, refl, f.0, f.1)

device_failed : (c : Cause RequestReason) (failed : Type 0) (P : RequestReason → Type 0) → is_of_device c ≡ true → Applies c failed P → failed
device_failed memory failed P e h = absurd (false≢true e)
device_failed device failed P e h = h
device_failed (because r) failed P e h = absurd (false≢true e)

module _ (agrees : Files → Listings → Type 0) (fails : Type 0) (failed : List ℕ → Bool) (limits : Limits) (shell : Shell) (e : Environment) (action : RequestedAction) where
  -- what is answered of an outcome
  pub answered : (r : Result RequestChanges Refusal) (kept : Vec (String Global) Global) (older : List (String Global)) (last : Option (String Global)) (before now : List ℕ → Bool)
      → vec_items kept ≡ older ++ option_to_list last → ((p : List ℕ) → before p ≡ false) → ((p : List ℕ) → now p ≡ is_kept kept p)
      → FailsAt is_failure before now r (IsLookedAt agrees limits shell e action) → Answers agrees limits shell e fails action r
      → All (λ path. failed path ≡ true) (map string_bytes (vec_items kept))
      → (o : Option (String Global)) → IfSome o (λ path. last ≡ Some path) → IfNone o (IfErr r (λ refusal. is_transient (cause_of refusal) ≡ false))
      → IsAnswer agrees fails failed limits shell e action o
  answered r kept older last before now items old new h over there (Some path) is none =
      let ends : vec_items kept ≡ older ++ path ∷ [] = items ∙ ap (λ (l : Option (String Global)). older ++ option_to_list l) is in
      let f = failed_there kept older path ends before now old new r (IsLookedAt agrees limits shell e action) h in
      let texts = ap (map string_bytes) ends ∙ map_end string_bytes older path in (
        device_failed (cause_of f.0) fails _ f.2 (subst (λ (x : Result RequestChanges Refusal). Answers agrees limits shell e fails action x) f.1 over),
        (All-pop (λ p. failed p ≡ true) (map string_bytes (vec_items kept)) (map string_bytes older) (Some (string_bytes path)) texts there).1,
        f.3,
      )
  answered (Ok changed) kept older last before now items old new h over there None is none = inl (done_by agrees limits shell e fails action (Ok changed) changed refl over)
  answered (Err refusal) kept older last before now items old new h over there None is none = inr (refused_by agrees limits shell e fails action (Err refusal) refusal refl none over)

pub both_ok : (r : Result (Option (String Global)) AllocError) (P Q R : Option (String Global) → Type 0) → IfOk r P → IfOk r Q
    → ((o : Option (String Global)) → P o → Q o → R o) → IfOk r R
both_ok (Ok o) P Q R p q f = f o p q
both_ok (Err x) P Q R p q f = tt
