-- The number of want of memory.
use Rattle.std.proofs.Common.{◌≡◌, ℕ, true, [], ◌∷◌, Result, Ok, Err, IfErr, refl}
use Rattle.std.specs.Prelude.{◌==◌}
use Rattle.std.specs.List.{list_any}
use Rattle.modulefile_run.specs.declared.run_stop.RunStop.{RunStop}
use Rattle.modulefile_run.specs.declared.run_stop.RunStop.TheVariants.{OutOfMemory, Eval, BadArguments, BadRecord}
use Rattle.requests.specs.Requests.{RequestedAction, load, unload, switch, purge, list, avail, show, whatis}
use Rattle.modules.specs.Messages.{MemoryNumberAmong, memory_number, memory_numbers, run_memory_number}
use Rattle.modules.specs.declared.refusal.Refusal.{Refusal}
use Rattle.modules.specs.declared.refusal.Refusal.TheVariants as refusals

-- of a file
of_run : (fault : RunStop) (P : ℕ → Type 0) → P 11 → P 31 → P (run_memory_number fault)
of_run OutOfMemory P evaluation own = own
of_run (Eval fault) P evaluation own = evaluation
of_run BadArguments P evaluation own = own
of_run (BadRecord fault) P evaluation own = own

-- what holds of the three numbers holds of it
pub of_three : (refusal : Refusal) (P : ℕ → Type 0) → P 11 → P 31 → P 41 → P (memory_number refusal)
of_three refusals.OutOfMemory P evaluation own search = own
of_three (refusals.Run refused) P evaluation own search = of_run refused.stop P evaluation own
of_three (refusals.Find fault) P evaluation own search = search
of_three (refusals.Env fault) P evaluation own search = own
of_three refusals.BadArguments P evaluation own search = own
of_three (refusals.UnknownSubcommand word) P evaluation own search = own
of_three (refusals.ConflictWith name) P evaluation own search = own
of_three (refusals.PrereqMissing missing) P evaluation own search = own
of_three (refusals.StillNeededBy name) P evaluation own search = own
of_three (refusals.FileGone path) P evaluation own search = own
of_three (refusals.NotAModulefile path) P evaluation own search = own

-- where files are searched for and evaluated, each of them can be
pub wants_any : {X : Type 0} (r : Result X Refusal) → IfErr r (MemoryNumberAmong (11 ∷ 31 ∷ 41 ∷ []))
wants_any (Ok x) = tt
wants_any (Err refusal) = of_three refusal (λ n. list_any (λ m. m == n) (11 ∷ 31 ∷ 41 ∷ []) ≡ true) refl refl refl

-- each request can want memory of its own
pub own_number : (asked : RequestedAction) → list_any (λ n. n == 31) (memory_numbers asked) ≡ true
own_number (load names) = refl
own_number (unload names) = refl
own_number (switch old new) = refl
own_number purge = refl
own_number list = refl
own_number (avail texts) = refl
own_number (show names) = refl
own_number (whatis names) = refl
