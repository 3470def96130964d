-- All names of an unload or a load.
use Rattle.std.proofs.Common.{◌≡◌, ◌<◌, ◌++◌, true, false, List, [], ◌∷◌, Result, Ok, Err, IfOk, length, refl, string_bytes, arith}
use Rattle.message.specs.Messages.{Text}
use Rattle.envvars.specs.Environment.{Environment}
use Rattle.envvars.specs.Texts.{texts_in}
use Rattle.filetree.specs.Agreement.{Files, Listings, InEachPair}
use Rattle.shelltext.specs.declared.shell.Shell.{Shell}
use Rattle.module_words.specs.function.Moved.{Moved}
use Rattle.module_subcommands.specs.Automated.{LoadStep, LoadsAutomatically, UnloadStep, UnloadsAutomatically}
use Rattle.module_subcommands.specs.Changes.{IsAccepted, IsRefusedChange}
use Rattle.module_subcommands.specs.Exchanges.{ExchangesNames, IsBehind, IsWholeLoad, IsWholeLoadBehind, IsWholeUnload, LoadNamesStep, UnloadNamesStep, WholeStep, whole_of}
use Rattle.module_subcommands.specs.declared.changing.Accepted.{Accepted}
use Rattle.module_subcommands.specs.declared.changing.Automated.{Automated}
use Rattle.module_subcommands.specs.declared.exchanging.Whole.{Whole}
use Rattle.module_subcommands.specs.declared.refusal.Refusal.{Refusal}
use Rattle.module_subcommands.proofs.ChangeLemmas.{refusal_wider}

module _ (agrees : Files → Listings → Type 0) (failed : Type 0) (shell : Shell) (e : Environment) where
  pub whole_unload : (moved : Moved) (a : Automated) → moved.0 ≡ true → UnloadsAutomatically agrees shell e moved.1 a → IsWholeUnload agrees shell e moved (whole_of a)
  whole_unload (true, names) a is h = (a, h, (refl, refl))
  whole_unload (false, names) a is h = absurd (cc)

  pub whole_load : (moved : Moved) (a : Automated) → moved.0 ≡ true → 0 < length moved.1 → LoadsAutomatically agrees shell e moved.1 a → IsWholeLoad agrees shell e moved (whole_of a)
  whole_load (true, []) a is some h = absurd (omega arith)
  whole_load (true, name ∷ names) a is some h = (a, h, (refl, refl))
  whole_load (false, names) a is some h = absurd (cc)

  pub unload_refused : (moved : Moved) (refusal : Refusal) → moved.0 ≡ true → IsRefusedChange agrees failed shell e (UnloadStep shell e moved.1) refusal
      → IsRefusedChange agrees failed shell e (UnloadNamesStep shell e moved) refusal
  unload_refused moved refusal is h =
      refusal_wider agrees agrees (λ files listings a. a) failed failed (λ q. q) shell e (UnloadStep shell e moved.1) (UnloadNamesStep shell e moved) (λ files listings o a k. (is, k)) refusal h

  pub load_refused : (moved : Moved) (refusal : Refusal) → moved.0 ≡ true → IsRefusedChange agrees failed shell e (LoadStep shell e moved.1) refusal
      → IsRefusedChange agrees failed shell e (LoadNamesStep shell e moved) refusal
  load_refused moved refusal is h =
      refusal_wider agrees agrees (λ files listings a. a) failed failed (λ q. q) shell e (LoadStep shell e moved.1) (LoadNamesStep shell e moved) (λ files listings o a k. (is, k)) refusal h

-- the names of a load behind an unload
pub load_behind : (agrees : Files → Listings → Type 0) (shell : Shell) (e : Environment) (unloads : List Text) (moved : Moved) (w : Whole) (behind : Environment) → moved.0 ≡ true
    → InEachPair agrees (λ files listings. IsBehind shell e unloads files listings behind) → IsWholeLoad agrees shell behind moved w → IsWholeLoadBehind agrees shell e unloads moved w
load_behind agrees shell e unloads (true, names) w behind is there h = (behind, there, h)
load_behind agrees shell e unloads (false, names) w behind is there h = absurd (cc)

-- an exchange of all names that two commands come to
pub exchanges_names : (agrees : Files → Listings → Type 0) (shell : Shell) (e : Environment) (first second : Moved) (unloaded loaded : Whole) (r : Result Accepted Refusal)
    → IsWholeUnload agrees shell e first unloaded → IsWholeLoadBehind agrees shell e (texts_in unloaded.names) second loaded
    → IfOk r (IsAccepted agrees shell e (WholeStep shell e (texts_in unloaded.names) (texts_in loaded.names))) → IfOk r (λ a. string_bytes a.said ≡ string_bytes unloaded.said ++ string_bytes loaded.said)
    → IfOk r (ExchangesNames agrees shell e first second)
exchanges_names agrees shell e first second unloaded loaded (Ok a) unloads loads accepts said = record {
  unloaded = unloaded;
  loaded = loaded;
  unloads_all = unloads;
  loads_all = loads;
  accepts = accepts;
  said = said;
}
exchanges_names agrees shell e first second unloaded loaded (Err refusal) unloads loads accepts said = tt
