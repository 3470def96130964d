-- What is found in files and directories without what is hidden.
use Rattle.std.proofs.Common.{ℕ, ◌≡◌, ◌≤◌, Bool, true, List, [], length, Option, Result, Ok, Err, IfOk, arith, inl, refl}
use Rattle.std.proofs.lemmas.List.Elements.{All-nil}
use Rattle.message.specs.Messages.{Text}
use Rattle.filetree.specs.Agreement.{Files, Listings, InEachPair}
use Rattle.filetree.specs.hiding.Hidden.{AllFailed, AreApart, MayAgreeWithout}
use Rattle.filetree.proofs.hiding.HidingLemmas.{in_whole_pairs}
use Rattle.search.specs.DefaultFiles.{DefaultFileResult}
use Rattle.module_reports.specs.listings.Finding.{FindsReadable, FindsWithout, IsOneFound}

-- an answer over the pairs that may be left is one over the whole pairs, taken without what is hidden
pub found_without : {E : Type 0} (result : Result Bool E) (results : Text → Text → Option DefaultFileResult → Type 0) (paths seen : List Text) (agrees : Files → Listings → Type 0) (has_failed : Text → Bool) (count : ℕ) (modulepath : Text) (names : List Text)
    → AreApart paths seen → AllFailed has_failed paths → length paths ≤ count
    → IfOk result (λ found. InEachPair (MayAgreeWithout paths seen agrees) (λ files folders. IsOneFound results files folders modulepath names found))
    → IfOk result (FindsWithout results agrees has_failed count modulepath names)
found_without (Ok found) results paths seen agrees has_failed count modulepath names apart failed few h = record {
  unreadable = paths;
  failed = failed;
  counted = few;
  finds = in_whole_pairs paths seen agrees (λ files folders. IsOneFound results files folders modulepath names found) apart h;
}
found_without (Err e) results paths seen agrees has_failed count modulepath names apart failed few h = tt

-- an answer over the whole pairs leaves nothing out
pub found_whole : {E : Type 0} (result : Result Bool E) (results : Text → Text → Option DefaultFileResult → Type 0) (agrees : Files → Listings → Type 0) (has_failed : Text → Bool) (before now : ℕ) (modulepath : Text) (names : List Text)
    → IfOk result (λ found. InEachPair agrees (λ files folders. IsOneFound results files folders modulepath names found))
    → IfOk result (FindsReadable results agrees has_failed before now modulepath names)
found_whole (Ok found) results agrees has_failed before now modulepath names h = record {
  finds = record { unreadable = []; failed = All-nil (λ path. has_failed path ≡ true); counted = omega arith; finds = h };
  found = inl refl;
  cause = inl refl;
}
found_whole (Err e) results agrees has_failed before now modulepath names h = tt
