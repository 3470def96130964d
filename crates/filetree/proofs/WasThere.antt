-- What was there, by a look and by what is known of it.
use Rattle.std.proofs.Common.{◌≡◌, ℕ, List, Some, Ok, subst, inl}
use Rattle.std.proofs.Math.Logic.{∥∥₁_elim, ∥∥₁_map, ∥∥₁_prop}
use Rattle.std.specs.HashMap as hash
use Rattle.std.specs.HashMap.{HashMap}
use Rattle.std.specs.declared.string.String.{String}
use Rattle.filetree.specs.Systems.{Answers, IsLooked, WasDirectory, WasFile}
use Rattle.filetree.specs.declared.known.KnownPath.{KnownPath}
use Rattle.filetree.specs.declared.known.KnownPath.TheVariants as known
use Rattle.filetree.specs.declared.look.PathKind.{PathKind}
use Rattle.filetree.specs.declared.look.PathKind.TheVariants as path_kinds
use Rattle.filetree.specs.declared.prefix.Prefix.{Prefix}
use Rattle.filetree.proofs.CachedAnswers.{AllAnswered}

-- a look showed it
pub file_looked : (Answered : Answers) (path : List ℕ) (kind : PathKind) → kind ≡ path_kinds.File → IsLooked Answered path (Ok kind)
    → WasFile Answered path
file_looked Answered path kind is look = ∣ subst (λ k. IsLooked Answered path (Ok k)) is look ∣₁

pub directory_looked : (Answered : Answers) (dir : List ℕ) (kind : PathKind) → kind ≡ path_kinds.Directory → IsLooked Answered dir (Ok kind)
    → WasDirectory Answered dir
directory_looked Answered dir kind is look = ∣ inl (subst (λ k. IsLooked Answered dir (Ok k)) is look) ∣₁

-- an answer about it is cached
pub file_known : {Y S : Type 0} (Answered : Answers) (m : HashMap (String Y) KnownPath S) (path : List ℕ) (prefix : Prefix)
    → hash.get_by_text m path ≡ Some (known.File prefix) → ∥ AllAnswered Answered m ∥₁ → WasFile Answered path
file_known Answered m path prefix had all =
    ∥∥₁_elim all ∥∥₁_prop (λ each. (each path (known.File prefix) had).0)

pub directory_known : {Y S : Type 0} (Answered : Answers) (m : HashMap (String Y) KnownPath S) (dir : List ℕ)
    → hash.get_by_text m dir ≡ Some known.Directory → ∥ AllAnswered Answered m ∥₁ → WasDirectory Answered dir
directory_known Answered m dir had all = ∥∥₁_map all (λ each. inl (each dir known.Directory had))
