-- A file that was begun, and is read on.
use Rattle.std.proofs.Common.{◌≡◌, ◌++◌, ℕ, List, Option, None, Some, Result, Ok, Err, string_bytes, sym, subst, ◌∙◌, inr}
use Rattle.std.specs.Prelude.{IfErr, IfSome}
use Rattle.std.specs.Option.{ForSome}
use Rattle.std.specs.Io.Buffered.{reader_remaining}
use Rattle.std.specs.Io.KnownBytes.{Consumes}
use Rattle.filetree.specs.Known.{IsBegun}
use Rattle.filetree.specs.Prefixes.{prefix_bytes}
use Rattle.filetree.specs.Systems.{Answers, IsFault, IsFileThere, WasFile, file}
use Rattle.filetree.specs.declared.begun.OpenFile.{OpenFile}
use Rattle.filetree.specs.declared.tree.TreeFault.{TreeFault}

-- the first bytes and the others are all
whole_there : (there left : Option (List ℕ)) (first bytes : List ℕ) → Consumes there left first → IfSome left (λ rest. bytes ≡ first ++ rest)
    → IfSome there (λ all. bytes ≡ all)
whole_there None left first bytes consumed whole = tt
whole_there (Some all) None first bytes consumed whole = absurd consumed
whole_there (Some all) (Some rest) first bytes consumed whole = whole ∙ sym consumed

pub whole_file : {F : Type 0} (remaining : F → Option (List ℕ)) (Answered : Answers) (begun : OpenFile F) (path bytes : List ℕ) → string_bytes begun.path ≡ path
    → IfSome (reader_remaining remaining begun.rest) (λ left. bytes ≡ prefix_bytes begun.prefix ++ left) → IsBegun remaining Answered begun → IsFileThere Answered path bytes
whole_file remaining Answered begun path bytes at whole (there, opened, consumed) =
    (there, subst (λ p. Answered p (file (Ok there))) at opened, whole_there there (reader_remaining remaining begun.rest) (prefix_bytes begun.prefix) bytes consumed whole)

-- reading it on can fail by any fault
pub fault_of_begun : {F : Type 0} (remaining : F → Option (List ℕ)) (Answered : Answers) (begun : OpenFile F) (path : List ℕ) (fault : TreeFault) → string_bytes begun.path ≡ path
    → WasFile Answered path → IsBegun remaining Answered begun → IsFault Answered path fault
fault_of_begun remaining Answered begun path fault at was (there, opened, consumed) =
    inr (file (Ok there), subst (λ p. Answered p (file (Ok there))) at opened, (was, tt))

-- as can reading what was opened
pub fault_of_there : (Answered : Answers) (path bytes : List ℕ) (fault : TreeFault) → WasFile Answered path → IsFileThere Answered path bytes → IsFault Answered path fault
fault_of_there Answered path bytes fault was (there, opened, all) = inr (file (Ok there), opened, (was, tt))

pub each_fault : {X E : Type 0} (result : Result X E) (P : E → Type 0) → ((e : E) → P e) → IfErr result P
each_fault (Ok x) P h = tt
each_fault (Err e) P h = h e

-- by cases, and as a fact
for_some : {X : Type 0} (there : Option X) (P : X → Type 0) → IfSome there P → ForSome there (λ x. ∥ P x ∥₁)
for_some {X = X} None P h x e = absurd (no e)
  where
    no : ◌≡◌ {A = Option X} None (Some x) → ⊥
    no q = cc
for_some (Some y) P h x e = let same : y ≡ x = cc in ∣ subst P same h ∣₁

pub begun_too : {F : Type 0} (remaining : F → Option (List ℕ)) (Answered : Answers) (there : Option (OpenFile F)) → IfSome there (IsBegun remaining Answered)
    → ForSome there (λ begun. ∥ IsBegun remaining Answered begun ∥₁)
begun_too remaining Answered there h = for_some there (IsBegun remaining Answered) h
