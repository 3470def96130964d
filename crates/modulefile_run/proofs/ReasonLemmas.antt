-- The reason of a refused file, by how it stopped.
use Rattle.std.proofs.Common.{◌≡◌, ℕ, option_map, Option, Some, None, IfSome, refl}
use Rattle.std.specs.Prelude.{is_none}
use Rattle.modulefile.specs.Files.{FileReason, FileStop, stop_number, file_reason_number}
use Rattle.modulefile_run.specs.Running.{reason_of_file}
use Rattle.modulefile_run.specs.declared.run_fault.RefusedFile.{RefusedFile}

-- it has the number of the stop
pub same_number : (o : Option FileStop) (file : Option RefusedFile) (n : ℕ) → IfSome o (λ stop. n ≡ stop_number stop)
    → IfSome (option_map (reason_of_file file) o) (λ reason. n ≡ file_reason_number reason)
same_number None file n h = tt
same_number (Some stop) file n h = h

-- it is there where a stop is
pub none_alike : (o : Option FileStop) (make : FileStop → FileReason) → is_none o ≡ is_none (option_map make o)
none_alike None make = refl
none_alike (Some stop) make = refl
