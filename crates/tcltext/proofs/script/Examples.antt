-- Rows of scripts with their trees and faults, by computation.
use Rattle.std.proofs.Common.{◌≡◌, [], ◌∷◌, Err, refl}
use Rattle.tcltext.specs.declared.chars.fault.Fault.TheVariants.{JoinedToClose}
use Rattle.tcltext.specs.chars.Braces.{braced_at}
use Rattle.tcltext.specs.script.ScanState.{scan}
use Rattle.tcltext.specs.script.Reading.{whole_script, script_with, command_at, word_at, unexpanded_word_at, braced_word_at}
use Rattle.tcltext.specs.script.Reading.{quoted_word_at, parts_with, part_at, dollar_at, backslash_at, bracket_at, index_at}
use Rattle.tcltext.specs.script.Reading.{braced_name_at, after_expansion, inner_at}

-- set a {b}c
joined : whole_script 200 (115 ∷ (101 ∷ (116 ∷ (32 ∷ (97 ∷ (32 ∷ (123 ∷ (98 ∷ (125 ∷ (99 ∷ [])))))))))) ≡ Err (JoinedToClose 1)
unfolding braced_at whole_script script_with command_at word_at unexpanded_word_at braced_word_at quoted_word_at
    parts_with part_at dollar_at backslash_at bracket_at index_at braced_name_at after_expansion inner_at scan
joined = refl
