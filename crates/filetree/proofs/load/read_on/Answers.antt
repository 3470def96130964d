use Rattle.std.proofs.Common.{◌≡◌, string_bytes, sym, ◌∙◌}
use Rattle.std.proofs.Math.Logic.{∥∥₁_map}
use Rattle.std.proofs.lemmas.Slice.Eq.{bytes_eq-Decides}
use Rattle.filetree.specs.Systems.{IsFault}
use Rattle.filetree.proofs.BegunFiles.{each_fault, fault_of_begun, whole_file}
use Rattle.filetree.proofs.load.read_on.Goals as goal

pub returns-in_err-whole-clause-fault : goal.returns-in_err-whole-clause-fault
returns-in_err-whole-clause-fault g c =
    let begun = c.in-Some.begun in
    let path = c.args.path.now in
    let at : string_bytes begun.path ≡ path = (bytes_eq-Decides (string_bytes begun.path) path).0 (sym c.is_at.ensures ∙ c.if-is_at.true) in
    each_fault c.from_residual.result (λ fault. ∥ IsFault (g.S.System.answers c.args.system.now) path fault ∥₁)
    (λ fault. ∥∥₁_map (c.requires.begun begun c.in-Some.is) (fault_of_begun g.S.File.Read.remaining (g.S.System.answers c.args.system.now) begun path fault at c.requires.was))

pub returns-then-is_at-clause-bytes : goal.returns-then-is_at-clause-bytes
returns-then-is_at-clause-bytes g c =
    let begun = c.in-Some.begun in
    let path = c.args.path.now in
    let at : string_bytes begun.path ≡ path = (bytes_eq-Decides (string_bytes begun.path) path).0 (sym c.is_at.ensures ∙ c.if-is_at.true) in
    ∥∥₁_map (c.requires.begun begun c.in-Some.is) (whole_file g.S.File.Read.remaining (g.S.System.answers c.args.system.now) begun path c.in_ok-whole.field-0.items at c.in_ok-whole.ensures)
