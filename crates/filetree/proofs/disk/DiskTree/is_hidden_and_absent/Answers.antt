use Rattle.std.proofs.Common.{◌≡◌, Some, sym, ap, ◌∙◌}
use Rattle.std.proofs.Math.Logic.{∥∥₁_map}
use Rattle.std.specs.HashMap.{get_by_text}
use Rattle.std.specs.Option.{option_copied}
use Rattle.filetree.proofs.CachedAnswers.{lacks_there}
use Rattle.filetree.proofs.disk.DiskTree.is_hidden_and_absent.Goals as goal

pub returns-in-Some-get : goal.returns-in-Some-get
returns-in-Some-get g c e =
    let dir = c.in-Some.dir.now in
    let listing = c.in-Some-get.listing.now in
    let had : get_by_text c.args.self.now.known dir ≡ Some listing = sym c.get.ensures.value ∙ ap option_copied c.in-Some-get.is in
    ∥∥₁_map c.args.self.now.answered
    (λ all. lacks_there (g.S.System.answers c.args.self.now.system) dir c.in-Some.name.now c.args.path.now listing c.in-Some.ensures (all dir listing had) (sym c.lacks_hidden.ensures ∙ e))
