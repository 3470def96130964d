use Rattle.std.proofs.Common.{◌≡◌, Some, sym, ap, ◌∙◌}
use Rattle.std.specs.HashMap.{get_by_text}
use Rattle.std.specs.Option.{option_copied}
use Rattle.filetree.proofs.disk.DiskTreeTree.may_list.Goals as goal

pub returns-in-Some : goal.returns-in-Some
returns-in-Some g c e files listings h =
    let had : get_by_text c.args.self.now.known c.args.path.now ≡ Some c.in-Some.known.now = sym c.get.ensures.value ∙ ap option_copied c.in-Some.is in
    c.is_directory.ensures e (listings c.args.path.now) (h c.args.path.now c.in-Some.known.now had).1
