use Rattle.std.proofs.Common.{◌≡◌, Some, sym, ap, ◌∙◌}
use Rattle.std.proofs.lemmas.Result.{IfOk-weaker}
use Rattle.std.specs.HashMap.{get_by_text}
use Rattle.std.specs.Option.{option_copied}
use Rattle.filetree.specs.Known.{SaysNoLess}
use Rattle.filetree.specs.declared.known.KnownPath.{KnownPath}
use Rattle.filetree.specs.declared.known.KnownPath.TheVariants.{File}
use Rattle.filetree.proofs.CachedAnswers.{of_some}
use Rattle.filetree.proofs.WasThere.{file_known}
use Rattle.filetree.proofs.disk.DiskTreeTree.read.Goals as goal

pub load_rest-loaded-requires-clause-was : goal.load_rest-loaded-requires-clause-was
load_rest-loaded-requires-clause-was g c =
    let tree = c.args.self.now in
    let had : get_by_text tree.known c.args.path.now ≡ Some (File c.in-Some-File.prefix) = sym c.get.ensures.value ∙ (ap option_copied c.in-Some-File.is ∙ ap Some c.in-Some-File.field-0-is) in
    file_known (g.S.System.answers tree.system) tree.known c.args.path.now c.in-Some-File.prefix had tree.answered

pub answer_file-requires-in-Some-File-clause-later : goal.answer_file-requires-in-Some-File-clause-later
answer_file-requires-in-Some-File-clause-later g c =
    let there = get_by_text c.args.self.now.known c.args.path.now in
    let had : there ≡ Some (File c.in-Some-File.prefix) = sym c.get.ensures.value ∙ (ap option_copied c.in-Some-File.is ∙ ap Some c.in-Some-File.field-0-is) in
    IfOk-weaker c.load_rest-loaded.result (λ known. SaysNoLess known (File c.in-Some-File.prefix))
    (λ known. (earlier : KnownPath) → there ≡ Some earlier → SaysNoLess known earlier)
    (λ known less earlier e. of_some (SaysNoLess known) there (File c.in-Some-File.prefix) earlier had e less)
    c.load_rest-loaded.ensures.same_prefix

pub returns-in_ok-file-in-Some-clause-answer : goal.returns-in_ok-file-in-Some-clause-answer
returns-in_ok-file-in-Some-clause-answer g c files listings h =
    let had : get_by_text c.args.self.now.known c.args.path.now ≡ Some c.in-Some.known.now = sym c.get.ensures.value ∙ ap option_copied c.in-Some.is in
    c.in_ok-file-in-Some.ensures (files c.args.path.now) (h c.args.path.now c.in-Some.known.now had).0
