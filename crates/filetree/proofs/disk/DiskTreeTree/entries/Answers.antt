use Rattle.std.proofs.Common.{◌≡◌, Some, sym, ap, ◌∙◌}
use Rattle.std.proofs.lemmas.Result.{IfOk-weaker}
use Rattle.std.specs.HashMap.{get_by_text}
use Rattle.std.specs.Option.{option_copied}
use Rattle.filetree.specs.Known.{SaysNoLess}
use Rattle.filetree.specs.declared.known.KnownPath.{KnownPath}
use Rattle.filetree.specs.declared.known.KnownPath.TheVariants.{Directory}
use Rattle.filetree.proofs.CachedAnswers.{of_some}
use Rattle.filetree.proofs.WasThere.{directory_known}
use Rattle.filetree.proofs.disk.DiskTreeTree.entries.Goals as goal

pub load_names-loaded-requires : goal.load_names-loaded-requires
load_names-loaded-requires g c =
    let tree = c.args.self.now in
    let had : get_by_text tree.known c.args.dir.now ≡ Some Directory = sym c.get.ensures.value ∙ (ap option_copied c.in-Some-Directory.is ∙ ap Some c.in-Some-Directory.field-0-is) in
    directory_known (g.S.System.answers tree.system) tree.known c.args.dir.now had tree.answered

pub answer_listing-requires-in-Some-Directory-clause-later : goal.answer_listing-requires-in-Some-Directory-clause-later
answer_listing-requires-in-Some-Directory-clause-later g c =
    let there = get_by_text c.args.self.now.known c.args.dir.now in
    let had : there ≡ Some Directory = sym c.get.ensures.value ∙ (ap option_copied c.in-Some-Directory.is ∙ ap Some c.in-Some-Directory.field-0-is) in
    IfOk-weaker c.load_names-loaded.result (λ known. SaysNoLess known Directory)
    (λ known. (earlier : KnownPath) → there ≡ Some earlier → SaysNoLess known earlier)
    (λ known less earlier e. of_some (SaysNoLess known) there Directory earlier had e less)
    c.load_names-loaded.ensures.directory

pub returns-in_ok-names-in-Some-clause-answer : goal.returns-in_ok-names-in-Some-clause-answer
returns-in_ok-names-in-Some-clause-answer g c files listings h =
    let had : get_by_text c.args.self.now.known c.args.dir.now ≡ Some c.in-Some.known.now = sym c.get.ensures.value ∙ ap option_copied c.in-Some.is in
    c.in_ok-names-in-Some.ensures (listings c.args.dir.now) (h c.args.dir.now c.in-Some.known.now had).1
