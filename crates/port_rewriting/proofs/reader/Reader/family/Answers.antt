use Rattle.std.proofs.Common.{◌≡◌, ◌∙◌, ap, get_or, map, subst, IfSome}
use Rattle.std.specs.Prelude.{Option, String, Vec}
use Rattle.std.specs.declared.alloc.Global.{Global}
use Rattle.port_rewriting.specs.AskingViews.{IsOfFamily}
use Rattle.port_rewriting.specs.Families.{ExcludesOthers}
use Rattle.port_rewriting.specs.FamilyViews.{is_in_family}
use Rattle.port_rewriting.specs.RecordViews.{records_view, shown, texts_in}
use Rattle.port_rewriting.proofs.Asking.{asked, nothing, of_family}
use Rattle.port_rewriting.proofs.reader.Reader.family.Goals as goal

pub returns-in_ok-records-in-Some : goal.returns-in_ok-records-in-Some
returns-in_ok-records-in-Some c =
    let site = c.in-Some-Some-len1.site in
    let file = c.in-Some-Some-len1.file in
    let name = (get_or c.args.words.now 0 nothing).now in
    asked (λ rs. rs ≡ records_view c.as_slice.result.now)
    (IsOfFamily c.args.self.now.given.site c.args.self.now.given.file (map shown c.args.words.now)) c.spell.result
    (λ rs e. of_family c.args.self.now.given.site c.args.self.now.given.file c.args.words.now nothing site file
    c.match-folder_of.module.now c.in-Some.conflicts.items rs c.in-Some-Some-len1.is-0 c.in-Some-Some-len1.is-1
    c.in-Some-Some-len1.len_at_least c.in-Some-Some-len1.len_below
    (e ∙ (ap records_view c.as_slice.ensures.value ∙ c.in_ok-records-in-Some.ensures))
    (subst (λ (found : Option (Vec (String Global) Global)). IfSome found (λ names. ExcludesOthers (is_in_family site.now.members.items name)
    (texts_in site.now.modules) file.name.now names.items)) c.in-Some.is c.in_ok-conflicts.ensures))
    c.spell.ensures
