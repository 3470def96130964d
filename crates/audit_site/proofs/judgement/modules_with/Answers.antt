use Rattle.std.proofs.Common.{◌≡◌, List, [], length, append-nil, rules, subst, sym}
use Rattle.std.proofs.lemmas.List.{nil_from_length}
use Rattle.std.specs.Vec.Iter.{into_iter_items}
use Rattle.audit_site.specs.declared.judgement.JudgedModule.{JudgedModule}
use Rattle.audit_site.specs.Findings.{AreModulesWith}
use Rattle.audit_site.proofs.judgement.modules_with.Goals as goal

pub returns : goal.returns
returns c =
    let answers = into_iter_items c.loop-one.answers in
    let beside = into_iter_items c.loop-one.beside in
    let none : length (into_iter_items c.loop-one.one-iterator) ≡ 0 = search rules in
    subst (AreModulesWith c.args.judged.items c.args.answers.items c.args.beside.items) (append-nil c.loop-one.modules.items)
    (c.loop-one.invariant [] (subst (λ (js : List JudgedModule). AreModulesWith js answers beside []) (sym (nil_from_length (into_iter_items c.loop-one.one-iterator) none)) tt))
