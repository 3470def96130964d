use Rattle.std.proofs.Common.{◌≡◌, ◌<◌, ◌≤◌, map, string_bytes, String, Global, List, Err, ap, sym, subst, ◌∙◌}
use Rattle.std.proofs.lemmas.List.{length-map}
use Rattle.message.specs.Messages.{Text}
use Rattle.filetree.specs.Agreement.{FailsIf, file_answer, is_device}
use Rattle.filetree.specs.hiding.Hidden.{is_among}
use Rattle.filetree.proofs.hiding.HidingLemmas.{all_failed_too, some_failed_too}
use Rattle.filetree.proofs.hiding.FailingLemmas.{hides_one, is_left, now_hidden, one_left}
use Rattle.filetree.proofs.hiding.hiding.HidingTree.hide_if_failing.Goals as goal

abbrev texts : List (String Global) → List Text
texts l = map (λ (s : String Global). string_bytes s) l

pub invariant_of-self-clause-failed : goal.invariant_of-self-clause-failed
invariant_of-self-clause-failed g c =
    all_failed_too is_device (g.T.Tree.failed c.args.self.now.tree) (g.T.Tree.failed c.read.new.self) c.read.result (λ at. at ≡ c.args.path.now) c.read.ensures.failed
    (texts c.args.self.now.hidden.items) c.args.self.now.failed

pub invariant_of-self-clause-failed_there : goal.invariant_of-self-clause-failed_there
invariant_of-self-clause-failed_there g c =
    some_failed_too is_device (g.T.Tree.failed c.args.self.now.tree) (g.T.Tree.failed c.read.new.self) c.read.result (λ at. at ≡ c.args.path.now) c.read.ensures.failed
    c.args.self.now.failed_at c.args.self.now.failed_there

pub returns-in_default-clause-all : goal.returns-in_default-clause-all
returns-in_default-clause-all g c = λ e.
    is_left c.args.path.now (g.T.Tree.agrees c.read.new.self) (g.T.Tree.failed c.args.self.now.tree) (g.T.Tree.failed c.read.new.self) (texts c.args.self.now.hidden.items)
    (file_answer c.in_default.field-0) c.in_default.ensures.answer c.in_default.ensures.failed

pub returns-in-Ok-clause-hidden : goal.returns-in-Ok-clause-hidden
returns-in-Ok-clause-hidden g c =
    let failures = g.T.Tree.failures in
    let l : failures c.args.self.now.tree < failures c.read.new.self = c.read.ensures.cause.device (subst (λ f. c.read.result ≡ Err f) c.in-Ok.ensures.few.0 c.in-Err.is) in
    hides_one c.args.path.now (failures c.args.self.now.tree) (failures c.hide.new.self.tree) (texts c.args.self.now.hidden.items) (texts c.hide.new.self.hidden.items)
    (subst (λ t. failures c.args.self.now.tree < failures t) (sym c.hide.ensures.tree) l) c.in-Ok.ensures.hidden
    (ap (λ (l : List (String Global)). is_among (texts l) c.args.path.now) (sym c.deref.ensures.value) ∙ (sym c.is_among.ensures ∙ c.if-is_among.false))
    (subst (λ n. n ≤ 1000) (sym (length-map c.hide.new.self.hidden.items (λ (s : String Global). string_bytes s))) c.in-Ok.ensures.few.1)

pub returns-in-Ok-clause-all : goal.returns-in-Ok-clause-all
returns-in-Ok-clause-all g c = λ e.
    let failed = g.T.Tree.failed in
    now_hidden c.args.path.now (g.T.Tree.agrees c.hide.new.self.tree) (failed c.args.self.now.tree) (failed c.hide.new.self.tree) (texts c.args.self.now.hidden.items) (texts c.hide.new.self.hidden.items)
    c.in-Err.fault (ap is_device c.in-Ok.ensures.few.0) c.in-Ok.ensures.hidden
    (subst (λ t. FailsIf (is_device c.in-Err.fault) (failed c.args.self.now.tree) (failed t) (λ at. at ≡ c.args.path.now)) (sym c.hide.ensures.tree) c.in-Err.ensures.failed)

pub returns-in-Err-Device-clause-fewer : goal.returns-in-Err-Device-clause-fewer
returns-in-Err-Device-clause-fewer g c = λ e.
    let failures = g.T.Tree.failures in
    let is = c.in-Err-Device.ensures.fault c.in-Err-Device.field-0-is in
    let l : failures c.args.self.now.tree < failures c.read.new.self = c.read.ensures.cause.device (subst (λ f. c.read.result ≡ Err f) is c.in-Err.is) in
    one_left failures g.T.Tree.failed c.args.self.now.tree c.read.new.self c.hide.new.self.tree c.args.path.now c.args.self.now.hidden.items c.hide.new.self.hidden.items c.args.self.now.seen.items
    c.in-Err.fault l c.in-Err.ensures.failed is c.hide.ensures.tree c.in-Err-Device.ensures.kept
    (ap (λ (l : List (String Global)). is_among (texts l) c.args.path.now) (sym c.deref.ensures.value) ∙ (sym c.is_among.ensures ∙ c.if-is_among.false)) c.requires
    (c.in-Err-Device.ensures.many c.in-Err-Device.field-0-is)
